-- Tickets. They are counted from 0 without an end, and a word holds a ticket's remainder modulo
-- 2^64. fontc's own.
use Rattle.std.specs.Prelude.{◌≡◌, ℕ, ◌<◌, ◌≤◌}
use Rattle.turnstile.specs.declared.knowledge.Stage.{Stage}
use Rattle.turnstile.specs.declared.knowledge.Stage.TheVariants.{Away, Waiting, Served, Noted}

-- the seat has this ticket out
abbrev pub HasTicket : Stage → ℕ → Type 0
HasTicket Away ticket = ⊥
HasTicket (Waiting t) ticket = t ≡ ticket
HasTicket (Served t) ticket = t ≡ ticket
HasTicket (Noted t) ticket = t ≡ ticket

-- how many tickets the seat has out
abbrev pub tickets : Stage → ℕ
tickets Away = 0
tickets (Waiting t) = 1
tickets (Served t) = 1
tickets (Noted t) = 1

-- the seat's ticket is served
abbrev pub IsServed : Stage → Type 0
IsServed Away = ⊥
IsServed (Waiting t) = ⊥
IsServed (Served t) = Unit {0}
IsServed (Noted t) = Unit {0}

-- a ticket lies from the one that is served to just before the next; one whose turn it is, is the
-- one that is served
abbrev pub IsInLine : ℕ → ℕ → Stage → Type 0
IsInLine served next Away = Unit {0}
IsInLine served next (Waiting t) = (served ≤ t) × (t < next)
IsInLine served next (Served t) = (t ≡ served) × (t < next)
IsInLine served next (Noted t) = (t ≡ served) × (t < next)
