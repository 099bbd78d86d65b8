-- What each kind of step at a turnstile's table tells the seat that takes it. fontc's own.
use Rattle.std.specs.Prelude.{◌≡◌, ℕ, ◌%◌, ◌^◌, List, [], ◌∷◌, ◌++◌, length, drop, Option, Some}
use Rattle.std.specs.Prelude.{None}
use Rattle.atomic_table.specs.Table.{Me, Step, rest}
use Rattle.turnstile.specs.Entries.{BeginsWith, entries_of, AddsAtMostOne}
use Rattle.turnstile.specs.declared.knowledge.Stage.{Stage}
use Rattle.turnstile.specs.declared.knowledge.Stage.TheVariants.{Away, Waiting, Served, Noted}
use Rattle.turnstile.specs.declared.knowledge.Member.{Member}
use Rattle.turnstile.specs.declared.knowledge.Knowledge.{Knowledge}

module _ {E T : Type 0} where
  -- the seat of one pass
  abbrev pub seat_of : Stage → Member E T → Knowledge E T
  seat_of stage m = record { stage = stage; members = m ∷ [] }

  abbrev pub after_seeing : List (ℕ × E) → Member E T → Member E T
  after_seeing list m = record m { seen = list }

  abbrev pub after_adding : List (ℕ × E) → List (ℕ × E) → Member E T → Member E T
  after_adding list added m = record m { seen = list; mine = m.mine ++ added }

  -- what the list has beyond what was seen was added
  abbrev pub after_leaving : List (ℕ × E) → Member E T → Member E T
  after_leaving list m = after_adding list (drop (length m.seen) list) m

abbrev pub Sat : Type 0 → Type 0 → Type 0 → Type 0
Sat B E T = Me (Option B) (Knowledge E T)

module _ {B E T : Type 0} where
  -- a ticket is drawn, and its remainder is what was found
  abbrev pub drawn : Step (Option B) → Sat B E T → ℕ → Sat B E T → Type 0
  drawn st me found me' =
      (ticket : ℕ)
      × (found ≡ ticket % 2 ^ 64)
      × (me'.0 ≡ record { stage = Waiting ticket; members = me.0.members })
      × (me'.1 ≡ me.1)

  module _ (entries : B → List (ℕ × E)) (root : B → T) where
    -- the slot is taken, and the value's list is seen: it begins with what was seen, and has of the
    -- worker what it made
    pub record Takes (ticket : ℕ) (m : Member E T) (me : Sat B E T) : Type 0 where
      pub value : B
      pub view : me.0 ≡ seat_of (Served ticket) (after_seeing (entries value) m)
      pub slot : me.1 ≡ (0, Some value) ∷ []
      pub begins : BeginsWith (entries value) m.seen
      pub mine : entries_of m.worker (entries value) ≡ m.mine
      pub same_root : root value ≡ m.root

    -- a look at the ticket that is served, while another is waited for
    abbrev pub looked : Step (Option B) → Sat B E T → ℕ → Sat B E T → Type 0
    looked st me found me' =
        (ticket : ℕ) (m : Member E T)
        → me.0 ≡ seat_of (Waiting ticket) m
        → me.1 ≡ []
        → (found ≡ ticket % 2 ^ 64 → Takes ticket m me')
        × ((found ≡ ticket % 2 ^ 64 → ⊥) → me' ≡ me)

  -- the list is seen, and what was added is the worker's own
  abbrev pub noted : List (ℕ × E) → List (ℕ × E) → Step (Option B) → Sat B E T → ℕ → Sat B E T
      → Type 0
  noted list added st me stored me' =
      (ticket : ℕ) (m : Member E T)
      → me.0 ≡ seat_of (Served ticket) m
      → (me'.0 ≡ seat_of (Noted ticket) (after_adding list added m)) × (me'.1 ≡ me.1)

  -- the slot is given back, and the ticket with it, by a seat that has stored the list's length
  abbrev pub gave : Step (Option B) → Sat B E T → ℕ → Sat B E T → Type 0
  gave st me stored me' =
      (ticket : ℕ)
      × (me.0.stage ≡ Noted ticket)
      × (me'.0 ≡ record { stage = Away; members = me.0.members })
      × (me'.1 ≡ rest me.1)

  -- the pass has taken a turn: it has the value, the slot is empty, and the rest as where the slot
  -- is taken
  pub record HasTurn (entries : B → List (ℕ × E)) (root : B → T) (m : Member E T) (ticket : ℕ)
      (value : B) (me : Sat B E T) : Type 0 where
    pub at : ℕ
    pub is_ticket : ticket ≡ at % 2 ^ 64
    pub view : me.0 ≡ seat_of (Served at) (after_seeing (entries value) m)
    pub slot : me.1 ≡ (0, None) ∷ []
    pub begins : BeginsWith (entries value) m.seen
    pub mine : entries_of m.worker (entries value) ≡ m.mine
    pub same_root : root value ≡ m.root

  -- the pass has a turn out, and may end it with this value: its list has at most one entry more,
  -- of this worker, and its root is as it was
  pub record MayLeave (entries : B → List (ℕ × E)) (root : B → T) (m : Member E T) (ticket : ℕ)
      (value : B) (me : Sat B E T) : Type 0 where
    pub at : ℕ
    pub is_ticket : ticket ≡ at % 2 ^ 64
    pub view : me.0 ≡ seat_of (Served at) m
    pub slot : me.1 ≡ (0, None) ∷ []
    pub list : AddsAtMostOne m.worker m.seen (entries value)
    pub same_root : root value ≡ m.root
