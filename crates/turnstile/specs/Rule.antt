-- The rule of a turnstile: what holds of its words, its slot and what its seats know, between any
-- two steps. fontc's own. Word 0 is the history's length, word 1 the next ticket, and word 2 the
-- ticket that is served. The one slot has the value.
use Rattle.std.specs.Prelude.{◌≡◌, ◌⊎◌, ℕ, ◌+◌, ◌%◌, ◌^◌, ◌<◌, ◌≤◌, List, [], ◌∷◌, length, Option}
use Rattle.std.specs.Prelude.{Some}
use Rattle.std.specs.List.{sum_by}
use mathlib.Core.Option.{some, none}
use lib.ListN.{get_elem?}
use Rattle.atomic_table.specs.Table.{State}
use Rattle.turnstile.specs.Entries.{entries_of}
use Rattle.turnstile.specs.Members.{times, size, seen_of, AllKnow}
use Rattle.turnstile.specs.Tickets.{HasTicket, tickets, IsServed, IsInLine}
use Rattle.turnstile.specs.declared.knowledge.Knowledge.{Knowledge}

-- how many tickets a seat has out
abbrev pub held : {E T : Type 0} → Knowledge E T → ℕ
held v = tickets v.stage

module _ {E T : Type 0} where
  -- what a seat knows fits the history and the tickets; a seat with a ticket is the seat of one
  -- pass
  pub record Agrees (history : List (ℕ × E)) (origin : T) (served next : ℕ) (v : Knowledge E T)
      : Type 0 where
    pub members : AllKnow history origin v.members
    pub in_line : IsInLine served next v.stage
    pub alone : held v ≡ 1 → size v ≡ 1

  -- a seat has a ticket that no other has
  abbrev pub TicketsDiffer : List (Knowledge E T) → Type 0
  TicketsDiffer views =
      (i j : ℕ) (v w : Knowledge E T) (ticket : ℕ)
      → get_elem? views i ≡ some v → get_elem? views j ≡ some w → HasTicket v.stage ticket
      → HasTicket w.stage ticket → i ≡ j

module _ {B E T : Type 0} (entries : B → List (ℕ × E)) (root : B → T) where
  -- no ticket is served: the slot is at home, and its value has the history as its list, and the
  -- root of the start
  pub record IsHome (history : List (ℕ × E)) (origin : T) (s : State (Option B) (Knowledge E T))
      : Type 0 where
    pub value : B
    pub home : s.homes ≡ some (Some value) ∷ []
    pub list : entries value ≡ history
    pub same_root : root value ≡ origin
    pub nobody : (j : ℕ) (v : Knowledge E T) → get_elem? s.views j ≡ some v → IsServed v.stage → ⊥

  -- a seat's ticket is served: the slot is out, and the history is what the seat has seen
  pub record IsOut (history : List (ℕ × E)) (s : State (Option B) (Knowledge E T)) : Type 0 where
    pub seat : ℕ
    pub view : Knowledge E T
    pub there : get_elem? s.views seat ≡ some view
    pub served : IsServed view.stage
    pub seen : seen_of view.members ≡ history
    pub away : s.homes ≡ none ∷ []

  module _ (passes : ℕ) (origin : T) where
    pub record Kept (s : State (Option B) (Knowledge E T)) : Type 0 where
      pub history : List (ℕ × E)
      pub served : ℕ
      pub next : ℕ
      -- the words
      pub words : s.words ≡ length history ∷ next % 2 ^ 64 ∷ served % 2 ^ 64 ∷ []
      -- each number is that of one member at most, and less than the number of passes
      pub few : passes < 2 ^ 32
      pub all : sum_by size s.views ≡ passes
      pub once : (k : ℕ) → sum_by (times k) s.views ≤ 1
      pub known : (k : ℕ) → passes ≤ k → sum_by (times k) s.views ≡ 0
      -- as many tickets are out as word 1 is past word 2, and they differ
      pub out : served + sum_by held s.views ≡ next
      pub differ : TicketsDiffer s.views
      -- what each seat knows
      pub each : (j : ℕ) (v : Knowledge E T) → get_elem? s.views j ≡ some v
          → Agrees history origin served next v
      -- where the value is
      pub slot : IsHome history origin s ⊎ IsOut history s
      -- nobody else made an entry
      pub nobody_else : (k : ℕ) → passes ≤ k → entries_of k history ≡ []
