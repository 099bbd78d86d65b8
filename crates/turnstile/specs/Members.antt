-- What the seats at a turnstile's table know of the history, and how it is given out and taken in.
-- fontc's own. A seat has members: one for a pass, all of them for the first seat and for the last,
-- and none once it was joined.
use Rattle.std.specs.Prelude.{◌≡◌, ℕ, zero, suc, ◌+◌, nat_eq, count_by, List, [], ◌∷◌, ◌++◌, length}
use Rattle.turnstile.specs.Entries.{BeginsWith, entries_of}
use Rattle.turnstile.specs.declared.knowledge.Stage.TheVariants.{Away}
use Rattle.turnstile.specs.declared.knowledge.Member.{Member}
use Rattle.turnstile.specs.declared.knowledge.Knowledge.{Knowledge}

module _ {E T : Type 0} where
  -- a worker that has seen nothing and made nothing
  abbrev pub newcomer : T → ℕ → Member E T
  newcomer root worker = record { worker = worker; seen = []; mine = []; root = root }

  -- so many of them, numbered from `from` on
  abbrev pub newcomers : T → ℕ → ℕ → List (Member E T)
  newcomers root from zero = []
  newcomers root from (suc n) = newcomer root from ∷ newcomers root (from + 1) n

  -- the first seat, which has every member
  abbrev pub everyone : T → ℕ → Knowledge E T
  everyone root passes = record { stage = Away; members = newcomers root 0 passes }

  abbrev pub first_of : List (Member E T) → List (Member E T)
  first_of [] = []
  first_of (m ∷ ms) = m ∷ []

  abbrev pub others_of : List (Member E T) → List (Member E T)
  others_of [] = []
  others_of (m ∷ ms) = ms

  -- the seat of one pass is cut off: it has the first member, and the seat that it is cut off keeps
  -- the others
  abbrev pub pass_of : Knowledge E T → Knowledge E T
  pass_of v = record { stage = Away; members = first_of v.members }

  abbrev pub without_pass : Knowledge E T → Knowledge E T
  without_pass v = record { stage = Away; members = others_of v.members }

  -- a seat takes in the members of another, which is spent
  abbrev pub joined : Knowledge E T → Knowledge E T → Knowledge E T
  joined v w = record { stage = Away; members = w.members ++ v.members }

  abbrev pub spent : Knowledge E T
  spent = record { stage = Away; members = [] }

  -- what the first member has seen and made
  abbrev pub seen_of : List (Member E T) → List (ℕ × E)
  seen_of [] = []
  seen_of (m ∷ ms) = m.seen

  abbrev pub mine_of : List (Member E T) → List (ℕ × E)
  mine_of [] = []
  mine_of (m ∷ ms) = m.mine

  -- how many members of the seat have the number
  abbrev pub times : ℕ → Knowledge E T → ℕ
  times worker v = count_by (λ (m : Member E T). nat_eq m.worker worker) v.members

  abbrev pub size : Knowledge E T → ℕ
  size v = length v.members

  module _ (history : List (ℕ × E)) (origin : T) where
    -- what a member has seen begins the history, what it made is what the history has of it, and
    -- its root is that of the start
    pub record Knows (m : Member E T) : Type 0 where
      pub begins : BeginsWith history m.seen
      pub mine : entries_of m.worker history ≡ m.mine
      pub root : m.root ≡ origin

    abbrev pub AllKnow : List (Member E T) → Type 0
    AllKnow [] = Unit {0}
    AllKnow (m ∷ ms) = Knows m × AllKnow ms
