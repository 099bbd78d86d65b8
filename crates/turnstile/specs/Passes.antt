-- What contracts see of a turnstile and of a pass. fontc's own.
use Rattle.std.specs.Prelude.{◌≡◌, ℕ, ◌%◌, ◌^◌, suc, zero, ◌+◌, Bool, true, false, List, [], ◌∷◌}
use Rattle.std.specs.Prelude.{◌++◌, length, drop, Option, None}
use Rattle.atomic_table.specs.Table.{Me}
use Rattle.atomic_table.specs.Seated.{TableId}
use Rattle.turnstile.specs.Entries.{BeginsWith, entries_of}
use Rattle.turnstile.specs.Members.{seen_of, mine_of}
use Rattle.turnstile.specs.declared.knowledge.Stage.{Stage}
use Rattle.turnstile.specs.declared.knowledge.Stage.TheVariants.{Away, Waiting, Served, Noted}
use Rattle.turnstile.specs.declared.knowledge.Member.{Member}
use Rattle.turnstile.specs.declared.knowledge.Knowledge.{Knowledge}

-- which turnstile it is, and how many passes it has
pub record TurnstileView : Type 0 where
  pub table : TableId
  pub passes : ℕ

-- of which turnstile the pass is, its number, what it has seen of the history, which entries it
-- made, the root of the value, and whether it has a turn out
pub record PassView (E T : Type 0) : Type 0 where
  pub table : TableId
  pub worker : ℕ
  pub seen : List (ℕ × E)
  pub mine : List (ℕ × E)
  pub root : T
  pub is_out : Bool

module _ {E T : Type 0} where
  -- a pass of a new turnstile
  abbrev pub new_pass : TableId → T → ℕ → PassView E T
  new_pass table root worker = record {
    table = table;
    worker = worker;
    seen = [];
    mine = [];
    root
        = root;
    is_out = false;
  }

  -- so many of them, numbered from `from` on
  abbrev pub new_passes : TableId → T → ℕ → ℕ → List (PassView E T)
  new_passes table root from zero = []
  new_passes table root from (suc n) = new_pass table root from ∷ new_passes table root (from + 1) n

  -- what the rule knows of the pass
  abbrev pub member_of : PassView E T → Member E T
  member_of p = record { worker = p.worker; seen = p.seen; mine = p.mine; root = p.root }

  -- the pass as it enters: it has seen the whole list
  abbrev pub entered : List (ℕ × E) → PassView E T → PassView E T
  entered list p = record p { seen = list; is_out = true }

  -- the pass as it leaves: it has seen the whole list, and what the list has beyond what it saw as
  -- it entered is its own
  abbrev pub has_left : List (ℕ × E) → PassView E T → PassView E T
  has_left list p = record p {
    seen = list;
    mine = p.mine
        ++ drop (length p.seen) list;
    is_out = false;
  }

  -- a list of entries, and a root, that a pass agrees with: the list begins with what the pass has
  -- seen, and has of its number just the entries that it made
  pub record IsHistoryOf (list : List (ℕ × E)) (root : T) (p : PassView E T) : Type 0 where
    pub begins : BeginsWith list p.seen
    pub mine : entries_of p.worker list ≡ p.mine
    pub same_root : root ≡ p.root

-- a seat has a ticket out
abbrev pub has_ticket : Stage → Bool
has_ticket Away = false
has_ticket (Waiting t) = true
has_ticket (Served t) = true
has_ticket (Noted t) = true

-- between two calls a pass has no ticket and no slot, or its ticket is served and it has the empty
-- slot
abbrev pub Rests : {B : Type 0} → ℕ → Stage → List (ℕ × Option B) → Type 0
Rests ticket Away slots = slots ≡ []
Rests ticket (Waiting t) slots = ⊥
Rests ticket (Served t) slots = (ticket ≡ t % 2 ^ 64) × (slots ≡ (0, None) ∷ [])
Rests ticket (Noted t) slots = ⊥

module _ {B E T : Type 0} where
  -- what a pass keeps of its seat
  pub record IsPass (worker ticket : ℕ) (root : T) (me : Me (Option B) (Knowledge E T))
      : Type 0 where
    pub one : me.0.members ≡ record {
      worker = worker;
      seen = seen_of me.0.members;
      mine
          = mine_of me.0.members;
      root = root;
    } ∷ []
    pub rests : Rests ticket me.0.stage me.1
