-- A pass between two calls, and what a turn leaves of it.
use Rattle.std.proofs.Common.{◌≡◌, ℕ, ◌%◌, ◌^◌, true, false, List, [], ◌∷◌, Option, None, refl, sym}
use Rattle.std.proofs.Common.{ap, ◌∙◌, subst}
use Rattle.atomic_table.specs.Table.{Me}
use Rattle.atomic_table.specs.Seated.{TableId}
use Rattle.turnstile.specs.Entries.{AddsAtMostOne}
use Rattle.turnstile.specs.Members.{seen_of, mine_of}
use Rattle.turnstile.specs.Steps.{seat_of, after_seeing, after_leaving, HasTurn, MayLeave}
use Rattle.turnstile.specs.Passes.{PassView, entered, has_left, has_ticket, Rests, IsPass}
use Rattle.turnstile.specs.declared.knowledge.Stage.{Stage}
use Rattle.turnstile.specs.declared.knowledge.Stage.TheVariants.{Away, Waiting, Served, Noted}
use Rattle.turnstile.specs.declared.knowledge.Member.{Member}
use Rattle.turnstile.specs.declared.knowledge.Knowledge.{Knowledge}

rests_away : {B : Type 0} (ticket : ℕ) (st : Stage) (slots : List (ℕ × Option B))
    → Rests ticket st slots → has_ticket st ≡ false → (st ≡ Away) × (slots ≡ [])
rests_away ticket Away slots r h = (refl, r)
rests_away ticket (Waiting t) slots r h = absurd r
rests_away ticket (Served t) slots r h = absurd (cc)
rests_away ticket (Noted t) slots r h = absurd r

rests_out : {B : Type 0} (ticket : ℕ) (st : Stage) (slots : List (ℕ × Option B))
    → Rests ticket st slots → has_ticket st ≡ true
    → (t : ℕ) × (st ≡ Served t) × (ticket ≡ t % 2 ^ 64) × (slots ≡ (0, None) ∷ [])
rests_out ticket Away slots r h = absurd (cc)
rests_out ticket (Waiting t) slots r h = absurd r
rests_out ticket (Served t) slots r h = (t, refl, r.0, r.1)
rests_out ticket (Noted t) slots r h = absurd r

module _ {E T : Type 0} where
  one_again : (m : Member E T) (ms : List (Member E T)) → ms ≡ m ∷ []
      → ms ≡ record { worker = m.worker; seen = seen_of ms; mine = mine_of ms; root = m.root } ∷ []
  one_again m ms e =
      let f : List (Member E T) → List (Member E T)
      = λ xs. record { worker = m.worker; seen = seen_of xs; mine = mine_of xs; root = m.root }
      ∷ [] in e ∙ ap f (sym e)

  -- a seat without its ticket
  abbrev pub away_of : Knowledge E T → Knowledge E T
  away_of v = record { stage = Away; members = v.members }

module _ {B E T : Type 0} where
  -- the member of a pass
  abbrev pub member : ℕ → T → Me (Option B) (Knowledge E T) → Member E T
  member worker root me = record {
    worker = worker;
    seen = seen_of me.0.members;
    mine
        = mine_of me.0.members;
    root = root;
  }

  -- what a contract sees of a pass
  abbrev pub view_of : TableId → ℕ → T → Me (Option B) (Knowledge E T) → PassView E T
  view_of table worker root me =
      record {
        table = table;
        worker = worker;
        seen = seen_of me.0.members;
        mine
            = mine_of me.0.members;
        root = root;
        is_out = has_ticket me.0.stage;
      }

  pub away : (worker ticket : ℕ) (root : T) (me : Me (Option B) (Knowledge E T))
      → IsPass worker ticket root me → has_ticket me.0.stage ≡ false
      → me ≡ (seat_of Away (member worker root me), [])
  away worker ticket root me p h =
      let r = rests_away ticket me.0.stage me.1 p.rests h
      in λ i. (record { stage = r.0 i; members = p.one i }, r.1 i)

  module _ (entries : B → List (ℕ × E)) (root_of : B → T) where
    pub holds_turn : (m : Member E T) (ticket : ℕ) (value : B) (me : Me (Option B) (Knowledge E T))
        → HasTurn entries root_of m ticket value me → IsPass m.worker ticket m.root me
    holds_turn m ticket value me h = record {
      one = one_again (after_seeing (entries value) m) me.0.members (ap (λ v. v.members) h.view);
      rests = subst (λ (st : Stage). Rests ticket st me.1) (sym (ap (λ v. v.stage) h.view))
          (h.is_ticket, h.slot);
    }

    pub turn_view : (table : TableId) (m : Member E T) (ticket : ℕ) (value : B)
        (me me' : Me (Option B) (Knowledge E T)) → me ≡ (seat_of Away m, [])
        → HasTurn entries root_of m ticket value me'
        → view_of table m.worker m.root me' ≡ entered (entries value)
        (view_of table m.worker m.root me)
    turn_view table m ticket value me me' is h =
        let see : Me (Option B) (Knowledge E T) → PassView E T = view_of table m.worker m.root in
        let now : Knowledge E T → PassView E T
        = λ v. record {
          table = table;
          worker = m.worker;
          seen = seen_of v.members;
          mine
              = mine_of v.members;
          root = m.root;
          is_out = has_ticket v.stage;
        } in
        ap now h.view ∙ ap (λ p. entered (entries value) p) (sym (ap see is))

    pub may_leave : (worker ticket : ℕ) (root : T) (value : B) (me : Me (Option B) (Knowledge E T))
        → IsPass worker ticket root me → has_ticket me.0.stage ≡ true
        → AddsAtMostOne worker (seen_of me.0.members) (entries value) → root_of value ≡ root
        → MayLeave entries root_of (member worker root me) ticket value me
    may_leave worker ticket root value me p out list same_root =
        let r = rests_out ticket me.0.stage me.1 p.rests out in
        record {
          at = r.0;
          is_ticket = r.2;
          view
              = λ i. record { stage = r.1 i; members = p.one i };
          slot = r.3;
          list = list;
          same_root
              = same_root;
        }

    pub rests_again : (m : Member E T) (ticket : ℕ) (me : Me (Option B) (Knowledge E T))
        → me ≡ (seat_of Away m, []) → IsPass m.worker ticket m.root me
    rests_again m ticket me is = record {
      one = one_again m me.0.members (ap (λ x. x.0.members) is);
      rests = let e : me.1 ≡ [] = ap (λ x. x.1) is
          in subst (λ (st : Stage). Rests ticket st me.1) (sym (ap (λ x. x.0.stage) is)) e;
    }

    pub left_view : (table : TableId) (worker ticket : ℕ) (root : T) (value : B)
        (me me' : Me (Option B) (Knowledge E T))
        → me' ≡ (seat_of Away (after_leaving (entries value) (member worker root me)), [])
        → view_of table worker root me' ≡ has_left (entries value) (view_of table worker root me)
    left_view table worker ticket root value me me' is =
        let see : Me (Option B) (Knowledge E T) → PassView E T = view_of table worker root
        in ap see is
