-- What the calls of the table ask: that each step is allowed, that the table may be opened, and
-- what it leaves at its end.
use Rattle.std.proofs.Common.{◌≡◌, ℕ, zero, suc, ◌+◌, ◌%◌, ◌^◌, ◌<◌, ◌≤◌, cond, eqb, eq-eqb, ne_eqb}
use Rattle.std.proofs.Common.{List, [], ◌∷◌, ◌++◌, length, get_or, Option, Some, refl, sym, ap, ◌∙◌}
use Rattle.std.proofs.Common.{subst, inl, ⊎_elim, arith}
use Rattle.std.specs.List.{sum_by}
use Rattle.std.proofs.lemmas.List.Sums.{sum_by-cons}
use mathlib.Core.Logic.{dite}
use mathlib.Core.Option.{some, none, some-injective, some-ne-none}
use native.Mathlib.Decide.{ℕ_discrete}
use lib.ListN.{get_elem?}
use Rattle.atomic_table.specs.Table.{State, Me, step, keeps, takes, gives, stepped, opening, Allows}
use Rattle.atomic_table.specs.Table.{Splits, Joins, Final, Seen}
use Rattle.turnstile.specs.Entries.{entries_of}
use Rattle.turnstile.specs.Members.{newcomers, everyone, pass_of, without_pass, joined, spent}
use Rattle.turnstile.specs.Members.{times, size, AllKnow}
use Rattle.turnstile.specs.Tickets.{HasTicket, IsServed}
use Rattle.turnstile.specs.Rule.{Agrees, IsHome, IsOut, Kept}
use Rattle.turnstile.specs.Steps.{seat_of, after_seeing, after_adding, drawn, Takes, looked, noted}
use Rattle.turnstile.specs.Steps.{gave}
use Rattle.turnstile.specs.declared.knowledge.Stage.{Stage}
use Rattle.turnstile.specs.declared.knowledge.Stage.TheVariants.{Away, Waiting, Served, Noted}
use Rattle.turnstile.specs.declared.knowledge.Member.{Member}
use Rattle.turnstile.specs.declared.knowledge.Knowledge.{Knowledge}
use Rattle.turnstile.proofs.Totals.{two_le}
use Rattle.turnstile.proofs.Lines.{Added, one_ticket}
use Rattle.turnstile.proofs.Keeps.{draws, its_turn, home_at, takes_it, unchanged, notes, gives_back}
use Rattle.turnstile.proofs.Keeps.{splits, joins}

only : {A : Type 0} (a : A) (P : A → Type 0) → P a → (i : ℕ) (b : A) → get_elem? (a ∷ []) i ≡ some b
    → P b
only a P p zero b at = subst P (some-injective a b at) p
only a P p (suc i) b at = absurd (some-ne-none b (sym at))

-- the slot that a seat took last
pub slot_value : {S : Type 0} (i j : ℕ) (x y : S) (xs ys : List (ℕ × S)) → (i, x) ∷ xs ≡ (j, y) ∷ ys
    → x ≡ y
slot_value {S} i j x y xs ys e = ap (λ cs. (get_or {A = ℕ × S} cs 0 (i, x)).1) e

abbrev ticket_or : ℕ → Stage → ℕ
ticket_or d Away = d
ticket_or d (Waiting t) = t
ticket_or d (Served t) = t
ticket_or d (Noted t) = t

module _ {E T : Type 0} where
  abbrev member_or : Member E T → List (Member E T) → Member E T
  member_or d [] = d
  member_or d (m ∷ ms) = m

  -- a seat's ticket and its member
  along : (P : ℕ → Member E T → Type 0) (st : ℕ → Stage) → ((t : ℕ) → ticket_or 0 (st t) ≡ t)
      → (t u : ℕ) (m n : Member E T) → seat_of (st t) m ≡ seat_of (st u) n → P t m → P u n
  along P st is t u m n e p =
      let e' : t ≡ u = sym (is t) ∙ (ap (λ v. ticket_or 0 v.stage) e ∙ is u) in
      let f : m ≡ n = ap (λ v. member_or m v.members) e in
      subst (λ (x : ℕ × Member E T). P x.0 x.1) (λ i. (e' i, f i)) p

module _ (E : Type 0) {T : Type 0} where
  times_from : (root : T) (k from n : ℕ) → k < from
      → sum_by (λ (m : Member E T). cond (eqb m.worker k) 1 0) (newcomers root from n) ≡ 0
  times_from root k from zero below = refl
  times_from root k from (suc n) below =
      let f : Member E T → ℕ = λ m. cond (eqb m.worker k) 1 0 in
      let m : Member E T = record { worker = from; seen = []; mine = []; root = root } in
      let e : f m ≡ 0 = ap (λ b. cond {A = ℕ} b 1 0) (ne_eqb from k (λ h. omega arith)) in
      omega (
        arith,
        sum_by-cons f m (newcomers root (from + 1) n),
        times_from root k (from + 1) n
            (omega arith),
      )

  times_past : (root : T) (k from n : ℕ) → from + n ≤ k
      → sum_by (λ (m : Member E T). cond (eqb m.worker k) 1 0) (newcomers root from n) ≡ 0
  times_past root k from zero past = refl
  times_past root k from (suc n) past =
      let f : Member E T → ℕ = λ m. cond (eqb m.worker k) 1 0 in
      let m : Member E T = record { worker = from; seen = []; mine = []; root = root } in
      let e : f m ≡ 0 = ap (λ b. cond {A = ℕ} b 1 0) (ne_eqb from k (λ h. omega arith)) in
      omega (
        arith,
        sum_by-cons f m (newcomers root (from + 1) n),
        times_past root k (from + 1) n
            (omega arith),
      )

  times_once : (root : T) (k from n : ℕ) → sum_by (λ (m : Member E T). cond (eqb m.worker k) 1 0)
      (newcomers root from n) ≤ 1
  times_once root k from zero = omega arith
  times_once root k from (suc n) =
      let f : Member E T → ℕ = λ m. cond (eqb m.worker k) 1 0 in
      let m : Member E T = record { worker = from; seen = []; mine = []; root = root } in
      let s = sum_by-cons f m (newcomers root (from + 1) n) in
      dite (ℕ_discrete from k)
      (λ same.
      let e : f m ≡ 1 = ap (λ b. cond {A = ℕ} b 1 0) (eq-eqb from k same) in
      let others = times_from root k (from + 1) n (omega arith) in omega arith)
      (λ other.
      let e : f m ≡ 0 = ap (λ b. cond {A = ℕ} b 1 0) (ne_eqb from k other) in
      let others = times_once root k (from + 1) n in omega arith)

  pub length-newcomers : (root : T) (from n : ℕ) → length (newcomers {E = E} root from n) ≡ n
  length-newcomers root from zero = refl
  length-newcomers root from (suc n) = omega (arith, length-newcomers root (from + 1) n)

  newcomers_know : (root : T) (from n : ℕ) → AllKnow [] root (newcomers {E = E} root from n)
  newcomers_know root from zero = tt
  newcomers_know root from (suc n) = (
    record { begins = ([], refl); mine = refl; root = refl },
    newcomers_know root (from + 1) n,
  )

module _ {B E T : Type 0} (entries : B → List (ℕ × E)) (root : B → T) where
  module _ (passes : ℕ) (origin : T) where
    abbrev V : Type 0
    V = Knowledge E T

    abbrev M : Type 0
    M = Me (Option B) V

    abbrev Rule : State (Option B) V → Type 0
    Rule = Kept entries root passes origin

    pub draw_allowed : (slots id : ℕ) (me : M) (m : Member E T) → me.0 ≡ seat_of Away m
        → Allows Rule slots id me 1 (λ n. (n + 1) % 2 ^ 64) (drawn (step slots 1 1 0 none) me)
    draw_allowed slots id me m is s r _ at _ = (
      seat_of (Waiting r.next) m,
      keeps,
      tt,
      draws entries root passes origin s r id m (at ∙ ap some is),
      (
        r.next,
        ap (λ ws. get_or ws 1 0) r.words,
        ap (λ (v : V). let w : V = record { stage = Waiting r.next; members = v.members } in w)
            (sym is),
        refl,
      ),
    )

    pub look_allowed : (slots id : ℕ) (me : M) (t : ℕ) (m : Member E T)
        → me.0 ≡ seat_of (Waiting t) m → me.1 ≡ []
        → Allows Rule slots id me 2 (λ n. n) (looked entries root (step slots 2 0 0 none) me)
    look_allowed slots id me t m is bare s r _ at _ = let here = at ∙ ap some is
        in dite (ℕ_discrete (get_or s.words 2 0) (t % 2 ^ 64))
        (λ hit.
        let turn = its_turn entries root passes origin s r id t m here hit in
        let h = home_at entries root passes origin s r id t m here turn in
        let w : V = seat_of (Served t) (after_seeing (entries h.value) m) in
        let k = (r.each id (seat_of (Waiting t) m) here).members.0 in
        let told : Takes entries root t m (w, (0, Some h.value) ∷ me.1) = record {
          value = h.value;
          view = refl;
          slot = ap (λ cs. (0, Some h.value) ∷ cs) bare;
          begins = (k.begins.0, h.list ∙ k.begins.1);
          mine = ap (entries_of m.worker) h.list ∙ k.mine;
          same_root = h.same_root ∙ sym k.root;
        } in (
          w,
          takes 0 (Some h.value),
          ap (λ hs. get_elem? hs 0) h.home,
          takes_it entries root passes origin s r id t m here turn h,
          λ u n is' bare'. (
            (λ _. along (λ u n. Takes entries root u n (w, (0, Some h.value) ∷ me.1))
                (λ x. Waiting x) (λ x. refl) t u m n (sym is ∙ is') told),
            (λ not. absurd (not (hit ∙ along (λ u n. t % 2 ^ 64 ≡ u % 2 ^ 64) (λ x. Waiting x)
                (λ x. refl) t u m n (sym is ∙ is') refl))),
          ),
        ))
        (λ miss. (
          me.0,
          keeps,
          tt,
          unchanged entries root passes origin s r id me.0 at,
          λ u n is' bare'. (
            (λ hit. absurd (miss (hit ∙ along (λ u n. u % 2 ^ 64 ≡ t % 2 ^ 64) (λ x. Waiting x)
                (λ x. refl) t u m n (sym is ∙ is') refl))),
            (λ not. refl),
          ),
        ))

    pub note_allowed : (slots id : ℕ) (me : M) (t count : ℕ) (m : Member E T)
        (list added : List (ℕ × E)) → me.0 ≡ seat_of (Served t) m
        → list ≡ m.seen ++ added → Added m.worker added → count ≡ length list
        → Allows Rule slots id me 0 (λ _. count)
        (λ _. noted list added (step slots 0 count 0 none) me count)
    note_allowed slots id me t count m list added is longer own counted s r _ at _ =
        let w : V = seat_of (Noted t) (after_adding list added m) in
        let Told : ℕ → Member E T → Type 0 = λ u n.
        (w ≡ seat_of (Noted u) (after_adding list added n)) × (me.1 ≡ me.1) in (
          w,
          keeps,
          tt,
          notes entries root passes origin s r id t count m list added (at ∙ ap some is) longer own
              counted,
          λ u n is'. along Told (λ x. Served x) (λ x. refl) t u m n (sym is ∙ is') (refl, refl),
        )

    pub give_allowed : (slots id : ℕ) (me : M) (t stored : ℕ) (m : Member E T) (value : B)
        → me.0 ≡ seat_of (Noted t) m → me.1 ≡ (0, Some value) ∷ []
        → entries value ≡ m.seen → root value ≡ m.root → stored ≡ (t + 1) % 2 ^ 64
        → Allows Rule slots id me 2 (λ _. stored) (λ _. gave (step slots 2 stored 0 none) me stored)
    give_allowed slots id me t stored m value is carried list same_root is_next s r _ at _ =
        let w : V = seat_of Away m in (
          w,
          gives,
          tt,
          subst (λ (cs : List (ℕ × Option B)). Rule (stepped s 2 stored id cs w gives))
              (sym carried)
              (gives_back entries root passes origin s r id t stored m value (at ∙ ap some is) list
              same_root is_next),
          (
            t,
            ap (λ (v : V). v.stage) is,
            ap (λ (v : V). let w : V = record { stage = Away; members = v.members } in w) (sym is),
            refl,
          ),
        )

    pub split_allowed : (id : ℕ) (v : V) → v.stage ≡ Away
        → Splits Rule id v (without_pass v) (pass_of v)
    split_allowed id v away s r at = splits entries root passes origin s r id v at away

    pub join_allowed : (id : ℕ) (v : V) (other : ℕ) (w : V) → v.stage ≡ Away → w.stage ≡ Away
        → Joins Rule id v other w (joined v w) spent
    join_allowed id v other w away away' s r at apart there
        = joins entries root passes origin s r id other v w at apart there away away'

    -- what the table leaves where one seat has every member: the value, whose list is the history
    pub record Left (slots : List (Option B)) (v : V) : Type 0 where
      pub value : B
      pub there : get_elem? slots 0 ≡ some (Some value)
      pub know : AllKnow (entries value) origin v.members
      pub same_root : root value ≡ origin
      pub nobody_else : (k : ℕ) → passes ≤ k → entries_of k (entries value) ≡ []

    nobody_served : (s : State (Option B) V) (r : Rule s) (id : ℕ) (v : V)
        → get_elem? s.views id ≡ some v → v.stage ≡ Away → size v ≡ passes
        → (j : ℕ) (u : V) → get_elem? s.views j ≡ some u → IsServed u.stage → ⊥
    nobody_served s r id v at away every j u there is = dite (ℕ_discrete id j)
        (λ e. let same : u ≡ v = some-injective u v
        (sym there ∙ (ap (λ k. get_elem? s.views k) (sym e) ∙ at))
        in subst IsServed (ap (λ (x : V). x.stage) same ∙ away) is)
        (λ ne. let one = (r.each j u there).alone (one_ticket u.stage is)
        in let two = two_le size s.views id j v u ne at there in let all = r.all
        in absurd (omega arith))

    pub closes : (id : ℕ) (v : V) (words : List ℕ) (slots : List (Option B)) → v.stage ≡ Away
        → size v ≡ passes → Final (Seen Rule id v) words slots → Left slots v
    closes id v words slots away every end =
        let s = end.0 in let r = end.1.0 in let at = end.1.1 in
        ⊎_elim
        (λ (h : IsHome entries root r.history origin s). record {
          value = h.value;
          there = end.4 0 (Some h.value) (ap (λ hs. get_elem? hs 0) h.home);
          know = subst (λ xs. AllKnow xs origin v.members) (sym h.list) (r.each id v at).members;
          same_root = h.same_root;
          nobody_else = λ k le. ap (entries_of k) h.list ∙ r.nobody_else k le;
        })
        (λ (o : IsOut entries root r.history s). absurd
        (nobody_served s r id v at away every o.seat o.view o.there o.served))
        r.slot

  pub opens : (value : B) (passes : ℕ) → entries value ≡ [] → passes < 2 ^ 32
      → Kept entries root passes (root value)
      (opening (0 ∷ 0 ∷ 0 ∷ []) (Some value ∷ []) (everyone (root value) passes))
  opens value passes empty few =
      let v : Knowledge E T = everyone (root value) passes in record {
        history = [];
        served = 0;
        next = 0;
        words = refl;
        few = few;
        all = sum_by-cons size v [] ∙ (let e = length-newcomers E (root value) 0 passes
            in omega arith);
        once = λ k. let e = sum_by-cons (times k) v []
            in let o = times_once E (root value) k 0 passes in omega arith;
        known = λ k le. let e = sum_by-cons (times k) v []
            in let o = times_past E (root value) k 0 passes (omega arith) in omega arith;
        out = refl;
        differ = λ i j x y t at there has has'. absurd
            (only v (λ (u : Knowledge E T). (t : ℕ) → HasTicket u.stage t → ⊥) (λ t no. no) i x at t
            has);
        each = λ j x at. only v (λ u. Agrees [] (root value) 0 0 u) record {
          members = newcomers_know E (root value) 0 passes;
          in_line = tt;
          alone
              = λ e. absurd (omega arith);
        } j x at;
        slot = inl record {
          value = value;
          home = refl;
          list = empty;
          same_root = refl;
          nobody = λ j x at. only v (λ (u : Knowledge E T). IsServed u.stage → ⊥) (λ no. no) j x at;
        };
        nobody_else = λ k le. refl;
      }
