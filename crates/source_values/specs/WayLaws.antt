-- How tables tell of the combinators of rules: what the proofs of tables in other crates need, and
-- no reader.
use Rattle.std.proofs.Common.{inl, inr, ◌≡◌, ◌⊎◌, ◌==◌, not, arith, ℕ, Bool, true, false, cond}
use Rattle.std.proofs.Common.{List, [], ◌∷◌, ◌++◌, Option, Some, None, is_some, refl, sym, ap, ◌∙◌}
use Rattle.std.proofs.Common.{subst, true≢false}
use Rattle.std.specs.Prelude.{flat_map}
use Rattle.std.proofs.lemmas.List.Concat.{flat_map-cons}
use Rattle.std.proofs.lemmas.Bool.Decides.{nat_tests}
use Rattle.plist_reader.specs.declared.tree.Tree.{Tree}
use Rattle.plist_reader.specs.Tree.{find_in}
use Rattle.refusal_codes.specs.declared.rule.Rule.{Rule}
use Rattle.refusal_codes.specs.Rules.{rule_number}
use Rattle.refusal_codes.specs.declared.rule.Rule.TheVariants.{WrongShape, MissingKey}
use Rattle.refusal_codes.specs.declared.first.Failure.{Failure}
use Rattle.source_values.specs.Values.{place_at, items_at, is_list, is_dictionary}
use Rattle.source_values.specs.Asking.{fails, each_by, each, dictionary, under_by, required}
use Rattle.source_values.specs.Asking.{optional}
use Rattle.source_values.specs.Ways.{IsOneOf, Step, under, each_item, item, when, Leads, Reaches}
use Rattle.source_values.specs.Ways.{Row, FailsRow, Fails, Tells, rows_of, TellsByRule, here}
use Rattle.source_values.specs.Ways.{behind, has}

-- ---- lists

module _ {X : Type 0} (x : X) where
  pub among_left : (xs ys : List X) → IsOneOf xs x → IsOneOf (xs ++ ys) x
  among_left [] ys p = absurd p
  among_left (y ∷ xs) ys (inl e) = inl e
  among_left (y ∷ xs) ys (inr p) = inr (among_left xs ys p)

  pub among_right : (xs ys : List X) → IsOneOf ys x → IsOneOf (xs ++ ys) x
  among_right [] ys p = p
  among_right (y ∷ xs) ys p = inr (among_right xs ys p)

  pub among_cases : (xs ys : List X) → IsOneOf (xs ++ ys) x → IsOneOf xs x ⊎ IsOneOf ys x
  among_cases [] ys p = inr p
  among_cases (y ∷ xs) ys (inl e) = inl (inl e)
  among_cases (y ∷ xs) ys (inr p) = elim (among_cases xs ys p)
      [ inl q ↦ inl (inr q) | inr q ↦ inr q ]

module _ (g : ℕ → List Failure) (f : Failure) where
  pub of_items : (ns : List ℕ) → IsOneOf (flat_map g ns) f
      → (n : ℕ) × IsOneOf ns n × IsOneOf (g n) f
  of_items [] p = absurd p
  of_items (n ∷ ns) p =
      elim (among_cases f (g n) (flat_map g ns)
      (subst (λ (fs : List Failure). IsOneOf fs f) (flat_map-cons g n ns) p)) [
        | inl q ↦ (n, inl refl, q)
        | inr q ↦ (let (m, is, r) = of_items ns q in (m, inr is, r))
      ]

  pub to_items : (ns : List ℕ) (n : ℕ) → IsOneOf ns n → IsOneOf (g n) f → IsOneOf (flat_map g ns) f
  to_items [] n p q = absurd p
  to_items (m ∷ ns) n (inl e) q =
      subst (λ (fs : List Failure). IsOneOf fs f) (sym (flat_map-cons g m ns))
      (among_left f (g m) (flat_map g ns) (subst (λ (k : ℕ). IsOneOf (g k) f) e q))
  to_items (m ∷ ns) n (inr p) q =
      subst (λ (fs : List Failure). IsOneOf fs f) (sym (flat_map-cons g m ns))
      (among_right f (g m) (flat_map g ns) (to_items ns n p q))

-- ---- tables

module _ (t : Tree) (n : ℕ) (f : Failure) where
  pub rows_left : (r s : List Row) → Fails r t n f → Fails (r ++ s) t n f
  rows_left [] s p = absurd p
  rows_left (row ∷ r) s (inl p) = inl p
  rows_left (row ∷ r) s (inr p) = inr (rows_left r s p)

  pub rows_right : (r s : List Row) → Fails s t n f → Fails (r ++ s) t n f
  rows_right [] s p = p
  rows_right (row ∷ r) s p = inr (rows_right r s p)

  pub rows_cases : (r s : List Row) → Fails (r ++ s) t n f → Fails r t n f ⊎ Fails s t n f
  rows_cases [] s p = inr p
  rows_cases (row ∷ r) s (inl p) = inl (inl p)
  rows_cases (row ∷ r) s (inr p) = elim (rows_cases r s p) [ inl q ↦ inl (inr q) | inr q ↦ inr q ]

  pub from_behind : (step : Step) (rows : List Row) → Fails (behind step rows) t n f
      → (k : ℕ) × Leads t step n k × Fails rows t k f
  from_behind step [] p = absurd p
  from_behind step (row ∷ rows) (inl (m, (k, leads, reaches), not, is))
      = (k, leads, inl (m, reaches, not, is))
  from_behind step (row ∷ rows) (inr p) = let (k, leads, q) = from_behind step rows p
      in (k, leads, inr q)

  pub to_behind : (step : Step) (rows : List Row) (k : ℕ) → Leads t step n k → Fails rows t k f
      → Fails (behind step rows) t n f
  to_behind step [] k leads p = absurd p
  to_behind step (row ∷ rows) k leads (inl (m, reaches, not, is))
      = inl (m, (k, leads, reaches), not, is)
  to_behind step (row ∷ rows) k leads (inr p) = inr (to_behind step rows k leads p)

  -- a failure of the value itself
  pub at_itself : (rule : Rule) (holds : Tree → ℕ → Bool) → holds t n ≡ false
      → IsOneOf (fails rule t n) f
      → Fails (here rule holds) t n f
  at_itself rule holds not (inl e) = inl (n, refl, not, e)
  at_itself rule holds not (inr p) = absurd p

  pub of_itself : (rule : Rule) (holds : Tree → ℕ → Bool) → Fails (here rule holds) t n f
      → (holds t n ≡ false) × IsOneOf (fails rule t n) f
  of_itself rule holds (inl (m, same, not, is)) = (
    subst (λ (k : ℕ). holds t k ≡ false) same not,
    inl (is ∙ ap (λ (k : ℕ). record { rule = rule; place = place_at t k }) same),
  )
  of_itself rule holds (inr p) = absurd p

pub never : {A : Type 0} (b : Bool) → b ≡ true → b ≡ false → A
never b is not = absurd (true≢false (sym is ∙ not))

-- ---- what a test finds

module _ (rule : Rule) (holds : Tree → ℕ → Bool) (t : Tree) (n : ℕ) (f : Failure) where
  pub by_test : (b : Bool) → holds t n ≡ b → IsOneOf (cond b [] (fails rule t n)) f
      → Fails (here rule holds) t n f
  by_test true e p = absurd p
  by_test false e p = at_itself t n f rule holds e p

  pub to_test : (b : Bool) → holds t n ≡ b → Fails (here rule holds) t n f
      → IsOneOf (cond b [] (fails rule t n)) f
  to_test true e p = never (holds t n) e (of_itself t n f rule holds p).0
  to_test false e p = (of_itself t n f rule holds p).1

pub tested : (rule : Rule) (holds : Tree → ℕ → Bool)
    → Tells (here rule holds) (λ t n. cond (holds t n) [] (fails rule t n))
tested rule holds t n f = (
  by_test rule holds t n f (holds t n) refl,
  to_test rule holds t n f
      (holds t n) refl,
)

-- ---- one after the other

pub joined : (r s : List Row) (g h : Tree → ℕ → List Failure) → Tells r g → Tells s h
    → Tells (r ++ s) (λ t n. g t n ++ h t n)
joined r s g h a b t n f = (
  λ p. elim (among_cases f (g t n) (h t n) p) [
    | inl q ↦ rows_left t n f r s ((a t n f).0 q)
    | inr q ↦ rows_right t n f r s ((b t n f).0 q)
  ],
  λ p. elim (rows_cases t n f r s p) [
    | inl q ↦ among_left f (g t n) (h t n) ((a t n f).1 q)
    | inr q ↦ among_right f (g t n) (h t n) ((b t n f).1 q)
  ],
)

-- ---- values in others

module _ (rows : List Row) (g : Tree → ℕ → List Failure) (tells : Tells rows g) where
  module _ (key : List ℕ) (t : Tree) (n : ℕ) (f : Failure) where
    found : (o : Option ℕ) → find_in t n key ≡ o → IsOneOf (under_by (g t) [] o) f
        → Fails (behind (under key) rows) t n f
    found None e p = absurd p
    found (Some k) e p = to_behind t n f (under key) rows k e ((tells t k f).0 p)

    to_found : (o : Option ℕ) → find_in t n key ≡ o → Fails (behind (under key) rows) t n f
        → IsOneOf (under_by (g t) [] o) f
    to_found o e p =
        let (k, leads, q) = from_behind t n f (under key) rows p in
        subst (λ (o : Option ℕ). IsOneOf (under_by (g t) [] o) f) (sym leads ∙ e)
        ((tells t k f).1 q)

    missed : (o : Option ℕ) → find_in t n key ≡ o
        → IsOneOf (under_by (g t) (fails MissingKey t n) o) f
        → Fails (here MissingKey (has key) ++ behind (under key) rows) t n f
    missed None e p = rows_left t n f (here MissingKey (has key)) (behind (under key) rows)
        (at_itself t n f MissingKey (has key) (ap is_some e) p)
    missed (Some k) e p = rows_right t n f (here MissingKey (has key)) (behind (under key) rows)
        (found (Some k) e p)

    to_missed : (o : Option ℕ) → find_in t n key ≡ o
        → Fails (here MissingKey (has key)) t n f ⊎ Fails (behind (under key) rows) t n f
        → IsOneOf (under_by (g t) (fails MissingKey t n) o) f
    to_missed None e (inl p) = (of_itself t n f MissingKey (has key) p).1
    to_missed None e (inr p) = absurd (to_found None e p)
    to_missed (Some k) e (inl p) = never (has key t n) (ap is_some e)
        (of_itself t n f MissingKey (has key) p).0
    to_missed (Some k) e (inr p) = to_found (Some k) e p

  pub allowed : (key : List ℕ) → Tells (behind (under key) rows) (optional key g)
  allowed key t n f = (
    found key t n f (find_in t n key) refl,
    to_found key t n f (find_in t n key)
        refl,
  )

  pub needed : (key : List ℕ) → Tells (here MissingKey (has key) ++ behind (under key) rows)
      (required key g)
  needed key t n f = (
    missed key t n f (find_in t n key) refl,
    λ p. to_missed key t n f (find_in t n key) refl
        (rows_cases t n f (here MissingKey (has key)) (behind (under key) rows) p),
  )

  -- a value that passes a test, and else fails a rule
  module _ (rule : Rule) (test : Tree → ℕ → Bool) (t : Tree) (n : ℕ) (f : Failure) where
    guard : (b : Bool) → test t n ≡ b → IsOneOf (cond b (g t n) (fails rule t n)) f
        → Fails (here rule test ++ behind (when test) rows) t n f
    guard true e p = rows_right t n f (here rule test) (behind (when test) rows)
        (to_behind t n f (when test) rows n (e, refl) ((tells t n f).0 p))
    guard false e p = rows_left t n f (here rule test) (behind (when test) rows)
        (at_itself t n f rule test e p)

    to_guard : (b : Bool) → test t n ≡ b → Fails (here rule test) t n f
        ⊎ Fails (behind (when test) rows) t n f
        → IsOneOf (cond b (g t n) (fails rule t n)) f
    to_guard true e (inl p) = never (test t n) e (of_itself t n f rule test p).0
    to_guard true e (inr p) =
        let (k, leads, q) = from_behind t n f (when test) rows p in
        (tells t n f).1 (subst (λ (m : ℕ). Fails rows t m f) leads.1 q)
    to_guard false e (inl p) = (of_itself t n f rule test p).1
    to_guard false e (inr p) =
        let (k, leads, q) = from_behind t n f (when test) rows p in never (test t n) leads.0 e

  pub guarded : (rule : Rule) (test : Tree → ℕ → Bool)
      → Tells (here rule test ++ behind (when test) rows)
      (λ t n. cond (test t n) (g t n) (fails rule t n))
  guarded rule test t n f = (
    guard rule test t n f (test t n) refl,
    λ p. to_guard rule test t n f (test t n) refl
        (rows_cases t n f (here rule test) (behind (when test) rows) p),
  )

  pub inside : Tells (here WrongShape is_dictionary ++ behind (when is_dictionary) rows)
      (dictionary g)
  inside = guarded WrongShape is_dictionary

  module _ (t : Tree) (n : ℕ) (f : Failure) where
    items : (o : Option (List ℕ)) → items_at t n ≡ o → IsOneOf (each_by (g t) t n o) f
        → Fails (here WrongShape is_list ++ behind each_item rows) t n f
    items None e p = rows_left t n f (here WrongShape is_list) (behind each_item rows)
        (at_itself t n f WrongShape is_list (ap is_some e) p)
    items (Some ns) e p =
        let (m, is, q) = of_items (g t) f ns p in
        rows_right t n f (here WrongShape is_list) (behind each_item rows)
        (to_behind t n f each_item rows m (ns, e, is) ((tells t m f).0 q))

    to_each : (ns ms : List ℕ) → Some ns ≡ Some ms → (m : ℕ) → IsOneOf ns m → IsOneOf (g t m) f
        → IsOneOf (flat_map (g t) ms) f
    to_each ns ms e m is q =
        let same : ns ≡ ms = cc in to_items (g t) f ms m
        (subst (λ (ks : List ℕ). IsOneOf ks m) same is) q

    to_some : (o : Option (List ℕ)) → items_at t n ≡ o
        → Fails (here WrongShape is_list) t n f ⊎ Fails (behind each_item rows) t n f
        → IsOneOf (each_by (g t) t n o) f
    to_some None e (inl p) = (of_itself t n f WrongShape is_list p).1
    to_some None e (inr p) =
        let (m, (ns, at, is), q) = from_behind t n f each_item rows p
        in never (is_list t n) (ap is_some at) (ap is_some e)
    to_some (Some ms) e (inl p) = never (is_list t n) (ap is_some e)
        (of_itself t n f WrongShape is_list p).0
    to_some (Some ms) e (inr p) =
        let (m, (ns, at, is), q) = from_behind t n f each_item rows p
        in to_each ns ms (sym at ∙ e) m is ((tells t m f).1 q)

  pub listed : Tells (here WrongShape is_list ++ behind each_item rows) (each g)
  listed t n f = (
    items t n f (items_at t n) refl,
    λ p. to_some t n f (items_at t n) refl
        (rows_cases t n f (here WrongShape is_list) (behind each_item rows) p),
  )

-- ---- one of two, by a test

module _ (test : Tree → ℕ → Bool) (r s : List Row) (g h : Tree → ℕ → List Failure) (a : Tells r g)
    (b : Tells s h) where
  abbrev other : Tree → ℕ → Bool
  other t n = not (test t n)

  module _ (t : Tree) (n : ℕ) (f : Failure) where
    choose : (v : Bool) → test t n ≡ v → IsOneOf (cond v (g t n) (h t n)) f
        → Fails (behind (when test) r ++ behind (when other) s) t n f
    choose true e p =
        rows_left t n f (behind (when test) r) (behind (when other) s)
        (to_behind t n f (when test) r n (e, refl) ((a t n f).0 p))
    choose false e p =
        rows_right t n f (behind (when test) r) (behind (when other) s)
        (to_behind t n f (when other) s n (ap not e, refl) ((b t n f).0 p))

    to_choose : (v : Bool) → test t n ≡ v → Fails (behind (when test) r) t n f
        ⊎ Fails (behind (when other) s) t n f
        → IsOneOf (cond v (g t n) (h t n)) f
    to_choose true e (inl p) =
        let (k, leads, q) = from_behind t n f (when test) r p in
        (a t n f).1 (subst (λ (m : ℕ). Fails r t m f) leads.1 q)
    to_choose true e (inr p) =
        let (k, leads, q) = from_behind t n f (when other) s p
        in never (other t n) leads.0 (ap not e)
    to_choose false e (inl p) =
        let (k, leads, q) = from_behind t n f (when test) r p in never (test t n) leads.0 e
    to_choose false e (inr p) =
        let (k, leads, q) = from_behind t n f (when other) s p in
        (b t n f).1 (subst (λ (m : ℕ). Fails s t m f) leads.1 q)

  pub either : Tells (behind (when test) r ++ behind (when other) s)
      (λ t n. cond (test t n) (g t n) (h t n))
  either t n f = (
    choose t n f (test t n) refl,
    λ p. to_choose t n f (test t n) refl (rows_cases t n f (behind (when test) r)
        (behind (when other) s) p),
  )

-- ---- the rows of one rule

module _ (t : Tree) (n : ℕ) (f : Failure) where
  same_rule : (row : Row) → FailsRow row t n f → (rule_number row.rule == rule_number f.rule) ≡ true
  same_rule row (m, reaches, not, is) =
      let e : rule_number row.rule ≡ rule_number f.rule
      = sym (ap (λ (g : Failure). rule_number g.rule) is) in
      grind (arith, nat_tests, e)

  kept : (b : Bool) (row : Row) (rows rest : List Row) → (FailsRow row t n f → b ≡ true)
      → FailsRow row t n f
      → Fails (cond b (row ∷ rest) rows) t n f
  kept true row rows rest same p = inl p
  kept false row rows rest same p = absurd (true≢false (sym (same p)))

  passed_on : (b : Bool) (row : Row) (rest : List Row) → Fails rest t n f
      → Fails (cond b (row ∷ rest) rest) t n f
  passed_on true row rest p = inr p
  passed_on false row rest p = p

  pub to_rule : (rows : List Row) → Fails rows t n f → Fails (rows_of f.rule rows) t n f
  to_rule [] p = p
  to_rule (row ∷ rows) (inl p) =
      kept (rule_number row.rule == rule_number f.rule) row (rows_of f.rule rows)
      (rows_of f.rule rows) (same_rule row) p
  to_rule (row ∷ rows) (inr p) =
      passed_on (rule_number row.rule == rule_number f.rule) row (rows_of f.rule rows)
      (to_rule rows p)

  taken : (b : Bool) (row : Row) (rows rest : List Row) → (Fails rest t n f → Fails rows t n f)
      → Fails (cond b (row ∷ rest) rest) t n f → Fails (row ∷ rows) t n f
  taken true row rows rest h (inl p) = inl p
  taken true row rows rest h (inr p) = inr (h p)
  taken false row rows rest h p = inr (h p)

  pub of_rule : (rule : Rule) (rows : List Row) → Fails (rows_of rule rows) t n f → Fails rows t n f
  of_rule rule [] p = p
  of_rule rule (row ∷ rows) p =
      taken (rule_number row.rule == rule_number rule) row rows (rows_of rule rows)
      (of_rule rule rows) p

-- a table tells of each rule by the rows of that rule alone
pub by_rule : (rows : List Row) (g : Tree → ℕ → List Failure) → Tells rows g → TellsByRule rows g
by_rule rows g tells t n rule place =
    let f : Failure = record { rule = rule; place = place } in
    (λ p. to_rule t n f rows ((tells t n f).0 p), λ p. (tells t n f).1 (of_rule t n f rule rows p))
