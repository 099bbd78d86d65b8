-- How tables tell of rules that are made of others, as records whose parts a proof finds by itself:
-- what the proofs of tables in other crates need, and no reader.
use Rattle.std.proofs.Common.{inl, inr, ◌≡◌, not, ℕ, Bool, cond, List, [], ◌∷◌, ◌++◌, Option, Some}
use Rattle.std.proofs.Common.{None, refl, sym, ap, ◌∙◌, subst}
use Rattle.std.specs.Prelude.{flat_map, slice_get}
use Rattle.std.specs.Option.{option_map_or}
use Rattle.std.proofs.lemmas.List.Concat.{flat_map-cons}
use Rattle.plist_reader.specs.declared.tree.Tree.{Tree}
use Rattle.refusal_codes.specs.declared.rule.Rule.{Rule}
use Rattle.refusal_codes.specs.declared.rule.Rule.TheVariants.{WrongShape}
use Rattle.refusal_codes.specs.declared.first.Failure.{Failure}
use Rattle.source_values.specs.declared.decimals.Decimal.{Decimal}
use Rattle.source_values.specs.declared.kinds.Range.{Range}
use Rattle.source_values.specs.Values.{items_at, decimal_at}
use Rattle.source_values.specs.Asking.{fails, whole_failures, text_failures, name_failures}
use Rattle.source_values.specs.Asking.{dictionary_failures, empty_list_failures}
use Rattle.source_values.specs.Asking.{empty_dictionary_failures, each, dictionary, required}
use Rattle.source_values.specs.Asking.{optional}
use Rattle.source_values.specs.Ways.{IsOneOf, Row, Fails, Tells, item, when, here, behind}
use Rattle.source_values.specs.WayLaws.{among_left, among_right, among_cases, from_behind}
use Rattle.source_values.specs.WayLaws.{to_behind, tested, joined, allowed, needed, listed, inside}
use Rattle.source_values.specs.WayLaws.{guarded, either}
use Rattle.source_values.specs.Tables.{whole_table, decimal_table, text_table, name_table}
use Rattle.source_values.specs.Tables.{dictionary_table, empty_list_table, empty_dictionary_table}
use Rattle.source_values.specs.Tables.{required_table, optional_table, each_table, inside_table}
use Rattle.source_values.specs.KindLaws.{decimal_tells, whole_tells, text_tells, name_tells}
use Rattle.source_values.specs.KindLaws.{dictionary_tells, empty_list_tells, empty_dictionary_tells}

-- a table that tells of rules
pub record Told (rows : List Row) (g : Tree → ℕ → List Failure) : Type 0 where
  pub tells : Tells rows g

-- ---- single values

pub whole : (range : Range) → Told (whole_table range) (whole_failures range)
whole range = record { tells = whole_tells range }

pub text : Told text_table text_failures
text = record { tells = text_tells }

pub name : Told name_table name_failures
name = record { tells = name_tells }

pub any_dictionary : Told dictionary_table dictionary_failures
any_dictionary = record { tells = dictionary_tells }

pub no_items : Told empty_list_table empty_list_failures
no_items = record { tells = empty_list_tells }

pub no_pairs : Told empty_dictionary_table empty_dictionary_failures
no_pairs = record { tells = empty_dictionary_tells }

-- a value that passes a test
pub tried : (rule : Rule) (test : Tree → ℕ → Bool)
    → Told (here rule test) (λ t n. cond (test t n) [] (fails rule t n))
tried rule test = record { tells = tested rule test }

-- a decimal that passes a test
pub measured : (rule : Rule) (test : Decimal → Bool)
    (F : Tree → ℕ → Option Decimal → List Failure)
    → ((t : Tree) (n : ℕ) → F t n None ≡ fails WrongShape t n)
    → ((t : Tree) (n : ℕ) (d : Decimal) → F t n (Some d) ≡ cond (test d) [] (fails rule t n))
    → Told (decimal_table rule test) (λ t n. F t n (decimal_at t n))
measured rule test F none some = record { tells = decimal_tells rule test F none some }

-- ---- rules that are written in another way

module _ {rows : List Row} {g : Tree → ℕ → List Failure} (a : Told rows g)
    (h : Tree → ℕ → List Failure) (same : (t : Tree) (n : ℕ) → h t n ≡ g t n) where
  pub rewritten : Told rows h
  rewritten = record {
    tells = λ t n f. (
      λ p. (a.tells t n f).0 (subst (λ (fs : List Failure). IsOneOf fs f) (same t n) p),
      λ p. subst (λ (fs : List Failure). IsOneOf fs f) (sym (same t n)) ((a.tells t n f).1 p),
    );
  }

-- ---- combinators

pub also : {r s : List Row} {g h : Tree → ℕ → List Failure} → Told r g → Told s h
    → Told (r ++ s) (λ t n. g t n ++ h t n)
also {r} {s} {g} {h} a b = record { tells = joined r s g h a.tells b.tells }

pub must : {rows : List Row} {g : Tree → ℕ → List Failure} → (key : List ℕ) → Told rows g
    → Told (required_table key rows) (required key g)
must {rows} {g} key a = record { tells = needed rows g a.tells key }

pub can : {rows : List Row} {g : Tree → ℕ → List Failure} → (key : List ℕ) → Told rows g
    → Told (optional_table key rows) (optional key g)
can {rows} {g} key a = record { tells = allowed rows g a.tells key }

pub every : {rows : List Row} {g : Tree → ℕ → List Failure} → Told rows g
    → Told (each_table rows) (each g)
every {rows} {g} a = record { tells = listed rows g a.tells }

pub within : {rows : List Row} {g : Tree → ℕ → List Failure} → Told rows g
    → Told (inside_table rows) (dictionary g)
within {rows} {g} a = record { tells = inside rows g a.tells }

-- a value that passes a test, and else fails a rule
pub checked : {rows : List Row} {g : Tree → ℕ → List Failure} → Told rows g → (rule : Rule)
    → (test : Tree → ℕ → Bool)
    → Told (here rule test ++ behind (when test) rows)
    (λ t n. cond (test t n) (g t n) (fails rule t n))
checked {rows} {g} a rule test = record { tells = guarded rows g a.tells rule test }

-- one of two, by a test
pub choice : {r s : List Row} {g h : Tree → ℕ → List Failure} → (test : Tree → ℕ → Bool)
    → Told r g → Told s h
    → Told (behind (when test) r ++ behind (when (λ t n. not (test t n))) s)
    (λ t n. cond (test t n) (g t n) (h t n))
choice {r} {s} {g} {h} test a b = record { tells = either test r s g h a.tells b.tells }

-- ---- the value at a place of a list

-- what fails of that value, where there is one
abbrev pub at_place : (ℕ → List Failure) → ℕ → Option (List ℕ) → List Failure
at_place failures place None = []
at_place failures place (Some items) = option_map_or failures (slice_get items place) []

some_same : {X : Type 0} {a b : X} → Some a ≡ Some b → a ≡ b
some_same e = cc

some_none : {X A : Type 0} {a : X} → Some a ≡ None → A
some_none e = absurd cc

module _ (rows : List Row) (g : Tree → ℕ → List Failure) (tells : Tells rows g) (place : ℕ)
    (t : Tree) (n : ℕ) (f : Failure) where
  from_item : (ms : List ℕ) (o : Option ℕ) → items_at t n ≡ Some ms → slice_get ms place ≡ o
      → IsOneOf (option_map_or (g t) o []) f → Fails (behind (item place) rows) t n f
  from_item ms None e at p = absurd p
  from_item ms (Some m) e at p = to_behind t n f (item place) rows m (ms, e, at)
      ((tells t m f).0 p)

  from_list : (o : Option (List ℕ)) → items_at t n ≡ o → IsOneOf (at_place (g t) place o) f
      → Fails (behind (item place) rows) t n f
  from_list None e p = absurd p
  from_list (Some ms) e p = from_item ms (slice_get ms place) e refl p

  to_list : (o : Option (List ℕ)) → items_at t n ≡ o → Fails (behind (item place) rows) t n f
      → IsOneOf (at_place (g t) place o) f
  to_list None e p =
      let (m, (ns, here, at), q) = from_behind t n f (item place) rows p in
      some_none (sym here ∙ e)
  to_list (Some ms) e p =
      let (m, (ns, here, at), q) = from_behind t n f (item place) rows p in
      let same : ns ≡ ms = some_same (sym here ∙ e) in
      subst (λ (o : Option ℕ). IsOneOf (option_map_or (g t) o []) f)
      (sym at ∙ ap (λ (ks : List ℕ). slice_get ks place) same) ((tells t m f).1 q)

pub placed : {rows : List Row} {g : Tree → ℕ → List Failure} → (place : ℕ) → Told rows g
    → Told (behind (item place) rows) (λ t n. at_place (g t) place (items_at t n))
placed {rows} {g} place a = record {
  tells = λ t n f. (
    from_list rows g a.tells place t n f (items_at t n) refl,
    to_list rows g a.tells place t n f (items_at t n) refl,
  );
}

-- ---- what fails of several

module _ {X : Type 0} (g : X → List Failure) (f : Failure) where
  pub of_several : (xs : List X) → IsOneOf (flat_map g xs) f
      → (x : X) × IsOneOf xs x × IsOneOf (g x) f
  of_several [] p = absurd p
  of_several (x ∷ xs) p =
      elim (among_cases f (g x) (flat_map g xs)
      (subst (λ (fs : List Failure). IsOneOf fs f) (flat_map-cons g x xs) p)) [
        | inl q ↦ (x, inl refl, q)
        | inr q ↦ (let (y, is, r) = of_several xs q in (y, inr is, r))
      ]

  pub to_several : (xs : List X) (x : X) → IsOneOf xs x → IsOneOf (g x) f
      → IsOneOf (flat_map g xs) f
  to_several [] x p q = absurd p
  to_several (y ∷ xs) x (inl e) q =
      subst (λ (fs : List Failure). IsOneOf fs f) (sym (flat_map-cons g y xs))
      (among_left f (g y) (flat_map g xs) (subst (λ (k : X). IsOneOf (g k) f) e q))
  to_several (y ∷ xs) x (inr p) q =
      subst (λ (fs : List Failure). IsOneOf fs f) (sym (flat_map-cons g y xs))
      (among_right f (g y) (flat_map g xs) (to_several xs x p q))
