-- How tables tell of each kind of value: what the proofs of tables in other crates need, and no
-- reader.
use Rattle.std.proofs.Common.{inl, inr, ◌≡◌, ◌⊎◌, ℕ, Bool, true, false, not, ◌||◌, cond, List, []}
use Rattle.std.proofs.Common.{◌∷◌, ◌++◌, Option, Some, None, is_some, refl, sym, ap, ◌∙◌, subst}
use Rattle.std.specs.Option.{option_map_or}
use Rattle.plist_reader.specs.declared.tree.Tree.{Tree}
use Rattle.plist_reader.specs.Tree.{text_at}
use Rattle.refusal_codes.specs.declared.rule.Rule.{Rule}
use Rattle.refusal_codes.specs.declared.rule.Rule.TheVariants.{WrongShape, NotWhole, OutOfRange}
use Rattle.refusal_codes.specs.declared.first.Failure.{Failure}
use Rattle.source_values.specs.declared.decimals.Decimal.{Decimal}
use Rattle.source_values.specs.declared.kinds.Range.{Range}
use Rattle.source_values.specs.Decimals.{is_whole}
use Rattle.source_values.specs.Values.{items_at, pairs_at, is_dictionary, decimal_at, in_range}
use Rattle.source_values.specs.Asking.{fails, range_rule, whole_failures_by, whole_failures}
use Rattle.source_values.specs.Asking.{text_failures, name_failures_by, name_failures}
use Rattle.source_values.specs.Asking.{dictionary_failures, is_empty_list, empty_list_failures}
use Rattle.source_values.specs.Asking.{is_empty_dictionary, empty_dictionary_failures}
use Rattle.source_values.specs.Ways.{IsOneOf, Fails, Tells, here}
use Rattle.source_values.specs.WayLaws.{rows_left, rows_right, rows_cases, at_itself, of_itself}
use Rattle.source_values.specs.WayLaws.{by_test, to_test, tested, never}
use Rattle.source_values.specs.Tables.{is_within, is_text_value, whole_table, decimal_table}
use Rattle.source_values.specs.Tables.{text_table, has_name_length, name_table, dictionary_table}
use Rattle.source_values.specs.Tables.{empty_list_table, empty_dictionary_table}

-- ---- what is looked up, and then tested

module _ {X : Type 0} (look : Tree → ℕ → Option X) where
  abbrev there : Tree → ℕ → Bool
  there t n = is_some (look t n)

  abbrev passes : (X → Bool) → Tree → ℕ → Bool
  passes test t n = option_map_or test (look t n) true

  abbrev looked : (Tree → ℕ → X → List Failure) → Tree → ℕ → Option X → List Failure
  looked G t n None = fails WrongShape t n
  looked G t n (Some x) = G t n x

  module _ (rule : Rule) (test : X → Bool) (t : Tree) (n : ℕ) (f : Failure) where
    abbrev one_test : Tree → ℕ → X → List Failure
    one_test t n x = cond (test x) [] (fails rule t n)

    by_look : (o : Option X) → look t n ≡ o → IsOneOf (looked one_test t n o) f
        → Fails (here WrongShape there ++ here rule (passes test)) t n f
    by_look None e p =
        rows_left t n f (here WrongShape there) (here rule (passes test))
        (at_itself t n f WrongShape there (ap is_some e) p)
    by_look (Some x) e p =
        rows_right t n f (here WrongShape there) (here rule (passes test))
        (by_test rule (passes test) t n f (test x)
        (ap (λ (o : Option X). option_map_or test o true) e) p)

    to_look : (o : Option X) → look t n ≡ o
        → Fails (here WrongShape there) t n f ⊎ Fails (here rule (passes test)) t n f
        → IsOneOf (looked one_test t n o) f
    to_look None e (inl p) = (of_itself t n f WrongShape there p).1
    to_look None e (inr p) =
        never (passes test t n) (ap (λ (o : Option X). option_map_or test o true) e)
        (of_itself t n f rule (passes test) p).0
    to_look (Some x) e (inl p) = never (there t n) (ap is_some e)
        (of_itself t n f WrongShape there p).0
    to_look (Some x) e (inr p) =
        to_test rule (passes test) t n f (test x)
        (ap (λ (o : Option X). option_map_or test o true) e) p

  -- of one test
  pub tested_one : (rule : Rule) (test : X → Bool)
      → Tells (here WrongShape there ++ here rule (passes test))
      (λ t n. looked (λ t n x. cond (test x) [] (fails rule t n)) t n (look t n))
  tested_one rule test t n f = (
    by_look rule test t n f (look t n) refl,
    λ p. to_look rule test t n f (look t n) refl
        (rows_cases t n f (here WrongShape there) (here rule (passes test)) p),
  )

  -- the same of rules that are written out
  module _ (rule : Rule) (test : X → Bool) (F : Tree → ℕ → Option X → List Failure)
      (none : (t : Tree) (n : ℕ) → F t n None ≡ fails WrongShape t n)
      (some : (t : Tree) (n : ℕ) (x : X) → F t n (Some x) ≡ cond (test x) [] (fails rule t n)) where
    written : (t : Tree) (n : ℕ) (o : Option X)
        → looked (λ t n x. cond (test x) [] (fails rule t n)) t n o ≡ F t n o
    written t n None = sym (none t n)
    written t n (Some x) = sym (some t n x)

    pub tested_by : Tells (here WrongShape there ++ here rule (passes test))
        (λ t n. F t n (look t n))
    tested_by t n f =
        let same = written t n (look t n) in
        let both = tested_one rule test t n f in (
          λ p. both.0 (subst (λ (fs : List Failure). IsOneOf fs f) (sym same) p),
          λ p. subst (λ (fs : List Failure). IsOneOf fs f) same (both.1 p),
        )

pub decimal_tells : (rule : Rule) (test : Decimal → Bool)
    (F : Tree → ℕ → Option Decimal → List Failure)
    → ((t : Tree) (n : ℕ) → F t n None ≡ fails WrongShape t n)
    → ((t : Tree) (n : ℕ) (d : Decimal) → F t n (Some d) ≡ cond (test d) [] (fails rule t n))
    → Tells (decimal_table rule test) (λ t n. F t n (decimal_at t n))
decimal_tells rule test F none some = tested_by decimal_at rule test F none some

-- ---- decimals

module _ (range : Range) (t : Tree) (n : ℕ) (f : Failure) where
  abbrev whole_one : Tree → ℕ → Bool
  whole_one t n = option_map_or is_whole (decimal_at t n) true

  abbrev within_one : Tree → ℕ → Bool
  within_one t n = option_map_or (is_within range) (decimal_at t n) true

  abbrev decimal_one : Tree → ℕ → Bool
  decimal_one t n = is_some (decimal_at t n)

  by_parts : (d : Decimal) → decimal_at t n ≡ Some d → (a : Bool) → is_whole d ≡ a
      → IsOneOf (cond a (cond (in_range range d) [] (fails (range_rule range) t n))
      (fails NotWhole t n)) f
      → Fails (whole_table range) t n f
  by_parts d e true w p =
      rows_right t n f (here WrongShape decimal_one ++ here NotWhole whole_one)
      (here (range_rule range) within_one)
      (by_test (range_rule range) within_one t n f (in_range range d)
      (ap (λ (o : Option Decimal). option_map_or (is_within range) o true) e
      ∙ ap (λ (b : Bool). not b || in_range range d) w) p)
  by_parts d e false w p =
      rows_left t n f (here WrongShape decimal_one ++ here NotWhole whole_one)
      (here (range_rule range) within_one)
      (rows_right t n f (here WrongShape decimal_one) (here NotWhole whole_one)
      (at_itself t n f NotWhole whole_one (ap
      (λ (o : Option Decimal). option_map_or is_whole o true) e ∙ w) p))

  by_decimal : (o : Option Decimal) → decimal_at t n ≡ o → IsOneOf (whole_failures_by range t n o) f
      → Fails (whole_table range) t n f
  by_decimal None e p =
      rows_left t n f (here WrongShape decimal_one ++ here NotWhole whole_one)
      (here (range_rule range) within_one)
      (rows_left t n f (here WrongShape decimal_one) (here NotWhole whole_one)
      (at_itself t n f WrongShape decimal_one (ap is_some e) p))
  by_decimal (Some d) e p = by_parts d e (is_whole d) refl p

  to_parts : (d : Decimal) → decimal_at t n ≡ Some d → (a : Bool) → is_whole d ≡ a
      → (Fails (here WrongShape decimal_one) t n f ⊎ Fails (here NotWhole whole_one) t n f)
      ⊎ Fails (here (range_rule range) within_one) t n f
      → IsOneOf (cond a (cond (in_range range d) [] (fails (range_rule range) t n))
      (fails NotWhole t n)) f
  to_parts d e a w (inl (inl p)) = never (decimal_one t n) (ap is_some e)
      (of_itself t n f WrongShape decimal_one p).0
  to_parts d e true w (inl (inr p)) =
      never (whole_one t n) (ap (λ (o : Option Decimal). option_map_or is_whole o true) e ∙ w)
      (of_itself t n f NotWhole whole_one p).0
  to_parts d e false w (inl (inr p)) = (of_itself t n f NotWhole whole_one p).1
  to_parts d e true w (inr p) =
      to_test (range_rule range) within_one t n f (in_range range d)
      (ap (λ (o : Option Decimal). option_map_or (is_within range) o true) e
      ∙ ap (λ (b : Bool). not b || in_range range d) w) p
  to_parts d e false w (inr p) =
      never (within_one t n)
      (ap (λ (o : Option Decimal). option_map_or (is_within range) o true) e
      ∙ ap (λ (b : Bool). not b || in_range range d) w)
      (of_itself t n f (range_rule range) within_one p).0

  to_decimal : (o : Option Decimal) → decimal_at t n ≡ o
      → (Fails (here WrongShape decimal_one) t n f ⊎ Fails (here NotWhole whole_one) t n f)
      ⊎ Fails (here (range_rule range) within_one) t n f
      → IsOneOf (whole_failures_by range t n o) f
  to_decimal None e (inl (inl p)) = (of_itself t n f WrongShape decimal_one p).1
  to_decimal None e (inl (inr p)) =
      never (whole_one t n) (ap (λ (o : Option Decimal). option_map_or is_whole o true) e)
      (of_itself t n f NotWhole whole_one p).0
  to_decimal None e (inr p) =
      never (within_one t n) (ap (λ (o : Option Decimal). option_map_or (is_within range) o true) e)
      (of_itself t n f (range_rule range) within_one p).0
  to_decimal (Some d) e p = to_parts d e (is_whole d) refl p

  three : Fails (whole_table range) t n f
      → (Fails (here WrongShape decimal_one) t n f ⊎ Fails (here NotWhole whole_one) t n f)
      ⊎ Fails (here (range_rule range) within_one) t n f
  three p = elim (rows_cases t n f (here WrongShape decimal_one ++ here NotWhole whole_one)
      (here (range_rule range) within_one) p) [
        | inl q ↦ inl (rows_cases t n f (here WrongShape decimal_one) (here NotWhole whole_one) q)
        | inr q ↦ inr q
      ]

pub whole_tells : (range : Range) → Tells (whole_table range) (whole_failures range)
unfolding whole_failures
whole_tells range t n f = (
  by_decimal range t n f (decimal_at t n) refl,
  λ p. to_decimal range t n f (decimal_at t n) refl (three range t n f p),
)

-- ---- the other kinds

pub text_tells : Tells text_table text_failures
unfolding text_failures
text_tells = tested WrongShape is_text_value

pub name_tells : Tells name_table name_failures
unfolding name_failures
name_tells =
    tested_by (λ t n. text_at t.nodes n) OutOfRange has_name_length name_failures_by (λ t n. refl)
    (λ t n text. refl)

pub dictionary_tells : Tells dictionary_table dictionary_failures
unfolding dictionary_failures
dictionary_tells = tested WrongShape is_dictionary

pub empty_list_tells : Tells empty_list_table empty_list_failures
unfolding empty_list_failures
empty_list_tells = tested WrongShape (λ t n. is_empty_list (items_at t n))

pub empty_dictionary_tells : Tells empty_dictionary_table empty_dictionary_failures
unfolding empty_dictionary_failures
empty_dictionary_tells = tested WrongShape (λ t n. is_empty_dictionary (pairs_at t n))
