-- No local rule of the index is that of a repeated name or of a repeated code.
use Rattle.std.proofs.Common.{◌≡◌, ℕ, Bool, true, false, cond, List, [], ◌∷◌, ◌++◌, Option, Some}
use Rattle.std.proofs.Common.{None, unwrap_or, ap, sym, subst}
use Rattle.std.specs.Prelude.{flat_map, codes}
use Rattle.std.specs.List.{AllByRecursion}
use Rattle.std.proofs.lemmas.List.Concat.{flat_map-cons}
use Rattle.plist_reader.specs.declared.tree.Tree.{Tree}
use Rattle.plist_reader.specs.Tree.{find_in, text_at}
use Rattle.refusal_codes.specs.declared.first.Failure.{Failure}
use Rattle.refusal_codes.specs.declared.rule.Rule.TheVariants.{WrongShape, MissingKey, OutOfRange}
use Rattle.refusal_codes.specs.declared.rule.Rule.TheVariants.{DuplicateGlyph, DuplicateUnicode}
use Rattle.refusal_codes.specs.First.{first_of, noted, is_before}
use Rattle.source_values.specs.declared.decimals.Decimal.{Decimal}
use Rattle.source_values.specs.declared.kinds.Range.{Range}
use Rattle.source_values.specs.declared.kinds.Range.TheVariants.{Any, Natural, Code, Coordinate}
use Rattle.source_values.specs.Decimals.{is_whole}
use Rattle.source_values.specs.Values.{is_list, is_dictionary, items_at, decimal_at, in_range}
use Rattle.source_values.specs.Asking.{fails, range_rule, whole_failures_by, whole_failures}
use Rattle.source_values.specs.Asking.{text_failures, name_failures_by, name_failures, each_by}
use Rattle.source_values.specs.Asking.{each, dictionary, under_by, required, optional}
use Rattle.glyphs_source.specs.IndexReading.{codes_failures, glyph_parts_failures}
use Rattle.glyphs_source.specs.IndexReading.{glyph_list_failures, index_failures}

-- what holds of each failure of a list holds of the least
both : (P : Failure → Type 0) (b : Bool) (x y : Failure) → P x → P y → P (cond b x y)
both P true x y p q = p
both P false x y p q = q

noted_in : (P : Failure → Type 0) (least : Failure) (fs : List Failure) (f : Failure) → P least
    → AllByRecursion P fs → noted (Some least) fs ≡ Some f → P f
noted_in P least [] f p h e = subst P (ap (λ o. unwrap_or o least) e) p
noted_in P least (g ∷ gs) f p h e = noted_in P (cond (is_before g least) g least) gs f
    (both P (is_before g least) g least h.0 p) h.1 e

first_in : (P : Failure → Type 0) (fs : List Failure) (f : Failure) → AllByRecursion P fs
    → first_of fs ≡ Some f → P f
first_in P [] f h e = absurd cc
first_in P (g ∷ gs) f h e = noted_in P g gs f h.0 h.1 e

-- a failure of another rule than these two
abbrev pub IsLocal : Failure → Type 0
IsLocal f = (¬ (f.rule ≡ DuplicateGlyph)) × (¬ (f.rule ≡ DuplicateUnicode))

abbrev AreLocal : List Failure → Type 0
AreLocal = AllByRecursion IsLocal

joined : (xs ys : List Failure) → AreLocal xs → AreLocal ys → AreLocal (xs ++ ys)
joined [] ys h k = k
joined (x ∷ xs) ys h k = (h.0, joined xs ys h.1 k)

of_each : (f : ℕ → List Failure) → ((n : ℕ) → AreLocal (f n)) → (xs : List ℕ)
    → AreLocal (flat_map f xs)
of_each f h [] = tt
of_each f h (x ∷ xs) = subst AreLocal (sym (flat_map-cons f x xs))
    (joined (f x) (flat_map f xs) (h x) (of_each f h xs))

either_of : (b : Bool) (xs ys : List Failure) → AreLocal xs → AreLocal ys → AreLocal (cond b xs ys)
either_of true xs ys h k = h
either_of false xs ys h k = k

-- what a value fails is of another rule, whatever the value
abbrev IsLocalRule : (Tree → ℕ → List Failure) → Type 0
IsLocalRule failures = (t : Tree) (n : ℕ) → AreLocal (failures t n)

shape : IsLocalRule (fails WrongShape)
shape t n = ((λ e. absurd cc, λ e. absurd cc), tt)

outside : (range : Range) → IsLocalRule (fails (range_rule range))
outside Any t n = ((λ e. absurd cc, λ e. absurd cc), tt)
outside (Natural low high) t n = ((λ e. absurd cc, λ e. absurd cc), tt)
outside Code t n = ((λ e. absurd cc, λ e. absurd cc), tt)
outside Coordinate t n = ((λ e. absurd cc, λ e. absurd cc), tt)

whole_by : (range : Range) (t : Tree) (n : ℕ) (o : Option Decimal)
    → AreLocal (whole_failures_by range t n o)
whole_by range t n None = shape t n
whole_by range t n (Some d) =
    either_of (is_whole d) _ _
    (either_of (in_range range d) [] (fails (range_rule range) t n) tt (outside range t n))
    ((λ e. absurd cc, λ e. absurd cc), tt)

whole : (range : Range) → IsLocalRule (whole_failures range)
unfolding whole_failures
whole range t n = whole_by range t n (decimal_at t n)

text : IsLocalRule text_failures
unfolding text_failures
text t n = either_of _ [] (fails WrongShape t n) tt (shape t n)

name_by : (t : Tree) (n : ℕ) (o : Option (List ℕ)) → AreLocal (name_failures_by t n o)
name_by t n None = shape t n
name_by t n (Some text) = either_of _ [] (fails OutOfRange t n) tt
    ((λ e. absurd cc, λ e. absurd cc), tt)

name : IsLocalRule name_failures
unfolding name_failures
name t n = name_by t n (text_at t.nodes n)

-- ---- values in others

module _ (failures : Tree → ℕ → List Failure) (h : IsLocalRule failures) where
  under : (t : Tree) (missing : List Failure) (o : Option ℕ) → AreLocal missing
      → AreLocal (under_by (failures t) missing o)
  under t missing None k = k
  under t missing (Some n) k = h t n

  needed : (key : List ℕ) → IsLocalRule (required key failures)
  needed key t n = under t (fails MissingKey t n) (find_in t n key)
      ((λ e. absurd cc, λ e. absurd cc), tt)

  allowed : (key : List ℕ) → IsLocalRule (optional key failures)
  allowed key t n = under t [] (find_in t n key) tt

  listed_by : (t : Tree) (n : ℕ) (o : Option (List ℕ)) → AreLocal (each_by (failures t) t n o)
  listed_by t n None = shape t n
  listed_by t n (Some items) = of_each (failures t) (h t) items

  listed : IsLocalRule (each failures)
  listed t n = listed_by t n (items_at t n)

  inside : IsLocalRule (dictionary failures)
  inside t n = either_of (is_dictionary t n) _ _ (h t n) (shape t n)

-- ---- the index

code : IsLocalRule codes_failures
unfolding codes_failures
code t n = either_of (is_list t n) _ _ (listed (whole_failures Code) (whole Code) t n)
    (whole Code t n)

parts : IsLocalRule glyph_parts_failures
unfolding glyph_parts_failures
parts t g =
    joined _ _
    (joined _ _
    (joined _ _
    (joined _ _ (needed name_failures name (codes "glyphname") t g)
    (allowed codes_failures code (codes "unicode") t g))
    (allowed (whole_failures Any) (whole Any) (codes "export") t g))
    (allowed text_failures text (codes "kernLeft") t g))
    (allowed text_failures text (codes "kernRight") t g)

glyph : IsLocalRule (dictionary glyph_parts_failures)
glyph = inside glyph_parts_failures parts

glyphs : IsLocalRule glyph_list_failures
unfolding glyph_list_failures
glyphs = allowed (each (dictionary glyph_parts_failures))
    (listed (dictionary glyph_parts_failures) glyph) (codes "glyphs")

pub first_local : (t : Tree) (f : Failure) → first_of (index_failures t) ≡ Some f → IsLocal f
first_local t f e = first_in IsLocal (index_failures t) f
    (inside glyph_list_failures glyphs t t.top) e
