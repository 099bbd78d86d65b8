-- The laws of what is read.
use Rattle.std.proofs.Common.{◌≡◌, ◌≢◌, ℕ, ℤ, zero, suc, ◌+◌, ◌<◌, ◌≤◌, true}
use Rattle.std.proofs.Common.{List}
use Rattle.std.proofs.Common.{length, Option, Some, None, Result, Ok, refl, arith, pos, ap, ◌∙◌}
use Rattle.std.specs.Ordering.{int_eq}
use Rattle.std.proofs.lemmas.Int.{ints}
use Rattle.std.proofs.lemmas.Bool.Decides.{eqb_tells, nat_tests}
use Rattle.std.proofs.Math.Bool.{or-true}
use Rattle.std.proofs.Common.{inl, inr}
use Rattle.variation_model.specs.Scalar.{axis_scalar}
use Rattle.fixed_math.specs.declared.F2Dot14.{F2Dot14}
use Rattle.fixed_math.specs.ProductLaws.{product_one_right}
use Rattle.font_reader.specs.declared.faults.FontFault.{FontFault}
use Rattle.font_reader.specs.declared.directory.TheConstants.{GVAR}
use Rattle.font_reader.specs.declared.fields.Table.{Table}
use Rattle.font_reader.specs.declared.packed.Target.{Target}
use Rattle.font_reader.specs.declared.tuples.TupleHeader.{TupleHeader}
use Rattle.font_reader.specs.Directory.{entry_table, entry_tag, is_within, table_of, whole_entries}
use Rattle.font_reader.specs.Directory.{table_in_entry}
use Rattle.font_reader.specs.Fold.{folded}
use Rattle.font_reader.specs.Search.{first_some}
use Rattle.font_reader.specs.Stores.{coordinate, one}
use Rattle.font_reader.specs.Tuples.{no_offset, offset_in, point_offset, tuple_scalar}
use Rattle.font_reader.specs.Tuples.{variations_of, with_tuple_axis}
use Rattle.font_reader.specs.Laws.{IsAtPeak, IsFirstOfTag}

pub stays_without_table : (bytes : List ℕ) (gid glyphs : ℕ) (target : Target)
    (place : List F2Dot14) (xs ys : List ℤ) → table_of bytes GVAR ≡ None
    → point_offset bytes gid glyphs target place xs ys ≡ Ok no_offset
unfolding point_offset
stays_without_table bytes gid glyphs target place xs ys e = rw (point_offset, e) refl

pub stays_without_tuples : (bytes : List ℕ) (gvar : Table) (gid glyphs : ℕ) (target : Target)
    (place : List F2Dot14) (xs ys : List ℤ) → table_of bytes GVAR ≡ Some gvar
    → variations_of bytes gvar gid (length place) glyphs ≡ Ok None
    → point_offset bytes gid glyphs target place xs ys ≡ Ok no_offset
unfolding point_offset offset_in
stays_without_tuples bytes gvar gid glyphs target place xs ys e f =
    rw (point_offset, e, offset_in, f) refl

-- a fold that changes nothing
same : {S : Type 0} (f : ℕ → S → Result S FontFault) (i left : ℕ) (s : S)
    → ((j : ℕ) → i ≤ j → j < i + left → f j s ≡ Ok s) → folded f i left s ≡ Ok s
same f i zero s h = refl
same f i (suc left) s h =
    rw (folded, h i (omega arith) (omega arith))
    (same f (i + 1) left s (λ j le lt. h j (omega arith) (omega arith)))

-- on an axis
same_number : (z : ℤ) → int_eq z z ≡ true
same_number z = grind (arith, ints)

peak_scalar : (from v to : F2Dot14) → axis_scalar (from, v, to) v ≡ pos 65536
peak_scalar from v to = rw (same_number v.0, or-true (int_eq v.0 (pos 0))) refl

at_peak : (bytes : List ℕ) (gvar : Table) (header : TupleHeader) (place : List F2Dot14) (i : ℕ)
    → IsAtPeak bytes gvar header place i
    → with_tuple_axis bytes gvar header place i one ≡ Ok one
unfolding with_tuple_axis
at_peak bytes gvar header place i peak =
    rw (
      peak.side,
      peak_scalar peak.from (coordinate place i) peak.to,
      product_one_right (pos 65536),
    ) refl

pub peaks_are_whole : (bytes : List ℕ) (gvar : Table) (header : TupleHeader)
    (place : List F2Dot14) → ((i : ℕ) → i < length place → IsAtPeak bytes gvar header place i)
    → tuple_scalar bytes gvar header place ≡ Ok one
unfolding tuple_scalar
peaks_are_whole bytes gvar header place h = same (with_tuple_axis bytes gvar header place) 0
    (length place) one
    (λ j le lt. at_peak bytes gvar header place j (h j (omega arith)))

-- a search that finds nothing before a place
first : {X : Type 0} (f : ℕ → Option X) (i left k : ℕ) (x : X) → i ≤ k → k < i + left
    → ((j : ℕ) → i ≤ j → j < k → f j ≡ None) → f k ≡ Some x → first_some f i left ≡ Some x
first f i zero k x le lt h e = absurd (omega arith)
first f i (suc left) k x le lt h e = elim (eqb_tells i k) [
  | inl p ↦ (let here : f i ≡ Some x = ap f p.1 ∙ e in rw (first_some, here) refl)
  | inr p ↦ (let differs = p.1 in rw (first_some, h i (omega arith) (omega arith))
      (first f (i + 1) left k x (omega arith) (omega arith)
      (λ j le2 below. h j (omega arith) below) e))
]

in_entry : (bytes : List ℕ) (tag k : ℕ) → entry_tag bytes k ≡ tag
    → is_within bytes (entry_table bytes k) ≡ true
    → table_in_entry bytes tag k ≡ Some (entry_table bytes k)
unfolding table_in_entry
in_entry bytes tag k e f = grind (arith, nat_tests)

not_in_entry : (bytes : List ℕ) (tag j : ℕ) → entry_tag bytes j ≢ tag
    → table_in_entry bytes tag j ≡ None
unfolding table_in_entry
not_in_entry bytes tag j e = grind (arith, nat_tests)

pub tables_are_found : (bytes : List ℕ) (tag k : ℕ) → IsFirstOfTag bytes tag k
    → table_of bytes tag ≡ Some (entry_table bytes k)
unfolding table_of
tables_are_found bytes tag k found =
    let lt = found.whole in
    first (table_in_entry bytes tag) 0 (whole_entries bytes) k (entry_table bytes k)
    (omega arith) (omega arith)
    (λ j le below. not_in_entry bytes tag j (found.first j below))
    (in_entry bytes tag k found.has_tag found.lies_within)
