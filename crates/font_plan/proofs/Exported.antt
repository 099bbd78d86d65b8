-- A glyph is among those of the font where its entry is exported, and the number of a name is that
-- of the entry with it.
use Rattle.std.proofs.Common.{◌≡◌, ℕ, zero, suc, ◌+◌, Bool, true, false, ◌&&◌, not, cond, inl, inr}
use Rattle.std.proofs.Common.{List, [], ◌∷◌, map, Option, Some, None, refl, sym, ap, ◌∙◌, subst}
use Rattle.std.proofs.Common.{arith, true≢false}
use Rattle.std.specs.Prelude.{codes, nat_eq, slice_get, if◌then◌else◌}
use Rattle.std.specs.List.{IsDistinct, AllByRecursion}
use Rattle.std.specs.Map.{keys_of, lookup}
use Rattle.std.specs.Option.{option_map}
use Rattle.std.specs.Cmp.Lexicographic.{pointwise, nat_list_eq_equiv}
use Rattle.std.proofs.lemmas.Bool.{and_parts}
use Rattle.glyphs_source.specs.declared.entries.IndexEntry.{IndexEntry}
use Rattle.glyphs_source.specs.IndexReading.{IsNotdefExported}
use Rattle.job_graph.specs.Members.{In, In-append_left, In-append_right, In-append_cases}
use Rattle.character_codes.specs.CharacterCodes.{Entry}
use Rattle.character_codes.specs.OrderLaws.{first_stands}
use Rattle.character_codes.specs.OrderLaws.{at_zero, all_at}
use Rattle.font_plan.specs.Bases.{is_exported, exported_are, named_from}
use Rattle.font_plan.specs.Order.{is_notdef, is_other, notdef_from, others_from, number_of}
use Rattle.font_plan.specs.Order.{numbers_in}
use Rattle.font_plan.proofs.Nesting.{same_bytes, chosen_at}

-- ---- the number of a name

pub named_number : (n : ℕ) (name : List ℕ) (index : List Entry)
    → ((place : ℕ) (entry : Entry) → slice_get index place ≡ Some entry
    → entry.1.number ≡ n + place)
    → option_map (λ (entry : IndexEntry). entry.number) (lookup (pointwise nat_eq name) index)
    ≡ option_map (λ (glyph : ℕ × Entry). glyph.0) (named_from n name index)
named_number n name [] numbered = refl
named_number n name (entry ∷ index) numbered =
    by (pointwise nat_eq name entry.0) (numbered 0 entry refl)
    (named_number (n + 1) name index (λ place other at.
    let is = numbered (suc place) other at in omega (arith, is)))
  where
    by : (b : Bool) → entry.1.number ≡ n + 0
        → option_map (λ (e : IndexEntry). e.number) (lookup (pointwise nat_eq name) index)
        ≡ option_map (λ (glyph : ℕ × Entry). glyph.0) (named_from (n + 1) name index)
        → option_map (λ (e : IndexEntry). e.number)
        (cond b (Some entry.1) (lookup (pointwise nat_eq name) index))
        ≡ option_map (λ (glyph : ℕ × Entry). glyph.0)
        (if b then Some (n, entry) else named_from (n + 1) name index)
    by true is rest = let number : entry.1.number ≡ n = omega (arith, is) in ap Some number
    by false is rest = rest

-- ---- an exported glyph is among those of the font

different_there : (P : List ℕ → Type 0) (index : List Entry) (place : ℕ) (entry : Entry)
    → AllByRecursion P (keys_of index) → slice_get index place ≡ Some entry → P entry.0
different_there P [] place entry all e = absurd cc
different_there P (first ∷ index) zero entry all e =
    let is : first ≡ entry = cc in subst (λ (x : Entry). P x.0) is all.0
different_there P (first ∷ index) (suc place) entry all e =
    different_there P index place entry all.1 e

same_itself : (xs : List ℕ) → pointwise nat_eq xs xs ≡ true
same_itself xs = nat_list_eq_equiv.refl xs

-- no name before that of a glyph is the same
other_before : (first entry : Entry) → pointwise nat_eq first.0 entry.0 ≡ false
    → is_notdef entry ≡ true → (b : Bool) → is_notdef first ≡ b → b ≡ false
other_before first entry apart is false e = refl
other_before first entry apart is true e =
    let a = same_bytes first.0 (codes ".notdef") e in
    let b = same_bytes entry.0 (codes ".notdef") is in
    absurd (true≢false (sym (same_itself first.0)
    ∙ ap (pointwise nat_eq first.0) (a ∙ sym b) ∙ apart))

notdef_first : (n : ℕ) (index : List Entry) (place : ℕ) (entry : Entry)
    → IsDistinct (pointwise nat_eq) (keys_of index) → slice_get index place ≡ Some entry
    → is_notdef entry ≡ true → In (n + place) (number_of (notdef_from n index))
unfolding IsDistinct
notdef_first n [] place entry distinct at is = absurd cc
notdef_first n (first ∷ index) zero entry distinct at is =
    let same : first ≡ entry = cc in
    by (is_notdef first) (ap is_notdef same ∙ is)
  where
    by : (b : Bool) → b ≡ true
        → In (n + 0) (number_of (if b then Some (n, first) else notdef_from (n + 1) index))
    by true e = inl (omega arith)
    by false e = absurd cc
notdef_first n (first ∷ index) (suc place) entry distinct at is =
    by (is_notdef first) (other_before first entry
    (different_there (λ name. pointwise nat_eq first.0 name ≡ false) index place entry distinct.0 at)
    is (is_notdef first) refl) (notdef_first (n + 1) index place entry distinct.1 at is)
  where
    by : (b : Bool) → b ≡ false → In (n + 1 + place) (number_of (notdef_from (n + 1) index))
        → In (n + suc place) (number_of (if b then Some (n, first) else notdef_from (n + 1) index))
    by true e rest = absurd cc
    by false e rest =
        let same : n + 1 + place ≡ n + suc place = omega arith in
        subst (λ glyph. In glyph (number_of (notdef_from (n + 1) index))) same rest

other_chosen : (n : ℕ) (index : List Entry) (place : ℕ) (entry : Entry)
    → slice_get index place ≡ Some entry → is_other entry ≡ true
    → In (n + place) (map (λ (glyph : ℕ × Entry). glyph.0) (others_from n index))
other_chosen n [] place entry at is = absurd cc
other_chosen n (first ∷ index) zero entry at is =
    let same : first ≡ entry = cc in
    by (is_other first) (ap is_other same ∙ is)
  where
    by : (b : Bool) → b ≡ true → In (n + 0) (map (λ (glyph : ℕ × Entry). glyph.0)
        (if b then (n, first) ∷ others_from (n + 1) index else others_from (n + 1) index))
    by true e = inl (omega arith)
    by false e = absurd cc
other_chosen n (first ∷ index) (suc place) entry at is =
    by (is_other first) (other_chosen (n + 1) index place entry at is)
  where
    same : n + 1 + place ≡ n + suc place
    same = omega arith

    by : (b : Bool)
        → In (n + 1 + place) (map (λ (glyph : ℕ × Entry). glyph.0) (others_from (n + 1) index))
        → In (n + suc place) (map (λ (glyph : ℕ × Entry). glyph.0)
        (if b then (n, first) ∷ others_from (n + 1) index else others_from (n + 1) index))
    by true rest = inr (subst (λ glyph. In glyph (map (λ (g : ℕ × Entry). g.0)
        (others_from (n + 1) index))) same rest)
    by false rest = subst (λ glyph. In glyph (map (λ (g : ℕ × Entry). g.0)
        (others_from (n + 1) index))) same rest

both : (a b : Bool) → a ≡ true → b ≡ false → (a && not b) ≡ true
both true false e f = refl
both true true e f = absurd cc
both false b e f = absurd cc

from_zero : (n : ℕ) → 0 + n ≡ n
from_zero n = omega arith

exported_there : (index : List Entry) (glyph : ℕ) (entry : Entry)
    → IsDistinct (pointwise nat_eq) (keys_of index) → slice_get index glyph ≡ Some entry
    → entry.1.exported ≡ true → In glyph (numbers_in index)
exported_there index glyph entry distinct at exported = by (is_notdef entry) refl
  where
    by : (b : Bool) → is_notdef entry ≡ b → In glyph (numbers_in index)
    by true is = In-append_left (number_of (notdef_from 0 index))
        (map (λ found. found.0) (others_from 0 index)) glyph
        (subst (λ n. In n (number_of (notdef_from 0 index))) (from_zero glyph)
        (notdef_first 0 index glyph entry distinct at is))
    by false is = In-append_right (number_of (notdef_from 0 index))
        (map (λ found. found.0) (others_from 0 index)) glyph
        (subst (λ n. In n (map (λ (found : ℕ × Entry). found.0) (others_from 0 index)))
        (from_zero glyph)
        (other_chosen 0 index glyph entry at
        (both entry.1.exported (is_notdef entry) exported is)))

-- ---- and each of those is exported

same_entry : (index : List Entry) (m n : ℕ) (a b : Entry) → m ≡ n → slice_get index m ≡ Some a
    → slice_get index n ≡ Some b → a ≡ b
same_entry index m n a b is at there =
    let same : ◌≡◌ {A = Option Entry} (Some a) (Some b)
    = sym at ∙ ap (slice_get index) is ∙ there in cc

notdef_exported : (index : List Entry) (glyph : ℕ) (entry : Entry) → IsNotdefExported index
    → slice_get index glyph ≡ Some entry → In glyph (number_of (notdef_from 0 index))
    → entry.1.exported ≡ true
notdef_exported index glyph entry notdef at i = by (notdef_from 0 index) refl i
  where
    by : (o : Option (ℕ × Entry)) → notdef_from 0 index ≡ o → In glyph (number_of o)
        → entry.1.exported ≡ true
    by None e j = absurd j
    by (Some found) e (inr j) = absurd j
    by (Some found) e (inl is) =
        let stands = first_stands is_notdef 0 index found e in
        let there = at_zero is_notdef index found stands in
        let same = same_entry index found.0 glyph found.1 entry is there at in
        all_at (λ (x : Entry). x.0 ≡ codes ".notdef" → x.1.exported ≡ true) index glyph entry
        notdef at (ap (λ (x : Entry). x.0) (sym same)
        ∙ same_bytes found.1.0 (codes ".notdef") stands.passes)

-- what a list of glyphs with numbers has
numbered_there : (glyphs : List (ℕ × Entry)) (glyph : ℕ)
    → In glyph (map (λ (found : ℕ × Entry). found.0) glyphs)
    → (found : ℕ × Entry) × In found glyphs × (found.0 ≡ glyph)
numbered_there [] glyph i = absurd i
numbered_there (first ∷ glyphs) glyph (inl is) = (first, inl refl, is)
numbered_there (first ∷ glyphs) glyph (inr j) =
    let rest = numbered_there glyphs glyph j in (rest.0, inr rest.1, rest.2)

other_exported : (index : List Entry) (glyph : ℕ) (entry : Entry)
    → slice_get index glyph ≡ Some entry
    → In glyph (map (λ (found : ℕ × Entry). found.0) (others_from 0 index))
    → entry.1.exported ≡ true
other_exported index glyph entry at i =
    let found = numbered_there (others_from 0 index) glyph i in
    let stands = chosen_at is_other index found.0 found.1 in
    let there = at_zero is_other index found.0 stands in
    let same = same_entry index found.0.0 glyph found.0.1 entry found.2 there at in
    subst (λ (x : Entry). x.1.exported ≡ true) same
    (and_parts found.0.1.1.exported (not (is_notdef found.0.1)) stands.passes).0

pub exported_is : (index : List Entry) (glyph : ℕ) (entry : Entry) → IsNotdefExported index
    → IsDistinct (pointwise nat_eq) (keys_of index) → slice_get index glyph ≡ Some entry
    → entry.1.exported ≡ is_exported index glyph
exported_is index glyph entry notdef distinct at =
    by entry.1.exported (is_exported index glyph) refl refl
  where
    by : (a b : Bool) → entry.1.exported ≡ a → is_exported index glyph ≡ b → a ≡ b
    by true true e f = refl
    by false false e f = refl
    by true false e f =
        let i = exported_there index glyph entry distinct at e in
        absurd (true≢false (sym ((exported_are index glyph).1 i) ∙ f))
    by false true e f =
        let i = (exported_are index glyph).0 f in
        let is : entry.1.exported ≡ true = elim (In-append_cases (number_of (notdef_from 0 index))
        (map (λ (found : ℕ × Entry). found.0) (others_from 0 index)) glyph i) [
          | inl j ↦ notdef_exported index glyph entry notdef at j
          | inr j ↦ other_exported index glyph entry at j
        ] in
        absurd (true≢false (sym is ∙ e))
