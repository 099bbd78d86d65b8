-- The names of the font's glyphs all differ, and have at most 255 bytes.
use Rattle.std.proofs.Common.{◌≡◌, ℕ, ◌+◌, Bool, true, false, ◌&&◌, ◌||◌, not, List, [], ◌∷◌, ◌++◌}
use Rattle.std.proofs.Common.{map, is_some, Some, None, ap, refl, ◌∙◌, subst, ◌≤◌, nat_eq, ltb}
use Rattle.std.proofs.Common.{cond, length, arith}
use Rattle.std.specs.Prelude.{codes, slice_get, if◌then◌else◌}
use Rattle.std.specs.List.{IsDistinct, AllByRecursion, list_any, position, prefix_len}
use Rattle.std.proofs.lemmas.Bool.Decides.{nat_tests}
use Rattle.std.specs.Map.{keys_of}
use Rattle.std.specs.Cmp.Lexicographic.{pointwise, nat_list_eq_equiv}
use Rattle.std.proofs.lemmas.Option.{slice_get_within, get_or_from_slice_get}
use Rattle.refusal_codes.specs.declared.limits.TheConstants.{NAME_BYTES}
use Rattle.font_ir.specs.Glyphs.{gid_of}
use Rattle.font_ir.specs.Headers.{IsNameLong}
use Rattle.glyphs_source.specs.IndexReading.{AreNamed}
use Rattle.character_codes.specs.CharacterCodes.{Entry}
use Rattle.font_plan.specs.Order.{is_notdef, is_other, others_from}

-- ---- a name has no place among names that it is none of

nowhere : {X : Type 0} (p : X → Bool) (xs : List X) → list_any p xs ≡ false
    → prefix_len (λ x. not (p x)) xs ≡ length xs
nowhere p [] e = refl
nowhere p (x ∷ xs) e = further (p x) e (nowhere p xs (others (p x) (list_any p xs) e))
  where
    others : (a b : Bool) → (a || b) ≡ false → b ≡ false
    others true b f = absurd cc
    others false b f = f

    further : (b : Bool) → (b || list_any p xs) ≡ false → prefix_len (λ y. not (p y)) xs ≡ length xs
        → (if not b then 1 + prefix_len (λ y. not (p y)) xs else 0) ≡ length (x ∷ xs)
    further true f rest = absurd cc
    further false f rest = omega (arith, rest)

no_place : {X : Type 0} (p : X → Bool) (xs : List X) → list_any p xs ≡ false → position p xs ≡ None
no_place p xs e = ap (λ n. cond (ltb n (length xs)) (Some n) None) (nowhere p xs e)
    ∙ past (ltb (length xs) (length xs)) (grind (arith, nat_tests))
  where
    past : (b : Bool) → b ≡ false → cond b (Some (length xs)) None ≡ None
    past true f = absurd cc
    past false f = refl

-- and has one among names of which it is one
found : {X : Type 0} (p : X → Bool) (xs : List X) → list_any p xs ≡ true
    → ltb (prefix_len (λ x. not (p x)) xs) (length xs) ≡ true
found p [] e = absurd cc
found p (x ∷ xs) e = further (p x) e (found p xs)
  where
    further : (b : Bool) → (b || list_any p xs) ≡ true
        → (list_any p xs ≡ true → ltb (prefix_len (λ y. not (p y)) xs) (length xs) ≡ true)
        → ltb (if not b then 1 + prefix_len (λ y. not (p y)) xs else 0) (length (x ∷ xs)) ≡ true
    further true f rest = grind (arith, nat_tests)
    further false f rest = let within = rest f in grind (arith, nat_tests)

pub has_place : {X : Type 0} (p : X → Bool) (xs : List X) → list_any p xs ≡ true
    → is_some (position p xs) ≡ true
has_place p xs e = ap (λ b. is_some (cond b (Some (prefix_len (λ x. not (p x)) xs)) None))
    (found p xs e)

-- ---- a name that stands before others of a list of different ones is none of those before it

apart : (x : List ℕ) (names more : List (List ℕ)) (name : List ℕ)
    → AllByRecursion (λ y. pointwise nat_eq x y ≡ false) (names ++ name ∷ more)
    → pointwise nat_eq x name ≡ false
apart x [] more name all = all.0
apart x (y ∷ names) more name all = apart x names more name all.1

neither : (a b : Bool) → a ≡ false → b ≡ false → (a || b) ≡ false
neither false b e f = f
neither true b e f = absurd cc

unseen : (names more : List (List ℕ)) (name : List ℕ)
    → IsDistinct (pointwise nat_eq) (names ++ name ∷ more)
    → list_any (pointwise nat_eq name) names ≡ false
unfolding IsDistinct
unseen [] more name d = refl
unseen (x ∷ names) more name d = neither _ _
    (nat_list_eq_equiv.symm name x ∙ apart x names more name d.0) (unseen names more name d.1)

pub new_name : (names more : List (List ℕ)) (name : List ℕ)
    → IsDistinct (pointwise nat_eq) (names ++ name ∷ more) → is_some (gid_of names name) ≡ false
new_name names more name d = ap is_some (no_place (pointwise nat_eq name) names
    (unseen names more name d))

-- ---- the names of the order differ

-- a test that all names pass is passed by those of the others
kept : (P : List ℕ → Type 0) (n : ℕ) (index : List Entry) → AllByRecursion P (keys_of index)
    → AllByRecursion P (map (λ glyph. glyph.1.0) (others_from n index))
kept P n [] all = tt
kept P n (entry ∷ index) all = chosen (is_other entry) (kept P (n + 1) index all.1)
  where
    chosen : (b : Bool) → AllByRecursion P
        (map (λ (glyph : ℕ × Entry). glyph.1.0) (others_from (n + 1) index))
        → AllByRecursion P (map (λ (glyph : ℕ × Entry). glyph.1.0)
        (if b then (n, entry) ∷ others_from (n + 1) index else others_from (n + 1) index))
    chosen true rest = (all.0, rest)
    chosen false rest = rest

others_differ : (n : ℕ) (index : List Entry) → IsDistinct (pointwise nat_eq) (keys_of index)
    → IsDistinct (pointwise nat_eq) (map (λ glyph. glyph.1.0) (others_from n index))
unfolding IsDistinct
others_differ n [] d = tt
others_differ n (entry ∷ index) d = chosen (is_other entry) (others_differ (n + 1) index d.1)
  where
    chosen : (b : Bool) → IsDistinct (pointwise nat_eq)
        (map (λ (glyph : ℕ × Entry). glyph.1.0) (others_from (n + 1) index))
        → IsDistinct (pointwise nat_eq) (map (λ (glyph : ℕ × Entry). glyph.1.0)
        (if b then (n, entry) ∷ others_from (n + 1) index else others_from (n + 1) index))
    chosen true rest = (kept (λ y. pointwise nat_eq entry.0 y ≡ false) (n + 1) index d.0, rest)
    chosen false rest = rest

second : (a b : Bool) → (a && not b) ≡ true → b ≡ false
second true false e = refl
second true true e = absurd cc
second false b e = absurd cc

-- none of them is `.notdef`
abbrev NoneNotdef : List (List ℕ) → Type 0
NoneNotdef names = AllByRecursion (λ y. pointwise nat_eq (codes ".notdef") y ≡ false) names

none_notdef : (n : ℕ) (index : List Entry)
    → NoneNotdef (map (λ glyph. glyph.1.0) (others_from n index))
none_notdef n [] = tt
none_notdef n (entry ∷ index) = chosen (is_other entry) refl (none_notdef (n + 1) index)
  where
    chosen : (b : Bool) → is_other entry ≡ b
        → NoneNotdef (map (λ (glyph : ℕ × Entry). glyph.1.0) (others_from (n + 1) index))
        → NoneNotdef (map (λ (glyph : ℕ × Entry). glyph.1.0)
        (if b then (n, entry) ∷ others_from (n + 1) index else others_from (n + 1) index))
    chosen true e rest = (
      nat_list_eq_equiv.symm (codes ".notdef") entry.0
          ∙ second entry.1.exported (is_notdef entry) e,
      rest,
    )
    chosen false e rest = rest

pub names_differ : (index : List Entry) → IsDistinct (pointwise nat_eq) (keys_of index)
    → IsDistinct (pointwise nat_eq) ((codes ".notdef" ∷ [])
    ++ map (λ glyph. glyph.1.0) (others_from 0 index))
unfolding IsDistinct
names_differ index d = (none_notdef 0 index, others_differ 0 index d)

-- ---- a name of the index is short

pub short_there : (index : List Entry) (n : ℕ) (entry : Entry) → AreNamed index
    → slice_get index n ≡ Some entry → length entry.0 ≤ NAME_BYTES
short_there index n entry named e =
    (subst (λ (x : Entry). IsNameLong x.0) (get_or_from_slice_get index n entry entry e)
    (named n entry (slice_get_within index n entry e))).1
