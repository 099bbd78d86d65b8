-- One step over the entries of an index: what is left from an entry on is that entry and what is
-- left behind it.
use Rattle.std.proofs.Common.{◌≡◌, ℕ, ◌+◌, Bool, true, false, List, [], ◌∷◌, ◌++◌, drop}
use Rattle.std.proofs.Common.{Some, ap, ◌∙◌, append_assoc, map, length, ◌<◌, ◌≤◌, arith}
use Rattle.std.specs.Prelude.{slice_get, if◌then◌else◌}
use Rattle.std.proofs.lemmas.List.{drop_more, length-append}
use Rattle.std.proofs.lemmas.Option.{slice_get_within, get_or_from_slice_get}
use Rattle.character_codes.specs.CharacterCodes.{Entry}
use Rattle.font_plan.specs.Order.{is_notdef, is_other, others_from, notdef_from}

rest_at : {X : Type 0} (xs : List X) (n : ℕ) (x : X) → slice_get xs n ≡ Some x
    → drop n xs ≡ x ∷ drop (n + 1) xs
rest_at xs n x e = drop_more xs n x (slice_get_within xs n x e)
    ∙ ap (λ y. y ∷ drop (n + 1) xs) (get_or_from_slice_get xs n x x e)

-- ---- `.notdef`

pub notdef_here : (index : List Entry) (n : ℕ) (entry : Entry) → slice_get index n ≡ Some entry
    → is_notdef entry ≡ true → notdef_from n (drop n index) ≡ Some (n, entry)
notdef_here index n entry at is =
    ap (notdef_from n) (rest_at index n entry at)
    ∙ ap (λ (b : Bool). if b then Some (n, entry) else notdef_from (n + 1) (drop (n + 1) index))
    is

pub notdef_later : (index : List Entry) (n : ℕ) (entry : Entry) → slice_get index n ≡ Some entry
    → is_notdef entry ≡ false → notdef_from n (drop n index)
    ≡ notdef_from (n + 1) (drop (n + 1) index)
notdef_later index n entry at is =
    ap (notdef_from n) (rest_at index n entry at)
    ∙ ap (λ (b : Bool). if b then Some (n, entry) else notdef_from (n + 1) (drop (n + 1) index))
    is

-- ---- the others

others_here : (index : List Entry) (n : ℕ) (entry : Entry) → slice_get index n ≡ Some entry
    → is_other entry ≡ true → others_from n (drop n index)
    ≡ (n, entry) ∷ others_from (n + 1) (drop (n + 1) index)
others_here index n entry at is =
    let rest = others_from (n + 1) (drop (n + 1) index) in
    ap (others_from n) (rest_at index n entry at)
    ∙ ap (λ (b : Bool). if b then (n, entry) ∷ rest else rest) is

others_later : (index : List Entry) (n : ℕ) (entry : Entry) → slice_get index n ≡ Some entry
    → is_other entry ≡ false → others_from n (drop n index)
    ≡ others_from (n + 1) (drop (n + 1) index)
others_later index n entry at is =
    let rest = others_from (n + 1) (drop (n + 1) index) in
    ap (others_from n) (rest_at index n entry at)
    ∙ ap (λ (b : Bool). if b then (n, entry) ∷ rest else rest) is

-- ---- what is made of the others, behind what was made before

pub others_next : {X : Type 0} (f : ℕ × Entry → X) (before : List X) (index : List Entry) (n : ℕ)
    (entry : Entry) → slice_get index n ≡ Some entry → is_other entry ≡ true
    → before ++ map f (others_from n (drop n index))
    ≡ before ++ f (n, entry) ∷ map f (others_from (n + 1) (drop (n + 1) index))
others_next f before index n entry at is
    = ap (λ glyphs. before ++ map f glyphs) (others_here index n entry at is)

pub others_passed : {X : Type 0} (f : ℕ × Entry → X) (before : List X) (index : List Entry) (n : ℕ)
    (entry : Entry) → slice_get index n ≡ Some entry → is_other entry ≡ false
    → before ++ map f (others_from n (drop n index))
    ≡ before ++ map f (others_from (n + 1) (drop (n + 1) index))
others_passed f before index n entry at is
    = ap (λ glyphs. before ++ map f glyphs) (others_later index n entry at is)

pub moved : {X : Type 0} (before after more : List X) (x : X) → after ≡ before ++ x ∷ []
    → after ++ more ≡ before ++ x ∷ more
moved before after more x e = ap (λ front. front ++ more) e ∙ append_assoc before (x ∷ []) more

pub room_left : {X : Type 0} (before more whole : List X) (x : X) → before ++ x ∷ more ≡ whole
    → length whole ≤ 65535 → length before < 65535
room_left before more whole x e few = let grown = length-append before (x ∷ more)
    in let same = ap length e in omega (arith, grown, same, few)
