-- What the list of a font's codes is, in the words of its readers.
use Rattle.std.specs.Prelude.{◌≡◌, ◌≢◌, ℕ, ◌<◌, ◌≤◌, true, List, Option, Some, None, slice_get}
use Rattle.std.specs.List.{All, AllPairs, Contains}
use Rattle.character_codes.specs.CharacterCodes.{Entry, Codes}

-- ---- orders

-- a number is that of an exported glyph; a glyph that the compiler made has none
abbrev pub IsExportedAt : List Entry → Option ℕ → Type 0
IsExportedAt index None = Unit {0}
IsExportedAt index (Some number) =
    (entry : Entry) × (slice_get index number ≡ Some entry) × (entry.1.exported ≡ true)

-- two glyphs of which no one is the other
abbrev pub AreDifferent : Option ℕ → Option ℕ → Type 0
AreDifferent (Some a) (Some b) = a ≢ b
AreDifferent a b = Unit {0}

-- an order holds exported glyphs of the index, each at most once
pub record IsOrderOver (index : List Entry) (numbers : List (Option ℕ)) : Type 0 where
  pub exported : All (IsExportedAt index) numbers
  pub different : AllPairs AreDifferent numbers

-- ---- codes

-- the codes rise, each is one of Unicode, and each leads to one of so many glyphs
pub record AreCodes (count : ℕ) (codes : Codes) : Type 0 where
  pub rise : AllPairs (λ a b. a.0 < b.0) codes
  pub within : All (λ code. code.0 ≤ 1114111) codes
  pub glyphs : All (λ code. code.1 < count) codes

-- the glyph with this ID has this code in the index
pub record HasCode (index : List Entry) (numbers : List (Option ℕ)) (gid code : ℕ) : Type 0 where
  pub number : ℕ
  pub entry : Entry
  pub ordered : slice_get numbers gid ≡ Some (Some number)
  pub there : slice_get index number ≡ Some entry
  pub coded : Contains entry.1.codes code

-- a code stands in the list with a glyph ID exactly where the glyph with this ID has it
pub record AreExactly (index : List Entry) (numbers : List (Option ℕ)) (codes : Codes)
    : Type 0 where
  pub stands : (gid code : ℕ) → HasCode index numbers gid code → Contains codes (code, gid)
  pub has : (gid code : ℕ) → Contains codes (code, gid) → HasCode index numbers gid code
