-- How deep components nest (OpenType 1.9, "maxp", maxComponentDepth): a glyph without components
-- has the depth 0, and a composite one more than the deepest of its components.
use Rattle.std.specs.Prelude.{ℕ, zero, suc, ◌+◌, List, [], ◌∷◌, ◌++◌, length, map, slice_index_or}
use Rattle.std.specs.Prelude.{Contains}
use Rattle.std.specs.List.{flat_map, range_with_len}
use Rattle.std.specs.Option.{option_to_list}
use Rattle.font_ir.specs.Glyphs.{gid_of}
use Rattle.font_ir.specs.declared.glyph.FlatGlyph.{FlatGlyph}
use Rattle.metrics_tables.specs.Comparisons.{greatest_count}

-- the numbers of the glyphs that a glyph keeps as components, by the names in the font's order
abbrev pub bases_of : List (List ℕ) → FlatGlyph → List ℕ
bases_of names glyph = flat_map (λ kept. option_to_list (gid_of names kept.base)) glyph.kept

-- the same of each glyph
abbrev pub bases_in : List (List ℕ) → List FlatGlyph → List (List ℕ)
bases_in names glyphs = map (bases_of names) glyphs

abbrev pub bases_at : List (List ℕ) → ℕ → List ℕ
bases_at bases gid = slice_index_or bases gid []

-- from a glyph to one of its components, and from that on
abbrev pub IsChain : List (List ℕ) → ℕ → List ℕ → Type 0
IsChain bases gid [] = Unit {0}
IsChain bases gid (base ∷ others) = Contains (bases_at bases gid) base × IsChain bases base others

-- no glyph leads to itself by its components
abbrev pub NoneLeadsToItself : List (List ℕ) → Type 0
NoneLeadsToItself bases = (gid : ℕ) (between : List ℕ) → IsChain bases gid (between ++ gid ∷ []) → ⊥

-- the depth of a glyph, where so many steps downwards are looked at
unfoldable pub depth_within : List (List ℕ) → ℕ → ℕ → ℕ
depth_within bases zero gid = 0
depth_within bases (suc steps) gid =
    greatest_count (map (λ base. 1 + depth_within bases steps base) (bases_at bases gid))

-- no way downwards is longer than there are glyphs
abbrev pub depth_of : List (List ℕ) → ℕ → ℕ
depth_of bases gid = depth_within bases (length bases) gid

abbrev pub greatest_depth : List (List ℕ) → ℕ
greatest_depth bases = greatest_count (map (depth_of bases) (range_with_len 0 (length bases)))
