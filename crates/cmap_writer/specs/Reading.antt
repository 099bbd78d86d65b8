-- What a reader finds in the segments of format 4 and in the groups of format 12 (OpenType 1.9,
-- "cmap").
use Rattle.std.specs.Prelude.{◌≡◌, ℕ, ◌+◌, ◌-◌, ◌%◌, ◌<◌, ◌≤◌, List}
use Rattle.std.specs.List.{Contains, All, AllPairs}
use Rattle.cmap_writer.specs.declared.runs.Run.{Run}
use Rattle.cmap_writer.specs.declared.segments.Segment.{Segment}
use Rattle.cmap_writer.specs.Runs.{Codes}

-- each glyph number is below 65536
abbrev pub AreGlyphNumbers : Codes → Type 0
AreGlyphNumbers codes = All (λ code. code.1 < 65536) codes

-- ---- format 4

-- a code lies in a segment
pub record IsInSegment (code : ℕ) (segment : Segment) : Type 0 where
  pub from : segment.start_code ≤ code
  pub to : code ≤ segment.end_code

-- the glyph number of a code in a segment whose idRangeOffset is 0
abbrev pub glyph_in_segment : ℕ → Segment → ℕ
glyph_in_segment code segment = (code + segment.id_delta) % 65536

-- Each code of a list lies in a segment, which gives its glyph number, and in no other one; and a
-- code up to 65534 that the list hasn't lies in none. The segments rise, as their readers want it.
pub record SegmentsLead (codes : Codes) (segments : List Segment) : Type 0 where
  pub rise : AllPairs (λ a b. a.end_code < b.start_code) segments
  pub found : (code glyph : ℕ) → Contains codes (code, glyph)
      → (s : Segment) × Contains segments s × IsInSegment code s × (s.id_range_offset ≡ 0)
      × (glyph_in_segment code s ≡ glyph)
  pub one : (code : ℕ) (s t : Segment) → Contains segments s → Contains segments t
      → IsInSegment code s → IsInSegment code t → s ≡ t
  pub no_other : (code : ℕ) (s : Segment) → code ≤ 65534 → Contains segments s → IsInSegment code s
      → (glyph : ℕ) × Contains codes (code, glyph)

-- ---- format 12

-- a code lies in a group, from its startCharCode to its endCharCode
pub record IsInGroup (code : ℕ) (group : Run) : Type 0 where
  pub from : group.first ≤ code
  pub to : code ≤ group.first + group.more

-- the glyph number of a code in a group
abbrev pub glyph_in_group : ℕ → Run → ℕ
glyph_in_group code group = group.glyph + (code - group.first)

-- each code of a list lies in a group, which gives its glyph number, and in no other one; and any
-- other code lies in none
pub record GroupsLead (codes : Codes) (groups : List Run) : Type 0 where
  pub rise : AllPairs (λ a b. a.first + a.more < b.first) groups
  pub found : (code glyph : ℕ) → Contains codes (code, glyph)
      → (g : Run) × Contains groups g × IsInGroup code g × (glyph_in_group code g ≡ glyph)
  pub one : (code : ℕ) (g h : Run) → Contains groups g → Contains groups h
      → IsInGroup code g → IsInGroup code h → g ≡ h
  pub no_other : (code : ℕ) (g : Run) → Contains groups g → IsInGroup code g
      → (glyph : ℕ) × Contains codes (code, glyph)
