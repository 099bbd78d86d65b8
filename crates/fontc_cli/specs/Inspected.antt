-- What inspecting the bytes of a font gives: a point at a place of the design space, in 16.16, or
-- the first fault. fontc's own.
use Rattle.std.specs.Prelude.{ℕ, List, length, Option, Some, None, Result, Err, nat_lt}
use Rattle.std.specs.Prelude.{if◌then◌else◌}
use Rattle.font_reader.specs.declared.faults.FontFault.{FontFault}
use Rattle.font_reader.specs.declared.faults.FaultKind.TheVariants.{TooLarge}
use Rattle.font_reader.specs.declared.points.Point.{Point}
use Rattle.font_reader.specs.Directory.{font_fault}
use Rattle.font_reader.specs.Fields.{fault}
use Rattle.font_reader.specs.Points.{point_at}
use Rattle.command_words.specs.Commands.{Inspect}

-- the greatest length of a font that is read, in bytes
abbrev pub font_bytes : ℕ
font_bytes = 268435456

-- the font itself is at fault before its point is read
unfoldable pub read_point : Inspect → List ℕ → Result Point FontFault
read_point command bytes = elim (font_fault bytes) [
  | Some first ↦ Err first
  | None ↦ point_at bytes command.glyph command.index command.place
]

unfoldable pub inspected : Inspect → List ℕ → Result Point FontFault
inspected command bytes = if nat_lt font_bytes (length bytes)
    then Err (fault TooLarge font_bytes) else read_point command bytes
