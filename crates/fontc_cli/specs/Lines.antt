-- What a run prints, by how it ends: each line with its line feed. fontc's own.
use Rattle.std.specs.Prelude.{ℕ, List, [], ◌∷◌, ◌++◌, codes}
use Rattle.std.specs.Fmt.{decimal, signed_decimal}
use Rattle.font_reader.specs.declared.points.Point.{Point}
use Rattle.font_reader.specs.Texts.{fault_text}
use Rattle.refusal_codes.specs.Texts.{refusal_text}
use Rattle.fontc_cli.specs.declared.status.Status.{Status}
use Rattle.fontc_cli.specs.declared.status.Status.TheVariants.{Done, Usage, Refused, BadFont}
use Rattle.fontc_cli.specs.declared.status.Status.TheVariants.{ReadFault, WriteFault, ConsoleFault}
use Rattle.fontc_cli.specs.declared.status.Status.TheVariants.{NoMemory}

-- a text and its line feed
abbrev pub line : List ℕ → List ℕ
line text = text ++ 10 ∷ []

-- the line of a font of so many bytes that was written
abbrev pub wrote : ℕ → List ℕ
wrote count = codes "wrote " ++ decimal count ++ line (codes " bytes")

-- the line of a point, in 16.16
abbrev pub point_line : Point → List ℕ
point_line point = signed_decimal point.x ++ codes " " ++ line (signed_decimal point.y)

-- the line of what a sample has written: so many bytes, which so many jobs made
abbrev pub sample_line : ℕ → ℕ → ℕ → ℕ → List ℕ
sample_line seed glyphs count jobs =
    codes "sample "
    ++ decimal seed
    ++ codes " "
    ++ decimal glyphs
    ++ codes ": "
    ++ decimal count
    ++ codes " bytes, "
    ++ decimal jobs
    ++ line (codes " jobs")

-- a line for each command
abbrev pub usage : List ℕ
usage = line (codes "usage: fontc build IN OUT")
    ++ line (codes "usage: fontc inspect point FONT GID INDEX COORDS")
    ++ line (codes "usage: fontc sample SEED GLYPHS OUT [--source]")

-- The lines of a status, by what a run prints that is done. Those of `ConsoleFault` are the lines
-- of `Done`, which the console failed.
abbrev pub lines_of : List ℕ → Status → List ℕ
lines_of done Done = done
lines_of done Usage = usage
lines_of done (Refused r) = line (codes "fontc: " ++ refusal_text r)
lines_of done (BadFont fault) = line (codes "fontc: bad font: " ++ fault_text fault)
lines_of done ReadFault = line (codes "fontc: read fault")
lines_of done WriteFault = line (codes "fontc: write fault")
lines_of done ConsoleFault = done
lines_of done NoMemory = []
