-- The file of a font's tables, and what is too long (OpenType 1.9, "Table directory"; which lengths
-- are refused is fontc's own).
use Rattle.std.specs.Prelude.{ℕ, List, [], ◌∷◌, Option, Some, None, Result, Ok, Err}
use Rattle.refusal_codes.specs.declared.refusal.Refusal.{Refusal}
use Rattle.refusal_codes.specs.declared.rule.Rule.TheVariants.{TooLarge, TableTooLarge}
use Rattle.refusal_codes.specs.First.{refusal_of}
use Rattle.refusal_codes.specs.declared.job.TheConstants.{TREE, FONT}
use Rattle.refusal_codes.specs.declared.limits.TheConstants.{SOURCE_BYTES}
use Rattle.font_ir.specs.declared.tag.Tag.{Tag}
use Rattle.table_bytes.specs.Tables.{over_limit}
use Rattle.font_assembly.specs.File.{Table, file, file_len}

-- the refusal of a source that is too long
abbrev pub source_too_large : Refusal
source_too_large = refusal_of TREE [] (record { rule = TooLarge; place = SOURCE_BYTES })

-- the refusal of a font that is too long
abbrev pub font_too_large : ℕ → Refusal
font_too_large length = refusal_of FONT [] (record { rule = TableTooLarge; place = length })

abbrev pub unless_too_large : Option ℕ → List ℕ → Result (List ℕ) Refusal
unless_too_large (Some length) font = Err (font_too_large length)
unless_too_large None font = Ok font

-- the file of these tables, where it isn't too long
abbrev pub filed : List Table → Result (List ℕ) Refusal
filed tables = unless_too_large (over_limit (file_len tables)) (file tables)

-- the tables that aren't absent
abbrev pub present : List Tag → List (Option (List ℕ)) → List Table
present [] tables = []
present (tag ∷ tags) [] = []
present (tag ∷ tags) (None ∷ tables) = present tags tables
present (tag ∷ tags) (Some bytes ∷ tables) = record { tag = tag.0; bytes = bytes }
    ∷ present tags tables
