-- The tables of a font, by their tags (OpenType 1.9, "Table directory"), and what each is made of.
-- Which tables a font may have is fontc's own.
use Rattle.std.specs.Prelude.{ℕ, Bool, List, codes, nat_eq, Option, None, Some}
use Rattle.std.specs.Prelude.{if◌then◌else◌}
use Rattle.std.specs.Cmp.Lexicographic.{pointwise}
use Rattle.font_ir.specs.declared.tag.Tag.{Tag}
use Rattle.font_tables.specs.declared.tags.TableGroup.{TableGroup}
use Rattle.font_tables.specs.declared.tags.TableGroup.TheVariants as groups

abbrev pub has_name : List ℕ → Tag → Bool
has_name name tag = pointwise nat_eq tag.0 name

-- which parts of a font a table is made of; None for a table that no font has
abbrev pub group_of : Tag → Option TableGroup
group_of tag =
    if has_name (codes "HVAR") tag then Some groups.Metrics
    else if has_name (codes "MVAR") tag then Some groups.Style
    else if has_name (codes "OS/2") tag then Some groups.CodeMetrics
    else if has_name (codes "STAT") tag then Some groups.Style
    else if has_name (codes "avar") tag then Some groups.Plain
    else if has_name (codes "cmap") tag then Some groups.Codes
    else if has_name (codes "fvar") tag then Some groups.Plain
    else if has_name (codes "glyf") tag then Some groups.Outlines
    else if has_name (codes "gvar") tag then Some groups.Variations
    else if has_name (codes "head") tag then Some groups.Metrics
    else if has_name (codes "hhea") tag then Some groups.Metrics
    else if has_name (codes "hmtx") tag then Some groups.Metrics
    else if has_name (codes "loca") tag then Some groups.Outlines
    else if has_name (codes "maxp") tag then Some groups.Metrics
    else if has_name (codes "name") tag then Some groups.Plain
    else if has_name (codes "post") tag then Some groups.Plain
    else None
