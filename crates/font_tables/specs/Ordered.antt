-- Tags in the order of their bytes (OpenType 1.9, "Table directory").
use Rattle.std.specs.Prelude.{Bool, true, ◌&&◌, List, [], ◌∷◌}
use Rattle.std.specs.List.{list_all}
use Rattle.std.specs.Ordering.{nat_cmp, is_lt}
use Rattle.std.specs.Cmp.Lexicographic.{slice_cmp}
use Rattle.font_ir.specs.declared.tag.Tag.{Tag}

abbrev pub comes_before : Tag → Tag → Bool
comes_before a b = is_lt (slice_cmp nat_cmp a.0 b.0)

-- each tag comes before all tags behind it
abbrev pub tags_rise : List Tag → Bool
tags_rise [] = true
tags_rise (tag ∷ tags) = list_all (comes_before tag) tags && tags_rise tags
