-- Worked rows: the table of one code, of codes above 65535, and of none.
use Rattle.std.proofs.Common.{◌≡◌, [], ◌∷◌, refl}
use Rattle.cmap_writer.specs.Runs.{longest_runs}
use Rattle.cmap_writer.specs.Subtables.{format_4, format_4_head, search_fields, later_arrays}
use Rattle.cmap_writer.specs.Subtables.{entry_selector, format_12, format_12_head}
use Rattle.cmap_writer.specs.Cmap.{table_of, cmap_table}

-- `A` with glyph number 1
one_code : cmap_table ((65, 1) ∷ [])
    ≡ 0 ∷ 0 ∷ 0 ∷ 1 ∷ 0 ∷ 3 ∷ 0 ∷ 1 ∷ 0 ∷ 0 ∷ 0 ∷ 0x0c ∷ 0 ∷ 4 ∷ 0 ∷ 0x20 ∷ 0 ∷ 0 ∷ 0 ∷ 4 ∷ 0 ∷ 4
    ∷ 0 ∷ 1 ∷ 0 ∷ 0
    ∷ 0 ∷ 0x41 ∷ 0xff ∷ 0xff ∷ 0 ∷ 0 ∷ 0 ∷ 0x41 ∷ 0xff ∷ 0xff ∷ 0xff ∷ 0xc0 ∷ 0 ∷ 1 ∷ 0 ∷ 0 ∷ 0 ∷ 0
    ∷ []
unfolding table_of format_4 format_4_head search_fields later_arrays entry_selector
one_code = refl

no_code : cmap_table []
    ≡ 0 ∷ 0 ∷ 0 ∷ 1 ∷ 0 ∷ 3 ∷ 0 ∷ 1 ∷ 0 ∷ 0 ∷ 0 ∷ 0x0c ∷ 0 ∷ 4 ∷ 0 ∷ 0x18 ∷ 0 ∷ 0 ∷ 0 ∷ 2 ∷ 0 ∷ 2
    ∷ 0 ∷ 0 ∷ 0 ∷ 0
    ∷ 0xff ∷ 0xff ∷ 0 ∷ 0 ∷ 0xff ∷ 0xff ∷ 0 ∷ 1 ∷ 0 ∷ 0 ∷ []
unfolding table_of format_4 format_4_head search_fields later_arrays entry_selector
no_code = refl

-- a run goes on only where the codes and the glyph numbers do
broken_runs : longest_runs ((65, 1) ∷ (66, 2) ∷ (67, 4) ∷ (69, 5) ∷ [])
    ≡ record { first = 65; glyph = 1; more = 1 } ∷ record { first = 67; glyph = 4; more = 0 }
    ∷ record { first = 69; glyph = 5; more = 0 } ∷ []
broken_runs = refl

-- `A` and `B` in a run, and a code above 65535, so both subtables
two_subtables : cmap_table ((65, 1) ∷ (66, 2) ∷ (0x1f600, 3) ∷ [])
    ≡ 0 ∷ 0 ∷ 0 ∷ 2 ∷ 0 ∷ 3 ∷ 0 ∷ 1 ∷ 0 ∷ 0 ∷ 0 ∷ 0x14 ∷ 0 ∷ 3 ∷ 0 ∷ 0x0a ∷ 0 ∷ 0 ∷ 0 ∷ 0x34
    ∷ 0 ∷ 4 ∷ 0 ∷ 0x20 ∷ 0 ∷ 0 ∷ 0 ∷ 4 ∷ 0 ∷ 4 ∷ 0 ∷ 1 ∷ 0 ∷ 0
    ∷ 0 ∷ 0x42 ∷ 0xff ∷ 0xff ∷ 0 ∷ 0 ∷ 0 ∷ 0x41 ∷ 0xff ∷ 0xff ∷ 0xff ∷ 0xc0 ∷ 0 ∷ 1 ∷ 0 ∷ 0 ∷ 0 ∷ 0
    ∷ 0 ∷ 0x0c ∷ 0 ∷ 0 ∷ 0 ∷ 0 ∷ 0 ∷ 0x28 ∷ 0 ∷ 0 ∷ 0 ∷ 0 ∷ 0 ∷ 0 ∷ 0 ∷ 2
    ∷ 0 ∷ 0 ∷ 0 ∷ 0x41 ∷ 0 ∷ 0 ∷ 0 ∷ 0x42 ∷ 0 ∷ 0 ∷ 0 ∷ 1
    ∷ 0 ∷ 1 ∷ 0xf6 ∷ 0 ∷ 0 ∷ 1 ∷ 0xf6 ∷ 0 ∷ 0 ∷ 0 ∷ 0 ∷ 3 ∷ []
unfolding table_of format_4 format_4_head search_fields later_arrays entry_selector format_12
    format_12_head
two_subtables = refl
