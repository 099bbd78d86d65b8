-- Worked rows: the tables `OS/2`, `post` and `HVAR` of fonts with a `.notdef` and one glyph more.
use Rattle.std.proofs.Common.{◌≡◌, ℕ, pos, neg_ℤ, ℤ, List, [], ◌∷◌, codes, None, refl}
use Rattle.font_ir.specs.declared.header.Axis.{Axis}
use Rattle.font_ir.specs.declared.header.Header.{Header}
use Rattle.font_ir.specs.declared.variation.Region.{Region}
use Rattle.font_ir.specs.Glyphs.{Glyphs}
use Rattle.region_store.specs.Written.{store_bytes}
use Rattle.table_tree.specs.Layouts.{layout_of}
use Rattle.metrics_tables.specs.declared.measures.Measures.{Measures}
use Rattle.metrics_tables.specs.Hvar.{hvar_table}
use Rattle.metrics_tables.specs.Os2.{class_fields, code_fields, code_page_fields, first_code}
use Rattle.metrics_tables.specs.Os2.{last_code, letter_fields, line_fields, master_fields}
use Rattle.metrics_tables.specs.Os2.{mean_advance, os2_table, script_fields, weight_fields}
use Rattle.metrics_tables.specs.Post.{memory_fields, name_indexes, names_part, post_head}
use Rattle.metrics_tables.specs.Post.{post_table, underline_fields}

-- a font of 1000 units in an em, whose default master reaches from 800 to -200
abbrev font : List Axis → Header
font axes = record {
  upem = 1000;
  family = codes "Tri";
  major = 1;
  minor = 0;
  axes = axes;
  masters = record {
    id = codes "m1";
    design = [];
    user = [];
    location = [];
    ascender = pos 800;
    descender = neg_ℤ (pos 200);
    cap = pos 0;
    xheight = pos 0;
    place = 53;
  } ∷ [];
  masters_place = 52;
  origin = 0;
  instances = [];
  kerning = [];
  kern_place = 0;
  features = [];
}

-- two glyphs, by their advance widths, and the changes of these over regions
abbrev measures : List ℕ → List Region → List (List ℤ) → Measures
measures advances regions rows = record {
  advances = advances;
  bounds = None ∷ None ∷ [];
  regions = regions;
  rows = rows;
  maxima = record {
    points = 0;
    contours = 0;
    composite_points = 0;
    composite_contours = 0;
    components = 0;
    depth = 0;
  };
}

-- two glyphs of 500 units, of which one has the code of A
os2_bytes : os2_table (font []) (measures (500 ∷ 500 ∷ []) [] ([] ∷ [] ∷ [])) ((0x41, 1) ∷ []) ≡
    0 ∷ 4 ∷ 1 ∷ 0xf4 ∷ 1 ∷ 0x90 ∷ 0 ∷ 5 ∷ 0 ∷ 0 ∷ 2 ∷ 0x8a ∷ 2 ∷ 0x8a ∷ 0 ∷ 0 ∷ 0 ∷ 0x8c ∷ 2
    ∷ 0x8a ∷ 2 ∷ 0x8a ∷ 0 ∷ 0 ∷ 1 ∷ 0xe0 ∷ 0 ∷ 0x32 ∷ 1 ∷ 4 ∷ 0 ∷ 0 ∷ 0 ∷ 0 ∷ 0 ∷ 0 ∷ 0 ∷ 0 ∷ 0
    ∷ 0 ∷ 0 ∷ 0 ∷ 0 ∷ 0 ∷ 0 ∷ 0 ∷ 0 ∷ 0 ∷ 0 ∷ 0 ∷ 0 ∷ 0 ∷ 0 ∷ 0 ∷ 0 ∷ 0 ∷ 0 ∷ 0 ∷ 0x4e ∷ 0x4f
    ∷ 0x4e ∷ 0x45 ∷ 0 ∷ 0xc0 ∷ 0 ∷ 0x41 ∷ 0 ∷ 0x41 ∷ 3 ∷ 0x20 ∷ 0xff ∷ 0x38 ∷ 0 ∷ 0 ∷ 3 ∷ 0x20
    ∷ 0 ∷ 0xc8 ∷ 0 ∷ 0 ∷ 0 ∷ 0 ∷ 0 ∷ 0 ∷ 0 ∷ 0 ∷ 0 ∷ 0 ∷ 0 ∷ 0 ∷ 0 ∷ 0 ∷ 0 ∷ 0x20 ∷ 0 ∷ 0 ∷ []
unfolding os2_table weight_fields script_fields class_fields code_fields master_fields line_fields
    code_page_fields letter_fields
os2_bytes = refl

-- widths of 0 don't count for the mean, which is rounded down
mean_is_503 : mean_advance (0 ∷ 500 ∷ 507 ∷ 0 ∷ []) ≡ 503
mean_is_503 = refl

no_mean : mean_advance (0 ∷ 0 ∷ []) ≡ 0
no_mean = refl

-- codes above 65535 are told as that one, and no codes as 0
first_of_two : first_code ((0x1F600, 1) ∷ (0x61, 2) ∷ []) ≡ 0x61
first_of_two = refl

last_of_two : last_code ((0x1F600, 1) ∷ (0x61, 2) ∷ []) ≡ 65535
last_of_two = refl

all_above : first_code ((0x1F600, 1) ∷ []) ≡ 65535
all_above = refl

no_first : first_code [] ≡ 0
no_first = refl

no_last : last_code [] ≡ 0
no_last = refl

-- a `.notdef` and an A
order : Glyphs
order = record { numbers = []; names = codes ".notdef" ∷ codes "A" ∷ [] }

post_bytes : post_table (font []) order ≡
    0 ∷ 2 ∷ 0 ∷ 0 ∷ 0 ∷ 0 ∷ 0 ∷ 0 ∷ 0xff ∷ 0x9c ∷ 0 ∷ 0x32 ∷ 0 ∷ 0 ∷ 0 ∷ 0 ∷ 0 ∷ 0 ∷ 0 ∷ 0 ∷ 0
    ∷ 0 ∷ 0 ∷ 0 ∷ 0 ∷ 0 ∷ 0 ∷ 0 ∷ 0 ∷ 0 ∷ 0 ∷ 0 ∷ 0 ∷ 2 ∷ 0 ∷ 0 ∷ 1 ∷ 2 ∷ 1 ∷ 0x41 ∷ []
unfolding post_head underline_fields memory_fields names_part order
post_bytes = refl

-- the names behind `.notdef` are numbered in their order, wherever it stands
name_numbers : name_indexes 258 (codes "b" ∷ codes ".notdef" ∷ codes "a" ∷ [])
    ≡ 1 ∷ 2 ∷ 0 ∷ 0 ∷ 1 ∷ 3 ∷ []
name_numbers = refl

abbrev region : ℤ → ℤ → ℤ → Region
region start peak end = record {
  sides = (record { 0 = start }, record { 0 = peak }, record { 0 = end }) ∷ [];
}

-- the region of the masters, and two of a glyph with a place half way: its advance width of 500 is
-- 512 there and 520 at the end
hvar_bytes : hvar_table
    (font (record { name = codes "Weight"; tag = record { 0 = codes "wght" } } ∷ []))
    (measures (500 ∷ 500 ∷ []) (region (pos 0) (pos 16384) (pos 16384)
    ∷ region (pos 0) (pos 8192) (pos 16384) ∷ region (pos 8192) (pos 16384) (pos 16384) ∷ [])
    ((pos 0 ∷ pos 0 ∷ pos 0 ∷ []) ∷ (pos 0 ∷ pos 12 ∷ pos 20 ∷ []) ∷ [])) ≡
    0 ∷ 1 ∷ 0 ∷ 0 ∷ 0 ∷ 0 ∷ 0 ∷ 0x14 ∷ 0 ∷ 0 ∷ 0 ∷ 0 ∷ 0 ∷ 0 ∷ 0 ∷ 0 ∷ 0 ∷ 0 ∷ 0 ∷ 0 ∷ 0 ∷ 1 ∷ 0
    ∷ 0 ∷ 0 ∷ 0xc ∷ 0 ∷ 1 ∷ 0 ∷ 0 ∷ 0 ∷ 0x22 ∷ 0 ∷ 1 ∷ 0 ∷ 3 ∷ 0 ∷ 0 ∷ 0x40 ∷ 0 ∷ 0x40 ∷ 0 ∷ 0
    ∷ 0 ∷ 0x20 ∷ 0 ∷ 0x40 ∷ 0 ∷ 0x20 ∷ 0 ∷ 0x40 ∷ 0 ∷ 0x40 ∷ 0 ∷ 0 ∷ 2 ∷ 0 ∷ 3 ∷ 0 ∷ 3 ∷ 0 ∷ 0
    ∷ 0 ∷ 1 ∷ 0 ∷ 2 ∷ 0 ∷ 0 ∷ 0 ∷ 0 ∷ 0 ∷ 0 ∷ 0 ∷ 0 ∷ 0 ∷ 0xc ∷ 0 ∷ 0x14 ∷ []
unfolding hvar_table store_bytes layout_of
hvar_bytes = refl
