-- Worked rows: the axis of a font whose two masters lie at 400 and 700, with an instance, and its
-- pairs.
use Rattle.std.proofs.Common.{◌≡◌, pos, ℤ, List, [], ◌∷◌, codes, refl}
use Rattle.font_ir.specs.declared.header.Axis.{Axis}
use Rattle.font_ir.specs.declared.header.Header.{Header}
use Rattle.font_ir.specs.declared.header.Instance.{Instance}
use Rattle.font_ir.specs.declared.header.Master.{Master}
use Rattle.font_ir.specs.AxisMaps.{pairs_of}
use Rattle.axis_space.specs.AxisPairs.{avar_pairs}
use Rattle.axis_space.specs.Points.{user_at}
use Rattle.name_tables.specs.Avar.{avar_head, avar_table, axis_value_map, segment_map}
use Rattle.name_tables.specs.Fvar.{array_sizes, axis_record, scale_fields, fvar_head, fvar_table}
use Rattle.name_tables.specs.Fvar.{instance_record}

-- a master at a design and a user coordinate, by their raw numbers
abbrev master : ℤ → ℤ → Master
master design user = record {
  id = [];
  design = record { 0 = design } ∷ [];
  user = record { 0 = user } ∷ [];
  location = [];
  ascender = pos 0;
  descender = pos 0;
  cap = pos 0;
  xheight = pos 0;
  place = 0;
}

abbrev weight : Axis
weight = record { name = codes "Weight"; tag = record { 0 = codes "wght" } }

abbrev family : List Master → List Instance → Header
family masters instances = record {
  upem = 1000;
  family = codes "Tri";
  major = 1;
  minor = 0;
  axes = weight ∷ [];
  masters = masters;
  masters_place = 0;
  origin = 0;
  instances = instances;
  kerning = [];
  kern_place = 0;
  features = [];
}

-- 400 and 700 on both scales
abbrev plain : List Master
plain = master (pos 26214400) (pos 26214400) ∷ master (pos 45875200) (pos 45875200) ∷ []

axis_from_400_to_700 : fvar_table (family plain [])
    ≡ 0 ∷ 1 ∷ 0 ∷ 0 ∷ 0 ∷ 0x10 ∷ 0 ∷ 2 ∷ 0 ∷ 1 ∷ 0 ∷ 0x14 ∷ 0 ∷ 0 ∷ 0 ∷ 8
    ∷ 0x77 ∷ 0x67 ∷ 0x68 ∷ 0x74 ∷ 1 ∷ 0x90 ∷ 0 ∷ 0 ∷ 1 ∷ 0x90 ∷ 0 ∷ 0 ∷ 2 ∷ 0xbc ∷ 0 ∷ 0 ∷ 0 ∷ 0 ∷ 1
    ∷ 0 ∷ []
unfolding fvar_table fvar_head array_sizes axis_record scale_fields
axis_from_400_to_700 = refl

-- the design coordinates 0 and 1000 are the user coordinates 400 and 700: an instance at 500 lies
-- at 550
abbrev stretched : List Master
stretched = master (pos 0) (pos 26214400) ∷ master (pos 65536000) (pos 45875200) ∷ []

abbrev medium : Instance
medium = record { name = codes "Medium"; design = record { 0 = pos 32768000 } ∷ [] }

instance_at_550 : instance_record (family stretched (medium ∷ [])) 0 medium
    ≡ 1 ∷ 1 ∷ 0 ∷ 0 ∷ 2 ∷ 0x26 ∷ 0 ∷ 0 ∷ []
unfolding instance_record user_at
instance_at_550 = refl

three_pairs : avar_table (family plain [])
    ≡ 0 ∷ 1 ∷ 0 ∷ 0 ∷ 0 ∷ 0 ∷ 0 ∷ 1 ∷ 0 ∷ 3 ∷ 0xc0 ∷ 0 ∷ 0xc0 ∷ 0 ∷ 0 ∷ 0 ∷ 0 ∷ 0 ∷ 0x40 ∷ 0 ∷ 0x40
    ∷ 0 ∷ []
unfolding avar_table avar_head segment_map axis_value_map avar_pairs pairs_of
three_pairs = refl
