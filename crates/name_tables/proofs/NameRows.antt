-- Worked rows: the names of a font, of its axis and of its instance.
use Rattle.std.proofs.Common.{◌≡◌, pos, List, [], ◌∷◌, codes, refl}
use Rattle.std.specs.Fmt.{digits}
use Rattle.std.specs.Str.{chars}
use Rattle.font_ir.specs.declared.header.Axis.{Axis}
use Rattle.font_ir.specs.declared.header.Header.{Header}
use Rattle.font_ir.specs.declared.header.Instance.{Instance}
use Rattle.name_tables.specs.Names.{name_head, name_table, record_fields}
use Rattle.name_tables.specs.Texts.{named, names_of, postscript_text, utf16_bytes, version_text}

abbrev family : List Axis → List Instance → Header
family axes instances = record {
  upem = 1000;
  family = codes "Tri";
  major = 1;
  minor = 0;
  axes = axes;
  masters = [];
  masters_place = 0;
  origin = 0;
  instances = instances;
  kerning = [];
  kern_place = 0;
  features = [];
}

-- 202 bytes, of which 124 are texts
names_of_a_family : name_table (family [] [])
    ≡ 0 ∷ 0 ∷ 0 ∷ 6 ∷ 0 ∷ 78 ∷ 0 ∷ 3 ∷ 0 ∷ 1 ∷ 4 ∷ 9 ∷ 0 ∷ 1 ∷ 0 ∷ 6 ∷ 0 ∷ 0 ∷ 0 ∷ 3 ∷ 0 ∷ 1 ∷ 4
    ∷ 9 ∷ 0 ∷ 2 ∷ 0 ∷ 14 ∷ 0 ∷ 6 ∷ 0 ∷ 3 ∷ 0 ∷ 1 ∷ 4 ∷ 9 ∷ 0 ∷ 3 ∷ 0 ∷ 34 ∷ 0 ∷ 20 ∷ 0 ∷ 3 ∷ 0 ∷ 1
    ∷ 4 ∷ 9 ∷ 0 ∷ 4 ∷ 0 ∷ 22 ∷ 0 ∷ 54 ∷ 0 ∷ 3 ∷ 0 ∷ 1 ∷ 4 ∷ 9 ∷ 0 ∷ 5 ∷ 0 ∷ 26 ∷ 0 ∷ 76 ∷ 0 ∷ 3 ∷ 0
    ∷ 1 ∷ 4 ∷ 9 ∷ 0 ∷ 6 ∷ 0 ∷ 22 ∷ 0 ∷ 102 ∷ 0 ∷ 84 ∷ 0 ∷ 114 ∷ 0 ∷ 105 ∷ 0 ∷ 82 ∷ 0 ∷ 101 ∷ 0
    ∷ 103 ∷ 0 ∷ 117 ∷ 0 ∷ 108 ∷ 0 ∷ 97 ∷ 0 ∷ 114 ∷ 0 ∷ 49 ∷ 0 ∷ 46 ∷ 0 ∷ 48 ∷ 0 ∷ 48 ∷ 0 ∷ 48 ∷ 0
    ∷ 59 ∷ 0 ∷ 84 ∷ 0 ∷ 114 ∷ 0 ∷ 105 ∷ 0 ∷ 45 ∷ 0 ∷ 82 ∷ 0 ∷ 101 ∷ 0 ∷ 103 ∷ 0 ∷ 117 ∷ 0 ∷ 108 ∷ 0
    ∷ 97 ∷ 0 ∷ 114 ∷ 0 ∷ 84 ∷ 0 ∷ 114 ∷ 0 ∷ 105 ∷ 0 ∷ 32 ∷ 0 ∷ 82 ∷ 0 ∷ 101 ∷ 0 ∷ 103 ∷ 0 ∷ 117 ∷ 0
    ∷ 108 ∷ 0 ∷ 97 ∷ 0 ∷ 114 ∷ 0 ∷ 86 ∷ 0 ∷ 101 ∷ 0 ∷ 114 ∷ 0 ∷ 115 ∷ 0 ∷ 105 ∷ 0 ∷ 111 ∷ 0 ∷ 110
    ∷ 0 ∷ 32 ∷ 0 ∷ 49 ∷ 0 ∷ 46 ∷ 0 ∷ 48 ∷ 0 ∷ 48 ∷ 0 ∷ 48 ∷ 0 ∷ 84 ∷ 0 ∷ 114 ∷ 0 ∷ 105 ∷ 0 ∷ 45 ∷ 0
    ∷ 82 ∷ 0 ∷ 101 ∷ 0 ∷ 103 ∷ 0 ∷ 117 ∷ 0 ∷ 108 ∷ 0 ∷ 97 ∷ 0 ∷ 114 ∷ []
unfolding name_table name_head record_fields utf16_bytes version_text postscript_text chars digits
names_of_a_family = refl

abbrev weight : Axis
weight = record { name = codes "Weight"; tag = record { 0 = codes "wght" } }

abbrev medium : Instance
medium = record { name = codes "Medium"; design = record { 0 = pos 0 } ∷ [] }

-- the axes' names come before the instances'
axes_come_first : names_of (family (weight ∷ []) (medium ∷ []))
    ≡ named 1 (codes "Tri") ∷ named 2 (codes "Regular") ∷ named 3 (codes "1.000;Tri-Regular")
    ∷ named 4 (codes "Tri Regular") ∷ named 5 (codes "Version 1.000")
    ∷ named 6 (codes "Tri-Regular") ∷ named 256 (codes "Weight") ∷ named 257 (codes "Medium") ∷ []
unfolding version_text postscript_text digits
axes_come_first = refl

-- a character beyond 65535 is a pair of units
a_pair_of_units : utf16_bytes (0x41 ∷ 0xF0 ∷ 0x9F ∷ 0x98 ∷ 0x80 ∷ [])
    ≡ 0 ∷ 0x41 ∷ 0xD8 ∷ 0x3D ∷ 0xDE ∷ 0 ∷ []
unfolding utf16_bytes chars
a_pair_of_units = refl
