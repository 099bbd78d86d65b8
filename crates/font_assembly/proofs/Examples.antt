-- A worked example: a font of six tables, with one triangle.
use Rattle.std.proofs.Common.{◌≡◌, List, [], ◌∷◌, codes, refl}
use Rattle.font_assembly.specs.Checksum.{total}
use Rattle.font_assembly.specs.File.{Table, file, unadjusted_file, directory_head, directory_entry}
use Rattle.font_assembly.specs.File.{entry_selector}

tables : List Table
tables =
    record {
      tag = codes "glyf";
      bytes =
          0 ∷ 1 ∷ 0 ∷ 0 ∷ 0 ∷ 0 ∷ 1 ∷ 244 ∷ 2 ∷ 188 ∷ 0 ∷ 2 ∷ 0 ∷ 0 ∷ 19 ∷ 3 ∷ 33 ∷ 250 ∷ 250 ∷ 1
          ∷ 244 ∷ 2 ∷ 188 ∷
          253 ∷ 68 ∷ 0 ∷ 0 ∷ 0 ∷ [];
    }
    ∷
    record {
      tag = codes "head";
      bytes =
          0 ∷ 1 ∷ 0 ∷ 0 ∷ 0 ∷ 1 ∷ 0 ∷ 0 ∷ 0 ∷ 0 ∷ 0 ∷ 0 ∷ 95 ∷ 15 ∷ 60 ∷ 245 ∷ 0 ∷ 3 ∷ 3 ∷ 232 ∷ 0
          ∷ 0 ∷ 0 ∷ 0 ∷ 0 ∷
          0 ∷ 0 ∷ 0 ∷ 0 ∷ 0 ∷ 0 ∷ 0 ∷ 0 ∷ 0 ∷ 0 ∷ 0 ∷ 0 ∷ 0 ∷ 0 ∷ 0 ∷ 1 ∷ 244 ∷ 2 ∷ 188 ∷ 0 ∷ 0 ∷ 0
          ∷ 6 ∷ 0 ∷ 2 ∷ 0 ∷
          1 ∷ 0 ∷ 0 ∷ [];
    }
    ∷
    record {
      tag = codes "hhea";
      bytes =
          0 ∷ 1 ∷ 0 ∷ 0 ∷ 3 ∷ 32 ∷ 255 ∷ 56 ∷ 0 ∷ 0 ∷ 1 ∷ 244 ∷ 0 ∷ 0 ∷ 0 ∷ 0 ∷ 1 ∷ 244 ∷ 0 ∷ 1 ∷ 0
          ∷ 0 ∷ 0 ∷ 0 ∷ 0 ∷
          0 ∷ 0 ∷ 0 ∷ 0 ∷ 0 ∷ 0 ∷ 0 ∷ 0 ∷ 0 ∷ 0 ∷ 2 ∷ [];
    }
    ∷
    record {
      tag = codes "hmtx";
      bytes =
          1 ∷ 244 ∷ 0 ∷ 0 ∷ 1 ∷ 244 ∷ 0 ∷ 0 ∷ [];
    }
    ∷
    record {
      tag = codes "loca";
      bytes =
          0 ∷ 0 ∷ 0 ∷ 0 ∷ 0 ∷ 0 ∷ 0 ∷ 0 ∷ 0 ∷ 0 ∷ 0 ∷ 28 ∷ [];
    }
    ∷
    record {
      tag = codes "maxp";
      bytes =
          0 ∷ 1 ∷ 0 ∷ 0 ∷ 0 ∷ 2 ∷ 0 ∷ 3 ∷ 0 ∷ 1 ∷ 0 ∷ 0 ∷ 0 ∷ 0 ∷ 0 ∷ 2 ∷ 0 ∷ 0 ∷ 0 ∷ 0 ∷ 0 ∷ 0 ∷ 0
          ∷ 0 ∷ 0 ∷ 0 ∷ 0 ∷
          0 ∷ 0 ∷ 0 ∷ 0 ∷ 0 ∷ [];
    }
    ∷ []

-- the 280 bytes of its file, directory, padding, checksums and checksumAdjustment (a9a0f7f2)
-- included
triangle : file tables ≡
    0 ∷ 1 ∷ 0 ∷ 0 ∷ 0 ∷ 6 ∷ 0 ∷ 64 ∷ 0 ∷ 2 ∷ 0 ∷ 32 ∷ 103 ∷ 108 ∷ 121 ∷ 102 ∷ 92 ∷ 186 ∷ 203 ∷ 247
    ∷ 0 ∷ 0 ∷ 0 ∷
    108 ∷ 0 ∷ 0 ∷ 0 ∷ 28 ∷ 104 ∷ 101 ∷ 97 ∷ 100 ∷ 97 ∷ 10 ∷ 67 ∷ 160 ∷ 0 ∷ 0 ∷ 0 ∷ 136 ∷ 0 ∷ 0 ∷ 0
    ∷ 54 ∷ 104 ∷ 104 ∷
    101 ∷ 97 ∷ 5 ∷ 22 ∷ 1 ∷ 47 ∷ 0 ∷ 0 ∷ 0 ∷ 192 ∷ 0 ∷ 0 ∷ 0 ∷ 36 ∷ 104 ∷ 109 ∷ 116 ∷ 120 ∷ 3 ∷ 232
    ∷ 0 ∷ 0 ∷ 0 ∷ 0 ∷
    0 ∷ 228 ∷ 0 ∷ 0 ∷ 0 ∷ 8 ∷ 108 ∷ 111 ∷ 99 ∷ 97 ∷ 0 ∷ 0 ∷ 0 ∷ 28 ∷ 0 ∷ 0 ∷ 0 ∷ 236 ∷ 0 ∷ 0 ∷ 0
    ∷ 12 ∷ 109 ∷ 97 ∷
    120 ∷ 112 ∷ 0 ∷ 4 ∷ 0 ∷ 5 ∷ 0 ∷ 0 ∷ 0 ∷ 248 ∷ 0 ∷ 0 ∷ 0 ∷ 32 ∷ 0 ∷ 1 ∷ 0 ∷ 0 ∷ 0 ∷ 0 ∷ 1 ∷ 244
    ∷ 2 ∷ 188 ∷ 0 ∷
    2 ∷ 0 ∷ 0 ∷ 19 ∷ 3 ∷ 33 ∷ 250 ∷ 250 ∷ 1 ∷ 244 ∷ 2 ∷ 188 ∷ 253 ∷ 68 ∷ 0 ∷ 0 ∷ 0 ∷ 0 ∷ 1 ∷ 0 ∷ 0
    ∷ 0 ∷ 1 ∷ 0 ∷ 0 ∷
    169 ∷ 160 ∷ 247 ∷ 242 ∷ 95 ∷ 15 ∷ 60 ∷ 245 ∷ 0 ∷ 3 ∷ 3 ∷ 232 ∷ 0 ∷ 0 ∷ 0 ∷ 0 ∷ 0 ∷ 0 ∷ 0 ∷ 0 ∷ 0
    ∷ 0 ∷ 0 ∷ 0 ∷
    0 ∷ 0 ∷ 0 ∷ 0 ∷ 0 ∷ 0 ∷ 0 ∷ 0 ∷ 1 ∷ 244 ∷ 2 ∷ 188 ∷ 0 ∷ 0 ∷ 0 ∷ 6 ∷ 0 ∷ 2 ∷ 0 ∷ 1 ∷ 0 ∷ 0 ∷ 0
    ∷ 0 ∷ 0 ∷ 1 ∷ 0 ∷
    0 ∷ 3 ∷ 32 ∷ 255 ∷ 56 ∷ 0 ∷ 0 ∷ 1 ∷ 244 ∷ 0 ∷ 0 ∷ 0 ∷ 0 ∷ 1 ∷ 244 ∷ 0 ∷ 1 ∷ 0 ∷ 0 ∷ 0 ∷ 0 ∷ 0
    ∷ 0 ∷ 0 ∷ 0 ∷ 0 ∷
    0 ∷ 0 ∷ 0 ∷ 0 ∷ 0 ∷ 0 ∷ 2 ∷ 1 ∷ 244 ∷ 0 ∷ 0 ∷ 1 ∷ 244 ∷ 0 ∷ 0 ∷ 0 ∷ 0 ∷ 0 ∷ 0 ∷ 0 ∷ 0 ∷ 0 ∷ 0
    ∷ 0 ∷ 0 ∷ 0 ∷ 28 ∷
    0 ∷ 1 ∷ 0 ∷ 0 ∷ 0 ∷ 2 ∷ 0 ∷ 3 ∷ 0 ∷ 1 ∷ 0 ∷ 0 ∷ 0 ∷ 0 ∷ 0 ∷ 2 ∷ 0 ∷ 0 ∷ 0 ∷ 0 ∷ 0 ∷ 0 ∷ 0 ∷ 0
    ∷ 0 ∷ 0 ∷ 0 ∷ 0 ∷
    0 ∷ 0 ∷ 0 ∷ 0 ∷ []
unfolding tables file unadjusted_file directory_head directory_entry entry_selector total
triangle = refl
