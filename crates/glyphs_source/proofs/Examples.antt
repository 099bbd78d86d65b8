-- Worked examples: a source of one triangle as its property list reads, and what is read of it.
use Rattle.std.specs.Prelude.{◌≡◌, ℕ, ◌+◌, List, [], ◌∷◌, ◌++◌, map, length, true, None, Result, Ok}
use Rattle.std.specs.Prelude.{Err, codes, pos, negsuc, refl}
use Rattle.plist_reader.specs.declared.tree.Tree.{Tree}
use Rattle.plist_reader.specs.declared.tree.TreeNode.{TreeNode}
use Rattle.plist_reader.specs.declared.tree.TreeValue.TheVariants as tree
use Rattle.refusal_codes.specs.declared.refusal.Refusal.{Refusal}
use Rattle.refusal_codes.specs.declared.job.TheConstants.{HEADER, INDEX}
use Rattle.refusal_codes.specs.First.{refusal_of}
use Rattle.refusal_codes.specs.declared.rule.Rule.{Rule}
use Rattle.refusal_codes.specs.declared.rule.Rule.TheVariants.{MissingKey, OutOfRange}
use Rattle.refusal_codes.specs.declared.rule.Rule.TheVariants.{AxisCount, DuplicateUnicode}
use Rattle.font_ir.specs.declared.header.Header.{Header}
use Rattle.glyphs_source.specs.declared.entries.IndexEntry.{IndexEntry}
use Rattle.glyphs_source.specs.HeaderReading.{header_of}
use Rattle.glyphs_source.specs.IndexReading.{index_of}
use Rattle.glyphs_source.specs.OnLiterals.{header_on_literals, index_on_literals}

-- a bare word at a place
abbrev pub word : ℕ → List ℕ → TreeNode
word place bytes = record { place = place; end = place + length bytes; value = tree.Text bytes }

-- a list between two places
abbrev pub items : ℕ → ℕ → List ℕ → TreeNode
items from to numbers = record { place = from; end = to; value = tree.Items numbers }

-- a dictionary between two places
abbrev pub pairs : ℕ → ℕ → List (ℕ × ℕ) → TreeNode
pairs from to numbers = record { place = from; end = to; value = tree.Pairs numbers }

-- the master and the glyph of a source of one triangle: n is the number of their first value, and p
-- its place
abbrev pub master_and_glyph : ℕ → ℕ → List TreeNode
master_and_glyph n p =
    word p (codes "fontMaster") ∷
    word (p + 17) (codes "id") ∷
    word (p + 22) (codes "m1") ∷
    pairs (p + 15) (p + 27) ((n + 1, n + 2) ∷ []) ∷
    items (p + 13) (p + 29) ((n + 3) ∷ []) ∷
    word (p + 31) (codes "glyphs") ∷
    word (p + 44) (codes "glyphname") ∷
    word (p + 56) (codes "A") ∷
    word (p + 59) (codes "layers") ∷
    word (p + 72) (codes "layerId") ∷
    word (p + 82) (codes "m1") ∷
    word (p + 86) (codes "shapes") ∷
    word (p + 99) (codes "closed") ∷
    word (p + 108) (codes "1") ∷
    word (p + 111) (codes "nodes") ∷
    word (p + 122) (codes "0") ∷
    word (p + 124) (codes "0") ∷
    word (p + 126) (codes "l") ∷
    items (p + 121) (p + 128) ((n + 15) ∷ (n + 16) ∷ (n + 17) ∷ []) ∷
    word (p + 131) (codes "500") ∷
    word (p + 135) (codes "0") ∷
    word (p + 137) (codes "l") ∷
    items (p + 130) (p + 139) ((n + 19) ∷ (n + 20) ∷ (n + 21) ∷ []) ∷
    word (p + 142) (codes "250") ∷
    word (p + 146) (codes "700") ∷
    word (p + 150) (codes "l") ∷
    items (p + 141) (p + 152) ((n + 23) ∷ (n + 24) ∷ (n + 25) ∷ []) ∷
    items (p + 119) (p + 154) ((n + 18) ∷ (n + 22) ∷ (n + 26) ∷ []) ∷
    pairs (p + 97) (p + 157) ((n + 12, n + 13) ∷ (n + 14, n + 27) ∷ []) ∷
    items (p + 95) (p + 159) ((n + 28) ∷ []) ∷
    word (p + 161) (codes "width") ∷
    word (p + 169) (codes "500") ∷
    pairs (p + 70) (p + 175) ((n + 9, n + 10) ∷ (n + 11, n + 29) ∷ (n + 30, n + 31) ∷ []) ∷
    items (p + 68) (p + 177) ((n + 32) ∷ []) ∷
    word (p + 179) (codes "unicode") ∷
    word (p + 189) (codes "65") ∷
    pairs (p + 42) (p + 194) ((n + 6, n + 7) ∷ (n + 8, n + 33) ∷ (n + 34, n + 35) ∷ []) ∷ []

-- a source: the values that stand first in its top dictionary, up to the place p, and their keys;
-- the master and the glyph; the values of further glyphs, those of them that are glyphs, counted
-- from 0, and how many bytes they take; the units per em
abbrev pub source : ℕ → List TreeNode → List (ℕ × ℕ) → List TreeNode → List ℕ → ℕ → List ℕ → Tree
source p front keys further glyphs bytes units = let n = length front
    in let m = length front + 37 + length further in let q = p + bytes in record {
      top = m + 3;
      nodes =
          front
          ++ master_and_glyph n p
          ++ further
          ++ items (p + 40) (q + 196) ((n + 36) ∷ map (λ k. n + 37 + k) glyphs) ∷
          word (q + 198) (codes "unitsPerEm") ∷
          word (q + 211) units ∷
          pairs 0 (q + 214 + length units)
          (keys ++ (n, n + 4) ∷ (n + 5, m) ∷ (m + 1, m + 2) ∷ []) ∷ [];
    }

-- the version of the format, and a family's name
abbrev pub named : List TreeNode
named = word 2 (codes ".formatVersion") ∷ word 19 (codes "3") ∷ word 22 (codes "familyName")
    ∷ word 35 (codes "Tri") ∷ []

-- the source of 259 bytes
abbrev pub triangle : Tree
triangle = source 40 named ((0, 1) ∷ (2, 3) ∷ []) [] [] 0 (codes "1000")

-- the same with `unitsPerEm = 15`
abbrev pub small_em : Tree
small_em = source 40 named ((0, 1) ∷ (2, 3) ∷ []) [] [] 0 (codes "15")

-- the same without its family's name
abbrev pub nameless : Tree
nameless = source 22 (word 2 (codes ".formatVersion") ∷ word 19 (codes "3") ∷ []) ((0, 1) ∷ []) []
    [] 0 (codes "1000")

-- the same with an axis, at 31
abbrev pub axes : Tree
axes = source 78 (
    word 2 (codes ".formatVersion") ∷
    word 19 (codes "3") ∷
    word 22 (codes "axes") ∷
    word 31 (codes "name") ∷
    word 38 (codes "Weight") ∷
    word 45 (codes "tag") ∷
    word 51 (codes "wght") ∷
    pairs 30 57 ((3, 4) ∷ (5, 6) ∷ []) ∷
    items 29 58 (7 ∷ []) ∷
    word 60 (codes "familyName") ∷
    word 73 (codes "Tri") ∷ []
    ) ((0, 1) ∷ (2, 8) ∷ (9, 10) ∷ []) [] [] 0 (codes "1000")

-- the same with a second glyph that has the code of the first
abbrev pub same_code : Tree
same_code = source 40 named ((0, 1) ∷ (2, 3) ∷ []) (
    word 237 (codes "glyphname") ∷
    word 249 (codes "B") ∷
    word 251 (codes "unicode") ∷
    word 262 (codes "66") ∷
    word 265 (codes "65") ∷
    items 261 268 (44 ∷ 45 ∷ []) ∷
    pairs 236 270 ((41, 42) ∷ (43, 46) ∷ []) ∷ []
    ) (6 ∷ []) 36 (codes "1000")

-- a refusal of the header's job, and one of the index's, which have no name
abbrev header_refusal : Rule → ℕ → Refusal
header_refusal rule place = refusal_of HEADER [] (record { rule = rule; place = place })

abbrev index_refusal : Rule → ℕ → Refusal
index_refusal rule place = refusal_of INDEX [] (record { rule = rule; place = place })

-- the header of the triangle: the defaults of version and metrics
abbrev triangle_header : Header
triangle_header = record {
  upem = 1000;
  family = codes "Tri";
  major = 1;
  minor = 0;
  axes = [];
  masters =
      record {
        id = codes "m1";
        design = [];
        user = [];
        location = [];
        ascender = pos 800;
        descender = negsuc 199;
        cap = pos 0;
        xheight = pos 0;
        place = 55;
      }
      ∷ [];
  masters_place = 53;
  origin = 0;
  instances = [];
  kerning = [];
  kern_place = 0;
  features = [];
}

-- each source with its header or its refusal: an em of 15 units is out of range, at the number; a
-- family needs a name, so the dictionary fails; with an axis the master needs a coordinate
abbrev header_rows : List (Tree × Result Header Refusal)
header_rows =
    (triangle, Ok triangle_header)
    ∷ (small_em, Err (header_refusal OutOfRange 251))
    ∷ (nameless, Err (header_refusal MissingKey 0))
    ∷ (axes, Err (header_refusal AxisCount 93))
    ∷ []

pub headers-computed : map (λ row. header_of row.0) header_rows ≡ map (λ row. row.1) header_rows
unfolding header_on_literals
headers-computed = refl

-- the one exported glyph of the triangle, with one code, whose dictionary is the value 40
abbrev triangle_entry : IndexEntry
triangle_entry = record {
  number = 0;
  node = 40;
  exported = true;
  codes = 65
      ∷ [];
  left = None;
  right = None;
}

-- each source with its index or its refusal: where a code stands again, the second glyph fails
abbrev index_rows : List (Tree × Result (List (List ℕ × IndexEntry)) Refusal)
index_rows =
    (triangle, Ok ((codes "A", triangle_entry) ∷ []))
    ∷ (same_code, Err (index_refusal DuplicateUnicode 236))
    ∷ []

pub indexes-computed : map (λ row. index_of row.0) index_rows ≡ map (λ row. row.1) index_rows
unfolding index_on_literals
indexes-computed = refl
