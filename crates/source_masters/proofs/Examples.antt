-- Worked examples: a source of two masters as its property list reads, and what is read of it.
use Rattle.std.specs.Prelude.{◌≡◌, ℕ, ◌+◌, List, [], ◌∷◌, ◌++◌, map, length, true, false, Option}
use Rattle.std.specs.Prelude.{Some, None, codes, ℤ, pos, negsuc, refl}
use Rattle.plist_reader.specs.declared.tree.Tree.{Tree}
use Rattle.plist_reader.specs.declared.tree.TreeNode.{TreeNode}
use Rattle.plist_reader.specs.declared.tree.TreeValue.{TreeValue}
use Rattle.plist_reader.specs.declared.tree.TreeValue.TheVariants as tree
use Rattle.refusal_codes.specs.declared.rule.Rule.{Rule}
use Rattle.refusal_codes.specs.declared.rule.Rule.TheVariants.{WrongShape, MissingKey, NotWhole}
use Rattle.refusal_codes.specs.declared.rule.Rule.TheVariants.{NoMaster, AxisCount}
use Rattle.refusal_codes.specs.declared.rule.Rule.TheVariants.{DuplicateMaster, OriginUnknown}
use Rattle.refusal_codes.specs.declared.first.Failure.{Failure}
use Rattle.font_ir.specs.declared.header.Master.{Master}
use Rattle.source_masters.specs.Parameters.{font_parameters_failures}
use Rattle.source_masters.specs.Metrics.{metrics_failures}
use Rattle.source_masters.specs.MasterRules.{masters_failures}
use Rattle.source_masters.specs.WholeRules.{no_master, duplicate_masters, axis_counts, origin_of}
use Rattle.source_masters.specs.WholeRules.{unknown_origin}
use Rattle.source_masters.specs.MasterReading.{masters_place, masters_of}
use Rattle.source_masters.specs.OnLiterals.{masters_on_literals}

-- values whose places are ten times their numbers
abbrev at : ℕ → TreeValue → TreeNode
at place value = record { place = place; end = place; value = value }

abbrev word : ℕ → List ℕ → TreeNode
word place bytes = at place (tree.Text bytes)

abbrev listed : ℕ → List ℕ → TreeNode
listed place numbers = at place (tree.Items numbers)

abbrev paired : ℕ → List (ℕ × ℕ) → TreeNode
paired place pairs = at place (tree.Pairs pairs)

-- ---- two masters

-- the words that sources have in common
abbrev keys : List TreeNode
keys =
    word 0 (codes "fontMaster")
    ∷ word 1 (codes "id")
    ∷ word 2 (codes "axesValues")
    ∷ word 3 (codes "metricValues")
    ∷ word 4 (codes "customParameters")
    ∷ word 5 (codes "pos")
    ∷ word 6 (codes "metrics")
    ∷ word 7 (codes "type")
    ∷ word 8 (codes "name")
    ∷ word 9 (codes "value")
    ∷ word 10 (codes "disabled")
    ∷ word 11 (codes "Axis")
    ∷ word 12 (codes "Location")
    ∷ word 13 (codes "unitsPerEm")
    ∷ word 14 (codes "Variable Font Origin")
    ∷ word 15 (codes "Axis Location")
    ∷ word 16 (codes "ascender")
    ∷ word 17 (codes "x-height")
    ∷ word 18 (codes "Weight")
    ∷ word 19 (codes "1")
    ∷ []

-- metrics: an ascender, one without a type, a second ascender, and an x-height
abbrev metric_nodes : List TreeNode
metric_nodes =
    paired 20 ((7, 16) ∷ [])
    ∷ paired 21 []
    ∷ paired 22 ((7, 16) ∷ [])
    ∷ paired 23 ((7, 17) ∷ [])
    ∷ listed 24 (20 ∷ 21 ∷ 22 ∷ 23 ∷ [])
    ∷ []

-- the first master: 400 on its axis, an ascender of 701, something without a type of 2.5, a second
-- ascender of 702, no x-height, and the user coordinate 100, which a second entry for the axis and
-- a second parameter don't change
abbrev first_nodes : List TreeNode
first_nodes =
    word 25 (codes "m1")
    ∷ word 26 (codes "400")
    ∷ listed 27 (26 ∷ [])
    ∷ word 28 (codes "701")
    ∷ paired 29 ((5, 28) ∷ [])
    ∷ word 30 (codes "2.5")
    ∷ paired 31 ((5, 30) ∷ [])
    ∷ word 32 (codes "702")
    ∷ paired 33 ((5, 32) ∷ [])
    ∷ listed 34 (29 ∷ 31 ∷ 33 ∷ [])
    ∷ word 35 (codes "100")
    ∷ paired 36 ((11, 18) ∷ (12, 35) ∷ [])
    ∷ paired 37 ((11, 18) ∷ (12, 26) ∷ [])
    ∷ paired 38 ((11, 18) ∷ [])
    ∷ listed 39 (38 ∷ 36 ∷ 37 ∷ [])
    ∷ paired 40 ((8, 15) ∷ (9, 39) ∷ [])
    ∷ paired 41 ((8, 15) ∷ (9, 35) ∷ [])
    ∷ paired 42 ((8, 15) ∷ (9, 35) ∷ (10, 19) ∷ [])
    ∷ listed 43 (42 ∷ 40 ∷ 41 ∷ [])
    ∷ paired 44 ((1, 25) ∷ (2, 27) ∷ (3, 34) ∷ (4, 43) ∷ [])
    ∷ []

-- the second master: 700 on its axis, an ascender without `pos`, which is 0, the x-height 480
abbrev second_nodes : List TreeNode
second_nodes =
    word 45 (codes "m2")
    ∷ word 46 (codes "700")
    ∷ listed 47 (46 ∷ [])
    ∷ word 48 (codes "480")
    ∷ paired 49 ((5, 48) ∷ [])
    ∷ listed 50 (21 ∷ 21 ∷ 21 ∷ 49 ∷ [])
    ∷ paired 51 ((1, 45) ∷ (2, 47) ∷ (3, 50) ∷ [])
    ∷ listed 52 (44 ∷ 51 ∷ [])
    ∷ word 53 (codes "1000")
    ∷ []

-- the font, with these values of its own, and these parameters
abbrev font : List TreeNode → List (ℕ × ℕ) → Tree
font further own = record {
  top = 54 + length further;
  nodes = keys ++ metric_nodes ++ first_nodes ++ second_nodes ++ further
      ++ paired 99 ((6, 24) ∷ (13, 53) ∷ own) ∷ [];
}

-- without an origin, and with these of which the first counts that has a value and isn't disabled
abbrev two_masters : Tree
two_masters = font [] ((0, 52) ∷ [])

abbrev from_second : Tree
from_second =
    font (
    paired 54 ((8, 14) ∷ [])
    ∷ paired 55 ((8, 14) ∷ (9, 25) ∷ (10, 19) ∷ [])
    ∷ paired 56 ((8, 14) ∷ (9, 45) ∷ [])
    ∷ paired 57 ((8, 14) ∷ (9, 24) ∷ [])
    ∷ listed 58 (54 ∷ 55 ∷ 56 ∷ 57 ∷ []) ∷ []
    ) ((0, 52) ∷ (4, 58) ∷ [])

abbrev from_none : Tree
from_none =
    font (paired 54 ((8, 14) ∷ (9, 18) ∷ []) ∷ listed 55 (54 ∷ []) ∷ []) ((0, 52) ∷ (4, 55) ∷ [])

-- the same master twice, and no master
abbrev twice : Tree
twice = font (listed 54 (44 ∷ 51 ∷ 44 ∷ []) ∷ []) ((0, 54) ∷ [])

abbrev empty : Tree
empty = font (listed 54 [] ∷ []) ((0, 54) ∷ [])

-- what is read of both: the second ascender doesn't count, and the default master gives what the
-- other one lacks
abbrev first_master : ℤ → Master
first_master xheight = record {
  id = codes "m1";
  design = record { 0 = pos 26214400 } ∷ [];
  user = record { 0 = pos 6553600 } ∷ [];
  location = [];
  ascender = pos 701;
  descender = negsuc 199;
  cap = pos 0;
  xheight = xheight;
  place = 44;
}

abbrev second_master : Master
second_master = record {
  id = codes "m2";
  design = record { 0 = pos 45875200 } ∷ [];
  user = record { 0 = pos 45875200 } ∷ [];
  location = [];
  ascender = pos 0;
  descender = negsuc 199;
  cap = pos 0;
  xheight = pos 480;
  place = 51;
}

abbrev axes : List (List ℕ)
axes = codes "Weight" ∷ []

pub masters-computed :
    masters_of two_masters axes ≡ first_master (pos 0) ∷ second_master ∷ []
unfolding masters_on_literals
masters-computed = refl

pub masters-from-second-computed :
    masters_of from_second axes ≡ first_master (pos 480) ∷ second_master ∷ []
unfolding masters_on_literals
masters-from-second-computed = refl

-- each source with the position of its default master, and what its masters fail as a whole
abbrev one : Rule → ℕ → List Failure
one rule place = record { rule = rule; place = place } ∷ []

abbrev whole_of : Tree → List (List Failure)
whole_of t = no_master t ∷ duplicate_masters t ∷ axis_counts 1 t ∷ unknown_origin t ∷ []

abbrev whole_rows : List (Tree × Option ℕ × List (List Failure))
whole_rows =
    (two_masters, Some 0, [] ∷ [] ∷ [] ∷ [] ∷ [])
    ∷ (from_second, Some 1, [] ∷ [] ∷ [] ∷ [] ∷ [])
    ∷ (from_none, None, [] ∷ [] ∷ [] ∷ one OriginUnknown 18 ∷ [])
    ∷ (twice, Some 0, [] ∷ one DuplicateMaster 44 ∷ [] ∷ [] ∷ [])
    ∷ (empty, Some 0, one NoMaster 54 ∷ [] ∷ [] ∷ [] ∷ [])
    ∷ []

pub whole-computed :
    map (λ row. (row.0, origin_of row.0, whole_of row.0)) whole_rows ≡ whole_rows
unfolding masters_on_literals
whole-computed = refl

-- with two axes each master lacks a coordinate
pub counts-computed : axis_counts 2 two_masters ≡ one AxisCount 44 ++ one AxisCount 51
unfolding masters_on_literals
counts-computed = refl

-- the 2.5 fails where its metric is used, and else not, and neither does what is left out
pub locals-computed :
    masters_failures (true ∷ false ∷ true ∷ true ∷ []) two_masters 52 ≡ []
unfolding masters_on_literals
locals-computed = refl

pub used-computed : masters_failures (false ∷ true ∷ []) two_masters 52 ≡ one NotWhole 30
unfolding masters_on_literals
used-computed = refl

pub shapes-computed :
    (metrics_failures two_masters 24 ≡ [])
    × (metrics_failures two_masters 52 ≡ [])
    × (metrics_failures two_masters 27 ≡ one WrongShape 26)
    × (masters_failures [] two_masters 24
    ≡ one MissingKey 20 ++ one MissingKey 21 ++ one MissingKey 22 ++ one MissingKey 23)
    × (font_parameters_failures from_second 58 ≡ [])
    × (masters_place two_masters ≡ 52)
unfolding masters_on_literals
shapes-computed = (refl, refl, refl, refl, refl, refl)
