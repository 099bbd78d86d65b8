-- Worked examples of where masters lie, which place is the first that stands again, and which axis
-- is the first without a map.
use Rattle.std.specs.Prelude.{◌≡◌, List, [], ◌∷◌, map, ℤ, pos, negsuc, Some, None}
use Rattle.std.proofs.Common.{refl}
use Rattle.fixed_math.specs.declared.F2Dot14.{F2Dot14}
use Rattle.font_ir.specs.declared.header.Master.{Master}
use Rattle.font_ir.specs.AxisMaps.{pairs_of}
use Rattle.axis_space.specs.AxisPairs.{avar_pairs}
use Rattle.axis_space.specs.Placing.{place_of, placed}
use Rattle.axis_space.specs.Repeats.{first_repeat}
use Rattle.axis_space.specs.UnmappedAxes.{first_unmapped}
use Rattle.axis_space.proofs.Rows.{master, number, thirds, near, one_user, ends}

abbrev location_of : Master → List F2Dot14
location_of master = master.location

abbrev place : List ℤ → List F2Dot14
place numbers = map number numbers

-- masters at 400, 500 and 700, of which the first is the default
thirds_placed : map location_of (placed 0 1 thirds)
    ≡ place (pos 0 ∷ []) ∷ place (pos 5461 ∷ []) ∷ place (pos 16384 ∷ []) ∷ []
unfolding placed place_of
thirds_placed = refl

-- a layer at 550 lies half of the way
half_way : place_of thirds 0 1 (record { 0 = pos 36044800 } ∷ []) ≡ place (pos 8192 ∷ [])
unfolding place_of
half_way = refl

-- the master at 500 is the default: those at 400 and 700 lie at the ends
thirds_around : map location_of (placed 1 1 thirds)
    ≡ place (negsuc 16383 ∷ []) ∷ place (pos 0 ∷ []) ∷ place (pos 16384 ∷ []) ∷ []
unfolding placed place_of
thirds_around = refl

-- masters at 0, 10000, 10000.1 and 30000: the third lies where the second does
near_placed : map location_of (placed 0 1 near) ≡ place (pos 0 ∷ []) ∷ place (pos 5461 ∷ [])
    ∷ place (pos 5461 ∷ []) ∷ place (pos 16384 ∷ []) ∷ []
unfolding placed place_of
near_placed = refl

near_repeat : first_repeat (map location_of (placed 0 1 near)) ≡ Some 2
unfolding placed place_of first_repeat
near_repeat = refl

thirds_repeat : first_repeat (map location_of (placed 0 1 thirds)) ≡ None
unfolding placed place_of first_repeat
thirds_repeat = refl

-- without axes all masters lie at one place
without_axes : first_repeat (map location_of (placed 0 0 ends)) ≡ Some 1
unfolding placed place_of first_repeat
without_axes = refl

-- the first place that stands again isn't the first that will
nested : first_repeat (place (pos 1 ∷ pos 2 ∷ []) ∷ place (pos 2 ∷ pos 1 ∷ [])
    ∷ place (pos 2 ∷ pos 1 ∷ []) ∷ place (pos 1 ∷ pos 2 ∷ []) ∷ []) ≡ Some 2
unfolding first_repeat
nested = refl

-- masters at 400 and 700 whose user coordinates are both 100: their axis has no map
one_user_unmapped : first_unmapped one_user 0 1 ≡ Some 0
unfolding first_unmapped avar_pairs pairs_of
one_user_unmapped = refl

ends_mapped : first_unmapped ends 0 1 ≡ None
unfolding first_unmapped avar_pairs pairs_of
ends_mapped = refl

-- of two axes the second has no map
abbrev of_two : ℤ → ℤ → Master
of_two design user = record {
  id = [];
  design = record { 0 = design } ∷ record { 0 = design } ∷ [];
  user = record { 0 = design } ∷ record { 0 = user } ∷ [];
  location = [];
  ascender = pos 0;
  descender = pos 0;
  cap = pos 0;
  xheight = pos 0;
  place = 0;
}

second_unmapped : first_unmapped (of_two (pos 400) (pos 100) ∷ of_two (pos 700) (pos 100) ∷ []) 0 2
    ≡ Some 1
unfolding first_unmapped avar_pairs pairs_of
second_unmapped = refl
