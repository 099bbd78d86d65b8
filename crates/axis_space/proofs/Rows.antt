-- Worked examples, in 16.16 and 2.14.
use Rattle.std.specs.Prelude.{◌≡◌, List, [], ◌∷◌, map, ℤ, pos, negsuc, Ok, Err}
use Rattle.std.proofs.Common.{refl}
use Rattle.fixed_math.specs.declared.F2Dot14.{F2Dot14}
use Rattle.font_ir.specs.declared.header.Master.{Master}
use Rattle.font_ir.specs.Normal.{normalised}
use Rattle.font_ir.specs.Coordinates.{normal_on}
use Rattle.font_ir.specs.AxisMaps.{pair, pairs_of}
use Rattle.axis_space.specs.AxisPairs.{avar_pairs}
use Rattle.axis_space.specs.Points.{points_of, user_at}
use Rattle.font_ir.specs.declared.header.CoordinateScale.TheVariants.{Design}

-- half a raw unit goes up, above the default and below it
half_above : normalised (pos 1) (pos 0) (pos 0) (pos 32768) ≡ pos 1
half_above = refl

half_below : normalised (negsuc 0) (negsuc 32767) (pos 0) (pos 0) ≡ pos 0
half_below = refl

-- a master on one axis, by its raw coordinates
abbrev pub master : ℤ → ℤ → Master
master design user = record {
  id = [];
  design = record { 0 = design } ∷ [];
  user = record { 0 = user } ∷ [];
  location = [];
  ascender = pos 0;
  descender = pos 0;
  cap = pos 0;
  xheight = pos 0;
  place = 0;
}

abbrev pub number : ℤ → F2Dot14
number raw = record { 0 = raw }

-- the normalised design coordinates of masters of which the first is the default
abbrev locations : List Master → List F2Dot14
locations masters = map (normal_on Design 0 0 masters) masters

-- masters at 400, 500 and 700
abbrev pub thirds : List Master
thirds =
    master (pos 26214400) (pos 26214400) ∷ master (pos 32768000) (pos 32768000)
    ∷ master (pos 45875200) (pos 45875200) ∷ []

thirds_locations : locations thirds ≡ number (pos 0) ∷ number (pos 5461) ∷ number (pos 16384) ∷ []
thirds_locations = refl

-- masters at 0, 10000, 10000.1 and 30000: the second and the third lie at one place
abbrev pub near : List Master
near =
    master (pos 0) (pos 0) ∷ master (pos 655360000) (pos 655360000)
    ∷ master (pos 655366554) (pos 655366554) ∷ master (pos 1966080000) (pos 1966080000) ∷ []

near_locations : locations near ≡ number (pos 0) ∷ number (pos 5461) ∷ number (pos 5461)
    ∷ number (pos 16384) ∷ []
near_locations = refl

-- their pairs are one pair
near_pairs : avar_pairs near 0 0 ≡ Ok (pair (negsuc 16383) (negsuc 16383) ∷ pair (pos 0) (pos 0)
    ∷ pair (pos 5461) (pos 5461) ∷ pair (pos 16384) (pos 16384) ∷ [])
unfolding avar_pairs pairs_of
near_pairs = refl

-- masters at 400 and 700 whose user coordinates are both 100: the pairs don't rise at 0
abbrev pub one_user : List Master
one_user = master (pos 26214400) (pos 6553600) ∷ master (pos 45875200) (pos 6553600) ∷ []

one_user_pairs : avar_pairs one_user 0 0 ≡ Err (number (pos 0))
unfolding avar_pairs pairs_of
one_user_pairs = refl

-- masters at 0, 50 and 100 with the user coordinates 0, 100 and 50: the pairs don't rise from a
-- half to 1
abbrev crossed : List Master
crossed = master (pos 0) (pos 0) ∷ master (pos 50) (pos 100) ∷ master (pos 100) (pos 50) ∷ []

crossed_pairs : avar_pairs crossed 0 0 ≡ Err (number (pos 16384))
unfolding avar_pairs pairs_of
crossed_pairs = refl

-- masters at 400 and 700 whose user coordinates are their design coordinates
abbrev pub ends : List Master
ends = master (pos 26214400) (pos 26214400) ∷ master (pos 45875200) (pos 45875200) ∷ []

ends_pairs : avar_pairs ends 0 0 ≡ Ok (pair (negsuc 16383) (negsuc 16383) ∷ pair (pos 0) (pos 0)
    ∷ pair (pos 16384) (pos 16384) ∷ [])
unfolding avar_pairs pairs_of
ends_pairs = refl

-- masters at 0, 50 and 100 with the user coordinates 100, 400 and 900, of which the second is the
-- default
abbrev bent : List Master
bent =
    master (pos 0) (pos 6553600) ∷ master (pos 3276800) (pos 26214400)
    ∷ master (pos 6553600) (pos 58982400) ∷ []

-- half the way to the second is 250, half the way on to the third is 650
bent_low : user_at (points_of bent 0) (pos 1638400) ≡ pos 16384000
unfolding user_at
bent_low = refl

bent_high : user_at (points_of bent 0) (pos 4915200) ≡ pos 42598400
unfolding user_at
bent_high = refl

-- at a master the user coordinate is the master's, and past the ends it is that of the end
bent_middle : user_at (points_of bent 0) (pos 3276800) ≡ pos 26214400
unfolding user_at
bent_middle = refl

bent_before : user_at (points_of bent 0) (negsuc 65535) ≡ pos 6553600
unfolding user_at
bent_before = refl

bent_after : user_at (points_of bent 0) (pos 13107200) ≡ pos 58982400
unfolding user_at
bent_after = refl

-- half a unit between two raw numbers that are neighbours goes up
half_up : user_at (points_of (master (pos 0) (pos 7) ∷ master (pos 2) (pos 8) ∷ []) 0) (pos 1)
    ≡ pos 8
unfolding user_at
half_up = refl

-- of two masters at one design coordinate the first counts
first_counts : user_at (points_of (master (pos 5) (pos 7) ∷ master (pos 5) (pos 9) ∷ []) 0) (pos 5)
    ≡ pos 7
unfolding user_at
first_counts = refl
