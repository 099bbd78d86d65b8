-- The headers of a glyph's tuples (OpenType 1.9, "Tuple variation store", "Tuple variation
-- header").
use Rattle.std.specs.Prelude.{ℕ, ◌+◌, Bool, true, false, not, ◌&&◌, if◌then◌else◌, pos, List, []}
use Rattle.std.specs.Prelude.{◌∷◌, ◌++◌, Option, Some, None, position}
use Rattle.std.specs.Int.{int_max, int_min}
use Rattle.std.specs.List.{flat_map, list_all}
use Rattle.std.specs.Ordering.{int_eq}
use Rattle.fixed_math.specs.declared.F2Dot14.{F2Dot14}
use Rattle.font_ir.specs.declared.variation.Region.{Region}
use Rattle.table_bytes.specs.DataTypes.{uint16, int16}

-- start, peak and end on an axis
abbrev pub Side : Type 0
Side = F2Dot14 × F2Dot14 × F2Dot14

-- ---- tuple records

abbrev pub start_tuple : List Side → List ℕ
start_tuple sides = flat_map (λ side. int16 side.0.0) sides

abbrev pub peak_tuple : List Side → List ℕ
peak_tuple sides = flat_map (λ side. int16 side.1.0) sides

abbrev pub end_tuple : List Side → List ℕ
end_tuple sides = flat_map (λ side. int16 side.2.0) sides

-- ---- peaks that are shared

abbrev pub same_peaks : List Side → List Side → Bool
same_peaks [] [] = true
same_peaks [] (b ∷ bs) = false
same_peaks (a ∷ others) [] = false
same_peaks (a ∷ others) (b ∷ bs) = int_eq a.1.0 b.1.0 && same_peaks others bs

-- the number of a region's peak among the shared ones
abbrev pub shared_number : List Region → Region → Option ℕ
shared_number shared region = position (λ other. same_peaks other.sides region.sides) shared

-- EMBEDDED_PEAK_TUPLE where the peak isn't shared, and else its number
abbrev pub peak_bits : Option ℕ → ℕ
peak_bits None = 32768
peak_bits (Some number) = number

abbrev pub embedded_peak : Option ℕ → Region → List ℕ
embedded_peak None region = peak_tuple region.sides
embedded_peak (Some number) region = []

-- ---- regions that reach farther than from 0 over the peak, or to it

-- a reader takes an axis to go from the lesser of 0 and the peak to the greater
abbrev pub is_implied : Side → Bool
is_implied side = int_eq side.0.0 (int_min (pos 0) side.1.0)
    && int_eq side.2.0 (int_max (pos 0) side.1.0)

abbrev pub is_intermediate : Region → Bool
is_intermediate region = not (list_all is_implied region.sides)

-- INTERMEDIATE_REGION
abbrev pub intermediate_bits : Bool → ℕ
intermediate_bits intermediate = if intermediate then 16384 else 0

abbrev pub intermediate_tuples : Bool → Region → List ℕ
intermediate_tuples intermediate region = if intermediate then start_tuple region.sides
    ++ end_tuple region.sides else []

-- ---- the header

-- PRIVATE_POINT_NUMBERS is set in each
abbrev pub tuple_index : Option ℕ → Bool → ℕ
tuple_index number intermediate = 8192 + peak_bits number + intermediate_bits intermediate

-- for a peak of this number among the shared ones, where it is shared
abbrev pub header_of : Option ℕ → Bool → Region → ℕ → List ℕ
header_of number intermediate region variation_data_size =
    uint16 variation_data_size ++ uint16 (tuple_index number intermediate)
    ++ embedded_peak number region ++ intermediate_tuples intermediate region

unfoldable pub tuple_header : List Region → Region → ℕ → List ℕ
tuple_header shared region variation_data_size =
    header_of (shared_number shared region) (is_intermediate region) region variation_data_size
