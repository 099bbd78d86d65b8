-- The metrics of a whole font that vary with its masters: their tags (OpenType 1.9, "MVAR", "Value
-- tags"), their deltas, and which of them vary. That these four are told, and in this order, is
-- fontc's own.
use Rattle.std.specs.Prelude.{◌≡◌, ℕ, Bool, not, List, [], ◌∷◌, map, drop, codes, ℤ, pos, ◌*ℤ◌}
use Rattle.std.specs.Prelude.{Option, None, Some, filter}
use Rattle.std.specs.List.{list_any}
use Rattle.std.specs.Option.{option_or}
use Rattle.std.specs.Ordering.{int_eq}
use Rattle.fixed_math.specs.declared.Fixed.{Fixed}
use Rattle.font_ir.specs.declared.header.Header.{Header}
use Rattle.font_ir.specs.declared.header.Master.{Master}
use Rattle.variation_model.specs.Deltas.{deltas_of, first_large}
use Rattle.variation_model.specs.declared.errors.DeltaError.{DeltaError}
use Rattle.variation_model.specs.declared.errors.DeltaError.TheVariants as delta_errors
use Rattle.style_tables.specs.declared.metrics.Metric.{Metric}
use Rattle.style_tables.specs.declared.metrics.Metric.TheVariants as of

-- by tag
abbrev pub all_metrics : List Metric
all_metrics = of.CapHeight ∷ of.Ascender ∷ of.Descender ∷ of.XHeight ∷ []

abbrev pub tag_of : Metric → List ℕ
tag_of of.CapHeight = codes "cpht"
tag_of of.Ascender = codes "hasc"
tag_of of.Descender = codes "hdsc"
tag_of of.XHeight = codes "xhgt"

-- a master's number, in font units
abbrev pub number_at : Metric → Master → ℤ
number_at of.CapHeight master = master.cap
number_at of.Ascender master = master.ascender
number_at of.Descender master = master.descender
number_at of.XHeight master = master.xheight

-- the same in 16.16, and those of all masters
abbrev pub fixed_at : Metric → Master → Fixed
fixed_at metric master = record { 0 = pos 65536 *ℤ number_at metric master }

abbrev pub numbers_of : Header → Metric → List Fixed
numbers_of header metric = map (fixed_at metric) header.masters

-- the deltas by the model of the masters' locations, and those behind the first one, which is the
-- default's number
abbrev pub metric_deltas : Header → Metric → List ℤ
metric_deltas header metric =
    deltas_of (map (λ master. master.location) header.masters) (numbers_of header metric)

abbrev pub row_of : Header → Metric → List ℤ
row_of header metric = drop 1 (metric_deltas header metric)

-- a metric varies where a delta of its row is not zero
abbrev pub is_varied : List ℤ → Bool
is_varied row = list_any (λ delta. not (int_eq delta (pos 0))) row

abbrev pub varies : Header → Metric → Bool
varies header metric = is_varied (row_of header metric)

abbrev pub varied_among : Header → List Metric → List Metric
varied_among header metrics = filter (varies header) metrics

abbrev pub varied_metrics : Header → List Metric
varied_metrics header = varied_among header all_metrics

abbrev pub rows_of : Header → List Metric → List (List ℤ)
rows_of header metrics = map (row_of header) metrics

-- the first delta that can't be stored, of the first metric that has one: its number in the model's
-- order, and its value
abbrev pub first_large_of : Header → List Metric → Option (ℕ × ℤ)
first_large_of header [] = None
first_large_of header (metric ∷ metrics) =
    option_or (first_large 0 (metric_deltas header metric)) (first_large_of header metrics)

-- The first delta that can't be stored is the error, if there is one. Memory may run out.
abbrev pub RefusesMetrics : DeltaError → Option (ℕ × ℤ) → Type 0
RefusesMetrics (delta_errors.TooLarge at value) large = large ≡ Some (at, value)
RefusesMetrics delta_errors.NoMemory large = Unit {0}
