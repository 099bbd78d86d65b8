-- The vertical metrics of masters (Glyphs file format, version 3, `metrics` and `metricValues`):
-- the font lists what its metrics are of, and each master has values by their positions. The types
-- that are used, the range and what stands for a missing metric are fontc's own.
use Rattle.std.specs.Prelude.{ℕ, ◌*◌, ◌/◌, Bool, ◌&&◌, ◌||◌, List, [], ◌++◌, map, flat_map}
use Rattle.std.specs.Prelude.{slice_get, position, codes, Option, Some, None, option_map}
use Rattle.std.specs.Prelude.{option_and_then, unwrap_or, ℤ, pos, neg_ℤ, ◌-ℤ◌, if◌then◌else◌}
use Rattle.std.specs.Option.{option_map_or}
use Rattle.std.specs.List.{zip}
use Rattle.plist_reader.specs.declared.tree.Tree.{Tree}
use Rattle.plist_reader.specs.Tree.{find_in, spells}
use Rattle.refusal_codes.specs.declared.rule.Rule.TheVariants.{WrongShape, NotWhole, OutOfRange}
use Rattle.refusal_codes.specs.declared.first.Failure.{Failure}
use Rattle.source_values.specs.declared.decimals.Decimal.{Decimal}
use Rattle.source_values.specs.declared.kinds.Range.TheVariants.{Coordinate}
use Rattle.source_values.specs.Decimals.{is_whole}
use Rattle.source_values.specs.Values.{items_at, decimal_at, in_range, items_under, text_under}
use Rattle.source_values.specs.Asking.{fails, text_failures, dictionary_failures, each, dictionary}
use Rattle.source_values.specs.Asking.{optional}
use Rattle.source_masters.specs.declared.metrics.Heights.{Heights}

-- ---- the metrics of the font

-- a list of dictionaries, whose `type` is a text where it stands
unfoldable pub metric_failures : Tree → ℕ → List Failure
metric_failures = optional (codes "type") text_failures

abbrev pub metrics_failures : Tree → ℕ → List Failure
metrics_failures = each (dictionary metric_failures)

-- the metrics that the font lists
unfoldable pub metric_numbers : Tree → List ℕ
metric_numbers t = items_under t t.top (codes "metrics")

abbrev pub is_of_type : List ℕ → Tree → ℕ → Bool
is_of_type kind t metric = spells kind (text_under t metric (codes "type"))

-- the four types that are used
unfoldable pub is_used : Tree → ℕ → Bool
is_used t metric =
    is_of_type (codes "ascender") t metric
    || is_of_type (codes "descender") t metric
    || is_of_type (codes "cap height") t metric
    || is_of_type (codes "x-height") t metric

-- of each metric that the font lists, whether it is used; also the second of one type is
abbrev pub used_metrics : Tree → List Bool
used_metrics t = map (is_used t) (metric_numbers t)

-- ---- the values of a master

-- a height: a whole number from -16383 to 16383
abbrev pub height_failures_by : Tree → ℕ → Option Decimal → List Failure
height_failures_by t n None = fails WrongShape t n
height_failures_by t n (Some d) =
    if is_whole d
    then (if in_range Coordinate d then [] else fails OutOfRange t n)
    else fails NotWhole t n

unfoldable pub height_failures : Tree → ℕ → List Failure
height_failures t n = height_failures_by t n (decimal_at t n)

-- the value beside a metric: its `pos` is read where the metric is used
unfoldable pub value_failures : Tree → Bool × ℕ → List Failure
value_failures t beside =
    if beside.0 then optional (codes "pos") height_failures t beside.1 else []

-- a list of dictionaries, where these metrics are used
unfoldable pub metric_values_failures : List Bool → Tree → ℕ → List Failure
metric_values_failures used t n =
    each dictionary_failures t n
    ++ flat_map (value_failures t) (zip used (unwrap_or (items_at t n) []))

-- ---- heights

-- the height that a value is, and 0 where it is none
abbrev pub height_by : Option Decimal → ℤ
height_by None = pos 0
height_by (Some d) =
    if is_whole d && in_range Coordinate d
    then (if d.negative then neg_ℤ (pos d.whole) else pos d.whole)
    else pos 0

unfoldable pub height_at : Tree → ℕ → ℤ
height_at t n = height_by (decimal_at t n)

-- the height in a value of a master, 0 where it has no `pos`
unfoldable pub height_in : Tree → ℕ → ℤ
height_in t value = option_map_or (height_at t) (find_in t value (codes "pos")) (pos 0)

-- what a master has of a type, where these are the font's metrics: the height in its value at the
-- position of the first metric of that type
unfoldable pub height_of : List ℕ → Tree → List ℕ → ℕ → Option ℤ
height_of kind t metrics master =
    option_map (height_in t)
    (option_and_then (slice_get (items_under t master (codes "metricValues")))
    (position (is_of_type kind t) metrics))

-- the four heights of a master, of which these stand for those that it hasn't
unfoldable pub heights_of : Tree → List ℕ → ℕ → Heights → Heights
heights_of t metrics master missing = record {
  ascender = unwrap_or (height_of (codes "ascender") t metrics master) missing.ascender;
  descender = unwrap_or (height_of (codes "descender") t metrics master) missing.descender;
  cap = unwrap_or (height_of (codes "cap height") t metrics master) missing.cap;
  xheight = unwrap_or (height_of (codes "x-height") t metrics master) missing.xheight;
}

-- the heights that the default master hasn't, in a font of so many units per em: the ascender is
-- four fifths of the em, rounded down, the descender that less the em, and the others are 0
unfoldable pub missing_heights : ℕ → Heights
missing_heights units = record {
  ascender = pos (units * 4 / 5);
  descender = pos (units * 4 / 5) -ℤ pos units;
  cap = pos 0;
  xheight = pos 0;
}
