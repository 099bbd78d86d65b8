-- The named instances that a source has, and the rules that they may fail (Glyphs file format,
-- version 3; the rules, and which instances are kept, are fontc's own).
use Rattle.std.specs.Prelude.{ℕ, Bool, true, not, ◌&&◌, ◌==◌, nat_le, List, [], ◌++◌, length, map}
use Rattle.std.specs.Prelude.{flat_map, Option, Some, None, codes, if◌then◌else◌}
use Rattle.std.specs.List.{filter}
use Rattle.std.specs.Option.{option_map_or}
use Rattle.plist_reader.specs.declared.tree.Tree.{Tree}
use Rattle.plist_reader.specs.Tree.{find_in, is_key}
use Rattle.font_ir.specs.declared.header.Instance.{Instance}
use Rattle.refusal_codes.specs.declared.rule.Rule.TheVariants.{OutOfRange, AxisCount}
use Rattle.refusal_codes.specs.declared.first.Failure.{Failure}
use Rattle.refusal_codes.specs.declared.limits.TheConstants.{INSTANCES}
use Rattle.source_values.specs.declared.kinds.Range.TheVariants.{Any}
use Rattle.source_values.specs.Values.{is_zero, items_under, text_or_empty, decimal_under}
use Rattle.source_values.specs.Asking.{fails, whole_failures, text_failures, name_failures, each}
use Rattle.source_values.specs.Asking.{dictionary, required, optional}
use Rattle.source_axes.specs.AxisValues.{axis_value_failures, coordinates_under}
use Rattle.source_axes.specs.AxisReading.{items_or_none, axis_numbers}

-- ---- local rules

unfoldable pub instance_parts_failures : Tree → ℕ → List Failure
instance_parts_failures t i =
    required (codes "name") name_failures t i
    ++ optional (codes "axesValues") (each axis_value_failures) t i
    ++ optional (codes "exports") (whole_failures Any) t i
    ++ optional (codes "type") text_failures t i

-- an instance is kept where its `exports` is not 0, and its `type`, if it has one, is `single`
unfoldable pub is_kept : Tree → ℕ → Bool
is_kept t i =
    not (is_zero (decimal_under t i (codes "exports")))
    && option_map_or (is_key t (codes "single")) (find_in t i (codes "type")) true

-- a font without axes keeps no instance
abbrev pub kept_among : Tree → List ℕ → List ℕ
kept_among t items = if length (axis_numbers t) == 0 then [] else filter (is_kept t) items

-- at most 64 are kept
unfoldable pub kept_limit_failures : Tree → ℕ → List Failure
kept_limit_failures t n =
    if nat_le (length (kept_among t (items_or_none t n))) INSTANCES
    then []
    else fails OutOfRange t n

-- a list of dictionaries, also of those that aren't kept
unfoldable pub instances_failures : Tree → ℕ → List Failure
instances_failures t n =
    each (dictionary instance_parts_failures) t n ++ kept_limit_failures t n

-- ---- the records

unfoldable pub instance_of : Tree → ℕ → Instance
instance_of t i = record {
  name = text_or_empty t i (codes "name");
  design = coordinates_under t i (codes "axesValues");
}

-- the instances that are kept
unfoldable pub kept_instances : Tree → List ℕ
kept_instances t = kept_among t (items_under t t.top (codes "instances"))

unfoldable pub instances_of : Tree → List Instance
instances_of t = map (instance_of t) (kept_instances t)

-- ---- a whole rule: a kept instance has one coordinate per axis

abbrev pub count_failures : Tree → ℕ → ℕ → List Failure
count_failures t axes i =
    if length (items_under t i (codes "axesValues")) == axes then [] else fails AxisCount t i

unfoldable pub instance_count_failures : Tree → ℕ → List Failure
instance_count_failures t axes = flat_map (count_failures t axes) (kept_instances t)
