-- The tables tell what axes and instances fail: what the proofs of tables in other crates need, and
-- no reader.
use Rattle.std.proofs.Common.{◌≡◌, ◌⊎◌, ℕ, List, [], ◌++◌, inl, inr, refl}
use Rattle.std.specs.Prelude.{codes}
use Rattle.plist_reader.specs.declared.tree.Tree.{Tree}
use Rattle.plist_reader.specs.Tree.{text_at}
use Rattle.refusal_codes.specs.declared.rule.Rule.TheVariants.{OutOfRange, BadTag}
use Rattle.source_values.specs.declared.kinds.Range.TheVariants.{Any}
use Rattle.source_values.specs.Asking.{each, dictionary}
use Rattle.source_values.specs.KindLaws.{tested_by}
use Rattle.source_values.specs.Tables.{decimal_table}
use Rattle.source_values.specs.Telling.{Told, whole, text, name, tried, measured, also, must, can}
use Rattle.source_values.specs.Telling.{every, within}
use Rattle.source_axes.specs.AxisValues.{is_axis_value, axis_value_failures_by}
use Rattle.source_axes.specs.AxisValues.{axis_value_failures}
use Rattle.source_axes.specs.AxisReading.{is_tag, tag_failures_by, tag_failures}
use Rattle.source_axes.specs.AxisReading.{axis_parts_failures}
use Rattle.source_axes.specs.InstanceReading.{instance_parts_failures, kept_limit_failures}
use Rattle.source_axes.specs.InstanceReading.{instances_failures}
use Rattle.source_axes.specs.AxisTables.{tag_table, axis_table, axes_table, instance_table}
use Rattle.source_axes.specs.AxisTables.{keeps_few, instances_table}

pub axis_value_told : Told (decimal_table OutOfRange is_axis_value) axis_value_failures
unfolding axis_value_failures
axis_value_told = measured OutOfRange is_axis_value axis_value_failures_by (λ t n. refl)
    (λ t n d. refl)

tag_told : Told tag_table tag_failures
unfolding tag_failures
tag_told = record {
  tells = tested_by (λ t n. text_at t.nodes n) BadTag is_tag tag_failures_by (λ t n. refl)
      (λ t n text. refl);
}

axis_told : Told axis_table axis_parts_failures
unfolding axis_parts_failures
axis_told = also (must (codes "name") name) (must (codes "tag") tag_told)

-- the list of axes, but for tags that stand again
pub axes_told : Told axes_table (each (dictionary axis_parts_failures))
axes_told = every (within axis_told)

instance_told : Told instance_table instance_parts_failures
unfolding instance_parts_failures
instance_told =
    also (also (also (must (codes "name") name) (can (codes "axesValues") (every axis_value_told)))
    (can (codes "exports") (whole Any)))
    (can (codes "type") text)

pub instances_told : Told instances_table instances_failures
unfolding instances_failures kept_limit_failures
instances_told = also (every (within instance_told)) (tried OutOfRange keeps_few)
