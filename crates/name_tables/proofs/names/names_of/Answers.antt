use Rattle.std.proofs.Common.{◌++◌, arith, ap, length}
use Rattle.name_tables.proofs.Lengths.{axis_names_length}
use Rattle.name_tables.proofs.Stores.{adds_both, holds_all}
use Rattle.name_tables.specs.Texts.{axis_names, font_names, instance_names}
use Rattle.name_tables.proofs.names.names_of.Goals as goal

pub push_instance_names-requires-clause-room : goal.push_instance_names-requires-clause-room
push_instance_names-requires-clause-room c =
    let fonts = c.in_ok-push_font_names.ensures in
    let axes = c.in_ok-push_axis_names.ensures in
    omega (
      arith,
      fonts.room,
      axes.room,
      axis_names_length c.args.header.now,
      c.requires.few_axes,
      ap length c.new-names.ensures.texts,
    )

pub returns : goal.returns
returns c =
    let h = c.args.header.now in
    holds_all c.new-names.result c.push_instance_names.new.names
    (font_names h ++ axis_names h ++ instance_names h) c.new-names.ensures.records
    c.new-names.ensures.texts
    (adds_both c.new-names.result c.push_axis_names.new.names c.push_instance_names.new.names
    (font_names h ++ axis_names h) (instance_names h)
    (adds_both c.new-names.result c.push_font_names.new.names c.push_axis_names.new.names
    (font_names h) (axis_names h) c.in_ok-push_font_names.ensures
    c.in_ok-push_axis_names.ensures) c.in_ok-push_instance_names.ensures)
