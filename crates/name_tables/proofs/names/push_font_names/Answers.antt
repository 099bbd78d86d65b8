use Rattle.name_tables.proofs.Stores.{adds_both}
use Rattle.name_tables.specs.Texts.{style_names, version_names}
use Rattle.name_tables.proofs.names.push_font_names.Goals as goal

pub returns : goal.returns
returns c =
    let h = c.args.header.now in
    adds_both c.args.names.now c.push_style_names.new.names c.push_version_names.new.names
    (style_names h) (version_names h) c.in_ok-push_style_names.ensures
    c.in_ok-push_version_names.ensures
