use Rattle.std.proofs.Common.{nat_eq, sym, ap, ◌∙◌}
use Rattle.std.specs.Cmp.Lexicographic.{pointwise}
use Rattle.font_ir.specs.Glyphs.{gid_of}
use Rattle.font_ir.proofs.Names.{position-map}
use Rattle.font_ir.proofs.order.GlyphOrder.gid.Goals as goal

pub returns-in-Some : goal.returns-in-Some
returns-in-Some c =
    let name = c.args.name.now in
    c.in-Some.ensures.index ∙ sym (position-map (pointwise nat_eq name) (λ key. key.items)
    c.self.inside.names.keys)
    ∙ ap (λ order. gid_of order.names name) c.self.view_is

pub returns-in-None : goal.returns-in-None
returns-in-None c =
    let name = c.args.name.now in
    c.in-None.ensures.index ∙ sym (position-map (pointwise nat_eq name) (λ key. key.items)
    c.self.inside.names.keys)
    ∙ ap (λ order. gid_of order.names name) c.self.view_is
