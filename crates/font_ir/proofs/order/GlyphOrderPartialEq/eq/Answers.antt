use Rattle.std.proofs.Common.{nat_eq, ◌∙◌}
use Rattle.std.specs.Option.{option_eq}
use Rattle.std.specs.Cmp.Lexicographic.{pointwise}
use Rattle.font_ir.specs.Glyphs.{orders_eq}
use Rattle.font_ir.proofs.Names.{pointwise-map, and_second}
use Rattle.font_ir.proofs.order.GlyphOrderPartialEq.eq.Goals as goal

pub returns-then-eq : goal.returns-then-eq
returns-then-eq c =
    let numbers = c.eq.ensures ∙ (λ i. pointwise (option_eq nat_eq) (c.as_slice.ensures.value i)
    (c.as_slice-2.ensures.value i)) in
    let names =
    c.eq-then-eq.ensures
    ∙ (λ i. pointwise (λ a b. pointwise nat_eq a.items b.items) (c.as_slice-then-eq.ensures.keys i)
    (c.as_slice-then-eq-2.ensures.keys i))
    ∙ pointwise-map (pointwise nat_eq) (λ name. name.items) c.self.inside.names.keys
    c.other.inside.names.keys in
    and_second _ _ _ _ c.if-eq.true numbers names
    ∙ (λ i. orders_eq (c.self.view_is i) (c.other.view_is i))
