use Rattle.std.proofs.Common.{◌≡◌, ℕ, ℤ, List, subst, ap, ◌∙◌}
use Rattle.std.specs.Prelude.{IfOk}
use Rattle.std.specs.List.{flat_map}
use Rattle.font_ir.specs.declared.glyph.Anchor.{Anchor}
use Rattle.component_flatten.specs.Anchors.{used_if, first_anchors}
use Rattle.component_flatten.specs.Judging.{found_in}
use Rattle.component_flatten.proofs.AnchorLaws.{used_is}
use Rattle.component_flatten.proofs.anchors.used_anchors.Goals as goal

pub returns : goal.returns
returns c =
    subst (λ (r : List (List ℕ × List (ℤ × ℤ))). IfOk c.used_among.result (λ used. used ≡ r))
    (ap (λ (found : List (List (List ℕ × (ℤ × ℤ)))). flat_map (λ (anchor : Anchor).
    used_if anchor.name (found_in anchor.name found)) c.first_anchors.result.now) c.as_slice.ensures
    ∙ ap (λ (anchors : List Anchor). flat_map (λ (anchor : Anchor).
    used_if anchor.name (found_in anchor.name c.in_ok-found.found)) anchors)
    c.first_anchors.ensures
    ∙ used_is c.in_ok-found.found c.args.layers.now (first_anchors c.args.layers.now)
    c.in_ok-found.ensures) c.used_among.ensures
