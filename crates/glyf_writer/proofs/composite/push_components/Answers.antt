use Rattle.std.proofs.Common.{◌≡◌, ◌+◌, ◌<◌, ◌≤◌, ◌++◌, ℕ, ℤ, pos, Bool, true, false, ltb, List}
use Rattle.std.proofs.Common.{length, get_or, sym, ap, ◌∙◌, arith, append_assoc}
use Rattle.std.proofs.lemmas.Bool.Decides.{nat_tests}
use Rattle.glyf_writer.specs.CompositeData.{component_bytes, component_at}
use Rattle.glyf_writer.proofs.Components.{written_from, written_more}
use Rattle.glyf_writer.proofs.composite.push_components.Goals as goal

-- src/composite.rt:64:5
pub loop-number-preserved : goal.loop-number-preserved
loop-number-preserved c =
    let kept = c.args.kept.now in
    let gids = c.args.gids.now in
    let i = c.loop-number.number in
    let more = ltb (i + 1) (length gids) in
    let rest = written_from c.args.origin kept gids (i + 1) in
    let item = c.index-kept-number.result in
    let written : List (ℤ × ℤ) → List ℕ = λ at. component_bytes more (record {
      glyph = get_or gids i 0;
      x = (get_or at c.args.origin (pos 0, pos 0)).0;
      y = (get_or at c.args.origin (pos 0, pos 0)).1;
    }) in
    ap (λ bytes. bytes ++ rest) c.in_ok-push_component.ensures
    ∙ append_assoc c.loop-number.bytes.items (written c.as_slice.result.now) rest
    ∙ ap (λ at. c.loop-number.bytes.items ++ (written at ++ rest)) c.as_slice.ensures
    ∙ ap (λ k. c.loop-number.bytes.items
    ++ (component_bytes more (component_at c.args.origin k (get_or gids i 0)) ++ rest))
    c.index-kept-number.is
    ∙ ap (λ bytes. c.loop-number.bytes.items ++ bytes)
    (sym (written_more c.args.origin kept gids i item 0 more c.requires.gids (omega arith)
    (λ e. grind (arith, nat_tests)) (λ e. grind (arith, nat_tests))))
    ∙ c.loop-number.invariant
