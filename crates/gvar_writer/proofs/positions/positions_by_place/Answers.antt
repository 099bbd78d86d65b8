use Rattle.std.proofs.Common.{◌≡◌, ◌++◌, ◌∷◌, [], ◌∙◌, ap, sym, map, length, List, Vec, Global}
use Rattle.std.proofs.Common.{arith}
use Rattle.std.proofs.lemmas.List.{map_push}
use Rattle.std.proofs.lemmas.List.FromFn.{map-range_with_len_more}
use Rattle.std.proofs.lemmas.Grind.{common_steps}
use Rattle.std.proofs.lemmas.List.Elements.{All-push}
use Rattle.gvar_writer.specs.GlyphPoints.{positions_at, point_total}
use Rattle.gvar_writer.proofs.PointLaws.{same_total}
use Rattle.gvar_writer.specs.declared.positions.Position.{Position}
use Rattle.gvar_writer.proofs.positions.positions_by_place.Goals as goal

pub loop-place-preserved : goal.loop-place-preserved
loop-place-preserved c =
    let items : Vec Position Global → List Position = λ positions. positions.items in
    let place = c.loop-place.place in
    let own = c.in_ok-positions_at.ensures in
    let flat = c.requires in
    record {
      told = ap (map items) c.in_ok-push.ensures.items
          ∙ map_push items c.loop-place.by_place.items _
          ∙ (λ i. c.loop-place.invariant.told i ++ own i ∷ [])
          ∙ sym (map-range_with_len_more (positions_at c.args.glyph.now) 0 place place
          (omega arith));
      places = grind (arith, common_steps);
      as_many = rw c.in_ok-push.ensures.items (All-push (λ positions. length positions.items
          ≡ point_total c.args.glyph.now) _ _ c.loop-place.invariant.as_many
          (ap length own ∙ same_total c.args.glyph.now place flat (omega arith)));
    }
