-- a piece further
use Rattle.std.proofs.Common.{arith, ◌+◌, ◌≤◌, length}
use Rattle.std.proofs.lemmas.Grind.{common_steps}
use Rattle.feature_tokens.proofs.Skipped.{turn}
use Rattle.feature_tokens.proofs.Inside.{more_inside}
use Rattle.feature_tokens.proofs.tokens.tokenize.Goals as goal

pub loop-place-preserved : goal.loop-place-preserved
loop-place-preserved c = record {
  within = grind (arith, common_steps);
  so_far = turn c.as_bytes-bytes.result.now c.loop-place.place c.first_piece-piece.result
      c.loop-place.found c.push_token.new.found _ c.loop-place-test.true
      c.first_piece-piece.ensures.some
      c.first_piece-piece.ensures.piece c.in_ok-push_token.ensures c.loop-place.invariant.so_far;
  inside =
      let le : c.loop-place.place + c.first_piece-piece.result.length
      ≤ length c.as_bytes-bytes.result.now = grind (arith, common_steps) in
      more_inside _ c.loop-place.place c.first_piece-piece.result c.loop-place.found
      c.push_token.new.found le c.in_ok-push_token.ensures c.loop-place.invariant.inside;
}
