-- the tokens so far, with those of the rest, are the text's, and lie in it
use Rattle.std.proofs.Common.{length, drop, ◌-◌, ◌≡◌, ◌≤◌, ◌++◌}
use Rattle.std.specs.List.{All}
use Rattle.feature_tokens.specs.Tokens.{tokens_in, IsInside}
use Rattle.feature_tokens.proofs.tokens.tokenize.Given as goal

abbrev pub invariant-loop-place : goal.invariant-loop-place
invariant-loop-place l = record {
  within : l.place ≤ length l.bytes;
  so_far : l.found ++ tokens_in 0 l.place (drop l.place l.bytes) ≡ tokens_in 0 0 l.bytes;
  inside : All (IsInside (length l.bytes)) l.found;
}

abbrev pub decreases-loop-place : goal.decreases-loop-place
decreases-loop-place l = length l.bytes - l.place
