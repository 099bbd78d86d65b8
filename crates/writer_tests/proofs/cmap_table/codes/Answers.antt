use Rattle.std.proofs.Common.{ℕ, ◌+◌, ◌<◌, ◌≤◌, ap, length, arith}
use Rattle.std.proofs.lemmas.List.Elements.{All-push, All-weaker}
use Rattle.std.proofs.lemmas.List.Quantifiers.{all_pairs_push}
use Rattle.writer_tests.proofs.cmap_table.codes.Goals as goal

pub loop-glyph-init : goal.loop-glyph-init
loop-glyph-init c =
    let none = ap length c.in_ok-codes.ensures.items in
    record {
      are = record {
        rise = λ i j d low high. absurd (omega arith);
        within
            = λ k d high. absurd (omega arith);
      };
      below = λ k d high. absurd (omega arith);
    }

pub loop-glyph-preserved : goal.loop-glyph-preserved
loop-glyph-preserved c =
    let before = c.loop-glyph.invariant in
    let items = c.loop-glyph.codes.items in
    let code = c.loop-glyph.code in
    let one : ℕ × ℕ = (code, c.loop-glyph.glyph + 1) in
    let pushed = c.in_ok-push.ensures.items in
    record {
      are = record {
        rise = rw pushed (all_pairs_push (λ a b. a.0 < b.0) items one before.are.rise before.below);
        within = rw pushed (All-push (λ a. a.0 ≤ 1114111) items one before.are.within
            (omega arith));
      };
      below = rw pushed (All-push (λ a. a.0 < code + c.args.distance) items one
          (All-weaker (λ a. a.0 < code) (λ a. a.0 < code + c.args.distance)
          (λ a (h : a.0 < code). omega arith) items before.below) (omega arith));
    }
