use Rattle.std.proofs.Common.{◌≡◌, ◌+◌, ◌-◌, ◌++◌, List, ℕ, length, take, drop, get_or, ap, sym}
use Rattle.std.proofs.Common.{◌∙◌, arith, append_assoc, length-drop, drop-drop}
use Rattle.glyf_writer.specs.GlyphData.{with_repeats, flag_bytes}
use Rattle.glyf_writer.proofs.Runs.{front_of, take_whole}
use Rattle.glyf_writer.proofs.flags.push_flags.Goals as goal

pub loop-at-preserved : goal.loop-at-preserved
loop-at-preserved c =
    let flags = c.args.flags.now in
    let at = c.loop-at.at in
    let n = c.front_run-count.result in
    let run = c.front_run-count.ensures in
    let old = c.loop-at.bytes.items in
    let rest : List ℕ = take (length flags - at) (drop at flags) in
    let whole : rest ≡ drop at flags = take_whole at flags in
    let piece = flag_bytes (get_or rest 0 0, n) in
    record {
      within = omega (arith, run.within, ap length whole, length-drop at flags);
      told =
          ap (λ written. written ++ with_repeats (drop (at + n) flags)) c.in_ok-push_run.ensures
          ∙ append_assoc old piece (with_repeats (drop (at + n) flags))
          ∙ ap (λ more. old ++ (piece ++ with_repeats more))
          (sym (drop-drop n at flags) ∙ ap (drop n) (sym whole))
          ∙ ap (λ more. old ++ more) (sym (front_of rest n run.some run.few run.equal run.longest)
          ∙ ap with_repeats whole)
          ∙ c.loop-at.invariant.told;
    }
