use Rattle.std.proofs.Common.{◌≡◌, map}
use Rattle.std.specs.List.{range_with_len}
use Rattle.board_bench.specs.declared.job.Job.TheVariants as job
use Rattle.board_bench.proofs.plan.raw_glyphs.Given as goal

abbrev pub invariant-loop-number : goal.invariant-loop-number
invariant-loop-number l = l.ids.items ≡ map job.Raw (range_with_len 0 l.number)
