use Rattle.std.proofs.Common.{◌-◌, length}
use Rattle.job_graph.specs.Numbered.{IsNumbered}
use Rattle.job_graph.proofs.numbers.Numbers.note_all.Given as goal

abbrev pub invariant-jobs : goal.invariant-jobs
invariant-jobs g l = IsNumbered g.Id.PartialEq.eq g.Id.Ord.cmp l.jobs l.self

abbrev pub decreases-jobs : goal.decreases-jobs
decreases-jobs g l = length l.jobs - l.self.count
