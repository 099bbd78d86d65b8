use Rattle.std.proofs.Common.{sym, ◌∙◌, arith}
use Rattle.job_graph.proofs.Numbered.{number_within, number_found, left_found, numbered_within}
use Rattle.job_graph.proofs.numbers.Numbers.job.Goals as goal

pub offset_bounds-jobs-number : goal.offset_bounds-jobs-number
offset_bounds-jobs-number g c =
    let lt = number_within g.Id.PartialEq.eq g.Id.Ord.cmp c.args.jobs.now c.args.self.now c.requires
    c.args.id.now c.in-Some.number.now (sym c.in-Some.ensures.value) in
    omega (arith, lt)

pub bounds-jobs-number : goal.bounds-jobs-number
bounds-jobs-number g c =
    number_within g.Id.PartialEq.eq g.Id.Ord.cmp c.args.jobs.now c.args.self.now c.requires
    c.args.id.now c.in-Some.number.now (sym c.in-Some.ensures.value)

pub returns-in-Some : goal.returns-in-Some
returns-in-Some g c =
    number_found g.Id.PartialEq.eq g.Id.Ord.cmp c.args.jobs.now c.args.self.now c.requires
    c.args.id.now c.in-Some.number.now (sym c.in-Some.ensures.value)
    c.index-jobs-number.result c.index-jobs-number.is

pub returns-in-None : goal.returns-in-None
returns-in-None g c = c.job_from.ensures
    ∙ left_found g.Id.PartialEq.eq g.Id.Ord.cmp c.args.jobs.now c.args.self.now c.requires
    c.args.id.now (sym c.in-None.ensures.value)

pub job_from-requires : goal.job_from-requires
job_from-requires g c =
    numbered_within g.Id.PartialEq.eq g.Id.Ord.cmp c.args.jobs.now c.args.self.now c.requires
