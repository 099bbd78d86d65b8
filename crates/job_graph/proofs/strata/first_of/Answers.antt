use Rattle.std.proofs.Common.{Some, sym, ap, ◌∙◌}
use Rattle.std.specs.Prelude.{slice_get, slice_index_or}
use Rattle.std.proofs.lemmas.Option.{slice_get-get_or}
use Rattle.job_graph.proofs.Passing.{bound_of_queue}
use Rattle.job_graph.proofs.strata.first_of.Goals as goal

pub is_open-requires : goal.is_open-requires
is_open-requires g c = λ stratum e. c.requires.passed stratum
    (slice_index_or c.args.passed.now c.args.queue 0)
    (ap (slice_get c.args.passed.now) (sym e)
    ∙ slice_get-get_or c.args.passed.now c.args.queue 0 c.requires.known)

pub returns-then-is_open : goal.returns-then-is_open
returns-then-is_open g c = (
  record {
    queue = c.index.result.now;
    there = slice_get-get_or c.args.queues.now.queues.items c.args.queue c.index.result.now
        c.requires.within ∙ ap Some (sym c.index.ensures);
    found = c.in_ok-id.ensures.some;
  },
  sym c.is_open.ensures ∙ c.if-is_open.true,
  bound_of_queue g.P.Id.Ord.cmp c.args.queues.now.queues.items c.args.queue c.index.result.now
      (slice_get-get_or c.args.queues.now.queues.items c.args.queue c.index.result.now
      c.requires.within ∙ ap Some (sym c.index.ensures)) c.in_ok-id.id c.in_ok-id.ensures.least,
)
