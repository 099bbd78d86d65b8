use Rattle.std.proofs.Common.{map, sym, ap, ◌∙◌, arith}
use Rattle.std.proofs.lemmas.Option.{slice_get_within, same_Some}
use Rattle.access_context.specs.declared.access.Spec.{Spec}
use Rattle.job_graph.specs.Rounds.{item_of}
use Rattle.job_graph.proofs.Placing.{there_is}
use Rattle.job_graph.proofs.turns.next_run.Goals as goal

pub offset_bounds-jobs-turn : goal.offset_bounds-jobs-turn
offset_bounds-jobs-turn g c =
    let at = rw c.in-Some.is at c.in_ok-next_turn.ensures.turn in
    let lt = slice_get_within c.args.jobs.now c.in-Some.turn.number at.due.job at.due.there in
    omega arith

pub bounds-jobs-turn : goal.bounds-jobs-turn
bounds-jobs-turn g c =
    let at = rw c.in-Some.is at c.in_ok-next_turn.ensures.turn in
    slice_get_within c.args.jobs.now c.in-Some.turn.number at.due.job at.due.there

pub returns-in-None-clause-next : goal.returns-in-None-clause-next
returns-in-None-clause-next g c = rw c.in-None.is at c.in_ok-next_turn.ensures.turn

pub returns-in_ok-indexed-in-Some-clause-next : goal.returns-in_ok-indexed-in-Some-clause-next
returns-in_ok-indexed-in-Some-clause-next g c =
    let at = rw c.in-Some.is at c.in_ok-next_turn.ensures.turn in
    let lt = slice_get_within c.args.jobs.now c.in-Some.turn.number at.due.job at.due.there in
    let is = same_Some _ _ (sym (there_is c.args.jobs.now c.in-Some.turn.number
    c.index-jobs-turn.result lt c.index-jobs-turn.is) ∙ at.due.there) in (
      at,
      c.in_ok-indexed-in-Some.ensures ∙ (c.in_ok-reads-in-Some.ensures
          ∙ ap (map (item_of g.P.Id.PartialEq.eq c.args.values.now)) (c.as_slice.ensures
          ∙ ap (λ (job : Spec g.row.P-Id.Denot). job.access.reads) is)),
    )
