use Rattle.std.proofs.Common.{ℕ, ◌<◌, ◌∙◌, vec_len, sym, subst, Vec, Global}
use Rattle.job_graph.specs.Rounds.{state_from}
use Rattle.job_graph.proofs.Placing.{agenda_woken, last_read, not_empty}
use Rattle.job_graph.proofs.agenda.Agenda.wake.Goals as goal

pub waking-preserved : goal.waking-preserved
waking-preserved g c = (
  (let items = last_read c.waking.self.waking c.place.new.self.waking c.pop.new.self.items
      c.pop.result c.index-number.result.now c.len.result c.in_ok-place.ensures.waking
      c.len.ensures c.index-number.ensures
      (subst (λ (v : Vec ℕ Global). 0 < vec_len v) (sym c.in_ok-place.ensures.waking)
      (not_empty _ c.is_empty.result c.is_empty.ensures c.waking-test.true)) c.pop.ensures.value
      c.pop.ensures.items in
      agenda_woken g.Id.PartialEq.eq g.Id.Ord.cmp (state_from c.args.jobs.now c.args.values.now)
      c.args.outs.now c.place.new.self c.in_ok-place.ensures.agenda c.pop.new.self
      c.index-number.result.now items c.in_ok-place.ensures.placed),
  record {
    jobs = c.in_ok-place.ensures.counts.jobs ∙ c.waking.invariant.1.jobs;
    told = c.in_ok-place.ensures.counts.told ∙ c.waking.invariant.1.told;
  },
)
