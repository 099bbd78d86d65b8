use Rattle.std.proofs.Common.{sym, ap, ◌∙◌, arith}
use Rattle.job_graph.specs.Rounds.{is_settled}
use Rattle.job_graph.proofs.Ranges.{row_within, row, row_settled, row_none}
use Rattle.job_graph.proofs.board.Board.added_by.Goals as goal

pub returns-in-None-clause-settled : goal.returns-in-None-clause-settled
returns-in-None-clause-settled g c = rw (← c.self.view_is)
    (sym (ap (λ s. is_settled g.P.Id.PartialEq.eq s c.args.id.now)
    (sym c.self.invariant.board.state_is) ∙ row_none g.P.Id.PartialEq.eq
    (g.P.Plan.meaning c.self.inside.plan) c.self.inside.jobs.items c.self.inside.values
    c.args.id.now (sym c.in-None.ensures)))

pub index-requires : goal.index-requires
index-requires g c = omega (
  arith,
  c.self.inside.ranges.ok.0,
  row_within g.P.Id.PartialEq.eq
      (g.P.Plan.meaning c.self.inside.plan) (λ x y.
      ((g.met.P.Plan.lawful c.self.inside.plan).identity x y).0) c.self.inside.jobs.items
      c.self.inside.values c.self.inside.ranges.items c.self.invariant.rows c.args.id.now
      c.in-Some.place (sym c.in-Some.ensures),
)

pub returns-in-Some-clause-settled : goal.returns-in-Some-clause-settled
returns-in-Some-clause-settled g c = rw (← c.self.view_is)
    (sym (ap (λ s. is_settled g.P.Id.PartialEq.eq s c.args.id.now)
    (sym c.self.invariant.board.state_is) ∙ row_settled g.P.Id.PartialEq.eq
    (g.P.Plan.meaning c.self.inside.plan) (λ x y.
    ((g.met.P.Plan.lawful c.self.inside.plan).identity x y).0) c.self.inside.jobs.items
    c.self.inside.values c.self.inside.ranges.items c.self.invariant.rows c.args.id.now
    c.in-Some.place (sym c.in-Some.ensures)))

pub part-requires : goal.part-requires
part-requires g c =
    let r = row g.P.Id.PartialEq.eq (g.P.Plan.meaning c.self.inside.plan)
    (λ x y. ((g.met.P.Plan.lawful c.self.inside.plan).identity x y).0) c.self.inside.jobs.items
    c.self.inside.values c.self.inside.ranges.items c.self.invariant.rows c.args.id.now
    c.in-Some.place (sym c.in-Some.ensures) c.index.result.now c.index.ensures in
    record { order = r.order; within = rw c.as_slice.ensures.value r.within }

pub returns-in-Some-clause-added : goal.returns-in-Some-clause-added
returns-in-Some-clause-added g c =
    let r = row g.P.Id.PartialEq.eq (g.P.Plan.meaning c.self.inside.plan)
    (λ x y. ((g.met.P.Plan.lawful c.self.inside.plan).identity x y).0) c.self.inside.jobs.items
    c.self.inside.values c.self.inside.ranges.items c.self.invariant.rows c.args.id.now
    c.in-Some.place (sym c.in-Some.ensures) c.index.result.now c.index.ensures in
    rw (c.part.ensures, c.as_slice.ensures.value, ← c.self.view_is) r.is
