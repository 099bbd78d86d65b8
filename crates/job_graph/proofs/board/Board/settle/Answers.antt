use Rattle.std.proofs.Common.{◌∷◌, [], ◌++◌, length, Some, None, refl, sym, ap, ◌∙◌, arith}
use Rattle.std.specs.Prelude.{slice_set}
use Rattle.job_graph.specs.Rounds.{state_from}
use Rattle.job_graph.proofs.Agendas.{agenda_grown, agenda_moved, passed_moved, passed_grown}
use Rattle.job_graph.proofs.Agendas.{finish_up, finish_down}
use Rattle.access_context.specs.Plain.{plain}
use Rattle.job_graph.specs.declared.event.Event.TheVariants as event
use Rattle.job_graph.proofs.Boards.{out_within, board_finish_lists, board_kept, board_history}
use Rattle.job_graph.proofs.Boards.{view_push, out_unsettled}
use Rattle.job_graph.proofs.Kept.{history_of}
use Rattle.job_graph.proofs.Halts.{now_has}
use Rattle.job_graph.proofs.Ranges.{ranges_after, ranges_same}
use Rattle.job_graph.proofs.Numbered.{numbered_more}
use Rattle.job_graph.proofs.board.Board.settle.Goals as goal

pub invariant_of-self : goal.invariant_of-self
invariant_of-self g c = record {
  board = board_kept _ _ _ _ _ _ _ _ _ c.self.invariant.board c.make_room.new.events
      c.make_room.ensures.events (rw c.as_slice-halted.ensures.value at c.make_room.ensures.room)
      c.make_room.new.jobs.items c.self.inside.values c.make_room.ensures.jobs refl;
  rows = ranges_same _ _ _ _ _ c.self.invariant.rows c.make_room.new.jobs.items c.self.inside.values
      c.make_room.new.ranges.items c.make_room.ensures.jobs refl c.make_room.ensures.ranges;
  numbered = rw c.make_room.ensures.jobs c.self.invariant.numbered;
  tasks = λ e. agenda_moved g.P.Id.PartialEq.eq g.P.Id.Ord.cmp (g.P.Plan.meaning c.self.inside.plan)
      c.self.inside.jobs.items c.make_room.new.jobs.items
      c.self.inside.values c.self.inside.values c.self.inside.outs.items c.self.inside.outs.items
      (sym c.make_room.ensures.jobs) refl refl c.self.inside.agenda (c.self.invariant.tasks e);
  strata = passed_moved g.P.Id.PartialEq.eq g.P.Id.Ord.cmp (g.P.Plan.meaning c.self.inside.plan)
      c.self.inside.jobs.items c.make_room.new.jobs.items
      c.self.inside.values c.self.inside.values c.self.inside.outs.items c.self.inside.outs.items
      (sym c.make_room.ensures.jobs) refl refl c.self.inside.passed.items c.self.invariant.strata;
  count = c.self.invariant.count;
}

pub push-requires : goal.push-requires
push-requires g c = out_unsettled _ _ _ (g.met.P.Plan.lawful c.self.inside.plan) _ _ _ _ _ _
    c.self.invariant.board c.args.worker c.args.ticket (rw (← c.self.view_is) at c.requires.out)
    c.id-id.result.now c.id-id.ensures

pub invariant_of-self-in-Err : goal.invariant_of-self-in-Err
invariant_of-self-in-Err g c = record {
  board = board_kept _ _ _ _ _ _ _ _ _ c.self.invariant.board c.make_room.new.events
      c.make_room.ensures.events (rw c.as_slice-halted.ensures.value at c.make_room.ensures.room)
      c.make_room.new.jobs.items c.push.new.self c.make_room.ensures.jobs c.in-Err.ensures.err;
  rows = ranges_same _ _ _ _ _ c.self.invariant.rows c.make_room.new.jobs.items c.push.new.self
      c.make_room.new.ranges.items c.make_room.ensures.jobs c.in-Err.ensures.err
      c.make_room.ensures.ranges;
  numbered = rw c.make_room.ensures.jobs c.self.invariant.numbered;
  tasks = λ e. agenda_moved g.P.Id.PartialEq.eq g.P.Id.Ord.cmp (g.P.Plan.meaning c.self.inside.plan)
      c.self.inside.jobs.items c.make_room.new.jobs.items
      c.self.inside.values c.push.new.self c.self.inside.outs.items c.self.inside.outs.items
      (sym c.make_room.ensures.jobs) (sym c.in-Err.ensures.err) refl c.self.inside.agenda
      (c.self.invariant.tasks e);
  strata = passed_moved g.P.Id.PartialEq.eq g.P.Id.Ord.cmp (g.P.Plan.meaning c.self.inside.plan)
      c.self.inside.jobs.items c.make_room.new.jobs.items
      c.self.inside.values c.push.new.self c.self.inside.outs.items c.self.inside.outs.items
      (sym c.make_room.ensures.jobs) (sym c.in-Err.ensures.err) refl c.self.inside.passed.items
      c.self.invariant.strata;
  count = c.self.invariant.count;
}

pub invariant_of-self-in-Ok : goal.invariant_of-self-in-Ok
invariant_of-self-in-Ok g c = record {
  board = board_finish_lists _ _ _ (g.met.P.Plan.lawful c.self.inside.plan) _ _ _ _ _ _
      c.self.invariant.board c.args.worker c.args.ticket (rw (← c.self.view_is) at c.requires.out)
      (plain c.args.outcome.value) c.args.outcome.added
      (rw (← c.self.view_is) at c.requires.outcome) c.id-id.result.now c.id-id.ensures
      c.push_reserved.new.self (c.push_reserved.ensures.items
      ∙ ap (λ es. es ++ event.Finish c.args.worker c.id-id.result.now ∷ [])
      c.make_room.ensures.events) (let room
      = rw c.as_slice-halted.ensures.value at
      (c.make_room.ensures.event_room c.if-not-make_room.false)
      in omega (arith, room, c.push_reserved.ensures.len, c.push_reserved.ensures.capacity))
      c.add_all.new.items.items c.push.new.self
      (c.add_all.ensures ∙ (ap (λ xs. xs ++ c.into_vec.result.items) c.make_room.ensures.jobs
      ∙ ap (λ ys. c.self.inside.jobs.items ++ ys) c.into_vec.ensures)) c.in-Ok.ensures.ok;
  rows = ranges_after _ _ _ _ _ c.self.invariant.rows c.args.ticket (plain c.args.outcome.value)
      c.args.outcome.added (rw (← c.self.view_is) at c.requires.outcome) c.id-id.result.now
      c.id-id.ensures c.len-from.result c.len-to.result c.add_all.new.items.items c.push.new.self
      c.push_reserved-in-Ok.new.self.items (let n = ap length c.make_room.ensures.jobs
      in omega (arith, c.len-from.ensures, c.make_room.new.jobs.ok.0, n))
      (omega (arith, c.len-to.ensures, c.add_all.new.items.ok.0))
      (c.add_all.ensures ∙ (ap (λ xs. xs ++ c.into_vec.result.items) c.make_room.ensures.jobs
      ∙ ap (λ ys. c.self.inside.jobs.items ++ ys) c.into_vec.ensures)) c.in-Ok.ensures.ok
      (c.push_reserved-in-Ok.ensures.items ∙
      ap (λ rs. rs ++ (c.len-from.result, c.len-to.result) ∷ [])
      c.make_room.ensures.ranges);
  numbered = numbered_more g.P.Id.PartialEq.eq g.P.Id.Ord.cmp c.self.inside.jobs.items
      c.self.inside.numbers c.self.invariant.numbered c.args.outcome.added c.add_all.new.items.items
      (c.add_all.ensures ∙ (ap (λ xs. xs ++ c.into_vec.result.items) c.make_room.ensures.jobs
      ∙ ap (λ ys. c.self.inside.jobs.items ++ ys) c.into_vec.ensures));
  tasks = λ e. agenda_grown g.P.Id.PartialEq.eq g.P.Id.Ord.cmp
      (state_from c.self.inside.jobs.items c.self.inside.values) c.self.inside.outs.items
      (slice_set c.self.inside.outs.items c.args.worker None) c.args.outcome.added
      ((c.id-id.result.now, plain c.args.outcome.value) ∷ []) c.self.inside.agenda
      (c.self.invariant.tasks e) (state_from c.add_all.new.items.items c.push.new.self)
      (c.add_all.ensures ∙ (ap (λ xs. xs ++ c.into_vec.result.items) c.make_room.ensures.jobs
      ∙ ap (λ ys. c.self.inside.jobs.items ++ ys) c.into_vec.ensures))
      c.in-Ok.ensures.ok
      (finish_up g.P.Id.PartialEq.eq (state_from c.self.inside.jobs.items c.self.inside.values)
      (state_from c.add_all.new.items.items c.push.new.self) c.self.inside.outs.items c.args.worker
      c.args.ticket c.id-id.result.now (plain c.args.outcome.value)
      (rw c.self.invariant.board.outs_are (rw (← c.self.view_is) at c.requires.out))
      c.id-id.ensures c.in-Ok.ensures.ok)
      (finish_down g.P.Id.PartialEq.eq (state_from c.self.inside.jobs.items c.self.inside.values)
      (state_from c.add_all.new.items.items c.push.new.self) c.self.inside.outs.items c.args.worker
      c.args.ticket c.id-id.result.now (plain c.args.outcome.value)
      (rw c.self.invariant.board.outs_are (rw (← c.self.view_is) at c.requires.out))
      c.id-id.ensures c.in-Ok.ensures.ok);
  strata = passed_grown g.P.Id.PartialEq.eq (g.P.Plan.meaning c.self.inside.plan)
      (state_from c.self.inside.jobs.items c.self.inside.values)
      (state_from c.add_all.new.items.items c.push.new.self) c.args.outcome.added
      ((c.id-id.result.now, plain c.args.outcome.value) ∷ [])
      (c.add_all.ensures ∙ (ap (λ xs. xs ++ c.into_vec.result.items) c.make_room.ensures.jobs
      ∙ ap (λ ys. c.self.inside.jobs.items ++ ys) c.into_vec.ensures))
      c.in-Ok.ensures.ok c.self.inside.passed.items c.self.invariant.strata;
  count = c.self.invariant.count;
}

pub returns-then-not-make_room-clause-history : goal.returns-then-not-make_room-clause-history
returns-then-not-make_room-clause-history g c
    = rw c.make_room.ensures.events (history_of _ _ _ (g.met.P.Plan.lawful c.self.inside.plan) _
    c.self.invariant.board.legal)

pub returns-in-Err-clause-history : goal.returns-in-Err-clause-history
returns-in-Err-clause-history g c = rw c.make_room.ensures.events
    (history_of _ _ _ (g.met.P.Plan.lawful c.self.inside.plan) _ c.self.invariant.board.legal)

pub index_mut-requires : goal.index_mut-requires
index_mut-requires g c = omega (
  arith,
  c.self.inside.outs.ok.0,
  out_within _ _ _
      (g.met.P.Plan.lawful c.self.inside.plan) _ _ _ _ _ c.self.invariant.board c.args.worker _
      (rw (← c.self.view_is) at c.requires.out),
)

pub returns-in-Ok-clause-history : goal.returns-in-Ok-clause-history
returns-in-Ok-clause-history g c =
    board_history _ _ _ (g.met.P.Plan.lawful c.self.inside.plan) _ _ _ _ _
    (board_finish_lists _ _ _ (g.met.P.Plan.lawful c.self.inside.plan) _ _ _ _ _ _
    c.self.invariant.board c.args.worker c.args.ticket (rw (← c.self.view_is) at c.requires.out)
    (plain c.args.outcome.value) c.args.outcome.added
    (rw (← c.self.view_is) at c.requires.outcome) c.id-id.result.now c.id-id.ensures
    c.push_reserved.new.self (c.push_reserved.ensures.items
    ∙ ap (λ es. es ++ event.Finish c.args.worker c.id-id.result.now ∷ [])
    c.make_room.ensures.events) (let room
    = rw c.as_slice-halted.ensures.value at
    (c.make_room.ensures.event_room c.if-not-make_room.false)
    in omega (arith, room, c.push_reserved.ensures.len, c.push_reserved.ensures.capacity))
    c.add_all.new.items.items c.push.new.self
    (c.add_all.ensures ∙ (ap (λ xs. xs ++ c.into_vec.result.items) c.make_room.ensures.jobs
    ∙ ap (λ ys. c.self.inside.jobs.items ++ ys) c.into_vec.ensures)) c.in-Ok.ensures.ok)

pub returns-in-Ok-clause-free : goal.returns-in-Ok-clause-free
returns-in-Ok-clause-free g c =
    now_has _ _ (event.Finish c.args.worker c.args.ticket) c.args.worker None
    (view_push _ _ (event.Finish c.args.worker c.args.ticket) _ c.self.view_is
    ((c.push_reserved.ensures.items ∙ ap (λ es. es
    ++ event.Finish c.args.worker c.id-id.result.now ∷ []) c.make_room.ensures.events)
    ∙ ap (λ k. c.self.inside.events.items ++ event.Finish c.args.worker k ∷ [])
    c.id-id.ensures))
    (λ outs. refl) (Some c.args.ticket) c.requires.out
