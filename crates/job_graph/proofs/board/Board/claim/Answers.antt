use Rattle.std.proofs.Common.{◌≡◌, ◌<◌, [], ◌∷◌, ◌++◌, length, is_some, count_by, Some, None, false}
use Rattle.std.proofs.Common.{refl, sym, ap, ◌∙◌, arith, subst}
use Rattle.job_graph.specs.declared.event.Event.TheVariants as event
use Rattle.job_graph.specs.Rounds.{state_from}
use Rattle.job_graph.specs.Members.{slice_get-In}
use Rattle.job_graph.specs.Agenda.{is_taken, IsLeastLeft}
use Rattle.job_graph.proofs.Boards.{length_outs, out_within, board_claim, board_same, board_history}
use Rattle.job_graph.proofs.Boards.{hands_out, none_claimable, left_none, claimable, one_job}
use Rattle.job_graph.proofs.Boards.{has_ended, same_workers, view_push, view_same}
use Rattle.job_graph.proofs.Boards.{least_claimable}
use Rattle.job_graph.proofs.Agendas.{agenda_moved, passed_moved, run_moved, agenda_handed}
use Rattle.job_graph.proofs.Halts.{now_has}
use Rattle.job_graph.proofs.board.Board.claim.Goals as goal

pub returns-then-self-clause-answer : goal.returns-then-self-clause-answer
returns-then-self-clause-answer g c = (
  rw (← c.self.view_is)
      (sym c.self.invariant.board.any_is ∙ c.if-self.true),
  refl,
)

pub returns-then-self-clause-history : goal.returns-then-self-clause-history
returns-then-self-clause-history g c = rw (← c.self.view_is)
    (board_history _ _ _ (g.met.P.Plan.lawful c.self.inside.plan) _ _ _ _ _ c.self.invariant.board)

pub next_run-next-requires : goal.next_run-next-requires
next_run-next-requires g c = record {
  agenda = rw (c.as_slice.ensures.value, c.as_slice-2.ensures.value)
      (c.self.invariant.tasks c.if-self.false);
  passed = rw c.as_slice.ensures.value c.self.invariant.strata;
  count = c.self.invariant.count;
}

pub invariant_of-self : goal.invariant_of-self
invariant_of-self g c = record {
  board = c.self.invariant.board;
  rows = c.self.invariant.rows;
  numbered = c.self.invariant.numbered;
  tasks = λ e. agenda_moved g.P.Id.PartialEq.eq g.P.Id.Ord.cmp (g.P.Plan.meaning c.self.inside.plan)
      c.as_slice.result.now c.self.inside.jobs.items c.self.inside.values c.self.inside.values
      c.as_slice-2.result.now c.self.inside.outs.items c.as_slice.ensures.value refl
      c.as_slice-2.ensures.value c.next_run-next.new.agenda
      c.in-Err.ensures.agenda;
  strata = passed_moved g.P.Id.PartialEq.eq g.P.Id.Ord.cmp (g.P.Plan.meaning c.self.inside.plan)
      c.as_slice.result.now c.self.inside.jobs.items c.self.inside.values c.self.inside.values
      c.as_slice-2.result.now c.self.inside.outs.items c.as_slice.ensures.value refl
      c.as_slice-2.ensures.value c.next_run-next.new.passed.items
      c.in-Err.ensures.passed;
  count = c.in-Err.ensures.count;
}

pub returns-in-Err-clause-history : goal.returns-in-Err-clause-history
returns-in-Err-clause-history g c = (board_history _ _ _ (g.met.P.Plan.lawful c.self.inside.plan) _
    _ _ _ _ c.self.invariant.board)

pub running-count-requires : goal.running-count-requires
running-count-requires g c = ap length c.as_slice-in-Ok-None.ensures.value
    ∙ length_outs _ _ _ (g.met.P.Plan.lawful c.self.inside.plan) _ _ _ _ _ c.self.invariant.board

pub invariant_of-self-then-count-gt0 : goal.invariant_of-self-then-count-gt0
invariant_of-self-then-count-gt0 g c = record {
  board = c.self.invariant.board;
  rows = c.self.invariant.rows;
  numbered = c.self.invariant.numbered;
  tasks = λ e. agenda_moved g.P.Id.PartialEq.eq g.P.Id.Ord.cmp (g.P.Plan.meaning c.self.inside.plan)
      c.as_slice.result.now c.self.inside.jobs.items c.self.inside.values c.self.inside.values
      c.as_slice-2.result.now c.self.inside.outs.items c.as_slice.ensures.value refl
      c.as_slice-2.ensures.value c.next_run-next.new.agenda
      c.in-Ok-None.ensures.agenda;
  strata = passed_moved g.P.Id.PartialEq.eq g.P.Id.Ord.cmp (g.P.Plan.meaning c.self.inside.plan)
      c.as_slice.result.now c.self.inside.jobs.items c.self.inside.values c.self.inside.values
      c.as_slice-2.result.now c.self.inside.outs.items c.as_slice.ensures.value refl
      c.as_slice-2.ensures.value c.next_run-next.new.passed.items
      c.in-Ok-None.ensures.passed;
  count = c.in-Ok-None.ensures.count;
}

pub invariant_of-self-in-Ok-None : goal.invariant_of-self-in-Ok-None
invariant_of-self-in-Ok-None g c = record {
  board = c.self.invariant.board;
  rows = c.self.invariant.rows;
  numbered = c.self.invariant.numbered;
  tasks = λ e. agenda_moved g.P.Id.PartialEq.eq g.P.Id.Ord.cmp (g.P.Plan.meaning c.self.inside.plan)
      c.as_slice.result.now c.self.inside.jobs.items c.self.inside.values c.self.inside.values
      c.as_slice-2.result.now c.self.inside.outs.items c.as_slice.ensures.value refl
      c.as_slice-2.ensures.value c.next_run-next.new.agenda
      c.in-Ok-None.ensures.agenda;
  strata = passed_moved g.P.Id.PartialEq.eq g.P.Id.Ord.cmp (g.P.Plan.meaning c.self.inside.plan)
      c.as_slice.result.now c.self.inside.jobs.items c.self.inside.values c.self.inside.values
      c.as_slice-2.result.now c.self.inside.outs.items c.as_slice.ensures.value refl
      c.as_slice-2.ensures.value c.next_run-next.new.passed.items
      c.in-Ok-None.ensures.passed;
  count = c.in-Ok-None.ensures.count;
}

pub returns-then-count-gt0-clause-answer : goal.returns-then-count-gt0-clause-answer
returns-then-count-gt0-clause-answer g c = (
  rw (← c.self.view_is) (sym c.self.invariant.board.any_is ∙ c.if-self.false),
  rw (← c.self.view_is) (none_claimable _ _ _ (g.met.P.Plan.lawful c.self.inside.plan) _ _ _ _ _
      c.self.invariant.board
      (left_none _ _ _ (g.met.P.Plan.lawful c.self.inside.plan) _ _ _ _ _ c.self.invariant.board
      (run_moved g.P.Id.PartialEq.eq g.P.Id.Ord.cmp (g.P.Plan.meaning c.self.inside.plan)
      c.as_slice.result.now c.self.inside.jobs.items c.self.inside.values c.self.inside.values
      c.as_slice-2.result.now c.self.inside.outs.items c.as_slice.ensures.value refl
      c.as_slice-2.ensures.value c.next_run-next.new.agenda
      c.in-Ok-None.field-0 None c.in-Ok-None.field-0-is c.in-Ok-None.ensures.next))),
  rw (← c.self.view_is) (sym (ap (count_by is_some) c.self.invariant.board.outs_are)
      ∙ sym (c.running-count.ensures ∙ ap (count_by is_some) c.as_slice-in-Ok-None.ensures.value)),
  c.if-count-gt0.true,
  c.self.view_is,
)

pub returns-then-count-gt0-clause-history : goal.returns-then-count-gt0-clause-history
returns-then-count-gt0-clause-history g c
    = (board_history _ _ _ (g.met.P.Plan.lawful c.self.inside.plan) _ _ _ _ _
    c.self.invariant.board)

pub returns-else-count-gt0-clause-answer : goal.returns-else-count-gt0-clause-answer
returns-else-count-gt0-clause-answer g c =
    let zero_runs : c.running-count.result ≡ 0 = omega (arith, c.if-count-gt0.false) in (
      rw (← c.self.view_is) (has_ended _ _ _ (g.met.P.Plan.lawful c.self.inside.plan) _ _ _ _ _
          c.self.invariant.board c.if-self.false
          (left_none _ _ _ (g.met.P.Plan.lawful c.self.inside.plan) _ _ _ _ _ c.self.invariant.board
          (run_moved g.P.Id.PartialEq.eq g.P.Id.Ord.cmp (g.P.Plan.meaning c.self.inside.plan)
          c.as_slice.result.now c.self.inside.jobs.items c.self.inside.values c.self.inside.values
          c.as_slice-2.result.now c.self.inside.outs.items c.as_slice.ensures.value refl
          c.as_slice-2.ensures.value c.next_run-next.new.agenda
          c.in-Ok-None.field-0 None c.in-Ok-None.field-0-is c.in-Ok-None.ensures.next))
          (sym (c.running-count.ensures ∙ ap (count_by is_some) c.as_slice-in-Ok-None.ensures.value)
          ∙ zero_runs)),
      c.self.view_is,
    )

pub returns-else-count-gt0-clause-history : goal.returns-else-count-gt0-clause-history
returns-else-count-gt0-clause-history g c
    = (board_history _ _ _ (g.met.P.Plan.lawful c.self.inside.plan) _ _ _ _ _
    c.self.invariant.board)

pub note-requires : goal.note-requires
note-requires g c = rw c.as_slice-in-Ok-Some.ensures.value c.self.invariant.board.room

pub hand_out-requires : goal.hand_out-requires
hand_out-requires g c =
    let run = run_moved g.P.Id.PartialEq.eq g.P.Id.Ord.cmp (g.P.Plan.meaning c.self.inside.plan)
    c.as_slice.result.now c.self.inside.jobs.items c.self.inside.values c.self.inside.values
    c.as_slice-2.result.now c.self.inside.outs.items c.as_slice.ensures.value refl
    c.as_slice-2.ensures.value
    c.next_run-next.new.agenda c.in-Ok-Some.field-0
    (Some (c.in-Ok-Some.turn, c.in-Ok-Some.reads)) c.in-Ok-Some.field-0-is
    c.in-Ok-Some.ensures.next in
    let due = run.0.due in
    let here = slice_get-In c.self.inside.jobs.items c.in-Ok-Some.turn.number due.job due.there in
    let ok = claimable _ _ _ (g.met.P.Plan.lawful c.self.inside.plan) _ _ _ _ _
    c.self.invariant.board
    c.if-self.false due.job run.0.ready
    (subst (λ k. is_taken g.P.Id.PartialEq.eq
    (state_from c.self.inside.jobs.items c.self.inside.values) c.self.inside.outs.items k
    ≡ false) (sym due.named) due.free) in
    run.0.within

pub index_mut-requires : goal.index_mut-requires
index_mut-requires g c = omega (
  arith,
  c.self.inside.outs.ok.0,
  out_within _ _ _
      (g.met.P.Plan.lawful c.self.inside.plan) _ _ _ _ _ c.self.invariant.board c.args.worker _
      (rw (← c.self.view_is) at c.requires.free),
)

pub invariant_of-self-then-note : goal.invariant_of-self-then-note
invariant_of-self-then-note g c =
    let lt : c.args.worker < c.self.inside.workers
    = (let e = same_workers _ _ c.self.view_is in omega (arith, c.requires.known)) in
    let run = run_moved g.P.Id.PartialEq.eq g.P.Id.Ord.cmp (g.P.Plan.meaning c.self.inside.plan)
    c.as_slice.result.now c.self.inside.jobs.items c.self.inside.values c.self.inside.values
    c.as_slice-2.result.now c.self.inside.outs.items c.as_slice.ensures.value refl
    c.as_slice-2.ensures.value
    c.next_run-next.new.agenda c.in-Ok-Some.field-0
    (Some (c.in-Ok-Some.turn, c.in-Ok-Some.reads)) c.in-Ok-Some.field-0-is
    c.in-Ok-Some.ensures.next in
    let due = run.0.due in
    let here = slice_get-In c.self.inside.jobs.items c.in-Ok-Some.turn.number due.job due.there in
    let ok = claimable _ _ _ (g.met.P.Plan.lawful c.self.inside.plan) _ _ _ _ _
    c.self.invariant.board
    c.if-self.false due.job run.0.ready
    (subst (λ k. is_taken g.P.Id.PartialEq.eq
    (state_from c.self.inside.jobs.items c.self.inside.values) c.self.inside.outs.items k
    ≡ false) (sym due.named) due.free) in
    record {
      board = board_claim _ _ _ (g.met.P.Plan.lawful c.self.inside.plan) _ _ _ _ _
          c.self.invariant.board c.args.worker c.in-Ok-Some.turn.id lt
          (rw (← c.self.view_is) at c.requires.free) c.if-self.false due.job here ok due.named
          c.note.new.events c.if-note.ensures.items
          (rw c.as_slice-in-Ok-Some.ensures.value at c.note.ensures.room);
      rows = c.self.invariant.rows;
      numbered = c.self.invariant.numbered;
      tasks = λ e. agenda_handed g.P.Id.PartialEq.eq g.P.Id.Ord.cmp
          (state_from c.self.inside.jobs.items c.self.inside.values) c.self.inside.outs.items
          c.next_run-next.new.agenda c.hand_out.new.self
          (agenda_moved g.P.Id.PartialEq.eq g.P.Id.Ord.cmp (g.P.Plan.meaning c.self.inside.plan)
          c.as_slice.result.now c.self.inside.jobs.items c.self.inside.values c.self.inside.values
          c.as_slice-2.result.now c.self.inside.outs.items c.as_slice.ensures.value refl
          c.as_slice-2.ensures.value
          c.next_run-next.new.agenda c.in-Ok-Some.ensures.agenda) c.in-Ok-Some.turn c.args.worker
          (rw c.self.invariant.board.outs_are (rw (← c.self.view_is) at c.requires.free)) due
          (λ x. ((g.met.P.Plan.lawful c.self.inside.plan).identity x x).1 refl)
          (one_job _ _ _ (g.met.P.Plan.lawful c.self.inside.plan) _ _ _ _ _ c.self.invariant.board)
          c.hand_out.ensures.lines
          c.hand_out.ensures.waking c.hand_out.ensures.cursors c.hand_out.ensures.told
          c.hand_out.ensures.queues;
      strata = passed_moved g.P.Id.PartialEq.eq g.P.Id.Ord.cmp (g.P.Plan.meaning c.self.inside.plan)
          c.as_slice.result.now c.self.inside.jobs.items c.self.inside.values c.self.inside.values
          c.as_slice-2.result.now c.self.inside.outs.items c.as_slice.ensures.value refl
          c.as_slice-2.ensures.value c.next_run-next.new.passed.items
          c.in-Ok-Some.ensures.passed;
      count = c.in-Ok-Some.ensures.count;
    }

pub invariant_of-self-else-note : goal.invariant_of-self-else-note
invariant_of-self-else-note g c = record {
  board = board_same _ _ _ _ c.note.new.events _ _ _ _ c.self.invariant.board
      c.if-note.ensures.items (rw c.as_slice-in-Ok-Some.ensures.value at c.note.ensures.room);
  rows = c.self.invariant.rows;
  numbered = c.self.invariant.numbered;
  tasks = λ e. agenda_moved g.P.Id.PartialEq.eq g.P.Id.Ord.cmp (g.P.Plan.meaning c.self.inside.plan)
      c.as_slice.result.now c.self.inside.jobs.items c.self.inside.values c.self.inside.values
      c.as_slice-2.result.now c.self.inside.outs.items c.as_slice.ensures.value refl
      c.as_slice-2.ensures.value c.next_run-next.new.agenda
      c.in-Ok-Some.ensures.agenda;
  strata = passed_moved g.P.Id.PartialEq.eq g.P.Id.Ord.cmp (g.P.Plan.meaning c.self.inside.plan)
      c.as_slice.result.now c.self.inside.jobs.items c.self.inside.values c.self.inside.values
      c.as_slice-2.result.now c.self.inside.outs.items c.as_slice.ensures.value refl
      c.as_slice-2.ensures.value c.next_run-next.new.passed.items
      c.in-Ok-Some.ensures.passed;
  count = c.in-Ok-Some.ensures.count;
}

pub returns-then-note-clause-answer : goal.returns-then-note-clause-answer
returns-then-note-clause-answer g c =
    let run = run_moved g.P.Id.PartialEq.eq g.P.Id.Ord.cmp (g.P.Plan.meaning c.self.inside.plan)
    c.as_slice.result.now c.self.inside.jobs.items c.self.inside.values c.self.inside.values
    c.as_slice-2.result.now c.self.inside.outs.items c.as_slice.ensures.value refl
    c.as_slice-2.ensures.value
    c.next_run-next.new.agenda c.in-Ok-Some.field-0
    (Some (c.in-Ok-Some.turn, c.in-Ok-Some.reads)) c.in-Ok-Some.field-0-is
    c.in-Ok-Some.ensures.next in
    let due = run.0.due in
    let here = slice_get-In c.self.inside.jobs.items c.in-Ok-Some.turn.number due.job due.there in
    let ok = claimable _ _ _ (g.met.P.Plan.lawful c.self.inside.plan) _ _ _ _ _
    c.self.invariant.board
    c.if-self.false due.job run.0.ready
    (subst (λ k. is_taken g.P.Id.PartialEq.eq
    (state_from c.self.inside.jobs.items c.self.inside.values) c.self.inside.outs.items k
    ≡ false) (sym due.named) due.free) in (
      rw (← c.self.view_is) (sym c.self.invariant.board.any_is ∙ c.if-self.false),
      rw (← c.self.view_is) (hands_out _ _ _ (g.met.P.Plan.lawful c.self.inside.plan) _ _ _ _ _
          c.self.invariant.board c.of.result due.job here ok (due.named ∙ sym c.of.ensures)
          c.in-Ok-Some.reads run.1),
      view_push _ _ (event.Claim c.args.worker c.of.result) _ c.self.view_is
          (c.if-note.ensures.items ∙ ap (λ k. c.self.inside.events.items
          ++ event.Claim c.args.worker k ∷ []) (sym c.of.ensures)),
      now_has _ _ (event.Claim c.args.worker c.of.result) c.args.worker (Some c.of.result)
          (view_push _ _ (event.Claim c.args.worker c.of.result) _ c.self.view_is
          (c.if-note.ensures.items ∙ ap (λ k. c.self.inside.events.items
          ++ event.Claim c.args.worker k ∷ []) (sym c.of.ensures))) (λ outs. refl) None
          c.requires.free,
    )

pub returns-then-note-clause-history : goal.returns-then-note-clause-history
returns-then-note-clause-history g c =
    let lt : c.args.worker < c.self.inside.workers
    = (let e = same_workers _ _ c.self.view_is in omega (arith, c.requires.known)) in
    let run = run_moved g.P.Id.PartialEq.eq g.P.Id.Ord.cmp (g.P.Plan.meaning c.self.inside.plan)
    c.as_slice.result.now c.self.inside.jobs.items c.self.inside.values c.self.inside.values
    c.as_slice-2.result.now c.self.inside.outs.items c.as_slice.ensures.value refl
    c.as_slice-2.ensures.value
    c.next_run-next.new.agenda c.in-Ok-Some.field-0
    (Some (c.in-Ok-Some.turn, c.in-Ok-Some.reads)) c.in-Ok-Some.field-0-is
    c.in-Ok-Some.ensures.next in
    let due = run.0.due in
    let here = slice_get-In c.self.inside.jobs.items c.in-Ok-Some.turn.number due.job due.there in
    let ok = claimable _ _ _ (g.met.P.Plan.lawful c.self.inside.plan) _ _ _ _ _
    c.self.invariant.board
    c.if-self.false due.job run.0.ready
    (subst (λ k. is_taken g.P.Id.PartialEq.eq
    (state_from c.self.inside.jobs.items c.self.inside.values) c.self.inside.outs.items k
    ≡ false) (sym due.named) due.free) in
    board_history _ _ _ (g.met.P.Plan.lawful c.self.inside.plan) _ _ _ _ _
    (board_claim _ _ _ (g.met.P.Plan.lawful c.self.inside.plan) _ _ _ _ _ c.self.invariant.board
    c.args.worker c.in-Ok-Some.turn.id lt
    (rw (← c.self.view_is) at c.requires.free) c.if-self.false due.job here ok due.named
    c.note.new.events c.if-note.ensures.items
    (rw c.as_slice-in-Ok-Some.ensures.value at c.note.ensures.room))

pub returns-else-note-clause-answer : goal.returns-else-note-clause-answer
returns-else-note-clause-answer g c = view_same _ _ _ c.self.view_is c.if-note.ensures.items

pub returns-else-note-clause-history : goal.returns-else-note-clause-history
returns-else-note-clause-history g c = board_history _ _ _ (g.met.P.Plan.lawful c.self.inside.plan)
    _ _ _ _ _ (board_same _ _ _ _ c.note.new.events _ _ _ _ c.self.invariant.board
    c.if-note.ensures.items (rw c.as_slice-in-Ok-Some.ensures.value at c.note.ensures.room))

pub returns-then-note-clause-least : goal.returns-then-note-clause-least
returns-then-note-clause-least g c =
    let run = run_moved g.P.Id.PartialEq.eq g.P.Id.Ord.cmp (g.P.Plan.meaning c.self.inside.plan)
    c.as_slice.result.now c.self.inside.jobs.items c.self.inside.values c.self.inside.values
    c.as_slice-2.result.now c.self.inside.outs.items c.as_slice.ensures.value refl
    c.as_slice-2.ensures.value
    c.next_run-next.new.agenda c.in-Ok-Some.field-0
    (Some (c.in-Ok-Some.turn, c.in-Ok-Some.reads)) c.in-Ok-Some.field-0-is
    c.in-Ok-Some.ensures.next in
    rw (← c.self.view_is) (least_claimable _ _ _ (g.met.P.Plan.lawful c.self.inside.plan) _ _ _ _ _
    c.self.invariant.board g.P.Id.Ord.cmp g.met.P.Id.Ord.total c.of.result
    (subst (IsLeastLeft g.P.Id.PartialEq.eq g.P.Id.Ord.cmp (g.P.Plan.meaning c.self.inside.plan)
    (state_from c.self.inside.jobs.items c.self.inside.values) c.self.inside.outs.items)
    (sym c.of.ensures) run.0.least))
