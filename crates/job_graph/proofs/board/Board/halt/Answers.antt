use Rattle.std.proofs.Common.{◌≡◌, ◌<◌, None, true, false, refl, sym, ap, ◌∙◌, arith}
use Rattle.std.specs.List.{list_any}
use Rattle.job_graph.specs.declared.event.Event.TheVariants as event
use Rattle.job_graph.specs.Histories.{is_halt_of}
use Rattle.std.proofs.lemmas.Bool.{false≢true}
use Rattle.job_graph.proofs.Boards.{flag_index, out_index, flag_says, halted_before, room_for_halt}
use Rattle.job_graph.proofs.Boards.{board_halt, board_history, same_workers, same_events, view_push}
use Rattle.job_graph.proofs.Boards.{chosen_first, chosen_second}
use Rattle.job_graph.proofs.Halts.{some_out, now_has, still_has, out_halted}
use Rattle.job_graph.proofs.board.Board.halt.Goals as goal

pub index-requires : goal.index-requires
index-requires g c =
    let lt : c.args.worker < c.self.inside.workers
    = (let e = same_workers _ _ c.self.view_is in omega (arith, c.requires)) in
    omega (
      arith,
      c.self.inside.halted.ok.0,
      flag_index _ _ _
          (g.met.P.Plan.lawful c.self.inside.plan) _ _ _ _ _ c.self.invariant.board
          c.args.worker lt,
    )

pub index_mut-requires : goal.index_mut-requires
index_mut-requires g c =
    let lt : c.args.worker < c.self.inside.workers
    = (let e = same_workers _ _ c.self.view_is in omega (arith, c.requires)) in
    omega (
      arith,
      c.self.inside.halted.ok.0,
      flag_index _ _ _
          (g.met.P.Plan.lawful c.self.inside.plan) _ _ _ _ _ c.self.invariant.board
          c.args.worker lt,
    )

pub push_reserved-requires : goal.push_reserved-requires
push_reserved-requires g c =
    let lt : c.args.worker < c.self.inside.workers
    = (let e = same_workers _ _ c.self.view_is in omega (arith, c.requires)) in
    room_for_halt _ _ _ (g.met.P.Plan.lawful c.self.inside.plan) _ _ _ _ _ c.self.invariant.board
    c.args.worker (flag_says _ _ _ (g.met.P.Plan.lawful c.self.inside.plan) _ _ _ _ _
    c.self.invariant.board c.args.worker lt c.index.result.now false c.index.ensures
    c.if-not-index.true)

pub index_mut-requires-then-not-index : goal.index_mut-requires-then-not-index
index_mut-requires-then-not-index g c =
    let lt : c.args.worker < c.self.inside.workers
    = (let e = same_workers _ _ c.self.view_is in omega (arith, c.requires)) in
    omega (
      arith,
      c.self.inside.outs.ok.0,
      out_index _ _ _ (g.met.P.Plan.lawful c.self.inside.plan)
          _ _ _ _ _ c.self.invariant.board c.args.worker lt,
    )

pub invariant_of-self : goal.invariant_of-self
invariant_of-self g c =
    let lt : c.args.worker < c.self.inside.workers
    = (let e = same_workers _ _ c.self.view_is in omega (arith, c.requires)) in
    record {
      board = board_halt _ _ _ (g.met.P.Plan.lawful c.self.inside.plan) _ _ _ _ _
          c.self.invariant.board c.args.worker lt
          (flag_says _ _ _ (g.met.P.Plan.lawful c.self.inside.plan) _ _ _ _ _ c.self.invariant.board
          c.args.worker lt c.index.result.now false c.index.ensures c.if-not-index.true)
          c.push_reserved.new.self c.push_reserved.ensures.items c.push_reserved.ensures.len
          c.push_reserved.ensures.capacity;
      rows = c.self.invariant.rows;
      numbered = c.self.invariant.numbered;
      tasks = λ e. absurd (false≢true (sym e));
      strata = c.self.invariant.strata;
      count = c.self.invariant.count;
    }

pub returns-then-not-index-clause-halts : goal.returns-then-not-index-clause-halts
returns-then-not-index-clause-halts g c =
    let lt : c.args.worker < c.self.inside.workers
    = (let e = same_workers _ _ c.self.view_is in omega (arith, c.requires)) in
    let before : list_any (is_halt_of c.args.worker) c.args.self.now.events
    ≡ false = ap (list_any (is_halt_of c.args.worker)) (sym (same_events _ _ c.self.view_is))
    ∙ halted_before _ _ _ (g.met.P.Plan.lawful c.self.inside.plan) _ _ _ _ _
    c.self.invariant.board c.args.worker lt c.index.result.now false c.index.ensures
    c.if-not-index.true in
    chosen_second _ _ _ _ before (view_push _ _ (event.Halt c.args.worker) _ c.self.view_is
    c.push_reserved.ensures.items)

pub returns-then-not-index-clause-history : goal.returns-then-not-index-clause-history
returns-then-not-index-clause-history g c =
    let lt : c.args.worker < c.self.inside.workers
    = (let e = same_workers _ _ c.self.view_is in omega (arith, c.requires)) in
    board_history _ _ _ (g.met.P.Plan.lawful c.self.inside.plan) _ _ _ _ _
    (board_halt _ _ _ (g.met.P.Plan.lawful c.self.inside.plan) _ _ _ _ _ c.self.invariant.board
    c.args.worker lt (flag_says _ _ _ (g.met.P.Plan.lawful c.self.inside.plan) _ _ _ _ _
    c.self.invariant.board c.args.worker lt c.index.result.now false c.index.ensures
    c.if-not-index.true) c.push_reserved.new.self c.push_reserved.ensures.items
    c.push_reserved.ensures.len c.push_reserved.ensures.capacity)

pub returns-else-not-index-clause-halts : goal.returns-else-not-index-clause-halts
returns-else-not-index-clause-halts g c =
    let lt : c.args.worker < c.self.inside.workers
    = (let e = same_workers _ _ c.self.view_is in omega (arith, c.requires)) in
    let before : list_any (is_halt_of c.args.worker) c.args.self.now.events
    ≡ true = ap (list_any (is_halt_of c.args.worker)) (sym (same_events _ _ c.self.view_is))
    ∙ halted_before _ _ _ (g.met.P.Plan.lawful c.self.inside.plan) _ _ _ _ _
    c.self.invariant.board c.args.worker lt c.index.result.now true c.index.ensures
    c.if-not-index.false in
    chosen_first _ _ _ _ before refl

pub returns-else-not-index-clause-history : goal.returns-else-not-index-clause-history
returns-else-not-index-clause-history g c
    = rw (← c.self.view_is) (board_history _ _ _ (g.met.P.Plan.lawful c.self.inside.plan) _ _ _ _ _
    c.self.invariant.board)

pub returns-then-not-index-clause-gives_up : goal.returns-then-not-index-clause-gives_up
returns-then-not-index-clause-gives_up g c =
    let had = some_out c.args.self.now.workers c.args.worker c.requires c.args.self.now.events in
    now_has _ _ (event.Halt c.args.worker) c.args.worker None
    (view_push _ _ (event.Halt c.args.worker) _ c.self.view_is c.push_reserved.ensures.items)
    (λ outs. refl) had.0 had.1

pub returns-else-not-index-clause-gives_up : goal.returns-else-not-index-clause-gives_up
returns-else-not-index-clause-gives_up g c =
    let lt : c.args.worker < c.self.inside.workers
    = (let e = same_workers _ _ c.self.view_is in omega (arith, c.requires)) in
    let before : list_any (is_halt_of c.args.worker) c.self.inside.events.items
    ≡ true = halted_before _ _ _ (g.met.P.Plan.lawful c.self.inside.plan) _ _ _ _ _
    c.self.invariant.board c.args.worker lt c.index.result.now true c.index.ensures
    c.if-not-index.false in
    rw (← c.self.view_is) (still_has _ c.args.worker None
    (out_halted g.P.Id.PartialEq.eq (g.P.Plan.meaning c.self.inside.plan) c.self.inside.workers
    c.args.worker lt c.self.inside.events.items c.self.invariant.board.legal before))
