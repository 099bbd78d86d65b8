use Rattle.std.proofs.Common.{◌≡◌, [], ◌∷◌, ◌++◌, length, ap, arith}
use Rattle.std.specs.List.{list_any}
use Rattle.job_graph.specs.declared.event.Event.TheVariants as event
use Rattle.job_graph.specs.Histories.{is_halt_of}
use Rattle.graph_tests.proofs.HeldLemmas.{hand_within, held_halt, halt_counts}
use Rattle.graph_tests.proofs.hands.halt.Goals as goal

pub index_mut-requires : goal.index_mut-requires
index_mut-requires g c = omega (
  arith,
  c.args.hands.now.ok.0,
  hand_within _ _ _ _ _ c.requires.held
      c.args.worker c.requires.known,
)

pub returns-then-before-events-clause-held : goal.returns-then-before-events-clause-held
returns-then-before-events-clause-held g c =
    let before : length c.events-before.result.now
    ≡ length c.args.board.now.events = ap length c.events-before.ensures.events in
    let after : length c.events.result.now
    ≡ length c.halt.new.self.events = ap length c.events.ensures.events in
    rw (halt_counts (list_any (is_halt_of c.args.worker) c.args.board.now.events) c.args.board.now
    (record c.args.board.now {
      events = c.args.board.now.events ++ event.Halt c.args.worker
          ∷ [];
    }) c.halt.new.self c.halt.ensures.halts
    (omega (arith, before, after, c.if-before-events.true)))
    (held_halt _ _ _ _ _ c.requires.held c.args.worker)
