-- a worker keeps nothing out that it wasn't given, and a halt leaves the workers
use Rattle.std.proofs.Common.{◌≡◌, ◌≢◌, ℕ, ◌<◌, Bool, true, false, cond, List, sym, ap, ◌∙◌, subst, arith}
use Rattle.job_graph.specs.declared.event.Event.{Event}
use Rattle.job_graph.specs.BoardView.{BoardView}
use Rattle.job_graph.specs.Histories.{out_at}
use Rattle.compiler_tests.proofs.board.first_answers.Goals as goal

out_same : {P Id : Type 0} (old new : BoardView P Id) (worker : ℕ) → new ≡ old
    → out_at new.workers new.events worker ≡ out_at old.workers old.events worker
out_same {P} {Id} old new worker e =
    ap (λ (board : BoardView P Id). out_at board.workers board.events worker) e

workers_of_made : {P Id : Type 0} (board : BoardView P Id) (plan : P) (workers : ℕ)
    (events : List (Event Id))
    → board ≡ record { plan = plan; workers = workers; events = events }
    → board.workers ≡ workers
workers_of_made {P} {Id} board plan workers events e =
    ap (λ (b : BoardView P Id). b.workers) e

workers_kept : {P Id : Type 0} (old new : BoardView P Id) (again : Bool)
    (events : List (Event Id)) → new ≡ cond again old (record old { events = events })
    → new.workers ≡ old.workers
workers_kept {P} {Id} old new true events e = ap (λ (b : BoardView P Id). b.workers) e
workers_kept {P} {Id} old new false events e = ap (λ (b : BoardView P Id). b.workers) e

workers_same : {P Id : Type 0} (old new : BoardView P Id) → new ≡ old → new.workers ≡ old.workers
workers_same {P} {Id} old new e = ap (λ (b : BoardView P Id). b.workers) e

workers_stay : {P Id : Type 0} (old new : BoardView P Id) (events : List (Event Id))
    → new ≡ record old { events = events } → new.workers ≡ old.workers
workers_stay {P} {Id} old new events e = ap (λ (b : BoardView P Id). b.workers) e

one_is_not_zero : ◌≢◌ {A = ℕ} 1 0
one_is_not_zero e = absurd (omega (arith, e))

pub claim-requires-3-clause-free : goal.claim-requires-3-clause-free
claim-requires-3-clause-free g c =
    c.in_ok-finish.ensures.free.others 1 one_is_not_zero
    ∙ out_same _ _ 1 c.in-Idle.ensures.answer.4
    ∙ c.in-Run.ensures.answer.3.others 1 one_is_not_zero
    ∙ c.in_ok-board.ensures.free 1 (subst (λ n. 1 < n)
    (sym (workers_of_made _ _ _ _ c.in_ok-board.ensures.made)) (omega arith))

pub claim-requires-4-clause-known : goal.claim-requires-4-clause-known
claim-requires-4-clause-known g c =
    let two : c.claim-3.new.self.workers ≡ 2
    = workers_stay c.finish.new.board c.claim-3.new.self _ c.in-Run-claim.ensures.answer.2
    ∙ c.in_ok-finish.ensures.workers ∙ workers_same c.claim.new.self c.claim-2.new.self
    c.in-Idle.ensures.answer.4
    ∙ workers_stay c.in_ok-board.board c.claim.new.self _
    c.in-Run.ensures.answer.2
    ∙ workers_of_made c.in_ok-board.board _ 2 _
    c.in_ok-board.ensures.made in
    let same : c.halt.new.self.workers ≡ c.claim-3.new.self.workers
    = workers_kept c.claim-3.new.self c.halt.new.self _ _ c.halt.ensures.halts in
    subst (λ n. 0 < n) (sym (same ∙ two)) (omega arith)
