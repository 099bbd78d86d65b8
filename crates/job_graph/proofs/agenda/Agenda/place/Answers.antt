use Rattle.std.proofs.Common.{◌<◌, length, sym, ◌∙◌, arith, is_some, refl}
use Rattle.access_context.specs.Read.{read_of}
use Rattle.job_graph.specs.Rounds.{state_from}
use Rattle.job_graph.specs.Members.{slice_get-In}
use Rattle.job_graph.proofs.Placing.{agenda_queued, agenda_lines, agenda_read, stands_taken}
use Rattle.job_graph.proofs.Placing.{stands_queued, stands_waits, there_is, all_known, on_ok}
use Rattle.job_graph.proofs.agenda.Agenda.place.Goals as goal

pub returns-then-number-len-clause-placed : goal.returns-then-number-len-clause-placed
returns-then-number-len-clause-placed g c = λ job lt at.
    absurd (omega (arith, c.len.ensures, c.args.self.now.cursors.ok.0, lt))

pub offset_bounds-jobs-number : goal.offset_bounds-jobs-number
offset_bounds-jobs-number g c =
    omega (arith, c.len.ensures, c.args.self.now.cursors.ok.0, c.requires.seen)

pub bounds-jobs-number : goal.bounds-jobs-number
bounds-jobs-number g c =
    omega (arith, c.len.ensures, c.args.self.now.cursors.ok.0, c.requires.seen)

pub returns-then-is_taken-clause-placed : goal.returns-then-is_taken-clause-placed
returns-then-is_taken-clause-placed g c = λ job lt at.
    let seen : c.args.number < length c.args.self.now.cursors.items
    = lt in
    let there = there_is c.args.jobs.now c.args.number c.index-jobs-number.result
    (omega (arith, c.requires.seen)) c.index-jobs-number.is in
    stands_taken g.Id.PartialEq.eq g.Id.Ord.cmp
    (state_from c.args.jobs.now c.args.values.now) c.args.outs.now c.args.self.now c.args.number
    c.index-jobs-number.result there (sym c.is_taken.ensures ∙ c.if-is_taken.true) job at

pub first_unsettled-read-requires : goal.first_unsettled-read-requires
first_unsettled-read-requires g c =
    let seen : c.args.number < length c.args.self.now.cursors.items
    = omega (arith, c.len.ensures, c.args.self.now.cursors.ok.0) in
    let there = there_is c.args.jobs.now c.args.number c.index-jobs-number.result
    (omega (arith, c.requires.seen)) c.index-jobs-number.is in
    rw c.as_slice-reads.ensures (c.requires.sound.read c.args.number c.index.result.now
    c.index-jobs-number.result there (there_is c.args.self.now.cursors.items c.args.number
    c.index.result.now seen c.index.ensures))

pub join-requires : goal.join-requires
join-requires g c = omega (arith, c.queue_of-queue.ensures.within, c.requires.queues)

pub returns-then-read-reads-clause-agenda : goal.returns-then-read-reads-clause-agenda
returns-then-read-reads-clause-agenda g c =
    let seen : c.args.number < length c.args.self.now.cursors.items
    = omega (arith, c.len.ensures, c.args.self.now.cursors.ok.0) in
    let there = there_is c.args.jobs.now c.args.number c.index-jobs-number.result
    (omega (arith, c.requires.seen)) c.index-jobs-number.is in
    agenda_queued g.Id.PartialEq.eq g.Id.Ord.cmp
    (state_from c.args.jobs.now c.args.values.now) c.args.outs.now c.args.self.now c.requires
    c.join.new.self
    c.args.number c.index-jobs-number.result there
    (rw c.as_slice-reads.ensures at (all_known
    (λ (id : g.row.Id.Denot). is_some (read_of g.Id.PartialEq.eq c.args.values.now id))
    c.as_slice-reads.result.now c.first_unsettled-read.result c.if-read-reads.true
    c.first_unsettled-read.ensures.settled))
    (sym c.is_taken.ensures ∙ c.if-is_taken.false) c.join.ensures.kept
    (rw c.queue_of-queue.ensures.queue at c.join.ensures.others) c.join.ensures.used.0
    (rw c.queue_of-queue.ensures.queue at c.join.ensures.used.1)
    (let u = c.join.ensures.used.2 (omega (arith, c.requires.queues, c.requires.used)) in
    omega (arith, u, c.requires.queues)) c.join.ensures.count

pub returns-then-read-reads-clause-placed : goal.returns-then-read-reads-clause-placed
returns-then-read-reads-clause-placed g c =
    let seen : c.args.number < length c.args.self.now.cursors.items
    = omega (arith, c.len.ensures, c.args.self.now.cursors.ok.0) in
    let there = there_is c.args.jobs.now c.args.number c.index-jobs-number.result
    (omega (arith, c.requires.seen)) c.index-jobs-number.is in
    on_ok c.join.result _ _ (λ h job lt at. stands_queued g.Id.PartialEq.eq g.Id.Ord.cmp
    (state_from c.args.jobs.now c.args.values.now) c.args.outs.now
    (record c.args.self.now { queues = c.join.new.self }) c.args.number
    c.index-jobs-number.result there (rw c.queue_of-queue.ensures.queue at h) job at)
    c.join.ensures.joined

pub wait-requires : goal.wait-requires
wait-requires g c = c.requires.within

pub returns-in_err-wait-clause-agenda : goal.returns-in_err-wait-clause-agenda
returns-in_err-wait-clause-agenda g c = agenda_lines g.Id.PartialEq.eq g.Id.Ord.cmp
    (state_from c.args.jobs.now c.args.values.now) c.args.outs.now
    c.args.self.now c.requires c.wait.new.self c.in_err-wait.ensures.within
    c.in_err-wait.ensures.kept

pub returns-clause-agenda : goal.returns-clause-agenda
returns-clause-agenda g c =
    let seen : c.args.number < length c.args.self.now.cursors.items
    = omega (arith, c.len.ensures, c.args.self.now.cursors.ok.0) in
    let there = there_is c.args.jobs.now c.args.number c.index-jobs-number.result
    (omega (arith, c.requires.seen)) c.index-jobs-number.is in
    agenda_read g.Id.PartialEq.eq g.Id.Ord.cmp
    (state_from c.args.jobs.now c.args.values.now) c.args.outs.now
    (record c.args.self.now { lines = c.wait.new.self })
    (agenda_lines g.Id.PartialEq.eq g.Id.Ord.cmp
    (state_from c.args.jobs.now c.args.values.now) c.args.outs.now c.args.self.now c.requires
    c.wait.new.self
    c.in_ok-wait.ensures.within c.in_ok-wait.ensures.kept) _ c.args.number
    c.first_unsettled-read.result c.index-jobs-number.result there
    (rw c.as_slice-reads.ensures at c.first_unsettled-read.ensures.settled) refl

pub returns-clause-placed : goal.returns-clause-placed
returns-clause-placed g c = λ job lt at.
    let seen : c.args.number < length c.args.self.now.cursors.items
    = omega (arith, c.len.ensures, c.args.self.now.cursors.ok.0) in
    let there = there_is c.args.jobs.now c.args.number c.index-jobs-number.result
    (omega (arith, c.requires.seen)) c.index-jobs-number.is in
    let here = there_is c.as_slice-reads.result.now c.first_unsettled-read.result
    c.index-reads-read.result c.if-read-reads.false c.index-reads-read.is in
    stands_waits g.Id.PartialEq.eq g.Id.Ord.cmp
    (state_from c.args.jobs.now c.args.values.now) c.args.outs.now
    (record c.args.self.now { lines = c.wait.new.self }) c.args.number
    c.index-jobs-number.result there c.index-reads-read.result
    (slice_get-In _ c.first_unsettled-read.result _ (rw c.as_slice-reads.ensures at here))
    c.in_ok-wait.ensures.waits
    (c.first_unsettled-read.ensures.stops c.index-reads-read.result here) job at
