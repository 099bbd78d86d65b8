use Rattle.std.proofs.Common.{◌+◌, ◌-◌, ◌++◌, ◌∷◌, [], ap, ◌∙◌, arith}
use Rattle.turnstile.specs.Members.{first_of, others_of}
use Rattle.turnstile.specs.Passes.{new_pass, new_passes}
use Rattle.turnstile.proofs.Allowed.{split_allowed}
use Rattle.turnstile.proofs.Dealt.{first_newcomer, later_newcomers, pass_made, rests_with}
use Rattle.turnstile.proofs.seats.deal.Goals as goal

pub split_seat-one-requires : goal.split_seat-one-requires
split_seat-one-requires g c =
    let words = c.requires.table.1 in
    let inv = c.loop-worker.invariant in (
      inv.table,
      omega arith,
      split_allowed g.B.Counted.entries g.B.Counted.root _ _ _ _
          (ap (λ me. me.0.stage) inv.seat),
    )

pub of-requires : goal.of-requires
of-requires g c =
    let root = g.B.Counted.root c.args.about.now.value.value in
    let cut = c.split_seat-one.ensures.4 in
    let first = ap (λ me. first_of me.0.members) c.loop-worker.invariant.seat
    ∙ first_newcomer g.row.B-Entry.Denot root c.loop-worker.worker c.args.about.now.passes
    c.loop-worker-test.true in
    rests_with c.split_seat-one.result.me _ (ap (λ me. me.0.stage) cut)
    (ap (λ me. me.0.members) cut ∙ first) (ap (λ me. me.1) cut)

pub loop-worker-preserved : goal.loop-worker-preserved
loop-worker-preserved g c =
    let root = g.B.Counted.root c.args.about.now.value.value in
    let table = c.args.common.now.table_id in
    let inv = c.loop-worker.invariant in
    let left = c.split_seat-one.ensures.2 in
    let worker = c.loop-worker.worker in
    let passes = c.args.about.now.passes in
    let later = ap (λ me. others_of me.0.members) inv.seat
    ∙ later_newcomers g.row.B-Entry.Denot root worker passes c.loop-worker-test.true in
    let made = c.loop-worker.all.items in
    let rest = new_passes {E = g.row.B-Entry.Denot} table root (worker + 1) (passes - (worker + 1))
    in
    let is = c.of.ensures ∙ ap (λ t. new_pass {E = g.row.B-Entry.Denot} t root worker)
    (c.split_seat-one.ensures.3 ∙ inv.table) in
    let len = c.push_reserved.ensures.len in
    let before = inv.len in
    let capacity = c.push_reserved.ensures.capacity in
    let room = inv.room in record {
      table = c.split_seat-one.ensures.0 ∙ inv.table;
      seat = rests_with c.split_seat-one.new.seat.me _ (ap (λ me. me.0.stage) left)
          (ap (λ me. me.0.members) left ∙ later) (ap (λ me. me.1) left ∙ ap (λ me. me.1) inv.seat);
      len = omega arith;
      room = omega arith;
      all = ap (λ xs. xs ++ rest) c.push_reserved.ensures.items
          ∙ (ap (λ p. (made ++ p ∷ []) ++ rest) is
          ∙ pass_made g.row.B-Entry.Denot root worker passes c.loop-worker-test.true table made
          _ inv.all);
    }
