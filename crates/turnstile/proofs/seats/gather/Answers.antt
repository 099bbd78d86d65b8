use Rattle.std.proofs.Common.{◌≡◌, ◌++◌, false, Some, map, refl, ap, ◌∙◌, arith}
use Rattle.std.proofs.lemmas.List.Elements.{All-pop}
use Rattle.turnstile.specs.Passes.{PassView, member_of}
use Rattle.turnstile.proofs.Allowed.{join_allowed}
use Rattle.turnstile.proofs.Dealt.{rests_with, gathered_last, gathered}
use Rattle.turnstile.proofs.seats.gather.Goals as goal

pub loop-pass-init : goal.loop-pass-init
loop-pass-init g c =
    let table = c.args.common.now.table_id in
    let last = c.in-Some.last in
    let rest = c.pop.new.self.items in
    let popped = All-pop (λ (p : PassView g.row.B-Entry.Denot g.row.B-Root.Denot). (p.table ≡ table)
    × (p.is_out ≡ false)) c.args.passes.items rest (Some last) c.in-Some.ensures.items
    c.requires.each in
    let seat = c.into_seat-seat.ensures.1 in record {
      table = c.into_seat-seat.ensures.0 ∙ popped.1.0;
      seat = rests_with c.into_seat-seat.result.me _ (ap (λ me. me.0.stage) seat) refl
          (ap (λ me. me.1) seat);
      each = popped.0;
      all = gathered_last rest last c.args.passes.items c.in-Some.ensures.items _
          (ap (λ me. me.0.members) seat);
    }

pub into_seat-requires : goal.into_seat-requires
into_seat-requires g c =
    let table = c.args.common.now.table_id in
    let popped = All-pop (λ (p : PassView g.row.B-Entry.Denot g.row.B-Root.Denot). (p.table ≡ table)
    × (p.is_out ≡ false)) c.loop-pass.passes.items c.pop-in-loop-pass.new.self.items
    (Some c.in-Some-pop.pass) c.in-Some-pop.ensures.items c.loop-pass.invariant.each in
    popped.1.1

pub join_seat-requires : goal.join_seat-requires
join_seat-requires g c =
    let table = c.args.common.now.table_id in
    let words = c.requires.table in
    let inv = c.loop-pass.invariant in
    let popped = All-pop (λ (p : PassView g.row.B-Entry.Denot g.row.B-Root.Denot). (p.table ≡ table)
    × (p.is_out ≡ false)) c.loop-pass.passes.items c.pop-in-loop-pass.new.self.items
    (Some c.in-Some-pop.pass) c.in-Some-pop.ensures.items inv.each in
    let seat = c.into_seat.ensures.1 in (
      inv.table,
      c.into_seat.ensures.0 ∙ popped.1.0,
      ap (λ me. me.1) seat,
      omega arith,
      join_allowed g.B.Counted.entries g.B.Counted.root _ _ _ _ _ _ (ap (λ me. me.0.stage) inv.seat)
          (ap (λ me. me.0.stage) seat),
    )

pub loop-pass-preserved : goal.loop-pass-preserved
loop-pass-preserved g c =
    let table = c.args.common.now.table_id in
    let inv = c.loop-pass.invariant in
    let rest = c.pop-in-loop-pass.new.self.items in
    let pass = c.in-Some-pop.pass in
    let items = c.in-Some-pop.ensures.items in
    let popped = All-pop (λ (p : PassView g.row.B-Entry.Denot g.row.B-Root.Denot). (p.table ≡ table)
    × (p.is_out ≡ false)) c.loop-pass.passes.items rest (Some pass) items inv.each in
    let seat = c.into_seat.ensures.1 in
    let both = c.join_seat.ensures.2 in record {
      table = c.join_seat.ensures.0 ∙ inv.table;
      seat = rests_with c.join_seat.new.seat.me _ (ap (λ me. me.0.stage) both) refl
          (ap (λ me. me.1) both ∙ ap (λ me. me.1) inv.seat);
      each = popped.0;
      all = ap (λ me. map member_of rest ++ me.0.members) both
          ∙ (gathered rest pass c.loop-pass.passes.items items _ (ap (λ me. me.0.members) seat)
          c.loop-pass.seat.me.0.members ∙ inv.all);
    }
