use Rattle.std.proofs.Common.{◌≡◌, ◌-◌, ◌≤◌, ◌++◌, [], vec_len, vec_capacity}
use Rattle.turnstile.specs.declared.knowledge.Stage.TheVariants.{Away}
use Rattle.turnstile.specs.Members.{newcomers}
use Rattle.turnstile.specs.Passes.{new_passes}
use Rattle.turnstile.proofs.seats.deal.Given as goal

abbrev pub invariant-loop-worker : goal.invariant-loop-worker
invariant-loop-worker g l =
    let root = g.B.Counted.root l.about.value.value in
    record {
      table : l.seat.table_id ≡ l.common.table_id;
      seat : l.seat.me ≡ (
        record {
          stage = Away;
          members
              = newcomers root l.worker (l.about.passes - l.worker);
        },
        [],
      );
      len : vec_len l.all ≡ l.worker;
      room : l.about.passes ≤ vec_capacity l.all;
      all : l.all.items ++ new_passes l.common.table_id root l.worker (l.about.passes - l.worker)
          ≡ new_passes l.common.table_id root 0 l.about.passes;
    }
