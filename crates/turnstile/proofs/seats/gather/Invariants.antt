use Rattle.std.proofs.Common.{◌≡◌, ◌++◌, [], false, All, map, vec_len}
use Rattle.turnstile.specs.declared.knowledge.Stage.TheVariants.{Away}
use Rattle.turnstile.specs.Passes.{member_of}
use Rattle.turnstile.proofs.seats.gather.Given as goal

abbrev pub invariant-loop-pass : goal.invariant-loop-pass
invariant-loop-pass g l = record {
  table : l.seat.table_id ≡ l.common.table_id;
  seat : l.seat.me ≡ (record { stage = Away; members = l.seat.me.0.members }, []);
  each : All (λ p. (p.table ≡ l.common.table_id) × (p.is_out ≡ false)) l.passes.items;
  all : map member_of l.passes.items ++ l.seat.me.0.members ≡ map member_of l.fn.passes.items;
}

abbrev pub decreases-loop-pass : goal.decreases-loop-pass
decreases-loop-pass g l = vec_len l.passes
