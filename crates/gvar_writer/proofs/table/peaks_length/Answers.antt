use Rattle.std.proofs.Common.{arith}
use Rattle.gvar_writer.proofs.TableSteps.{peaks_step}
use Rattle.gvar_writer.proofs.table.peaks_length.Goals as goal

pub loop-region-preserved : goal.loop-region-preserved
loop-region-preserved c =
    let step = peaks_step c.args.shared.now c.loop-region.region-index c.region-item.result
    (omega arith) c.region-item.is in
    record {
      few = omega arith;
      told = omega (
        arith,
        step,
        c.saturating_add-length.ensures,
        c.saturating_mul.ensures,
        c.loop-region.invariant.told,
      );
    }
