use Rattle.font_assembly.proofs.TotalLemmas.{total-step}
use Rattle.font_assembly.proofs.checksums.checksum.Goals as goal

pub loop-rest-preserved : goal.loop-rest-preserved
loop-rest-preserved c = total-step _ _ _ _ c.loop-rest-test.true c.read_u32-sum.ensures
    c.loop-rest.invariant
