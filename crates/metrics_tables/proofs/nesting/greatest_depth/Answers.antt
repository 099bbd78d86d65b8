use Rattle.std.proofs.Common.{◌≡◌, ap, arith, max, rules, ◌∙◌}
use Rattle.metrics_tables.proofs.WalkLemmas.{depth_more}
use Rattle.metrics_tables.proofs.nesting.greatest_depth.Goals as goal

pub loop-gid-preserved : goal.loop-gid-preserved
loop-gid-preserved c =
    let top : c.max-so_far.result ≡ max c.loop-gid.so_far c.unwrap_or.result = search rules in
    record {
      depths = c.in_ok-settle.ensures.depths;
      greatest = depth_more c.args.bases.now c.settle.new.depths.items c.loop-gid.gid
          c.loop-gid.so_far c.max-so_far.result c.index.result.now c.in_ok-settle.ensures.depths
          c.in_ok-settle.ensures.known (omega arith) c.loop-gid.invariant.greatest c.index.ensures
          (top ∙ ap (max c.loop-gid.so_far) c.unwrap_or.ensures);
    }
