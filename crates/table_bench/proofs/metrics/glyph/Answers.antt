use Rattle.table_bench.proofs.Fonts.{with_components}
use Rattle.table_bench.proofs.metrics.glyph.Goals as goal

pub returns : goal.returns
returns c =
    let simple = c.in_ok-simple.ensures in
    let kept = c.in_ok-kept.ensures in
    rw c.with_components.ensures (with_components c.args.order.now.names c.args.gid
    c.in_ok-simple.simple c.in_ok-kept.kept.items simple.flat simple.places kept.count
    kept.components)
