use Rattle.table_bench.proofs.Shapes.{outline_of}
use Rattle.table_bench.proofs.outlines.outline.Goals as goal

pub returns : goal.returns
returns c =
    let one = c.in_ok-first.ensures in
    let other = c.in_ok-second.ensures in
    let is = outline_of c.in_ok-first.first c.in_ok-second.second one.on other.on one.small
    other.small in
    rw (c.from_vec.ensures, c.in_ok-vec.ensures.items) is
