use Rattle.std.proofs.Common.{arith, sym, ◌<◌, length, FitsSigned}
use Rattle.std.specs.Int.{w32}
use Rattle.std.proofs.lemmas.Int.{ints, to_z-of_z}
use Rattle.font_reader.specs.Outlines.{coordinates}
use Rattle.font_reader.proofs.Fills.{fill_turn}
use Rattle.font_reader.proofs.outlines.fill.Goals as goal

pub loop-i-preserved : goal.loop-i-preserved
loop-i-preserved c =
    let within : c.loop-i.i < length c.loop-i.out = omega arith in
    let low = c.in_ok-stroke.ensures.low in
    let high = c.in_ok-stroke.ensures.high in
    let fits : FitsSigned w32 c.in_ok-stroke.stroke.value = omega (arith, ints) in
    record {
      near = c.in_ok-stroke.ensures.near;
      next = c.in_ok-stroke.ensures.next;
      low = low;
      high = high;
      rest = fill_turn c.args.bytes.now c.args.glyf c.args.axis c.loop-i.i c.args.points
          c.loop-i.stroke c.in_ok-stroke.stroke _ c.loop-i.out
          (coordinates c.args.bytes.now c.args.glyf c.args.axis c.args.points c.args.from)
          c.loop-i-test.true within (sym c.in_ok-stroke.ensures.value)
          (to_z-of_z w32 c.in_ok-stroke.stroke.value fits) c.loop-i.invariant.rest;
    }
