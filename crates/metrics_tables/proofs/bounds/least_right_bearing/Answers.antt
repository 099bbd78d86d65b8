use Rattle.std.proofs.Common.{arith, ◌≡◌, ◌+◌, ◌<◌, drop, get_or, length, pos, ◌-ℤ◌, ◌∙◌, sym, ap}
use Rattle.std.proofs.Common.{to_z, of_z}
use Rattle.std.specs.Int.{w32, int_min}
use Rattle.std.specs.List.{fold}
use Rattle.std.proofs.lemmas.Int.{ints}
use Rattle.metrics_tables.specs.Comparisons.{lesser_of}
use Rattle.metrics_tables.specs.Tables.{right_bearings}
use Rattle.metrics_tables.proofs.LeastLemmas.{least_onto, bearing_there, no_bearing}
use Rattle.metrics_tables.proofs.bounds.least_right_bearing.Goals as goal
use Rattle.metrics_tables.proofs.bounds.least_right_bearing.Goals.{in-Some, in_default}

pub loop-gid-preserved : goal.loop-gid-preserved
loop-gid-preserved c =
    let advances = c.args.advances.now in
    let bounds = c.args.bounds.now in
    let i = c.loop-gid.gid in
    let rest = right_bearings (drop (i + 1) advances) (drop (i + 1) bounds) in
    let h : i < length advances = omega arith in
    let k : i < length bounds = omega arith in
    elim c.match-bounds-gid.branch [
      | in-Some w ↦
          let bearing : to_z w32 (of_z w32 w.right_bearing.result)
          ≡ pos (get_or advances i 0) -ℤ get_or w.in-Some.sides 2 (pos 0)
          = omega (arith, ints, w.right_bearing.ensures) in
          let least : to_z w32 (of_z w32 w.lesser_bearing.result)
          ≡ w.lesser_bearing.result = omega (arith, ints) in
          ap (λ so_far. least_onto so_far rest) w.so_far-is
          ∙ ap (λ z. fold int_min z rest) (least ∙ w.lesser_bearing.ensures
          ∙ ap (lesser_of c.loop-gid.so_far) bearing)
          ∙ sym (bearing_there advances bounds i w.in-Some.sides c.loop-gid.so_far h k w.in-Some.is)
          ∙ c.loop-gid.invariant
      | in_default w ↦
          ap (λ so_far. least_onto so_far rest) w.so_far-is
          ∙ ap (least_onto c.loop-gid.so_far) (sym
          (no_bearing advances bounds i h k w.in_default.is))
          ∙ c.loop-gid.invariant
    ]
