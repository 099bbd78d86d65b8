use Rattle.std.proofs.Common.{◌≡◌, ◌-◌, ◌+◌, ◌*◌, ◌^◌, ◌<◌}
use Rattle.font_reader.specs.Fold.{folded}
use Rattle.font_reader.specs.Names.{after_name}
use Rattle.font_reader.proofs.names.after_names.Given as goal

abbrev pub invariant-loop-i : goal.invariant-loop-i
invariant-loop-i l = record {
  near : l.at < 2 ^ 20 + 256 * l.i;
  rest : folded (after_name l.bytes l.post) l.i (l.others - l.i) l.at
      ≡ folded (after_name l.bytes l.post) 0 l.others l.fn.first;
}
