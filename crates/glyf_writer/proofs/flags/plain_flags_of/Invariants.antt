use Rattle.std.proofs.Common.{◌≡◌, map, take}
use Rattle.glyf_writer.specs.GlyphData.{flag_of}
use Rattle.glyf_writer.proofs.flags.plain_flags_of.Given as goal

abbrev pub invariant-loop-step : goal.invariant-loop-step
invariant-loop-step l = l.flags.items ≡ map flag_of (take l.step-index l.steps)
