-- what is left repeats a code exactly where all do, and the codes so far are seen
use Rattle.std.proofs.Common.{◌≡◌, ◌++◌, take, drop}
use Rattle.glyphs_source.specs.IndexReading.{repeats}
use Rattle.glyphs_source.proofs.index.add_codes.Given as goal

abbrev pub invariant-loop-code : goal.invariant-loop-code
invariant-loop-code l =
    (repeats l.seen.keys (drop l.code-index l.codes) ≡ repeats l.initial.seen.keys l.codes)
    × (l.seen.keys ≡ l.initial.seen.keys ++ take l.code-index l.codes)
