use Rattle.std.proofs.Common.{◌≡◌, ◌++◌, drop}
use Rattle.character_codes.specs.CharacterCodes.{codes_from}
use Rattle.character_codes.proofs.codes.codes_by_glyph.Given as goal

abbrev pub invariant-loop-gid : goal.invariant-loop-gid
invariant-loop-gid l =
    l.codes.items ++ codes_from l.index l.gid (drop l.gid l.numbers)
    ≡ codes_from l.index 0 l.numbers
