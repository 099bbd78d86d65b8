use Rattle.std.proofs.Common.{◌≡◌, ◌++◌, take}
use Rattle.character_codes.specs.CharacterCodes.{with_gid}
use Rattle.character_codes.proofs.codes.push_codes.Given as goal

abbrev pub invariant-loop-code : goal.invariant-loop-code
invariant-loop-code l = l.codes.items
    ≡ l.fn.codes.items ++ with_gid l.gid (take l.code-index l.more)
