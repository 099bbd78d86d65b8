use Rattle.std.proofs.Common.{◌≡◌, drop}
use Rattle.std.specs.List.{filter}
use Rattle.std.specs.String.{string_bytes}
use Rattle.name_tables.specs.Texts.{is_postscript, postscript_family}
use Rattle.name_tables.proofs.Filters.{filled}
use Rattle.name_tables.proofs.texts.postscript_family_of.Given as goal

abbrev pub invariant-loop-byte : goal.invariant-loop-byte
invariant-loop-byte l =
    filled (string_bytes l.text) (filter is_postscript (drop l.byte-index l.family))
    ≡ postscript_family l.family
