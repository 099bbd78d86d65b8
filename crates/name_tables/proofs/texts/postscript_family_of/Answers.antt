use Rattle.std.proofs.Common.{arith}
use Rattle.name_tables.proofs.Filters.{filter_turn, filter_end}
use Rattle.std.specs.String.{string_bytes}
use Rattle.name_tables.proofs.texts.postscript_family_of.Goals as goal

pub loop-byte-preserved : goal.loop-byte-preserved
loop-byte-preserved c =
    filter_turn (string_bytes c.loop-byte.text) (string_bytes c.push_postscript.new.text)
    c.args.family.now _ c.loop-byte.byte-index 0 (omega arith) c.in_ok-push_postscript.ensures
    c.loop-byte.invariant

pub returns : goal.returns
returns c =
    filter_end (string_bytes c.loop-byte.text) c.args.family.now _ c.loop-byte.byte-index
    (omega arith) c.loop-byte.invariant
