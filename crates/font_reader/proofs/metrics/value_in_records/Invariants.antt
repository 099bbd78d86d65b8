use Rattle.std.proofs.Common.{◌≡◌, ◌-◌}
use Rattle.font_reader.specs.Search.{first_found}
use Rattle.font_reader.specs.Metrics.{value_in_record}
use Rattle.font_reader.proofs.metrics.value_in_records.Given as goal

abbrev pub invariant-loop-i : goal.invariant-loop-i
invariant-loop-i l = first_found (value_in_record l.bytes l.mvar l.store l.tag l.place)
    l.i (l.end - l.i)
    ≡ first_found (value_in_record l.bytes l.mvar l.store l.tag l.place) 0 l.end
