-- the data so far are those of the items before this one
use Rattle.std.proofs.Common.{◌≡◌, ◌++◌, map, take}
use Rattle.std.specs.List.{flat_map}
use Rattle.access_context.specs.Read.{plain_item}
use Rattle.font_plan.specs.Reading.{data_at}
use Rattle.font_plan.proofs.font_reads.push_data.Given as goal

abbrev pub invariant-loop-settled : goal.invariant-loop-settled
invariant-loop-settled l = map (λ part. part.value.items) l.parts.items
    ≡ map (λ part. part.value.items) l.initial.parts.items
    ++ flat_map data_at (map plain_item (take l.settled-index l.items))
