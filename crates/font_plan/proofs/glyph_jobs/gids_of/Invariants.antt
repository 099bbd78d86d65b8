-- the glyph numbers so far are those of the components before this one
use Rattle.std.proofs.Common.{◌≡◌, take}
use Rattle.std.specs.List.{flat_map}
use Rattle.std.specs.Option.{option_to_list}
use Rattle.font_ir.specs.Glyphs.{gid_of}
use Rattle.font_plan.proofs.glyph_jobs.gids_of.Given as goal

abbrev pub invariant-loop-component : goal.invariant-loop-component
invariant-loop-component l = l.gids.items
    ≡ flat_map (λ kept. option_to_list (gid_of l.order.names kept.base))
    (take l.component-index l.kept)
