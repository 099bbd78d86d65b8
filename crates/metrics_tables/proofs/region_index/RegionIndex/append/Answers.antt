use Rattle.std.proofs.Common.{◌++◌, ◌∷◌, [], slice_get, ap, ◌∙◌, refl}
use Rattle.metrics_tables.proofs.RegionLemmas.{indexed_more, last_there}
use Rattle.metrics_tables.proofs.region_index.RegionIndex.append.Goals as goal

pub returns-clause-index : goal.returns-clause-index
returns-clause-index c = indexed_more c.args.self.now _ c.requires.index c.args.numbers
    c.args.region.now c.requires.numbers c.requires.new c.in_ok-insert.ensures.keys
    (c.in_ok-push.ensures.items ∙ ap (λ sides. c.args.self.now.regions.items
    ++ (record { sides = sides }) ∷ []) c.in_ok-sides.ensures) refl c.requires.sides

pub returns-clause-place : goal.returns-clause-place
returns-clause-place c = ap (λ all. slice_get all c.len-place.result)
    (c.in_ok-push.ensures.items ∙ ap (λ sides. c.args.self.now.regions.items
    ++ (record { sides = sides }) ∷ []) c.in_ok-sides.ensures)
    ∙ ap (slice_get (c.args.self.now.regions.items ++ c.args.region.now ∷ []))
    (c.len-place.ensures ∙ c.args.self.now.regions.ok.0) ∙ last_there c.args.self.now.regions.items c.args.region.now
