use Rattle.std.proofs.Common.{ap, sym, ◌∙◌, drop, length, []}
use Rattle.variation_model.specs.Supports.{supports_of}
use Rattle.metrics_tables.specs.RegionIndexes.{with_regions}
use Rattle.metrics_tables.proofs.ChangeLemmas.{behind_first, supports_differ, with_all}
use Rattle.metrics_tables.proofs.changes.master_regions.Goals as goal

pub returns-clause-regions : goal.returns-clause-regions
returns-clause-regions c =
    let masters = c.args.masters.now in
    let supports = c.supports-supports.result.now in
    let e = c.supports-supports.ensures in
    c.in_ok-add_all.ensures.regions
    ∙ (λ i. with_regions (c.new-index.ensures.none i) (behind_first supports i))
    ∙ ap (λ all. with_regions [] (drop 1 all)) e.value
    ∙ with_all (drop 1 (supports_of masters)) (supports_differ masters e.own e.later
    (ap length (sym e.value) ∙ e.as_many))
