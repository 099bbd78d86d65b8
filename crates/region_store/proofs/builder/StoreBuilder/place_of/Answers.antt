use Rattle.std.proofs.Common.{ap, ◌∙◌}
use Rattle.region_store.specs.Builders.{place_among}
use Rattle.region_store.proofs.RowLemmas.{place_in_set}
use Rattle.region_store.proofs.builder.StoreBuilder.place_of.Goals as goal

pub returns-in-Some : goal.returns-in-Some
returns-in-Some c =
    let row = c.args.row.now in
    c.in-Some.ensures.index ∙ place_in_set c.self.inside.rows.keys row
    ∙ ap (λ store. place_among store.rows row) c.self.view_is

pub returns-in-None : goal.returns-in-None
returns-in-None c =
    let row = c.args.row.now in
    c.in-None.ensures.index ∙ place_in_set c.self.inside.rows.keys row
    ∙ ap (λ store. place_among store.rows row) c.self.view_is
