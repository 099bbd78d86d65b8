use Rattle.std.proofs.Common.{◌≡◌, ◌<◌, ◌++◌, [], ◌∷◌, None, length, ap, sym, ◌∙◌, arith}
use Rattle.std.specs.Prelude.{slice_get}
use Rattle.std.proofs.lemmas.List.{length-map}
use Rattle.region_store.specs.Builders.{place_among}
use Rattle.region_store.specs.Stores.{Store}
use Rattle.region_store.specs.Views.{rows_of}
use Rattle.region_store.proofs.RowLemmas.{grown, built_again, last_stands}
use Rattle.region_store.proofs.builder.StoreBuilder.append.Goals as goal

pub invariant_of-self-2 : goal.invariant_of-self-2
invariant_of-self-2 c =
    let keys = c.self.inside.rows.keys in
    let new = c.insert.new.self.keys in
    let row = c.args.row.now in
    let none : place_among (rows_of keys) row ≡ None
    = ap (λ (store : Store). place_among store.rows row) c.self.view_is ∙ c.requires.new in
    let rows = grown keys new c.in_ok-row.row row c.in_ok-row.ensures.items none
    c.in_ok-insert.ensures.keys in
    let long = c.requires.deltas
    ∙ ap (λ (store : Store). length store.regions) (sym c.self.view_is) in
    let count = length-map keys (λ key. key.items) in
    let few = c.self.invariant.is_store.few_rows in
    let len = c.len-place.ensures.len in
    let room : length (rows_of keys) < 65535 = omega arith in
    built_again _ _ keys new row c.self.invariant rows long room c.insert.ensures.unique

pub returns-clause-ok : goal.returns-clause-ok
returns-clause-ok c =
    let keys = c.self.inside.rows.keys in
    let new = c.insert.new.self.keys in
    let row = c.args.row.now in
    let none : place_among (rows_of keys) row ≡ None
    = ap (λ (store : Store). place_among store.rows row) c.self.view_is ∙ c.requires.new in
    let rows = grown keys new c.in_ok-row.row row c.in_ok-row.ensures.items none
    c.in_ok-insert.ensures.keys in
    (λ i. record {
      axes = c.self.inside.axes;
      regions = c.self.inside.regions.items;
      rows = rows i;
    })
    ∙ ap (λ (store : Store). record {
      axes = store.axes;
      regions = store.regions;
      rows = store.rows ++ row ∷ [];
    }) c.self.view_is

pub returns-clause-stands : goal.returns-clause-stands
returns-clause-stands c =
    let keys = c.self.inside.rows.keys in
    let new = c.insert.new.self.keys in
    let row = c.args.row.now in
    let none : place_among (rows_of keys) row ≡ None
    = ap (λ (store : Store). place_among store.rows row) c.self.view_is ∙ c.requires.new in
    let rows = grown keys new c.in_ok-row.row row c.in_ok-row.ensures.items none
    c.in_ok-insert.ensures.keys in
    ap (λ all. slice_get all c.len-place.result) rows
    ∙ last_stands (rows_of keys) row c.len-place.result
    (c.len-place.ensures.len ∙ sym (length-map keys (λ key. key.items)))
