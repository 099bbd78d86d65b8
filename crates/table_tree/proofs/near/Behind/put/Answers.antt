use Rattle.std.proofs.Common.{map, nat_eq, [], ◌∷◌, ap, ◌∙◌}
use Rattle.std.proofs.lemmas.List.{map-append}
use Rattle.std.specs.Cmp.Lexicographic.{pointwise}
use Rattle.indexmap.proofs.CallerLemmas.{insert_entry-new}
use Rattle.table_tree.proofs.StandingLemmas.{pair, lookup-map}
use Rattle.table_tree.proofs.near.Behind.put.Goals as goal

pub returns-clause-places : goal.returns-clause-places
returns-clause-places c =
    let old = c.args.self.now.places in
    let none = lookup-map c.args.spelled.items old.entries ∙ c.requires in
    ap (λ places. map pair places.entries) c.loop-cell.invariant.places
    ∙ ap (map pair) (c.in_ok-insert.ensures.entries
    ∙ insert_entry-new (λ a b. pointwise nat_eq a.items b.items) old c.args.spelled
    c.args.self.now.next none)
    ∙ map-append pair old.entries ((c.args.spelled, c.args.self.now.next) ∷ [])
