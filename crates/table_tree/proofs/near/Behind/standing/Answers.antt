use Rattle.std.proofs.Common.{◌∙◌}
use Rattle.table_tree.proofs.StandingLemmas.{lookup-map}
use Rattle.table_tree.proofs.near.Behind.standing.Goals as goal

pub returns : goal.returns
returns c = c.copied.ensures ∙ c.get.ensures.value
    ∙ lookup-map c.args.spelled.now c.args.self.now.places.entries
