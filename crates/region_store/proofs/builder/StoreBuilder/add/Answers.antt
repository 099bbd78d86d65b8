use Rattle.std.proofs.Common.{sym}
use Rattle.region_store.proofs.RowLemmas.{row_stands}
use Rattle.region_store.proofs.builder.StoreBuilder.add.Goals as goal

pub returns-in-Some-clause-stands : goal.returns-in-Some-clause-stands
returns-in-Some-clause-stands c =
    row_stands c.args.self.now.rows c.args.row.now c.in-Some.place (sym c.in-Some.ensures)
