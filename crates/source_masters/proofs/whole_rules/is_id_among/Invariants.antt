-- the id is among those of the masters that are left exactly where it is among those of all
use Rattle.std.proofs.Common.{◌≡◌, drop, map}
use Rattle.plist_reader.specs.Keys.{is_among}
use Rattle.source_masters.specs.WholeRules.{master_id}
use Rattle.source_masters.proofs.whole_rules.is_id_among.Given as goal

abbrev pub invariant-loop-master : goal.invariant-loop-master
invariant-loop-master l =
    is_among l.id (map (master_id l.tree) (drop l.master-index l.masters))
    ≡ is_among l.id (map (master_id l.tree) l.masters)
