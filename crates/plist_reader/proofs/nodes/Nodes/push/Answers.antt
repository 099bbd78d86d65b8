-- the new value stands behind those that were there, which stay as they were
use Rattle.std.proofs.Common.{ap, ◌∙◌, map, refl}
use Rattle.plist_reader.specs.Stored.{node_of}
use Rattle.plist_reader.proofs.StoredLemmas.{nodes-kept, nodes-pushed, entries-kept, entries-pushed}
use Rattle.plist_reader.proofs.StoredLemmas.{on_err}
use Rattle.plist_reader.proofs.nodes.Nodes.push.Goals as goal

pub returns-in_err-content-clause-err : goal.returns-in_err-content-clause-err
returns-in_err-content-clause-err c = on_err c.from_residual.result
    (nodes-kept c.self.inside.pools c.store.new.self c.self.inside.stored.items c.store.ensures.kept
    c.self.invariant ∙ c.self.view_is)

pub invariant_of-self-in_err-push : goal.invariant_of-self-in_err-push
invariant_of-self-in_err-push c = rw c.in_err-push.ensures.items
    (entries-kept c.self.inside.pools c.store.new.self c.self.inside.stored.items
    c.store.ensures.kept c.self.invariant)

pub returns-in_err-push-clause-err : goal.returns-in_err-push-clause-err
returns-in_err-push-clause-err c = on_err c.from_residual-in_err-push.result
    (ap (map (node_of c.store.new.self)) c.in_err-push.ensures.items
    ∙ nodes-kept c.self.inside.pools c.store.new.self c.self.inside.stored.items
    c.store.ensures.kept c.self.invariant ∙ c.self.view_is)

pub invariant_of-self-2 : goal.invariant_of-self-2
invariant_of-self-2 c = rw c.in_ok-push.ensures.items
    (entries-pushed c.self.inside.pools c.store.new.self c.self.inside.stored.items _
    c.store.ensures.kept c.self.invariant c.in_ok-content.ensures.inside)

pub returns-clause-ok : goal.returns-clause-ok
returns-clause-ok c =
    ap (map (node_of c.store.new.self)) c.in_ok-push.ensures.items
    ∙ nodes-pushed c.self.inside.pools c.store.new.self c.self.inside.stored.items _
    c.store.ensures.kept c.self.invariant
    ∙ rw (c.self.view_is, c.in_ok-content.ensures.value) refl
