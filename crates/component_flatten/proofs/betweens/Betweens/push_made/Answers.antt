use Rattle.component_flatten.proofs.SharedBases.{one_more_made}
use Rattle.component_flatten.proofs.betweens.Betweens.push_made.Goals as goal

pub returns : goal.returns
returns c =
    rw (c.in_ok-push.ensures.ok, c.in_ok-push-2.ensures.ok, c.len-n.ensures, ← c.self.view_is)
    (one_more_made c.self.inside.made c.args.between c.self.inside.used c.self.invariant)
