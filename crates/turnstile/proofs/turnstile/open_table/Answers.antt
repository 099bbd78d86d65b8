use Rattle.std.proofs.Common.{[], ◌∷◌, sym, subst}
use Rattle.atomic_table.specs.Table.{opening}
use Rattle.turnstile.specs.Members.{everyone}
use Rattle.turnstile.specs.Rule.{Kept}
use Rattle.turnstile.proofs.Allowed.{opens}
use Rattle.turnstile.proofs.turnstile.open_table.Goals as goal

pub new-requires : goal.new-requires
new-requires g c =
    let value = c.args.about.now.value.value in
    let passes = c.args.about.now.passes in
    let entries = g.B.Counted.entries in
    let root = g.B.Counted.root in
    subst (λ slots. Kept entries root passes (root value)
    (opening (0 ∷ 0 ∷ 0 ∷ []) slots (everyone (root value) passes))) (sym c.requires.slots)
    (opens entries root value passes c.requires.empty c.requires.few)
