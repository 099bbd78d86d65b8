use Rattle.std.proofs.Common.{ap, ◌∙◌, arith}
use Rattle.turnstile.specs.declared.knowledge.Stage.TheVariants.{Waiting}
use Rattle.turnstile.specs.declared.knowledge.Knowledge.{Knowledge}
use Rattle.turnstile.proofs.Allowed.{draw_allowed}
use Rattle.turnstile.proofs.steps.draw.Goals as goal

pub fetch_add-requires : goal.fetch_add-requires
fetch_add-requires g c =
    let at = c.requires.away in
    let words = c.requires.table.1 in (
      c.requires.table.0,
      omega arith,
      draw_allowed g.B.Counted.entries g.B.Counted.root _ _ _ _ _
          at.0 (ap (λ me. me.0) at.1),
    )

pub returns-clause-drawn : goal.returns-clause-drawn
returns-clause-drawn g c m is =
    let told = c.fetch_add.ensures.2 in
    let view = told.2 ∙ ap (λ me. let v : Knowledge g.row.B-Entry.Denot g.row.B-Root.Denot
    = record { stage = Waiting told.0; members = me.0.members } in v) is in
    let slots = told.3 ∙ ap (λ me. me.1) is in
    (told.0, told.1, λ i. (view i, slots i))
