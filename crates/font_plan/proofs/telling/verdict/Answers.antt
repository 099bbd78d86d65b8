-- the least refusal is the verdict, and without one the font was made
use Rattle.std.proofs.Common.{refl, sym, ap, ◌∙◌, subst, Ok, Err}
use Rattle.std.specs.Prelude.{IsSome}
use Rattle.std.specs.Arc.{arc_value}
use Rattle.font_graph.specs.declared.items.Item.TheVariants as an
use Rattle.font_plan.proofs.Judgement.{is_made, made_item, refused_item}
use Rattle.font_plan.proofs.Orders.{same_some}
use Rattle.font_plan.proofs.telling.verdict.Goals as goal

pub returns-in-Some : goal.returns-in-Some
returns-in-Some c = refused_item c.args.board.now.plan c.in-Some.refusal
    (sym c.in_ok-refused.ensures ∙ c.in-Some.is)

pub font_in-requires-clause-made : goal.font_in-requires-clause-made
font_in-requires-clause-made c =
    subst IsSome (sym (is_made c.args.board.now.plan
    (sym c.in_ok-refused.ensures ∙ c.in_default.is)).told) refl

pub returns : goal.returns
returns c =
    let made = is_made c.args.board.now.plan (sym c.in_ok-refused.ensures ∙ c.in_default.is) in
    made_item c.args.board.now.plan made
    ∙ ap Ok (same_some (an.Font made.font) (arc_value c.font_in.result.now)
    (sym made.told ∙ c.font_in.ensures) ∙ sym c.in_ok-try_clone.ensures)
