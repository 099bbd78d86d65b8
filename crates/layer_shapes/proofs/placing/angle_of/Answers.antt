use Rattle.std.proofs.Common.{◌≡◌, sym, ap, subst, Option}
use Rattle.std.specs.Prelude.{option_and_then, IfSome, ◌%◌}
use Rattle.source_values.specs.declared.decimals.Decimal.{Decimal}
use Rattle.source_values.specs.Decimals.{decimal_of}
use Rattle.source_values.specs.Values.{decimal_at}
use Rattle.layer_shapes.specs.DecimalLaws.{angle_read}
use Rattle.layer_shapes.proofs.placing.angle_of.Goals as goal

pub returns-in-Some : goal.returns-in-Some
unfolding decimal_at
returns-in-Some c =
    let t = c.args.tree.now in
    let n = c.args.number in
    let text = c.args.text.now in
    let spelled : decimal_of text ≡ decimal_at t n =
    sym (ap (λ o. option_and_then decimal_of o) c.requires) in
    let whole : IfSome (decimal_at t n) (λ d. c.degrees.result ≡ d.whole % 360) =
    subst (λ (o : Option Decimal). IfSome o (λ d. c.degrees.result ≡ d.whole % 360)) spelled
    c.degrees.ensures in
    angle_read text (decimal_at t n) c.in-Some.decimal c.degrees.result spelled c.in-Some.ensures
    whole
