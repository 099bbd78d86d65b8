-- by the number of the masters' layers
use Rattle.std.proofs.Common.{◌≡◌, ℕ, ltb, length, true, false, Some, ap, ◌∙◌, arith}
use Rattle.std.proofs.lemmas.Bool.Decides.{nat_tests}
use Rattle.std.specs.List.{count_by}
use Rattle.refusal_codes.specs.declared.first.Failure.{Failure}
use Rattle.refusal_codes.specs.declared.rule.Rule.TheVariants.{MissingLayer}
use Rattle.glyphs_layers.specs.GlyphPlaces.{is_masters}
use Rattle.glyphs_layers.proofs.PlaceLaws.{missing_told}
use Rattle.glyphs_layers.proofs.places.missing_layer.Goals as goal

abbrev at : ℕ → Failure
at place = record { rule = MissingLayer; place = place }

pub returns-then-missing : goal.returns-then-missing
returns-then-missing c =
    let few : ltb (count_by is_masters c.args.layers.now) (length c.args.header.now.masters)
    ≡ true = grind (arith, nat_tests) in
    ap (λ (place : ℕ). Some (at place)) c.place_at.ensures
    ∙ missing_told c.args.tree.now c.args.header.now c.args.glyph c.args.layers.now true c.requires
    few

pub returns-else-missing : goal.returns-else-missing
returns-else-missing c =
    let all : ltb (count_by is_masters c.args.layers.now) (length c.args.header.now.masters)
    ≡ false = grind (arith, nat_tests) in
    missing_told c.args.tree.now c.args.header.now c.args.glyph c.args.layers.now false c.requires
    all
