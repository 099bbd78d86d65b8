-- Which rule a glyph breaks, from what its parts tell.
use Rattle.std.proofs.Common.{◌≡◌, Bool, true, false, List, [], ◌∷◌, Some, None}
use Rattle.std.proofs.Common.{Result, Ok, Err, refl, sym, ap, ◌∙◌}
use Rattle.std.specs.Prelude.{not, ◌&&◌, ◌||◌, IfOk}
use Rattle.std.specs.List.{list_any, list_all}
use Rattle.fixed_math.specs.declared.F2Dot14.{F2Dot14}
use Rattle.font_ir.specs.declared.glyph.GlyphIr.{GlyphIr}
use Rattle.font_ir.specs.declared.glyph.FlatGlyph.{FlatGlyph}
use Rattle.refusal_codes.specs.declared.rule.Rule.TheVariants.{CoordinateTooLarge, TooManyPoints}
use Rattle.refusal_codes.specs.declared.rule.Rule.TheVariants.{DeltaTooLarge}
use Rattle.component_flatten.specs.declared.limits.LimitError.{LimitError}
use Rattle.component_flatten.specs.declared.limits.LimitError.TheVariants as limit_errors
use Rattle.component_flatten.specs.Places.{has_large_deltas}
use Rattle.component_flatten.specs.Drawing.{glyph_drawn}
use Rattle.component_flatten.specs.Flattening.{has_many_points, are_small}
use Rattle.component_flatten.specs.Judging.{BreaksRule, Judges, RefusesRule, GivesDrawn}
use Rattle.component_flatten.specs.Judging.{first_rule, rule_of, has_no_large_deltas}

both_not : (p a b : Bool) → a ≡ not b → (not p && a) ≡ not (p || b)
both_not true a b e = refl
both_not false a b e = e

no_large : (places : List (List F2Dot14)) (bases : List FlatGlyph)
    → list_all (has_no_large_deltas places) bases ≡ not (list_any (has_large_deltas places) bases)
no_large places [] = refl
no_large places (base ∷ bases) = both_not (has_large_deltas places base) _ _ (no_large places bases)

not_false : (b : Bool) → not b ≡ false → b ≡ true
not_false true e = refl
not_false false e = absurd cc

not_true : (b : Bool) → not b ≡ true → b ≡ false
not_true true e = absurd cc
not_true false e = refl

rule_many : (many large small : Bool) → many ≡ true
    → first_rule many large small ≡ Some TooManyPoints
rule_many true large small e = refl
rule_many false large small e = absurd cc

rule_large : (many large small : Bool) → many ≡ false → large ≡ true
    → first_rule many large small ≡ Some DeltaTooLarge
rule_large false true small e f = refl
rule_large true large small e f = absurd cc
rule_large false false small e f = absurd cc

rule_last : (many large small : Bool) → many ≡ false → large ≡ false → small ≡ false
    → first_rule many large small ≡ Some CoordinateTooLarge
rule_last false false false e f g = refl
rule_last true large small e f g = absurd cc
rule_last false true small e f g = absurd cc
rule_last false false true e f g = absurd cc

rule_none : (many large small : Bool) → many ≡ false → large ≡ false → small ≡ true
    → first_rule many large small ≡ None
rule_none false false true e f g = refl
rule_none true large small e f g = absurd cc
rule_none false true small e f g = absurd cc
rule_none false false false e f g = absurd cc

pub gives_many : (glyph : GlyphIr) (bases : List FlatGlyph)
    → list_any has_many_points (glyph_drawn glyph bases) ≡ true
    → rule_of glyph bases ≡ Some TooManyPoints
gives_many glyph bases e = rule_many _ _ _ e

pub gives_large : (glyph : GlyphIr) (bases : List FlatGlyph) (error : LimitError)
    → list_any has_many_points (glyph_drawn glyph bases) ≡ false
    → BreaksRule DeltaTooLarge (list_all (has_no_large_deltas glyph.places) bases) error
    → RefusesRule (rule_of glyph bases) error
gives_large glyph bases (limit_errors.Broken rule) few h =
    rule_large (list_any has_many_points (glyph_drawn glyph bases))
    (list_any (has_large_deltas glyph.places) bases)
    (list_all are_small (glyph_drawn glyph bases)) few
    (not_false (list_any (has_large_deltas glyph.places) bases)
    (sym (no_large glyph.places bases) ∙ h.1)) ∙ ap Some (sym h.0)
gives_large glyph bases limit_errors.NoMemory few h = tt

pub gives_drawn : {X : Type 0} (glyph : GlyphIr) (bases : List FlatGlyph) (value : X)
    (r : Result X LimitError) → list_any has_many_points (glyph_drawn glyph bases) ≡ false
    → list_all (has_no_large_deltas glyph.places) bases ≡ true → IfOk r (λ x. x ≡ value)
    → Judges CoordinateTooLarge (list_all are_small (glyph_drawn glyph bases)) r
    → GivesDrawn (rule_of glyph bases) value r
gives_drawn glyph bases value (Ok x) few stored same small = (
  rule_none (list_any has_many_points (glyph_drawn glyph bases))
      (list_any (has_large_deltas glyph.places) bases)
      (list_all are_small (glyph_drawn glyph bases)) few
      (not_true (list_any (has_large_deltas glyph.places) bases)
      (sym (no_large glyph.places bases) ∙ stored)) small,
  same,
)
gives_drawn glyph bases value (Err (limit_errors.Broken rule)) few stored same h =
    rule_last (list_any has_many_points (glyph_drawn glyph bases))
    (list_any (has_large_deltas glyph.places) bases)
    (list_all are_small (glyph_drawn glyph bases)) few
    (not_true (list_any (has_large_deltas glyph.places) bases)
    (sym (no_large glyph.places bases) ∙ stored)) h.1 ∙ ap Some (sym h.0)
gives_drawn glyph bases value (Err limit_errors.NoMemory) few stored same h = tt
