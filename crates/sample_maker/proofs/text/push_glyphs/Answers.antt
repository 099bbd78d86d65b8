use Rattle.std.proofs.Common.{◌≡◌, ◌+◌, ◌-◌, ◌<◌, ℕ, suc, sym, ap, ◌∙◌, arith, Bool, true}
use Rattle.std.proofs.Common.{false}
use Rattle.std.specs.Prelude.{◌==◌, if◌then◌else◌}
use Rattle.std.proofs.lemmas.Bool.Decides.{nat_tests}
use Rattle.std.specs.String.{string_bytes}
use Rattle.sample_maker.proofs.Turns.{kept}
use Rattle.sample_maker.specs.Glyphs.{is_rectangle}
use Rattle.sample_maker.proofs.text.push_glyphs.Goals as goal
use Rattle.sample_maker.proofs.text.push_glyphs.Goals.{then-is_rectangle, else-is_rectangle}

left : (glyphs number : ℕ) → number < glyphs → glyphs - number ≡ suc (glyphs - (number + 1))
left glyphs number below = omega (arith, below)

ends : (glyphs number : ℕ) → number < glyphs
    → (number + 1 == glyphs) ≡ (glyphs - (number + 1) == 0)
ends glyphs number below = grind (arith, nat_tests)

chosen : (b : Bool) (number last next : ℕ) → b ≡ true → next ≡ number
    → next ≡ (if b then number else last)
chosen b number last next e is = is ∙ sym (ap (λ (c : Bool). if c then number else last) e)

kept_last : (b : Bool) (number last next : ℕ) → b ≡ false → next ≡ last
    → next ≡ (if b then number else last)
kept_last b number last next e is = is ∙ sym (ap (λ (c : Bool). if c then number else last) e)

pub loop-number-preserved : goal.loop-number-preserved
loop-number-preserved c =
    let number = c.loop-number.number in
    let below : number < c.args.glyphs = omega (arith, c.loop-number-test.true) in
    kept (string_bytes c.loop-number.text) (string_bytes c.push_glyph.new.text)
    (string_bytes c.push_line_end.new.text) _ (c.args.glyphs - number)
    (c.args.glyphs - (number + 1)) number c.loop-number.last c.loop-number.draws.state
    c.draw-glyph.result c.draw-glyph.new.draws.state c.if-is_rectangle.last
    (number + 1 == c.args.glyphs) (left c.args.glyphs number below) c.draw-glyph.ensures.glyph
    c.draw-glyph.ensures.state
    (elim c.if-is_rectangle.branch [
      | then-is_rectangle w ↦ chosen (is_rectangle c.draw-glyph.result.shape) number
          c.loop-number.last c.if-is_rectangle.last (sym c.is_rectangle.ensures ∙ w.if-is_rectangle.true)
          w.last-is
      | else-is_rectangle w ↦ kept_last (is_rectangle c.draw-glyph.result.shape) number
          c.loop-number.last c.if-is_rectangle.last (sym c.is_rectangle.ensures ∙ w.if-is_rectangle.false)
          w.last-is
    ])
    (ends c.args.glyphs number below) c.in_ok-push_glyph.ensures c.in_ok-push_line_end.ensures
    c.loop-number.invariant
