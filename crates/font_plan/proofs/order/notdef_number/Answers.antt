use Rattle.std.proofs.Common.{ℕ, sym, ap, ◌∙◌, ◌≡◌, Some}
use Rattle.std.specs.Option.{option_map}
use Rattle.character_codes.specs.CharacterCodes.{Entry}
use Rattle.font_plan.specs.Order.{notdef_from}
use Rattle.font_plan.proofs.Steps.{notdef_here, notdef_later}
use Rattle.font_plan.proofs.order.notdef_number.Goals as goal

pub returns-then-is_notdef : goal.returns-then-is_notdef
returns-then-is_notdef c =
    let found = c.entry_at.result in
    let entry : Entry = (found.0.now, found.1.now) in
    let here : notdef_from 0 c.args.index.now ≡ Some (c.loop-number.number, entry) =
    sym c.loop-number.invariant ∙ notdef_here c.args.index.now c.loop-number.number entry
    c.entry_at.ensures (sym c.is_notdef.ensures ∙ c.if-is_notdef.true)
    in
    record {
      number = sym (ap (option_map (λ (glyph : ℕ × Entry). glyph.0)) here);
      entry = (entry, c.entry_at.ensures, here);
    }

pub loop-number-preserved : goal.loop-number-preserved
loop-number-preserved c =
    let found = c.entry_at.result in
    sym (notdef_later c.args.index.now c.loop-number.number (found.0.now, found.1.now)
    c.entry_at.ensures (sym c.is_notdef.ensures ∙ c.if-is_notdef.false))
    ∙ c.loop-number.invariant
