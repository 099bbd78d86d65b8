-- a number more, or a glyph passed
use Rattle.std.proofs.Common.{◌+◌, ◌++◌, ℕ, map, drop, sym, ap, ◌∙◌, List}
use Rattle.character_codes.specs.CharacterCodes.{Entry}
use Rattle.font_plan.specs.Order.{others_from}
use Rattle.font_plan.proofs.Steps.{others_next, others_passed, moved}
use Rattle.font_plan.proofs.order.push_numbers.Goals as goal
use Rattle.font_plan.proofs.order.push_numbers.Goals.{then-is_other+in_ok-push, else-is_other}

abbrev number_of : ℕ × Entry → ℕ
number_of glyph = glyph.0

abbrev rest : ℕ → List Entry → List (ℕ × Entry)
rest n index = others_from (n + 1) (drop (n + 1) index)

pub loop-number-preserved : goal.loop-number-preserved
loop-number-preserved c =
    let found = c.entry_at.result in
    let index = c.args.index.now in
    let n = c.loop-number.number in
    let before = c.loop-number.numbers.items in
    let entry : Entry = (found.0.now, found.1.now) in
    elim c.if-is_other.branch [
      | then-is_other+in_ok-push w ↦
          (let here = sym c.is_other.ensures ∙ w.if-is_other.true in
          moved before c.if-is_other.numbers.items (map number_of (rest n index)) n
          (ap (λ numbers. numbers.items) w.numbers-is ∙ w.in_ok-push.ensures.items)
          ∙ sym (others_next number_of before index n entry c.entry_at.ensures here)
          ∙ c.loop-number.invariant)
      | else-is_other w ↦
          (let passed = sym c.is_other.ensures ∙ w.if-is_other.false in
          ap (λ numbers. numbers.items ++ map number_of (rest n index)) w.numbers-is
          ∙ sym (others_passed number_of before index n entry c.entry_at.ensures passed)
          ∙ c.loop-number.invariant)
    ]
