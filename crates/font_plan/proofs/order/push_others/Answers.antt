-- the next name is none of those before it, and goes last
use Rattle.std.proofs.Common.{◌≡◌, ◌≤◌, ◌+◌, ℕ, List, ◌∷◌, ◌++◌, map, length, Option, Some, false}
use Rattle.std.proofs.Common.{is_some, [], nat_eq, ap, sym, ◌∙◌, subst, drop, arith}
use Rattle.std.specs.List.{IsDistinct}
use Rattle.refusal_codes.specs.declared.limits.TheConstants.{NAME_BYTES}
use Rattle.font_ir.specs.Glyphs.{Glyphs, gid_of}
use Rattle.std.specs.Cmp.Lexicographic.{pointwise}
use Rattle.std.proofs.lemmas.List.{length-append, length-map}
use Rattle.character_codes.specs.CharacterCodes.{Entry}
use Rattle.font_plan.specs.Order.{others_from}
use Rattle.font_plan.proofs.Names.{new_name, short_there}
use Rattle.font_plan.proofs.Steps.{others_next, others_passed, moved, room_left}
use Rattle.font_plan.proofs.order.push_others.Goals as goal
use Rattle.font_plan.proofs.order.push_others.Goals.{then-is_other+in_ok-push_glyph, else-is_other}

abbrev number_of : ℕ × Entry → Option ℕ
number_of glyph = Some glyph.0

abbrev name_of : ℕ × Entry → List ℕ
name_of glyph = glyph.1.0

-- the others behind an entry
abbrev rest : ℕ → List Entry → List (ℕ × Entry)
rest n index = others_from (n + 1) (drop (n + 1) index)

pub push_glyph-requires-clause-room : goal.push_glyph-requires-clause-room
push_glyph-requires-clause-room c =
    let found = c.entry_at.result in
    let index = c.args.index.now in
    let n = c.loop-number.number in
    let whole = sym (others_next name_of c.loop-number.order.names index n
    (found.0.now, found.1.now) c.entry_at.ensures (sym c.is_other.ensures ∙ c.if-is_other.true))
    ∙ c.loop-number.invariant.1 in
    let few : length (c.args.order.now.names ++ map name_of (others_from 0 index)) ≤ 65535
    = omega (
      arith,
      length-append c.args.order.now.names (map name_of (others_from 0 index)),
      length-map (others_from 0 index) name_of,
      c.requires.glyphs,
    ) in
    room_left c.loop-number.order.names (map name_of (others_from (n + 1) (drop (n + 1) index))) _
    found.0.now whole few

pub push_glyph-requires-clause-short : goal.push_glyph-requires-clause-short
push_glyph-requires-clause-short c =
    let found = c.entry_at.result in
    subst (λ (name : List ℕ). length name ≤ NAME_BYTES) (sym c.as_bytes.ensures)
    (short_there c.args.index.now c.loop-number.number (found.0.now, found.1.now)
    c.requires.named c.entry_at.ensures)

pub push_glyph-requires-clause-new : goal.push_glyph-requires-clause-new
push_glyph-requires-clause-new c =
    let found = c.entry_at.result in
    let index = c.args.index.now in
    let n = c.loop-number.number in
    let whole = sym (others_next name_of c.loop-number.order.names index n
    (found.0.now, found.1.now) c.entry_at.ensures (sym c.is_other.ensures ∙ c.if-is_other.true))
    ∙ c.loop-number.invariant.1 in
    subst (λ (name : List ℕ). is_some (gid_of c.loop-number.order.names name) ≡ false)
    (sym c.as_bytes.ensures)
    (new_name c.loop-number.order.names (map name_of (others_from (n + 1) (drop (n + 1) index)))
    found.0.now (subst (λ (names : List (List ℕ)). IsDistinct (pointwise nat_eq) names)
    (sym whole) c.requires.different))

pub loop-number-preserved : goal.loop-number-preserved
loop-number-preserved c =
    let found = c.entry_at.result in
    let index = c.args.index.now in
    let n = c.loop-number.number in
    let before = c.loop-number.order in
    let entry : Entry = (found.0.now, found.1.now) in
    elim c.if-is_other.branch [
      | then-is_other+in_ok-push_glyph w ↦
          (let here = sym c.is_other.ensures ∙ w.if-is_other.true in
          let after = c.if-is_other.order in (
            moved before.numbers after.numbers (map number_of (rest n index)) (number_of (n, entry))
                (ap (λ (order : Glyphs). order.numbers) w.order-is
                ∙ w.in_ok-push_glyph.ensures.numbers)
                ∙ sym (others_next number_of before.numbers index n entry c.entry_at.ensures here)
                ∙ c.loop-number.invariant.0,
            moved before.names after.names (map name_of (rest n index)) (name_of (n, entry))
                (ap (λ (order : Glyphs). order.names) w.order-is ∙ w.in_ok-push_glyph.ensures.names
                ∙ ap (λ (name : List ℕ). before.names ++ name ∷ []) w.as_bytes.ensures)
                ∙ sym (others_next name_of before.names index n entry c.entry_at.ensures here)
                ∙ c.loop-number.invariant.1,
          ))
      | else-is_other w ↦
          (let passed = sym c.is_other.ensures ∙ w.if-is_other.false in (
            ap (λ (order : Glyphs). order.numbers ++ map number_of (rest n index)) w.order-is
                ∙ sym (others_passed number_of before.numbers index n entry c.entry_at.ensures
                passed) ∙ c.loop-number.invariant.0,
            ap (λ (order : Glyphs). order.names ++ map name_of (rest n index)) w.order-is
                ∙ sym (others_passed name_of before.names index n entry c.entry_at.ensures passed)
                ∙ c.loop-number.invariant.1,
          ))
    ]
