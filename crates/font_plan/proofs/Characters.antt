-- The codes of a font's glyphs rise, and are those of characters.
use Rattle.std.proofs.Common.{◌≡◌, ℕ, Bool, true, false, not, ◌&&◌, List, length, Result, Ok, Err}
use Rattle.std.proofs.Common.{Option, refl, sym, subst}
use Rattle.std.specs.Prelude.{IfOk, codes, Vec}
use Rattle.std.specs.Cmp.Lexicographic.{bytes_decides}
use Rattle.std.specs.declared.alloc.Global.{Global}
use Rattle.std.proofs.lemmas.List.Elements.{All-weaker}
use Rattle.refusal_codes.specs.declared.errors.NoMemory.{NoMemory}
use Rattle.font_ir.specs.Glyphs.{Glyphs}
use Rattle.glyphs_source.specs.IndexReading.{AreCoded}
use Rattle.cmap_writer.specs.Cmap.{AreCodes}
use Rattle.character_codes.specs.CharacterCodes.{Entry, codes_of}
use Rattle.character_codes.specs.Laws as laws
use Rattle.character_codes.specs.Laws.{IsOrderOver}
use Rattle.character_codes.specs.OrderLaws.{order_is_over}
use Rattle.font_plan.specs.Known.{IsIndex}
use Rattle.font_plan.specs.Order.{is_notdef, is_other, order_in}

exported_other : (entry : Entry) → is_other entry ≡ true → entry.1.exported ≡ true
exported_other entry e = by entry.1.exported (is_notdef entry) e
  where
    by : (a b : Bool) → (a && not b) ≡ true → a ≡ true
    by true b f = refl
    by false b f = absurd cc

later_other : (entry : Entry) → is_other entry ≡ true → is_notdef entry ≡ false
later_other entry e = by entry.1.exported (is_notdef entry) e
  where
    by : (a b : Bool) → (a && not b) ≡ true → b ≡ false
    by true false f = refl
    by true true f = absurd cc
    by false b f = absurd cc

-- the order of an index is over it
order_over : (index : List Entry) → IsIndex index → IsOrderOver index (order_in index).numbers
order_over index known = order_is_over is_notdef is_other index
    (All-weaker (λ (entry : Entry). entry.0 ≡ codes ".notdef" → entry.1.exported ≡ true)
    (λ (entry : Entry). is_notdef entry ≡ true → entry.1.exported ≡ true)
    (λ entry f e. f ((bytes_decides entry.0 (codes ".notdef")).0 e)) index known.notdef)
    exported_other later_other

abbrev pub CodesRise : Type 0
CodesRise = (index : List Entry) (numbers : List (Option ℕ)) → AreCoded index
    → IsOrderOver index numbers → laws.AreCodes (length numbers) (codes_of index numbers)

pub codes_known : CodesRise → (index : List Entry) (order : Glyphs) → IsIndex index
    → order ≡ order_in index → AreCodes (codes_of index order.numbers)
codes_known rise index order known is =
    let over = subst (λ (o : Glyphs). IsOrderOver index o.numbers) (sym is)
    (order_over index known) in
    let are = rise index order.numbers known.coded over in
    record { rise = are.rise; within = are.within }

pub codes_given : (r : Result (Vec (ℕ × ℕ) Global) NoMemory) (wanted : List (ℕ × ℕ))
    → IfOk r (λ found. found.items ≡ wanted) → AreCodes wanted
    → IfOk r (λ found. AreCodes found.items)
codes_given (Ok found) wanted is are = subst AreCodes (sym is) are
codes_given (Err error) wanted is are = tt
