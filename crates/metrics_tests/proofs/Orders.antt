-- An order that is pushed to has at most one glyph more.
use Rattle.std.proofs.Common.{◌≡◌, ℕ, ◌+◌, ◌≤◌, Bool, true, false, cond, List, [], ◌∷◌, ◌++◌, length}
use Rattle.std.proofs.Common.{Option, ap, length-append, arith}
use Rattle.font_ir.specs.Glyphs.{Glyphs}

pub at_most_one_more : (added : Bool) (old new : Glyphs) (number : Option ℕ) (name : List ℕ)
    → new ≡ cond added (record {
      numbers = old.numbers ++ number ∷ [];
      names = old.names ++ name ∷ [];
    }) old → length new.names ≤ length old.names + 1
at_most_one_more true old new number name e =
    let long : length new.names ≡ length (old.names ++ name ∷ [])
    = ap (λ (order : Glyphs). length order.names) e in
    omega (arith, long, length-append old.names (name ∷ []))
at_most_one_more false old new number name e =
    let long : length new.names ≡ length old.names
    = ap (λ (order : Glyphs). length order.names) e in omega (arith, long)
