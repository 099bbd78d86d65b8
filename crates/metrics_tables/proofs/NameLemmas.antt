-- The names of an order, behind their lists of bytes.
use Rattle.std.proofs.Common.{◌≡◌, ℕ, ◌<◌, ◌≤◌, List, length, map, get_or, subst, sym, ap, ◌∙◌}
use Rattle.std.proofs.Common.{arith}
use Rattle.std.proofs.Math.ListN.{get_or-map}
use Rattle.std.proofs.lemmas.List.{length-map}
use Rattle.std.specs.List.{All}
use Rattle.std.specs.Prelude.{Vec}
use Rattle.std.specs.declared.alloc.Global.{Global}
use Rattle.font_ir.specs.Glyphs.{Glyphs, IsGlyphOrder}

abbrev bytes_in : Vec ℕ Global → List ℕ
bytes_in name = name.items

pub short_names : (order : Glyphs) (names : List (Vec ℕ Global)) → IsGlyphOrder order
    → map (λ name. name.items) names ≡ order.names → All (λ name. length name.items ≤ 255) names
short_names order names is same = λ k d within.
    let there : k < length order.names
    = omega (arith, within, length-map names bytes_in, ap length same) in
    let name : get_or order.names k (bytes_in d) ≡ (get_or names k d).items
    = ap (λ (all : List (List ℕ)). get_or all k (bytes_in d)) (sym same)
    ∙ get_or-map bytes_in names k d in
    subst (λ (bytes : List ℕ). length bytes ≤ 255) name (is.short k (bytes_in d) there)
