-- Turning a list by one item to the right puts the last item first.
use Rattle.std.proofs.Common.{◌≡◌, ℕ, zero, suc, ◌-◌, ◌<◌, List, [], ◌∷◌, ◌++◌, length, take}
use Rattle.std.proofs.Common.{drop, refl, sym, ap, ◌∙◌, arith}
use Rattle.std.proofs.lemmas.List.{length-append, length-drop, length-take}
use Rattle.std.proofs.Math.Seq.{take-append_seam}
use Rattle.font_ir.specs.declared.glyph.DrawnPoint.{DrawnPoint}
use Rattle.layer_shapes.specs.LayerReading.{behind_first, last_first}

one_before : (x : DrawnPoint) (last front : List DrawnPoint) → length last ≡ 1
    → last ++ x ∷ front ≡ behind_first x (last ++ front)
one_before x [] front e = absurd (omega (arith, e))
one_before x (y ∷ []) front e = refl
one_before x (y ∷ z ∷ zs) front e = absurd (omega (arith, e))

turned : (xs : List DrawnPoint) (n : ℕ) → suc n ≡ length xs → drop n xs ++ take n xs ≡ last_first xs
turned [] n e = absurd (omega (arith, e))
turned (x ∷ []) zero e = refl
turned (x ∷ []) (suc n) e = absurd (omega (arith, e))
turned (x ∷ y ∷ ys) zero e = absurd (omega (arith, e))
turned (x ∷ y ∷ ys) (suc n) e =
    one_before x (drop n (y ∷ ys)) (take n (y ∷ ys)) (omega (arith, e, length-drop n (y ∷ ys)))
    ∙ ap (behind_first x) (turned (y ∷ ys) n (omega (arith, e)))

pub rotated : (xs : List DrawnPoint) → 0 < length xs
    → drop (length xs - 1) xs ++ take (length xs - 1) xs ≡ last_first xs
rotated xs some = turned xs (length xs - 1) (omega (arith, some))

pub kept_empty : (xs : List DrawnPoint) → length xs ≡ 0 → xs ≡ last_first xs
kept_empty [] e = refl
kept_empty (x ∷ xs) e = absurd (omega (arith, e))

-- an item that goes last is put first
pub last_first-end : (xs : List DrawnPoint) (x : DrawnPoint) → last_first (xs ++ x ∷ []) ≡ x ∷ xs
last_first-end [] x = refl
last_first-end (y ∷ xs) x = ap (behind_first y) (last_first-end xs x)

-- the same of a vector's items, after they were turned
pub turned_back : (items turned : List DrawnPoint) (len : ℕ) → len ≡ length items → 0 < length items
    → turned ≡ drop (length items - 1) items ++ take (length items - 1) items
    → take len (turned ++ drop (length turned) items) ≡ last_first items
turned_back items turned len e some is =
    let same : length turned ≡ len =
    omega (
      arith,
      e,
      some,
      ap length is,
      length-append (drop (length items - 1) items) (take (length items - 1) items),
      length-drop (length items - 1) items,
      length-take (length items - 1) items,
    ) in
    ap (λ (k : ℕ). take k (turned ++ drop (length turned) items)) (sym same)
    ∙ take-append_seam turned (drop (length turned) items)
    ∙ is
    ∙ rotated items some
