-- One turn of the filling of a room with coordinates.
use Rattle.std.proofs.Common.{◌≡◌, ℕ, suc, ◌+◌, ◌-◌, ◌<◌, ℤ, List, [], ◌∷◌, ◌++◌, length, take}
use Rattle.std.proofs.Common.{Result, Ok, Err, refl, sym, ap, ◌∙◌, arith, append_assoc, append-nil}
use Rattle.std.proofs.Math.ListN.{set}
use Rattle.std.proofs.lemmas.List.{take_more_set}
use Rattle.font_reader.specs.declared.faults.FontFault.{FontFault}
use Rattle.font_reader.specs.declared.fields.Table.{Table}
use Rattle.font_reader.specs.declared.outlines.Axis.{Axis}
use Rattle.font_reader.specs.declared.outlines.Stroke.{Stroke}
use Rattle.font_reader.specs.Outlines.{coordinates, next_point, put_first}

-- coordinates that stand before others
abbrev pub put_before : List ℤ → Result (List ℤ) FontFault → Result (List ℤ) FontFault
put_before xs (Ok ys) = Ok (xs ++ ys)
put_before xs (Err e) = Err e

one_more : (xs : List ℤ) (x : ℤ) (rest : Result (List ℤ) FontFault)
    → put_before (xs ++ x ∷ []) rest ≡ put_before xs (put_first x rest)
one_more xs x (Ok ys) = ap Ok (append_assoc xs (x ∷ []) ys)
one_more xs x (Err e) = refl

next : (bytes : List ℕ) (glyf : Table) (axis : Axis) (left : ℕ) (s t : Stroke) (xs : List ℤ)
    (all : Result (List ℤ) FontFault) → next_point bytes glyf axis s ≡ Ok t
    → put_before xs (coordinates bytes glyf axis (suc left) s) ≡ all
    → put_before (xs ++ t.value ∷ []) (coordinates bytes glyf axis left t) ≡ all
next bytes glyf axis left s t xs all e h =
    one_more xs t.value (coordinates bytes glyf axis left t) ∙ (rw (coordinates, e) at h)

stop : (bytes : List ℕ) (glyf : Table) (axis : Axis) (left : ℕ) (s : Stroke) (x : FontFault)
    (xs : List ℤ) (all : Result (List ℤ) FontFault) → next_point bytes glyf axis s ≡ Err x
    → put_before xs (coordinates bytes glyf axis (suc left) s) ≡ all → all ≡ Err x
stop bytes glyf axis left s x xs all e h = sym (rw (coordinates, e) at h)

pub fill_turn : (bytes : List ℕ) (glyf : Table) (axis : Axis) (i end : ℕ) (s t : Stroke)
    (v : ℤ) (out : List ℤ) (all : Result (List ℤ) FontFault) → i < end → i < length out
    → next_point bytes glyf axis s ≡ Ok t → v ≡ t.value
    → put_before (take i out) (coordinates bytes glyf axis (end - i) s) ≡ all
    → put_before (take (i + 1) (set out i v)) (coordinates bytes glyf axis (end - (i + 1)) t)
    ≡ all
fill_turn bytes glyf axis i end s t v out all lt within e f h =
    let more : end - i ≡ suc (end - (i + 1)) = omega arith in
    rw (f, take_more_set out i t.value within)
    (next bytes glyf axis (end - (i + 1)) s t (take i out) all e (rw more at h))

pub fill_hit : (bytes : List ℕ) (glyf : Table) (axis : Axis) (i end : ℕ) (s : Stroke)
    (x : FontFault) (out : List ℤ) (all : Result (List ℤ) FontFault) → i < end
    → next_point bytes glyf axis s ≡ Err x
    → put_before (take i out) (coordinates bytes glyf axis (end - i) s) ≡ all → all ≡ Err x
fill_hit bytes glyf axis i end s x out all lt e h =
    let more : end - i ≡ suc (end - (i + 1)) = omega arith in
    stop bytes glyf axis (end - (i + 1)) s x (take i out) all e (rw more at h)

pub fill_end : (bytes : List ℕ) (glyf : Table) (axis : Axis) (i end : ℕ) (s : Stroke)
    (out : List ℤ) (all : Result (List ℤ) FontFault) → i ≡ end
    → put_before (take i out) (coordinates bytes glyf axis (end - i) s) ≡ all
    → all ≡ Ok (take end out)
fill_end bytes glyf axis i end s out all e h =
    let none : end - i ≡ 0 = omega arith in
    sym (rw none at h) ∙ ap Ok (append-nil (take i out)) ∙ ap (λ (n : ℕ). Ok (take n out)) e

pub ruleset fill = (fill_turn, fill_hit, fill_end)
