-- Peaks are compared axis by axis.
use Rattle.std.proofs.Common.{◌≡◌, ◌≢◌, false, List, [], ◌∷◌, length, refl, ap, ◌∙◌, arith, ◌&&◌}
use Rattle.std.proofs.Common.{Bool, true}
use Rattle.std.specs.Ordering.{int_eq}
use Rattle.gvar_writer.specs.TupleHeaders.{Side, same_peaks}

and_false : (b : Bool) → (b && false) ≡ false
and_false true = refl
and_false false = refl

pub other_length : (one other : List Side) → length one ≢ length other
    → same_peaks one other ≡ false
other_length [] [] different = absurd (different refl)
other_length [] (b ∷ others) different = refl
other_length (a ∷ ones) [] different = refl
other_length (a ∷ ones) (b ∷ others) different =
    ap (λ same. int_eq a.1.0 b.1.0 && same)
    (other_length ones others (λ e. different (omega (arith, e))))
    ∙ and_false (int_eq a.1.0 b.1.0)
