-- What conjunctions and choices come to.
use Rattle.std.proofs.Common.{◌≡◌, Bool, true, false, cond, ◌&&◌, not, refl, sym, ◌∙◌, true≢false}

pub and_true : (a b : Bool) → (a && b) ≡ true → (a ≡ true) × (b ≡ true)
and_true true b e = (refl, e)
and_true false b e = absurd (true≢false (sym e))

-- one of the two fails
pub one_fails : {G : Type 0} (a b : Bool) → (a && b) ≡ false → (a ≡ false → G) → (b ≡ false → G)
    → G
one_fails false b e first second = first refl
one_fails true b e first second = second e

pub not_both : {G : Type 0} (b : Bool) → b ≡ true → b ≡ false → G
not_both b holds fails = absurd (true≢false (sym holds ∙ fails))

pub of_not : (b : Bool) → not b ≡ true → b ≡ false
of_not true e = absurd (true≢false (sym e))
of_not false e = refl

pub second_fails : (b c : Bool) → c ≡ false → (b && c) ≡ false
second_fails true c fails = fails
second_fails false c fails = refl

-- whatever a choice takes, it is this
pub either_way : {X : Type 0} (b : Bool) (x y z : X) → (b ≡ true → x ≡ z) → (b ≡ false → y ≡ z)
    → cond b x y ≡ z
either_way true x y z first second = first refl
either_way false x y z first second = second refl
