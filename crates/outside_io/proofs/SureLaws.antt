-- What calls that never fail say of files that tell what they hold until one is written.
use Rattle.std.proofs.Common.{◌≡◌, ℕ, ◌-◌, ◌<◌, ◌≤◌, min, Bool, true, false, List, ◌++◌, length}
use Rattle.std.proofs.Common.{take, drop, Result, Ok, Err, IsOk, OnOk, OnErr, IfOk, refl, sym, ap}
use Rattle.std.proofs.Common.{subst, ◌∙◌, cond, arith, inl}
use Rattle.std.proofs.lemmas.Grind.{common_steps}
use Rattle.outside_io.specs.Files.{Holding, Untold, Bytes, Leaves, GivesBytes, EndsBy}
use Rattle.outside_io.specs.Sure.{Sure, sure_holding}

module _ {T E : Type 0} (P : Type 0) where
  pub never_err : (r : Result T E) (x : T) → r ≡ Ok x → OnErr r P
  never_err r x e = let Q : Result T E → Type 0 = λ r. OnErr r P in subst Q (sym e) tt

  pub never_err_if_ok : (r : Result T E) → IsOk r → OnErr r P
  never_err_if_ok (Ok x) h = tt
  never_err_if_ok (Err e) h = grind arith

  pub on_ok : (r : Result T E) → P → OnOk r P
  on_ok (Ok x) p = p
  on_ok (Err e) p = tt

pub if_ok_at : {E : Type 0} (P : ℕ → Type 0) (r : Result ℕ E) (n : ℕ) → r ≡ Ok n → P n → IfOk r P
if_ok_at {E} P r n e p = let Q : Result ℕ E → Type 0 = λ r. IfOk r P in subst Q (sym e) p

gives : (source into new : List ℕ) (place space n : ℕ) → n ≡ min space (length source - place)
    → new ≡ take n (drop place source) ++ drop n into
    → (n ≤ length source - place) × (take n new ≡ take n (drop place source))
gives source into new place space n e h = grind (arith, common_steps)

gives_bytes : (written : Bool) (source into new : List ℕ) (place space n : ℕ)
    → n ≡ min space (length source - place) → new ≡ take n (drop place source) ++ drop n into
    → GivesBytes (cond written Untold (Bytes source)) place n new
gives_bytes true source into new place space n e h = tt
gives_bytes false source into new place space n e h = gives source into new place space n e h

module _ {E : Type 0} (s : Sure) (place space : ℕ) (into new : List ℕ) where
  pub sure_gives : (r : Result ℕ E) → r ≡ Ok (min space (length s.source - place))
      → IfOk r (λ n. new ≡ take n (drop place s.source) ++ drop n into)
      → IfOk r (λ n. GivesBytes (sure_holding s) place n new)
  sure_gives (Ok n) e h = let same_count : n ≡ min space (length s.source - place) = cc
      in gives_bytes s.is_written s.source into new place space n same_count h
  sure_gives (Err x) e h = tt

ends : (written : Bool) (source : List ℕ) (place space : ℕ) → min space (length source - place) ≡ 0
    → 0 < space → EndsBy (cond written Untold (Bytes source)) place
ends true source place space e h = tt
ends false source place space e h = omega arith

-- two answers are equal only where their numbers are
same_numbers : {E : Type 0} (r : Result ℕ E) (m n : ℕ) → r ≡ Ok m → r ≡ Ok n → m ≡ n
same_numbers r m n a b = cc

pub sure_ends : {E : Type 0} (s : Sure) (place space : ℕ) (r : Result ℕ E)
    → r ≡ Ok (min space (length s.source - place)) → r ≡ Ok 0 → 0 < space
    → EndsBy (sure_holding s) place
sure_ends {E} s place space r e zero h =
    ends s.is_written s.source place space (same_numbers r _ 0 e zero) h

-- where a path was written, nothing is told
pub untold : (new : Sure) (expected : Holding) → new.is_written ≡ true
    → Leaves expected (sure_holding new)
untold new expected h = inl (ap (λ b. cond b Untold (Bytes new.source)) h)

pub if_ok_all : {E : Type 0} (P : ℕ → Type 0) (r : Result ℕ E) → ((n : ℕ) → P n) → IfOk r P
if_ok_all P (Ok n) h = h n
if_ok_all P (Err e) h = tt

pub on_err_all : {T E : Type 0} (P : Type 0) (r : Result T E) → P → OnErr r P
on_err_all P (Ok n) p = tt
on_err_all P (Err e) p = p
