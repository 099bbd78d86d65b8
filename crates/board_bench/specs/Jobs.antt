-- The ids of the jobs that are measured. fontc's own.
use Rattle.std.specs.Prelude.{◌≡◌, ◌↔◌, IsTrue, ℕ, Bool, true, false, nat_eq}
use Rattle.std.proofs.Common.{refl, ap, subst}
use Rattle.std.proofs.lemmas.Bool.{eqb-true, eq-eqb, false≢true}
use Rattle.std.specs.Cmp.{IsEquivalence, decided}
use Rattle.board_bench.specs.declared.job.Job.{Job}
use Rattle.board_bench.specs.declared.job.Job.TheVariants as job

-- the number of the link, leaf or glyph
abbrev pub number : Job → ℕ
number (job.Link n) = n
number job.Spread = 0
number (job.Leaf n) = n
number job.Fan = 0
number job.Index = 0
number (job.Raw n) = n
number (job.Flat n) = n
number (job.Simple n) = n
number (job.Variations n) = n
number (job.Advance n) = n
number (job.Metrics n) = n

abbrev pub same_job : Job → Job → Bool
same_job (job.Link a) (job.Link b) = nat_eq a b
same_job job.Spread job.Spread = true
same_job (job.Leaf a) (job.Leaf b) = nat_eq a b
same_job job.Fan job.Fan = true
same_job job.Index job.Index = true
same_job (job.Raw a) (job.Raw b) = nat_eq a b
same_job (job.Flat a) (job.Flat b) = nat_eq a b
same_job (job.Simple a) (job.Simple b) = nat_eq a b
same_job (job.Variations a) (job.Variations b) = nat_eq a b
same_job (job.Advance a) (job.Advance b) = nat_eq a b
same_job (job.Metrics a) (job.Metrics b) = nat_eq a b
same_job _ _ = false

is_same : (x y : Job) → same_job x y ≡ true → x ≡ y
is_same (job.Link a) (job.Link b) e = ap job.Link (eqb-true a b e)
is_same job.Spread job.Spread e = refl
is_same (job.Leaf a) (job.Leaf b) e = ap job.Leaf (eqb-true a b e)
is_same job.Fan job.Fan e = refl
is_same job.Index job.Index e = refl
is_same (job.Raw a) (job.Raw b) e = ap job.Raw (eqb-true a b e)
is_same (job.Flat a) (job.Flat b) e = ap job.Flat (eqb-true a b e)
is_same (job.Simple a) (job.Simple b) e = ap job.Simple (eqb-true a b e)
is_same (job.Variations a) (job.Variations b) e = ap job.Variations (eqb-true a b e)
is_same (job.Advance a) (job.Advance b) e = ap job.Advance (eqb-true a b e)
is_same (job.Metrics a) (job.Metrics b) e = ap job.Metrics (eqb-true a b e)
is_same _ _ e = absurd (false≢true e)

is_itself : (x : Job) → same_job x x ≡ true
is_itself (job.Link a) = eq-eqb a a refl
is_itself job.Spread = refl
is_itself (job.Leaf a) = eq-eqb a a refl
is_itself job.Fan = refl
is_itself job.Index = refl
is_itself (job.Raw a) = eq-eqb a a refl
is_itself (job.Flat a) = eq-eqb a a refl
is_itself (job.Simple a) = eq-eqb a a refl
is_itself (job.Variations a) = eq-eqb a a refl
is_itself (job.Advance a) = eq-eqb a a refl
is_itself (job.Metrics a) = eq-eqb a a refl

pub identity : (x y : Job) → IsTrue (same_job x y) ↔ (x ≡ y)
identity x y = (λ e. is_same x y e, λ e. subst (λ z. same_job x z ≡ true) e (is_itself x))

pub jobs_equiv : IsEquivalence same_job
jobs_equiv = decided same_job identity
