-- Worked rows: what the definitions say of a small plan.
use Rattle.std.proofs.Common.{◌≡◌, ℕ, zero, suc, true, false, List, [], ◌∷◌, map, Some, None, refl}
use Rattle.std.proofs.Common.{nat_eq}
use Rattle.access_context.specs.declared.access.Spec.{Spec}
use Rattle.access_context.specs.Plain.{Done}
use Rattle.job_graph.specs.declared.event.Event.{Event}
use Rattle.job_graph.specs.declared.event.Event.TheVariants.{Claim, Finish, Halt}
use Rattle.job_graph.specs.declared.event.End.TheVariants.{Ended}
use Rattle.job_graph.specs.Meaning.{Meaning}
use Rattle.job_graph.specs.Rounds.{is_settled, is_unsettled_job, limit}
use Rattle.job_graph.specs.Histories.{is_run, end_of}

-- job 0 adds 1 and 2, job 1 adds 4, which awaits stratum 0 and reads 1. Job 2 reads 3 too, which
-- nobody adds.
abbrev adds : ℕ → List (Spec ℕ)
adds zero = record { id = 1; access = record { reads = []; awaits = None } }
    ∷ record { id = 2; access = record { reads = 1 ∷ 3 ∷ []; awaits = None } } ∷ []
adds (suc zero) = record { id = 4; access = record { reads = 1 ∷ []; awaits = Some 0 } } ∷ []
adds (suc (suc n)) = []

abbrev stratum : ℕ → ℕ
stratum zero = 0
stratum (suc zero) = 0
stratum (suc (suc zero)) = 1
stratum (suc (suc (suc zero))) = 1
stratum (suc (suc (suc (suc n)))) = 2

abbrev growing : Meaning ℕ ℕ
growing = record {
  opening = record { id = 0; access = record { reads = []; awaits = None } } ∷ [];
  stratum = stratum;
  outcome = λ id reads. record { value = Done id; added = adds id };
  universe = 0 ∷ 1 ∷ 2 ∷ 3 ∷ 4 ∷ [];
}

-- 0, 1 and 4 get values
settled : map (is_settled nat_eq (limit nat_eq growing)) (0 ∷ 1 ∷ 2 ∷ 3 ∷ 4 ∷ [])
    ≡ true ∷ true ∷ false ∷ false ∷ true ∷ []
unfolding limit
settled = refl

-- 2 is stuck, and no other
stuck : map (is_unsettled_job nat_eq (limit nat_eq growing)) (0 ∷ 1 ∷ 2 ∷ 3 ∷ 4 ∷ [])
    ≡ false ∷ false ∷ true ∷ false ∷ false ∷ []
unfolding limit
stuck = refl

-- six events of two workers, after which the run has ended
run_of_two : List (Event ℕ)
run_of_two = Claim 1 0 ∷ Finish 1 0 ∷ Claim 0 1 ∷ Finish 0 1 ∷ Claim 1 4 ∷ Finish 1 4 ∷ []

legal : is_run nat_eq growing 2 run_of_two ≡ true
unfolding run_of_two
legal = refl

ended : end_of nat_eq growing 2 run_of_two ≡ Ended
unfolding run_of_two
ended = refl

-- a job isn't claimed twice, nor by a worker that has one out, nor after a halt
claimed_twice : is_run nat_eq growing 2 (Claim 0 0 ∷ Claim 1 0 ∷ []) ≡ false
claimed_twice = refl

halted : is_run nat_eq growing 2 (Halt 1 ∷ Claim 0 0 ∷ []) ≡ false
halted = refl
