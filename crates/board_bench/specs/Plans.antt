-- Plans that grow from one job. The value of a job is how many items it reads. fontc's own.
use Rattle.std.specs.Prelude.{ℕ, zero, suc, ◌+◌, Bool, nat_lt, nat_le, List, [], ◌∷◌, ◌++◌, map}
use Rattle.std.specs.Prelude.{length, None, if◌then◌else◌}
use Rattle.std.specs.List.{filter, flat_map, range_with_len}
use Rattle.access_context.specs.declared.access.Spec.{Spec}
use Rattle.access_context.specs.Plain.{Done}
use Rattle.job_graph.specs.Meaning.{Meaning}
use Rattle.board_bench.specs.declared.job.Job.{Job}
use Rattle.board_bench.specs.declared.job.Job.TheVariants as job
use Rattle.board_bench.specs.Jobs.{number}

module _ (size : ℕ) where
  -- the jobs that a job reads: a fan reads the first leaves, 60,000 at most
  abbrev pub reads_of : Job → List Job
  reads_of (job.Link zero) = []
  reads_of (job.Link (suc n)) = job.Link n ∷ []
  reads_of job.Fan =
      map job.Leaf (range_with_len 0 (if nat_le size 60000 then size else 60000))
  reads_of (job.Flat g) = job.Raw g ∷ []
  reads_of (job.Simple g) = job.Flat g ∷ []
  reads_of (job.Variations g) = job.Flat g ∷ []
  reads_of (job.Advance g) = job.Raw g ∷ []
  reads_of (job.Metrics g) = job.Raw g ∷ job.Simple g ∷ job.Advance g ∷ []
  reads_of _ = []

  -- the jobs that a job adds, of those that are in the plan
  abbrev pub adds_of : Job → List Job
  adds_of (job.Link n) = if nat_lt n size then job.Link (n + 1) ∷ [] else []
  adds_of job.Spread = map job.Leaf (range_with_len 0 size) ++ job.Fan ∷ []
  adds_of job.Index = map job.Raw (range_with_len 0 size)
  adds_of (job.Raw g) = job.Metrics g ∷ job.Simple g ∷ job.Variations g ∷ job.Flat g
      ∷ job.Advance g ∷ []
  adds_of _ = []

  abbrev pub spec_of : Job → Spec Job
  spec_of id = record { id = id; access = record { reads = reads_of id; awaits = None } }

  -- a job is in the plan where its number is below the size
  abbrev pub is_in : Job → Bool
  is_in id = nat_lt (number id) size

  abbrev pub jobs_of : List Job → List (Spec Job)
  jobs_of ids = map spec_of (filter is_in ids)

-- every job with this number
abbrev pub all_with : ℕ → List Job
all_with n = job.Link n ∷ job.Spread ∷ job.Leaf n ∷ job.Fan ∷ job.Index ∷ job.Raw n ∷ job.Flat n
    ∷ job.Simple n ∷ job.Variations n ∷ job.Advance n ∷ job.Metrics n ∷ []

-- the plan that begins with one job
abbrev pub grown : Job → ℕ → Meaning Job ℕ
grown first size = record {
  opening = jobs_of size (first ∷ []);
  stratum = λ id. 0;
  outcome = λ id reads. record {
    value = Done (length reads);
    added = jobs_of size (adds_of size id);
  };
  universe = flat_map all_with (range_with_len 0 size);
}
