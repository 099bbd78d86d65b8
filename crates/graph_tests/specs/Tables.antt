-- Plans that a finite table gives, as the tests use them: the row of a job has its stratum, what it
-- waits for, the ids of
-- the jobs that it adds, and whether it is refused. Else what comes of a job is the sum of its id
-- and of the values that
-- it reads. fontc's own.
use Rattle.std.specs.Prelude.{ℕ, ◌+◌, ◌%◌, ◌^◌, nat_eq, nat_le, nat_lt, fold, unwrap_or, Bool, true}
use Rattle.std.specs.Prelude.{false, ◌&&◌, List, [], ◌++◌, map, Option, Some, None, slice_get}
use Rattle.std.specs.Prelude.{if◌then◌else◌}
use Rattle.std.specs.List.{list_all, flat_map}
use Rattle.refusal_codes.specs.declared.refusal.Refusal.{Refusal}
use Rattle.refusal_codes.specs.declared.rule.Rule.TheVariants.{OpenContour}
use Rattle.access_context.specs.declared.access.Access.{Access}
use Rattle.access_context.specs.declared.access.Spec.{Spec}
use Rattle.access_context.specs.Plain.{Plain, Done, Refused, PlainOutcome}
use Rattle.access_context.specs.Read.{value_read}
use Rattle.job_graph.specs.Meaning.{Meaning}

abbrev pub Row : Type 0
Row = ℕ × Access ℕ × List ℕ × Bool

-- a sum with one more value that is read, in 32 bits
abbrev pub add_read : List (ℕ × Plain ℕ) → ℕ → ℕ → ℕ
add_read reads total id = (total + unwrap_or (value_read nat_eq reads id) 0) % 2 ^ 32

-- the parts of a row. Where there is none, the job is of the lowest stratum, waits for nothing,
-- adds none and has a value.
abbrev pub row_stratum : Option Row → ℕ
row_stratum None = 0
row_stratum (Some row) = row.0

abbrev pub row_access : Option Row → Access ℕ
row_access None = record { reads = []; awaits = None }
row_access (Some row) = row.1

abbrev pub row_added : Option Row → List ℕ
row_added None = []
row_added (Some row) = row.2

abbrev pub row_refuses : Option Row → Bool
row_refuses None = false
row_refuses (Some row) = row.3

abbrev pub is_above : ℕ → Option ℕ → Bool
is_above stratum None = true
is_above stratum (Some awaited) = nat_lt awaited stratum

module _ (rows : List Row) where
  abbrev pub stratum_at : ℕ → ℕ
  stratum_at id = row_stratum (slice_get rows id)

  abbrev pub job_at : ℕ → Spec ℕ
  job_at id = record { id = id; access = row_access (slice_get rows id) }

  -- a job reads no higher stratum, awaits a lower one and adds to no lower one
  abbrev pub is_sound_row : Row → Bool
  is_sound_row row = list_all (λ read. nat_le (stratum_at read) row.0) row.1.reads
      && (is_above row.0 row.1.awaits && list_all (λ added. nat_le row.0 (stratum_at added)) row.2)

  abbrev pub is_sound : Bool
  is_sound = list_all is_sound_row rows

  -- the refusal of a job
  abbrev pub refusal_at : ℕ → Refusal
  refusal_at id = record {
    stratum = stratum_at id;
    kind = 0;
    name = [];
    rule = OpenContour;
    place
        = id;
  }

  -- a refused job adds nothing
  abbrev pub outcome_at : ℕ → List (ℕ × Plain ℕ) → PlainOutcome ℕ ℕ
  outcome_at id reads =
      if row_refuses (slice_get rows id)
      then record { value = Refused (refusal_at id); added = [] }
      else record {
        value = Done (fold (add_read reads) id (row_access (slice_get rows id)).reads);
        added = map job_at (row_added (slice_get rows id));
      }

-- the plan of a table that begins with the jobs of these ids
abbrev pub table : List ℕ → List Row → Meaning ℕ ℕ
table opening rows = record {
  opening = map (job_at rows) opening;
  stratum = stratum_at rows;
  outcome = outcome_at rows;
  universe = opening ++ flat_map (λ row. row.2) rows;
}
