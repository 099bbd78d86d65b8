-- What comes of a job by what its part answers: its item and the jobs that it adds, or the refusal.
-- fontc's own.
use Rattle.std.specs.Prelude.{◌≡◌, List, [], Result, Ok, Err, IfOk}
use Rattle.refusal_codes.specs.declared.refusal.Refusal.{Refusal}
use Rattle.refusal_codes.specs.declared.errors.NoMemory.{NoMemory}
use Rattle.access_context.specs.declared.access.Spec.{Spec}
use Rattle.access_context.specs.declared.settled.Outcome.{Outcome}
use Rattle.access_context.specs.Plain.{Done, Refused, PlainOutcome, plain_outcome}
use Rattle.font_graph.specs.Graph.{Item}
use Rattle.font_graph.specs.declared.ids.JobId.{JobId}
use Rattle.font_plan.specs.Jobs.{parts}

abbrev pub AnItem : Type 0
AnItem = Item (parts [])

abbrev pub made_by : {A : Type 0} → (A → AnItem) → (A → List (Spec JobId)) → Result A Refusal
    → PlainOutcome AnItem JobId
made_by item adds (Ok a) = record { value = Done (item a); added = adds a }
made_by item adds (Err refusal) = record { value = Refused refusal; added = [] }

abbrev pub none : {A : Type 0} → A → List (Spec JobId)
none a = []

-- what a call answers is what comes of a job, unless memory ran out
abbrev pub Comes : Result (Outcome AnItem JobId) NoMemory → PlainOutcome AnItem JobId → Type 0
Comes result outcome = IfOk result (λ o. plain_outcome o ≡ outcome)
