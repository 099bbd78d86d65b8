-- What a job of a source's graph reads where it is run: the values that the graph tells. And the
-- laws of its plan. For the plans of crates above. fontc's own.
use Rattle.std.proofs.Common.{◌≡◌, List, map, Some, ap, ◌∙◌, subst, unwrap_or, is_some, true}
use Rattle.std.proofs.Common.{Option, None, refl}
use Rattle.access_context.specs.Plain.{Plain, Blocked}
use Rattle.job_graph.specs.Rounds.{value_in, is_settled, item_in, limit, IsDue}
use Rattle.job_graph.specs.Laws.{IsLawful}
use Rattle.job_graph.specs.Solutions.{IsSolution, IsSolved}
use Rattle.job_graph.specs.Solved.{solution_lawful, solution_solved}
use Rattle.job_graph.specs.Members.{list_all-In, map_agree}
use Rattle.font_graph.specs.Parts.{Parts}
use Rattle.font_graph.specs.Graph.{Item, value_of, spec_of, There, plan}
use Rattle.font_graph.specs.Outcomes.{items, with_value}
use Rattle.font_graph.specs.Solved.{solution}
use Rattle.font_graph.specs.Same.{same_id, identity}
use Rattle.font_graph.specs.declared.ids.JobId.{JobId}

module _ (p : Parts) where
  pub solved_by : IsSolution same_id (plan p same_id) (spec_of p same_id) (There p same_id)
      (value_of p same_id)
  solved_by = solution p same_id identity

  pub lawful : IsLawful same_id (plan p same_id)
  lawful = solution_lawful same_id (plan p same_id) (spec_of p same_id) (There p same_id)
      (value_of p same_id) solved_by

  pub solved : IsSolved same_id (plan p same_id) (spec_of p same_id) (There p same_id)
      (value_of p same_id)
  solved = solution_solved same_id (plan p same_id) (spec_of p same_id) (There p same_id)
      (value_of p same_id) solved_by

  -- what is settled in the limit has its value
  some_there : (o : Option (Plain (Item p))) → is_some o ≡ true
      → (x : Plain (Item p)) × (o ≡ Some x)
  some_there (Some x) e = (x, refl)
  some_there None e = absurd cc

  item_is : (id : JobId) → is_settled same_id (limit same_id (plan p same_id)) id ≡ true
      → item_in same_id (limit same_id (plan p same_id)) id ≡ with_value p same_id id
  item_is id e =
      let there = some_there (value_in same_id (limit same_id (plan p same_id)) id) e in
      ap (λ o. (id, unwrap_or o Blocked)) there.1
      ∙ ap (λ v. (id, v)) (solved.values id there.0 there.1).1

  -- a job that is due is there, and reads the values of what it reads
  pub due : (id : JobId) (reads : List (JobId × Plain (Item p)))
      → IsDue same_id (plan p same_id) id reads
      → There p same_id id × (reads ≡ items p same_id id)
  due id reads d =
      let known = solved.jobs d.job d.added in
      let is_spec : d.job ≡ spec_of p same_id id = known.1 ∙ ap (spec_of p same_id) d.named in (
        subst (There p same_id) d.named known.0,
        d.reads_are ∙ map_agree (item_in same_id (limit same_id (plan p same_id)))
            (with_value p same_id) d.job.access.reads (λ read i. item_is read
            (list_all-In (is_settled same_id (limit same_id (plan p same_id)))
            d.job.access.reads read d.settled i))
            ∙ ap (λ s. map (with_value p same_id) s.access.reads) is_spec,
      )
