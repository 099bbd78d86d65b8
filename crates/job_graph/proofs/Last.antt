-- What the limit is, by what each of its values and jobs comes of.
use Rattle.std.proofs.Common.{◌≡◌, Bool, true, false, ◌⊎◌, inl, inr, Some, refl, sym, ap, ◌∙◌}
use Rattle.std.proofs.Common.{subst, cond}
use Rattle.std.specs.Prelude.{Contains}
use Rattle.std.specs.List.{list_all}
use Rattle.std.proofs.lemmas.Bool.{and_from, false≢true, cases_Bool, not_from_false}
use Rattle.access_context.specs.declared.access.Spec.{Spec}
use Rattle.access_context.specs.Plain.{Plain, PlainOutcome, is_done}
use Rattle.access_context.specs.Read.{all_done}
use Rattle.job_graph.specs.Meaning.{Meaning}
use Rattle.job_graph.specs.Rounds.{State, value_in, is_settled, reads_in, awaits_nothing, blocked}
use Rattle.job_graph.specs.Rounds.{outcome_in, limit}
use Rattle.job_graph.specs.Laws.{IsLawful}
use Rattle.job_graph.specs.Promises.{IsValueOf, IsAdded, IsLimit}
use Rattle.job_graph.specs.Members.{In, In-append_cases, In-from_Contains, Contains-from_In}
use Rattle.job_graph.specs.Growth.{some_of, read_of-push_last, Within, within_through}
use Rattle.job_graph.specs.Growth.{settled_within, all_settled_within, outcome_within, ready_reads}
use Rattle.job_graph.specs.Growth.{settle, within_settle, Grown, begun, grown}
use Rattle.job_graph.specs.Confluence.{nil_append, Comes, comes}
use Rattle.job_graph.specs.Limit.{limit_grown, limit_orderly, limit_over, none_ready}

module _ {Id V : Type 0} (same : Id → Id → Bool) (plan : Meaning Id V) (lawful : IsLawful same plan)
  where
    -- a job that is settled added this one
    pub record Added (a : State Id V) (job : Spec Id) : Type 0 where
      pub maker : Spec Id
      pub there : In maker a.jobs
      pub settled : is_settled same a maker.id ≡ true
      pub reads : list_all (is_settled same a) maker.access.reads ≡ true
      pub adds : In job (outcome_in same plan a maker).added

    added_within : (a b : State Id V) → Within same plan a b → (job : Spec Id) → Added a job
        → Added b job
    added_within a b w job d = record {
      maker = d.maker;
      there = w.jobs d.maker d.there;
      settled = settled_within same plan a b w d.maker.id d.settled;
      reads = all_settled_within same plan a b w d.maker.access.reads d.reads;
      adds = subst (λ (o : PlainOutcome V Id). In job o.added)
          (outcome_within same plan a b w d.maker d.reads) d.adds;
    }

    pub origin : (a : State Id V) → Grown same plan a → (job : Spec Id) → In job a.jobs
        → In job plan.opening ⊎ Added a job
    origin _ begun job i = inl i
    origin _ (grown {a} {by} maker ga gb w here ready) job i =
        let after = settle same plan by a maker in
        let up = within_settle same plan by a maker in
        let from : Within same plan by after = within_through same plan by a after w up in
        elim (In-append_cases a.jobs _ job i) [
          | inl old ↦ elim (origin a ga job old) [
            | inl first ↦ inl first
            | inr d ↦ inr (added_within a after up job d)
          ]
          | inr new ↦ inr (record {
            maker = maker;
            there = from.jobs maker here;
            settled = read_of-push_last same a.values maker.id maker.id
                (outcome_in same plan by maker).value ((lawful.identity maker.id maker.id).1 refl);
            reads = all_settled_within same plan by after from maker.access.reads
                (ready_reads same plan by maker ready);
            adds = subst (λ (o : PlainOutcome V Id). In job o.added)
                (outcome_within same plan by after from maker
                (ready_reads same plan by maker ready))
                (subst (λ ts. In job ts) (nil_append _) new);
          })
        ]

    -- what adds a job has a value
    adds_done : (state : State Id V) (maker job : Spec Id)
        → In job (outcome_in same plan state maker).added
        → is_done (outcome_in same plan state maker).value ≡ true
    adds_done state maker job =
        let reads = reads_in same state maker.access.reads in
        elim (all_done reads) as (λ b. In job (cond b (plan.outcome maker.id reads) blocked).added
        → is_done (cond b (plan.outcome maker.id reads) blocked).value ≡ true) [
          | true ↦ λ i. elim (cases_Bool (is_done (plan.outcome maker.id reads).value)) [
            | inl done ↦ done
            | inr not_done ↦ absurd (subst (λ ts. In job ts)
                (lawful.quiet maker.id reads not_done) i)
          ]
          | false ↦ λ i. absurd i
        ]

    value_of : (id : Id) (x : Plain V) → value_in same (limit same plan) id ≡ Some x
        → IsValueOf same plan id x
    value_of id x e =
        let last = limit same plan in
        let it : Comes same plan last id x = comes same plan lawful.identity last
        (limit_grown same plan lawful) id x e in
        record {
          job = it.job;
          there = Contains-from_In last.jobs it.job it.there;
          named
              = it.named;
          settled = it.reads;
          is = it.is;
        }

    -- the value of a job that is settled
    maker_value : (maker : Spec Id) → In maker (limit same plan).jobs
        → is_settled same (limit same plan) maker.id ≡ true
        → value_in same (limit same plan) maker.id
        ≡ Some (outcome_in same plan (limit same plan) maker).value
    maker_value maker i s =
        let last = limit same plan in
        let v = some_of (value_in same last maker.id) s in
        let it : Comes same plan last maker.id v.0
        = comes same plan lawful.identity last (limit_grown same plan lawful) maker.id v.0 v.1 in
        let is_maker : it.job ≡ maker = (limit_orderly same plan lawful).one it.job maker it.there i
        it.named in
        v.1 ∙ ap Some (it.is ∙ ap (λ j. (outcome_in same plan last j).value) is_maker)

    job_of : (job : Spec Id) → Contains (limit same plan).jobs job
        → Contains plan.opening job ⊎ IsAdded same plan job
    job_of job c =
        let last = limit same plan in
        elim (origin last (limit_grown same plan lawful) job (In-from_Contains last.jobs job c)) [
          | inl first ↦ inl (Contains-from_In plan.opening job first)
          | inr d ↦ inr (record {
            maker = d.maker;
            there = Contains-from_In last.jobs d.maker d.there;
            value = maker_value d.maker d.there d.settled;
            done = adds_done last d.maker job d.adds;
            adds = Contains-from_In (outcome_in same plan last d.maker).added job d.adds;
          })
        ]

    settles : (job : Spec Id) → Contains (limit same plan).jobs job
        → list_all (is_settled same (limit same plan)) job.access.reads ≡ true
        → awaits_nothing same plan (limit same plan) job.access.awaits ≡ true
        → is_settled same (limit same plan) job.id ≡ true
    settles job c reads awaits =
        let last = limit same plan in
        elim (cases_Bool (is_settled same last job.id)) [
          | inl s ↦ s
          | inr n ↦ absurd (false≢true (sym (none_ready same plan last (limit_over same plan lawful)
              job (In-from_Contains last.jobs job c))
              ∙ and_from _ _ (not_from_false _ n) (and_from _ _ reads awaits)))
        ]

    pub limit_is : IsLimit same plan
    limit_is = record { values = value_of; jobs = job_of; settles = settles }
