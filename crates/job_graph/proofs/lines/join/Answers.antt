use Rattle.std.proofs.Common.{ℕ, List, [], ◌∷◌, Some, inl, refl, sym, ap, ◌∙◌, subst}
use Rattle.std.proofs.lemmas.Option.{slice_get-get_or}
use Rattle.job_graph.specs.Members.{In, In-append_left, In-append_right}
use Rattle.job_graph.proofs.Run.{get_set_same}
use Rattle.job_graph.proofs.Waiting.{joins_set}
use Rattle.job_graph.proofs.lines.join.Goals as goal

pub returns-in_err-push-clause-lines : goal.returns-in_err-push-clause-lines
returns-in_err-push-clause-lines c =
    joins_set c.args.lines.now.items c.args.line c.index_mut.result.now c.push.new.self
    (slice_get-get_or _ _ _ c.requires ∙ ap Some (sym c.index_mut.ensures.value))
    (λ n i. subst (λ (xs : List ℕ). In n xs) (sym c.in_err-push.ensures.items) i)

pub returns-clause-lines : goal.returns-clause-lines
returns-clause-lines c =
    joins_set c.args.lines.now.items c.args.line c.index_mut.result.now c.push.new.self
    (slice_get-get_or _ _ _ c.requires ∙ ap Some (sym c.index_mut.ensures.value))
    (λ n i. subst (λ (xs : List ℕ). In n xs) (sym c.in_ok-push.ensures.items)
    (In-append_left c.index_mut.result.now.items (c.args.job ∷ []) n i))

pub returns-clause-joined : goal.returns-clause-joined
returns-clause-joined c = record {
  line = c.push.new.self;
  there = get_set_same c.args.lines.now.items c.args.line c.push.new.self c.index_mut.result.now
      (slice_get-get_or _ _ _ c.requires ∙ ap Some (sym c.index_mut.ensures.value));
  stands = subst (λ (xs : List ℕ). In c.args.job xs) (sym c.in_ok-push.ensures.items)
      (In-append_right c.index_mut.result.now.items (c.args.job ∷ []) c.args.job (inl refl));
}
