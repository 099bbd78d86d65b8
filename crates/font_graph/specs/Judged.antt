-- The verdict on a source is its font exactly where the font is made, and else the least refusal by
-- which a job fails. fontc's own.
use Rattle.std.proofs.Common.{◌≡◌, inl, inr, [], Option, Some, None, Result, Ok, Err, refl, sym, ap}
use Rattle.std.proofs.Common.{◌∙◌, subst}
use Rattle.std.proofs.lemmas.Bool.{false≢true}
use Rattle.std.specs.Prelude.{◌↔◌, option_and_then}
use Rattle.refusal_codes.specs.declared.refusal.Refusal.{Refusal}
use Rattle.access_context.specs.Plain.{is_done, done_value}
use Rattle.job_graph.specs.Members.{In}
use Rattle.font_graph.specs.Parts.{Parts}
use Rattle.font_graph.specs.Fonts.{IsFontOf}
use Rattle.font_graph.specs.Graph.{as_font, font_value}
use Rattle.font_graph.specs.Made.{made_font}
use Rattle.font_graph.specs.Same.{same_id, identity}
use Rattle.font_graph.specs.Verdicts.{least, refusals, font_or, judge, verdict}
use Rattle.font_graph.specs.Fails.{Fails, IsLeast, IsLeastFailure}
use Rattle.font_graph.specs.Least.{least_is, least_none, nothing_in}
use Rattle.font_graph.specs.Failing.{cause, fails_refused, least_fails, failing_least}
use Rattle.font_graph.specs.Unrefused.{unrefused_made}
use Rattle.font_graph.specs.AllDone.{all_done}
use Rattle.font_graph.specs.Outcomes.{found_of_done}
use Rattle.font_graph.specs.declared.ids.JobId.{JobId}
use Rattle.font_graph.specs.declared.ids.JobId.TheVariants as job

module _ (p : Parts) where
  -- ---- no refusal, and a font

  pub none_fails : refusals p ≡ [] → (id : JobId) (r : Refusal) → Fails p id r → ⊥
  none_fails e id r f = subst (λ rs. In r rs) e (fails_refused p id r f)

  pub made_of_unrefused : refusals p ≡ [] → (font : p.File) × IsFontOf p font
  made_of_unrefused e = unrefused_made p (none_fails e)

  pub unrefused_of_made : (font : p.File) → IsFontOf p font → refusals p ≡ []
  unrefused_of_made font f = nothing_in (refusals p) (λ r i.
      elim (cause p r i) [
        | inl own ↦ false≢true (sym (ap is_done own.refused_so) ∙ all_done p font f own.id
            own.there)
        | inr m ↦ false≢true (sym m.1.not_found ∙ found_of_done p same_id m.0
            (all_done p font f (job.Flat m.0) m.1.there))
      ])

  -- ---- the verdict

  abbrev made : Option p.File
  made = option_and_then (as_font p) (done_value (font_value p same_id))

  verdict_by : (o : Option Refusal) → least (refusals p) ≡ o → verdict p ≡ judge p o made
  unfolding verdict
  verdict_by o e = ap (λ o. judge p o made) e

  pub made_accepted : (font : p.File) → IsFontOf p font → verdict p ≡ Ok font
  made_accepted font f = verdict_by None ((least_none (refusals p)).1 (unrefused_of_made font f))
      ∙ ap (λ v. font_or p (option_and_then (as_font p) (done_value v)))
      (made_font p same_id identity font f)

  -- a font that is made, and that the verdict gives
  record Accepted : Type 0 where
    font : p.File
    is_font : IsFontOf p font
    accepted : verdict p ≡ Ok font

  judged : least (refusals p) ≡ None → Accepted
  judged e =
      let m = made_of_unrefused ((least_none (refusals p)).0 e) in
      record { font = m.0; is_font = m.1; accepted = made_accepted m.0 m.1 }

  same_font : (a b : p.File) → ◌≡◌ {A = Result p.File Refusal} (Ok a) (Ok b) → a ≡ b
  same_font a b e = cc

  same_refusal : (a b : Refusal) → ◌≡◌ {A = Result p.File Refusal} (Err a) (Err b) → a ≡ b
  same_refusal a b e = cc

  ok≢err : (font : p.File) (r : Refusal) → ◌≡◌ {A = Result p.File Refusal} (Ok font) (Err r) → ⊥
  ok≢err font r e = cc

  pub accepted_made : (font : p.File) → verdict p ≡ Ok font → IsFontOf p font
  accepted_made font accepted = by (least (refusals p)) refl
    where
      by : (o : Option Refusal) → least (refusals p) ≡ o → IsFontOf p font
      by None e = let j = judged e in
          subst (IsFontOf p) (same_font j.font font (sym j.accepted ∙ accepted)) j.is_font
      by (Some r) e = absurd (ok≢err font r (sym accepted ∙ verdict_by (Some r) e))

  -- a source is accepted exactly where its font is made, and with this font
  pub verdict_accepts : (font : p.File) → (verdict p ≡ Ok font) ↔ IsFontOf p font
  verdict_accepts font = (accepted_made font, made_accepted font)

  refused_least : (r : Refusal) → verdict p ≡ Err r → IsLeast r (refusals p)
  refused_least r refused = by (least (refusals p)) refl
    where
      by : (o : Option Refusal) → least (refusals p) ≡ o → IsLeast r (refusals p)
      by None e = let j = judged e in absurd (ok≢err j.font r (sym j.accepted ∙ refused))
      by (Some s) e = (least_is (refusals p) r).0 (e ∙ ap Some
          (same_refusal s r (sym (verdict_by (Some s) e) ∙ refused)))

  -- and refused exactly by the least refusal of all its jobs
  pub verdict_refuses : (r : Refusal) → (verdict p ≡ Err r) ↔ IsLeast r (refusals p)
  verdict_refuses r = (
    refused_least r,
    λ l. verdict_by (Some r) ((least_is (refusals p) r).1 l),
  )

  -- in the words of jobs that fail
  pub verdict_fails : (r : Refusal) → (verdict p ≡ Err r) ↔ IsLeastFailure p r
  verdict_fails r = (
    λ e. least_fails p r ((verdict_refuses r).0 e),
    λ l. (verdict_refuses r).1 (failing_least p r l),
  )
