-- What is read off a board that has ended: each job that fails has its refusal there, so the least
-- refusal that the finished jobs tell is the least of all, and with the font the verdict. fontc's
-- own.
use Rattle.std.proofs.Common.{◌≡◌, Bool, true, cond, inl, inr, List, [], ◌∷◌, ◌++◌, Option}
use Rattle.std.proofs.Common.{Some, None, length, is_some, refl, sym, ap, ◌∙◌, subst, arith}
use Rattle.std.specs.Prelude.{◌↔◌, option_and_then, count_by}
use Rattle.std.specs.List.{flat_map, filter}
use Rattle.std.proofs.lemmas.List.Sums.{length-filter}
use Rattle.std.proofs.lemmas.Bool.{false≢true}
use Rattle.refusal_codes.specs.declared.refusal.Refusal.{Refusal}
use Rattle.access_context.specs.Plain.{Done, is_done, done_value}
use Rattle.job_graph.specs.declared.event.Event.{Event}
use Rattle.job_graph.specs.declared.event.Event.TheVariants as event
use Rattle.job_graph.specs.Rounds.{is_settled, limit}
use Rattle.job_graph.specs.Histories.{is_finish_of}
use Rattle.job_graph.specs.Promises.{IsComplete}
use Rattle.job_graph.specs.Members.{In, In-filter, In-flat_map, flat_map-In, In-append_left}
use Rattle.job_graph.specs.Members.{In-append_right, In-append_cases}
use Rattle.font_graph.specs.Parts.{Parts}
use Rattle.font_graph.specs.Fonts.{IsFontOf}
use Rattle.font_graph.specs.Graph.{as_font, value_of, There, plan}
use Rattle.font_graph.specs.Made.{part_done, made_font}
use Rattle.font_graph.specs.Same.{same_id, identity}
use Rattle.font_graph.specs.Due.{solved}
use Rattle.font_graph.specs.Verdicts.{least, refused_in, ended_value, ended_as, endless_of}
use Rattle.font_graph.specs.Verdicts.{refusals}
use Rattle.font_graph.specs.Verdicts.{font_or, judge, verdict}
use Rattle.font_graph.specs.Least.{least_alike, least_is, least_none}
use Rattle.font_graph.specs.Failing.{refused_ended, some_in, endless_stuck, stuck_endless}
use Rattle.font_graph.specs.Failing.{own_refusal, stuck_refusal, own_of, cause}
use Rattle.font_graph.specs.AllDone.{all_done}
use Rattle.font_graph.specs.Judged.{made_of_unrefused, made_accepted, verdict_refuses}
use Rattle.font_graph.specs.Grounds.{IsFounded, grounded, founded_there}
use Rattle.font_graph.specs.declared.ids.JobId.{JobId}
use Rattle.font_graph.specs.declared.ids.JobId.TheVariants as job
use Rattle.font_graph.specs.declared.items.Item.TheVariants as an

module _ (p : Parts) where
  -- the font there
  abbrev pub ended_file : Option p.File
  ended_file = ended_as p (as_font p) job.Font

  -- ---- which jobs have a value there, and which

  -- just those that are there and come to a value, and each its own
  pub ended_is : (id : JobId) → (ended_value p id ≡ Some (value_of p same_id id))
      ↔ (There p same_id id × IsFounded p id)
  ended_is id = (
    λ e. let f = ((solved p).values id (value_of p same_id id) e).0 in (founded_there p id f, f),
    λ f. (solved p).founded id f.1,
  )

  -- and what has a value is found there
  pub done_ended : (id : JobId) → There p same_id id → is_done (value_of p same_id id) ≡ true
      → ended_value p id ≡ Some (value_of p same_id id)
  done_ended id there done = (solved p).founded id
      (grounded p id there (part_done p same_id identity id done))

  -- ---- over the events of a board

  -- what the end of a job tells: its refusal, where it has one; and of a glyph that is read, and
  -- whose contours are never drawn, the refusal for that
  abbrev pub told_of : JobId → List Refusal
  told_of (job.Raw glyph) = refused_in p (ended_value p (job.Raw glyph)) ++ endless_of p glyph
  told_of id = refused_in p (ended_value p id)

  abbrev pub told : Event JobId → List Refusal
  told (event.Claim w id) = []
  told (event.Finish w id) = told_of id
  told (event.Halt w) = []

  own_counts : (id : JobId) (r : Refusal) → In r (refused_in p (ended_value p id))
      → In r (refusals p)
  own_counts id r i = let own = own_of p id r i in own_refusal p own.id r own.there own.refused_so

  told_counts : (id : JobId) (r : Refusal) → In r (told_of id) → In r (refusals p)
  told_counts (job.Raw glyph) r i = elim
      (In-append_cases (refused_in p (ended_value p (job.Raw glyph))) (endless_of p glyph) r i) [
        | inl own ↦ own_counts (job.Raw glyph) r own
        | inr j ↦ stuck_refusal p glyph r (endless_stuck p glyph r j)
      ]
  told_counts id r i = own_counts id r i

  own_told : (id : JobId) (r : Refusal) → In r (refused_in p (ended_value p id)) → In r (told_of id)
  own_told (job.Raw glyph) r i = In-append_left (refused_in p (ended_value p (job.Raw glyph)))
      (endless_of p glyph) r i
  own_told _ r i = i

  event_counts : (e : Event JobId) (r : Refusal) → In r (told e) → In r (refusals p)
  event_counts (event.Claim w id) r i = absurd i
  event_counts (event.Finish w id) r i = told_counts id r i
  event_counts (event.Halt w) r i = absurd i

  finish_tells : (e : Event JobId) (id : JobId) (r : Refusal)
      → is_finish_of same_id id e ≡ true → In r (told_of id) → In r (told e)
  finish_tells (event.Claim w other) id r is i = absurd (false≢true is)
  finish_tells (event.Finish w other) id r is i =
      subst (λ k. In r (told_of k)) (sym ((identity other id).0 is)) i
  finish_tells (event.Halt w) id r is i = absurd (false≢true is)

  one_of : {X : Type 0} (xs : List X) → length xs ≡ 1 → (x : X) × In x xs
  one_of [] e = absurd (omega (arith, e))
  one_of (x ∷ xs) e = (x, inl refl)

  counted : (test : Event JobId → Bool) (events : List (Event JobId)) → count_by test events ≡ 1
      → (e : Event JobId) × In e events × (test e ≡ true)
  counted test events c =
      let one = one_of (filter test events) (length-filter test events ∙ c) in
      let found = In-filter test events one.0 one.1 in
      (one.0, found.0, found.1)

  module _ (events : List (Event JobId))
      (complete : IsComplete same_id (plan p same_id) events) where
    -- each job with a value was finished
    was_finished : (id : JobId) → is_settled same_id (limit same_id (plan p same_id)) id ≡ true
        → (e : Event JobId) × In e events × (is_finish_of same_id id e ≡ true)
    was_finished id settled = counted (is_finish_of same_id id) events
        (complete.finishes id ∙ ap (λ b. cond b 1 0) settled)

    -- the least that the events tell is the least of all
    counted_told : (id : JobId) (r : Refusal)
        → is_settled same_id (limit same_id (plan p same_id)) id ≡ true → In r (told_of id)
        → In r (flat_map told events)
    counted_told id r settled i =
        let e = was_finished id settled in
        flat_map-In told events e.0 r e.1 (finish_tells e.0 id r e.2 i)

    pub ended_least : least (flat_map told events) ≡ least (refusals p)
    ended_least = least_alike (flat_map told events) (refusals p) (λ r. (
      λ i. let m = In-flat_map told events r i in event_counts m.0 r m.2,
      λ i. elim (cause p r i) [
        | inl own ↦
            let is = refused_ended p own.id r own.there own.refused_so in
            counted_told own.id r (ap is_some is)
            (own_told own.id r (some_in p (ended_value p own.id) r is))
        | inr m ↦ counted_told (job.Raw m.0) r
            (ap is_some (done_ended (job.Raw m.0) m.1.there.0 m.1.there.1))
            (In-append_right (refused_in p (ended_value p (job.Raw m.0))) (endless_of p m.0) r
            (stuck_endless p m.0 r m.1))
      ],
    ))

    -- and where they tell none the font is made, and found there
    pub ended_font : least (flat_map told events) ≡ None
        → (font : p.File) × IsFontOf p font × (ended_value p job.Font ≡ Some (Done (an.Font font)))
    ended_font e =
        let m = made_of_unrefused p ((least_none (refusals p)).0 (sym ended_least ∙ e)) in (
          m.0,
          m.1,
          done_ended job.Font (all_done p m.0 m.1 job.Order (all_done p m.0 m.1 job.Index tt))
              (all_done p m.0 m.1 job.Font
              (all_done p m.0 m.1 job.Order (all_done p m.0 m.1 job.Index tt)))
              ∙ ap Some (made_font p same_id identity m.0 m.1),
        )

    -- so the verdict is read off the board
    pub ended_verdict : verdict p ≡ judge p (least (flat_map told events)) ended_file
    ended_verdict = by (least (flat_map told events)) refl
      where
        by : (o : Option Refusal) → least (flat_map told events) ≡ o
            → verdict p ≡ judge p (least (flat_map told events)) ended_file
        by None e =
            let f = ended_font e in
            made_accepted p f.0 f.1
            ∙ sym (ap (λ o. judge p o ended_file) e ∙ ap (λ v. font_or p
            (option_and_then (as_font p) (option_and_then done_value v))) f.2)
        by (Some r) e = (verdict_refuses p r).1
            ((least_is (refusals p) r).0 (sym ended_least ∙ e))
            ∙ sym (ap (λ o. judge p o ended_file) e)
