-- What a board that has ended tells of the verdict.
use Rattle.std.proofs.Common.{◌≡◌, ℕ, List, Option, Some, None, Result, Ok, Err}
use Rattle.std.proofs.Common.{refl, ap, ◌∙◌}
use Rattle.std.specs.Prelude.{option_and_then}
use Rattle.refusal_codes.specs.declared.refusal.Refusal.{Refusal}
use Rattle.access_context.specs.Plain.{done_value}
use Rattle.refusal_codes.specs.Gives.{◌>>=◌}
use Rattle.font_graph.specs.AllDone.{all_done}
use Rattle.font_graph.specs.Ended.{done_ended}
use Rattle.font_graph.specs.Judged.{verdict_refuses, made_of_unrefused, made_accepted}
use Rattle.font_graph.specs.Kept.{kept_least}
use Rattle.font_graph.specs.Least.{least_is, least_none}
use Rattle.font_graph.specs.Made.{made_font}
use Rattle.font_graph.specs.Same.{same_id, identity}
use Rattle.font_graph.specs.Verdicts.{least, refusals}
use Rattle.font_graph.specs.declared.ids.JobId.TheVariants as job
use Rattle.font_graph.specs.declared.items.Item.TheVariants as an
use Rattle.font_plan.specs.Font.{font_of}
use Rattle.font_plan.specs.Jobs.{parts}
use Rattle.font_plan.specs.Settling.{AnItem}
use Rattle.font_plan.specs.Telling.{font_item, ended_font_item, at_most_one, lesser_of}

pub is_refused : (source : List ℕ) (r : Refusal) → least (refusals (parts source)) ≡ Some r
    → font_of source ≡ Err r
unfolding font_of
is_refused source r e = (verdict_refuses (parts source) r).1
    ((least_is (refusals (parts source)) r).0 e)

-- where nothing is refused, the font was made
pub record IsMade (source : List ℕ) : Type 0 where
  pub font : List ℕ
  pub accepted : font_of source ≡ Ok font
  pub told : ended_font_item source ≡ Some (an.Font font)

pub is_made : (source : List ℕ) → least (refusals (parts source)) ≡ None → IsMade source
unfolding font_of
is_made source e =
    let p = parts source in
    let m = made_of_unrefused p ((least_none (refusals p)).0 e) in
    record {
      font = m.0;
      accepted = made_accepted p m.0 m.1;
      told = ap (option_and_then done_value)
          (done_ended p job.Font (all_done p m.0 m.1 job.Order (all_done p m.0 m.1 job.Index tt))
          (all_done p m.0 m.1 job.Font
          (all_done p m.0 m.1 job.Order (all_done p m.0 m.1 job.Index tt)))
          ∙ ap Some (made_font p same_id identity m.0 m.1));
    }

-- one refusal more, where there is one
pub kept_one : (kept found : Option Refusal)
    → kept_least kept (at_most_one found) ≡ lesser_of found kept
kept_one None None = refl
kept_one None (Some r) = refl
kept_one (Some k) None = refl
kept_one (Some k) (Some r) = refl

-- ---- the font's bytes

-- an item that is the verdict is that of the font
pub record IsFontItem (source : List ℕ) (item : AnItem) : Type 0 where
  pub font : List ℕ
  pub accepted : font_of source ≡ Ok font
  pub is : item ≡ an.Font font

pub font_item_is : (source : List ℕ) (item : AnItem) → font_item source ≡ Ok item
    → IsFontItem source item
font_item_is source item e = by (font_of source) refl e
  where
    by : (r : Result (List ℕ) Refusal) → font_of source ≡ r
        → (r >>= λ font. Ok (an.Font font)) ≡ Ok item → IsFontItem source item
    by (Ok font) is f = record { font = font; accepted = is; is = cc }
    by (Err refusal) is f = absurd cc

pub font_item_refused : (source : List ℕ) (r : Refusal) → font_item source ≡ Err r
    → font_of source ≡ Err r
font_item_refused source r e = by (font_of source) refl e
  where
    by : (made : Result (List ℕ) Refusal) → font_of source ≡ made
        → ◌≡◌ {A = Result AnItem Refusal} (made >>= λ font. Ok (an.Font font)) (Err r)
        → font_of source ≡ Err r
    by (Ok font) is f = absurd cc
    by (Err refusal) is f = cc

pub same_font : (a b : List ℕ) → ◌≡◌ {A = AnItem} (an.Font a) (an.Font b) → a ≡ b
same_font a b e = cc

pub refused_item : (source : List ℕ) (r : Refusal) → least (refusals (parts source)) ≡ Some r
    → font_item source ≡ Err r
refused_item source r e = ap (λ made. made >>= λ font. Ok (an.Font font)) (is_refused source r e)

pub made_item : (source : List ℕ) (made : IsMade source) → font_item source ≡ Ok (an.Font made.font)
made_item source made = ap (λ made. made >>= λ font. Ok (an.Font font)) made.accepted
