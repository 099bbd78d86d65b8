-- bytes are told where they are text
use Rattle.std.proofs.Common.{◌≡◌, ℕ, List, Bool, [], ap, sym, ◌∙◌, inl, inr}
use Rattle.std.specs.Prelude.{if◌then◌else◌}
use Rattle.std.specs.Str.{is_utf8, IsUtf8}
use Rattle.std.proofs.lemmas.Bool.{cases_Bool}
use Rattle.std.proofs.lemmas.Str.{IsUtf8-from_is_utf8, is_utf8-from_IsUtf8}
use Rattle.font_plan.proofs.font_jobs.text_of.Goals as goal

is_text : (name : List ℕ) → IsUtf8 name → name ≡ (if is_utf8 name then name else [])
is_text name text = sym (ap (λ (b : Bool). if b then name else []) (is_utf8-from_IsUtf8 name text))

no_text : (name : List ℕ) → (IsUtf8 name → ⊥) → [] ≡ (if is_utf8 name then name else [])
no_text name none = elim (cases_Bool (is_utf8 name)) [
  | inl b ↦ absurd (none (IsUtf8-from_is_utf8 name b))
  | inr b ↦ sym (ap (λ (b : Bool). if b then name else []) b)
]

pub returns-in-Ok : goal.returns-in-Ok
returns-in-Ok c = c.in-Ok.ensures.cases.0 ∙ is_text c.args.name.now c.in-Ok.ensures.cases.1

pub returns-in-Err : goal.returns-in-Err
returns-in-Err c = no_text c.args.name.now c.in-Err.ensures.cases.0
