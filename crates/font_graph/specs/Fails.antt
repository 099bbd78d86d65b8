-- When a job of a source's graph fails, and which of some refusals is the least. fontc's own.
use Rattle.std.specs.Prelude.{◌≡◌, ◌≢◌, ◌⊎◌, ℕ, true, List, Some}
use Rattle.std.specs.declared.cmp.Ordering.TheVariants.{Less}
use Rattle.refusal_codes.specs.declared.refusal.Refusal.{Refusal}
use Rattle.refusal_codes.specs.Order.{refusal_cmp}
use Rattle.access_context.specs.Plain.{Refused}
use Rattle.job_graph.specs.Members.{In}
use Rattle.font_graph.specs.Parts.{Parts}
use Rattle.font_graph.specs.Descent.{Leads, LeadsToCycle}
use Rattle.font_graph.specs.Graph.{There, value_of, raw_known, index_known, bases, is_read}
use Rattle.font_graph.specs.Same.{same_id}
use Rattle.font_graph.specs.declared.ids.JobId.{JobId}
use Rattle.font_graph.specs.declared.ids.JobId.TheVariants as job

-- a glyph's bases lead to a cycle, and all glyphs that it leads to are read
pub record EndsNever (p : Parts) (glyph : ℕ) (r : Refusal) : Type 0 where
  pub raw : p.Raw
  pub index : p.Index
  pub raw_is : raw_known p same_id glyph ≡ Some raw
  pub index_is : index_known p same_id ≡ Some index
  pub all_read : (other : ℕ) → Leads (bases p same_id) (is_read p same_id) glyph other
      → is_read p same_id other ≡ true
  pub cycle : LeadsToCycle (bases p same_id) (is_read p same_id) glyph
  pub refusal_is : p.endless raw index ≡ r

-- so its contours are never drawn
abbrev pub IsEndless : Parts → JobId → Refusal → Type 0
IsEndless p (job.Flat glyph) r = EndsNever p glyph r
IsEndless p _ r = ⊥

-- a job is ever added, and all that it reads has values, and this is the first rule that fails in
-- its
-- own part; or it draws a glyph whose bases lead to a cycle
pub record Fails (p : Parts) (id : JobId) (r : Refusal) : Type 0 where
  pub there : There p same_id id
  pub refused : (value_of p same_id id ≡ Refused r) ⊎ IsEndless p id r

-- a refusal is among these, and none of them is less
pub record IsLeast (r : Refusal) (rs : List Refusal) : Type 0 where
  pub there : In r rs
  pub none_less : (other : Refusal) → In other rs → refusal_cmp other r ≢ Less

-- a job fails by this refusal, and no job fails by a lesser one
pub record IsLeastFailure (p : Parts) (r : Refusal) : Type 0 where
  pub id : JobId
  pub fails : Fails p id r
  pub none_less : (other : JobId) (s : Refusal) → Fails p other s → refusal_cmp s r ≢ Less
