-- What a job of the whole font reads of each of its glyphs and tables. fontc's own.
use Rattle.std.specs.Prelude.{ℕ, Bool, false, not, List, [], ◌∷◌, Option, Some, None, is_some}
use Rattle.std.specs.Prelude.{option_and_then}
use Rattle.std.specs.Option.{option_to_list}
use Rattle.access_context.specs.Plain.{Plain, done_value}
use Rattle.font_ir.specs.declared.header.Header.{Header}
use Rattle.font_ir.specs.declared.glyph.FlatGlyph.{FlatGlyph}
use Rattle.font_ir.specs.declared.tag.Tag.{Tag}
use Rattle.font_ir.specs.Notdef.{made_notdef_of}
use Rattle.font_assembly.specs.File.{Table}
use Rattle.font_graph.specs.Graph.{Numbers, part_job, read_as, as_data, as_table}
use Rattle.font_graph.specs.Running.{flat_read}
use Rattle.font_graph.specs.Same.{same_id}
use Rattle.font_graph.specs.declared.ids.JobId.{JobId}
use Rattle.font_graph.specs.declared.ids.JobId.TheVariants as job
use Rattle.font_plan.specs.Jobs.{parts, is_composite}
use Rattle.font_plan.specs.Settling.{AnItem}

abbrev pub PlanReads : Type 0
PlanReads = List (JobId × Plain AnItem)

abbrev pub table_read : Tag → PlanReads → Option (Option (List ℕ))
table_read tag reads = read_as (parts []) same_id (as_table (parts [])) reads (job.Table tag)

-- what is read for a number of the order; what a made `.notdef` has isn't read
abbrev pub number_read : {A : Type 0} → A → (ℕ → Option A) → Option ℕ → Option A
number_read made read None = Some made
number_read made read (Some glyph) = read glyph

-- the drawn glyph of a number of the order
abbrev pub glyph_read : Header → PlanReads → Option ℕ → Option FlatGlyph
glyph_read header reads number =
    number_read (made_notdef_of header) (λ glyph. flat_read (parts []) glyph reads) number

-- the job of the data of a glyph, by its contours
abbrev pub part_by : Option FlatGlyph → ℕ → JobId
part_by None glyph = job.Simple glyph
part_by (Some flat) glyph = part_job (is_composite flat) glyph

abbrev pub part_read : PlanReads → ℕ → JobId
part_read reads glyph = part_by (flat_read (parts []) glyph reads) glyph

-- the numbers of the exported glyphs, those of the glyphs that vary, and the jobs of their outlines
abbrev pub of_all : List ℕ → List ℕ → List JobId → Numbers
of_all glyphs varied outlines = record {
  exported = glyphs;
  varied = varied;
  bases = λ glyph. [];
  parts = outlines;
}

-- of these, what a job of all glyphs reads, and what a table does
abbrev pub exported_alone : List ℕ → Numbers
exported_alone glyphs = of_all glyphs [] []

abbrev pub of_outlines : List JobId → List ℕ → Numbers
of_outlines outlines varied = of_all [] varied outlines

-- a table that isn't absent
abbrev pub present_table : Tag → Option (Option (List ℕ)) → List Table
present_table tag (Some (Some bytes)) = record { tag = tag.0; bytes = bytes } ∷ []
present_table tag _ = []

-- whether the first glyph of an order is a made `.notdef`
abbrev pub begins_with_made : List (Option ℕ) → Bool
begins_with_made [] = false
begins_with_made (number ∷ numbers) = not (is_some number)

-- the data of a glyph, where an item is that
abbrev pub data_at : JobId × Plain AnItem → List (List ℕ)
data_at item =
    option_to_list (option_and_then (as_data (parts [])) (done_value item.1))
