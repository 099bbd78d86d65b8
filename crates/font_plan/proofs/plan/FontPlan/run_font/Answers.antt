-- what the job finds is what its part reads
use Rattle.std.proofs.Common.{ap, sym, ◌∙◌, subst, Some}
use Rattle.font_plan.specs.Jobs.{parts}
use Rattle.font_plan.specs.Settling.{Comes}
use Rattle.std.proofs.Common.{◌≡◌, ℕ, true, List, [], Option, arith}
use Rattle.std.specs.List.{flat_map}
use Rattle.std.proofs.lemmas.List.{length-map}
use Rattle.access_context.specs.Read.{all_done}
use Rattle.font_assembly.specs.File.{Table}
use Rattle.font_assembly.specs.Assembled.{tables_of, table_of}
use Rattle.job_graph.specs.Rounds.{IsDue}
use Rattle.font_graph.specs.Graph.{plan}
use Rattle.font_graph.specs.Running.{font_finds, FontFound, tables_read}
use Rattle.font_graph.specs.Same.{same_id}
use Rattle.font_graph.specs.declared.ids.JobId.TheVariants as job
use Rattle.font_graph.specs.declared.items.Item.TheVariants as an
use Rattle.font_plan.specs.FontFile.{filed}
use Rattle.font_tables.specs.declared.tags.TheConstants.{TABLE_TAGS}
use Rattle.font_plan.specs.Reading.{PlanReads, table_read, present_table}
use Rattle.font_plan.specs.Settling.{made_by, none}
use Rattle.font_plan.proofs.Orders.{some_there}
use Rattle.font_plan.proofs.Runs.{font_comes}
use Rattle.font_plan.proofs.Tabled.{MakeFile, tables_there, tables_are, tables_make_file}
use Rattle.font_plan.proofs.plan.FontPlan.run_font.Goals as goal

-- what the job of the font finds
found : (source : List ℕ) (reads : PlanReads)
    → IsDue same_id (plan (parts source) same_id) job.Font reads → all_done reads ≡ true
    → FontFound (parts source) reads
found source reads due done = font_finds (parts source) reads due done

tables : (source : List ℕ) (reads : PlanReads)
    → IsDue same_id (plan (parts source) same_id) job.Font reads → all_done reads ≡ true
    → (ts : List (Option (List ℕ))) × (tables_read (parts []) reads ≡ Some ts)
tables source reads due done = some_there (tables_read (parts []) reads)
    (found source reads due done).tables

make_file : (source : List ℕ) (reads : PlanReads)
    → IsDue same_id (plan (parts source) same_id) job.Font reads → all_done reads ≡ true
    → (ts : List Table)
    → ts ≡ flat_map (λ tag. present_table tag (table_read tag reads)) TABLE_TAGS → MakeFile ts
make_file source reads due done ts is =
    let read = tables source reads due done in
    subst MakeFile (sym (is ∙ tables_are reads read.0 read.1))
    (tables_make_file source reads read.0 (found source reads due done) read.1)

pub tables_in-requires : goal.tables_in-requires
tables_in-requires c = tables_there c.args.self.now c.args.reads.now
    (found c.args.self.now c.args.reads.now c.requires.due c.requires.done)

pub run_font-requires-clause-count : goal.run_font-requires-clause-count
run_font-requires-clause-count c =
    let count = (make_file c.args.self.now c.args.reads.now c.requires.due c.requires.done
    (tables_of c.as_slice.result.now)
    (ap tables_of c.as_slice.ensures.value ∙ c.in_ok-tables.ensures)).count in
    omega (arith, length-map c.as_slice.result.now table_of, count)

pub run_font-requires-clause-tags : goal.run_font-requires-clause-tags
run_font-requires-clause-tags c = (make_file c.args.self.now c.args.reads.now c.requires.due
    c.requires.done (tables_of c.as_slice.result.now)
    (ap tables_of c.as_slice.ensures.value ∙ c.in_ok-tables.ensures)).tags

pub run_font-requires-clause-head : goal.run_font-requires-clause-head
run_font-requires-clause-head c = (make_file c.args.self.now c.args.reads.now c.requires.due
    c.requires.done (tables_of c.as_slice.result.now)
    (ap tables_of c.as_slice.ensures.value ∙ c.in_ok-tables.ensures)).head

pub returns : goal.returns
returns c =
    let read = tables c.args.self.now c.args.reads.now c.requires.due c.requires.done in
    subst (Comes c.run_font.result)
    (ap (λ ts. made_by an.Font none (filed ts)) (ap tables_of c.as_slice.ensures.value
    ∙ c.in_ok-tables.ensures ∙ tables_are c.args.reads.now read.0 read.1)
    ∙ font_comes c.args.self.now c.args.reads.now read.0 read.1) c.run_font.ensures
