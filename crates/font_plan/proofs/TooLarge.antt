-- A source whose text is refused is refused for that: no other job has what it reads.
use Rattle.std.proofs.Common.{◌≡◌, ℕ, ◌<◌, ◌≤◌, Bool, true, List, [], length, Result, Err, ap}
use Rattle.std.proofs.Common.{nat_lt, refl, ◌∙◌, arith}
use Rattle.std.specs.Prelude.{if◌then◌else◌}
use Rattle.std.proofs.lemmas.Bool.Decides.{nat_tests}
use Rattle.refusal_codes.specs.declared.limits.TheConstants.{SOURCE_BYTES}
use Rattle.refusal_codes.specs.declared.refusal.Refusal.{Refusal}
use Rattle.plist_reader.specs.declared.tree.Tree.{Tree}
use Rattle.plist_reader.specs.Refusals.{IsRefusal}
use Rattle.plist_reader.specs.Reading.{read_of}
use Rattle.job_graph.specs.Rounds.{limit}
use Rattle.font_graph.specs.Graph.{on, settle}
use Rattle.font_graph.specs.Parts.{Parts}
use Rattle.font_graph.specs.Verdicts.{verdict}
use Rattle.font_plan.specs.FontFile.{source_too_large}
use Rattle.font_plan.specs.Font.{font_of}
use Rattle.font_plan.specs.Jobs.{parts, tree_of}
use Rattle.font_plan.proofs.AcceptedLaws.{below}

-- the parts of a text that gives this
abbrev parts_from : Result Tree Refusal → Parts
parts_from text =
    let p = parts [] in
    record {
      Tree = p.Tree;
      Header = p.Header;
      Index = p.Index;
      Raw = p.Raw;
      Flat = p.Flat;
      Data = p.Data;
      Order = p.Order;
      Measures = p.Measures;
      Table = p.Table;
      File = p.File;
      tree = text;
      header = p.header;
      index = p.index;
      all = p.all;
      numbers = p.numbers;
      numbers_there = p.numbers_there;
      is_exported = p.is_exported;
      exported_are = p.exported_are;
      raw = p.raw;
      bases = p.bases;
      bases_there = p.bases_there;
      flat = p.flat;
      endless = p.endless;
      endless_last = p.endless_last;
      is_composite = p.is_composite;
      simple = p.simple;
      composite = p.composite;
      is_variable = p.is_variable;
      variations = p.variations;
      order = p.order;
      ordered = p.ordered;
      ordered_is = p.ordered_is;
      measures = p.measures;
      tags = p.tags;
      needs = p.needs;
      table = p.table;
      font = p.font;
    }

alone_refused : (r : Refusal) → verdict (parts_from (Err r)) ≡ Err r
unfolding verdict on settle limit
alone_refused r = refl

pub text_refused : (source : List ℕ) (r : Refusal) → tree_of source ≡ Err r
    → font_of source ≡ Err r
unfolding font_of
text_refused source r e = ap (λ text. verdict (parts_from text)) e ∙ alone_refused r

pub too_large_refused : (source : List ℕ) → SOURCE_BYTES < length source
    → font_of source ≡ Err source_too_large
unfolding tree_of
too_large_refused source long =
    let is : nat_lt 67108864 (length source) ≡ true = grind (arith, nat_tests) in
    text_refused source source_too_large
    (ap (λ (b : Bool). if b then Err source_too_large else read_of source) is)

pub grammar_refused : (refusal_computed : (source : List ℕ) (r : Refusal) → IsRefusal source r
    → read_of source ≡ Err r) (source : List ℕ) (r : Refusal) → length source ≤ SOURCE_BYTES
    → IsRefusal source r → font_of source ≡ Err r
unfolding tree_of
grammar_refused refusal_computed source r few refused = text_refused source r
    (below 67108864 (length source) source_too_large (read_of source) few
    ∙ refusal_computed source r refused)
