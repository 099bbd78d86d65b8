-- A source is accepted exactly where each of its parts is.
use Rattle.std.proofs.Common.{◌≡◌, ℕ, ◌≤◌, List, length, Ok, Err, true, false, Bool, nat_lt, refl}
use Rattle.std.proofs.Common.{arith, ap, ◌∙◌}
use Rattle.std.specs.Prelude.{if◌then◌else◌, Result}
use Rattle.std.proofs.lemmas.Bool.Decides.{nat_tests}
use Rattle.refusal_codes.specs.declared.limits.TheConstants.{SOURCE_BYTES}
use Rattle.refusal_codes.specs.declared.refusal.Refusal.{Refusal}
use Rattle.plist_reader.specs.declared.tree.Tree.{Tree}
use Rattle.plist_reader.specs.Grammar.{HasTree}
use Rattle.plist_reader.specs.Reading.{read_of}
use Rattle.font_graph.specs.Judged.{verdict_accepts}
use Rattle.font_plan.specs.Accepted.{IsFontOf}
use Rattle.font_plan.specs.Font.{font_of}
use Rattle.font_plan.specs.FontFile.{source_too_large}
use Rattle.font_plan.specs.Jobs.{parts, tree_of}

-- a limit that wasn't passed
within : {B : Type 0} (limit n : ℕ) (refusal : Refusal) (otherwise : Result B Refusal)
    (made : B) → (if nat_lt limit n then Err refusal else otherwise) ≡ Ok made
    → (n ≤ limit) × (otherwise ≡ Ok made)
within limit n refusal otherwise made e = chosen (nat_lt limit n) refl e
  where
    chosen : (b : Bool) → nat_lt limit n ≡ b → (if b then Err refusal else otherwise) ≡ Ok made
        → (n ≤ limit) × (otherwise ≡ Ok made)
    chosen true is f = absurd cc
    chosen false is f = (grind (arith, nat_tests), f)

pub below : {B : Type 0} (limit n : ℕ) (refusal : Refusal) (otherwise : Result B Refusal)
    → n ≤ limit → (if nat_lt limit n then Err refusal else otherwise) ≡ otherwise
below limit n refusal otherwise few =
    let is : nat_lt limit n ≡ false = grind (arith, nat_tests) in
    ap (λ (b : Bool). if b then Err refusal else otherwise) is

-- a text has a tree exactly where it isn't too long and the grammar gives it one
tree_read : (source : List ℕ) (tree : Tree) → tree_of source ≡ Ok tree
    → (length source ≤ SOURCE_BYTES) × (read_of source ≡ Ok tree)
unfolding tree_of
tree_read source tree e =
    within 67108864 (length source) source_too_large (read_of source) tree e

read_tree : (source : List ℕ) (tree : Tree) → length source ≤ SOURCE_BYTES
    → read_of source ≡ Ok tree → tree_of source ≡ Ok tree
unfolding tree_of
read_tree source tree few e =
    below 67108864 (length source) source_too_large (read_of source) few ∙ e

pub accepted_font : ((source : List ℕ) (t : Tree) → read_of source ≡ Ok t → HasTree source t)
    → (source font : List ℕ) → font_of source ≡ Ok font → IsFontOf source font
unfolding font_of
accepted_font tree_of_computed source font e =
    let made = (verdict_accepts (parts source) font).0 e in
    let text = tree_read source made.tree made.tree_read in
    record {
      tree = made.tree;
      header = made.header;
      index = made.index;
      glyphs = made.flats;
      outlines = made.parts;
      variations = made.variations;
      order = made.order;
      measures = made.measures;
      tables = made.tables;
      few_bytes = text.0;
      read = tree_of_computed source made.tree text.1;
      header_read = made.header_read;
      index_read = made.index_read;
      glyphs_drawn = made.glyphs_drawn;
      outlines_written = made.glyphs_written;
      glyphs_varied = made.glyphs_varied;
      glyphs_ordered = made.glyphs_ordered;
      glyphs_measured = made.glyphs_measured;
      tables_made = made.tables_made;
      is_file = made.is_font;
    }

pub font_accepted : ((source : List ℕ) (t : Tree) → HasTree source t → read_of source ≡ Ok t)
    → (source font : List ℕ) → IsFontOf source font → font_of source ≡ Ok font
unfolding font_of
font_accepted tree_computed source font f = (verdict_accepts (parts source) font).1 (record {
  tree = f.tree;
  header = f.header;
  index = f.index;
  flats = f.glyphs;
  parts = f.outlines;
  variations = f.variations;
  order = f.order;
  measures = f.measures;
  tables = f.tables;
  tree_read = read_tree source f.tree f.few_bytes (tree_computed source f.tree f.read);
  header_read = f.header_read;
  index_read = f.index_read;
  glyphs_drawn = f.glyphs_drawn;
  glyphs_written = f.outlines_written;
  glyphs_varied = f.glyphs_varied;
  glyphs_ordered = f.glyphs_ordered;
  glyphs_measured = f.glyphs_measured;
  tables_made = f.tables_made;
  is_font = f.is_file;
})
