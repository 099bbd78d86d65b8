-- one more value is noted, and at the end none is left
use Rattle.std.proofs.Common.{◌≡◌, ℕ, ◌<◌, ◌≤◌, List, length, map, get_or, min, false, ap, sym, ◌∙◌}
use Rattle.std.proofs.Common.{arith, Bool}
use Rattle.std.specs.List.{zip}
use Rattle.std.specs.Prelude.{flat_map}
use Rattle.std.proofs.lemmas.List.{length-map, get_or-map, drop_all}
use Rattle.std.proofs.lemmas.Slice.Zip.{length-zip, get_or-zip}
use Rattle.refusal_codes.specs.First.{noted}
use Rattle.refusal_codes.specs.NotingLaws.{noted_turn}
use Rattle.plist_reader.specs.declared.tree.Tree.{Tree}
use Rattle.source_masters.specs.Metrics.{is_used, value_failures}
use Rattle.source_masters.proofs.metrics.note_heights.Goals as goal

module _ (t : Tree) (ms vs : List ℕ) where
  abbrev beside : List (Bool × ℕ)
  beside = zip (map (is_used t) ms) vs

  many : length beside ≡ min (length ms) (length vs)
  many = length-zip (map (is_used t) ms) vs
      ∙ ap (λ (n : ℕ). min n (length vs)) (length-map ms (is_used t))

  beside_at : (i : ℕ) → i < length ms → i < length vs
      → get_or beside i (false, 0) ≡ (is_used t (get_or ms i 0), get_or vs i 0)
  beside_at i a b =
      let more : i < length (map (is_used t) ms) = omega (arith, length-map ms (is_used t)) in
      get_or-zip (map (is_used t) ms) vs i (false, 0) more b
      ∙ ap (λ (u : Bool). (u, get_or vs i 0)) (get_or-map (is_used t) ms i 0 false a)

pub loop-index-preserved : goal.loop-index-preserved
loop-index-preserved c =
    let t = c.args.tree.now in
    let ms = c.args.metrics.now in
    let vs = c.args.values.now in
    let i = c.loop-index.index in
    let a : i < length ms = omega (arith, c.min-count.ensures) in
    let b : i < length vs = omega (arith, c.min-count.ensures) in
    noted_turn (value_failures t) (beside t ms vs) i (false, 0) _ _ _
    (omega (arith, many t ms vs))
    (c.note_value.ensures
    ∙ ap (λ (p : Bool × ℕ). noted c.loop-index.first (value_failures t p))
    (sym (beside_at t ms vs i a b))) c.loop-index.invariant

pub returns : goal.returns
returns c =
    let t = c.args.tree.now in
    let ms = c.args.metrics.now in
    let vs = c.args.values.now in
    let past : length (beside t ms vs) ≤ c.loop-index.index
    = omega (arith, c.min-count.ensures, many t ms vs) in
    ap (λ (ps : List (Bool × ℕ)). noted c.loop-index.first (flat_map (value_failures t) ps))
    (sym (drop_all c.loop-index.index (beside t ms vs) past))
    ∙ c.loop-index.invariant
