-- The tables tell what a layer fails.
use Rattle.std.proofs.Common.{◌≡◌, ◌==◌, ℕ, Bool, true, false, not, ◌&&◌, ◌||◌, cond}
use Rattle.std.proofs.Common.{List, [], ◌∷◌, ◌++◌, Option, Some, None, is_some, refl, sym, ap, ◌∙◌}
use Rattle.std.proofs.Common.{true≢false, arith}
use Rattle.std.specs.Prelude.{codes, slice_index, option_and_then}
use Rattle.std.specs.Option.{option_map_or}
use Rattle.std.specs.Cmp.Lexicographic.{bytes_decides}
use Rattle.plist_reader.specs.declared.tree.Tree.{Tree}
use Rattle.plist_reader.specs.Tree.{find_in, spells, text_at}
use Rattle.refusal_codes.specs.declared.limits.TheConstants.{COORDINATE}
use Rattle.refusal_codes.specs.declared.rule.Rule.{Rule}
use Rattle.refusal_codes.specs.declared.rule.Rule.TheVariants.{WrongShape, MissingKey, NotWhole}
use Rattle.refusal_codes.specs.declared.rule.Rule.TheVariants.{OutOfRange, CubicNode, OpenContour}
use Rattle.refusal_codes.specs.declared.rule.Rule.TheVariants.{UnsupportedTransform}
use Rattle.refusal_codes.specs.declared.rule.Rule.TheVariants.{CoordinateTooLarge}
use Rattle.refusal_codes.specs.declared.first.Failure.{Failure}
use Rattle.source_values.specs.declared.decimals.Decimal.{Decimal}
use Rattle.source_values.specs.declared.kinds.Range.TheVariants.{Natural, Coordinate}
use Rattle.source_values.specs.Decimals.{is_whole}
use Rattle.source_values.specs.Values.{items_at, is_list, decimal_at, is_zero}
use Rattle.source_values.specs.Asking.{fails, whole_failures, each_by, under_by, optional}
use Rattle.source_values.specs.Ways.{Row, here, has}
use Rattle.source_values.specs.WayLaws.{never}
use Rattle.source_values.specs.Tables.{is_decimal_value, decimal_table, optional_table, each_table}
use Rattle.source_values.specs.Telling.{Told, whole, text, tried, measured, rewritten, also, must}
use Rattle.source_values.specs.Telling.{can, every, within, checked, choice, at_place, placed}
use Rattle.layer_shapes.specs.declared.kind.LayerKind.{LayerKind}
use Rattle.layer_shapes.specs.declared.kind.LayerKind.TheVariants.{Master, Intermediate}
use Rattle.layer_shapes.specs.declared.placing.TheConstants.{GREATEST_SCALE}
use Rattle.layer_shapes.specs.Placing.{is_at_most}
use Rattle.layer_shapes.specs.LayerRules.{is_pair, pair_by, pair, is_node, is_on_curve}
use Rattle.layer_shapes.specs.LayerRules.{is_off_curve, is_cubic, type_failures}
use Rattle.layer_shapes.specs.LayerRules.{node_parts_failures, node_failures_by, node_failures}
use Rattle.layer_shapes.specs.LayerRules.{nodes_failures, closed_failures_by, closed_failures}
use Rattle.layer_shapes.specs.LayerRules.{decimal_failures, bounded_failures_by, bounded_failures}
use Rattle.layer_shapes.specs.LayerRules.{offset_failures, scale_failures, slant_failures_by}
use Rattle.layer_shapes.specs.LayerRules.{slant_failures, is_unsupported, transform_failures}
use Rattle.layer_shapes.specs.LayerRules.{component_failures, other_shape_failures}
use Rattle.layer_shapes.specs.LayerRules.{shape_failures_by, shape_parts_failures, shape_failures}
use Rattle.layer_shapes.specs.LayerRules.{shapes_failures, anchor_parts_failures, anchor_failures}
use Rattle.layer_shapes.specs.LayerRules.{anchors_failures, layer_failures}
use Rattle.layer_shapes.specs.LayerTables.{is_pair_value, pair_table, is_node_value}
use Rattle.layer_shapes.specs.LayerTables.{is_no_cubic_node, is_type, node_table, is_not_open}
use Rattle.layer_shapes.specs.LayerTables.{path_table, bounded_table, slant_table, is_supported}
use Rattle.layer_shapes.specs.LayerTables.{component_table, other_table, shape_parts_table}
use Rattle.layer_shapes.specs.LayerTables.{shape_table, anchor_table, anchors_table, layer_table}

-- ---- types of nodes: a text is of one kind

-- the first byte of a text
abbrev first_byte : Option (List ℕ) → ℕ
first_byte None = 0
first_byte (Some text) = slice_index text 0

-- a text that spells a key doesn't begin as another one does
other_start : (o : Option (List ℕ)) (key : List ℕ) → first_byte o ≡ 99
    → (slice_index key 0 ≡ 99 → ⊥)
    → spells key o ≡ false
other_start None key c apart = refl
other_start (Some text) key c apart = off (spells key (Some text)) (λ p.
    apart (sym (ap (λ (bytes : List ℕ). slice_index bytes 0) ((bytes_decides text key).0 p)) ∙ c))
  where
    off : (b : Bool) → (b ≡ true → ⊥) → b ≡ false
    off true f = absurd (f refl)
    off false f = refl

spelled : (o : Option (List ℕ)) (key : List ℕ) → slice_index key 0 ≡ 99 → spells key o ≡ true
    → first_byte o ≡ 99
spelled None key c p = absurd (true≢false (sym p))
spelled (Some text) key c p =
    ap (λ (bytes : List ℕ). slice_index bytes 0) ((bytes_decides text key).0 p) ∙ c

cubic_start : (o : Option (List ℕ)) (a b : Bool) → (a ≡ true → first_byte o ≡ 99)
    → (b ≡ true → first_byte o ≡ 99)
    → (a || b) ≡ true
    → first_byte o ≡ 99
cubic_start o true b f g e = f refl
cubic_start o false true f g e = g refl
cubic_start o false false f g e = absurd (true≢false (sym e))

both_off : (a b : Bool) → a ≡ false → b ≡ false → (a || b) ≡ false
both_off true b e h = absurd (true≢false e)
both_off false b e h = h

module _ (t : Tree) (n : ℕ) where
  abbrev its_text : Option (List ℕ)
  its_text = text_at t.nodes n

  -- a text that is a cubic node's type is no type of a point that is drawn
  cubic_not_drawn : is_cubic t n ≡ true → (is_on_curve t n || is_off_curve t n) ≡ false
  cubic_not_drawn cubic =
      let c = cubic_start its_text (spells (codes "c") its_text) (spells (codes "cs") its_text)
      (spelled its_text (codes "c") refl) (spelled its_text (codes "cs") refl) cubic in
      both_off _ _
      (both_off _ _
      (both_off _ _
      (both_off _ _ (other_start its_text (codes "l") c (λ e. omega (arith, e)))
      (other_start its_text (codes "ls") c (λ e. omega (arith, e))))
      (other_start its_text (codes "q") c (λ e. omega (arith, e))))
      (other_start its_text (codes "qs") c (λ e. omega (arith, e))))
      (both_off _ _ (other_start its_text (codes "o") c (λ e. omega (arith, e)))
      (other_start its_text (codes "os") c (λ e. omega (arith, e))))

-- ---- lists of two values

same_pair : (g : Tree → ℕ → List Failure) (t : Tree) (n : ℕ) (o : Option (List ℕ))
    → pair_by (g t) t n o
    ≡ cond (option_map_or is_pair o false) (at_place (g t) 0 o ++ at_place (g t) 1 o)
    (fails WrongShape t n)
same_pair g t n None = refl
same_pair g t n (Some []) = refl
same_pair g t n (Some (a ∷ [])) = refl
same_pair g t n (Some (a ∷ b ∷ ps)) = refl

pair_told : {rows : List Row} {g : Tree → ℕ → List Failure} → Told rows g
    → Told (pair_table rows) (pair g)
pair_told {rows} {g} a =
    rewritten (checked (also (placed 0 a) (placed 1 a)) WrongShape is_pair_value)
    (λ t n. pair_by (g t) t n (items_at t n)) (λ t n. same_pair g t n (items_at t n))

-- ---- nodes

module _ (t : Tree) (n k : ℕ) where
  types_apart : (drawn cubic : Bool) → (cubic ≡ true → drawn ≡ false)
      → cond drawn [] (cond cubic (fails CubicNode t n) (fails WrongShape t k))
      ≡ cond (not cubic) [] (fails CubicNode t n) ++ cond (drawn || cubic) [] (fails WrongShape t k)
  types_apart true true f = never true refl (f refl)
  types_apart true false f = refl
  types_apart false true f = refl
  types_apart false false f = refl

-- what fails of the parts of a node
abbrev parts_failures : Tree → ℕ → Option (List ℕ) → List Failure
parts_failures t n o =
    (at_place (whole_failures Coordinate t) 0 o ++ at_place (whole_failures Coordinate t) 1 o)
    ++ (cond (not (option_map_or (λ parts. is_cubic t (slice_index parts 2)) o false)) []
    (fails CubicNode t n)
    ++ at_place (λ k. cond (is_type t k) [] (fails WrongShape t k)) 2 o)

same_node : (t : Tree) (n : ℕ) (o : Option (List ℕ)) → node_failures_by t n o
    ≡ cond (option_map_or is_node o false) (parts_failures t n o) (fails WrongShape t n)
unfolding node_parts_failures type_failures
same_node t n None = refl
same_node t n (Some []) = refl
same_node t n (Some (a ∷ [])) = refl
same_node t n (Some (a ∷ b ∷ [])) = refl
same_node t n (Some (a ∷ b ∷ c ∷ ps)) =
    ap (λ (fs : List Failure). cond (is_node (a ∷ b ∷ c ∷ ps))
    ((whole_failures Coordinate t a ++ whole_failures Coordinate t b) ++ fs)
    (fails WrongShape t n))
    (types_apart t n c (is_on_curve t c || is_off_curve t c) (is_cubic t c) (cubic_not_drawn t c))

node_told : Told node_table node_failures
unfolding node_failures
node_told =
    rewritten
    (checked
    (also (also (placed 0 (whole Coordinate)) (placed 1 (whole Coordinate)))
    (also (tried CubicNode is_no_cubic_node) (placed 2 (tried WrongShape is_type))))
    WrongShape is_node_value)
    (λ t n. node_failures_by t n (items_at t n)) (λ t n. same_node t n (items_at t n))

nodes_told : Told (each_table node_table) nodes_failures
unfolding nodes_failures
nodes_told = every node_told

-- ---- paths

-- what fails of the value under `closed`
abbrev closed_value : Tree → ℕ → Option Decimal → List Failure
closed_value t n None = fails WrongShape t n
closed_value t n (Some d) = cond (is_whole d) [] (fails NotWhole t n)

closed_told : Told (decimal_table NotWhole is_whole) (λ t n. closed_value t n (decimal_at t n))
closed_told = measured NotWhole is_whole closed_value (λ t n. refl) (λ t n d. refl)

module _ (t : Tree) (path k : ℕ) where
  closed_parts : (w z : Bool) → cond w (cond z (fails OpenContour t path) []) (fails NotWhole t k)
      ≡ cond w [] (fails NotWhole t k) ++ cond (not (w && z)) [] (fails OpenContour t path)
  closed_parts true true = refl
  closed_parts true false = refl
  closed_parts false z = refl

  same_value : (o : Option Decimal) → closed_failures_by t path k o
      ≡ closed_value t k o ++ cond (not (is_zero o)) [] (fails OpenContour t path)
  same_value None = refl
  same_value (Some d) = closed_parts (is_whole d) (d.whole == 0)

same_closed : (t : Tree) (n : ℕ) (o : Option ℕ) → under_by (closed_failures n t) [] o
    ≡ under_by (λ k. closed_value t k (decimal_at t k)) [] o
    ++ cond (not (is_zero (option_and_then (decimal_at t) o))) [] (fails OpenContour t n)
unfolding closed_failures
same_closed t n None = refl
same_closed t n (Some k) = same_value t n k (decimal_at t k)

path_told : Told path_table (λ t n.
    optional (codes "closed") (closed_failures n) t n
    ++ optional (codes "nodes") nodes_failures t n)
path_told =
    also (rewritten (also (can (codes "closed") closed_told) (tried OpenContour is_not_open))
    (λ t n. optional (codes "closed") (closed_failures n) t n)
    (λ t n. same_closed t n (find_in t n (codes "closed"))))
    (can (codes "nodes") nodes_told)

-- ---- components

decimal_told : Told (here WrongShape is_decimal_value) decimal_failures
unfolding decimal_failures
decimal_told = tried WrongShape is_decimal_value

bounded_told : (bound : ℕ) (rule : Rule)
    → Told (bounded_table bound rule) (bounded_failures bound rule)
unfolding bounded_failures
bounded_told bound rule =
    measured rule (is_at_most bound) (bounded_failures_by bound rule) (λ t n. refl)
    (λ t n d. refl)

offset_told : Told (pair_table (bounded_table COORDINATE CoordinateTooLarge)) offset_failures
unfolding offset_failures
offset_told = pair_told (bounded_told COORDINATE CoordinateTooLarge)

scale_told : Told (pair_table (bounded_table GREATEST_SCALE OutOfRange)) scale_failures
unfolding scale_failures
scale_told = pair_told (bounded_told GREATEST_SCALE OutOfRange)

same_slant : (t : Tree) (n : ℕ) (o : Option (List ℕ)) → slant_failures_by t n o
    ≡ cond (is_some o) (each_by (decimal_failures t) t n o) (decimal_failures t n)
same_slant t n None = refl
same_slant t n (Some items) = refl

slant_told : Told slant_table slant_failures
unfolding slant_failures
slant_told =
    rewritten (choice is_list (every decimal_told) decimal_told)
    (λ t n. slant_failures_by t n (items_at t n)) (λ t n. same_slant t n (items_at t n))

either_way : (b : Bool) (fs : List Failure) → cond b fs [] ≡ cond (not b) [] fs
either_way true fs = refl
either_way false fs = refl

transform_told : Told (here UnsupportedTransform is_supported) transform_failures
unfolding transform_failures
transform_told =
    rewritten (tried UnsupportedTransform is_supported)
    (λ t n. cond (is_unsupported t n) (fails UnsupportedTransform t n) [])
    (λ t n. either_way (is_unsupported t n) (fails UnsupportedTransform t n))

component_told : Told component_table component_failures
unfolding component_failures
component_told =
    also (also (also (also (also (can (codes "ref") text) (can (codes "pos") offset_told))
    (can (codes "scale") scale_told))
    (can (codes "angle") decimal_told))
    (can (codes "slant") slant_told))
    transform_told

-- ---- shapes

other_told : Told other_table other_shape_failures
unfolding other_shape_failures
other_told = checked component_told MissingKey (has (codes "ref"))

same_shape : (t : Tree) (n : ℕ) (o : Option ℕ) → shape_failures_by t n o
    ≡ cond (is_some o)
    (optional (codes "closed") (closed_failures n) t n ++ under_by (nodes_failures t) [] o)
    (other_shape_failures t n)
same_shape t n None = refl
same_shape t n (Some k) = refl

parts_told : Told shape_parts_table shape_parts_failures
unfolding shape_parts_failures
parts_told =
    rewritten (choice (has (codes "nodes")) path_told other_told)
    (λ t n. shape_failures_by t n (find_in t n (codes "nodes")))
    (λ t n. same_shape t n (find_in t n (codes "nodes")))

shape_told : Told shape_table shape_failures
unfolding shape_failures
shape_told = within parts_told

shapes_told : Told (optional_table (codes "shapes") (each_table shape_table)) shapes_failures
unfolding shapes_failures
shapes_told = can (codes "shapes") (every shape_told)

-- ---- anchors

anchor_told : Told anchor_table anchor_failures
unfolding anchor_failures anchor_parts_failures
anchor_told = within (also (must (codes "name") text)
    (can (codes "pos") (pair_told (whole Coordinate))))

nothing_told : Told [] (λ t n. [])
nothing_told = record { tells = λ t n f. (λ p. p, λ p. p) }

anchors_told : (kind : LayerKind) → Told (anchors_table kind) (anchors_failures kind)
unfolding anchors_failures
anchors_told Master = can (codes "anchors") (every anchor_told)
anchors_told Intermediate = nothing_told

-- ---- layers

pub layer_told : (kind : LayerKind) → Told (layer_table kind) (layer_failures kind)
unfolding layer_failures
layer_told kind =
    also (also (must (codes "width") (whole (Natural 0 32767))) shapes_told) (anchors_told kind)
