-- What the table of a layer says of single rules.
use Rattle.std.proofs.Common.{inl, inr, ◌≡◌, ℕ, Bool, true, false, not, List, [], ◌∷◌, refl}
use Rattle.std.proofs.Common.{Option, Some, None, sym, ap, ◌∙◌, subst, true≢false}
use Rattle.std.specs.Option.{option_map_or}
use Rattle.plist_reader.specs.declared.tree.Tree.{Tree}
use Rattle.refusal_codes.specs.declared.limits.TheConstants.{COORDINATE}
use Rattle.refusal_codes.specs.declared.rule.Rule.{Rule}
use Rattle.refusal_codes.specs.declared.rule.Rule.TheVariants.{MissingKey, NotWhole, OutOfRange}
use Rattle.refusal_codes.specs.declared.rule.Rule.TheVariants.{CubicNode, OpenContour}
use Rattle.refusal_codes.specs.declared.rule.Rule.TheVariants.{UnsupportedTransform}
use Rattle.refusal_codes.specs.declared.rule.Rule.TheVariants.{CoordinateTooLarge}
use Rattle.refusal_codes.specs.declared.first.Failure.{Failure}
use Rattle.source_values.specs.declared.decimals.Decimal.{Decimal}
use Rattle.source_values.specs.declared.kinds.Range.TheVariants.{Natural, Coordinate}
use Rattle.source_values.specs.Values.{place_at, decimal_at}
use Rattle.source_values.specs.Ways.{Step, Row, Reaches, FailsRow, Fails, rows_of}
use Rattle.source_values.specs.WayLaws.{by_rule}
use Rattle.source_values.specs.Tables.{decimal_passes}
use Rattle.source_values.specs.Words.{fraction, outside}
use Rattle.layer_shapes.specs.declared.kind.LayerKind.{LayerKind}
use Rattle.layer_shapes.specs.declared.kind.LayerKind.TheVariants.{Master, Intermediate}
use Rattle.layer_shapes.specs.declared.placing.TheConstants.{GREATEST_SCALE}
use Rattle.layer_shapes.specs.Placing.{is_at_most}
use Rattle.layer_shapes.specs.LayerRules.{is_unsupported, layer_failures}
use Rattle.layer_shapes.specs.LayerTables.{is_cubic_node, is_open, layer_table, LayersAreTabled}
use Rattle.layer_shapes.specs.LayerTables.{Spot, at_end, IsSpot, IsAtOneOf, FailsExactlyAt}
use Rattle.layer_shapes.specs.LayerTables.{to_nodes, to_paths, to_components, is_beyond}
use Rattle.layer_shapes.specs.LayerTables.{missing_spots, out_of_range_spots, too_large_spots}
use Rattle.layer_shapes.specs.LayerTables.{fraction_spots, CubicNodesAreRefused}
use Rattle.layer_shapes.specs.LayerTables.{OpenContoursAreRefused, TransformsAreRefused}
use Rattle.layer_shapes.specs.LayerTables.{MissingKeysAreRefused, RangesAreKept}
use Rattle.layer_shapes.specs.LayerTables.{LargeCoordinatesAreRefused, FractionsAreRefused}
use Rattle.layer_shapes.proofs.LayerTableLaws.{layer_told}

pub layers_told : LayersAreTabled
layers_told kind t layer rule place =
    by_rule (layer_table kind) (layer_failures kind) (layer_told kind).tells t layer rule place

-- ---- rows in words

-- a row fails at the end of its way where the spot's test is passed
abbrev IsInWords : Rule → Row → Spot → Type 0
IsInWords rule row spot =
    (row.way ≡ spot.way)
    × (row.rule ≡ rule)
    × ((t : Tree) (n : ℕ) → not (row.holds t n) ≡ spot.test t n)

abbrev AreInWords : Rule → List Row → List Spot → Type 0
AreInWords rule [] [] = Unit {0}
AreInWords rule [] (spot ∷ spots) = ⊥
AreInWords rule (row ∷ rows) [] = ⊥
AreInWords rule (row ∷ rows) (spot ∷ spots) = IsInWords rule row spot × AreInWords rule rows spots

is_not : (b : Bool) → b ≡ false → not b ≡ true
is_not true e = absurd (true≢false e)
is_not false e = refl

isnt : (b : Bool) → not b ≡ true → b ≡ false
isnt true e = absurd (true≢false (sym e))
isnt false e = refl

module _ (rule : Rule) (t : Tree) (layer place : ℕ) where
  abbrev failure : Failure
  failure = record { rule = rule; place = place }

  to_spot : (row : Row) (spot : Spot) → IsInWords rule row spot → FailsRow row t layer failure
      → IsSpot t layer spot place
  to_spot row spot (way, its_rule, test) (n, reaches, not, same) = (
    n,
    subst (λ (steps : List Step). Reaches t steps layer n) way reaches,
    sym (test t n) ∙ is_not (row.holds t n) not,
    ap (λ (f : Failure). f.place) same,
  )

  of_spot : (row : Row) (spot : Spot) → IsInWords rule row spot → IsSpot t layer spot place
      → FailsRow row t layer failure
  of_spot row spot (way, its_rule, test) (n, reaches, passes, same) = (
    n,
    subst (λ (steps : List Step). Reaches t steps layer n) (sym way) reaches,
    isnt (row.holds t n) (test t n ∙ passes),
    ap (λ (p : ℕ). let f : Failure = record { rule = rule; place = p } in f) same
        ∙ ap (λ (r : Rule). let f : Failure = record { rule = r; place = place_at t n } in f)
        (sym its_rule),
  )

  to_spots : (rows : List Row) (spots : List Spot) → AreInWords rule rows spots
      → Fails rows t layer failure
      → IsAtOneOf t layer spots place
  to_spots [] [] are p = p
  to_spots [] (spot ∷ spots) are p = absurd are
  to_spots (row ∷ rows) [] are p = absurd are
  to_spots (row ∷ rows) (spot ∷ spots) are (inl p) = inl (to_spot row spot are.0 p)
  to_spots (row ∷ rows) (spot ∷ spots) are (inr p) = inr (to_spots rows spots are.1 p)

  of_spots : (rows : List Row) (spots : List Spot) → AreInWords rule rows spots
      → IsAtOneOf t layer spots place
      → Fails rows t layer failure
  of_spots [] [] are p = p
  of_spots [] (spot ∷ spots) are p = absurd are
  of_spots (row ∷ rows) [] are p = absurd are
  of_spots (row ∷ rows) (spot ∷ spots) are (inl p) = inl (of_spot row spot are.0 p)
  of_spots (row ∷ rows) (spot ∷ spots) are (inr p) = inr (of_spots rows spots are.1 p)

exactly : (rule : Rule) (spots : LayerKind → List Spot)
    → ((kind : LayerKind) → AreInWords rule (rows_of rule (layer_table kind)) (spots kind))
    → FailsExactlyAt rule spots
exactly rule spots are kind t layer place = (
  λ p. to_spots rule t layer place (rows_of rule (layer_table kind)) (spots kind) (are kind)
      ((layers_told kind t layer rule place).0 p),
  λ p. (layers_told kind t layer rule place).1
      (of_spots rule t layer place (rows_of rule (layer_table kind)) (spots kind) (are kind) p),
)

-- ---- single rules

twice : (b : Bool) → not (not b) ≡ b
twice true = refl
twice false = refl

beyond_by : (test : Decimal → Bool) (o : Option Decimal)
    → not (option_map_or test o true) ≡ option_map_or (λ d. not (test d)) o false
beyond_by test None = refl
beyond_by test (Some d) = refl

beyond : (bound : ℕ) (t : Tree) (n : ℕ)
    → not (decimal_passes (is_at_most bound) t n) ≡ is_beyond bound t n
beyond bound t n = beyond_by (is_at_most bound) (decimal_at t n)

pub cubic_nodes : CubicNodesAreRefused
cubic_nodes = exactly CubicNode (λ kind. at_end to_nodes is_cubic_node) so
  where
    so : (kind : LayerKind) → AreInWords CubicNode (rows_of CubicNode (layer_table kind))
        (at_end to_nodes is_cubic_node)
    so Master = ((refl, refl, λ t n. twice (is_cubic_node t n)), tt)
    so Intermediate = ((refl, refl, λ t n. twice (is_cubic_node t n)), tt)

pub open_contours : OpenContoursAreRefused
open_contours = exactly OpenContour (λ kind. at_end to_paths is_open) so
  where
    so : (kind : LayerKind) → AreInWords OpenContour (rows_of OpenContour (layer_table kind))
        (at_end to_paths is_open)
    so Master = ((refl, refl, λ t n. twice (is_open t n)), tt)
    so Intermediate = ((refl, refl, λ t n. twice (is_open t n)), tt)

pub transforms : TransformsAreRefused
transforms = exactly UnsupportedTransform (λ kind. at_end to_components is_unsupported) so
  where
    so : (kind : LayerKind)
        → AreInWords UnsupportedTransform (rows_of UnsupportedTransform (layer_table kind))
        (at_end to_components is_unsupported)
    so Master = ((refl, refl, λ t n. twice (is_unsupported t n)), tt)
    so Intermediate = ((refl, refl, λ t n. twice (is_unsupported t n)), tt)

pub missing_keys : MissingKeysAreRefused
missing_keys = exactly MissingKey missing_spots so
  where
    so : (kind : LayerKind)
        → AreInWords MissingKey (rows_of MissingKey (layer_table kind)) (missing_spots kind)
    so Master = (
      (refl, refl, λ t n. refl),
      (
        (refl, refl, λ t n. refl),
        (
          (refl, refl, λ t n. refl),
          tt,
        ),
      ),
    )
    so Intermediate = ((refl, refl, λ t n. refl), ((refl, refl, λ t n. refl), tt))

pub ranges : RangesAreKept
ranges = exactly OutOfRange out_of_range_spots so
  where
    so : (kind : LayerKind)
        → AreInWords OutOfRange (rows_of OutOfRange (layer_table kind)) (out_of_range_spots kind)
    so Master = (
      (refl, refl, outside (Natural 0 32767)),
      (
        (refl, refl, beyond GREATEST_SCALE),
        (
          (refl, refl, beyond GREATEST_SCALE),
          tt,
        ),
      ),
    )
    so Intermediate = (
      (refl, refl, outside (Natural 0 32767)),
      (
        (refl, refl, beyond GREATEST_SCALE),
        (
          (refl, refl, beyond GREATEST_SCALE),
          tt,
        ),
      ),
    )

pub large_coordinates : LargeCoordinatesAreRefused
large_coordinates = exactly CoordinateTooLarge too_large_spots so
  where
    so : (kind : LayerKind)
        → AreInWords CoordinateTooLarge (rows_of CoordinateTooLarge (layer_table kind))
        (too_large_spots kind)
    so Master = (
      (refl, refl, outside Coordinate),
      (
        (refl, refl, outside Coordinate),
        (
          (refl, refl, beyond COORDINATE),
          (
            (refl, refl, beyond COORDINATE),
            (
              (refl, refl, outside Coordinate),
              (
                (refl, refl, outside Coordinate),
                tt,
              ),
            ),
          ),
        ),
      ),
    )
    so Intermediate = (
      (refl, refl, outside Coordinate),
      (
        (refl, refl, outside Coordinate),
        (
          (refl, refl, beyond COORDINATE),
          (
            (refl, refl, beyond COORDINATE),
            tt,
          ),
        ),
      ),
    )

pub fractions : FractionsAreRefused
fractions = exactly NotWhole fraction_spots so
  where
    so : (kind : LayerKind)
        → AreInWords NotWhole (rows_of NotWhole (layer_table kind)) (fraction_spots kind)
    so Master = (
      (refl, refl, fraction),
      (
        (refl, refl, fraction),
        (
          (refl, refl, fraction),
          (
            (refl, refl, fraction),
            (
              (refl, refl, fraction),
              (
                (refl, refl, fraction),
                tt,
              ),
            ),
          ),
        ),
      ),
    )
    so Intermediate = (
      (refl, refl, fraction),
      (
        (refl, refl, fraction),
        (
          (refl, refl, fraction),
          (
            (refl, refl, fraction),
            tt,
          ),
        ),
      ),
    )
