-- The rows of the metrics that vary are those of a store, over the supports behind the first one.
use Rattle.std.proofs.Common.{◌≡◌, ℕ, suc, ◌+◌, ◌-◌, ◌<◌, ◌≤◌, Bool, true, false, List, [], ◌∷◌}
use Rattle.std.proofs.Common.{length, map, take, drop, get_or, cond, sym, ap, ◌∙◌, subst, arith}
use Rattle.std.proofs.Common.{length-drop}
use Rattle.std.specs.Prelude.{ℤ, EachIndex}
use Rattle.std.specs.List.{All}
use Rattle.std.proofs.lemmas.List.{length-map, take_all, get_or_default}
use Rattle.std.proofs.lemmas.List.Elements.{All-weaker}
use Rattle.fixed_math.specs.declared.F2Dot14.{F2Dot14}
use Rattle.font_ir.specs.Headers.{IsHeader, IsMaster}
use Rattle.font_ir.specs.Places.{axis_count}
use Rattle.font_ir.specs.declared.header.Header.{Header}
use Rattle.font_ir.specs.declared.header.Master.{Master}
use Rattle.font_ir.specs.declared.variation.Region.{Region}
use Rattle.region_store.specs.Stores.{IsStore}
use Rattle.variation_model.specs.Deltas.{region_at}
use Rattle.style_tables.specs.declared.metrics.Metric.{Metric}
use Rattle.style_tables.specs.Metrics.{all_metrics, row_of, rows_of, varied_among}
use Rattle.style_tables.specs.Metrics.{varied_metrics, varies}

abbrev locations_of : List Master → List (List F2Dot14)
locations_of masters = map (λ master. master.location) masters

-- a location has a coordinate for each axis
axes_are : (header : Header) → IsHeader header
    → axis_count (locations_of header.masters) ≡ length header.axes
axes_are header h = by header.masters h.masters (omega (arith, h.origin))
  where
    by : (masters : List Master) → All (IsMaster (length header.axes)) masters → 0 < length masters
        → axis_count (locations_of masters) ≡ length header.axes
    by [] all some = absurd (omega (arith, some))
    by (master ∷ masters) all some = (all 0 master some).location

-- what is told of each region is told of those behind the first one
behind_first : (axes : ℕ) (regions : List Region)
    → EachIndex regions (λ i. length (region_at regions i).sides ≡ axes)
    → All (λ region. length region.sides ≡ axes) (drop 1 regions)
behind_first axes [] each = λ k d within. absurd (omega (arith, within))
behind_first axes (region ∷ regions) each = λ k d within.
    let same : get_or regions k d ≡ get_or regions k (record { sides = [] })
    = get_or_default regions k d (record { sides = [] }) within in
    ap (λ (r : Region). length r.sides) same ∙ each (suc k) (omega (arith, within))

few_kept : (header : Header) (metrics : List Metric)
    → length (varied_among header metrics) ≤ length metrics
few_kept header [] = omega arith
few_kept header (metric ∷ metrics) = by (varies header metric) (few_kept header metrics)
  where
    by : (kept : Bool) → length (varied_among header metrics) ≤ length metrics
        → length (cond kept (metric ∷ varied_among header metrics) (varied_among header metrics))
        ≤ suc (length metrics)
    by true h = omega (arith, h)
    by false h = omega (arith, h)

pub is_store : (header : Header) (places : List (List F2Dot14)) (supports : List Region)
    (rows : List (List ℤ)) → IsHeader header → places ≡ locations_of header.masters
    → length supports ≡ length places
    → EachIndex supports (λ i. length (region_at supports i).sides ≡ axis_count places)
    → rows ≡ rows_of header (varied_metrics header)
    → All (λ row. length row + 1 ≡ length header.masters) rows → (axes : ℕ)
    → axes ≡ length header.axes
    → IsStore (record {
      axes = axes;
      regions = take (length supports - 1) (drop 1 supports);
      rows = rows;
    })
is_store header places supports rows h is as_many sides rows_are long axes axes_is =
    let masters : length places ≡ length header.masters
    = ap length is ∙ length-map header.masters (λ (master : Master). master.location) in
    let axis : axis_count places ≡ axes = ap axis_count is ∙ axes_are header h ∙ sym axes_is in
    let all : take (length supports - 1) (drop 1 supports) ≡ drop 1 supports
    = take_all (length supports - 1) (drop 1 supports) (omega (arith, length-drop 1 supports)) in
    let behind = behind_first axes supports (λ i within. sides i within ∙ axis) in
    record {
      few_regions = omega (
        arith,
        h.few_masters,
        masters,
        as_many,
        length-drop 1 supports,
        ap length all,
      );
      few_rows = omega (
        arith,
        few_kept header all_metrics,
        ap length rows_are,
        length-map (varied_metrics header) (row_of header),
      );
      sides = subst (All (λ region. length region.sides ≡ axes)) (sym all) behind;
      deltas = All-weaker (λ row. length row + 1 ≡ length header.masters)
          (λ row. length row ≡ length (take (length supports - 1) (drop 1 supports)))
          (λ row (r : length row + 1 ≡ length header.masters). omega (
            arith,
            r,
            masters,
            as_many,
            ap length all,
            length-drop 1 supports,
          )) rows long;
    }
