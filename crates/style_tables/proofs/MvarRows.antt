-- Worked rows: the metrics of families of two masters, at 0, the default, and at 1 on one axis, and
-- of four masters on two axes.
use Rattle.std.proofs.Common.{◌≡◌, ℕ, pos, neg_ℤ, ℤ, List, [], ◌∷◌, codes, Some, None, refl}
use Rattle.fixed_math.specs.declared.F2Dot14.{F2Dot14}
use Rattle.font_ir.specs.declared.header.Header.{Header}
use Rattle.font_ir.specs.declared.header.Master.{Master}
use Rattle.region_store.specs.Written.{store_bytes}
use Rattle.table_tree.specs.Layouts.{layout_of}
use Rattle.variation_model.specs.Deltas.{deltas_of}
use Rattle.variation_model.specs.Places.{order_of}
use Rattle.variation_model.specs.Supports.{supports_of}
use Rattle.style_tables.specs.Metrics.{all_metrics, first_large_of, varied_metrics}
use Rattle.style_tables.specs.Mvar.{mvar_bytes, mvar_head, mvar_table, value_record}
use Rattle.style_tables.specs.declared.metrics.Metric.TheVariants.{Ascender, XHeight}

-- a master at a location, with its ascender and x-height
abbrev master_at : List F2Dot14 → ℤ → ℤ → Master
master_at location ascender xheight = record {
  id = [];
  design = [];
  user = [];
  location = location;
  ascender = ascender;
  descender = neg_ℤ (pos 200);
  cap = pos 0;
  xheight = xheight;
  place = 0;
}

abbrev master : ℤ → ℤ → ℤ → Master
master location ascender xheight = master_at (record { 0 = location } ∷ []) ascender xheight

abbrev corner : ℕ → ℕ → ℤ → Master
corner x y ascender = master_at (record { 0 = pos x } ∷ record { 0 = pos y } ∷ []) ascender (pos 0)

abbrev family : List Master → Header
family masters = record {
  upem = 1000;
  family = codes "Tri";
  major = 1;
  minor = 0;
  axes = record { name = codes "Weight"; tag = record { 0 = codes "wght" } } ∷ [];
  masters = masters;
  masters_place = 0;
  origin = 0;
  instances = [];
  kerning = [];
  kern_place = 0;
  features = [];
}

-- an x-height that grows from 500 to 510: its record, and the store of its row
one_metric : mvar_table (family (master (pos 0) (pos 800) (pos 500)
    ∷ master (pos 16384) (pos 800) (pos 510) ∷ [])) ≡ Some
    (0 ∷ 1 ∷ 0 ∷ 0 ∷ 0 ∷ 0 ∷ 0 ∷ 8 ∷ 0 ∷ 1 ∷ 0 ∷ 0x14
    ∷ 0x78 ∷ 0x68 ∷ 0x67 ∷ 0x74 ∷ 0 ∷ 0 ∷ 0 ∷ 0
    ∷ 0 ∷ 1 ∷ 0 ∷ 0 ∷ 0 ∷ 0x0c ∷ 0 ∷ 1 ∷ 0 ∷ 0 ∷ 0 ∷ 0x16
    ∷ 0 ∷ 1 ∷ 0 ∷ 1 ∷ 0 ∷ 0 ∷ 0x40 ∷ 0 ∷ 0x40 ∷ 0
    ∷ 0 ∷ 1 ∷ 0 ∷ 1 ∷ 0 ∷ 1 ∷ 0 ∷ 0 ∷ 0 ∷ 0x0a ∷ [])
unfolding mvar_bytes mvar_head value_record store_bytes layout_of deltas_of supports_of order_of
one_metric = refl

-- no metric changes: there is no table
no_metric : mvar_table (family (master (pos 0) (pos 800) (pos 500)
    ∷ master (pos 16384) (pos 800) (pos 500) ∷ [])) ≡ None
unfolding deltas_of supports_of order_of
no_metric = refl

-- two metrics that change by as much have a row each, by tag
two_metrics : varied_metrics (family (master (pos 0) (pos 800) (pos 500)
    ∷ master (pos 16384) (pos 810) (pos 510) ∷ [])) ≡ Ascender ∷ XHeight ∷ []
unfolding deltas_of supports_of order_of
two_metrics = refl

-- Ascenders of 0 at the default, 16383 at the end of each of two axes, and -2 at the end of both:
-- the last delta is -32768, which is stored. With -3 it is not: it is the third in the model's
-- order, counted from 0.
abbrev corners : ℤ → Header
corners last = family (corner 0 0 (pos 0) ∷ corner 16384 0 (pos 16383)
    ∷ corner 0 16384 (pos 16383) ∷ corner 16384 16384 last ∷ [])

greatest_delta : first_large_of (corners (neg_ℤ (pos 2))) all_metrics ≡ None
unfolding deltas_of supports_of order_of
greatest_delta = refl

one_refusal : first_large_of (corners (neg_ℤ (pos 3))) all_metrics
    ≡ Some (3, neg_ℤ (pos 32769))
unfolding deltas_of supports_of order_of
one_refusal = refl
