-- The tables tell what metrics, parameters and masters fail.
use Rattle.std.proofs.Common.{inl, inr, ◌≡◌, ◌⊎◌, ℕ, zero, suc, Bool, true, false, not, ◌||◌, cond}
use Rattle.std.proofs.Common.{List, [], ◌∷◌, ◌++◌, Option, Some, None, unwrap_or, refl, sym}
use Rattle.std.proofs.Common.{ap, ◌∙◌, subst}
use Rattle.std.specs.Prelude.{codes, flat_map, slice_get, ◌↔◌}
use Rattle.std.specs.Option.{option_map_or}
use Rattle.std.specs.List.{zip}
use Rattle.plist_reader.specs.declared.tree.Tree.{Tree}
use Rattle.plist_reader.specs.Tree.{find_in}
use Rattle.refusal_codes.specs.declared.rule.Rule.{Rule}
use Rattle.refusal_codes.specs.declared.rule.Rule.TheVariants.{WrongShape, NotWhole, OutOfRange}
use Rattle.refusal_codes.specs.declared.first.Failure.{Failure}
use Rattle.source_values.specs.declared.decimals.Decimal.{Decimal}
use Rattle.source_values.specs.declared.kinds.Range.TheVariants.{Any, Coordinate}
use Rattle.source_values.specs.Decimals.{is_whole}
use Rattle.source_values.specs.Values.{items_at, is_dictionary, decimal_at, in_range}
use Rattle.source_values.specs.Asking.{fails, text_failures, dictionary_failures, each, each_by}
use Rattle.source_values.specs.Asking.{dictionary, optional, required, under_by}
use Rattle.source_values.specs.Ways.{IsOneOf, each_item, Leads, Fails, rows_of}
use Rattle.source_values.specs.WayLaws.{among_left, among_right, among_cases, by_rule, of_items}
use Rattle.source_values.specs.WayLaws.{to_items}
use Rattle.source_values.specs.Tables.{decimal_passes, is_within, text_table}
use Rattle.source_values.specs.Telling.{Told, whole, text, any_dictionary, tried, measured}
use Rattle.source_values.specs.Telling.{rewritten, also, must, can, every, within, of_several}
use Rattle.source_values.specs.Telling.{to_several}
use Rattle.source_axes.specs.AxisValues.{axis_value_failures}
use Rattle.source_axes.specs.AxisTelling.{axis_value_told}
use Rattle.source_masters.specs.Parameters.{parameter_at, entry_failures, parameters_failures}
use Rattle.source_masters.specs.Parameters.{font_parameters_failures}
use Rattle.source_masters.specs.Metrics.{metric_failures, metrics_failures, height_failures_by}
use Rattle.source_masters.specs.Metrics.{height_failures, value_failures, metric_values_failures}
use Rattle.source_masters.specs.MasterRules.{location_failures, locations_failures}
use Rattle.source_masters.specs.MasterRules.{master_parameters_failures, master_parts_failures}
use Rattle.source_masters.specs.MasterRules.{masters_failures}
use Rattle.source_masters.specs.MasterTables.{metrics_table, entry_table}
use Rattle.source_masters.specs.MasterTables.{parameters_table, masters_table}
use Rattle.source_masters.specs.MasterTables.{height_table, value_table, location_table}
use Rattle.source_masters.specs.MasterTables.{locations_table}
use Rattle.source_masters.specs.MasterTables.{FailsAsHeight, FailsAsLocations, MetricsAreTabled}
use Rattle.source_masters.specs.MasterTables.{FontParametersAreTabled, MastersAreTabled}

-- ---- what tables tell by themselves

metric_told : Told metrics_table metrics_failures
unfolding metric_failures
metric_told = every (within (can (codes "type") text))

entry_told : Told entry_table entry_failures
unfolding entry_failures
entry_told = also (can (codes "name") text) (can (codes "disabled") (whole Any))

location_told : Told location_table location_failures
unfolding location_failures
location_told = also (can (codes "Axis") text) (can (codes "Location") axis_value_told)

locations_told : Told locations_table locations_failures
locations_told = every (within location_told)

-- a height is a decimal, and whole, and a whole one is in its range
abbrev whole_first : Tree → ℕ → Option Decimal → List Failure
whole_first t n None = fails WrongShape t n
whole_first t n (Some d) = cond (is_whole d) [] (fails NotWhole t n)

height_parts : (t : Tree) (n : ℕ) (o : Option Decimal) → height_failures_by t n o
    ≡ whole_first t n o
    ++ cond (option_map_or (is_within Coordinate) o true) [] (fails OutOfRange t n)
height_parts t n None = refl
height_parts t n (Some d) = by (is_whole d) (in_range Coordinate d)
  where
    by : (a b : Bool) → cond a (cond b [] (fails OutOfRange t n)) (fails NotWhole t n)
        ≡ cond a [] (fails NotWhole t n) ++ cond (not a || b) [] (fails OutOfRange t n)
    by true true = refl
    by true false = refl
    by false b = refl

height_told : Told height_table height_failures
unfolding height_failures
height_told =
    rewritten
    (also (measured NotWhole is_whole whole_first (λ t n. refl) (λ t n d. refl))
    (tried OutOfRange (decimal_passes (is_within Coordinate))))
    (λ t n. height_failures_by t n (decimal_at t n))
    (λ t n. height_parts t n (decimal_at t n))

value_told : Told value_table (optional (codes "pos") height_failures)
value_told = can (codes "pos") height_told

-- masters, but for what is reached from lists
abbrev plain_parts : Tree → ℕ → List Failure
plain_parts t m =
    required (codes "id") text_failures t m
    ++ optional (codes "axesValues") (each axis_value_failures) t m
    ++ optional (codes "metricValues") (each dictionary_failures) t m
    ++ optional (codes "customParameters") (each (dictionary entry_failures)) t m

plain_told : Told masters_table (each (dictionary plain_parts))
plain_told =
    every (within (also (also (also (must (codes "id") text)
    (can (codes "axesValues") (every axis_value_told)))
    (can (codes "metricValues") (every any_dictionary)))
    (can (codes "customParameters") (every (within entry_told)))))

-- ---- what fails besides

-- what fails is what some rules fail, and what fails besides
pub record Splits (p g : Tree → ℕ → List Failure) (E : Tree → ℕ → Failure → Type 0)
    : Type 0 where
  pub from : (t : Tree) (n : ℕ) (f : Failure) → IsOneOf (p t n) f → IsOneOf (g t n) f ⊎ E t n f
  pub to : (t : Tree) (n : ℕ) (f : Failure) → IsOneOf (g t n) f ⊎ E t n f → IsOneOf (p t n) f

-- the value that counts of a parameter
abbrev InParameter : List ℕ → (Tree → ℕ → List Failure) → Tree → ℕ → Failure → Type 0
InParameter name failures t n f =
    (v : ℕ) × (parameter_at name t n ≡ Some v) × IsOneOf (failures t v) f

module _ (name : List ℕ) (failures : Tree → ℕ → List Failure) where
  from_value : (t : Tree) (n : ℕ) (f : Failure) (o : Option ℕ) → parameter_at name t n ≡ o
      → IsOneOf (option_map_or (failures t) o []) f → InParameter name failures t n f
  from_value t n f None e p = absurd p
  from_value t n f (Some v) e p = (v, e, p)

  to_value_of : (t : Tree) (n : ℕ) (f : Failure) → InParameter name failures t n f
      → IsOneOf (option_map_or (failures t) (parameter_at name t n) []) f
  to_value_of t n f (v, e, p) =
      subst (λ (o : Option ℕ). IsOneOf (option_map_or (failures t) o []) f) (sym e) p

  parameters_split : Splits (parameters_failures name failures) (each (dictionary entry_failures))
      (InParameter name failures)
  unfolding parameters_failures
  parameters_split = record {
    from = λ t n f p. elim (among_cases f (each (dictionary entry_failures) t n)
        (option_map_or (failures t) (parameter_at name t n) []) p) [
          | inl q ↦ inl q
          | inr q ↦ inr (from_value t n f (parameter_at name t n) refl q)
        ];
    to = λ t n f p. elim p [
      | inl q ↦ among_left f (each (dictionary entry_failures) t n)
          (option_map_or (failures t) (parameter_at name t n) []) q
      | inr q ↦ among_right f (each (dictionary entry_failures) t n)
          (option_map_or (failures t) (parameter_at name t n) []) (to_value_of t n f q)
    ];
  }

-- two lists beside each other
module _ (b : Bool) (v : ℕ) where
  from_zip : (us : List Bool) (vs : List ℕ) → IsOneOf (zip us vs) (b, v)
      → (p : ℕ) × (slice_get us p ≡ Some b) × (slice_get vs p ≡ Some v)
  from_zip [] vs p = absurd p
  from_zip (u ∷ us) [] p = absurd p
  from_zip (u ∷ us) (w ∷ vs) (inl e) = (
    0,
    ap (λ (pair : Bool × ℕ). Some pair.0) (sym e),
    ap (λ (pair : Bool × ℕ). Some pair.1) (sym e),
  )
  from_zip (u ∷ us) (w ∷ vs) (inr p) =
      let (k, first, second) = from_zip us vs p in (suc k, first, second)

  to_zip : (us : List Bool) (vs : List ℕ) (p : ℕ) → slice_get us p ≡ Some b
      → slice_get vs p ≡ Some v → IsOneOf (zip us vs) (b, v)
  to_zip [] vs p e f = absurd cc
  to_zip (u ∷ us) [] p e f = absurd cc
  to_zip (u ∷ us) (w ∷ vs) zero e f =
      let first : b ≡ u = cc in let second : v ≡ w = cc in
      inl (ap (λ (x : Bool). (x, v)) first ∙ ap (λ (y : ℕ). (u, y)) second)
  to_zip (u ∷ us) (w ∷ vs) (suc p) e f = inr (to_zip us vs p e f)

-- the value beside a used metric
abbrev BesideUsed : List Bool → Tree → ℕ → Failure → Type 0
BesideUsed used t n f =
    (p : ℕ)
    × (slice_get used p ≡ Some true)
    × (v : ℕ)
    × ((items : List ℕ) × (items_at t n ≡ Some items) × (slice_get items p ≡ Some v))
    × IsOneOf (optional (codes "pos") height_failures t v) f

module _ (used : List Bool) (t : Tree) (n : ℕ) (f : Failure) where
  one_beside : (b : Bool) (v : ℕ) → IsOneOf (value_failures t (b, v)) f
      → (b ≡ true) × IsOneOf (optional (codes "pos") height_failures t v) f
  unfolding value_failures
  one_beside true v p = (refl, p)
  one_beside false v p = absurd p

  used_beside : (v : ℕ) → IsOneOf (optional (codes "pos") height_failures t v) f
      → IsOneOf (value_failures t (true, v)) f
  unfolding value_failures
  used_beside v p = p

  from_beside : (o : Option (List ℕ)) → items_at t n ≡ o
      → IsOneOf (flat_map (value_failures t) (zip used (unwrap_or o []))) f
      → BesideUsed used t n f
  from_beside None e p =
      let ((b, v), is, q) = of_several (value_failures t) f (zip used []) p in
      let (k, first, second) = from_zip b v used [] is in
      absurd (none_there k v second)
    where
      none_there : (k v : ℕ) → slice_get {X = ℕ} [] k ≡ Some v → ⊥
      none_there k v e = cc
  from_beside (Some vs) e p =
      let ((b, v), is, q) = of_several (value_failures t) f (zip used vs) p in
      let (k, first, second) = from_zip b v used vs is in
      let (true_there, r) = one_beside b v q in
      (k, first ∙ ap (λ (x : Bool). Some x) true_there, v, (vs, e, second), r)

  to_beside : BesideUsed used t n f
      → IsOneOf (flat_map (value_failures t) (zip used (unwrap_or (items_at t n) []))) f
  to_beside (p, first, v, (vs, e, second), q) =
      subst (λ (o : Option (List ℕ)). IsOneOf (flat_map (value_failures t)
      (zip used (unwrap_or o []))) f) (sym e)
      (to_several (value_failures t) f (zip used vs) (true, v)
      (to_zip true v used vs p first second) (used_beside v q))

values_split : (used : List Bool)
    → Splits (metric_values_failures used) (each dictionary_failures) (BesideUsed used)
unfolding metric_values_failures
values_split used = record {
  from = λ t n f p. elim (among_cases f (each dictionary_failures t n)
      (flat_map (value_failures t) (zip used (unwrap_or (items_at t n) []))) p) [
        | inl q ↦ inl q
        | inr q ↦ inr (from_beside used t n f (items_at t n) refl q)
      ];
  to = λ t n f p. elim p [
    | inl q ↦ among_left f (each dictionary_failures t n)
        (flat_map (value_failures t) (zip used (unwrap_or (items_at t n) []))) q
    | inr q ↦ among_right f (each dictionary_failures t n)
        (flat_map (value_failures t) (zip used (unwrap_or (items_at t n) [])))
        (to_beside used t n f q)
  ];
}

-- ---- of rules made of others

module _ (p g : Tree → ℕ → List Failure) (E : Tree → ℕ → Failure → Type 0) (s : Splits p g E)
  where
    abbrev Under : List ℕ → Tree → ℕ → Failure → Type 0
    Under key t n f = (k : ℕ) × (find_in t n key ≡ Some k) × E t k f

    module _ (key : List ℕ) (t : Tree) (n : ℕ) (f : Failure) where
      from_under : (o : Option ℕ) → find_in t n key ≡ o → IsOneOf (under_by (p t) [] o) f
          → IsOneOf (under_by (g t) [] o) f ⊎ Under key t n f
      from_under None e q = absurd q
      from_under (Some k) e q = elim (s.from t k f q) [ inl r ↦ inl r | inr r ↦ inr (k, e, r) ]

      to_under : (o : Option ℕ) → find_in t n key ≡ o
          → IsOneOf (under_by (g t) [] o) f ⊎ Under key t n f → IsOneOf (under_by (p t) [] o) f
      to_under None e (inl q) = absurd q
      to_under None e (inr (k, there, q)) = absurd (none_some k (sym e ∙ there))
        where
          none_some : (k : ℕ) → None ≡ Some k → ⊥
          none_some k e = cc
      to_under (Some k) e (inl q) = s.to t k f (inl q)
      to_under (Some k) e (inr (m, there, q)) =
          let same : m ≡ k = one (sym there ∙ e) in
          s.to t k f (inr (subst (λ (i : ℕ). E t i f) same q))
        where
          one : Some m ≡ Some k → m ≡ k
          one h = cc

    under_split : (key : List ℕ) → Splits (optional key p) (optional key g) (Under key)
    under_split key = record {
      from = λ t n f. from_under key t n f (find_in t n key) refl;
      to = λ t n f. to_under key t n f (find_in t n key) refl;
    }

    -- dictionaries in a list
    abbrev Inside : Tree → ℕ → Failure → Type 0
    Inside t n f = (k : ℕ) × Leads t each_item n k × (is_dictionary t k ≡ true) × E t k f

    module _ (t : Tree) (f : Failure) where
      from_dictionary : (k : ℕ) (b : Bool) → is_dictionary t k ≡ b
          → IsOneOf (cond b (p t k) (fails WrongShape t k)) f
          → IsOneOf (cond b (g t k) (fails WrongShape t k)) f
          ⊎ ((is_dictionary t k ≡ true) × E t k f)
      from_dictionary k true e q = elim (s.from t k f q) [ inl r ↦ inl r | inr r ↦ inr (e, r) ]
      from_dictionary k false e q = inl q

      to_dictionary : (k : ℕ) (b : Bool) → is_dictionary t k ≡ b
          → IsOneOf (cond b (g t k) (fails WrongShape t k)) f
          ⊎ ((is_dictionary t k ≡ true) × E t k f)
          → IsOneOf (cond b (p t k) (fails WrongShape t k)) f
      to_dictionary k true e (inl q) = s.to t k f (inl q)
      to_dictionary k true e (inr (is, q)) = s.to t k f (inr q)
      to_dictionary k false e (inl q) = q
      to_dictionary k false e (inr (is, q)) = absurd (both (sym e ∙ is))
        where
          both : false ≡ true → ⊥
          both h = cc

      from_each : (n : ℕ) (o : Option (List ℕ)) → items_at t n ≡ o
          → IsOneOf (each_by (dictionary p t) t n o) f
          → IsOneOf (each_by (dictionary g t) t n o) f ⊎ Inside t n f
      from_each n None e q = inl q
      from_each n (Some ns) e q =
          let (k, is, r) = of_items (dictionary p t) f ns q in
          elim (from_dictionary k (is_dictionary t k) refl r) [
            | inl a ↦ inl (to_items (dictionary g t) f ns k is a)
            | inr a ↦ inr (k, (ns, e, is), a.0, a.1)
          ]

      to_each : (n : ℕ) (o : Option (List ℕ)) → items_at t n ≡ o
          → IsOneOf (each_by (dictionary g t) t n o) f ⊎ Inside t n f
          → IsOneOf (each_by (dictionary p t) t n o) f
      to_each n None e (inl q) = q
      to_each n None e (inr (k, (ns, there, is), d, q)) = absurd (none_some ns (sym e ∙ there))
        where
          none_some : (ns : List ℕ) → None ≡ Some ns → ⊥
          none_some ns h = cc
      to_each n (Some ns) e (inl q) =
          let (k, is, r) = of_items (dictionary g t) f ns q in
          to_items (dictionary p t) f ns k is (to_dictionary k (is_dictionary t k) refl (inl r))
      to_each n (Some ns) e (inr (k, (ms, there, is), d, q)) =
          let same : ms ≡ ns = one (sym there ∙ e) in
          to_items (dictionary p t) f ns k (subst (λ (l : List ℕ). IsOneOf l k) same is)
          (to_dictionary k (is_dictionary t k) refl (inr (d, q)))
        where
          one : Some ms ≡ Some ns → ms ≡ ns
          one h = cc

    inside_split : Splits (each (dictionary p)) (each (dictionary g)) Inside
    inside_split = record {
      from = λ t n f. from_each t f n (items_at t n) refl;
      to = λ t n f. to_each t f n (items_at t n) refl;
    }

-- ---- masters

abbrev ofMetrics : List Bool → Tree → ℕ → Failure → Type 0
ofMetrics used = Under (metric_values_failures used) (each dictionary_failures) (BesideUsed used)
    (values_split used) (codes "metricValues")

abbrev InLocations : Tree → ℕ → Failure → Type 0
InLocations = InParameter (codes "Axis Location") locations_failures

abbrev ofLocations : Tree → ℕ → Failure → Type 0
ofLocations = Under master_parameters_failures (each (dictionary entry_failures)) InLocations
    (parameters_split (codes "Axis Location") locations_failures) (codes "customParameters")

abbrev Besides : List Bool → Tree → ℕ → Failure → Type 0
Besides used t m f = ofMetrics used t m f ⊎ ofLocations t m f

module _ (used : List Bool) where
  metrics_split : Splits (optional (codes "metricValues") (metric_values_failures used))
      (optional (codes "metricValues") (each dictionary_failures)) (ofMetrics used)
  metrics_split = under_split (metric_values_failures used) (each dictionary_failures)
      (BesideUsed used) (values_split used) (codes "metricValues")

  locations_split : Splits (optional (codes "customParameters") master_parameters_failures)
      (optional (codes "customParameters") (each (dictionary entry_failures))) ofLocations
  locations_split = under_split master_parameters_failures (each (dictionary entry_failures))
      InLocations (parameters_split (codes "Axis Location") locations_failures)
      (codes "customParameters")

  module _ (t : Tree) (m : ℕ) (f : Failure) where
    abbrev front : List Failure
    front = required (codes "id") text_failures t m
        ++ optional (codes "axesValues") (each axis_value_failures) t m

    abbrev values : List Failure
    values = optional (codes "metricValues") (metric_values_failures used) t m

    abbrev plain_values : List Failure
    plain_values = optional (codes "metricValues") (each dictionary_failures) t m

    abbrev parameters : List Failure
    parameters = optional (codes "customParameters") master_parameters_failures t m

    abbrev plain_parameters : List Failure
    plain_parameters = optional (codes "customParameters") (each (dictionary entry_failures)) t m

    from_front : IsOneOf (front ++ values) f
        → IsOneOf (front ++ plain_values) f ⊎ ofMetrics used t m f
    from_front p =
        elim (among_cases f front values p) [
          | inl q ↦ inl (among_left f front plain_values q)
          | inr q ↦ elim (metrics_split.from t m f q) [
            | inl r ↦ inl (among_right f front plain_values r)
            | inr r ↦ inr r
          ]
        ]

    to_front : IsOneOf (front ++ plain_values) f → IsOneOf (front ++ values) f
    to_front p =
        elim (among_cases f front plain_values p) [
          | inl q ↦ among_left f front values q
          | inr q ↦ among_right f front values (metrics_split.to t m f (inl q))
        ]

    from_parts : IsOneOf (front ++ values ++ parameters) f
        → IsOneOf (front ++ plain_values ++ plain_parameters) f ⊎ Besides used t m f
    from_parts p =
        elim (among_cases f (front ++ values) parameters p) [
          | inl q ↦ elim (from_front q) [
            | inl r ↦ inl (among_left f (front ++ plain_values) plain_parameters r)
            | inr r ↦ inr (inl r)
          ]
          | inr q ↦ elim (locations_split.from t m f q) [
            | inl r ↦ inl (among_right f (front ++ plain_values) plain_parameters r)
            | inr r ↦ inr (inr r)
          ]
        ]

    to_parts : IsOneOf (front ++ plain_values ++ plain_parameters) f ⊎ Besides used t m f
        → IsOneOf (front ++ values ++ parameters) f
    to_parts (inl p) =
        elim (among_cases f (front ++ plain_values) plain_parameters p) [
          | inl q ↦ among_left f (front ++ values) parameters (to_front q)
          | inr q ↦ among_right f (front ++ values) parameters (locations_split.to t m f (inl q))
        ]
    to_parts (inr (inl p)) =
        among_left f (front ++ values) parameters
        (among_right f front values (metrics_split.to t m f (inr p)))
    to_parts (inr (inr p)) =
        among_right f (front ++ values) parameters (locations_split.to t m f (inr p))

  parts_split : Splits (master_parts_failures used) plain_parts (Besides used)
  unfolding master_parts_failures
  parts_split = record { from = from_parts; to = to_parts }

  masters_split : Splits (masters_failures used) (each (dictionary plain_parts))
      (Inside (master_parts_failures used) plain_parts (Besides used) parts_split)
  masters_split = inside_split (master_parts_failures used) plain_parts (Besides used) parts_split

-- ---- by rule

module _ (used : List Bool) (t : Tree) (n : ℕ) (rule : Rule) (place : ℕ) where
  abbrev failure : Failure
  failure = record { rule = rule; place = place }

  abbrev InMasters : Type 0
  InMasters = Inside (master_parts_failures used) plain_parts (Besides used) (parts_split used) t n
      failure

  abbrev Tabled : Type 0
  Tabled =
      FailsAsHeight used (rows_of rule value_table) t n failure
      ⊎ FailsAsLocations (rows_of rule locations_table) t n failure

  height_rows : (v : ℕ) → IsOneOf (optional (codes "pos") height_failures t v) failure
      ↔ Fails (rows_of rule value_table) t v failure
  height_rows v = by_rule value_table (optional (codes "pos") height_failures) value_told.tells t v
      rule place

  location_rows : (v : ℕ) → IsOneOf (locations_failures t v) failure
      ↔ Fails (rows_of rule locations_table) t v failure
  location_rows v = by_rule locations_table locations_failures locations_told.tells t v rule place

  to_table : InMasters → Tabled
  to_table (m, leads, d, inl (k, there, (p, is, v, at, q))) =
      inl (p, is, v, (m, leads, (m, (d, refl), (k, there, (v, at, refl)))), (height_rows v).0 q)
  to_table (m, leads, d, inr (k, there, (v, is, q))) =
      inr (k, (m, leads, (m, (d, refl), (k, there, refl))), (v, is, (location_rows v).0 q))

  heights_table : FailsAsHeight used (rows_of rule value_table) t n failure → InMasters
  heights_table (p, is, v, (m, leads, (m', (d, same), (k, there, (v', at, last)))), q) = (
    m,
    leads,
    d,
    inl (
      k,
      subst (λ (i : ℕ). find_in t i (codes "metricValues") ≡ Some k) same there,
      (
        p,
        is,
        v',
        at,
        (height_rows v').1 (subst (λ (i : ℕ). Fails (rows_of rule value_table) t i failure)
            last q),
      ),
    ),
  )

  locations_tabled : FailsAsLocations (rows_of rule locations_table) t n failure → InMasters
  locations_tabled (k, (m, leads, (m', (d, same), (k', there, last))), (v, is, q)) = (
    m,
    leads,
    d,
    inr (
      k',
      subst (λ (i : ℕ). find_in t i (codes "customParameters") ≡ Some k') same there,
      (
        v,
        subst (λ (i : ℕ). parameter_at (codes "Axis Location") t i ≡ Some v) last is,
        (location_rows v).1 q,
      ),
    ),
  )

  masters_rows : IsOneOf (each (dictionary plain_parts) t n) failure
      ↔ Fails (rows_of rule masters_table) t n failure
  masters_rows = by_rule masters_table (each (dictionary plain_parts)) plain_told.tells t n rule
      place

pub masters_tabled : MastersAreTabled
masters_tabled used t n rule place = (
  λ p. elim ((masters_split used).from t n (record { rule = rule; place = place }) p) [
    | inl q ↦ inl ((masters_rows used t n rule place).0 q)
    | inr q ↦ inr (to_table used t n rule place q)
  ],
  λ p. (masters_split used).to t n (record { rule = rule; place = place })
      (elim p [
        | inl q ↦ inl ((masters_rows used t n rule place).1 q)
        | inr q ↦ inr (elim q [
          | inl r ↦ heights_table used t n rule place r
          | inr r ↦ locations_tabled used t n rule place r
        ])
      ]),
)

pub metrics_tabled : MetricsAreTabled
metrics_tabled = by_rule metrics_table metrics_failures metric_told.tells

font_split : Splits font_parameters_failures (each (dictionary entry_failures))
    (InParameter (codes "Variable Font Origin") text_failures)
font_split = parameters_split (codes "Variable Font Origin") text_failures

module _ (t : Tree) (n : ℕ) (rule : Rule) (place : ℕ) where
  abbrev parameter_failure : Failure
  parameter_failure = record { rule = rule; place = place }

  entry_rows : IsOneOf (each (dictionary entry_failures) t n) parameter_failure
      ↔ Fails (rows_of rule parameters_table) t n parameter_failure
  entry_rows = by_rule parameters_table (each (dictionary entry_failures))
      (every (within entry_told)).tells t n rule place

  origin_rows : (v : ℕ) → IsOneOf (text_failures t v) parameter_failure
      ↔ Fails (rows_of rule text_table) t v parameter_failure
  origin_rows v = by_rule text_table text_failures text.tells t v rule place

pub font_parameters_tabled : FontParametersAreTabled
font_parameters_tabled t n rule place = (
  λ p. elim (font_split.from t n (record { rule = rule; place = place }) p) [
    | inl q ↦ inl ((entry_rows t n rule place).0 q)
    | inr (v, is, q) ↦ inr (v, is, (origin_rows t n rule place v).0 q)
  ],
  λ p. font_split.to t n (record { rule = rule; place = place })
      (elim p [
        | inl q ↦ inl ((entry_rows t n rule place).1 q)
        | inr (v, is, q) ↦ inr (v, is, (origin_rows t n rule place v).1 q)
      ]),
)
