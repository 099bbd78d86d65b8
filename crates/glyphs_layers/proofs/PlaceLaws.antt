-- Which layers lie where: that each master has a layer, by their number, and that coordinates lie
-- between the masters'.
use Rattle.std.proofs.Common.{◌≡◌, ℕ, ◌+◌, ◌<◌, ◌≤◌, Bool, true, false, ◌&&◌, not, cond, ltb, List}
use Rattle.std.proofs.Common.{[], ◌∷◌, ◌++◌, zero, suc, length, Option, Some, None}
use Rattle.std.proofs.Common.{refl, sym, ap, ◌∙◌, true≢false, subst, arith}
use Rattle.std.specs.Prelude.{flat_map, is_some, nat_eq, ℤ, int_le, ◌≤ℤ◌}
use Rattle.std.specs.Option.{option_map_or}
use Rattle.std.specs.List.{All, AllByRecursion, count_by, list_all}
use Rattle.std.proofs.lemmas.Bool.Decides.{nat_tests}
use Rattle.std.proofs.lemmas.Int.{ints}
use Rattle.std.proofs.lemmas.List.Sums.{sum_by-cons}
use Rattle.std.proofs.lemmas.List.Elements.{All-from_recursion}
use Rattle.plist_reader.specs.declared.tree.Tree.{Tree}
use Rattle.fixed_math.specs.declared.Fixed.{Fixed}
use Rattle.font_ir.specs.declared.header.Header.{Header}
use Rattle.font_ir.specs.declared.header.Master.{Master}
use Rattle.font_ir.specs.Coordinates.{HasAxis, coordinate_at, coordinates_on}
use Rattle.font_ir.specs.declared.header.CoordinateScale.TheVariants.{Design}
use Rattle.font_ir.specs.Extremes.{least, greatest}
use Rattle.font_ir.specs.Headers.{IsHeader}
use Rattle.refusal_codes.specs.declared.first.Failure.{Failure}
use Rattle.refusal_codes.specs.declared.rule.Rule.TheVariants.{MissingLayer}
use Rattle.refusal_codes.specs.First.{foremost, or_next}
use Rattle.source_values.specs.Values.{place_at}
use Rattle.layer_shapes.specs.declared.kind.LayerKind.TheVariants as a
use Rattle.axis_space.specs.Placing.{HasAxes, IsWithin, AreWithin}
use Rattle.glyphs_layers.specs.declared.layers.SourceLayer.{SourceLayer}
use Rattle.glyphs_layers.specs.SourceLayers.{layer_numbers, layer_of, masters_layer}
use Rattle.glyphs_layers.specs.SourceLayers.{masters_layers, is_intermediate, if_intermediate}
use Rattle.glyphs_layers.specs.SourceLayers.{intermediate_layers, source_layers}
use Rattle.glyphs_layers.specs.GlyphPlaces.{is_masters, missing_layer, is_within, are_within}
use Rattle.glyphs_layers.specs.GlyphPlaces.{lies_within, is_placed, misplaced, layers_failure}

-- ---- each master has a layer exactly where there are as many masters' layers

abbrev masters_in : List SourceLayer → ℕ
masters_in layers = count_by is_masters layers

none_by : (t : Tree) (masters : List SourceLayer) (n : ℕ) (b : Bool) (rest : List SourceLayer)
    → masters_in rest ≡ 0
    → masters_in (cond b (record { kind = a.Intermediate; number = n } ∷ []) [] ++ rest) ≡ 0
none_by t masters n true rest e = omega (arith, e)
none_by t masters n false rest e = e

none_masters : (t : Tree) (masters : List SourceLayer) (ns : List ℕ)
    → masters_in (flat_map (if_intermediate t masters) ns) ≡ 0
none_masters t masters [] = refl
none_masters t masters (n ∷ ns) =
    none_by t masters n (is_intermediate t masters n) (flat_map (if_intermediate t masters) ns)
    (none_masters t masters ns)

none_intermediate : (t : Tree) (header : Header) (ns : List ℕ)
    → masters_in (intermediate_layers t header ns) ≡ 0
none_intermediate t header ns = by (nat_eq (length header.axes) 0)
  where
    by : (b : Bool)
        → masters_in (cond b []
        (flat_map (if_intermediate t (masters_layers t header.masters ns)) ns)) ≡ 0
    by true = refl
    by false = none_masters t (masters_layers t header.masters ns) ns

-- with one master more in front
record Counted (found masters : ℕ) (all : Bool) : Type 0 where
  most : found ≤ masters
  told : ltb found masters ≡ not all

one_more : (o : Option ℕ) (behind rest : List SourceLayer) (masters : ℕ) (all : Bool)
    → Counted (masters_in (behind ++ rest)) masters all
    → Counted (masters_in ((option_map_or masters_layer o [] ++ behind) ++ rest)) (suc masters)
    (is_some o && all)
one_more None behind rest masters all c =
    let most = c.most in record { most = omega (arith, most); told = grind (arith, nat_tests, most) }
one_more (Some n) behind rest masters all c =
    subst (λ (k : ℕ). Counted k (suc masters) all)
    (sym (sum_by-cons (λ (layer : SourceLayer). cond (is_masters layer) 1 0)
    (record { kind = a.Master; number = n }) (behind ++ rest))) with_one
  where
    both : (k m : ℕ) → ltb (1 + k) (suc m) ≡ ltb k m
    both k m = grind (arith, nat_tests)

    with_one : Counted (1 + masters_in (behind ++ rest)) (suc masters) all
    with_one = let most = c.most in record {
      most = omega (arith, most);
      told = both (masters_in (behind ++ rest)) masters ∙ c.told;
    }

counted : (t : Tree) (ns : List ℕ) (ms : List Master) (rest : List SourceLayer)
    → masters_in rest ≡ 0
    → Counted (masters_in (masters_layers t ms ns ++ rest)) (length ms)
    (list_all (λ (m : Master). is_some (layer_of t ns m)) ms)
counted t ns [] rest e = record { most = omega (arith, e); told = grind (arith, nat_tests, e) }
counted t ns (m ∷ ms) rest e =
    one_more (layer_of t ns m) (masters_layers t ms ns) rest (length ms)
    (list_all (λ (m : Master). is_some (layer_of t ns m)) ms) (counted t ns ms rest e)

missing_by : (t : Tree) (g : ℕ) (b : Bool)
    → cond (not b) (Some (record { rule = MissingLayer; place = place_at t g })) None
    ≡ foremost (cond b [] (record { rule = MissingLayer; place = place_at t g } ∷ []))
missing_by t g true = refl
missing_by t g false = refl

-- what is missing, by the number of the masters' layers
pub missing_told : (t : Tree) (header : Header) (g : ℕ) (layers : List SourceLayer) (b : Bool)
    → layers ≡ source_layers t header g
    → ltb (masters_in layers) (length header.masters) ≡ b
    → cond b (Some (record { rule = MissingLayer; place = place_at t g })) None
    ≡ foremost (missing_layer t header.masters g)
unfolding missing_layer source_layers
missing_told t header g layers b same e =
    let ns = layer_numbers t g in
    let there = counted t ns header.masters (intermediate_layers t header ns)
    (none_intermediate t header ns) in
    ap (λ (x : Bool). cond x (Some (record { rule = MissingLayer; place = place_at t g })) None)
    (sym e ∙ ap (λ (ls : List SourceLayer). ltb (masters_in ls) (length header.masters)) same
    ∙ there.told)
    ∙ missing_by t g (list_all (λ (m : Master). is_some (layer_of t ns m)) header.masters)

-- ---- coordinates between the masters'

-- each master has coordinates on so many axes
pub have_axes : (h : Header) → IsHeader h → (n : ℕ) → n ≡ length h.axes
    → All (HasAxes n) h.masters
have_axes h is n e = λ k d within.
    let master = is.masters k d within in
    let design = master.design in
    let user = master.user in
    record { design = omega (arith, design, e); user = omega (arith, user, e) }

pub have_axis : (ms : List Master) (n axis : ℕ) → All (HasAxes n) ms → axis < n
    → All (HasAxis axis) ms
have_axis ms n axis all below = λ k d within.
    let master = all k d within in
    let design = master.design in
    let user = master.user in
    record { design = omega (arith, design, below); user = omega (arith, user, below) }

first_true : (a b : Bool) → (a && b) ≡ true → a ≡ true
first_true true b e = refl
first_true false b e = e

second_true : (a b : Bool) → (a && b) ≡ true → b ≡ true
second_true true b e = e
second_true false b e = absurd (true≢false (sym e))

module _ (ms : List Master) where
  one_within : (axis : ℕ) (v : Fixed) → is_within ms axis v ≡ true → IsWithin ms axis v
  one_within axis v e =
      let all = coordinates_on Design axis ms in
      let low : int_le (least all) v.0 ≡ true = first_true (int_le (least all) v.0)
      (int_le v.0 (greatest all)) e in
      let high : int_le v.0 (greatest all) ≡ true = second_true (int_le (least all) v.0)
      (int_le v.0 (greatest all)) e in
      record {
        from_least = at_most (least all) v.0 low;
        to_greatest = at_most v.0 (greatest all) high;
      }
    where
      at_most : (x y : ℤ) → int_le x y ≡ true → x ≤ℤ y
      at_most x y e = grind (arith, ints)

  all_within : (first : ℕ) (design : List Fixed) → are_within ms first design ≡ true
      → (k axis : ℕ) → axis ≡ first + k → k < length design
      → IsWithin ms axis (coordinate_at design k)
  all_within first [] e k axis is below = absurd (omega (arith, below))
  all_within first (v ∷ vs) e zero axis is below =
      subst (λ (n : ℕ). IsWithin ms n v) (omega (arith, is))
      (one_within first v (first_true (is_within ms first v) (are_within ms (first + 1) vs) e))
  all_within first (v ∷ vs) e (suc k) axis is below =
      all_within (first + 1) vs (second_true (is_within ms first v) (are_within ms (first + 1) vs) e)
      k axis (omega (arith, is)) (omega (arith, below))

  pub lie_within : (design : List Fixed) → are_within ms 0 design ≡ true → AreWithin ms design
  lie_within design e = λ axis below. all_within 0 design e axis axis (omega arith) below

-- ---- where no layer is misplaced, each is placed

module _ (t : Tree) (h : Header) where
  at_first : (b : Bool) (f : Failure) (rest : List Failure)
      → foremost (cond b [] (f ∷ []) ++ rest) ≡ None → (b ≡ true) × (foremost rest ≡ None)
  at_first true f rest e = (refl, e)
  at_first false f rest e = absurd cc

  each_placed : (layers : List SourceLayer) → foremost (flat_map (misplaced t h) layers) ≡ None
      → AllByRecursion (λ layer. is_placed t h layer ≡ true) layers
  each_placed [] e = tt
  each_placed (layer ∷ layers) e =
      let parts = at_first (is_placed t h layer) _ (flat_map (misplaced t h) layers) e in
      (parts.0, each_placed layers parts.1)

  next_none : (first next : Option Failure) → or_next first next ≡ None → next ≡ None
  next_none None next e = e
  next_none (Some f) next e = absurd cc

  pub all_placed : (g : ℕ) (layers : List SourceLayer) → layers ≡ source_layers t h g
      → layers_failure t h g ≡ None → All (λ layer. is_placed t h layer ≡ true) layers
  unfolding layers_failure
  all_placed g layers same e =
      subst (λ (ls : List SourceLayer). All (λ layer. is_placed t h layer ≡ true) ls) (sym same)
      (All-from_recursion _ (source_layers t h g)
      (each_placed (source_layers t h g) (next_none _ _ e)))

pub masters_within : (h : Header) (ms : List Master) (design : List Fixed) → ms ≡ h.masters
    → lies_within h design ≡ true → AreWithin ms design
masters_within h ms design same e =
    subst (λ (masters : List Master). AreWithin masters design) (sym same)
    (lie_within h.masters design (second_true (nat_eq (length design) (length h.axes))
    (are_within h.masters 0 design) e))
