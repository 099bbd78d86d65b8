-- Comparing the forms of layers: pair by pair, and as what stays the same at each place.
use Rattle.std.proofs.Common.{◌≡◌, ℕ, ◌<◌, Bool, true, false, ◌&&◌, List, [], ◌∷◌, length}
use Rattle.std.proofs.Common.{zero, suc, get_or, drop, map, refl, sym, ap, ◌∙◌, true≢false, arith}
use Rattle.std.proofs.Common.{◌++◌, cond, Option, Some}
use Rattle.std.specs.Prelude.{flat_map}
use Rattle.plist_reader.specs.declared.tree.Tree.{Tree}
use Rattle.font_ir.specs.declared.glyph.LayerIr.{LayerIr}
use Rattle.refusal_codes.specs.declared.first.Failure.{Failure}
use Rattle.refusal_codes.specs.declared.rule.Rule.TheVariants.{Incompatible}
use Rattle.refusal_codes.specs.First.{foremost}
use Rattle.source_values.specs.Values.{place_at}
use Rattle.glyphs_layers.specs.declared.layers.SourceLayer.{SourceLayer}
use Rattle.std.specs.Cmp.Lexicographic.{pointwise, bytes_decides}
use Rattle.font_ir.specs.declared.glyph.DrawnPoint.{DrawnPoint}
use Rattle.font_ir.specs.declared.glyph.Shape.TheVariants.{Path, Component}
use Rattle.font_ir.specs.ReadGlyphs.{path_form, component_form, form_of}
use Rattle.glyphs_layers.specs.Forms.{same_flag, same_side, same_shape, FormsAreCompared}
use Rattle.glyphs_layers.specs.Forms.{same_form, record_of, unlike_first}
use Rattle.glyphs_layers.specs.Forms.{IsFirstOfOtherForm, OtherFormsAreRefused}

-- ---- lists, pair by pair

first_true : (a b : Bool) → (a && b) ≡ true → a ≡ true
first_true true b e = refl
first_true false b e = e

second_true : (a b : Bool) → (a && b) ≡ true → b ≡ true
second_true true b e = e
second_true false b e = absurd (true≢false (sym e))

both_true : (a b : Bool) → a ≡ true → b ≡ true → (a && b) ≡ true
both_true true b e f = f
both_true false b e f = e

-- where a test of two items tells whether they have the same image
abbrev Tells : {X Y : Type 0} → (X → X → Bool) → (X → Y) → Type 0
Tells {X} E h = (x y : X) → (E x y ≡ true → h x ≡ h y) × (h x ≡ h y → E x y ≡ true)

module _ {X Y : Type 0} (E : X → X → Bool) (h : X → Y) (tells : Tells E h) where
  forth : (xs ys : List X) → pointwise E xs ys ≡ true → map h xs ≡ map h ys
  forth [] [] e = refl
  forth [] (y ∷ ys) e = absurd (true≢false (sym e))
  forth (x ∷ xs) [] e = absurd (true≢false (sym e))
  forth (x ∷ xs) (y ∷ ys) e =
      ap (λ (z : Y). z ∷ map h xs) ((tells x y).0 (first_true (E x y) (pointwise E xs ys) e))
      ∙ ap (λ (zs : List Y). h y ∷ zs) (forth xs ys (second_true (E x y) (pointwise E xs ys) e))

  back : (xs ys : List X) → map h xs ≡ map h ys → pointwise E xs ys ≡ true
  back [] [] e = refl
  back [] (y ∷ ys) e = absurd cc
  back (x ∷ xs) [] e = absurd cc
  back (x ∷ xs) (y ∷ ys) e =
      both_true (E x y) (pointwise E xs ys) ((tells x y).1 cc) (back xs ys cc)

-- ---- shapes

flags : (a b : Bool) → (same_flag a b ≡ true → a ≡ b) × (a ≡ b → same_flag a b ≡ true)
flags true true = (λ e. refl, λ e. refl)
flags true false = (λ e. sym e, λ e. sym e)
flags false true = (λ e. e, λ e. e)
flags false false = (λ e. refl, λ e. refl)

sides : Tells same_side (λ (point : DrawnPoint). point.on)
sides p q = flags p.on q.on

shapes : Tells same_shape form_of
shapes (Path a) (Path b) = (
  λ e. ap path_form (forth same_side (λ (point : DrawnPoint). point.on) sides a.points b.points e),
  λ e. back same_side (λ (point : DrawnPoint). point.on) sides a.points b.points cc,
)
shapes (Path a) (Component base at scale quarters) = (λ e. absurd (true≢false (sym e)), λ e. absurd cc)
shapes (Component base at scale quarters) (Path b) = (λ e. absurd (true≢false (sym e)), λ e. absurd cc)
shapes (Component base at scale quarters) (Component other to size turns) = (
  λ e. ap component_form ((bytes_decides base other).0 e),
  λ e. (bytes_decides base other).1 cc,
)

pub compared : FormsAreCompared
compared a b = (
  forth same_shape form_of shapes a.shapes b.shapes,
  back same_shape form_of shapes a.shapes b.shapes,
)

-- ---- one turn of the loop that compares layers with the first one

none_first : (b : Bool) (f : Failure) (rest : List Failure) (all : Option Failure) → b ≡ true
    → foremost (cond b [] (f ∷ []) ++ rest) ≡ all → foremost rest ≡ all
none_first true f rest all e so = so
none_first false f rest all e so = absurd (true≢false (sym e))

module _ (t : Tree) (first : LayerIr) where
  pub like_turn : (layers : List SourceLayer) (i : ℕ) (held : LayerIr) (all : Option Failure)
      → i < length layers → held ≡ get_or (map (record_of t) layers) i held
      → same_form first held ≡ true
      → foremost (flat_map (unlike_first t first) (drop i layers)) ≡ all
      → foremost (flat_map (unlike_first t first) (drop (suc i) layers)) ≡ all
  like_turn [] i held all within is same so = absurd (omega (arith, within))
  like_turn (layer ∷ layers) zero held all within is same so =
      none_first (same_form first (record_of t layer)) _
      (flat_map (unlike_first t first) layers) all
      (ap (λ (x : LayerIr). same_form first x) (sym is) ∙ same) so
  like_turn (layer ∷ layers) (suc i) held all within is same so =
      like_turn layers i held all (omega (arith, within)) is same so

-- ---- the first layer of another form

pub first_other : OtherFormsAreRefused
first_other t first [] f e = absurd cc
first_other t first (layer ∷ layers) f e =
    by (same_form first (record_of t layer)) refl (first_other t first layers f) e
  where
    by : (b : Bool) → same_form first (record_of t layer) ≡ b
        → (foremost (flat_map (unlike_first t first) layers) ≡ Some f
        → IsFirstOfOtherForm t first layers f)
        → foremost (cond b [] (record { rule = Incompatible; place = place_at t layer.number } ∷ [])
        ++ flat_map (unlike_first t first) layers) ≡ Some f
        → IsFirstOfOtherForm t first (layer ∷ layers) f
    by true is among e =
        let rest = among e in
        record {
          before = layer ∷ rest.before;
          layer = rest.layer;
          behind = rest.behind;
          in_order = ap (λ (ls : List SourceLayer). layer ∷ ls) rest.in_order;
          same = ((compared first (record_of t layer)).0 is, rest.same);
          other = rest.other;
          told = rest.told;
        }
    by false is among e = record {
      before = [];
      layer = layer;
      behind = layers;
      in_order = refl;
      same = tt;
      other = λ p. true≢false (sym ((compared first (record_of t layer)).1 p) ∙ is);
      told = cc;
    }
