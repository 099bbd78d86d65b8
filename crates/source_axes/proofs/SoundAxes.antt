-- What is read where no rule fails fulfils what is asked of a header's axes and instances.
use Rattle.std.proofs.Common.{◌≡◌, ℕ, ◌+◌, ◌-◌, ◌≤◌, Bool, true, false, ◌&&◌, ◌==◌}
use Rattle.std.proofs.Common.{not, cond, leb, List, [], ◌∷◌, ◌++◌, length, map, take, Option}
use Rattle.std.proofs.Common.{Some, None, refl, sym, ap, ◌∙◌}
use Rattle.std.proofs.Common.{subst, arith}
use Rattle.std.specs.Prelude.{codes, flat_map, option_and_then, unwrap_or, replicate}
use Rattle.std.specs.List.{All, AllByRecursion, filter, list_all}
use Rattle.std.proofs.lemmas.Bool.Decides.{nat_tests}
use Rattle.std.proofs.lemmas.List.{length-map, take_all}
use Rattle.std.proofs.lemmas.List.Concat.{flat_map-cons}
use Rattle.std.proofs.lemmas.List.Elements.{All-from_recursion}
use Rattle.plist_reader.specs.declared.tree.Tree.{Tree}
use Rattle.plist_reader.specs.Tree.{find_in, text_at}
use Rattle.fixed_math.specs.declared.Fixed.{Fixed}
use Rattle.fixed_math.specs.FixedPoint.{floor_quotient}
use Rattle.font_ir.specs.Headers.{IsNameLong, IsAxisCoordinate, IsInstance}
use Rattle.font_ir.specs.Tags.{IsTagByte, IsTag}
use Rattle.refusal_codes.specs.declared.rule.Rule.TheVariants.{MissingKey, OutOfRange, AxisCount}
use Rattle.refusal_codes.specs.declared.rule.Rule.TheVariants.{BadTag, TooManyAxes}
use Rattle.refusal_codes.specs.declared.first.Failure.{Failure}
use Rattle.refusal_codes.specs.First.{foremost}
use Rattle.source_values.specs.Values.{items_at, is_dictionary, items_under}
use Rattle.source_values.specs.Asking.{fails, name_failures_by, name_failures, each_by, each}
use Rattle.source_values.specs.Asking.{dictionary, under_by, optional}
use Rattle.source_axes.specs.AxisValues.{axis_coordinate, coordinates_under}
use Rattle.source_axes.specs.AxisReading.{is_tag_byte, is_tag, tag_failures_by, tag_failures}
use Rattle.source_axes.specs.AxisReading.{axis_parts_failures, axes_failures, padded, axis_of}
use Rattle.source_axes.specs.AxisReading.{axis_numbers, axes_of, axis_limit_by, axis_limit_failures}
use Rattle.source_axes.specs.AxisReading.{too_many_axes, items_or_none, repeated_tags}
use Rattle.source_axes.specs.InstanceReading.{instance_parts_failures, is_kept, kept_among}
use Rattle.source_axes.specs.InstanceReading.{kept_limit_failures, instances_failures, instance_of}
use Rattle.source_axes.specs.InstanceReading.{kept_instances, instances_of, count_failures}
use Rattle.source_axes.specs.InstanceReading.{instance_count_failures}
use Rattle.source_axes.specs.ReadAxes.{AreReadAxes, AreReadInstances, HasSoundAxes}
use Rattle.source_axes.specs.ReadAxes.{HasSoundInstances, SoundAxesAreRead, SoundInstancesAreRead}
use Rattle.source_axes.specs.AxisValueLaws.{small_coordinates}

-- ---- no failures

first_empty : (xs ys : List Failure) → xs ++ ys ≡ [] → xs ≡ []
first_empty [] ys e = refl
first_empty (x ∷ xs) ys e = absurd cc

last_empty : (xs ys : List Failure) → xs ++ ys ≡ [] → ys ≡ []
last_empty [] ys e = e
last_empty (x ∷ xs) ys e = absurd cc

-- a test that passes, where a failure stands for its failing
passed : (b : Bool) (f : Failure) → cond b [] (f ∷ []) ≡ [] → b ≡ true
passed true f e = refl
passed false f e = absurd cc

-- the rules of what passes a test
guarded : (b : Bool) (xs : List Failure) (f : Failure) → cond b xs (f ∷ []) ≡ [] → xs ≡ []
guarded true xs f e = e
guarded false xs f e = absurd cc

both : (a b : Bool) → (a && b) ≡ true → (a ≡ true) × (b ≡ true)
both true true e = (refl, refl)
both true false e = absurd cc
both false b e = absurd cc

module _ (g : Tree → ℕ → List Failure) (t : Tree) where
  -- of values that fail none together each fails none
  each_none : (ns : List ℕ) → flat_map (dictionary g t) ns ≡ []
      → AllByRecursion (λ n. g t n ≡ []) ns
  each_none [] e = tt
  each_none (n ∷ ns) e =
      let split = sym (flat_map-cons (dictionary g t) n ns) ∙ e in (
        guarded (is_dictionary t n) (g t n) _ (first_empty (dictionary g t n) _ split),
        each_none ns (last_empty (dictionary g t n) _ split),
      )

  list_none : (n : ℕ) (o : Option (List ℕ)) → each_by (dictionary g t) t n o ≡ []
      → AllByRecursion (λ n. g t n ≡ []) (unwrap_or o [])
  list_none n None e = absurd cc
  list_none n (Some ns) e = each_none ns e

-- ---- names

within : (size : ℕ) (f : Failure) → cond (leb 1 size && leb size 255) [] (f ∷ []) ≡ []
    → (1 ≤ size) × (size ≤ 255)
within size f e =
    let parts = both (leb 1 size) (leb size 255)
    (passed (leb 1 size && leb size 255) f e) in
    let low : leb 1 size ≡ true = parts.0 in
    let high : leb size 255 ≡ true = parts.1 in
    (grind (arith, nat_tests, low), grind (arith, nat_tests, high))

name_by : (t : Tree) (n : ℕ) (o : Option (List ℕ)) → name_failures_by t n o ≡ []
    → IsNameLong (unwrap_or o [])
name_by t n None e = absurd cc
name_by t n (Some text) e = within (length text) _ e

named : (t : Tree) (pairs : ℕ) (o : Option ℕ)
    → under_by (name_failures t) (fails MissingKey t pairs) o ≡ []
    → IsNameLong (unwrap_or (option_and_then (text_at t.nodes) o) [])
unfolding name_failures
named t pairs None e = absurd cc
named t pairs (Some n) e = name_by t n (text_at t.nodes n) e

-- ---- tags

tag_byte : (byte : ℕ) → is_tag_byte byte ≡ true → IsTagByte byte
tag_byte byte e =
    let parts = both (leb 0x21 byte) (leb byte 0x7E) e in
    let low : leb 0x21 byte ≡ true = parts.0 in
    let high : leb byte 0x7E ≡ true = parts.1 in
    (grind (arith, nat_tests, low), grind (arith, nat_tests, high))

tag_bytes : (text : List ℕ) → list_all is_tag_byte text ≡ true → AllByRecursion IsTagByte text
tag_bytes [] e = tt
tag_bytes (byte ∷ text) e =
    let parts = both (is_tag_byte byte) (list_all is_tag_byte text) e in
    (tag_byte byte parts.0, tag_bytes text parts.1)

tag_is : (text : List ℕ) → is_tag text ≡ true → IsTag (record { 0 = padded text })
tag_is text e =
    let outer = both (leb 1 (length text) && leb (length text) 4) (list_all is_tag_byte text) e in
    let inner = both (leb 1 (length text)) (leb (length text) 4) outer.0 in
    let low : leb 1 (length text) ≡ true = inner.0 in
    let high : leb (length text) 4 ≡ true = inner.1 in
    let least : 1 ≤ length text = grind (arith, nat_tests, low) in
    let most : length text ≤ 4 = grind (arith, nat_tests, high) in
    record {
      word = text;
      long = (least, most);
      bytes = All-from_recursion IsTagByte text (tag_bytes text outer.1);
      padded = ap (λ (xs : List ℕ). xs ++ replicate (4 - length text) 0x20) (take_all 4 text most);
    }

tag_by : (t : Tree) (n : ℕ) (o : Option (List ℕ)) → tag_failures_by t n o ≡ []
    → IsTag (record { 0 = padded (unwrap_or o []) })
tag_by t n None e = absurd cc
tag_by t n (Some text) e = tag_is text (passed (is_tag text) _ e)

tagged : (t : Tree) (a : ℕ) (o : Option ℕ)
    → under_by (tag_failures t) (fails MissingKey t a) o ≡ []
    → IsTag (record { 0 = padded (unwrap_or (option_and_then (text_at t.nodes) o) []) })
unfolding tag_failures
tagged t a None e = absurd cc
tagged t a (Some n) e = tag_by t n (text_at t.nodes n) e

-- ---- axes

module _ (t : Tree) where
  axis_named : (a : ℕ) → axis_parts_failures t a ≡ [] → IsNameLong (axis_of t a).name
  unfolding axis_parts_failures axis_of
  axis_named a e = named t a (find_in t a (codes "name")) (first_empty _ _ e)

  axis_tagged : (a : ℕ) → axis_parts_failures t a ≡ [] → IsTag (axis_of t a).tag
  unfolding axis_parts_failures axis_of
  axis_tagged a e = tagged t a (find_in t a (codes "tag")) (last_empty _ _ e)

  axes_named : (axes : List ℕ) → AllByRecursion (λ a. axis_parts_failures t a ≡ []) axes
      → AllByRecursion (λ axis. IsNameLong axis.name) (map (axis_of t) axes)
  axes_named [] h = tt
  axes_named (a ∷ axes) h = (axis_named a h.0, axes_named axes h.1)

  axes_tagged : (axes : List ℕ) → AllByRecursion (λ a. axis_parts_failures t a ≡ []) axes
      → AllByRecursion (λ axis. IsTag axis.tag) (map (axis_of t) axes)
  axes_tagged [] h = tt
  axes_tagged (a ∷ axes) h = (axis_tagged a h.0, axes_tagged axes h.1)

  axes_sound : (o : Option ℕ) → under_by (axes_failures t) [] o ≡ []
      → AllByRecursion (λ a. axis_parts_failures t a ≡ [])
      (unwrap_or (option_and_then (items_at t) o) [])
  unfolding axes_failures
  axes_sound None e = tt
  axes_sound (Some n) e =
      list_none axis_parts_failures t n (items_at t n) (first_empty _ _ e)

  none_foremost : (fs : List Failure) → foremost fs ≡ None → fs ≡ []
  none_foremost [] e = refl
  none_foremost (f ∷ fs) e = absurd cc

  few_items : (n : ℕ) (o : Option (List ℕ)) → axis_limit_by t n o ≡ []
      → length (unwrap_or o []) ≤ 8
  few_items n None e = omega arith
  few_items n (Some axes) e =
      let low : leb (length axes) 8 ≡ true = passed (leb (length axes) 8) _ e in
      grind (arith, nat_tests, low)

  few_axes : (o : Option ℕ) → axis_limit_failures t o ≡ []
      → length (unwrap_or (option_and_then (items_at t) o) []) ≤ 8
  few_axes None e = omega arith
  few_axes (Some n) e = few_items n (items_at t n) e

pub sound_axes : SoundAxesAreRead
unfolding axes_of axis_numbers too_many_axes
sound_axes t sound =
    let each = axes_sound t (find_in t t.top (codes "axes")) sound.local in
    let numbers = items_under t t.top (codes "axes") in
    let few = few_axes t (find_in t t.top (codes "axes")) (none_foremost t _ sound.few) in
    record {
      few = subst (λ (n : ℕ). n ≤ 8) (sym (length-map numbers (axis_of t))) few;
      names = All-from_recursion (λ axis. IsNameLong axis.name) (map (axis_of t) numbers)
          (axes_named t numbers each);
      tags = All-from_recursion (λ axis. IsTag axis.tag) (map (axis_of t) numbers)
          (axes_tagged t numbers each);
    }

-- ---- instances

module _ (t : Tree) (axes : ℕ) where
  instance_named : (i : ℕ) → instance_parts_failures t i ≡ [] → IsNameLong (instance_of t i).name
  unfolding instance_parts_failures instance_of
  instance_named i e =
      named t i (find_in t i (codes "name"))
      (first_empty _ _ (first_empty _ _ (first_empty _ _ e)))

  instance_is : (i : ℕ) → instance_parts_failures t i ≡ [] → count_failures t axes i ≡ []
      → IsInstance axes (instance_of t i)
  unfolding instance_of coordinates_under
  instance_is i e c =
      let values = items_under t i (codes "axesValues") in
      let counted : (length values == axes) ≡ true = passed (length values == axes) _ c in
      let same : length values ≡ axes = grind (arith, nat_tests, counted) in
      record {
        name = instance_named i e;
        design = length-map values (axis_coordinate t) ∙ same;
        design_range = All-from_recursion IsAxisCoordinate (map (axis_coordinate t) values)
            (small_coordinates t values);
      }

  kept_sound : (items : List ℕ) → AllByRecursion (λ i. instance_parts_failures t i ≡ []) items
      → AllByRecursion (λ i. instance_parts_failures t i ≡ []) (filter (is_kept t) items)
  kept_sound [] h = tt
  kept_sound (i ∷ items) h = by (is_kept t i) (kept_sound items h.1)
    where
      by : (b : Bool)
          → AllByRecursion (λ i. instance_parts_failures t i ≡ []) (filter (is_kept t) items)
          → AllByRecursion (λ i. instance_parts_failures t i ≡ [])
          (cond b (i ∷ filter (is_kept t) items) (filter (is_kept t) items))
      by true rest = (h.0, rest)
      by false rest = rest

  among_sound : (items : List ℕ) → AllByRecursion (λ i. instance_parts_failures t i ≡ []) items
      → AllByRecursion (λ i. instance_parts_failures t i ≡ []) (kept_among t items)
  among_sound items h = by (length (axis_numbers t) == 0)
    where
      by : (b : Bool) → AllByRecursion (λ i. instance_parts_failures t i ≡ [])
          (cond b [] (filter (is_kept t) items))
      by true = tt
      by false = kept_sound items h

  each_instance : (items : List ℕ) → AllByRecursion (λ i. instance_parts_failures t i ≡ []) items
      → flat_map (count_failures t axes) items ≡ []
      → AllByRecursion (IsInstance axes) (map (instance_of t) items)
  each_instance [] h c = tt
  each_instance (i ∷ items) h c =
      let split = sym (flat_map-cons (count_failures t axes) i items) ∙ c in (
        instance_is i h.0 (first_empty _ _ split),
        each_instance items h.1 (last_empty (count_failures t axes i) _ split),
      )

  instances_sound : (o : Option ℕ) → under_by (instances_failures t) [] o ≡ []
      → AllByRecursion (λ i. instance_parts_failures t i ≡ [])
      (unwrap_or (option_and_then (items_at t) o) [])
  unfolding instances_failures
  instances_sound None e = tt
  instances_sound (Some n) e =
      list_none instance_parts_failures t n (items_at t n) (first_empty _ _ e)

  none_kept : length (kept_among t []) ≤ 64
  none_kept = by (length (axis_numbers t) == 0)
    where
      by : (b : Bool) → length (cond b [] (filter (is_kept t) [])) ≤ 64
      by true = omega arith
      by false = omega arith

  few_instances : (o : Option ℕ) → under_by (instances_failures t) [] o ≡ []
      → length (kept_among t (unwrap_or (option_and_then (items_at t) o) [])) ≤ 64
  unfolding instances_failures kept_limit_failures
  few_instances None e = none_kept
  few_instances (Some n) e =
      let size = length (kept_among t (items_or_none t n)) in
      let low : leb size 64 ≡ true
      = passed (leb size 64) _ (last_empty (each (dictionary instance_parts_failures) t n) _ e)
      in grind (arith, nat_tests, low)

pub sound_instances : SoundInstancesAreRead
unfolding instances_of kept_instances instance_count_failures
sound_instances t axes sound =
    let items = items_under t t.top (codes "instances") in
    let each = instances_sound t axes (find_in t t.top (codes "instances")) sound.local in
    let kept = kept_among t items in
    record {
      few = subst (λ (n : ℕ). n ≤ 64) (sym (length-map kept (instance_of t)))
          (few_instances t axes (find_in t t.top (codes "instances")) sound.local);
      each = All-from_recursion (IsInstance axes) (map (instance_of t) kept)
          (each_instance t axes kept (among_sound t axes items each) sound.counts);
    }
