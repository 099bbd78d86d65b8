-- What a header fulfils that is read: all that is asked of one.
use Rattle.std.proofs.Common.{◌≡◌, ℕ, ◌≤◌, ◌<◌, ◌==◌, ◌&&◌, ◌||◌, not, cond}
use Rattle.std.proofs.Common.{nat_le, Bool, true, false, List, [], ◌∷◌, ◌++◌, length, map, Option}
use Rattle.std.proofs.Common.{Some, None, Result, Ok, Err, refl, sym, ap, ◌∙◌, subst, lit≤, arith}
use Rattle.std.specs.Prelude.{codes, IfOk, option_and_then, unwrap_or}
use Rattle.std.specs.Option.{option_map_or}
use Rattle.std.specs.List.{All}
use Rattle.std.proofs.lemmas.Bool.Decides.{nat_tests}
use Rattle.std.proofs.lemmas.List.{length-map}
use Rattle.fixed_math.specs.declared.F2Dot14.{F2Dot14}
use Rattle.plist_reader.specs.declared.tree.Tree.{Tree}
use Rattle.plist_reader.specs.Tree.{find_in, text_at}
use Rattle.font_ir.specs.declared.header.Header.{Header}
use Rattle.font_ir.specs.declared.header.Master.{Master}
use Rattle.font_ir.specs.declared.header.Axis.{Axis}
use Rattle.font_ir.specs.Headers.{IsMaster, IsHeader}
use Rattle.axis_space.specs.Placing.{HasAxes, placed, FulfilsPlaces}
use Rattle.axis_space.specs.PlacingLaws.{length-placed, All-placed, placed_fulfil}
use Rattle.axis_space.specs.Repeats.{TellsRepeat, first_repeat}
use Rattle.axis_space.specs.UnmappedAxes.{TellsUnmapped, first_unmapped}
use Rattle.refusal_codes.specs.declared.first.Failure.{Failure}
use Rattle.refusal_codes.specs.declared.errors.ReadError.{ReadError}
use Rattle.refusal_codes.specs.Gives.{Gives}
use Rattle.refusal_codes.specs.declared.rule.Rule.TheVariants.{MissingKey, OutOfRange}
use Rattle.refusal_codes.specs.First.{first_of, foremost, or_next, noted, refusal_of}
use Rattle.refusal_codes.specs.declared.job.TheConstants.{HEADER}
use Rattle.refusal_codes.specs.FirstLaws.{first_of_none}
use Rattle.refusal_codes.specs.JudgedLaws.{judged_ok}
use Rattle.source_values.specs.declared.decimals.Decimal.{Decimal}
use Rattle.source_values.specs.Decimals.{is_whole}
use Rattle.source_values.specs.Values.{is_dictionary, decimal_at, natural_by, natural_in}
use Rattle.source_values.specs.Asking.{fails, name_failures_by, name_failures, under_by, optional}
use Rattle.source_values.specs.Asking.{required}
use Rattle.source_axes.specs.AxisReading.{axes_failures, axis_of, axis_numbers, axes_of}
use Rattle.source_axes.specs.AxisReading.{too_many_axes}
use Rattle.source_axes.specs.InstanceReading.{instances_failures}
use Rattle.source_axes.specs.InstanceReading.{instance_count_failures}
use Rattle.source_axes.specs.ReadAxes.{HasSoundAxes}
use Rattle.source_axes.specs.ReadAxes.{HasSoundInstances, SoundAxesAreRead, SoundInstancesAreRead}
use Rattle.source_masters.specs.Metrics.{used_metrics}
use Rattle.source_masters.specs.MasterRules.{masters_failures}
use Rattle.source_masters.specs.WholeRules.{too_many_masters, no_master}
use Rattle.source_masters.specs.WholeRules.{duplicate_masters, axis_counts, origin_of}
use Rattle.source_masters.specs.WholeRules.{unknown_origin}
use Rattle.source_masters.specs.MasterReading.{units_per_em}
use Rattle.source_masters.specs.MasterReading.{masters_of}
use Rattle.source_masters.specs.ReadMasters.{IsReadMaster, AreReadMasters, HasSoundMasters}
use Rattle.source_masters.specs.ReadMasters.{HasOrigin, SoundMastersAreRead}
use Rattle.glyphs_source.specs.HeaderReading.{name_and_numbers_failures, design_failures}
use Rattle.glyphs_source.specs.HeaderReading.{top_failures, header_failures, count_failures}
use Rattle.glyphs_source.specs.HeaderReading.{source_failure, origin_at, HasSoundHeader}
use Rattle.glyphs_source.specs.HeaderReading.{placed_masters, same_location_by, not_rising_by}
use Rattle.glyphs_source.specs.HeaderReading.{place_failure_of, header_record, judged_header}
use Rattle.glyphs_source.specs.HeaderReading.{header_by, header_of}

-- ---- lists of failures

-- of two lists that are empty together the second is
pub last_empty : (xs ys : List Failure) → xs ++ ys ≡ [] → ys ≡ []
last_empty [] ys e = e
last_empty (x ∷ xs) ys e = absurd cc

pub first_empty : (xs ys : List Failure) → xs ++ ys ≡ [] → xs ≡ []
first_empty [] ys e = refl
first_empty (x ∷ xs) ys e = absurd cc

pub dictionary_there : (b : Bool) (xs : List Failure) (x : Failure) → cond b xs (x ∷ []) ≡ []
    → xs ≡ []
dictionary_there true xs x e = e
dictionary_there false xs x e = absurd cc

or_none : (a b : Option Failure) → or_next a b ≡ None → (a ≡ None) × (b ≡ None)
or_none None b e = (refl, e)
or_none (Some f) b e = absurd cc

-- ---- its numbers

abbrev pub IsWithin : ℕ → ℕ → ℕ → Type 0
IsWithin low high n = (low ≤ n) × (n ≤ high)

picked : (low high whole : ℕ) (p q : Bool) → nat_le low whole ≡ p → nat_le whole high ≡ q
    → low ≤ high → IsWithin low high (cond (p && q) whole low)
picked low high whole true true e f h = (grind (arith, nat_tests), grind (arith, nat_tests))
picked low high whole true false e f h = (omega arith, h)
picked low high whole false q e f h = (omega arith, h)

chosen : (low high whole : ℕ) (a s : Bool) → low ≤ high
    → IsWithin low high (cond (a && (s && (nat_le low whole && nat_le whole high))) whole low)
chosen low high whole true true h = picked low high whole (nat_le low whole) (nat_le whole high)
    refl refl h
chosen low high whole true false h = (omega arith, h)
chosen low high whole false s h = (omega arith, h)

natural_by-within : (low high : ℕ) (o : Option Decimal) → low ≤ high
    → IsWithin low high (natural_by low high o)
natural_by-within low high None h = (omega arith, h)
natural_by-within low high (Some d) h = chosen low high d.whole (is_whole d)
    (not d.negative || d.whole == 0) h

natural-within : (t : Tree) (low high missing : ℕ) (o : Option ℕ) → low ≤ high
    → IsWithin low high missing → IsWithin low high
    (option_map_or (natural_in low high t) o missing)
unfolding natural_in
natural-within t low high missing None h k = k
natural-within t low high missing (Some n) h k = natural_by-within low high (decimal_at t n) h

units_within : (t : Tree) → IsWithin 16 16384 (units_per_em t)
units_within t = natural-within t 16 16384 16 (find_in t t.top (codes "unitsPerEm")) (lit≤ tt)
    (lit≤ tt, lit≤ tt)

sized : (t : Tree) (n : ℕ) (size : ℕ) (p q : Bool) → nat_le 1 size ≡ p → nat_le size 255 ≡ q
    → cond (p && q) [] (fails OutOfRange t n) ≡ [] → IsWithin 1 255 size
sized t n size true true e f g = (grind (arith, nat_tests), grind (arith, nat_tests))
sized t n size true false e f g = absurd cc
sized t n size false q e f g = absurd cc

name_within : (t : Tree) (n : ℕ) (o : Option (List ℕ)) → name_failures_by t n o ≡ []
    → IsWithin 1 255 (length (unwrap_or o []))
name_within t n None e = absurd cc
name_within t n (Some text) e = sized t n (length text) (nat_le 1 (length text))
    (nat_le (length text) 255) refl refl e

pub name_under : (t : Tree) (pairs : ℕ) (o : Option ℕ)
    → under_by (name_failures t) (fails MissingKey t pairs) o ≡ []
    → IsWithin 1 255 (length (unwrap_or (option_and_then (text_at t.nodes) o) []))
unfolding name_failures
name_under t pairs None e = absurd cc
name_under t pairs (Some n) e = name_within t n (text_at t.nodes n) e

-- ---- where no rule fails

module _ (t : Tree) where
  top_none : header_failures t ≡ [] → top_failures t t.top ≡ []
  top_none e = dictionary_there (is_dictionary t t.top) (top_failures t t.top) _ e

  own_none : header_failures t ≡ [] → name_and_numbers_failures t t.top ≡ []
  unfolding top_failures
  own_none e = first_empty _ _ (first_empty _ _ (top_none e))

  design_none : header_failures t ≡ [] → design_failures t t.top ≡ []
  unfolding top_failures
  design_none e =
      last_empty (name_and_numbers_failures t t.top) _ (first_empty _ _ (top_none e))

  axes_none : header_failures t ≡ [] → optional (codes "axes") axes_failures t t.top ≡ []
  unfolding design_failures
  axes_none e = first_empty _ _ (first_empty _ _ (first_empty _ _ (first_empty _ _ (design_none e))))

  instances_none : header_failures t ≡ []
      → optional (codes "instances") instances_failures t t.top ≡ []
  unfolding design_failures
  instances_none e = last_empty _ _ (first_empty _ _ (first_empty _ _ (design_none e)))

  masters_none : header_failures t ≡ []
      → required (codes "fontMaster") (masters_failures (used_metrics t)) t t.top ≡ []
  unfolding design_failures
  masters_none e = last_empty _ _ (design_none e)

  family_within : header_failures t ≡ [] → IsWithin 1 255 (length (header_record t).family)
  unfolding name_and_numbers_failures header_record
  family_within e =
      name_under t t.top (find_in t t.top (codes "familyName"))
      (last_empty _ _ (first_empty _ _ (first_empty _ _ (own_none e))))

  -- the whole rules, one behind another
  abbrev After5 : Option Failure
  After5 = or_next (first_of (count_failures t)) (foremost (unknown_origin t))

  abbrev After4 : Option Failure
  After4 = or_next (foremost (duplicate_masters t)) After5

  abbrev After3 : Option Failure
  After3 = or_next (foremost (no_master t)) After4

  abbrev After2 : Option Failure
  After2 = or_next (foremost (too_many_masters t)) After3

  record NoneFails : Type 0 where
    axes : foremost (too_many_axes t) ≡ None
    masters : foremost (too_many_masters t) ≡ None
    some : foremost (no_master t) ≡ None
    ids : foremost (duplicate_masters t) ≡ None
    counts : first_of (count_failures t) ≡ None
    origin : foremost (unknown_origin t) ≡ None

  none_fails : source_failure t ≡ None → NoneFails
  unfolding source_failure
  none_fails e =
      let one = or_none (foremost (too_many_axes t)) After2 e in
      let two = or_none (foremost (too_many_masters t)) After3 one.1 in
      let three = or_none (foremost (no_master t)) After4 two.1 in
      let four = or_none (foremost (duplicate_masters t)) After5 three.1 in
      let five = or_none (first_of (count_failures t)) (foremost (unknown_origin t)) four.1 in
      record {
        axes = one.0;
        masters = two.0;
        some = three.0;
        ids = four.0;
        counts = five.0;
        origin = five.1;
      }

  -- how many axes there are
  abbrev Axes : ℕ
  Axes = length (axes_of t)

  abbrev Names : List (List ℕ)
  Names = map (λ axis. axis.name) (axes_of t)

  axes_counted : length (axis_numbers t) ≡ Axes
  unfolding axes_of
  axes_counted = sym (length-map (axis_numbers t) (axis_of t))

  names_counted : length Names ≡ Axes
  names_counted = length-map (axes_of t) (λ (axis : Axis). axis.name)

  counts_none : source_failure t ≡ None
      → axis_counts (length (axis_numbers t)) t
      ++ instance_count_failures t (length (axis_numbers t)) ≡ []
  unfolding count_failures
  counts_none e = first_of_none _ (none_fails e).counts

  module _ (sound : HasSoundHeader t) where
    sound_axes : HasSoundAxes t
    sound_axes = record {
      local = axes_none sound.local;
      few = (none_fails sound.whole).axes;
    }

    sound_masters : HasSoundMasters t (length Names)
    sound_masters =
        let rules = none_fails sound.whole in
        record {
          local = masters_none sound.local;
          few = rules.masters;
          some = rules.some;
          ids = rules.ids;
          counts = subst (λ (n : ℕ). axis_counts n t ≡ []) (axes_counted ∙ sym names_counted)
              (first_empty _ _ (counts_none sound.whole));
          origin = rules.origin;
        }

    sound_instances : HasSoundInstances t Axes
    sound_instances = record {
      local = instances_none sound.local;
      counts = subst (λ (n : ℕ). instance_count_failures t n ≡ []) axes_counted
          (last_empty (axis_counts (length (axis_numbers t)) t) _ (counts_none sound.whole));
    }

    -- the masters before they have locations
    abbrev Unplaced : List Master
    Unplaced = masters_of t Names

    module _ (law : SoundMastersAreRead) where
      pub masters_read : AreReadMasters Axes Unplaced
      masters_read = subst (λ (n : ℕ). AreReadMasters n Unplaced) names_counted
          (law t Names sound_masters).0

      pub origin_there : HasOrigin t Unplaced
      origin_there = (law t Names sound_masters).1

      pub origin_is : origin_of t ≡ Some origin_there.origin
      origin_is = origin_there.there

      pub origin_within : origin_at t < length Unplaced
      unfolding origin_at
      origin_within = subst (λ (n : ℕ). n < length Unplaced)
          (sym (ap (λ (o : Option ℕ). unwrap_or o 0) origin_there.there)) origin_there.within

      pub unplaced_axes : All (HasAxes Axes) Unplaced
      unplaced_axes k d h =
          let one = masters_read.each k d h in
          record {
            design = omega (arith, one.design);
            user = omega (arith, one.user);
          }

      pub placed_axes : All (HasAxes Axes) (placed_masters t)
      unfolding placed_masters
      placed_axes =
          All-placed (origin_at t) Axes (HasAxes Axes) (HasAxes Axes)
          (λ m location e has. record { design = has.design; user = has.user }) Unplaced
          unplaced_axes

      pub origin_placed : origin_at t < length (placed_masters t)
      unfolding placed_masters
      origin_placed = subst (λ (n : ℕ). origin_at t < n)
          (sym (length-placed (origin_at t) Axes Unplaced)) origin_within

      few_placed : length (placed_masters t) ≤ 32
      unfolding placed_masters
      few_placed = subst (λ (n : ℕ). n ≤ 32)
          (sym (length-placed (origin_at t) Axes Unplaced)) masters_read.few

      each_placed : All (IsMaster Axes) (placed_masters t)
      unfolding placed_masters
      each_placed =
          All-placed (origin_at t) Axes (IsReadMaster Axes) (IsMaster Axes)
          (λ m location e read. record {
            design = read.design;
            user = read.user;
            location = e;
            design_range = read.design_range;
            user_range = read.user_range;
            ascender = read.ascender;
            descender = read.descender;
            cap = read.cap;
            xheight = read.xheight;
          }) Unplaced masters_read.each

    pub few_axes : SoundAxesAreRead → Axes ≤ 8
    few_axes law = (law t sound_axes).few

-- ---- places

no_repeat : (masters : List Master) (o : Option ℕ) → same_location_by masters o ≡ None → o ≡ None
no_repeat masters None e = refl
no_repeat masters (Some i) e = absurd cc

no_unmapped : (t : Tree) (o : Option ℕ) → not_rising_by t o ≡ None → o ≡ None
no_unmapped t None e = refl
no_unmapped t (Some axis) e = absurd cc

-- the laws of the parts
pub record Laws : Type 0 where
  pub axes : SoundAxesAreRead
  pub instances : SoundInstancesAreRead
  pub masters : SoundMastersAreRead
  pub repeats : (places : List (List F2Dot14)) → TellsRepeat places (first_repeat places)
  pub unmapped : (masters : List Master) (origin axes : ℕ)
      → TellsUnmapped masters origin axes (first_unmapped masters origin axes)

module _ (laws : Laws) (t : Tree) (sound : HasSoundHeader t)
    (whole : place_failure_of t (placed_masters t) ≡ None) where
  abbrev Masters : List Master
  Masters = placed_masters t

  abbrev Places : List (List F2Dot14)
  Places = map (λ master. master.location) Masters

  none_placed : (same_location_by Masters (first_repeat Places) ≡ None)
      × (not_rising_by t (first_unmapped Masters (origin_at t) (length (axes_of t))) ≡ None)
  unfolding place_failure_of
  none_placed = or_none _ _ whole

  all_differ : TellsRepeat Places None
  all_differ = subst (TellsRepeat Places)
      (no_repeat Masters (first_repeat Places) none_placed.0) (laws.repeats Places)

  all_mapped : TellsUnmapped Masters (origin_at t) (length (axes_of t)) None
  all_mapped = subst (TellsUnmapped Masters (origin_at t) (length (axes_of t)))
      (no_unmapped t (first_unmapped Masters (origin_at t) (length (axes_of t))) none_placed.1)
      (laws.unmapped Masters (origin_at t) (length (axes_of t)))

  placed_as : placed_masters t ≡ placed (origin_at t) (length (axes_of t))
      (masters_of t (map (λ axis. axis.name) (axes_of t)))
  unfolding placed_masters
  placed_as = refl

  places_fulfil : FulfilsPlaces (header_record t)
  unfolding header_record
  places_fulfil =
      placed_fulfil (header_record t) (masters_of t (map (λ axis. axis.name) (axes_of t)))
      placed_as all_differ all_mapped

  whole_record : IsHeader (header_record t)
  unfolding header_record
  whole_record =
      let units = units_within t in
      let family = family_within t sound.local in
      let axes = laws.axes t (sound_axes t sound) in
      let instances = laws.instances t (length (axes_of t)) (sound_instances t sound) in
      record {
        units = units;
        family = family;
        major = (natural-within t 0 32767 1 (find_in t t.top (codes "versionMajor")) (lit≤ tt)
            (lit≤ tt, lit≤ tt)).1;
        minor = (natural-within t 0 999 0 (find_in t t.top (codes "versionMinor")) (lit≤ tt)
            (lit≤ tt, lit≤ tt)).1;
        few_axes = axes.few;
        axes = axes.names;
        tags = axes.tags;
        few_masters = few_placed t sound laws.masters;
        masters = each_placed t sound laws.masters;
        origin = origin_placed t sound laws.masters;
        few_instances = instances.few;
        instances = instances.each;
        kerning = λ k d within. absurd (omega (arith, within));
        kerning_values = λ k d within. absurd (omega (arith, within));
        one_value = λ i j d below within. absurd (omega (arith, below, within));
        locations = places_fulfil.locations;
        different = places_fulfil.different;
        maps = places_fulfil.maps;
      }

-- ---- what is read

module _ (t : Tree) (failures : List Failure) (h : Header) (e : header_by t failures ≡ Ok h) where
  abbrev Whole : Option Failure
  Whole = or_next (source_failure t) (place_failure_of t (placed_masters t))

  record IsAnswer : Type 0 where
    local : failures ≡ []
    source : source_failure t ≡ None
    places : place_failure_of t (placed_masters t) ≡ None
    is : header_record t ≡ h

  answered : IsAnswer
  unfolding header_by judged_header
  answered =
      let parts =
      judged_ok (refusal_of HEADER []) (first_of failures) Whole (header_record t) h e in
      let rules =
      or_none (source_failure t) (place_failure_of t (placed_masters t)) parts.1 in
      record {
        local = first_of_none failures parts.0;
        source = rules.0;
        places = rules.1;
        is = parts.2;
      }

pub read_whole : Laws → (t : Tree) (h : Header) → header_of t ≡ Ok h → IsHeader h
unfolding header_of
read_whole laws t h e =
    let answer = answered t (header_failures t) h e in
    let sound : HasSoundHeader t = record { local = answer.local; whole = answer.source } in
    subst IsHeader answer.is (whole_record laws t sound answer.places)

-- ---- what functions need

-- where nothing is noted, there is nothing to note
pub none_noted : (start first : Option Failure) (fs : List Failure) → start ≡ None
    → first ≡ noted start fs → first ≡ None → fs ≡ []
none_noted start first fs s f e =
    first_of_none fs (sym (ap (λ (o : Option Failure). noted o fs) s) ∙ sym f ∙ e)

pub few_masters : (t : Tree) → HasSoundHeader t → foremost (too_many_masters t) ≡ None
few_masters t sound = (none_fails t sound.whole).masters

module _ (t : Tree) (sound : HasSoundHeader t) (law : SoundMastersAreRead) where
  abbrev named : List Axis → List Master
  named axes = masters_of t (map (λ (axis : Axis). axis.name) axes)

  pub unplaced_origin : (axes : List Axis) (ms : List Master) (o : ℕ) → axes ≡ axes_of t
      → ms ≡ named axes → o ≡ origin_at t → o < length ms
  unplaced_origin axes ms o ea em eo =
      subst (λ (n : ℕ). n < length ms) (sym eo)
      (subst (λ (xs : List Master). origin_at t < length xs) (sym (em ∙ ap named ea))
      (origin_within t sound law))

  pub unplaced_axes_of : (axes : List Axis) (ms : List Master) → axes ≡ axes_of t
      → ms ≡ named axes → All (HasAxes (length axes)) ms
  unplaced_axes_of axes ms ea em =
      subst (λ (xs : List Axis). All (HasAxes (length xs)) ms) (sym ea)
      (subst (All (HasAxes (length (axes_of t)))) (sym (em ∙ ap named ea))
      (unplaced_axes t sound law))

  pub placed_origin : (ms : List Master) (o : ℕ) → ms ≡ placed_masters t → o ≡ origin_at t
      → o < length ms
  placed_origin ms o em eo =
      subst (λ (n : ℕ). n < length ms) (sym eo)
      (subst (λ (xs : List Master). origin_at t < length xs) (sym em) (origin_placed t sound law))

  pub placed_axes_of : (axes : ℕ) (ms : List Master) → axes ≡ length (axes_of t)
      → ms ≡ placed_masters t → All (HasAxes axes) ms
  placed_axes_of axes ms ea em =
      subst (λ (n : ℕ). All (HasAxes n) ms) (sym ea)
      (subst (All (HasAxes (length (axes_of t)))) (sym em) (placed_axes t sound law))

-- ---- what calls answer

pub given_whole : ((t : Tree) (h : Header) → header_of t ≡ Ok h → IsHeader h) → (t : Tree)
    (r : Result Header ReadError) → Gives (λ header. header) r (header_of t) → IfOk r IsHeader
given_whole law t (Ok header) g = law t header g
given_whole law t (Err error) g = tt
