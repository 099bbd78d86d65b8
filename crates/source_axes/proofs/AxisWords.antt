-- The tables in words, and the tags that stand again beside them.
use Rattle.std.proofs.Common.{inl, inr, ◌≡◌, ◌⊎◌, ℕ, Bool, true, false, not, List, [], ◌∷◌, ◌++◌}
use Rattle.std.proofs.Common.{Option, Some, None, refl, sym, ap, ◌∙◌, true≢false}
use Rattle.std.specs.Prelude.{codes}
use Rattle.std.specs.Option.{option_map_or}
use Rattle.plist_reader.specs.declared.tree.Tree.{Tree}
use Rattle.plist_reader.specs.Tree.{text_at}
use Rattle.refusal_codes.specs.declared.rule.Rule.{Rule}
use Rattle.refusal_codes.specs.declared.rule.Rule.TheVariants.{MissingKey, NotWhole, OutOfRange}
use Rattle.refusal_codes.specs.declared.rule.Rule.TheVariants.{BadTag}
use Rattle.refusal_codes.specs.declared.first.Failure.{Failure}
use Rattle.source_values.specs.declared.kinds.Range.TheVariants.{Any}
use Rattle.source_values.specs.Decimals.{is_whole}
use Rattle.source_values.specs.Values.{decimal_at}
use Rattle.source_values.specs.Asking.{each, dictionary}
use Rattle.source_values.specs.Ways.{IsOneOf, Step, Row, FailsRow, Fails, rows_of, has}
use Rattle.source_values.specs.WayLaws.{among_left, among_right, among_cases, by_rule}
use Rattle.source_values.specs.Tables.{decimal_passes, text_passes, has_name_length, has_fraction}
use Rattle.source_values.specs.Tables.{is_within, has_other_length}
use Rattle.source_values.specs.Words.{fraction, other_length, none_outside_any}
use Rattle.source_axes.specs.AxisValues.{is_axis_value}
use Rattle.source_axes.specs.AxisReading.{is_tag, axis_parts_failures, items_or_none, axes_failures}
use Rattle.source_axes.specs.AxisReading.{repeated_tags}
use Rattle.source_axes.specs.InstanceReading.{instances_failures}
use Rattle.source_axes.specs.AxisTables.{axes_table, IsRepeatedTag, AxesAreTabled, instances_table}
use Rattle.source_axes.specs.AxisTables.{InstancesAreTabled, IsInside, to_parts, to_part}
use Rattle.source_axes.specs.AxisTables.{is_other_tag, BadTags, MissingKeysOfAxes, RangesOfAxes}
use Rattle.source_axes.specs.AxisTables.{MissingKeysOfInstances, FractionsOfInstances, keeps_few}
use Rattle.source_axes.specs.AxisTables.{to_coordinates, is_other_coordinate, keeps_many}
use Rattle.source_axes.specs.AxisTables.{RangesOfInstances}
use Rattle.source_axes.specs.AxisTelling.{axes_told, instances_told}
use Rattle.source_axes.proofs.RepeatedTags.{of_repeated, to_repeated}

abbrev told : Rule → ℕ → Failure
told rule place = record { rule = rule; place = place }

-- ---- by rule

pub axes_by_rule : AxesAreTabled
unfolding axes_failures
axes_by_rule t n rule place =
    let table =
    by_rule axes_table (each (dictionary axis_parts_failures)) axes_told.tells t n rule place in
    let again = repeated_tags t [] (items_or_none t n) in (
      λ p. elim (among_cases (told rule place) (each (dictionary axis_parts_failures) t n)
          again p) [
            | inl q ↦ inl (table.0 q)
            | inr q ↦ inr (of_repeated t (items_or_none t n) (told rule place) q)
          ],
      λ p. elim p [
        | inl q ↦ among_left (told rule place) (each (dictionary axis_parts_failures) t n) again
            (table.1 q)
        | inr q ↦ among_right (told rule place) (each (dictionary axis_parts_failures) t n) again
            (to_repeated t (items_or_none t n) (told rule place) q.0 q.1)
      ],
    )

pub instances_by_rule : InstancesAreTabled
instances_by_rule t n rule place =
    by_rule instances_table instances_failures instances_told.tells t n rule place

-- ---- one row in words

is_not : (b : Bool) → b ≡ false → not b ≡ true
is_not true e = absurd (true≢false e)
is_not false e = refl

isnt_not : (b : Bool) → not b ≡ true → b ≡ false
isnt_not true e = absurd (true≢false (sym e))
isnt_not false e = refl

module _ (t : Tree) (n : ℕ) (rule : Rule) (place : ℕ) (way : List Step)
    (holds test : Tree → ℕ → Bool) (same : (m : ℕ) → not (holds t m) ≡ test t m) where
  abbrev row : Row
  row = record { way = way; rule = rule; holds = holds }

  in_words : FailsRow row t n (told rule place) → IsInside t n way test place
  in_words (m, reaches, fails, is) = (
    m,
    reaches,
    sym (same m) ∙ is_not (holds t m) fails,
    ap (λ (f : Failure). f.place) is,
  )

  from_words : IsInside t n way test place → FailsRow row t n (told rule place)
  from_words (m, reaches, passes, is) = (
    m,
    reaches,
    isnt_not (holds t m) (same m ∙ passes),
    ap (told rule) is,
  )

fails_test : {X : Type 0} (test : X → Bool) (o : Option X)
    → not (option_map_or test o true) ≡ option_map_or (λ x. not (test x)) o false
fails_test test None = refl
fails_test test (Some x) = refl

-- ---- axes

module _ (t : Tree) (n place : ℕ) where
  abbrev AxisRow : Rule → Type 0
  AxisRow rule = Fails (rows_of rule axes_table) t n (told rule place)

  abbrev Again : Type 0
  Again = IsRepeatedTag t (items_or_none t n) place

  bad_tag : (m : ℕ) → not (text_passes is_tag t m) ≡ is_other_tag t m
  bad_tag m = fails_test is_tag (text_at t.nodes m)

  to_bad : AxisRow BadTag ⊎ ((BadTag ≡ BadTag) × Again)
      → IsInside t n (to_part (codes "tag")) is_other_tag place ⊎ Again
  to_bad (inl (inl p)) = inl (in_words t n BadTag place (to_part (codes "tag"))
      (text_passes is_tag) is_other_tag bad_tag p)
  to_bad (inl (inr p)) = absurd p
  to_bad (inr p) = inr p.1

  of_bad : IsInside t n (to_part (codes "tag")) is_other_tag place ⊎ Again
      → AxisRow BadTag ⊎ ((BadTag ≡ BadTag) × Again)
  of_bad (inl p) = inl (inl (from_words t n BadTag place (to_part (codes "tag"))
      (text_passes is_tag) is_other_tag bad_tag p))
  of_bad (inr p) = inr (refl, p)

  abbrev Lacks : List ℕ → Type 0
  Lacks key = IsInside t n to_parts (λ t m. not (has key t m)) place

  to_missing : AxisRow MissingKey ⊎ ((MissingKey ≡ BadTag) × Again)
      → Lacks (codes "name") ⊎ Lacks (codes "tag")
  to_missing (inl (inl p)) = inl (in_words t n MissingKey place to_parts (has (codes "name"))
      (λ t m. not (has (codes "name") t m)) (λ m. refl) p)
  to_missing (inl (inr (inl p))) = inr (in_words t n MissingKey place to_parts (has (codes "tag"))
      (λ t m. not (has (codes "tag") t m)) (λ m. refl) p)
  to_missing (inl (inr (inr p))) = absurd p
  to_missing (inr p) = let e : MissingKey ≡ BadTag = p.0 in absurd cc

  of_missing : Lacks (codes "name") ⊎ Lacks (codes "tag")
      → AxisRow MissingKey ⊎ ((MissingKey ≡ BadTag) × Again)
  of_missing (inl p) = inl (inl (from_words t n MissingKey place to_parts (has (codes "name"))
      (λ t m. not (has (codes "name") t m)) (λ m. refl) p))
  of_missing (inr p) = inl (inr (inl (from_words t n MissingKey place to_parts (has (codes "tag"))
      (λ t m. not (has (codes "tag") t m)) (λ m. refl) p)))

  to_range : AxisRow OutOfRange ⊎ ((OutOfRange ≡ BadTag) × Again)
      → IsInside t n (to_part (codes "name")) has_other_length place
  to_range (inl (inl p)) = in_words t n OutOfRange place (to_part (codes "name"))
      (text_passes has_name_length) has_other_length (other_length t) p
  to_range (inl (inr p)) = absurd p
  to_range (inr p) = let e : OutOfRange ≡ BadTag = p.0 in absurd cc

  of_range : IsInside t n (to_part (codes "name")) has_other_length place
      → AxisRow OutOfRange ⊎ ((OutOfRange ≡ BadTag) × Again)
  of_range p = inl (inl (from_words t n OutOfRange place (to_part (codes "name"))
      (text_passes has_name_length) has_other_length (other_length t) p))

pub bad_tags : BadTags
bad_tags t n place = (
  λ p. to_bad t n place ((axes_by_rule t n BadTag place).0 p),
  λ p. (axes_by_rule t n BadTag place).1 (of_bad t n place p),
)

pub missing_keys_of_axes : MissingKeysOfAxes
missing_keys_of_axes t n place = (
  λ p. to_missing t n place ((axes_by_rule t n MissingKey place).0 p),
  λ p. (axes_by_rule t n MissingKey place).1 (of_missing t n place p),
)

pub ranges_of_axes : RangesOfAxes
ranges_of_axes t n place = (
  λ p. to_range t n place ((axes_by_rule t n OutOfRange place).0 p),
  λ p. (axes_by_rule t n OutOfRange place).1 (of_range t n place p),
)

-- ---- instances

module _ (t : Tree) (n place : ℕ) where
  abbrev InstanceRow : Rule → Type 0
  InstanceRow rule = Fails (rows_of rule instances_table) t n (told rule place)

  abbrev Nameless : Type 0
  Nameless = IsInside t n to_parts (λ t m. not (has (codes "name") t m)) place

  to_nameless : InstanceRow MissingKey → Nameless
  to_nameless (inl p) = in_words t n MissingKey place to_parts (has (codes "name"))
      (λ t m. not (has (codes "name") t m)) (λ m. refl) p
  to_nameless (inr p) = absurd p

  of_nameless : Nameless → InstanceRow MissingKey
  of_nameless p = inl (from_words t n MissingKey place to_parts (has (codes "name"))
      (λ t m. not (has (codes "name") t m)) (λ m. refl) p)

  to_fraction : InstanceRow NotWhole → IsInside t n (to_part (codes "exports")) has_fraction place
  to_fraction (inl p) = in_words t n NotWhole place (to_part (codes "exports"))
      (decimal_passes is_whole) has_fraction (fraction t) p
  to_fraction (inr p) = absurd p

  of_fraction : IsInside t n (to_part (codes "exports")) has_fraction place → InstanceRow NotWhole
  of_fraction p = inl (from_words t n NotWhole place (to_part (codes "exports"))
      (decimal_passes is_whole) has_fraction (fraction t) p)

  other_coordinate : (m : ℕ) → not (decimal_passes is_axis_value t m) ≡ is_other_coordinate t m
  other_coordinate m = fails_test is_axis_value (decimal_at t m)

  abbrev OutOfInstances : Type 0
  OutOfInstances =
      IsInside t n (to_part (codes "name")) has_other_length place
      ⊎ (IsInside t n to_coordinates is_other_coordinate place
      ⊎ IsInside t n [] keeps_many place)

  to_out : InstanceRow OutOfRange → OutOfInstances
  to_out (inl p) = inl (in_words t n OutOfRange place (to_part (codes "name"))
      (text_passes has_name_length) has_other_length (other_length t) p)
  to_out (inr (inl p)) = inr (inl (in_words t n OutOfRange place to_coordinates
      (decimal_passes is_axis_value) is_other_coordinate other_coordinate p))
  to_out (inr (inr (inl (m, reaches, fails, is)))) = absurd (none_outside_any t m fails)
  to_out (inr (inr (inr (inl p)))) = inr (inr (in_words t n OutOfRange place [] keeps_few
      keeps_many (λ m. refl) p))
  to_out (inr (inr (inr (inr p)))) = absurd p

  of_out : OutOfInstances → InstanceRow OutOfRange
  of_out (inl p) = inl (from_words t n OutOfRange place (to_part (codes "name"))
      (text_passes has_name_length) has_other_length (other_length t) p)
  of_out (inr (inl p)) = inr (inl (from_words t n OutOfRange place to_coordinates
      (decimal_passes is_axis_value) is_other_coordinate other_coordinate p))
  of_out (inr (inr p)) = inr (inr (inr (inl (from_words t n OutOfRange place [] keeps_few
      keeps_many (λ m. refl) p))))

pub missing_keys_of_instances : MissingKeysOfInstances
missing_keys_of_instances t n place = (
  λ p. to_nameless t n place ((instances_by_rule t n MissingKey place).0 p),
  λ p. (instances_by_rule t n MissingKey place).1 (of_nameless t n place p),
)

pub fractions_of_instances : FractionsOfInstances
fractions_of_instances t n place = (
  λ p. to_fraction t n place ((instances_by_rule t n NotWhole place).0 p),
  λ p. (instances_by_rule t n NotWhole place).1 (of_fraction t n place p),
)

pub ranges_of_instances : RangesOfInstances
ranges_of_instances t n place = (
  λ p. to_out t n place ((instances_by_rule t n OutOfRange place).0 p),
  λ p. (instances_by_rule t n OutOfRange place).1 (of_out t n place p),
)
