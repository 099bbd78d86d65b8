-- Some rules of masters in words, by the tables.
use Rattle.std.proofs.Common.{inl, inr, ◌≡◌, ◌⊎◌, ℕ, Bool, true, false, not, List, ◌∷◌, [], Option}
use Rattle.std.proofs.Common.{Some, None, refl, sym, ap, ◌∙◌}
use Rattle.std.specs.Prelude.{codes}
use Rattle.std.specs.Option.{option_map_or}
use Rattle.plist_reader.specs.declared.tree.Tree.{Tree}
use Rattle.refusal_codes.specs.declared.rule.Rule.{Rule}
use Rattle.refusal_codes.specs.declared.rule.Rule.TheVariants.{MissingKey, NotWhole, OutOfRange}
use Rattle.refusal_codes.specs.declared.first.Failure.{Failure}
use Rattle.source_values.specs.declared.decimals.Decimal.{Decimal}
use Rattle.source_values.specs.declared.kinds.Range.TheVariants.{Coordinate}
use Rattle.source_values.specs.Decimals.{is_whole}
use Rattle.source_values.specs.Values.{decimal_at}
use Rattle.source_values.specs.Ways.{Step, under, FailsRow, Fails, rows_of, has}
use Rattle.source_values.specs.Tables.{decimal_passes, is_within, has_fraction, is_outside}
use Rattle.source_values.specs.Words.{fraction, outside, none_outside_any}
use Rattle.source_axes.specs.AxisValues.{is_axis_value}
use Rattle.source_masters.specs.MasterTables.{masters_table, value_table, locations_table}
use Rattle.source_masters.specs.MasterTables.{to_masters, to_part, FailsAsHeight, FailsAsLocations}
use Rattle.source_masters.specs.MasterTables.{IsBelow, IsAHeight, IsALocation, lacks, is_beyond}
use Rattle.source_masters.specs.MasterTables.{to_disabled, to_coordinates, MissingIdsAreRefused}
use Rattle.source_masters.specs.MasterTables.{FractionsOfMastersAreRefused, RangesOfMastersAreKept}
use Rattle.source_masters.proofs.TableLaws.{masters_tabled}

isnt_not : (b : Bool) → not b ≡ true → b ≡ false
isnt_not true e = absurd cc
isnt_not false e = refl

-- one row, whose test doesn't hold exactly where another test does
module _ (t : Tree) (rule : Rule) (place : ℕ) (way : List Step) (holds test : Tree → ℕ → Bool)
    (same : (m : ℕ) → not (holds t m) ≡ test t m) where
  abbrev TheRow : ℕ → Type 0
  TheRow n = FailsRow (record { way = way; rule = rule; holds = holds }) t n
      (record { rule = rule; place = place })

  in_words : (n : ℕ) → TheRow n → IsBelow t way n test place
  in_words n (m, reaches, fails, is) =
      (m, reaches, sym (same m) ∙ ap not fails, ap (λ (f : Failure). f.place) is)

  of_words : (n : ℕ) → IsBelow t way n test place → TheRow n
  of_words n (m, reaches, passes, is) = (
    m,
    reaches,
    isnt_not (holds t m) (same m ∙ passes),
    ap (λ (p : ℕ). record { rule = rule; place = p }) is,
  )

beyond_by : (o : Option Decimal) → not (option_map_or is_axis_value o true)
    ≡ option_map_or (λ d. not (is_axis_value d)) o false
beyond_by None = refl
beyond_by (Some d) = refl

beyond : (t : Tree) (m : ℕ) → not (decimal_passes is_axis_value t m) ≡ is_beyond t m
beyond t m = beyond_by (decimal_at t m)

-- ---- what fails by a rule

module _ (used : List Bool) (t : Tree) (n place : ℕ) where
  abbrev ByRule : Rule → Type 0
  ByRule rule =
      Fails (rows_of rule masters_table) t n (record { rule = rule; place = place })
      ⊎ (FailsAsHeight used (rows_of rule value_table) t n (record { rule = rule; place = place })
      ⊎ FailsAsLocations (rows_of rule locations_table) t n
      (record { rule = rule; place = place }))

  -- missing ids
  to_missing : ByRule MissingKey → IsBelow t to_masters n (lacks (codes "id")) place
  to_missing (inl (inl p)) =
      in_words t MissingKey place to_masters (has (codes "id")) (lacks (codes "id")) (λ m. refl) n p
  to_missing (inl (inr p)) = absurd p
  to_missing (inr (inl (p, is, v, reaches, q))) = absurd q
  to_missing (inr (inr (k, reaches, (v, is, q)))) = absurd q

  of_missing : IsBelow t to_masters n (lacks (codes "id")) place → ByRule MissingKey
  of_missing p =
      inl (inl (of_words t MissingKey place to_masters (has (codes "id")) (lacks (codes "id"))
      (λ m. refl) n p))

  -- fractions
  abbrev pos_way : List Step
  pos_way = under (codes "pos") ∷ []

  to_fractions : ByRule NotWhole
      → IsBelow t to_disabled n has_fraction place ⊎ IsAHeight used t n has_fraction place
  to_fractions (inl (inl p)) =
      inl (in_words t NotWhole place to_disabled (decimal_passes is_whole) has_fraction
      (fraction t) n p)
  to_fractions (inl (inr p)) = absurd p
  to_fractions (inr (inl (p, is, v, reaches, inl q))) =
      inr (
        p,
        is,
        v,
        reaches,
        in_words t NotWhole place pos_way (decimal_passes is_whole)
            has_fraction (fraction t) v q,
      )
  to_fractions (inr (inl (p, is, v, reaches, inr q))) = absurd q
  to_fractions (inr (inr (k, reaches, (v, is, q)))) = absurd q

  of_fractions : IsBelow t to_disabled n has_fraction place ⊎ IsAHeight used t n has_fraction place
      → ByRule NotWhole
  of_fractions (inl p) =
      inl (inl (of_words t NotWhole place to_disabled (decimal_passes is_whole) has_fraction
      (fraction t) n p))
  of_fractions (inr (p, is, v, reaches, q)) =
      inr (inl (
        p,
        is,
        v,
        reaches,
        inl (of_words t NotWhole place pos_way
            (decimal_passes is_whole) has_fraction (fraction t) v q),
      ))

  -- ranges
  abbrev OutOfRanges : Type 0
  OutOfRanges =
      IsBelow t to_coordinates n is_beyond place
      ⊎ (IsAHeight used t n (is_outside Coordinate) place ⊎ IsALocation t n is_beyond place)

  to_ranges : ByRule OutOfRange → OutOfRanges
  to_ranges (inl (inl p)) =
      inl (in_words t OutOfRange place to_coordinates (decimal_passes is_axis_value) is_beyond
      (beyond t) n p)
  to_ranges (inl (inr (inl (m, reaches, fails, is)))) = absurd (none_outside_any t m fails)
  to_ranges (inl (inr (inr p))) = absurd p
  to_ranges (inr (inl (p, is, v, reaches, inl q))) =
      inr (inl (
        p,
        is,
        v,
        reaches,
        in_words t OutOfRange place pos_way
            (decimal_passes (is_within Coordinate)) (is_outside Coordinate) (outside Coordinate t) v q,
      ))
  to_ranges (inr (inl (p, is, v, reaches, inr q))) = absurd q
  to_ranges (inr (inr (k, reaches, (v, is, inl q)))) =
      inr (inr (
        k,
        reaches,
        v,
        is,
        in_words t OutOfRange place (to_part (codes "Location"))
            (decimal_passes is_axis_value) is_beyond (beyond t) v q,
      ))
  to_ranges (inr (inr (k, reaches, (v, is, inr q)))) = absurd q

  of_ranges : OutOfRanges → ByRule OutOfRange
  of_ranges (inl p) =
      inl (inl (of_words t OutOfRange place to_coordinates (decimal_passes is_axis_value) is_beyond
      (beyond t) n p))
  of_ranges (inr (inl (p, is, v, reaches, q))) =
      inr (inl (
        p,
        is,
        v,
        reaches,
        inl (of_words t OutOfRange place pos_way
            (decimal_passes (is_within Coordinate)) (is_outside Coordinate) (outside Coordinate t) v q),
      ))
  of_ranges (inr (inr (k, reaches, v, is, q))) =
      inr (inr (
        k,
        reaches,
        (
          v,
          is,
          inl (of_words t OutOfRange place (to_part (codes "Location"))
              (decimal_passes is_axis_value) is_beyond (beyond t) v q),
        ),
      ))

pub missing_ids : MissingIdsAreRefused
missing_ids used t n place = (
  λ p. to_missing used t n place ((masters_tabled used t n MissingKey place).0 p),
  λ p. (masters_tabled used t n MissingKey place).1 (of_missing used t n place p),
)

pub fractions : FractionsOfMastersAreRefused
fractions used t n place = (
  λ p. to_fractions used t n place ((masters_tabled used t n NotWhole place).0 p),
  λ p. (masters_tabled used t n NotWhole place).1 (of_fractions used t n place p),
)

pub ranges : RangesOfMastersAreKept
ranges used t n place = (
  λ p. to_ranges used t n place ((masters_tabled used t n OutOfRange place).0 p),
  λ p. (masters_tabled used t n OutOfRange place).1 (of_ranges used t n place p),
)
