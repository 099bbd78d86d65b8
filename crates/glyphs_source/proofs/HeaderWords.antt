-- What the header's table says of wrong shapes and of ranges, in words.
use Rattle.std.proofs.Common.{inl, inr, ◌≡◌, ℕ, Bool, not, List, [], ◌∷◌, refl, sym, ap, ◌∙◌}
use Rattle.std.proofs.Common.{subst}
use Rattle.plist_reader.specs.declared.tree.Tree.{Tree}
use Rattle.refusal_codes.specs.declared.rule.Rule.{Rule}
use Rattle.refusal_codes.specs.declared.rule.Rule.TheVariants.{WrongShape, OutOfRange}
use Rattle.refusal_codes.specs.declared.first.Failure.{Failure}
use Rattle.source_values.specs.declared.kinds.Range.TheVariants.{Natural}
use Rattle.source_values.specs.Values.{place_at}
use Rattle.source_values.specs.Ways.{Step, Reaches, Row, Fails, rows_of}
use Rattle.source_values.specs.Words.{outside, other_length}
use Rattle.glyphs_source.specs.SourceTables.{header_table, IsAtOneOf, wrong_shapes}
use Rattle.glyphs_source.specs.SourceTables.{ShapesOfTheHeader, numbers_outside, RangesOfTheHeader}
use Rattle.glyphs_source.proofs.SourceRuleLaws.{is_not, isnt_not, beside}
use Rattle.glyphs_source.proofs.SourceTableLaws.{header_by_rule}

abbrev pub Test : Type 0
Test = List Step × (Tree → ℕ → Bool)

-- rows of one rule, whose tests don't hold exactly where these do
abbrev pub AreSaid : Tree → Rule → List Row → List Test → Type 0
AreSaid t rule [] [] = Unit {0}
AreSaid t rule [] (one ∷ others) = ⊥
AreSaid t rule (row ∷ rows) [] = ⊥
AreSaid t rule (row ∷ rows) (one ∷ others) =
    (row.rule ≡ rule) × (row.way ≡ one.0) × ((n : ℕ) → not (row.holds t n) ≡ one.1 t n)
    × AreSaid t rule rows others

module _ (t : Tree) (rule : Rule) (place : ℕ) where
  abbrev pub told : Rule → ℕ → Failure
  told r p = record { rule = r; place = p }

  pub to_tests : (rows : List Row) (tests : List Test) → AreSaid t rule rows tests
      → Fails rows t t.top (told rule place) → IsAtOneOf t tests place
  to_tests [] [] said p = absurd p
  to_tests [] (one ∷ others) said p = absurd said
  to_tests (row ∷ rows) [] said p = absurd said
  to_tests (row ∷ rows) (one ∷ others) (of_rule, way, same, said) (inl (n, reaches, fails, is)) =
      inl (
        n,
        subst (λ (w : List Step). Reaches t w t.top n) way reaches,
        sym (same n) ∙ is_not (row.holds t n) fails,
        ap (λ (f : Failure). f.place) is,
      )
  to_tests (row ∷ rows) (one ∷ others) (of_rule, way, same, said) (inr p) =
      inr (to_tests rows others said p)

  pub of_tests : (rows : List Row) (tests : List Test) → AreSaid t rule rows tests
      → IsAtOneOf t tests place → Fails rows t t.top (told rule place)
  of_tests [] [] said p = absurd p
  of_tests [] (one ∷ others) said p = absurd said
  of_tests (row ∷ rows) [] said p = absurd said
  of_tests (row ∷ rows) (one ∷ others) (of_rule, way, same, said) (inl (n, reaches, passes, is)) =
      inl (
        n,
        subst (λ (w : List Step). Reaches t w t.top n) (sym way) reaches,
        isnt_not (row.holds t n) (same n ∙ passes),
        ap (λ (p : ℕ). told rule p) is
            ∙ ap (λ (r : Rule). told r (place_at t n)) (sym of_rule),
      )
  of_tests (row ∷ rows) (one ∷ others) (of_rule, way, same, said) (inr p) =
      inr (of_tests rows others said p)

shapes_said : (t : Tree) → AreSaid t WrongShape (rows_of WrongShape header_table) wrong_shapes
shapes_said t = (
  refl,
  refl,
  λ n. refl,
  (
    refl,
    refl,
    λ n. refl,
    (
      refl,
      refl,
      λ n. refl,
      (
        refl,
        refl,
        λ n. refl,
        (
          refl,
          refl,
          λ n. refl,
          (
            refl,
            refl,
            λ n. refl,
            (
              refl,
              refl,
              λ n. refl,
              (
                refl,
                refl,
                λ n. refl,
                (
                  refl,
                  refl,
                  λ n. refl,
                  (refl, refl, λ n. refl, tt),
                ),
              ),
            ),
          ),
        ),
      ),
    ),
  ),
)

ranges_said : (t : Tree) → AreSaid t OutOfRange (rows_of OutOfRange header_table) numbers_outside
ranges_said t = (
  refl,
  refl,
  outside (Natural 16 16384) t,
  (
    refl,
    refl,
    other_length t,
    (
      refl,
      refl,
      outside (Natural 0 32767) t,
      (refl, refl, outside (Natural 0 999) t, tt),
    ),
  ),
)

pub shapes_of_header : ShapesOfTheHeader
shapes_of_header t place =
    let rows : List Row = rows_of WrongShape header_table in (
      λ p. beside (to_tests t WrongShape place rows wrong_shapes (shapes_said t))
          ((header_by_rule t WrongShape place).0 p),
      λ p. (header_by_rule t WrongShape place).1
          (beside (of_tests t WrongShape place rows wrong_shapes (shapes_said t)) p),
    )

pub ranges_of_header : RangesOfTheHeader
ranges_of_header t place =
    let rows : List Row = rows_of OutOfRange header_table in (
      λ p. beside (to_tests t OutOfRange place rows numbers_outside (ranges_said t))
          ((header_by_rule t OutOfRange place).0 p),
      λ p. (header_by_rule t OutOfRange place).1
          (beside (of_tests t OutOfRange place rows numbers_outside (ranges_said t)) p),
    )
