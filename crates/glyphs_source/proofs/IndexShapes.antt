-- What the index's table says of wrong shapes, in words.
use Rattle.std.proofs.Common.{inl, inr, ℕ, List, [], ◌∷◌, ◌++◌, take, refl, sym, ap, ◌∙◌}
use Rattle.std.proofs.Common.{true≢false}
use Rattle.std.specs.Prelude.{codes, drop}
use Rattle.plist_reader.specs.declared.tree.Tree.{Tree}
use Rattle.refusal_codes.specs.declared.rule.Rule.TheVariants.{WrongShape}
use Rattle.refusal_codes.specs.declared.first.Failure.{Failure}
use Rattle.source_values.specs.Values.{is_list}
use Rattle.source_values.specs.Ways.{Row, FailsRow, Fails, rows_of, when}
use Rattle.glyphs_source.specs.SourceTables.{index_table, to_glyph, wrong_shapes_of_index}
use Rattle.glyphs_source.specs.SourceTables.{ShapesOfTheIndex}
use Rattle.glyphs_source.proofs.SourceRuleLaws.{index_by_rule}
use Rattle.glyphs_source.proofs.HeaderWords.{AreSaid, told, to_tests, of_tests}

-- ---- a row by which nothing fails can be left out

module _ (t : Tree) (n : ℕ) (f : Failure) (row : Row) (others : List Row) where
  without : (rows : List Row) → (FailsRow row t n f → ⊥) → Fails (rows ++ row ∷ others) t n f
      → Fails (rows ++ others) t n f
  without [] void (inl p) = absurd (void p)
  without [] void (inr p) = p
  without (first ∷ rows) void (inl p) = inl p
  without (first ∷ rows) void (inr p) = inr (without rows void p)

  among : (rows : List Row) → Fails (rows ++ others) t n f → Fails (rows ++ row ∷ others) t n f
  among [] p = inr p
  among (first ∷ rows) (inl p) = inl p
  among (first ∷ rows) (inr p) = inr (among rows p)

-- codes in a list are in a list
abbrev list_row : Row
list_row = record {
  way = to_glyph (codes "unicode") ++ (when is_list ∷ []);
  rule = WrongShape;
  holds = is_list;
}

lists_are_lists : (t : Tree) (f : Failure) → FailsRow list_row t t.top f → ⊥
lists_are_lists t f (n, reaches, fails, is) =
    let (a, to_a, (b, to_b, (c, to_c, (d, to_d, (e, to_e, (g, to_g, end)))))) = reaches in
    true≢false (sym to_g.0 ∙ ap (λ (k : ℕ). is_list t k) (sym (end ∙ to_g.1)) ∙ fails)

-- ---- wrong shapes

abbrev shape_rows : List Row
shape_rows = rows_of WrongShape index_table

abbrev before : List Row
before = take 4 shape_rows

abbrev behind_it : List Row
behind_it = drop 5 shape_rows

index_said : (t : Tree) → AreSaid t WrongShape (before ++ behind_it) wrong_shapes_of_index
index_said t = (
  refl,
  refl,
  λ n. refl,
  (
    refl,
    refl,
    λ n. refl,
    (
      refl,
      refl,
      λ n. refl,
      (
        refl,
        refl,
        λ n. refl,
        (
          refl,
          refl,
          λ n. refl,
          (
            refl,
            refl,
            λ n. refl,
            (
              refl,
              refl,
              λ n. refl,
              (
                refl,
                refl,
                λ n. refl,
                (refl, refl, λ n. refl, tt),
              ),
            ),
          ),
        ),
      ),
    ),
  ),
)

pub shapes_of_index : ShapesOfTheIndex
shapes_of_index t place =
    let f : Failure = told t WrongShape place WrongShape place in (
      λ p. to_tests t WrongShape place (before ++ behind_it) wrong_shapes_of_index (index_said t)
          (without t t.top f list_row behind_it before (lists_are_lists t f)
          ((index_by_rule t WrongShape place).0 p)),
      λ p. (index_by_rule t WrongShape place).1
          (among t t.top f list_row behind_it before
          (of_tests t WrongShape place (before ++ behind_it) wrong_shapes_of_index (index_said t)
          p)),
    )
