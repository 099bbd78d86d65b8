-- The components of a font's glyphs are glyphs of the font, and no glyph has too many.
use Rattle.std.proofs.Common.{◌≡◌, ℕ, zero, suc, ◌<◌, ◌≤◌, List, [], ◌∷◌, ◌++◌, length}
use Rattle.std.proofs.Common.{Option, None, Some, refl, sym, ◌∙◌, subst, arith, length-append}
use Rattle.std.proofs.Common.{nat_eq}
use Rattle.std.proofs.lemmas.List.{length-map}
use Rattle.std.proofs.lemmas.List.Elements.{All-from_recursion, recursion_from_All}
use Rattle.std.proofs.lemmas.List.Quantifiers.{position-Some}
use Rattle.std.specs.List.{All, AllByRecursion, flat_map}
use Rattle.std.specs.Cmp.Lexicographic.{pointwise}
use Rattle.std.specs.Option.{option_to_list}
use Rattle.font_ir.specs.FlatGlyphs.{IsFlatGlyph}
use Rattle.font_ir.specs.Glyphs.{gid_of}
use Rattle.font_ir.specs.declared.glyph.FlatGlyph.{FlatGlyph}
use Rattle.font_ir.specs.declared.glyph.Kept.{Kept}
use Rattle.metrics_tables.specs.Nesting.{bases_of, bases_in, bases_at, NoneLeadsToItself}
use Rattle.metrics_tables.specs.Walks.{AreBases}

module _ (names : List (List ℕ)) where
  found_below : (found : Option ℕ) → ((gid : ℕ) → found ≡ Some gid → gid < length names)
      → AllByRecursion (λ gid. gid < length names) (option_to_list found)
  found_below None h = tt
  found_below (Some gid) h = (h gid refl, tt)

  all_behind : (xs ys : List ℕ) → AllByRecursion (λ gid. gid < length names) xs
      → AllByRecursion (λ gid. gid < length names) ys
      → AllByRecursion (λ gid. gid < length names) (xs ++ ys)
  all_behind [] ys h k = k
  all_behind (x ∷ xs) ys h k = (h.0, all_behind xs ys h.1 k)

  kept_below : (kept : List Kept) → AllByRecursion (λ gid. gid < length names)
      (flat_map (λ k. option_to_list (gid_of names k.base)) kept)
  kept_below [] = tt
  kept_below (k ∷ kept) = all_behind (option_to_list (gid_of names k.base))
      (flat_map (λ k. option_to_list (gid_of names k.base)) kept)
      (found_below (gid_of names k.base)
      (λ gid e. (position-Some (pointwise nat_eq k.base) names gid [] e).0)) (kept_below kept)

  found_few : (found : Option ℕ) → length (option_to_list found) ≤ 1
  found_few None = omega arith
  found_few (Some gid) = omega arith

  kept_few : (kept : List Kept)
      → length (flat_map (λ k. option_to_list (gid_of names k.base)) kept) ≤ length kept
  kept_few [] = omega arith
  kept_few (k ∷ kept) =
      let first = found_few (gid_of names k.base) in
      let rest = kept_few kept in
      let both = length-append (option_to_list (gid_of names k.base))
      (flat_map (λ k. option_to_list (gid_of names k.base)) kept) in
      omega (arith, first, rest, both)

  below_at : (glyphs : List FlatGlyph) (gid : ℕ)
      → AllByRecursion (λ base. base < length names) (bases_at (bases_in names glyphs) gid)
  below_at [] gid = tt
  below_at (glyph ∷ glyphs) zero = kept_below glyph.kept
  below_at (glyph ∷ glyphs) (suc gid) = below_at glyphs gid

  few_at : (glyphs : List FlatGlyph) (gid : ℕ) → AllByRecursion IsFlatGlyph glyphs
      → length (bases_at (bases_in names glyphs) gid) ≤ 256
  few_at [] gid flat = omega arith
  few_at (glyph ∷ glyphs) zero flat =
      let few = flat.0.few_kept in let less = kept_few glyph.kept in omega (arith, few, less)
  few_at (glyph ∷ glyphs) (suc gid) flat = few_at glyphs gid flat.1

  pub are_bases : (glyphs : List FlatGlyph) → length names ≤ 65535
      → length glyphs ≡ length names → All IsFlatGlyph glyphs
      → NoneLeadsToItself (bases_in names glyphs) → AreBases (bases_in names glyphs)
  are_bases glyphs few one flat none =
      let many : length (bases_in names glyphs) ≡ length names
      = length-map glyphs (bases_of names) ∙ one in
      record {
        few = omega (arith, many, few);
        within = λ gid. subst (λ n. All (λ base. base < n) (bases_at (bases_in names glyphs) gid))
            (sym many) (All-from_recursion (λ base. base < length names)
            (bases_at (bases_in names glyphs) gid) (below_at glyphs gid));
        narrow = λ gid. few_at glyphs gid (recursion_from_All IsFlatGlyph glyphs flat);
        none_leads = none;
      }
