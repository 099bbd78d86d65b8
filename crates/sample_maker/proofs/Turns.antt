-- One turn of the loop over the glyphs of a sample.
use Rattle.std.proofs.Common.{◌≡◌, ℕ, zero, suc, ◌+◌, Bool, true, false, cond, List, [], ◌∷◌, ◌++◌}
use Rattle.std.proofs.Common.{refl, sym, ap, ◌∙◌, subst}
use Rattle.std.proofs.Common.{arith}
use Rattle.std.proofs.lemmas.Bool.Decides.{nat_tests}
use Rattle.std.proofs.lemmas.List.{append_assoc}
use Rattle.std.specs.Prelude.{codes, if◌then◌else◌, ◌==◌}
use Rattle.sample_maker.specs.declared.glyphs.SampleGlyph.{SampleGlyph}
use Rattle.sample_maker.specs.Draws.{next, after}
use Rattle.sample_maker.specs.Glyphs.{is_component, component_glyph, rectangle_glyph, glyphs_from}
use Rattle.sample_maker.specs.Glyphs.{is_rectangle}
use Rattle.sample_maker.specs.SampleText.{glyph_text, glyph_lines, line_end}

-- the end of a line by how many glyphs are left
abbrev pub ending : ℕ → List ℕ
ending more = if more == 0 then codes "\n" else codes ",\n"

not_zero : (n : ℕ) → (suc n == 0) ≡ false
not_zero n = grind (arith, nat_tests)

ending_of : (more number last x : ℕ) → line_end (glyphs_from more number last x) ≡ ending more
ending_of zero number last x = refl
ending_of (suc more) number last x = by (is_component number x)
    ∙ sym (ap (λ (b : Bool). if b then codes "\n" else codes ",\n") (not_zero more))
  where
    by : (b : Bool) → line_end (if b
        then component_glyph number last (next x) ∷ glyphs_from more (number + 1) last (after 7 x)
        else rectangle_glyph number (next x) ∷ glyphs_from more (number + 1) number (after 9 x))
        ≡ codes ",\n"
    by true = refl
    by false = refl

-- what is drawn is the first line of what is left
pub turn : (more number last x : ℕ) (glyph : SampleGlyph) (y next_last : ℕ)
    → glyph ≡ (if is_component number x then component_glyph number last (next x)
    else rectangle_glyph number (next x))
    → y ≡ (if is_component number x then after 7 x else after 9 x)
    → next_last ≡ (if is_rectangle glyph.shape then number else last)
    → glyph_lines (glyphs_from (suc more) number last x)
    ≡ glyph_text glyph ++ ending more ++ glyph_lines (glyphs_from more (number + 1) next_last y)
turn more number last x glyph y next_last is state rest = by (is_component number x) is state
  where
    lines : (g : SampleGlyph) (l z : ℕ) → glyph_lines (g ∷ glyphs_from more (number + 1) l z)
        ≡ glyph_text g ++ ending more ++ glyph_lines (glyphs_from more (number + 1) l z)
    lines g l z = ap (λ (end : List ℕ). glyph_text g ++ end ++ glyph_lines
        (glyphs_from more (number + 1) l z)) (ending_of more (number + 1) l z)

    same : (g : SampleGlyph) (l z : ℕ) → glyph ≡ g → next_last ≡ l → y ≡ z
        → glyph_lines (g ∷ glyphs_from more (number + 1) l z)
        ≡ glyph_text glyph ++ ending more ++ glyph_lines
        (glyphs_from more (number + 1) next_last y)
    same g l z e f h = lines g l z
        ∙ sym (ap (λ (k : SampleGlyph). glyph_text k ++ ending more ++ glyph_lines
        (glyphs_from more (number + 1) l z)) e)
        ∙ sym (ap (λ (k : ℕ). glyph_text glyph ++ ending more ++ glyph_lines
        (glyphs_from more (number + 1) k z)) f)
        ∙ sym (ap (λ (k : ℕ). glyph_text glyph ++ ending more ++ glyph_lines
        (glyphs_from more (number + 1) next_last k)) h)

    by : (b : Bool)
        → glyph ≡ (if b then component_glyph number last (next x)
        else rectangle_glyph number (next x))
        → y ≡ (if b then after 7 x else after 9 x)
        → glyph_lines (if b
        then component_glyph number last (next x) ∷ glyphs_from more (number + 1) last (after 7 x)
        else rectangle_glyph number (next x) ∷ glyphs_from more (number + 1) number (after 9 x))
        ≡ glyph_text glyph ++ ending more ++ glyph_lines
        (glyphs_from more (number + 1) next_last y)
    by true e h = same (component_glyph number last (next x)) last (after 7 x) e
        (rest ∙ ap (λ (g : SampleGlyph). if is_rectangle g.shape then number else last) e) h
    by false e h = same (rectangle_glyph number (next x)) number (after 9 x) e
        (rest ∙ ap (λ (g : SampleGlyph). if is_rectangle g.shape then number else last) e) h

-- what is written, and what is left, stay what they were together
pub kept : (text written next_text all : List ℕ) (left more number last x : ℕ)
    (glyph : SampleGlyph) (y next_last : ℕ) (is_last : Bool)
    → left ≡ suc more
    → glyph ≡ (if is_component number x then component_glyph number last (next x)
    else rectangle_glyph number (next x))
    → y ≡ (if is_component number x then after 7 x else after 9 x)
    → next_last ≡ (if is_rectangle glyph.shape then number else last)
    → is_last ≡ (more == 0)
    → written ≡ text ++ glyph_text glyph
    → next_text ≡ written ++ (if is_last then codes "\n" else codes ",\n")
    → text ++ glyph_lines (glyphs_from left number last x) ≡ all
    → next_text ++ glyph_lines (glyphs_from more (number + 1) next_last y) ≡ all
kept text written next_text all left more number last x glyph y next_last is_last e is state rest
    end wrote ended h =
    let tail : List ℕ = glyph_lines (glyphs_from more (number + 1) next_last y) in
    let ended_by : next_text ≡ (text ++ glyph_text glyph) ++ ending more =
    ended
    ∙ ap (λ (b : Bool). written ++ (if b then codes "\n" else codes ",\n")) end
    ∙ ap (λ (t : List ℕ). t ++ ending more) wrote in
    ap (λ (t : List ℕ). t ++ tail) ended_by
    ∙ ap (λ (t : List ℕ). t ++ tail) (append_assoc text (glyph_text glyph) (ending more))
    ∙ append_assoc text (glyph_text glyph ++ ending more) tail
    ∙ sym (ap (λ (t : List ℕ). text ++ t) (turn more number last x glyph y next_last is state rest))
    ∙ sym (ap (λ (n : ℕ). text ++ glyph_lines (glyphs_from n number last x)) e)
    ∙ h
