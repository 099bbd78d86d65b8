-- How long the text of a sample can be: at most 298 bytes for each glyph, and the lines around them.
use Rattle.std.proofs.Common.{◌≡◌, ℕ, zero, suc, ◌+◌, ◌*◌, ◌<◌, ◌≤◌, Bool, true, false}
use Rattle.std.proofs.Common.{List, [], ◌∷◌, ◌++◌, length, sym, subst, arith, lit<}
use Rattle.std.proofs.lemmas.List.{length-append}
use Rattle.std.proofs.lemmas.Fmt.{length-decimal-le}
use Rattle.std.proofs.lemmas.Bool.Decides.{nat_tests}
use Rattle.std.proofs.lemmas.Nat.{mod_below}
use Rattle.std.specs.Prelude.{codes, ◌/◌, nat_lt, ◌&&◌, if◌then◌else◌}
use Rattle.std.specs.Fmt.{decimal}
use Rattle.sample_maker.specs.declared.glyphs.SampleGlyph.{SampleGlyph}
use Rattle.sample_maker.specs.declared.glyphs.SampleShape.{SampleShape}
use Rattle.sample_maker.specs.declared.glyphs.SampleShape.TheVariants.{Component, Rectangle}
use Rattle.sample_maker.specs.Draws.{next, after, below, drawn}
use Rattle.sample_maker.specs.Glyphs.{is_component, component_glyph, rectangle_glyph, glyphs_from}
use Rattle.sample_maker.specs.Glyphs.{glyphs_of, IsSmallPair, IsSmallShape}
use Rattle.sample_maker.specs.SampleText.{pair_text, node_text, rectangle_text, component_text}
use Rattle.sample_maker.specs.SampleText.{first_shape, second_shape, layer_text, layers_text}
use Rattle.sample_maker.specs.SampleText.{glyph_name, opening_text, export_text, unicode_text}
use Rattle.sample_maker.specs.SampleText.{is_exported, glyph_text, line_end, glyph_lines, head_text}
use Rattle.sample_maker.specs.SampleText.{font_lines, masters_line, tail_text, sample_text}

-- texts that stand one behind the other
joined : (m n : ℕ) (xs ys : List ℕ) → length xs ≤ m → length ys ≤ n → length (xs ++ ys) ≤ m + n
joined m n xs ys a b = omega (arith, length-append xs ys, a, b)

own : (xs : List ℕ) → length xs ≤ length xs
own xs = omega arith

-- a text of known length behind another one
and_text : (m : ℕ) (xs ys : List ℕ) → length xs ≤ m → length (xs ++ ys) ≤ m + length ys
and_text m xs ys a = joined m (length ys) xs ys a (own ys)

-- ---- a glyph

number : (n : ℕ) → n < 100000 → length (decimal n) ≤ 5
number n small = length-decimal-le 5 n (lit< tt) small (omega (arith, small))

pair : (x y : ℕ) → x < 100000 → y < 100000 → length (pair_text x y) ≤ 11
pair x y a b = joined 6 5 (decimal x ++ codes ",") (decimal y)
    (and_text 5 (decimal x) (codes ",") (number x a)) (number y b)

node : (x y : ℕ) → x < 100000 → y < 100000 → length (node_text x y) ≤ 15
node x y a b = and_text 12 (codes "(" ++ pair_text x y) (codes ",l)")
    (joined 1 11 (codes "(") (pair_text x y) (own (codes "(")) (pair x y a b))

name : (n : ℕ) → length (glyph_name n) ≤ 6
unfolding glyph_name
name n = omega arith

rectangle : (corner size : ℕ × ℕ) → IsSmallPair corner → IsSmallPair size
    → length (rectangle_text corner size) ≤ 76
rectangle corner size a b =
    let x = corner.0 in
    let y = corner.1 in
    let right = x + size.0 in
    let top = y + size.1 in
    let left_small : x < 100000 = omega (arith, a.0) in
    let bottom_small : y < 100000 = omega (arith, a.1) in
    let right_small : right < 100000 = omega (arith, a.0, b.0) in
    let top_small : top < 100000 = omega (arith, a.1, b.1) in
    let one = codes "{nodes = (" ++ node_text x y in
    let two = one ++ codes "," ++ node_text right y in
    let three = two ++ codes "," ++ node_text right top in
    let four = three ++ codes "," ++ node_text x top in
    let one_short : length one ≤ 25 = joined 10 15 (codes "{nodes = (") (node_text x y)
    (own (codes "{nodes = (")) (node x y left_small bottom_small) in
    let two_short : length two ≤ 41 = joined 26 15 (one ++ codes ",") (node_text right y)
    (and_text 25 one (codes ",") one_short) (node right y right_small bottom_small) in
    let three_short : length three ≤ 57 = joined 42 15 (two ++ codes ",") (node_text right top)
    (and_text 41 two (codes ",") two_short) (node right top right_small top_small) in
    let four_short : length four ≤ 73 = joined 58 15 (three ++ codes ",") (node_text x top)
    (and_text 57 three (codes ",") three_short) (node x top left_small top_small) in
    and_text 73 four (codes ");}") four_short

component : (base : ℕ) (at : ℕ × ℕ) → IsSmallPair at → length (component_text base at) ≤ 35
component base at a =
    let moved = codes "{pos = (" ++ pair_text at.0 at.1 in
    let moved_short : length moved ≤ 19 = joined 8 11 (codes "{pos = (") (pair_text at.0 at.1)
    (own (codes "{pos = (")) (pair at.0 at.1 (omega (arith, a.0)) (omega (arith, a.1))) in
    and_text 33 (moved ++ codes ");ref = " ++ glyph_name base) (codes ";}")
    (joined 27 6 (moved ++ codes ");ref = ") (glyph_name base)
    (and_text 19 moved (codes ");ref = ") moved_short) (name base))

first : (shape : SampleShape) → IsSmallShape shape → length (first_shape shape) ≤ 76
first (Component base one two) small = omega (arith, component base one small.0)
first (Rectangle corner one two) small = rectangle corner one small.0 small.1

second : (shape : SampleShape) → IsSmallShape shape → length (second_shape shape) ≤ 76
second (Component base one two) small = omega (arith, component base two small.1)
second (Rectangle corner one two) small = rectangle corner two small.0 small.2

layer : (id shape : List ℕ) (width : ℕ) → length id ≤ 2 → length shape ≤ 76 → width < 100000
    → length (layer_text id shape width) ≤ 117
layer id shape width a b c =
    let begun = codes "{layerId = " ++ id ++ codes ";shapes = (" in
    let shaped = begun ++ shape ++ codes ");width = " in
    let begun_short : length begun ≤ 24 = and_text 13 (codes "{layerId = " ++ id) (codes ";shapes = (")
    (joined 11 2 (codes "{layerId = ") id (own (codes "{layerId = ")) a) in
    let shaped_short : length shaped ≤ 110 = and_text 100 (begun ++ shape) (codes ");width = ")
    (joined 24 76 begun shape begun_short b) in
    and_text 115 (shaped ++ decimal width) (codes ";}")
    (joined 110 5 shaped (decimal width) shaped_short (number width c))

layers : (glyph : SampleGlyph) → IsSmallShape glyph.shape → glyph.widths.0 < 100000
    → glyph.widths.1 < 100000 → length (layers_text glyph) ≤ 247
unfolding layers_text
layers glyph small a b =
    let one = layer_text (codes "m1") (first_shape glyph.shape) glyph.widths.0 in
    let two = layer_text (codes "m2") (second_shape glyph.shape) glyph.widths.1 in
    let one_short : length one ≤ 117 = layer (codes "m1") (first_shape glyph.shape) glyph.widths.0
    (own (codes "m1")) (first glyph.shape small) a in
    let two_short : length two ≤ 117 = layer (codes "m2") (second_shape glyph.shape) glyph.widths.1
    (own (codes "m2")) (second glyph.shape small) b in
    and_text 245 (codes "layers = (" ++ one ++ codes "," ++ two) (codes ");")
    (joined 128 117 (codes "layers = (" ++ one ++ codes ",") two
    (and_text 127 (codes "layers = (" ++ one) (codes ",")
    (joined 10 117 (codes "layers = (") one (own (codes "layers = (")) one_short))
    two_short)

export : (n : ℕ) → length (export_text n) ≤ 11
unfolding export_text
export n = by (is_exported n)
  where
    by : (b : Bool) → length (if b then [] else codes "export = 0;") ≤ 11
    by true = omega arith
    by false = omega arith

unicode : (n : ℕ) → n < 60000 → length (unicode_text n) ≤ 17
unfolding unicode_text
unicode n small = by (is_exported n && nat_lt n 6400)
  where
    by : (b : Bool)
        → length (if b then codes "unicode = " ++ decimal (57344 + n) ++ codes ";" else []) ≤ 17
    by true = and_text 16 (codes "unicode = " ++ decimal (57344 + n)) (codes ";")
        (joined 10 6 (codes "unicode = ") (decimal (57344 + n)) (own (codes "unicode = "))
        (length-decimal-le 6 (57344 + n) (lit< tt) (omega (arith, small)) (omega (arith, small))))
    by false = omega arith

opening : (n : ℕ) → length (opening_text n) ≤ 19
unfolding opening_text
opening n = joined 13 6 (codes "{glyphname = ") (glyph_name n) (own (codes "{glyphname = "))
    (name n)

-- a glyph whose numbers are small
record IsSmall (glyph : SampleGlyph) : Type 0 where
  number : glyph.number < 60000
  shape : IsSmallShape glyph.shape
  first : glyph.widths.0 < 100000
  second : glyph.widths.1 < 100000

glyph_short : (glyph : SampleGlyph) → IsSmall glyph → length (glyph_text glyph) ≤ 296
glyph_short glyph small =
    let begun = opening_text glyph.number ++ codes ";" in
    let told = begun ++ export_text glyph.number in
    let layered = told ++ layers_text glyph in
    let told_short : length told ≤ 31 = joined 20 11 begun (export_text glyph.number)
    (and_text 19 (opening_text glyph.number) (codes ";") (opening glyph.number))
    (export glyph.number) in
    let layered_short : length layered ≤ 278 = joined 31 247 told (layers_text glyph) told_short
    (layers glyph small.shape small.first small.second) in
    and_text 295 (layered ++ unicode_text glyph.number) (codes "}")
    (joined 278 17 layered (unicode_text glyph.number) layered_short
    (unicode glyph.number small.number))

-- ---- the glyphs that are drawn

drawn_below : (before n x : ℕ) → 0 < n → drawn before n x < n
unfolding below
drawn_below before n x some = mod_below (after (suc before) x / 65536) n some

component_small : (n base x : ℕ) → n < 60000 → IsSmall (component_glyph n base x)
component_small n base x small =
    let a = drawn_below 0 200 x (lit< tt) in
    let b = drawn_below 1 200 x (lit< tt) in
    let c = drawn_below 2 200 x (lit< tt) in
    let d = drawn_below 3 200 x (lit< tt) in
    let wide = drawn_below 4 200 x (lit< tt) in
    let more = drawn_below 5 50 x (lit< tt) in
    record {
      number = small;
      shape = ((omega (arith, a), omega (arith, b)), (omega (arith, c), omega (arith, d)));
      first = omega (arith, wide);
      second = omega (arith, wide, more);
    }

rectangle_small : (n x : ℕ) → n < 60000 → IsSmall (rectangle_glyph n x)
rectangle_small n x small =
    let a = drawn_below 0 400 x (lit< tt) in
    let b = drawn_below 1 400 x (lit< tt) in
    let c = drawn_below 2 400 x (lit< tt) in
    let d = drawn_below 3 400 x (lit< tt) in
    let e = drawn_below 4 40 x (lit< tt) in
    let f = drawn_below 5 40 x (lit< tt) in
    let wide = drawn_below 6 200 x (lit< tt) in
    let more = drawn_below 7 50 x (lit< tt) in
    record {
      number = small;
      shape = (
        (omega (arith, a), omega (arith, b)),
        (omega (arith, c), omega (arith, d)),
        (omega (arith, c, e), omega (arith, d, f)),
      );
      first = omega (arith, wide);
      second = omega (arith, wide, more);
    }

end_short : (glyphs : List SampleGlyph) → length (line_end glyphs) ≤ 2
end_short [] = omega arith
end_short (glyph ∷ glyphs) = omega arith

line_short : (n : ℕ) (glyph : SampleGlyph) (glyphs : List SampleGlyph) → IsSmall glyph
    → length (glyph_lines glyphs) ≤ 298 * n → length (glyph_lines (glyph ∷ glyphs)) ≤ 298 * suc n
line_short n glyph glyphs small rest =
    let whole : length (glyph_text glyph ++ line_end glyphs ++ glyph_lines glyphs)
    ≤ 298 + 298 * n =
    joined 298 (298 * n) (glyph_text glyph ++ line_end glyphs) (glyph_lines glyphs)
    (joined 296 2 (glyph_text glyph) (line_end glyphs) (glyph_short glyph small)
    (end_short glyphs)) rest in
    omega (arith, whole)

lines_short : (more n last x : ℕ) → n + more ≤ 60000
    → length (glyph_lines (glyphs_from more n last x)) ≤ 298 * more
lines_short zero n last x few = omega arith
lines_short (suc more) n last x few =
    let small : n < 60000 = omega (arith, few) in
    let less : n + 1 + more ≤ 60000 = omega (arith, few) in
    by (is_component n x) small (lines_short more (n + 1) last (after 7 x) less)
    (lines_short more (n + 1) n (after 9 x) less)
  where
    by : (b : Bool) → n < 60000
        → length (glyph_lines (glyphs_from more (n + 1) last (after 7 x))) ≤ 298 * more
        → length (glyph_lines (glyphs_from more (n + 1) n (after 9 x))) ≤ 298 * more
        → length (glyph_lines (if b
        then component_glyph n last (next x) ∷ glyphs_from more (n + 1) last (after 7 x)
        else rectangle_glyph n (next x) ∷ glyphs_from more (n + 1) n (after 9 x)))
        ≤ 298 * suc more
    by true small a b = line_short more _ _ (component_small n last (next x) small) a
    by false small a b = line_short more _ _ (rectangle_small n (next x) small) b

-- ---- the whole text

head_short : length head_text ≤ 1000
unfolding font_lines masters_line
head_short = omega arith

tail_short : length tail_text ≤ 1000
unfolding tail_text
tail_short = omega arith

sample_short : (seed glyphs : ℕ) → glyphs ≤ 60000 → length (sample_text seed glyphs) ≤ 67108864
unfolding sample_text
sample_short seed glyphs few =
    let lines : length (glyph_lines (glyphs_of seed glyphs)) ≤ 298 * glyphs =
    lines_short glyphs 0 0 seed (omega (arith, few)) in
    let whole : length (head_text ++ glyph_lines (glyphs_of seed glyphs) ++ tail_text)
    ≤ 1000 + 298 * glyphs + 1000 =
    joined (1000 + 298 * glyphs) 1000 (head_text ++ glyph_lines (glyphs_of seed glyphs)) tail_text
    (joined 1000 (298 * glyphs) head_text (glyph_lines (glyphs_of seed glyphs)) head_short lines)
    tail_short in
    omega (arith, few, whole)

pub fits_a_source : (text : List ℕ) (seed glyphs : ℕ) → text ≡ sample_text seed glyphs
    → glyphs ≤ 60000 → length text ≤ 67108864
fits_a_source text seed glyphs is few =
    subst (λ (bytes : List ℕ). length bytes ≤ 67108864) (sym is) (sample_short seed glyphs few)
