-- Each escape that has begun can be finished.
use Rattle.std.proofs.Common.{inl, inr, ◌≡◌, ℕ, ◌+◌, ◌-◌, ◌*◌, ◌<◌, Bool, true, false, eqb, ltb}
use Rattle.std.proofs.Common.{leb, ◌&&◌, List, [], ◌∷◌, ◌++◌, Some, refl, subst, ◌∙◌, arith}
use Rattle.std.proofs.Common.{append_assoc}
use Rattle.std.proofs.lemmas.Bool.{ltb-true, leb-true, and_parts, le-leb, lt-ltb, both_ways}
use Rattle.std.proofs.lemmas.Bool.{cases_Bool}
use Rattle.plist_reader.specs.declared.escape.Escape.{Escape as EscapeState}
use Rattle.plist_reader.specs.declared.escape.Escape.TheVariants.{Octal, Octals, Unit0, Unit1}
use Rattle.plist_reader.specs.declared.escape.Escape.TheVariants.{Unit2, Unit3, High, HighBackslash}
use Rattle.plist_reader.specs.declared.escape.Escape.TheVariants.{Low, Low1, Low2, Low3}
use Rattle.plist_reader.specs.declared.escape.Escaped.{Escaped}
use Rattle.plist_reader.specs.declared.escape.Escaped.TheVariants.{More}
use Rattle.plist_reader.specs.Characters.{hex_value}
use Rattle.plist_reader.specs.Escapes.{escape_next}
use Rattle.plist_reader.specs.Grammar.{IsHigh, IsEscape}
use Rattle.plist_reader.proofs.GivenEscapes.{octal_value-parts, hex_value-small, low_scalar}
use Rattle.plist_reader.proofs.GivenEscapes.{high_scalar, character_of-scalar, Reads, unit0, unit1}
use Rattle.plist_reader.proofs.GivenEscapes.{unit2, unit3, unit-plain, unit-high, low0, low1, low2}
use Rattle.plist_reader.proofs.GivenEscapes.{low3, high-backslash, backslash-unit, simple, octal1}
use Rattle.plist_reader.proofs.GivenEscapes.{octal2}
use Rattle.plist_reader.proofs.SpelledEscapes.{Front, begun, octal1 as front_octal}
use Rattle.plist_reader.proofs.SpelledEscapes.{octal2 as front_octals, unit0 as front_unit0}
use Rattle.plist_reader.proofs.SpelledEscapes.{unit1 as front_unit1, unit2 as front_unit2}
use Rattle.plist_reader.proofs.SpelledEscapes.{unit3 as front_unit3, high, high_backslash, low}
use Rattle.plist_reader.proofs.SpelledEscapes.{low1 as front_low1, low2 as front_low2}
use Rattle.plist_reader.proofs.SpelledEscapes.{low3 as front_low3, Means, means-next, no_low}
use Rattle.plist_reader.proofs.SpelledEscapes.{zero_digit}

-- characters that finish an escape, and the character that it is then
abbrev pub Finishes : EscapeState → Type 0
Finishes escape = (cs : List ℕ) × (character : ℕ) × Reads escape cs character

finishes-more : (escape next : EscapeState) (c : ℕ) → escape_next escape c ≡ More next
    → Finishes next → Finishes escape
finishes-more escape next c e f = on f.0 f.2
  where
    on : (cs : List ℕ) → Reads next cs f.1 → Finishes escape
    on [] h = absurd h
    on (d ∷ ds) h = (c ∷ d ∷ ds, f.1, (next, e, h))

hex_digits : (hex_value 48 ≡ Some 0) × (hex_value 67 ≡ Some 12) × (hex_value 68 ≡ Some 13)
unfolding hex_value
hex_digits = (refl, refl, refl)

-- ---- octal digits

finishes-octals : (x y : ℕ) → x < 2 → y < 8 → Finishes (Octals x y)
finishes-octals x y h g = (
  48 ∷ [],
  x * 64 + y * 8 + 0,
  octal2 x y 48 0 zero_digit
      ∙ character_of-scalar (x * 64 + y * 8 + 0) (low_scalar (x * 64 + y * 8 + 0) (omega arith)),
)

finishes-octal : (x : ℕ) → x < 2 → Finishes (Octal x)
finishes-octal x h = finishes-more (Octal x) (Octals x 0) 48 (octal1 x 48 0 zero_digit)
    (finishes-octals x 0 h (omega arith))

-- ---- the low surrogate

finishes-low3 : (n b d : ℕ) → n < 1024 → b < 4 → d < 16 → Finishes (Low3 n b d)
finishes-low3 n b d h g k = (
  48 ∷ [],
  0x1_0000 + n * 1024 + (b * 256 + d * 16 + 0),
  low3 n b d 48 0 hex_digits.0
      ∙ character_of-scalar (0x1_0000 + n * 1024 + (b * 256 + d * 16 + 0))
      (high_scalar (0x1_0000 + n * 1024 + (b * 256 + d * 16 + 0)) (omega arith) (omega arith)),
)

finishes-low2 : (n b : ℕ) → n < 1024 → b < 4 → Finishes (Low2 n b)
finishes-low2 n b h g = finishes-more (Low2 n b) (Low3 n b 0) 48 (low2 n b 48 0 hex_digits.0)
    (finishes-low3 n b 0 h g (omega arith))

finishes-low1 : (n : ℕ) → n < 1024 → Finishes (Low1 n)
finishes-low1 n h = finishes-more (Low1 n) (Low2 n (12 - 12)) 67
    (low1 n 67 12 hex_digits.1 (omega arith)) (finishes-low2 n (12 - 12) h (omega arith))

finishes-low : (n : ℕ) → n < 1024 → Finishes (Low n)
finishes-low n h = finishes-more (Low n) (Low1 n) 68 (low0 n 68 hex_digits.2) (finishes-low1 n h)

finishes-high_backslash : (n : ℕ) → n < 1024 → Finishes (HighBackslash n)
finishes-high_backslash n h = finishes-more (HighBackslash n) (Low n) 85 (backslash-unit n)
    (finishes-low n h)

finishes-high : (n : ℕ) → n < 1024 → Finishes (High n)
finishes-high n h = finishes-more (High n) (HighBackslash n) 92 (high-backslash n)
    (finishes-high_backslash n h)

surrogate_small : (u : ℕ) → IsHigh u → u - 0xD800 < 1024
surrogate_small u h = omega (arith, h.0, h.1)

-- ---- the first unit

finishes-unit3 : (x y z : ℕ) → x < 16 → y < 16 → z < 16 → (eqb x 13 && leb 12 y) ≡ false
    → Finishes (Unit3 x y z)
finishes-unit3 x y z hx hy hz k =
    let u = x * 4096 + y * 256 + z * 16 + 0 in
    elim (cases_Bool (leb 0xD800 u && ltb u 0xDC00)) [
      | inl e ↦ (let h = is_high u e in finishes-more (Unit3 x y z) (High (u - 0xD800)) 48
          (unit3 x y z 48 0 hex_digits.0 ∙ unit-high x y z 0 u refl h)
          (finishes-high (u - 0xD800) (surrogate_small u h)))
      | inr e ↦ (
        48 ∷ [],
        u,
        unit3 x y z 48 0 hex_digits.0
            ∙ unit-plain x y z 0 hx hy hz (omega arith) u refl (λ h. both_ways _ e (high_test u h))
            (no_low x y z 0 hx hy hz (omega arith) k),
      )
    ]
  where
    is_high : (u : ℕ) → (leb 0xD800 u && ltb u 0xDC00) ≡ true → IsHigh u
    is_high u e = let p = and_parts (leb 0xD800 u) (ltb u 0xDC00) e
        in (leb-true 0xD800 u p.0, ltb-true u 0xDC00 p.1)

    high_test : (u : ℕ) → IsHigh u → (leb 0xD800 u && ltb u 0xDC00) ≡ true
    high_test u h = rw (le-leb 0xD800 u h.0, lt-ltb u 0xDC00 h.1) refl

finishes-unit2 : (x y : ℕ) → x < 16 → y < 16 → (eqb x 13 && leb 12 y) ≡ false → Finishes (Unit2 x y)
finishes-unit2 x y hx hy k = finishes-more (Unit2 x y) (Unit3 x y 0) 48
    (unit2 x y 48 0 hex_digits.0) (finishes-unit3 x y 0 hx hy (omega arith) k)

none_low : (b : Bool) → (b && false) ≡ false
none_low true = refl
none_low false = refl

finishes-unit1 : (x : ℕ) → x < 16 → Finishes (Unit1 x)
finishes-unit1 x hx = let k : (eqb x 13 && leb 12 0) ≡ false = none_low (eqb x 13)
    in finishes-more (Unit1 x) (Unit2 x 0) 48 (unit1 x 48 0 hex_digits.0 k)
    (finishes-unit2 x 0 hx (omega arith) k)

finishes-unit0 : Finishes Unit0
finishes-unit0 = finishes-more Unit0 (Unit1 0) 48 (unit0 48 0 hex_digits.0)
    (finishes-unit1 0 (omega arith))

-- ---- any escape

pub finishes : (escape : EscapeState) (front : List ℕ) → Front escape front → Finishes escape
finishes _ _ begun = (110 ∷ [], 10, simple.2)
finishes _ _ (front_octal a x h l) = finishes-octal x l
finishes _ _ (front_octals a b x y h l g) = finishes-octals x y l (octal_value-parts b y g).1
finishes _ _ front_unit0 = finishes-unit0
finishes _ _ (front_unit1 a x h) = finishes-unit1 x (hex_value-small a x h)
finishes _ _ (front_unit2 a b x y h g k)
    = finishes-unit2 x y (hex_value-small a x h) (hex_value-small b y g) k
finishes _ _ (front_unit3 a b c x y z h g k f)
    = finishes-unit3 x y z (hex_value-small a x h) (hex_value-small b y g) (hex_value-small c z f) k
finishes _ _ (high a b c d u i h) = finishes-high (u - 0xD800) (surrogate_small u h)
finishes _ _ (high_backslash a b c d u i h)
    = finishes-high_backslash (u - 0xD800) (surrogate_small u h)
finishes _ _ (low a b c d u i h) = finishes-low (u - 0xD800) (surrogate_small u h)
finishes _ _ (front_low1 a b c d u e i h j) = finishes-low1 (u - 0xD800) (surrogate_small u h)
finishes _ _ (front_low2 a b c d u e f y i h j k l)
    = finishes-low2 (u - 0xD800) (y - 12) (surrogate_small u h)
    (omega (arith, hex_value-small f y k))
finishes _ _ (front_low3 a b c d u e f g y z i h j k l m)
    = finishes-low3 (u - 0xD800) (y - 12) z (surrogate_small u h)
    (omega (arith, hex_value-small f y k)) (hex_value-small g z m)

-- what the characters so far and those that finish it spell is an escape of the grammar
pub finished-escape : (escape : EscapeState) (front cs : List ℕ) (character : ℕ)
    → Front escape front → Reads escape cs character → IsEscape (front ++ cs) character
finished-escape escape front [] character f r = absurd r
finished-escape escape front (c ∷ []) character f r =
    let M : Escaped → Type 0 = λ e. Means (front ++ c ∷ []) e in
    subst M r (means-next escape front f c)
finished-escape escape front (c ∷ d ∷ cs) character f r =
    let M : Escaped → Type 0 = λ e. Means (front ++ c ∷ []) e in
    let I : List ℕ → Type 0 = λ x. IsEscape x character in
    subst I (append_assoc front (c ∷ []) (d ∷ cs))
    (finished-escape r.0 (front ++ c ∷ []) (d ∷ cs) character
    (subst M r.1 (means-next escape front f c)) r.2)
