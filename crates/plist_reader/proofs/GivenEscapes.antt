-- What the reader makes of the characters that spell an escape.
use Rattle.std.proofs.Common.{inl, inr, ◌≡◌, ℕ, zero, suc, ◌+◌, ◌-◌, ◌*◌, ◌<◌, ◌≤◌, Bool, true}
use Rattle.std.proofs.Common.{false, cond, eqb, ltb, leb, ◌&&◌, List, [], ◌∷◌, ◌++◌, Some, Ok, refl}
use Rattle.std.proofs.Common.{sym, ap, ◌∙◌, arith}
use Rattle.std.specs.Prelude.{◌⊎◌}
use Rattle.std.proofs.lemmas.Bool.{ltb-true, ltb-false, leb-true, eqb-true, both_ways, and_parts}
use Rattle.std.proofs.lemmas.Bool.{lt-ltb, le-ltb, le-leb, cases_Bool}
use Rattle.std.proofs.lemmas.Option.{cond_some}
use Rattle.std.specs.Char.{len_utf8}
use lib.Utf8.{encode, scalar}
use Rattle.plist_reader.specs.declared.tree.TreeNode.{TreeNode}
use Rattle.plist_reader.specs.declared.reader.Phase.{Phase}
use Rattle.plist_reader.specs.declared.reader.Token.TheVariants.{Quoted, Escape}
use Rattle.plist_reader.specs.declared.reader.Open.{Open}
use Rattle.plist_reader.specs.declared.escape.Escape.{Escape as EscapeState}
use Rattle.plist_reader.specs.declared.escape.Escape.TheVariants.{Begun, Octal, Octals, Unit0}
use Rattle.plist_reader.specs.declared.escape.Escape.TheVariants.{Unit1, Unit2, Unit3, High}
use Rattle.plist_reader.specs.declared.escape.Escape.TheVariants.{HighBackslash, Low, Low1, Low2}
use Rattle.plist_reader.specs.declared.escape.Escape.TheVariants.{Low3}
use Rattle.plist_reader.specs.declared.escape.Escaped.TheVariants.{More, Whole}
use Rattle.plist_reader.specs.Characters.{octal_value, hex_value, is_between}
use Rattle.plist_reader.specs.Escapes.{character_of, escape_begun, escape_unit, escape_digit}
use Rattle.plist_reader.specs.Escapes.{escape_next}
use Rattle.plist_reader.specs.Reading.{step, run}
use Rattle.plist_reader.specs.Grammar.{width, IsUnit, IsHigh, IsLow, IsEscape, quote, backslash}
use Rattle.plist_reader.specs.Grammar.{line_feed, carriage_return, tab, octal, unit, units}
use Rattle.plist_reader.proofs.RunLemmas.{run_step}
use Rattle.plist_reader.proofs.GivenTokens.{in_token, run_same}

-- ---- digits

cond_cases : {A : Type 0} (b : Bool) (x y z : A) → cond b x y ≡ z
    → ((b ≡ true) × (x ≡ z)) ⊎ ((b ≡ false) × (y ≡ z))
cond_cases true x y z e = inl (refl, e)
cond_cases false x y z e = inr (refl, e)

between_parts : (low high c : ℕ) → is_between low high c ≡ true → (low ≤ c) × (c ≤ high)
between_parts low high c h = let p = and_parts (leb low c) (leb c high) h
    in (leb-true low c p.0, leb-true c high p.1)

pub octal_value-parts : (c x : ℕ) → octal_value c ≡ Some x → (c ≡ x + 48) × (x < 8)
unfolding octal_value
octal_value-parts c x e =
    let p = cond_some (is_between 48 55 c) (c - 48) x e in
    let q = between_parts 48 55 c p.0 in
    (omega (arith, p.1, q.0, q.1), omega (arith, p.1, q.0, q.1))

pub hex_value-small : (c x : ℕ) → hex_value c ≡ Some x → x < 16
unfolding hex_value
hex_value-small c x e = elim (cond_cases (is_between 48 57 c) (Some (c - 48)) _ (Some x) e) [
  | inl p ↦ (let q = between_parts 48 57 c p.0 in let k : c - 48 ≡ x = cc
      in omega (arith, k, q.0, q.1))
  | inr p ↦ elim (cond_cases (is_between 65 70 c) (Some (c - 55)) _ (Some x) p.1) [
    | inl p2 ↦ (let q = between_parts 65 70 c p2.0 in let k : c - 55 ≡ x = cc
        in omega (arith, k, q.0, q.1))
    | inr p2 ↦ (let p3 = cond_some (is_between 97 102 c) (c - 87) x p2.1
        in let q = between_parts 97 102 c p3.0 in omega (arith, p3.1, q.0, q.1))
  ]
]

-- ---- characters

pub low_scalar : (u : ℕ) → u < 0xD800 → scalar u ≡ true
low_scalar u h = rw (lt-ltb u 55296 h) refl

pub high_scalar : (u : ℕ) → 0xE000 ≤ u → u < 0x11_0000 → scalar u ≡ true
high_scalar u h g = let a : ltb u 55296 ≡ false = le-ltb u 55296 (omega arith)
    in rw (a, le-leb 57344 u h, lt-ltb u 1114112 g) refl

pub character_of-scalar : (u : ℕ) → scalar u ≡ true → character_of u ≡ Whole u
unfolding character_of
character_of-scalar u h = rw h refl

plain_scalar : (u : ℕ) → u < 0x1_0000 → ¬ (IsHigh u) → ¬ (IsLow u) → scalar u ≡ true
plain_scalar u b h l = elim (cases_Bool (ltb u 0xD800)) [
  | inl e ↦ low_scalar u (ltb-true u 0xD800 e)
  | inr e ↦ elim (cases_Bool (ltb u 0xE000)) [
    | inl f ↦ absurd (not_between u e f h l)
    | inr f ↦ high_scalar u (above u 0xE000 f) (omega arith)
  ]
]
  where
    above : (u k : ℕ) → ltb u k ≡ false → k ≤ u
    above u k f = elim (cases_Bool (ltb u k))
        [ inl e ↦ absurd (both_ways (ltb u k) f e) | inr e ↦ omega (arith, ltb-false u k f) ]

    not_between : (u : ℕ) → ltb u 0xD800 ≡ false → ltb u 0xE000 ≡ true → ¬ (IsHigh u) → ¬ (IsLow u)
        → ⊥
    not_between u e f h l = elim (cases_Bool (ltb u 0xDC00)) [
      | inl g ↦ h (ltb-false u 0xD800 e, ltb-true u 0xDC00 g)
      | inr g ↦ l (ltb-false u 0xDC00 g, ltb-true u 0xE000 f)
    ]

-- ---- whole escapes

-- an escape that goes on over these characters, and is whole at the last
abbrev pub Reads : EscapeState → List ℕ → ℕ → Type 0
Reads escape [] character = ⊥
Reads escape (c ∷ []) character = escape_next escape c ≡ Whole character
Reads escape (c ∷ d ∷ cs) character = (next : EscapeState) × (escape_next escape c ≡ More next)
    × Reads next (d ∷ cs) character

pub unit0 : (c x : ℕ) → hex_value c ≡ Some x → escape_next Unit0 c ≡ More (Unit1 x)
unfolding escape_next escape_digit
unit0 c x h = rw h refl

pub unit1 : (a c x : ℕ) → hex_value c ≡ Some x → (eqb a 13 && leb 12 x) ≡ false
    → escape_next (Unit1 a) c ≡ More (Unit2 a x)
unfolding escape_next escape_digit
unit1 a c x h g = rw (h, g) refl

pub unit2 : (a b c x : ℕ) → hex_value c ≡ Some x → escape_next (Unit2 a b) c ≡ More (Unit3 a b x)
unfolding escape_next escape_digit
unit2 a b c x h = rw h refl

pub unit3 : (a b d c x : ℕ) → hex_value c ≡ Some x
    → escape_next (Unit3 a b d) c ≡ escape_unit a b d x
unfolding escape_next escape_digit
unit3 a b d c x h = rw h refl

not_low_digits : (x y z w : ℕ) → y < 16 → z < 16 → w < 16
    → ¬ (IsLow (x * 4096 + y * 256 + z * 16 + w)) → (eqb x 13 && leb 12 y) ≡ false
not_low_digits x y z w hy hz hw l = elim (cases_Bool (eqb x 13 && leb 12 y)) [
  | inl e ↦ absurd (l (low_if e))
  | inr e ↦ e
]
  where
    low_if : (eqb x 13 && leb 12 y) ≡ true → IsLow (x * 4096 + y * 256 + z * 16 + w)
    low_if e = let p = and_parts (eqb x 13) (leb 12 y) e in let q = eqb-true x 13 p.0
        in let k = leb-true 12 y p.1 in (omega (arith, q, k), omega (arith, q, k))

pub unit-plain : (x y z w : ℕ) → x < 16 → y < 16 → z < 16 → w < 16 → (u : ℕ)
    → u ≡ x * 4096 + y * 256 + z * 16 + w → ¬ (IsHigh u) → ¬ (IsLow u)
    → escape_unit x y z w ≡ Whole u
unfolding escape_unit
unit-plain x y z w hx hy hz hw u e h l =
    let v = x * 4096 + y * 256 + z * 16 + w in
    let f : (leb 0xD800 v && ltb v 0xDC00)
    ≡ false = elim (cases_Bool (leb 0xD800 v && ltb v 0xDC00)) [
      | inl g ↦ absurd (h (let p = and_parts (leb 0xD800 v) (ltb v 0xDC00) g
          in (omega (arith, e, leb-true 0xD800 v p.0), omega (arith, e, ltb-true v 0xDC00 p.1))))
      | inr g ↦ g
    ] in
    rw f (ap character_of (sym e) ∙ character_of-scalar u (plain_scalar u (omega arith) h l))

pub unit-high : (x y z w : ℕ) → (u : ℕ) → u ≡ x * 4096 + y * 256 + z * 16 + w → IsHigh u
    → escape_unit x y z w ≡ More (High (u - 0xD800))
unfolding escape_unit
unit-high x y z w u e h =
    let v = x * 4096 + y * 256 + z * 16 + w in
    let a : leb 0xD800 v ≡ true = le-leb 0xD800 v (omega (arith, e, h.0)) in
    let b : ltb v 0xDC00 ≡ true = lt-ltb v 0xDC00 (omega (arith, e, h.1)) in
    rw (a, b) (ap (λ n. More (High (n - 0xD800))) (sym e))

pub low0 : (high c : ℕ) → hex_value c ≡ Some 13 → escape_next (Low high) c ≡ More (Low1 high)
unfolding escape_next escape_digit
low0 high c h = rw h refl

pub low1 : (high c x : ℕ) → hex_value c ≡ Some x → 12 ≤ x
    → escape_next (Low1 high) c ≡ More (Low2 high (x - 12))
unfolding escape_next escape_digit
low1 high c x h g = rw (h, le-leb 12 x g) refl

pub low2 : (high b c x : ℕ) → hex_value c ≡ Some x
    → escape_next (Low2 high b) c ≡ More (Low3 high b x)
unfolding escape_next escape_digit
low2 high b c x h = rw h refl

pub low3 : (high b d c x : ℕ) → hex_value c ≡ Some x
    → escape_next (Low3 high b d) c ≡ character_of (0x1_0000 + high * 1024 + (b * 256 + d * 16 + x))
unfolding escape_next escape_digit
low3 high b d c x h = rw h refl

pub high-backslash : (high : ℕ) → escape_next (High high) 92 ≡ More (HighBackslash high)
unfolding escape_next
high-backslash high = refl

pub backslash-unit : (high : ℕ) → escape_next (HighBackslash high) 85 ≡ More (Low high)
unfolding escape_next
backslash-unit high = refl

begun-unit : escape_next Begun 85 ≡ More Unit0
unfolding escape_next escape_begun
begun-unit = refl

pub simple : (escape_next Begun 34 ≡ Whole 34) × (escape_next Begun 92 ≡ Whole 92)
    × (escape_next Begun 110 ≡ Whole 10) × (escape_next Begun 114 ≡ Whole 13)
    × (escape_next Begun 116 ≡ Whole 9)
unfolding escape_next escape_begun
simple = (refl, refl, refl, refl, refl)

octal0_at : (x a : ℕ) → x < 2 → a ≡ x + 48 → escape_next Begun a ≡ More (Octal x)
unfolding escape_next escape_begun
octal0_at zero a h e = rw e refl
octal0_at (suc zero) a h e = rw e refl
octal0_at (suc (suc x)) a h e = absurd (omega (arith, h))

pub octal1 : (x c y : ℕ) → octal_value c ≡ Some y → escape_next (Octal x) c ≡ More (Octals x y)
unfolding escape_next
octal1 x c y h = rw h refl

pub octal2 : (x y c z : ℕ) → octal_value c ≡ Some z
    → escape_next (Octals x y) c ≡ character_of (x * 64 + y * 8 + z)
unfolding escape_next
octal2 x y c z h = rw h refl

-- the first digit of a low surrogate is 13, and the second at least 12
low_digits : (x y z w low : ℕ) → x < 16 → y < 16 → z < 16 → w < 16
    → low ≡ x * 4096 + y * 256 + z * 16 + w → IsLow low → (x ≡ 13) × (12 ≤ y)
low_digits x y z w low hx hy hz hw e l = let first : x ≡ 13 = omega (arith, e, l.0, l.1)
    in (first, omega (arith, e, first, l.0, l.1))

pair_code : (high low x y z w : ℕ) → low ≡ x * 4096 + y * 256 + z * 16 + w → x ≡ 13 → 12 ≤ y
    → IsHigh high
    → 0x1_0000 + (high - 0xD800) * 1024 + ((y - 12) * 256 + z * 16 + w)
    ≡ 0x1_0000 + (high - 0xD800) * 1024 + (low - 0xDC00)
pair_code high low x y z w e f g h = omega (arith, e, f, g)

pair_scalar : (high low : ℕ) → IsHigh high → IsLow low
    → scalar (0x1_0000 + (high - 0xD800) * 1024 + (low - 0xDC00)) ≡ true
pair_scalar high low h l = high_scalar (0x1_0000 + (high - 0xD800) * 1024 + (low - 0xDC00))
    (omega (arith, h.0, h.1, l.0, l.1)) (omega (arith, h.0, h.1, l.0, l.1))

reads-unit : (a b c d u : ℕ) → IsUnit a b c d u → ¬ (IsHigh u) → ¬ (IsLow u)
    → Reads Begun (85 ∷ a ∷ b ∷ c ∷ d ∷ []) u
reads-unit a b c d u i h l =
    let x = i.first in let y = i.second in let z = i.third in let w = i.fourth in
    let hx = hex_value-small a x i.first_is in let hy = hex_value-small b y i.second_is
    in let hz = hex_value-small c z i.third_is in let hw = hex_value-small d w i.fourth_is in (
      Unit0,
      begun-unit,
      (
        Unit1 x,
        unit0 a x i.first_is,
        (
          Unit2 x y,
          unit1 x b y i.second_is (not_low_digits x y z w hy hz hw
              (λ q. l (let k : u ≡ x * 4096 + y * 256 + z * 16 + w = i.unit_is
              in (omega (arith, k, q.0), omega (arith, k, q.1))))),
          (
            Unit3 x y z,
            unit2 x y c z i.third_is,
            unit3 x y z d w i.fourth_is
                ∙ unit-plain x y z w hx hy hz hw u i.unit_is h l,
          ),
        ),
      ),
    )

reads-units : (a b c d e f g k high low : ℕ) → IsUnit a b c d high → IsUnit e f g k low
    → IsHigh high → IsLow low
    → Reads Begun (85 ∷ a ∷ b ∷ c ∷ d ∷ 92 ∷ 85 ∷ e ∷ f ∷ g ∷ k ∷ [])
    (0x1_0000 + (high - 0xD800) * 1024 + (low - 0xDC00))
reads-units a b c d e f g k high low i j h l =
    let x = i.first in let y = i.second in let z = i.third in let w = i.fourth in
    let hy = hex_value-small b y i.second_is in let hz = hex_value-small c z i.third_is
    in let hw = hex_value-small d w i.fourth_is in
    let p = j.first in let q = j.second in let r = j.third in let s = j.fourth in
    let digits = low_digits p q r s low (hex_value-small e p j.first_is)
    (hex_value-small f q j.second_is) (hex_value-small g r j.third_is)
    (hex_value-small k s j.fourth_is) j.unit_is l in
    let n = high - 0xD800 in (
      Unit0,
      begun-unit,
      (
        Unit1 x,
        unit0 a x i.first_is,
        (
          Unit2 x y,
          unit1 x b y i.second_is (not_low_digits x y z w hy hz hw
              (λ v. let m : high ≡ x * 4096 + y * 256 + z * 16 + w = i.unit_is
              in omega (arith, m, v.0, h.1))),
          (
            Unit3 x y z,
            unit2 x y c z i.third_is,
            (
              High n,
              unit3 x y z d w i.fourth_is ∙ unit-high x y z w high i.unit_is h,
              (
                HighBackslash n,
                high-backslash n,
                (
                  Low n,
                  backslash-unit n,
                  (
                    Low1 n,
                    low0 n e (j.first_is ∙ ap (λ t. Some t) digits.0),
                    (
                      Low2 n (q - 12),
                      low1 n f q j.second_is digits.1,
                      (
                        Low3 n (q - 12) r,
                        low2 n (q - 12) g r j.third_is,
                        low3 n (q - 12) r k s j.fourth_is
                            ∙ ap character_of (pair_code high low p q r s j.unit_is digits.0
                            digits.1 h) ∙ character_of-scalar _ (pair_scalar high low h l),
                      ),
                    ),
                  ),
                ),
              ),
            ),
          ),
        ),
      ),
    )

reads-octal : (a b c x y z : ℕ) → octal_value a ≡ Some x → octal_value b ≡ Some y
    → octal_value c ≡ Some z → x * 64 + y * 8 + z < 128
    → Reads Begun (a ∷ b ∷ c ∷ []) (x * 64 + y * 8 + z)
reads-octal a b c x y z ha hb hc h =
    let first = octal_value-parts a x ha in (
      Octal x,
      octal0_at x a (omega (arith, h)) first.0,
      (
        Octals x y,
        octal1 x b y hb,
        octal2 x y c z hc
            ∙ character_of-scalar (x * 64 + y * 8 + z)
            (low_scalar (x * 64 + y * 8 + z) (omega (arith, h))),
      ),
    )

-- each escape of the grammar is read
pub reads-escape : (cs : List ℕ) (character : ℕ) → IsEscape cs character → Reads Begun cs character
reads-escape _ _ quote = simple.0
reads-escape _ _ backslash = simple.1
reads-escape _ _ line_feed = simple.2
reads-escape _ _ carriage_return = simple.3
reads-escape _ _ tab = simple.4
reads-escape _ _ (octal a b c x y z ha hb hc h) = reads-octal a b c x y z ha hb hc h
reads-escape _ _ (unit a b c d u i h l) = reads-unit a b c d u i h l
reads-escape _ _ (units a b c d e f g k high low i j h l)
    = reads-units a b c d e f g k high low i j h l

-- ---- the reader over an escape

pub step-escape_more : (nodes : List TreeNode) (brackets : List Open) (phase : Phase)
    (at back place c : ℕ) (escape next : EscapeState) (text : List ℕ)
    → escape_next escape c ≡ More next
    → step (in_token nodes brackets phase (Escape at back escape) text []) place c
    ≡ Ok (in_token nodes brackets phase (Escape at back next) text [])
unfolding step
step-escape_more nodes brackets phase at back place c escape next text h = rw h refl

pub step-escape_whole : (nodes : List TreeNode) (brackets : List Open) (phase : Phase)
    (at back place c : ℕ) (escape : EscapeState) (character : ℕ) (text : List ℕ)
    → escape_next escape c ≡ Whole character
    → step (in_token nodes brackets phase (Escape at back escape) text []) place c
    ≡ Ok (in_token nodes brackets phase (Quoted at) (text ++ encode character) [])
unfolding step
step-escape_whole nodes brackets phase at back place c escape character text h = rw h refl

pub run-escape : (cs : List ℕ) (nodes : List TreeNode) (brackets : List Open) (phase : Phase)
    (at back place : ℕ) (escape : EscapeState) (character : ℕ) (text rest : List ℕ)
    → Reads escape cs character
    → run (in_token nodes brackets phase (Escape at back escape) text []) place (cs ++ rest)
    ≡ run (in_token nodes brackets phase (Quoted at) (text ++ encode character) [])
    (place + width cs) rest
run-escape [] nodes brackets phase at back place escape character text rest h = elim h [ ]
run-escape (c ∷ []) nodes brackets phase at back place escape character text rest h =
    run_step _ _ place c rest (step-escape_whole nodes brackets phase at back place c escape
    character text h) ∙ run_same _ _ (place + len_utf8 c) (place + (len_utf8 c + 0)) rest refl
    (omega arith)
run-escape (c ∷ d ∷ cs) nodes brackets phase at back place escape character text rest h =
    run_step _ _ place c (d ∷ (cs ++ rest))
    (step-escape_more nodes brackets phase at back place c escape h.0 text h.1)
    ∙ run-escape (d ∷ cs) nodes brackets phase at back (place + len_utf8 c) h.0 character text rest
    h.2
    ∙ run_same _ _ (place + len_utf8 c + (len_utf8 d + width cs))
    (place + (len_utf8 c + (len_utf8 d + width cs))) rest refl (omega arith)
