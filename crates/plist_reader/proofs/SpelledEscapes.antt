-- Each escape that the reader takes is one of the grammar.
use Rattle.std.proofs.Common.{inl, inr, ◌≡◌, ℕ, ◌+◌, ◌-◌, ◌*◌, ◌<◌, ◌≤◌, Bool, true, false, cond}
use Rattle.std.proofs.Common.{eqb, ltb, leb, ◌&&◌, ◌||◌, List, [], ◌∷◌, ◌++◌, Option, Some, None}
use Rattle.std.proofs.Common.{refl, sym, ap, subst, ◌∙◌, arith}
use Rattle.std.specs.Prelude.{◌⊎◌}
use Rattle.std.proofs.lemmas.Bool.{ltb-true, leb-true, eqb-true, both_ways, and_parts, or_cases}
use Rattle.std.proofs.lemmas.Bool.{le-leb, lt-ltb}
use lib.Utf8.{scalar}
use Rattle.plist_reader.specs.declared.escape.Escape.{Escape as EscapeState}
use Rattle.plist_reader.specs.declared.escape.Escape.TheVariants.{Begun, Octal, Octals, Unit0}
use Rattle.plist_reader.specs.declared.escape.Escape.TheVariants.{Unit1, Unit2, Unit3, High}
use Rattle.plist_reader.specs.declared.escape.Escape.TheVariants.{HighBackslash, Low, Low1, Low2}
use Rattle.plist_reader.specs.declared.escape.Escape.TheVariants.{Low3}
use Rattle.plist_reader.specs.declared.escape.Escaped.{Escaped}
use Rattle.plist_reader.specs.declared.escape.Escaped.TheVariants.{More, Whole, Wrong}
use Rattle.plist_reader.specs.Characters.{octal_value, hex_value}
use Rattle.plist_reader.specs.Escapes.{character_of, escape_begun, escape_unit, escape_digit}
use Rattle.plist_reader.specs.Escapes.{with_hex, with_octal, with_last_octal, escape_next}
use Rattle.plist_reader.specs.Grammar.{IsUnit, IsHigh, IsLow, IsEscape, quote, backslash, line_feed}
use Rattle.plist_reader.specs.Grammar.{carriage_return, tab, octal, unit, units}
use Rattle.plist_reader.proofs.GivenEscapes.{octal_value-parts, hex_value-small}

-- the characters behind the backslash that lead to a state
pub data Front : EscapeState → List ℕ → Type 0 where
  begun : Front Begun []
  octal1 : (a x : ℕ) → octal_value a ≡ Some x → x < 2 → Front (Octal x) (a ∷ [])
  octal2 : (a b x y : ℕ) → octal_value a ≡ Some x → x < 2 → octal_value b ≡ Some y
      → Front (Octals x y) (a ∷ b ∷ [])
  unit0 : Front Unit0 (85 ∷ [])
  unit1 : (a x : ℕ) → hex_value a ≡ Some x → Front (Unit1 x) (85 ∷ a ∷ [])
  unit2 : (a b x y : ℕ) → hex_value a ≡ Some x → hex_value b ≡ Some y
      → (eqb x 13 && leb 12 y) ≡ false → Front (Unit2 x y) (85 ∷ a ∷ b ∷ [])
  unit3 : (a b c x y z : ℕ) → hex_value a ≡ Some x → hex_value b ≡ Some y
      → (eqb x 13 && leb 12 y) ≡ false → hex_value c ≡ Some z
      → Front (Unit3 x y z) (85 ∷ a ∷ b ∷ c ∷ [])
  high : (a b c d u : ℕ) → IsUnit a b c d u → IsHigh u
      → Front (High (u - 0xD800)) (85 ∷ a ∷ b ∷ c ∷ d ∷ [])
  high_backslash : (a b c d u : ℕ) → IsUnit a b c d u → IsHigh u
      → Front (HighBackslash (u - 0xD800)) (85 ∷ a ∷ b ∷ c ∷ d ∷ 92 ∷ [])
  low : (a b c d u : ℕ) → IsUnit a b c d u → IsHigh u
      → Front (Low (u - 0xD800)) (85 ∷ a ∷ b ∷ c ∷ d ∷ 92 ∷ 85 ∷ [])
  low1 : (a b c d u e : ℕ) → IsUnit a b c d u → IsHigh u → hex_value e ≡ Some 13
      → Front (Low1 (u - 0xD800)) (85 ∷ a ∷ b ∷ c ∷ d ∷ 92 ∷ 85 ∷ e ∷ [])
  low2 : (a b c d u e f y : ℕ) → IsUnit a b c d u → IsHigh u → hex_value e ≡ Some 13
      → hex_value f ≡ Some y → 12 ≤ y → Front (Low2 (u - 0xD800) (y - 12))
      (85 ∷ a ∷ b ∷ c ∷ d ∷ 92 ∷ 85 ∷ e ∷ f ∷ [])
  low3 : (a b c d u e f g y z : ℕ) → IsUnit a b c d u → IsHigh u → hex_value e ≡ Some 13
      → hex_value f ≡ Some y → 12 ≤ y → hex_value g ≡ Some z
      → Front (Low3 (u - 0xD800) (y - 12) z) (85 ∷ a ∷ b ∷ c ∷ d ∷ 92 ∷ 85 ∷ e ∷ f ∷ g ∷ [])

-- what the characters so far mean
abbrev pub Means : List ℕ → Escaped → Type 0
Means cs (More escape) = Front escape cs
Means cs (Whole character) = IsEscape cs character
Means cs Wrong = Unit {0}

-- a choice whose test is known in each branch
pub holds-known : {A : Type 0} (P : A → Type 0) (b : Bool) (x y : A) → (b ≡ true → P x)
    → (b ≡ false → P y) → P (cond b x y)
holds-known P true x y h k = h refl
holds-known P false x y h k = k refl

pub zero_digit : octal_value 48 ≡ Some 0
unfolding octal_value
zero_digit = refl

one_digit : octal_value 49 ≡ Some 1
unfolding octal_value
one_digit = refl

means-begun : (c : ℕ) → Means (c ∷ []) (escape_begun c)
unfolding escape_begun
means-begun c =
    let M = λ (e : Escaped). Means (c ∷ []) e in
    holds-known M (eqb c 34 || eqb c 92) _ _ (λ h. whole_mark c (or_cases (eqb c 34) (eqb c 92) h))
    (λ _.
    holds-known M (eqb c 110) _ _ (λ h. (let P : ℕ → Type 0 = λ k. IsEscape (k ∷ []) 10
    in subst P (sym (eqb-true c 110 h)) line_feed)) (λ _.
    holds-known M (eqb c 114) _ _ (λ h. (let P : ℕ → Type 0 = λ k. IsEscape (k ∷ []) 13
    in subst P (sym (eqb-true c 114 h)) carriage_return)) (λ _.
    holds-known M (eqb c 116) _ _ (λ h. (let P : ℕ → Type 0 = λ k. IsEscape (k ∷ []) 9
    in subst P (sym (eqb-true c 116 h)) tab)) (λ _.
    holds-known M (eqb c 48) _ _ (λ h. (let P : ℕ → Type 0 = λ k. Front (Octal 0) (k ∷ [])
    in subst P (sym (eqb-true c 48 h)) (octal1 48 0 zero_digit (omega arith)))) (λ _.
    holds-known M (eqb c 49) _ _ (λ h. (let P : ℕ → Type 0 = λ k. Front (Octal 1) (k ∷ [])
    in subst P (sym (eqb-true c 49 h)) (octal1 49 1 one_digit (omega arith)))) (λ _.
    holds-known M (eqb c 85) _ _ (λ h. (let P : ℕ → Type 0 = λ k. Front Unit0 (k ∷ [])
    in subst P (sym (eqb-true c 85 h)) unit0)) (λ _. tt)))))))
  where
    whole_mark : (c : ℕ) → (eqb c 34 ≡ true) ⊎ (eqb c 92 ≡ true) → IsEscape (c ∷ []) c
    whole_mark c h = let P : ℕ → Type 0 = λ k. IsEscape (k ∷ []) k
        in elim h [
          | inl e ↦ subst P (sym (eqb-true c 34 e)) quote
          | inr e ↦ subst P
              (sym (eqb-true c 92 e)) backslash
        ]

means-octal : (a x c : ℕ) (o : Option ℕ) → octal_value c ≡ o → octal_value a ≡ Some x → x < 2
    → Means (a ∷ c ∷ []) (with_octal x o)
means-octal a x c None e h l = tt
means-octal a x c (Some y) e h l = octal2 a c x y h l e

means-last_octal : (a b x y c : ℕ) (o : Option ℕ) → octal_value c ≡ o → octal_value a ≡ Some x
    → x < 2 → octal_value b ≡ Some y → Means (a ∷ b ∷ c ∷ []) (with_last_octal x y o)
unfolding character_of
means-last_octal a b x y c None e h l g = tt
means-last_octal a b x y c (Some z) e h l g
    = holds-known (λ w. Means (a ∷ b ∷ c ∷ []) w) (scalar (x * 64 + y * 8 + z)) _ _
    (λ _. octal a b c x y z h g e (omega (
      arith,
      l,
      octal_value-parts b y g,
      octal_value-parts c z
          e,
    ))) (λ _. tt)

means-unit0 : (c : ℕ) (o : Option ℕ) → hex_value c ≡ o → Means (85 ∷ c ∷ []) (with_hex Unit0 o)
unfolding escape_digit
means-unit0 c None e = tt
means-unit0 c (Some x) e = unit1 c x e

means-unit1 : (a x c : ℕ) (o : Option ℕ) → hex_value c ≡ o → hex_value a ≡ Some x
    → Means (85 ∷ a ∷ c ∷ []) (with_hex (Unit1 x) o)
unfolding escape_digit
means-unit1 a x c None e h = tt
means-unit1 a x c (Some y) e h = holds-known (λ w. Means (85 ∷ a ∷ c ∷ []) w) (eqb x 13 && leb 12 y)
    _ _ (λ _. tt) (λ k. unit2 a c x y h e k)

means-unit2 : (a b x y c : ℕ) (o : Option ℕ) → hex_value c ≡ o → hex_value a ≡ Some x
    → hex_value b ≡ Some y → (eqb x 13 && leb 12 y) ≡ false
    → Means (85 ∷ a ∷ b ∷ c ∷ []) (with_hex (Unit2 x y) o)
unfolding escape_digit
means-unit2 a b x y c None e h g k = tt
means-unit2 a b x y c (Some z) e h g k = unit3 a b c x y z h g k e

-- four digits that don't begin as a low surrogate are none
pub no_low : (x y z w : ℕ) → x < 16 → y < 16 → z < 16 → w < 16 → (eqb x 13 && leb 12 y) ≡ false
    → ¬ (IsLow (x * 4096 + y * 256 + z * 16 + w))
no_low x y z w hx hy hz hw k l =
    let first : x ≡ 13 = omega (arith, l.0, l.1) in
    let second : 12 ≤ y = omega (arith, first, l.0, l.1) in
    both_ways (eqb x 13 && leb 12 y) k (both (eqb x 13) (leb 12 y) (is_thirteen x first)
    (le-leb 12 y second))
  where
    both : (p q : Bool) → p ≡ true → q ≡ true → (p && q) ≡ true
    both p q h g = rw (h, g) refl

    is_thirteen : (x : ℕ) → x ≡ 13 → eqb x 13 ≡ true
    is_thirteen x h = rw h refl

means-unit3 : (a b c x y z d : ℕ) (o : Option ℕ) → hex_value d ≡ o → hex_value a ≡ Some x
    → hex_value b ≡ Some y → (eqb x 13 && leb 12 y) ≡ false → hex_value c ≡ Some z
    → Means (85 ∷ a ∷ b ∷ c ∷ d ∷ []) (with_hex (Unit3 x y z) o)
unfolding escape_digit escape_unit character_of
means-unit3 a b c x y z d None e h g k f = tt
means-unit3 a b c x y z d (Some w) e h g k f =
    let u = x * 4096 + y * 256 + z * 16 + w in
    let i : IsUnit a b c d u = record {
      first = x;
      second = y;
      third = z;
      fourth = w;
      first_is
          = h;
      second_is = g;
      third_is = f;
      fourth_is = e;
      unit_is = refl;
    } in
    let nl = no_low x y z w (hex_value-small a x h) (hex_value-small b y g) (hex_value-small c z f)
    (hex_value-small d w e) k in
    let M = λ (v : Escaped). Means (85 ∷ a ∷ b ∷ c ∷ d ∷ []) v in
    holds-known M (leb 0xD800 u && ltb u 0xDC00) _ _
    (λ q. (let p = and_parts (leb 0xD800 u) (ltb u 0xDC00) q
    in high a b c d u i (leb-true 0xD800 u p.0, ltb-true u 0xDC00 p.1)))
    (λ q. holds-known M (scalar u) _ _ (λ _. unit a b c d u i
    (λ hi. both_ways (leb 0xD800 u && ltb u 0xDC00) q (high_test u hi)) nl) (λ _. tt))
  where
    high_test : (u : ℕ) → IsHigh u → (leb 0xD800 u && ltb u 0xDC00) ≡ true
    high_test u hi = rw (le-leb 0xD800 u hi.0, lt-ltb u 0xDC00 hi.1) refl

means-low : (a b c d u e : ℕ) (o : Option ℕ) → hex_value e ≡ o → IsUnit a b c d u → IsHigh u
    → Means (85 ∷ a ∷ b ∷ c ∷ d ∷ 92 ∷ 85 ∷ e ∷ []) (with_hex (Low (u - 0xD800)) o)
unfolding escape_digit
means-low a b c d u e None q i h = tt
means-low a b c d u e (Some x) q i h = holds-known
    (λ v. Means (85 ∷ a ∷ b ∷ c ∷ d ∷ 92 ∷ 85 ∷ e ∷ []) v) (eqb x 13) _ _
    (λ k. low1 a b c d u e i h (q ∙ ap (λ n. Some n) (eqb-true x 13 k))) (λ _. tt)

means-low1 : (a b c d u e f : ℕ) (o : Option ℕ) → hex_value f ≡ o → IsUnit a b c d u → IsHigh u
    → hex_value e ≡ Some 13
    → Means (85 ∷ a ∷ b ∷ c ∷ d ∷ 92 ∷ 85 ∷ e ∷ f ∷ []) (with_hex (Low1 (u - 0xD800)) o)
unfolding escape_digit
means-low1 a b c d u e f None q i h g = tt
means-low1 a b c d u e f (Some y) q i h g
    = holds-known (λ v. Means (85 ∷ a ∷ b ∷ c ∷ d ∷ 92 ∷ 85 ∷ e ∷ f ∷ []) v) (leb 12 y) _ _
    (λ k. low2 a b c d u e f y i h g q (leb-true 12 y k)) (λ _. tt)

means-low2 : (a b c d u e f y g : ℕ) (o : Option ℕ) → hex_value g ≡ o → IsUnit a b c d u → IsHigh u
    → hex_value e ≡ Some 13 → hex_value f ≡ Some y → 12 ≤ y
    → Means (85 ∷ a ∷ b ∷ c ∷ d ∷ 92 ∷ 85 ∷ e ∷ f ∷ g ∷ [])
    (with_hex (Low2 (u - 0xD800) (y - 12)) o)
unfolding escape_digit
means-low2 a b c d u e f y g None q i h j k l = tt
means-low2 a b c d u e f y g (Some z) q i h j k l = low3 a b c d u e f g y z i h j k l q

means-low3 : (a b c d u e f g y z k : ℕ) (o : Option ℕ) → hex_value k ≡ o → IsUnit a b c d u
    → IsHigh u → hex_value e ≡ Some 13 → hex_value f ≡ Some y → 12 ≤ y
    → hex_value g ≡ Some z → Means (85 ∷ a ∷ b ∷ c ∷ d ∷ 92 ∷ 85 ∷ e ∷ f ∷ g ∷ k ∷ [])
    (with_hex (Low3 (u - 0xD800) (y - 12) z) o)
unfolding escape_digit character_of
means-low3 a b c d u e f g y z k None q i h j m l n = tt
means-low3 a b c d u e f g y z k (Some w) q i h j m l n =
    let v = 13 * 4096 + y * 256 + z * 16 + w in
    let second : IsUnit e f g k v = record {
      first = 13;
      second = y;
      third = z;
      fourth = w;
      first_is = j;
      second_is = m;
      third_is
          = n;
      fourth_is = q;
      unit_is = refl;
    } in
    let is_low : IsLow v = (
      omega (arith, l),
      omega
          (arith, hex_value-small f y m, hex_value-small g z n, hex_value-small k w q),
    ) in
    let code = 0x1_0000 + (u - 0xD800) * 1024 + ((y - 12) * 256 + z * 16 + w) in
    let same : 0x1_0000 + (u - 0xD800) * 1024 + (v - 0xDC00) ≡ code = omega (arith, l) in
    let cs = 85 ∷ a ∷ b ∷ c ∷ d ∷ 92 ∷ 85 ∷ e ∷ f ∷ g ∷ k ∷ [] in
    let P : ℕ → Type 0 = λ n. IsEscape cs n in
    holds-known (λ x. Means cs x) (scalar code) _ _
    (λ _. subst P same (units a b c d e f g k u v i second h is_low)) (λ _. tt)

-- what the next character makes of an escape that began so
pub means-next : (escape : EscapeState) (cs : List ℕ) → Front escape cs → (c : ℕ)
    → Means (cs ++ c ∷ []) (escape_next escape c)
unfolding escape_next
means-next _ _ begun c = means-begun c
means-next _ _ (octal1 a x h l) c = means-octal a x c (octal_value c) refl h l
means-next _ _ (octal2 a b x y h l g) c = means-last_octal a b x y c (octal_value c) refl h l g
means-next _ _ unit0 c = means-unit0 c (hex_value c) refl
means-next _ _ (unit1 a x h) c = means-unit1 a x c (hex_value c) refl h
means-next _ _ (unit2 a b x y h g k) c = means-unit2 a b x y c (hex_value c) refl h g k
means-next _ _ (unit3 a b d x y z h g k f) c = means-unit3 a b d x y z c (hex_value c) refl h g k f
means-next _ _ (high a b d e u i h) c =
    holds-known (λ v. Means (85 ∷ a ∷ b ∷ d ∷ e ∷ c ∷ []) v) (eqb c 92) _ _
    (λ q. (let P : ℕ → Type 0 = λ k. Front (HighBackslash (u - 0xD800))
    (85 ∷ a ∷ b ∷ d ∷ e ∷ k ∷ []) in subst P (sym (eqb-true c 92 q))
    (high_backslash a b d e u i h))) (λ _. tt)
means-next _ _ (high_backslash a b d e u i h) c =
    holds-known (λ v. Means (85 ∷ a ∷ b ∷ d ∷ e ∷ 92 ∷ c ∷ []) v) (eqb c 85) _ _
    (λ q. (let P : ℕ → Type 0 = λ k. Front (Low (u - 0xD800)) (85 ∷ a ∷ b ∷ d ∷ e ∷ 92 ∷ k ∷ [])
    in subst P (sym (eqb-true c 85 q)) (low a b d e u i h))) (λ _. tt)
means-next _ _ (low a b d e u i h) c = means-low a b d e u c (hex_value c) refl i h
means-next _ _ (low1 a b d e u f i h j) c = means-low1 a b d e u f c (hex_value c) refl i h j
means-next _ _ (low2 a b d e u f g y i h j k l) c
    = means-low2 a b d e u f g y c (hex_value c) refl i h j k l
means-next _ _ (low3 a b d e u f g k y z i h j m l n) c
    = means-low3 a b d e u f g k y z c (hex_value c) refl i h j m l n
