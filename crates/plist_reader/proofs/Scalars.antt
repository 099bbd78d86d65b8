-- Each text that the grammar spells is that of a source: its characters are Unicode scalar values.
use Rattle.std.proofs.Common.{inl, inr, ◌≡◌, ℕ, ◌+◌, ◌<◌, ◌≤◌, Bool, true, false, leb, eqb, ◌&&◌}
use Rattle.std.proofs.Common.{List, [], ◌∷◌, ◌++◌, Option, Some, None, refl, sym, subst, arith}
use Rattle.std.specs.List.{AllByRecursion}
use Rattle.std.specs.Char.{IsScalar}
use Rattle.std.specs.Str.{IsUtf8, chars}
use Rattle.std.proofs.lemmas.Bool.{ne_eqb, leb-true, and_parts, both_ways, cases_Bool, cases_lt}
use Rattle.std.proofs.lemmas.Str.{scalars-chars, chars-encodes}
use lib.Utf8.{scalar, scalars, encodes, low_scalar}
use Rattle.plist_reader.specs.Characters.{is_space, is_word, is_between, octal_value, hex_value}
use Rattle.plist_reader.specs.declared.tree.Tree.{Tree}
use Rattle.plist_reader.specs.Refusals.{CanGoOn}
use Rattle.plist_reader.specs.Grammar.{Value, Text, Bytes, Items, Pairs, Values, NoValues, AndValue}
use Rattle.plist_reader.specs.Grammar.{Entries, NoEntries, AndEntry, AreSpaces, IsUnit, IsEscape}
use Rattle.plist_reader.specs.Grammar.{quote, backslash, line_feed, carriage_return, tab, octal}
use Rattle.plist_reader.specs.Grammar.{unit, units, IsQuoted, no_more, plain, escaped, IsText}
use Rattle.plist_reader.specs.Grammar.{IsHex, no_digits, space, digits, Spells, SpellItems}
use Rattle.plist_reader.specs.Grammar.{SpellEntries, IsTextOf, tree_of, HasTree}

-- ---- characters beyond ASCII are none of a token but a string

pub no_char : (c k : ℕ) → 128 ≤ c → k < 128 → eqb c k ≡ false
no_char c k h l = ne_eqb c k (λ e. absurd (omega arith))

no_between : (low high c : ℕ) → 128 ≤ c → high < 128 → is_between low high c ≡ false
no_between low high c h l = elim (cases_Bool (is_between low high c)) [
  | inl e ↦ (let p = and_parts (leb low c) (leb c high) e
      in absurd (omega (arith, leb-true c high p.1)))
  | inr e ↦ e
]

pub no_space : (c : ℕ) → 128 ≤ c → is_space c ≡ false
unfolding is_space
no_space c h = rw (
  no_char c 32 h (omega arith),
  no_char c 9 h (omega arith),
  no_char c 13 h
      (omega arith),
  no_char c 10 h (omega arith),
) refl

pub no_word : (c : ℕ) → 128 ≤ c → is_word c ≡ false
unfolding is_word
no_word c h = rw (no_between 33 126 c h (omega arith)) refl

pub no_octal : (c : ℕ) → 128 ≤ c → octal_value c ≡ None
unfolding octal_value
no_octal c h = rw (no_between 48 55 c h (omega arith)) refl

pub no_hex : (c : ℕ) → 128 ≤ c → hex_value c ≡ None
unfolding hex_value
no_hex c h = rw (
  no_between 48 57 c h (omega arith),
  no_between 65 70 c h (omega arith),
  no_between
      97 102 c h (omega arith),
) refl

-- ---- so those of the other tokens are scalar values

ascii-scalar : (c : ℕ) → (128 ≤ c → ⊥) → IsScalar c
ascii-scalar c n = elim (cases_lt c 128)
    [ inl l ↦ low_scalar c (omega arith) | inr h ↦ absurd (n h) ]

no_value : (x : ℕ) (o : Option ℕ) → o ≡ None → o ≡ Some x → ⊥
no_value x o n e = cc

space-scalar : (c : ℕ) → is_space c ≡ true → IsScalar c
space-scalar c e = ascii-scalar c (λ h. both_ways (is_space c) (no_space c h) e)

word-scalar : (c : ℕ) → is_word c ≡ true → IsScalar c
word-scalar c e = ascii-scalar c (λ h. both_ways (is_word c) (no_word c h) e)

octal-scalar : (c x : ℕ) → octal_value c ≡ Some x → IsScalar c
octal-scalar c x e = ascii-scalar c (λ h. no_value x (octal_value c) (no_octal c h) e)

hex-scalar : (c x : ℕ) → hex_value c ≡ Some x → IsScalar c
hex-scalar c x e = ascii-scalar c (λ h. no_value x (hex_value c) (no_hex c h) e)

-- ---- lists of them

abbrev pub AreScalars : List ℕ → Type 0
AreScalars cs = AllByRecursion IsScalar cs

pub all-append : (P : ℕ → Type 0) (xs ys : List ℕ) → AllByRecursion P xs → AllByRecursion P ys
    → AllByRecursion P (xs ++ ys)
all-append P [] ys h k = k
all-append P (x ∷ xs) ys h k = (h.0, all-append P xs ys h.1 k)

pub all-parts : (P : ℕ → Type 0) (xs ys : List ℕ) → AllByRecursion P (xs ++ ys)
    → AllByRecursion P xs × AllByRecursion P ys
all-parts P [] ys h = (tt, h)
all-parts P (x ∷ xs) ys h = let k = all-parts P xs ys h.1 in ((h.0, k.0), k.1)

all-weaker : (P Q : ℕ → Type 0) → ((c : ℕ) → P c → Q c) → (cs : List ℕ) → AllByRecursion P cs
    → AllByRecursion Q cs
all-weaker P Q f [] h = tt
all-weaker P Q f (c ∷ cs) h = (f c h.0, all-weaker P Q f cs h.1)

spaces-scalars : (cs : List ℕ) → AreSpaces cs → AreScalars cs
spaces-scalars cs h = all-weaker (λ c. is_space c ≡ true) IsScalar space-scalar cs h

-- ---- tokens

unit-scalars : (a b c d u : ℕ) → IsUnit a b c d u → AreScalars (a ∷ b ∷ c ∷ d ∷ [])
unit-scalars a b c d u i = (
  hex-scalar a i.first i.first_is,
  (
    hex-scalar b i.second i.second_is,
    (
      hex-scalar c i.third i.third_is,
      (hex-scalar d i.fourth i.fourth_is, tt),
    ),
  ),
)

pub escape-scalars : (cs : List ℕ) (c : ℕ) → IsEscape cs c → AreScalars cs
escape-scalars _ _ quote = (refl, tt)
escape-scalars _ _ backslash = (refl, tt)
escape-scalars _ _ line_feed = (refl, tt)
escape-scalars _ _ carriage_return = (refl, tt)
escape-scalars _ _ tab = (refl, tt)
escape-scalars _ _ (octal a b c x y z h g k l)
    = (octal-scalar a x h, (octal-scalar b y g, (octal-scalar c z k, tt)))
escape-scalars _ _ (unit a b c d u i n m) = (refl, unit-scalars a b c d u i)
escape-scalars _ _ (units a b c d e f g h high low i j n m) = (
  refl,
  all-append IsScalar (a ∷ b ∷ c ∷ d ∷ []) (92 ∷ 85 ∷ e ∷ f ∷ g ∷ h ∷ [])
      (unit-scalars a b c d high i) (refl, (refl, unit-scalars e f g h low j)),
)

quoted-scalars : (cs bytes : List ℕ) → IsQuoted cs bytes → AreScalars cs
quoted-scalars _ _ no_more = tt
quoted-scalars _ _ (plain c cs bytes i n m q) = (i, quoted-scalars cs bytes q)
quoted-scalars _ _ (escaped c escape cs bytes e q)
    = (refl, all-append IsScalar escape cs (escape-scalars escape c e) (quoted-scalars cs bytes q))

text-scalars : (cs bytes : List ℕ) → IsText cs bytes → AreScalars cs
text-scalars cs bytes (inl w) = all-weaker (λ c. is_word c ≡ true) IsScalar word-scalar cs w.own
text-scalars cs bytes (inr (inner, e, q))
    = subst (λ (x : List ℕ). AreScalars x) (sym e)
    (refl, all-append IsScalar inner (34 ∷ []) (quoted-scalars inner bytes q) (refl, tt))

hex-scalars : (cs bytes : List ℕ) → IsHex cs bytes → AreScalars cs
hex-scalars _ _ no_digits = tt
hex-scalars _ _ (space c cs bytes e h) = (space-scalar c e, hex-scalars cs bytes h)
hex-scalars _ _ (digits a b x y gap cs bytes e g f h)
    = (
      hex-scalar a x e,
      all-append IsScalar gap (b ∷ cs) (spaces-scalars gap g)
          (hex-scalar b y f, hex-scalars cs bytes h),
    )

-- ---- values

-- spaces around some characters
around : (gap text after : List ℕ) → AreSpaces gap → AreScalars text → AreScalars after
    → AreScalars (gap ++ (text ++ after))
around gap text after g t a = all-append IsScalar gap (text ++ after) (spaces-scalars gap g)
    (all-append IsScalar text after t a)

mutual
  value-scalars : (v : Value) (depth place : ℕ) (cs : List ℕ) → Spells v depth place cs
      → AreScalars cs
  value-scalars (Text at end bytes) depth place cs s = text-scalars cs bytes s.2
  value-scalars (Bytes at end bytes) depth place cs s
      = subst (λ (x : List ℕ). AreScalars x) (sym s.3)
      (refl, all-append IsScalar s.2 (62 ∷ []) (hex-scalars s.2 bytes s.4) (refl, tt))
  value-scalars (Items at end items) depth place cs s =
      subst (λ (x : List ℕ). AreScalars x) (sym s.4) (
        refl,
        all-append IsScalar s.3 (41 ∷ [])
            (items-scalars items (depth + 1) (place + 1) s.3 s.5) (refl, tt),
      )
  value-scalars (Pairs at end entries) depth place cs s =
      subst (λ (x : List ℕ). AreScalars x) (sym s.4) (
        refl,
        all-append IsScalar s.3 (125 ∷ [])
            (entries-scalars entries (depth + 1) [] (place + 1) s.3 s.5) (refl, tt),
      )

  items-scalars : (items : Values) (depth place : ℕ) (cs : List ℕ) → SpellItems items depth place cs
      → AreScalars cs
  items-scalars NoValues depth place cs s = spaces-scalars cs s
  items-scalars (AndValue v vs) depth place cs s =
      let tail : AreScalars s.tail = elim s.followed [
        | inl e ↦ subst (λ (x : List ℕ). AreScalars x) (sym e.1) tt
        | inr e ↦ subst (λ (x : List ℕ). AreScalars x) (sym e.1)
            (refl, items-scalars vs depth _ e.0 e.2)
      ] in
      subst (λ (x : List ℕ). AreScalars x) (sym s.parts)
      (around s.gap s.text (s.after ++ s.tail) s.gap_spaces
      (value-scalars v depth _ s.text s.spelled)
      (all-append IsScalar s.after s.tail (spaces-scalars s.after s.after_spaces) tail))

  entries-scalars : (entries : Entries) (depth : ℕ) (keys : List (List ℕ)) (place : ℕ) (cs : List ℕ)
      → SpellEntries entries depth keys place cs → AreScalars cs
  entries-scalars NoEntries depth keys place cs s = spaces-scalars cs s
  entries-scalars (AndEntry at end key v entries) depth keys place cs s =
      let e = s.1 in
      let rest : AreScalars (e.after ++ 59 ∷ e.rest)
      = all-append IsScalar e.after (59 ∷ e.rest) (spaces-scalars e.after e.after_spaces)
      (refl, entries-scalars entries depth (keys ++ key ∷ []) _ e.rest e.followed) in
      let value = around e.behind_sign e.text (e.after ++ 59 ∷ e.rest) e.behind_spaces
      (value-scalars v depth _ e.text e.spelled) rest in
      subst (λ (x : List ℕ). AreScalars x) (sym e.parts)
      (around e.gap e.key_text (e.before_sign ++ 61
      ∷ (e.behind_sign ++ (e.text ++ (e.after ++ 59 ∷ e.rest)))) e.gap_spaces
      (text-scalars e.key_text key e.key_spelled)
      (all-append IsScalar e.before_sign (61
      ∷ (e.behind_sign ++ (e.text ++ (e.after ++ 59 ∷ e.rest))))
      (spaces-scalars e.before_sign e.before_spaces) (refl, value)))

-- ---- whole texts

pub text_of-scalars : (v : Value) (cs : List ℕ) → IsTextOf v cs → AreScalars cs
text_of-scalars v cs s = subst (λ (x : List ℕ). AreScalars x) (sym s.parts)
    (around s.gap s.text s.after s.gap_spaces (value-scalars v 0 _ s.text s.spelled)
    (spaces-scalars s.after s.after_spaces))

-- those of a front, and those behind it
pub front-scalars : (v : Value) (front rest : List ℕ) → IsTextOf v (front ++ rest)
    → AreScalars front × AreScalars rest
front-scalars v front rest s = all-parts IsScalar front rest (text_of-scalars v (front ++ rest) s)

-- ---- sources

each-scalar : (cs : List ℕ) → scalars cs ≡ true → AreScalars cs
each-scalar [] h = tt
each-scalar (c ∷ cs) h = let p = and_parts (scalar c) (scalars cs) h in (p.0, each-scalar cs p.1)

pub all-scalar : (cs : List ℕ) → AreScalars cs → scalars cs ≡ true
all-scalar [] h = refl
all-scalar (c ∷ cs) h = both (scalar c) (scalars cs) h.0 (all-scalar cs h.1)
  where
    both : (a b : Bool) → a ≡ true → b ≡ true → (a && b) ≡ true
    both a b e f = rw (e, f) refl

pub source-scalars : (source : List ℕ) → IsUtf8 source → AreScalars (chars source)
source-scalars source u = each-scalar (chars source) (scalars-chars source u)

-- the source of a text of the grammar
pub text-source : (v : Value) (cs : List ℕ) → IsTextOf v cs
    → (source : List ℕ) × HasTree source (tree_of v) × (chars source ≡ cs)
text-source v cs s =
    let all = all-scalar cs (text_of-scalars v cs s) in
    let same = chars-encodes cs all in (
      encodes cs,
      record {
        utf8 = (cs, (all, refl));
        value = v;
        spelled
            = subst (λ (x : List ℕ). IsTextOf v x) (sym same) s;
        numbered = refl;
      },
      same,
    )

-- some source with a tree begins with these characters
abbrev pub BeginsSource : List ℕ → Type 0
BeginsSource front = (source : List ℕ) × (t : Tree) × (rest : List ℕ) × HasTree source t
    × (chars source ≡ front ++ rest)

pub front-source : (front : List ℕ) → CanGoOn front → BeginsSource front
front-source front g = let s = text-source g.1 (front ++ g.0) g.2
    in (s.0, tree_of g.1, g.0, s.1, s.2)

pub source-front : (front : List ℕ) → BeginsSource front → CanGoOn front
source-front front s = (
  s.2,
  s.3.value,
  subst (λ (x : List ℕ). IsTextOf s.3.value x) s.4
      s.3.spelled,
)
