-- The longest front is the longest in bytes too: no source with a tree agrees with a text in more
-- bytes than the front has.
use Rattle.std.proofs.Common.{inl, inr, ◌≡◌, ℕ, ◌+◌, ◌<◌, ◌≤◌, ◌⊎◌, List, [], ◌∷◌, ◌++◌, length}
use Rattle.std.proofs.Common.{take, drop, get_or, refl, sym, ap, subst, ◌∙◌, append_assoc, arith}
use Rattle.std.proofs.lemmas.Bool.{cases_lt}
use Rattle.std.proofs.lemmas.List.{append_cancel_left, get_or-drop, get_or-take, length-append}
use Rattle.std.proofs.lemmas.List.{length-drop, take-append-drop, take-take}
use Rattle.std.proofs.lemmas.Str.{byte_from_char, char_from_byte, chars-append, chars_from_encodes}
use Rattle.std.proofs.lemmas.Str.{encodes-append, encodes-chars, len_utf8_bounds, length-encode}
use Rattle.std.proofs.Math.Seq.{drop-append_seam, take-append_seam}
use Rattle.std.specs.Str.{IsUtf8, chars}
use Rattle.std.specs.Char.{IsScalar}
use lib.Utf8.{encode, encodes}
use Rattle.plist_reader.specs.declared.tree.Tree.{Tree}
use Rattle.plist_reader.specs.Grammar.{width, IsTextOf, HasTree}
use Rattle.plist_reader.specs.Refusals.{AgreeInBytes, CanGoOn, IsLongest}
use Rattle.plist_reader.proofs.Scalars.{AreScalars, all-parts, all-scalar, source-scalars}
use Rattle.plist_reader.proofs.SourceLaws.{width-bytes}
use Rattle.plist_reader.proofs.Beyond.{beyond-alike}

-- ---- the first bytes of characters

-- characters of which the bytes begin alike: they are one, or both are beyond ASCII
first-alike : (c d : ℕ) (xs ys : List ℕ) → get_or (encode c ++ xs) 0 0 ≡ get_or (encode d ++ ys) 0 0
    → (c ≡ d) ⊎ ((128 ≤ c) × (128 ≤ d))
first-alike c d xs ys e = elim (cases_lt c 128) [
  | inl low ↦ (let at = byte_from_char (encode c ++ xs) xs c refl low in
      inl (sym (char_from_byte (encode d ++ ys) ys d refl (omega (arith, at, e, low)) (some d ys)
      ∙ sym e ∙ at)))
  | inr high ↦ elim (cases_lt d 128) [
    | inl low ↦ (let at = byte_from_char (encode d ++ ys) ys d refl low in
        inl (char_from_byte (encode c ++ xs) xs c refl (omega (arith, at, e, low)) (some c xs) ∙ e
        ∙ at))
    | inr high2 ↦ inr (high, high2)
  ]
]
  where
    some : (c : ℕ) (xs : List ℕ) → 0 < length (encode c ++ xs)
    some c xs = omega (arith, length-append (encode c) xs, length-encode c, len_utf8_bounds c)

-- ---- a front of both

-- the front of one source is that of another which agrees with it in more bytes: what stands behind
-- it there begins alike
another-front : (source other front rest : List ℕ) (c n : ℕ) → IsUtf8 source → IsUtf8 other
    → chars source ≡ front ++ c ∷ rest → AgreeInBytes n source other → width front < n
    → (d : ℕ) × (more : List ℕ) × (chars other ≡ front ++ d ∷ more)
    × ((c ≡ d) ⊎ ((128 ≤ c) × (128 ≤ d)))
another-front source other front rest c n u v e g l =
    let w = length (encodes front) in
    let first = encode c ++ encodes rest in
    let behind = drop w other in
    let below : w < n = omega (arith, l, width-bytes front) in
    let own : source ≡ encodes front ++ first = sym (encodes-chars source u) ∙ ap encodes e
    ∙ encodes-append front (c ∷ rest) in
    let fronts : take w other ≡ encodes front =
    sym (take-take w n other (omega (arith, below))) ∙ ap (take w) (sym g.2)
    ∙ take-take w n source (omega (arith, below)) ∙ ap (take w) own
    ∙ take-append_seam (encodes front) first in
    let parts : other ≡ encodes front ++ behind = sym (take-append-drop w other)
    ∙ ap (λ xs. xs ++ behind) fronts in
    let scalar-parts = all-parts IsScalar front (c ∷ rest)
    (subst (λ (cs : List ℕ). AreScalars cs) e (source-scalars source u)) in
    let utf8 : IsUtf8 (encodes front) = (front, (all-scalar front scalar-parts.0, refl)) in
    let read : chars other ≡ front ++ chars behind = ap chars parts
    ∙ chars-append (encodes front) behind utf8
    ∙ ap (λ cs. cs ++ chars behind) (sym (chars_from_encodes front (encodes front) utf8 refl))
    in
    let spelled : encodes (chars behind) ≡ behind =
    append_cancel_left (encodes front) (encodes (chars behind)) behind
    (sym (encodes-append front (chars behind)) ∙ ap encodes (sym read) ∙ encodes-chars other v
    ∙ parts) in
    let byte : get_or behind 0 0 ≡ get_or first 0 0 =
    get_or-drop w other 0 0 ∙ sym (get_or-take n other (w + 0) 0 (omega (arith, below)))
    ∙ ap (λ xs. get_or xs (w + 0) 0) (sym g.2)
    ∙ get_or-take n source (w + 0) 0 (omega (arith, below))
    ∙ sym (get_or-drop w source 0 0) ∙ ap (λ xs. get_or xs 0 0)
    (ap (drop w) own ∙ drop-append_seam (encodes front) first) in
    let long : 0 < length behind = omega (arith, below, g.1, length-drop w other) in
    split front c behind (encodes rest) (chars behind) read spelled byte long
  where
    split : (front : List ℕ) (c : ℕ) (behind xs cs : List ℕ) → chars other ≡ front ++ cs
        → encodes cs ≡ behind → get_or behind 0 0 ≡ get_or (encode c ++ xs) 0 0 → 0 < length behind
        → (d : ℕ) × (more : List ℕ) × (chars other ≡ front ++ d ∷ more)
        × ((c ≡ d) ⊎ ((128 ≤ c) × (128 ≤ d)))
    split front c behind xs [] read spelled byte long
        = absurd (omega (arith, ap length spelled, long))
    split front c behind xs (d ∷ ds) read spelled byte long
        = (
          d,
          ds,
          read,
          first-alike c d xs (encodes ds)
              (sym byte ∙ ap (λ ys. get_or ys 0 0) (sym spelled)),
        )

-- ---- the longest front

goes-on : (front more : List ℕ) (d : ℕ) (other : List ℕ) (t : Tree) → HasTree other t
    → chars other ≡ front ++ d ∷ more → CanGoOn (front ++ d ∷ [])
goes-on front more d other t h e = (
  more,
  h.value,
  subst (λ (cs : List ℕ). IsTextOf h.value cs)
      (e ∙ sym (append_assoc front (d ∷ []) more)) h.spelled,
)

pub longest-in-bytes : (source other front rest : List ℕ) (t : Tree) (c n : ℕ) → IsUtf8 source
    → chars source ≡ front ++ c ∷ rest → IsLongest front c → HasTree other t
    → AgreeInBytes n source other → n ≤ width front
longest-in-bytes source other front rest t c n u e longest h g = elim (cases_lt (width front) n) [
  | inl l ↦ (let k = another-front source other front rest c n u h.utf8 e g l in
      let i = (all-parts IsScalar front (c ∷ rest)
      (subst (λ (cs : List ℕ). AreScalars cs) e (source-scalars source u))).1.0 in
      let goes = goes-on front k.1 k.0 other t h k.2 in
      absurd (longest.no_more (elim k.3 [
        | inl same ↦ subst (λ (x : ℕ). CanGoOn (front ++ x ∷ [])) (sym same) goes
        | inr high ↦ beyond-alike front k.0 c high.1 high.0 i goes
      ])))
  | inr l ↦ l
]
