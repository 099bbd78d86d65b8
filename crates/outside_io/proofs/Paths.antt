-- Paths and their bytes: where a path stands, and what a change of one path does to each.
use Rattle.std.proofs.Common.{◌≡◌, ◌≢◌, ℕ, ◌+◌, ◌<◌, ◌≤◌, Bool, true, false, cond, List, [], ◌∷◌}
use Rattle.std.proofs.Common.{◌++◌, length, get_or, Option, Some, None, IfSome, is_some, refl, sym}
use Rattle.std.proofs.Common.{ap, subst, ◌∙◌, suc, arith}
use Rattle.std.specs.List.{position_from}
use Rattle.std.specs.Str.{bytes_eq}
use Rattle.std.proofs.Math.ListN.{set}
use Rattle.std.proofs.lemmas.Slice.Eq.{bytes_eq-Decides}
use Rattle.outside_io.specs.Memory.{bytes_at, with_bytes, number_of}

is_false : (b : Bool) → (b ≡ true → ⊥) → b ≡ false
is_false true h = absurd (h refl)
is_false false h = refl

-- a path is itself
same : (path : List ℕ) → bytes_eq path path ≡ true
same path = (bytes_eq-Decides path path).1 refl

-- and no other
different : (path other : List ℕ) → (other ≢ path) → bytes_eq path other ≡ false
different path other ne = is_false _ (λ h. ne (sym ((bytes_eq-Decides path other).0 h)))

module _ (entry : List ℕ × List ℕ) (entries : List (List ℕ × List ℕ)) (path : List ℕ) where
  pub bytes_at-hit : bytes_eq entry.0 path ≡ true → bytes_at (entry ∷ entries) path ≡ Some entry.1
  bytes_at-hit h = ap (λ b. cond b (Some entry.1) (bytes_at entries path)) h

  pub bytes_at-miss : bytes_eq entry.0 path ≡ false
      → bytes_at (entry ∷ entries) path ≡ bytes_at entries path
  bytes_at-miss h = ap (λ b. cond b (Some entry.1) (bytes_at entries path)) h

  pub with_bytes-hit : (bytes : List ℕ) → bytes_eq entry.0 path ≡ true
      → with_bytes (entry ∷ entries) path bytes ≡ (entry.0, bytes) ∷ entries
  with_bytes-hit bytes h = ap (λ b. cond b ((entry.0, bytes) ∷ entries)
      (entry ∷ with_bytes entries path bytes)) h

  pub with_bytes-miss : (bytes : List ℕ) → bytes_eq entry.0 path ≡ false
      → with_bytes (entry ∷ entries) path bytes ≡ entry ∷ with_bytes entries path bytes
  with_bytes-miss bytes h = ap (λ b. cond b ((entry.0, bytes) ∷ entries)
      (entry ∷ with_bytes entries path bytes)) h

-- a path that was given bytes holds them
pub bytes_at-with_bytes : (entries : List (List ℕ × List ℕ)) (path bytes : List ℕ)
    → bytes_at (with_bytes entries path bytes) path ≡ Some bytes
bytes_at-with_bytes [] path bytes = bytes_at-hit (path, bytes) [] path (same path)
bytes_at-with_bytes (entry ∷ entries) path bytes
    = by (bytes_at-with_bytes entries path bytes) (bytes_eq entry.0 path) refl
  where
    by : bytes_at (with_bytes entries path bytes) path ≡ Some bytes → (b : Bool)
        → bytes_eq entry.0 path ≡ b → bytes_at (with_bytes (entry ∷ entries) path bytes) path
        ≡ Some bytes
    by ih true h = ap (λ es. bytes_at es path) (with_bytes-hit entry entries path bytes h)
        ∙ bytes_at-hit (entry.0, bytes) entries path h
    by ih false h =
        ap (λ es. bytes_at es path) (with_bytes-miss entry entries path bytes h)
        ∙ bytes_at-miss entry (with_bytes entries path bytes) path h
        ∙ ih

-- and every other path holds what it held
pub bytes_at-with_bytes_other : (entries : List (List ℕ × List ℕ)) (path bytes other : List ℕ)
    → (other ≢ path) → bytes_at (with_bytes entries path bytes) other ≡ bytes_at entries other
bytes_at-with_bytes_other [] path bytes other ne
    = bytes_at-miss (path, bytes) [] other (different path other ne)
bytes_at-with_bytes_other (entry ∷ entries) path bytes other ne
    = by (bytes_at-with_bytes_other entries path bytes other ne) (bytes_eq entry.0 path) refl
  where
    here : bytes_eq entry.0 path ≡ true → bytes_eq entry.0 other ≡ false
    here h = different entry.0 other (λ e. ne (e ∙ (bytes_eq-Decides entry.0 path).0 h))

    there : bytes_at (with_bytes entries path bytes) other ≡ bytes_at entries other → (b : Bool)
        → bytes_eq entry.0 other ≡ b → bytes_at (entry ∷ with_bytes entries path bytes) other
        ≡ bytes_at (entry ∷ entries) other
    there ih true g = bytes_at-hit entry (with_bytes entries path bytes) other g
        ∙ sym (bytes_at-hit entry entries other g)
    there ih false g =
        bytes_at-miss entry (with_bytes entries path bytes) other g
        ∙ ih
        ∙ sym (bytes_at-miss entry entries other g)

    by : bytes_at (with_bytes entries path bytes) other ≡ bytes_at entries other → (b : Bool)
        → bytes_eq entry.0 path ≡ b → bytes_at (with_bytes (entry ∷ entries) path bytes) other
        ≡ bytes_at (entry ∷ entries) other
    by ih true h =
        ap (λ es. bytes_at es other) (with_bytes-hit entry entries path bytes h)
        ∙ bytes_at-miss (entry.0, bytes) entries other (here h)
        ∙ sym (bytes_at-miss entry entries other (here h))
    by ih false h = ap (λ es. bytes_at es other) (with_bytes-miss entry entries path bytes h)
        ∙ there ih (bytes_eq entry.0 other) refl

-- the second bytes of a path replace the first
pub with_bytes-twice : (entries : List (List ℕ × List ℕ)) (path first second : List ℕ)
    → with_bytes (with_bytes entries path first) path second ≡ with_bytes entries path second
with_bytes-twice [] path first second = with_bytes-hit (path, first) [] path second (same path)
with_bytes-twice (entry ∷ entries) path first second
    = by (with_bytes-twice entries path first second) (bytes_eq entry.0 path) refl
  where
    by : with_bytes (with_bytes entries path first) path second ≡ with_bytes entries path second
        → (b : Bool) → bytes_eq entry.0 path ≡ b
        → with_bytes (with_bytes (entry ∷ entries) path first) path second
        ≡ with_bytes (entry ∷ entries) path second
    by ih true h =
        ap (λ es. with_bytes es path second) (with_bytes-hit entry entries path first h)
        ∙ with_bytes-hit (entry.0, first) entries path second h
        ∙ sym (with_bytes-hit entry entries path second h)
    by ih false h =
        ap (λ es. with_bytes es path second) (with_bytes-miss entry entries path first h)
        ∙ with_bytes-miss entry (with_bytes entries path first) path second h
        ∙ ap (λ es. entry ∷ es) ih
        ∙ sym (with_bytes-miss entry entries path second h)

-- the number of a path, where the first entry has number k
abbrev numbered : ℕ → List (List ℕ × List ℕ) → List ℕ → Option ℕ
numbered k entries path = position_from (λ entry. bytes_eq entry.0 path) k entries

-- A path without a number isn't there, and once given bytes it comes last.
pub record IsNew (entries : List (List ℕ × List ℕ)) (path : List ℕ) : Type 0 where
  pub absent : bytes_at entries path ≡ None
  pub comes_last : (bytes : List ℕ) → with_bytes entries path bytes ≡ entries ++ (path, bytes) ∷ []
  pub number : (k : ℕ) (bytes : List ℕ) → numbered k (with_bytes entries path bytes) path
      ≡ Some (k + length entries)

-- A path with a number is there, and once given bytes it has them in that place.
pub record StandsAt (entries : List (List ℕ × List ℕ)) (path : List ℕ) (i : ℕ) : Type 0 where
  pub within : i < length entries
  pub present : (d : List ℕ × List ℕ) → bytes_at entries path ≡ Some (get_or entries i d).1
  pub in_place : (d : List ℕ × List ℕ) (bytes : List ℕ)
      → with_bytes entries path bytes ≡ set entries i ((get_or entries i d).0, bytes)
  pub number : (k : ℕ) (bytes : List ℕ) → numbered k (with_bytes entries path bytes) path
      ≡ Some (k + i)

module _ (entry : List ℕ × List ℕ) (entries : List (List ℕ × List ℕ)) (path : List ℕ) where
  numbered-hit : (k : ℕ) → bytes_eq entry.0 path ≡ true → numbered k (entry ∷ entries) path ≡ Some k
  numbered-hit k h = ap (λ b. cond b (Some k) (numbered (k + 1) entries path)) h

  numbered-miss : (k : ℕ) → bytes_eq entry.0 path ≡ false
      → numbered k (entry ∷ entries) path ≡ numbered (k + 1) entries path
  numbered-miss k h = ap (λ b. cond b (Some k) (numbered (k + 1) entries path)) h

  new-miss : bytes_eq entry.0 path ≡ false → IsNew entries path → IsNew (entry ∷ entries) path
  new-miss h new = record {
    absent = bytes_at-miss entry entries path h ∙ new.absent;
    comes_last = λ bytes. with_bytes-miss entry entries path bytes h
        ∙ ap (λ es. entry ∷ es) (new.comes_last bytes);
    number = λ k bytes.
        ap (λ es. numbered k es path) (with_bytes-miss entry entries path bytes h)
        ∙ ap (λ b. cond b (Some k) (numbered (k + 1) (with_bytes entries path bytes) path)) h
        ∙ new.number (k + 1) bytes
        ∙ ap Some (omega arith);
  }

  stands-hit : bytes_eq entry.0 path ≡ true → StandsAt (entry ∷ entries) path 0
  stands-hit h = record {
    within = omega arith;
    present = λ d. bytes_at-hit entry entries path h;
    in_place = λ d bytes. with_bytes-hit entry entries path bytes h;
    number = λ k bytes.
        ap (λ es. numbered k es path) (with_bytes-hit entry entries path bytes h)
        ∙ ap (λ b. cond b (Some k) (numbered (k + 1) entries path)) h
        ∙ ap Some (omega arith);
  }

  stands-miss : (i : ℕ) → bytes_eq entry.0 path ≡ false → StandsAt entries path i
      → StandsAt (entry ∷ entries) path (suc i)
  stands-miss i h at = record {
    within = omega (arith, at.within);
    present = λ d. bytes_at-miss entry entries path h ∙ at.present d;
    in_place = λ d bytes. with_bytes-miss entry entries path bytes h
        ∙ ap (λ es. entry ∷ es) (at.in_place d bytes);
    number = λ k bytes.
        ap (λ es. numbered k es path) (with_bytes-miss entry entries path bytes h)
        ∙ ap (λ b. cond b (Some k) (numbered (k + 1) (with_bytes entries path bytes) path)) h
        ∙ at.number (k + 1) bytes
        ∙ ap Some (omega arith);
  }

-- a path without a number is new
pub new_from_none : (entries : List (List ℕ × List ℕ)) (path : List ℕ) (k : ℕ)
    → numbered k entries path ≡ None → IsNew entries path
new_from_none [] path k h = record {
  absent = refl;
  comes_last = λ bytes. refl;
  number = λ k bytes. numbered-hit (path, bytes) [] path k (same path) ∙ ap Some (omega arith);
}
new_from_none (entry ∷ entries) path k h
    = by (new_from_none entries path (k + 1)) (bytes_eq entry.0 path) refl
  where
    by : (numbered (k + 1) entries path ≡ None → IsNew entries path) → (b : Bool)
        → bytes_eq entry.0 path ≡ b → IsNew (entry ∷ entries) path
    by ih true g = let e = sym (numbered-hit entry entries path k g) ∙ h in cc
    by ih false g = new-miss entry entries path g
        (ih (sym (numbered-miss entry entries path k g) ∙ h))

-- a path with a number stands there
pub stands_from_some : (entries : List (List ℕ × List ℕ)) (path : List ℕ) (k j : ℕ)
    → numbered k entries path ≡ Some j → (i : ℕ) × (j ≡ k + i) × StandsAt entries path i
stands_from_some [] path k j h = cc
stands_from_some (entry ∷ entries) path k j h
    = by (stands_from_some entries path (k + 1) j) (bytes_eq entry.0 path) refl
  where
    by : (numbered (k + 1) entries path ≡ Some j
        → (i : ℕ) × (j ≡ (k + 1) + i) × StandsAt entries path i) → (b : Bool)
        → bytes_eq entry.0 path ≡ b → (i : ℕ) × (j ≡ k + i) × StandsAt (entry ∷ entries) path i
    by ih true g = let e : Some j ≡ Some k = sym h ∙ numbered-hit entry entries path k g
        in let same_number : j ≡ k = cc in (0, omega arith, stands-hit entry entries path g)
    by ih false g = let r = ih (sym (numbered-miss entry entries path k g) ∙ h)
        in (suc r.0, omega (arith, r.1), stands-miss entry entries path r.0 g r.2)

-- the same of the number of a path among all
pub new_from_number : (entries : List (List ℕ × List ℕ)) (path : List ℕ)
    → number_of entries path ≡ None → IsNew entries path
new_from_number entries path h = new_from_none entries path 0 h

pub stands_from_number : (entries : List (List ℕ × List ℕ)) (path : List ℕ) (i : ℕ)
    → number_of entries path ≡ Some i → StandsAt entries path i
stands_from_number entries path i h =
    let r = stands_from_some entries path 0 i h in
    let e : r.0 ≡ i = omega (arith, r.1) in
    let P : ℕ → Type 0 = λ n. StandsAt entries path n in
    subst P e r.2

-- a path has a number exactly where it is there
pub is_some-number_of : (entries : List (List ℕ × List ℕ)) (path : List ℕ)
    → is_some (number_of entries path) ≡ is_some (bytes_at entries path)
is_some-number_of entries path = by (number_of entries path) refl
  where
    by : (o : Option ℕ) → number_of entries path ≡ o
        → is_some (number_of entries path) ≡ is_some (bytes_at entries path)
    by None h = ap is_some h ∙ sym (ap is_some (new_from_number entries path h).absent)
    by (Some i) h = ap is_some h ∙ sym (ap is_some
        ((stands_from_number entries path i h).present ([], [])))

-- and its number is among the paths
pub number_of-within : (entries : List (List ℕ × List ℕ)) (path : List ℕ) (o : Option ℕ)
    → o ≡ number_of entries path → IfSome o (λ i. i < length entries)
number_of-within entries path None h = tt
number_of-within entries path (Some i) h = (stands_from_number entries path i (sym h)).within
