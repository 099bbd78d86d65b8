-- Trees of offsets as plain values, and how a tree is spelled as a list of numbers. That nodes with
-- the same spelling are one node is `spelling_injective`.
use Rattle.std.specs.Prelude.{◌≡◌, ℕ, ◌+◌, List, [], ◌∷◌, ◌++◌}
use Rattle.std.specs.Coded.{Coded, coded_ℕ, coded_list}
use Rattle.std.proofs.Common.{refl, ap, sym, ◌∙◌, append_assoc, arith}

-- how many bytes a number or an offset takes: one, two or four
pub data Width : Type 0 where
  one : Width
  two : Width
  four : Width

abbrev pub bytes_in : Width → ℕ
bytes_in one = 1
bytes_in two = 2
bytes_in four = 4

-- A node is the list of its fields (OpenType 1.9, "Data types"): unsigned numbers, bytes, offsets
-- to nothing, offsets to a node that stands near, and offsets of 32 bits to one that stands far.
-- Each constructor puts one field before the others.
pub data Tree : Type 0 where
  end : Tree
  number : Width → ℕ → Tree → Tree
  bytes : List ℕ → Tree → Tree
  null : Width → Tree → Tree
  near : Width → Tree → Tree → Tree
  far : Tree → Tree → Tree

-- how many nodes and fields there are
abbrev pub tree_size : Tree → ℕ
tree_size end = 0
tree_size (number width n others) = 1 + tree_size others
tree_size (bytes content others) = 1 + tree_size others
tree_size (null width others) = 1 + tree_size others
tree_size (near width node others) = 1 + tree_size node + tree_size others
tree_size (far node others) = 1 + tree_size node + tree_size others

-- bytes, each one up, before other numbers; a zero ends them
abbrev pub spelled_bytes : List ℕ → List ℕ → List ℕ
spelled_bytes [] rest = 0 ∷ rest
spelled_bytes (b ∷ content) rest = (b + 1) ∷ spelled_bytes content rest

-- a node as a list of numbers: before each field its kind, after the last one a zero
abbrev pub spelling : Tree → List ℕ
spelling end = 0 ∷ []
spelling (number width n others) = 1 ∷ bytes_in width ∷ n ∷ spelling others
spelling (bytes content others) = 2 ∷ spelled_bytes content (spelling others)
spelling (null width others) = 3 ∷ bytes_in width ∷ spelling others
spelling (near width node others) = 4 ∷ bytes_in width ∷ (spelling node ++ spelling others)
spelling (far node others) = 5 ∷ (spelling node ++ spelling others)

-- ---- nodes with one spelling are equal

-- the first number of a list, and those after it
abbrev pub first_of : List ℕ → ℕ
first_of [] = 0
first_of (x ∷ xs) = x

abbrev pub others_of : List ℕ → List ℕ
others_of [] = []
others_of (x ∷ xs) = xs

width_injective : (v w : Width) → bytes_in v ≡ bytes_in w → v ≡ w
width_injective one one e = refl
width_injective two two e = refl
width_injective four four e = refl
width_injective one two e = absurd (omega arith)
width_injective one four e = absurd (omega arith)
width_injective two one e = absurd (omega arith)
width_injective two four e = absurd (omega arith)
width_injective four one e = absurd (omega arith)
width_injective four two e = absurd (omega arith)

pub spelled_bytes-append : (content r s : List ℕ)
    → spelled_bytes content r ++ s ≡ spelled_bytes content (r ++ s)
spelled_bytes-append [] r s = refl
spelled_bytes-append (b ∷ content) r s = ap (λ xs. (b + 1) ∷ xs) (spelled_bytes-append content r s)

pub bytes_injective : (a b r s : List ℕ) → spelled_bytes a r ≡ spelled_bytes b s → (a ≡ b) × (r ≡ s)
bytes_injective [] [] r s e = (refl, ap others_of e)
bytes_injective [] (y ∷ b) r s e = absurd (omega (arith, ap first_of e))
bytes_injective (x ∷ a) [] r s e = absurd (omega (arith, ap first_of e))
bytes_injective (x ∷ a) (y ∷ b) r s e =
    let same = bytes_injective a b r s (ap others_of e) in
    let first : x ≡ y = omega (arith, ap first_of e) in
    let content : x ∷ a ≡ y ∷ b = cc (first, same.0) in
    (content, same.1)

-- what two spellings with something behind them say
pub spelling_prefix : (a b : Tree) (r s : List ℕ) → spelling a ++ r ≡ spelling b ++ s
    → (a ≡ b) × (r ≡ s)
spelling_prefix end end r s e = (refl, ap others_of e)
spelling_prefix (number v m a) (number w n b) r s e =
    let rest = spelling_prefix a b r s (ap (λ xs. others_of (others_of (others_of xs))) e) in
    let width : v ≡ w = width_injective v w (ap (λ xs. first_of (others_of xs)) e) in
    let value : m ≡ n = ap (λ xs. first_of (others_of (others_of xs))) e in
    let same : number v m a ≡ number w n b = cc (width, value, rest.0) in
    (same, rest.1)
spelling_prefix (bytes x a) (bytes y b) r s e =
    let contents = bytes_injective x y _ _
    (sym (spelled_bytes-append x (spelling a) r) ∙ ap others_of e
    ∙ spelled_bytes-append y (spelling b) s) in
    let rest = spelling_prefix a b r s contents.1 in
    let same : bytes x a ≡ bytes y b = cc (contents.0, rest.0) in
    (same, rest.1)
spelling_prefix (null v a) (null w b) r s e =
    let rest = spelling_prefix a b r s (ap (λ xs. others_of (others_of xs)) e) in
    let width : v ≡ w = width_injective v w (ap (λ xs. first_of (others_of xs)) e) in
    let same : null v a ≡ null w b = cc (width, rest.0) in
    (same, rest.1)
spelling_prefix (near v x a) (near w y b) r s e =
    let node = spelling_prefix x y (spelling a ++ r) (spelling b ++ s)
    (sym (append_assoc (spelling x) (spelling a) r) ∙ ap (λ xs. others_of (others_of xs)) e
    ∙ append_assoc (spelling y) (spelling b) s) in
    let rest = spelling_prefix a b r s node.1 in
    let width : v ≡ w = width_injective v w (ap (λ xs. first_of (others_of xs)) e) in
    let same : near v x a ≡ near w y b = cc (width, node.0, rest.0) in
    (same, rest.1)
spelling_prefix (far x a) (far y b) r s e =
    let node = spelling_prefix x y (spelling a ++ r) (spelling b ++ s)
    (sym (append_assoc (spelling x) (spelling a) r) ∙ ap others_of e
    ∙ append_assoc (spelling y) (spelling b) s) in
    let rest = spelling_prefix a b r s node.1 in
    let same : far x a ≡ far y b = cc (node.0, rest.0) in
    (same, rest.1)
spelling_prefix a b r s e = absurd (omega (arith, ap first_of e))

pub spelling_injective : (a b : Tree) → spelling a ≡ spelling b → a ≡ b
spelling_injective a b e = (spelling_prefix a b [] [] (ap (λ xs. xs ++ []) e)).0

-- trees are told apart by their spellings
abbrev pub tree_code : Coded Tree
tree_code = record {
  code = λ tree. (coded_list coded_ℕ).code (spelling tree);
  inj = λ a b e. spelling_injective a b ((coded_list coded_ℕ).inj (spelling a) (spelling b) e);
}
