-- What is found under the key of a pair is its value: no pair in front of it has its key, since the
-- keys of a dictionary differ. And what is found is the value of a pair with that key.
use Rattle.std.proofs.Common.{inl, inr, ◌≡◌, ℕ, true, false, List, [], ◌∷◌, ◌++◌, map, Option, Some}
use Rattle.std.proofs.Common.{None, if◌then◌else◌, refl, sym, ap, ◌∙◌}
use Rattle.std.specs.Prelude.{nat_eq, option_and_then}
use Rattle.std.specs.Cmp.Lexicographic.{pointwise}
use Rattle.std.proofs.lemmas.Bool.{false≢true, cases_Bool}
use Rattle.std.proofs.lemmas.List.Folds.{list_any-append}
use Rattle.plist_reader.specs.declared.tree.Tree.{Tree}
use Rattle.plist_reader.specs.declared.tree.TreeNode.{TreeNode}
use Rattle.plist_reader.specs.declared.tree.TreeValue.{TreeValue}
use Rattle.plist_reader.specs.declared.tree.TreeValue.TheVariants as tree
use Rattle.plist_reader.specs.Tree.{node_at, text_at, pairs_of, spells, is_key, value_with}
use Rattle.plist_reader.specs.Tree.{value_in, find_in}
use Rattle.plist_reader.specs.Keys.{is_among}
use Rattle.plist_reader.specs.Grammar.{HasTree, node}
use Rattle.plist_reader.specs.Sources.{AreNew, IsDictionaryIn, HasPair, FindsPairs}
use Rattle.plist_reader.proofs.Keyed.{either_true, same_bytes, bytes_same}
use Rattle.plist_reader.proofs.Dictionaries.{HasKeys, cons_parts, value-at}
use Rattle.plist_reader.proofs.SourceLaws.{stands_in_source}

-- ---- keys that are known

same_key : (x y : List ℕ) → Some x ≡ Some y → x ≡ y
same_key x y e = cc

known-more : (key : List ℕ) (before more : List (List ℕ)) → is_among key before ≡ true
    → is_among key (before ++ more) ≡ true
known-more key before more h = list_any-append (pointwise nat_eq key) before more
    ∙ either_true (is_among key before) (is_among key more) (inl h)

known-last : (key : List ℕ) (before : List (List ℕ)) → is_among key (before ++ key ∷ []) ≡ true
known-last key before = list_any-append (pointwise nat_eq key) before (key ∷ [])
    ∙ either_true (is_among key before) (is_among key (key ∷ []))
    (inr (either_true (pointwise nat_eq key key) false (inl (same_bytes key))))

-- a key that is known is that of no pair behind
known-never : (nodes : List TreeNode) (earlier later : List (ℕ × ℕ)) (number value : ℕ)
    (key : List ℕ) (before keys : List (List ℕ))
    → HasKeys nodes (earlier ++ (number, value) ∷ later) keys → AreNew before keys
    → text_at nodes number ≡ Some key → is_among key before ≡ true → ⊥
known-never nodes [] later number value key before [] h a e k = cc
known-never nodes [] later number value key before (x ∷ keys) h a e k =
    let c = cons_parts (text_at nodes number) (Some x) (map (λ pair. text_at nodes pair.0) later)
    (map (λ key. Some key) keys) h in
    let s = same_key x key (sym c.0 ∙ e) in
    false≢true (sym a.0 ∙ (ap (λ z. is_among z before) s ∙ k))
known-never nodes (p ∷ earlier) later number value key before [] h a e k = cc
known-never nodes (p ∷ earlier) later number value key before (x ∷ keys) h a e k =
    let c = cons_parts (text_at nodes p.0) (Some x)
    (map (λ pair. text_at nodes pair.0) (earlier ++ (number, value) ∷ later))
    (map (λ key. Some key) keys) h in
    known-never nodes earlier later number value key (before ++ x ∷ []) keys c.1 a.1 e
    (known-more key before (x ∷ []) k)

-- ---- what is found

found-among : (t : Tree) (earlier later : List (ℕ × ℕ)) (number value : ℕ) (key : List ℕ)
    (before keys : List (List ℕ))
    → HasKeys t.nodes (earlier ++ (number, value) ∷ later) keys → AreNew before keys
    → text_at t.nodes number ≡ Some key
    → value_with t key (earlier ++ (number, value) ∷ later) ≡ Some value
found-among t [] later number value key before keys h a e =
    ap (λ x. if spells key x then Some value else value_with t key later) e
    ∙ ap (λ x. if x then Some value else value_with t key later) (same_bytes key)
found-among t (p ∷ earlier) later number value key before [] h a e = cc
found-among t (p ∷ earlier) later number value key before (x ∷ keys) h a e =
    let c = cons_parts (text_at t.nodes p.0) (Some x)
    (map (λ pair. text_at t.nodes pair.0) (earlier ++ (number, value) ∷ later))
    (map (λ key. Some key) keys) h in
    elim (cases_Bool (is_key t key p.0)) [
      | inl y ↦ (let s = bytes_same x key (ap (λ z. spells key z) (sym c.0) ∙ y)
          in absurd (known-never t.nodes earlier later number value key (before ++ x ∷ []) keys c.1
          a.1 e (ap (λ z. is_among key (before ++ z ∷ [])) s ∙ known-last key before)))
      | inr n ↦ rw n (found-among t earlier later number value key (before ++ x ∷ []) keys c.1 a.1
          e)
    ]

finds-pair : (source : List ℕ) (t : Tree) → HasTree source t → (n value : ℕ) (key : List ℕ)
    → HasPair t n key value → find_in t n key ≡ Some value
finds-pair source t h n value key p =
    let pairs = p.earlier ++ (p.number, value) ∷ p.later in
    let all = (stands_in_source source t h).dictionaries in
    let i : IsDictionaryIn t.nodes (tree.Pairs pairs)
    = value-at t.nodes (λ x. IsDictionaryIn t.nodes x.value) n
    (node p.place p.end (tree.Pairs pairs)) all p.dictionary_is in
    ap (λ o. value_in t key (option_and_then (λ x. pairs_of x.value) o)) p.dictionary_is
    ∙ found-among t p.earlier p.later p.number value key [] i.keys i.texts i.differ p.key_is

-- ---- what is found is there

spelled : (key : List ℕ) (text : Option (List ℕ)) → spells key text ≡ true → text ≡ Some key
spelled key None h = absurd (false≢true h)
spelled key (Some text) h = ap (λ x. Some x) (bytes_same text key h)

-- a pair of some with this key and this value, and those around it
abbrev IsAmong : Tree → List ℕ → ℕ → List (ℕ × ℕ) → Type 0
IsAmong t key value pairs = (earlier : List (ℕ × ℕ)) × (number : ℕ) × (later : List (ℕ × ℕ))
    × (pairs ≡ earlier ++ (number, value) ∷ later) × (text_at t.nodes number ≡ Some key)

same_value : (x y : ℕ) → Some x ≡ Some y → x ≡ y
same_value x y e = cc

found-is-among : (t : Tree) (key : List ℕ) (value : ℕ) (pairs : List (ℕ × ℕ))
    → value_with t key pairs ≡ Some value → IsAmong t key value pairs
found-is-among t key value [] h = cc
found-is-among t key value (p ∷ pairs) h =
    elim (cases_Bool (is_key t key p.0)) [
      | inl y ↦ (let e = same_value p.1 value
          (sym (ap (λ b. if b then Some p.1 else value_with t key pairs) y) ∙ h) in
          ([], p.0, pairs, ap (λ v. (p.0, v) ∷ pairs) e, spelled key (text_at t.nodes p.0) y))
      | inr n ↦ (let q = found-is-among t key value pairs
          (sym (ap (λ b. if b then Some p.1 else value_with t key pairs) n) ∙ h) in
          (p ∷ q.0, q.1, q.2, ap (λ ps. p ∷ ps) q.3, q.4))
    ]

found-in-value : (t : Tree) (key : List ℕ) (value n : ℕ) (own : TreeNode) (held : TreeValue)
    → own.value ≡ held → node_at t n ≡ Some own
    → value_in t key (pairs_of held) ≡ Some value → HasPair t n key value
found-in-value t key value n own (tree.Text bytes) e f h = cc
found-in-value t key value n own (tree.Bytes bytes) e f h = cc
found-in-value t key value n own (tree.Items items) e f h = cc
found-in-value t key value n own (tree.Pairs pairs) e f h =
    let q = found-is-among t key value pairs h in
    record {
      place = own.place;
      end = own.end;
      earlier = q.0;
      number = q.1;
      later = q.2;
      dictionary_is = f ∙ ap (λ v. Some (node own.place own.end v))
          (e ∙ ap (λ ps. tree.Pairs ps) q.3);
      key_is = q.4;
    }

found-in-node : (t : Tree) (key : List ℕ) (value n : ℕ) (own : Option TreeNode) → node_at t n ≡ own
    → value_in t key (option_and_then (λ node. pairs_of node.value) own) ≡ Some value
    → HasPair t n key value
found-in-node t key value n None f h = cc
found-in-node t key value n (Some own) f h = found-in-value t key value n own own.value refl f h

pub finds-pairs : (source : List ℕ) (t : Tree) → HasTree source t → FindsPairs t
finds-pairs source t h n value key = (
  found-in-node t key value n (node_at t n) refl,
  finds-pair
      source t h n value key,
)
