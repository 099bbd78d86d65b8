-- A key that stands twice is refused, and nothing else is where one does.
use Rattle.std.proofs.Common.{inl, inr, ◌≡◌, ℕ, ◌+◌, true, false, List, [], ◌∷◌, ◌++◌, map, Option}
use Rattle.std.proofs.Common.{Some, Result, Err, refl, sym, ap, subst, ◌∙◌, append_assoc}
use Rattle.std.specs.Prelude.{nat_eq, slice_get}
use Rattle.std.specs.Cmp.Lexicographic.{pointwise}
use Rattle.std.proofs.lemmas.Bool.{false≢true, or_cases}
use Rattle.std.specs.Char.{len_utf8}
use Rattle.refusal_codes.specs.declared.refusal.Refusal.{Refusal}
use Rattle.refusal_codes.specs.declared.rule.Rule.TheVariants.{DuplicateKey}
use Rattle.plist_reader.specs.declared.tree.TreeNode.{TreeNode}
use Rattle.plist_reader.specs.declared.reader.Reader.{Reader}
use Rattle.plist_reader.specs.declared.reader.Dictionary.{Dictionary}
use Rattle.plist_reader.specs.declared.reader.Phase.{Phase}
use Rattle.plist_reader.specs.declared.reader.Phase.TheVariants.{Key}
use Rattle.plist_reader.specs.declared.reader.Token.TheVariants.{Word, Quoted}
use Rattle.plist_reader.specs.declared.reader.Open.{Open}
use Rattle.plist_reader.specs.declared.reader.Open.TheVariants.{Pairs}
use Rattle.plist_reader.specs.Characters.{is_word}
use Rattle.plist_reader.specs.Keys.{is_among}
use Rattle.plist_reader.specs.Tree.{spells, text_at}
use Rattle.plist_reader.specs.Grammar.{width, tree_of, IsWord, IsQuoted}
use Rattle.plist_reader.specs.Refusals.{EndsText, IsTwice, NotTwice, refusal}
use Rattle.refusal_codes.specs.Gives.{◌>>=◌}
use Rattle.plist_reader.specs.Reading.{start, key_ended, text_ended, in_word, in_quoted, step, run}
use Rattle.plist_reader.proofs.RunLemmas.{run_step}
use Rattle.plist_reader.proofs.Scalars.{text_of-scalars}
use Rattle.plist_reader.proofs.GivenTokens.{ready, in_token, run-word, CanBegin}
use Rattle.plist_reader.proofs.GivenStrings.{step-quote_begun, run-quoted}
use Rattle.plist_reader.proofs.GivenTexts.{run-text_of}
use Rattle.plist_reader.proofs.Keyed.{has_key, either_true, same_bytes, bytes_same}
use Rattle.plist_reader.proofs.Reached.{Reached, reached-run}
use Rattle.plist_reader.proofs.Starts.{prefix_same}
use Rattle.plist_reader.proofs.Dictionaries.{HasKeys, cons_parts, keys-more, key-began}
use Rattle.plist_reader.proofs.Dictionaries.{reached-keys}

-- ---- from where a text begins to its end

word-leads : (nodes : List TreeNode) (brackets : List Open) (phase : Phase) (q : ℕ)
    (word bytes more : List ℕ) → CanBegin phase → IsWord word bytes
    → run (ready nodes brackets phase) q (word ++ more)
    ≡ run (in_token nodes brackets phase (Word q) bytes []) (q + width word) more
word-leads nodes brackets phase q word bytes more b w =
    run-word word nodes brackets phase q more b w.some w.own
    ∙ ap (λ x. run (in_token nodes brackets phase (Word q) x []) (q + width word) more)
    (sym w.same)

string-leads : (nodes : List TreeNode) (brackets : List Open) (phase : Phase) (q : ℕ)
    (inner bytes more : List ℕ) → CanBegin phase → IsQuoted inner bytes
    → run (ready nodes brackets phase) q (34 ∷ (inner ++ more))
    ≡ run (in_token nodes brackets phase (Quoted q) bytes []) (q + 1 + width inner) more
string-leads nodes brackets phase q inner bytes more b k =
    run_step _ _ q 34 (inner ++ more) (step-quote_begun nodes brackets phase q b)
    ∙ run-quoted inner bytes k nodes brackets phase q (q + 1) [] more

step-known_word : (nodes : List TreeNode) (d : Dictionary) (outer : List Open) (at place c : ℕ)
    (text : List ℕ) → is_word c ≡ false → is_among text d.keys ≡ true
    → step (in_token nodes (Pairs d ∷ outer) Key (Word at) text []) place c
    ≡ Err (refusal DuplicateKey at)
unfolding step in_word text_ended key_ended
step-known_word nodes d outer at place c text w k = rw (w, k) refl

step-known_string : (nodes : List TreeNode) (d : Dictionary) (outer : List Open) (at place : ℕ)
    (text : List ℕ) → is_among text d.keys ≡ true
    → step (in_token nodes (Pairs d ∷ outer) Key (Quoted at) text []) place 34
    ≡ Err (refusal DuplicateKey at)
unfolding step in_quoted text_ended key_ended
step-known_string nodes d outer at place text k = rw k refl

pub err-run : (r : Reader) (place c : ℕ) (cs : List ℕ) (e : Refusal) → step r place c ≡ Err e
    → run r place (c ∷ cs) ≡ Err e
err-run r place c cs e s = ap (λ d. d >>= (λ u. run u (place + len_utf8 c) cs)) s

-- a known key that ends
known-refused : (nodes : List TreeNode) (d : Dictionary) (outer : List Open) (q c : ℕ)
    (text bytes more : List ℕ) → EndsText text c bytes → is_among bytes d.keys ≡ true
    → run (ready nodes (Pairs d ∷ outer) Key) q (text ++ c ∷ more) ≡ Err (refusal DuplicateKey q)
known-refused nodes d outer q c text bytes more (inl (w, n)) k =
    word-leads nodes (Pairs d ∷ outer) Key q text bytes (c ∷ more) tt w
    ∙ err-run _ (q + width text) c more _
    (step-known_word nodes d outer q (q + width text) c bytes n k)
known-refused nodes d outer q c text bytes more (inr (x, inner, f, i)) k =
    ap (λ z. run (ready nodes (Pairs d ∷ outer) Key) q (z ++ c ∷ more)) f
    ∙ ap (λ z. run (ready nodes (Pairs d ∷ outer) Key) q (34 ∷ (inner ++ z ∷ more))) x
    ∙ string-leads nodes (Pairs d ∷ outer) Key q inner bytes (34 ∷ more) tt i
    ∙ err-run _ (q + 1 + width inner) 34 more _
    (step-known_string nodes d outer q (q + 1 + width inner) bytes k)

-- ---- the dictionary at whose key a text begins

-- a key of a pair is among the keys
has-among : (nodes : List TreeNode) (pairs : List (ℕ × ℕ)) (keys : List (List ℕ)) (key : List ℕ)
    → HasKeys nodes pairs keys → has_key nodes key pairs ≡ true → is_among key keys ≡ true
has-among nodes [] keys key h k = absurd (false≢true k)
has-among nodes (p ∷ pairs) [] key h k = cc
has-among nodes (p ∷ pairs) (x ∷ keys) key h k =
    let c = cons_parts (text_at nodes p.0) (Some x) (map (λ pair. text_at nodes pair.0) pairs)
    (map (λ key. Some key) keys) h in
    either_true (pointwise nat_eq key x) (is_among key keys)
    (elim (or_cases (spells key (text_at nodes p.0)) (has_key nodes key pairs) k) [
      | inl e ↦ (let s = bytes_same x key (ap (λ z. spells key z) (sym c.0) ∙ e)
          in inl (ap (λ z. pointwise nat_eq key z) s ∙ same_bytes key))
      | inr e ↦ inr (has-among nodes pairs keys key c.1 e)
    ])

-- it has the key of these bytes
record KnowsKey (before key : List ℕ) : Type 0 where
  nodes : List TreeNode
  d : Dictionary
  outer : List Open
  reached : Reached before (ready nodes (Pairs d ∷ outer) Key)
  known : is_among key d.keys ≡ true

same_own : (x y : TreeNode) (o : Option TreeNode) → o ≡ Some x → o ≡ Some y → x ≡ y
same_own x y o e f = cc

knows-key : (front : List ℕ) (c place : ℕ) → (i : IsTwice front c place) → KnowsKey i.before i.key
knows-key front c place i =
    let cs = front ++ i.rest in
    let t = tree_of i.other in
    let k = i.behind in
    let w = key-began cs t k.dictionary k.begin k.end k.earlier k.number k.value k.later
    (text_of-scalars i.other cs i.goes_on) (run-text_of i.other cs i.goes_on) k.dictionary_is in
    let there : width w.before ≡ width i.before = sym w.place_is
    ∙ ap (λ x. x.place) (same_own w.own k.own (slice_get t.nodes k.number) w.own_is k.own_is)
    ∙ k.place_is ∙ i.place_is in
    let same : w.before ≡ i.before = prefix_same w.before i.before w.more (i.text ++ i.rest)
    (sym w.parts ∙ ap (λ x. x ++ i.rest) i.parts ∙ append_assoc i.before i.text i.rest) there in
    let keys : HasKeys t.nodes w.d.pairs w.d.keys
    = subst (λ (x : List TreeNode). HasKeys x w.d.pairs w.d.keys) (sym w.grown)
    (keys-more w.older w.newer w.d.pairs w.d.keys
    (reached-keys w.before w.older w.d w.outer w.reached)) in
    record {
      nodes = w.older;
      d = w.d;
      outer = w.outer;
      reached = subst (λ (x : List ℕ). Reached x (ready w.older (Pairs w.d ∷ w.outer) Key)) same
          w.reached;
      known = has-among t.nodes w.d.pairs w.d.keys i.key keys
          (ap (λ x. has_key t.nodes i.key x) w.behind ∙ k.known);
    }

-- ---- nothing else is refused there

same_refusal : {A : Type 0} (x e : Refusal) (d : Result A Refusal) → d ≡ Err x → d ≡ Err e → e ≡ x
same_refusal x e d h k = cc

pub twice-refuses : (front : List ℕ) (r : Reader) (c place : ℕ) (e : Refusal) → Reached front r
    → IsTwice front c place → step r (width front) c ≡ Err e → e ≡ refusal DuplicateKey place
twice-refuses front r c place e h i s =
    let k = knows-key front c place i in
    same_refusal (refusal DuplicateKey (width i.before)) e (run start 0 (front ++ c ∷ []))
    (ap (λ x. run start 0 x) (ap (λ x. x ++ c ∷ []) i.parts ∙ append_assoc i.before i.text (c ∷ []))
    ∙ reached-run i.before (ready k.nodes (Pairs k.d ∷ k.outer) Key) k.reached
    (i.text ++ c ∷ [])
    ∙ known-refused k.nodes k.d k.outer (width i.before) c i.text i.key [] i.ended k.known)
    (reached-run front r h (c ∷ []) ∙ err-run r (width front) c [] e s)
    ∙ ap (λ x. refusal DuplicateKey x) (sym i.place_is)

pub not_twice : (front : List ℕ) (r : Reader) (c : ℕ) (e : Refusal) → Reached front r
    → step r (width front) c ≡ Err e → (e.rule ≡ DuplicateKey → ⊥) → NotTwice front c
not_twice front r c e h s n place i = n (ap (λ x. x.rule) (twice-refuses front r c place e h i s))
