-- What is spelled by the grammar is read: values, lists, dictionaries and whole texts.
use Rattle.std.proofs.Common.{inl, inr, ◌≡◌, ℕ, suc, ◌+◌, ◌<◌, false, List, [], ◌∷◌, ◌++◌, length}
use Rattle.std.proofs.Common.{Ok, refl, sym, ap, subst, ◌∙◌, arith, append_assoc}
use Rattle.std.proofs.lemmas.Bool.{lt-ltb}
use Rattle.std.proofs.lemmas.List.{append-nil, length-append}
use Rattle.std.specs.Char.{len_utf8}
use Rattle.std.specs.Str.{chars}
use Rattle.plist_reader.specs.declared.tree.Tree.{Tree}
use Rattle.plist_reader.specs.declared.tree.TreeNode.{TreeNode}
use Rattle.plist_reader.specs.declared.tree.TreeValue.TheVariants as tree
use Rattle.plist_reader.specs.declared.reader.Reader.{Reader}
use Rattle.plist_reader.specs.declared.reader.Dictionary.{Dictionary}
use Rattle.plist_reader.specs.declared.reader.Phase.{Phase}
use Rattle.plist_reader.specs.declared.reader.Phase.TheVariants.{Value, Item, ItemEnd, Key, KeyEnd}
use Rattle.plist_reader.specs.declared.reader.Phase.TheVariants.{PairEnd, End}
use Rattle.plist_reader.specs.declared.reader.Token.{Token}
use Rattle.plist_reader.specs.declared.reader.Token.TheVariants.{Word, Quoted}
use Rattle.plist_reader.specs.declared.reader.Open.{Open}
use Rattle.plist_reader.specs.declared.reader.Open.TheVariants.{Items, Pairs}
use Rattle.plist_reader.specs.Characters.{is_space, is_word}
use Rattle.plist_reader.specs.Keys.{is_among}
use Rattle.refusal_codes.specs.Gives.{◌>>=◌}
use Rattle.plist_reader.specs.Reading.{start, value_ended, key_ended, text_ended, value_begun}
use Rattle.plist_reader.specs.Reading.{bracket_opened, list_closed, dictionary_closed, between}
use Rattle.plist_reader.specs.Reading.{step, whole, finish, run, read_of}
use Rattle.plist_reader.specs.Grammar as grammar
use Rattle.plist_reader.specs.Grammar.{node, width, AreSpaces, IsText, IsTail, IsItem, IsEntry}
use Rattle.plist_reader.specs.Grammar.{AreNone, Spells, SpellItems, SpellEntries, inner_of, own_of}
use Rattle.plist_reader.specs.Grammar.{items_nodes, items_numbers, entries_nodes, entries_numbers}
use Rattle.plist_reader.specs.Grammar.{tree_of, IsTextOf, HasTree}
use Rattle.plist_reader.proofs.RunLemmas.{run_step, read_of-text}
use Rattle.plist_reader.proofs.GivenTokens.{ready, in_token, settled, settled_any, run_same}
use Rattle.plist_reader.proofs.GivenTokens.{width-append, space-no_word, run-spaces, run-word}
use Rattle.plist_reader.proofs.GivenTokens.{IsAwaiting}
use Rattle.plist_reader.proofs.GivenStrings.{Stops, step-word_end, step-quote_begun, step-quote_end}
use Rattle.plist_reader.proofs.GivenStrings.{run-quoted, run-text, run-bytes}

-- ---- what follows a value

abbrev pub Marked : List ℕ → Type 0
Marked [] = ⊥
Marked (c ∷ cs) = is_word c ≡ false

marked-spaces : (gap cs : List ℕ) → AreSpaces gap → Marked cs → Marked (gap ++ cs)
marked-spaces [] cs h m = m
marked-spaces (c ∷ gap) cs h m = space-no_word c h.0

stops-marked : (brackets : List Open) (cs : List ℕ) → Marked cs → Stops brackets cs
stops-marked [] [] m = tt
stops-marked (b ∷ brackets) [] m = m
stops-marked [] (c ∷ cs) m = m
stops-marked (b ∷ brackets) (c ∷ cs) m = m

stops-spaces : (gap : List ℕ) → AreSpaces gap → Stops [] gap
stops-spaces [] h = tt
stops-spaces (c ∷ gap) h = space-no_word c h.0

marks : (is_word 41 ≡ false) × (is_word 44 ≡ false) × (is_word 59 ≡ false) × (is_word 61 ≡ false)
unfolding is_word
marks = (refl, refl, refl, refl)

-- ---- marks

step-list_begun : (nodes : List TreeNode) (brackets : List Open) (phase : Phase) (place : ℕ)
    → IsAwaiting phase → length brackets < 64
    → step (ready nodes brackets phase) place 40 ≡ Ok (ready nodes (Items place [] ∷ brackets) Item)
unfolding step between value_begun bracket_opened is_space
step-list_begun nodes brackets Value place a h = rw (lt-ltb (length brackets) 64 h) refl
step-list_begun nodes brackets Item place a h = rw (lt-ltb (length brackets) 64 h) refl
step-list_begun nodes brackets Key place a h = elim a [ ]
step-list_begun nodes brackets ItemEnd place a h = elim a [ ]
step-list_begun nodes brackets KeyEnd place a h = elim a [ ]
step-list_begun nodes brackets PairEnd place a h = elim a [ ]
step-list_begun nodes brackets (End n) place a h = elim a [ ]

abbrev pub opened : ℕ → Dictionary
opened place = record { place = place; keys = []; pairs = []; key = 0 }

step-dictionary_begun : (nodes : List TreeNode) (brackets : List Open) (phase : Phase) (place : ℕ)
    → IsAwaiting phase → length brackets < 64
    → step (ready nodes brackets phase) place 123
    ≡ Ok (ready nodes (Pairs (opened place) ∷ brackets) Key)
unfolding step between value_begun bracket_opened is_space
step-dictionary_begun nodes brackets Value place a h = rw (lt-ltb (length brackets) 64 h) refl
step-dictionary_begun nodes brackets Item place a h = rw (lt-ltb (length brackets) 64 h) refl
step-dictionary_begun nodes brackets Key place a h = elim a [ ]
step-dictionary_begun nodes brackets ItemEnd place a h = elim a [ ]
step-dictionary_begun nodes brackets KeyEnd place a h = elim a [ ]
step-dictionary_begun nodes brackets PairEnd place a h = elim a [ ]
step-dictionary_begun nodes brackets (End n) place a h = elim a [ ]

-- behind a list and behind a dictionary
abbrev pub list_end : List TreeNode → ℕ → ℕ → List ℕ → List Open → Reader
list_end nodes at end numbers brackets = settled (nodes ++ node at end (tree.Items numbers) ∷ [])
    brackets (length nodes)

abbrev pub dictionary_end : List TreeNode → ℕ → ℕ → List (ℕ × ℕ) → List Open → Reader
dictionary_end nodes at end numbers brackets
    = settled (nodes ++ node at end (tree.Pairs numbers) ∷ []) brackets (length nodes)

pub step-empty_list_end : (nodes : List TreeNode) (at place : ℕ) (done : List ℕ)
    (brackets : List Open)
    → step (ready nodes (Items at done ∷ brackets) Item) place 41
    ≡ Ok (list_end nodes at (place + 1) done brackets)
unfolding step between list_closed value_ended is_space
step-empty_list_end nodes at place done brackets
    = ap (λ r. Ok r) (settled_any (nodes ++ node at (place + 1) (tree.Items done) ∷ []) brackets
    brackets Item (length nodes))

pub step-list_end : (nodes : List TreeNode) (at place : ℕ) (done : List ℕ) (brackets : List Open)
    → step (ready nodes (Items at done ∷ brackets) ItemEnd) place 41
    ≡ Ok (list_end nodes at (place + 1) done brackets)
unfolding step between list_closed value_ended is_space
step-list_end nodes at place done brackets
    = ap (λ r. Ok r) (settled_any (nodes ++ node at (place + 1) (tree.Items done) ∷ []) brackets
    brackets ItemEnd (length nodes))

pub step-dictionary_end : (nodes : List TreeNode) (place : ℕ) (d : Dictionary)
    (brackets : List Open)
    → step (ready nodes (Pairs d ∷ brackets) Key) place 125
    ≡ Ok (dictionary_end nodes d.place (place + 1) d.pairs brackets)
unfolding step between dictionary_closed value_ended is_space
step-dictionary_end nodes place d brackets
    = ap (λ r. Ok r) (settled_any (nodes ++ node d.place (place + 1) (tree.Pairs d.pairs) ∷ [])
    brackets brackets Key (length nodes))

step-comma : (nodes : List TreeNode) (brackets : List Open) (place : ℕ)
    → step (ready nodes brackets ItemEnd) place 44 ≡ Ok (ready nodes brackets Item)
unfolding step between is_space
step-comma nodes brackets place = refl

pub step-equals : (nodes : List TreeNode) (brackets : List Open) (place : ℕ)
    → step (ready nodes brackets KeyEnd) place 61 ≡ Ok (ready nodes brackets Value)
unfolding step between is_space
step-equals nodes brackets place = refl

pub step-semicolon : (nodes : List TreeNode) (brackets : List Open) (place : ℕ)
    → step (ready nodes brackets PairEnd) place 59 ≡ Ok (ready nodes brackets Key)
unfolding step between is_space
step-semicolon nodes brackets place = refl

-- ---- keys

-- behind a key
abbrev pub key_end : List TreeNode → Dictionary → List Open → ℕ → ℕ → List ℕ → Reader
key_end nodes d brackets at end key = ready (nodes ++ node at end (tree.Text key) ∷ [])
    (Pairs (record d { keys = d.keys ++ key ∷ []; key = length nodes }) ∷ brackets) KeyEnd

pub key-ended : (nodes : List TreeNode) (d : Dictionary) (brackets : List Open) (token : Token)
    (at end : ℕ) (text : List ℕ) → is_among text d.keys ≡ false
    → text_ended (in_token nodes (Pairs d ∷ brackets) Key token text []) at end
    ≡ Ok (key_end nodes d brackets at end text)
unfolding text_ended key_ended
key-ended nodes d brackets token at end text h = rw h refl

run-key_word_end : (nodes : List TreeNode) (d : Dictionary) (brackets : List Open) (at place : ℕ)
    (text rest : List ℕ) → is_among text d.keys ≡ false → Marked rest
    → run (in_token nodes (Pairs d ∷ brackets) Key (Word at) text []) place rest
    ≡ run (key_end nodes d brackets at place text) place rest
run-key_word_end nodes d brackets at place text [] h m = elim m [ ]
run-key_word_end nodes d brackets at place text (c ∷ cs) h m =
    ap (λ x. x >>= (λ r. run r (place + len_utf8 c) cs))
    (step-word_end (in_token nodes (Pairs d ∷ brackets) Key (Word at) text [])
    (key_end nodes d brackets at place text) at place c refl m
    (key-ended nodes d brackets (Word at) at place text h) refl)

run-key : (cs key : List ℕ) → IsText cs key
    → (nodes : List TreeNode) (d : Dictionary) (brackets : List Open) (place : ℕ) (rest : List ℕ)
    → is_among key d.keys ≡ false → Marked rest
    → run (ready nodes (Pairs d ∷ brackets) Key) place (cs ++ rest)
    ≡ run (key_end nodes d brackets place (place + width cs) key) (place + width cs) rest
run-key cs key (inl w) nodes d brackets place rest h m =
    let same : key ≡ cs = w.same in
    run-word cs nodes (Pairs d ∷ brackets) Key place rest tt w.some w.own
    ∙ run-key_word_end nodes d brackets place (place + width cs) cs rest
    (ap (λ k. is_among k d.keys) (sym same) ∙ h) m
    ∙ ap (λ k. run (key_end nodes d brackets place (place + width cs) k) (place + width cs) rest)
    (sym same)
run-key cs key (inr (inner, e, q)) nodes d brackets place rest h m =
    let w : width cs ≡ 1 + (width inner + 1) = ap width e
    ∙ omega (arith, width-append inner (34 ∷ [])) in
    ap (λ x. run (ready nodes (Pairs d ∷ brackets) Key) place (x ++ rest)) e
    ∙ run_step _ _ place 34 ((inner ++ 34 ∷ []) ++ rest)
    (step-quote_begun nodes (Pairs d ∷ brackets) Key place tt)
    ∙ ap (λ x. run (in_token nodes (Pairs d ∷ brackets) Key (Quoted place) [] []) (place + 1) x)
    (append_assoc inner (34 ∷ []) rest)
    ∙ run-quoted inner key q nodes (Pairs d ∷ brackets) Key place (place + 1) [] (34 ∷ rest)
    ∙ run_step _ _ (place + 1 + width inner) 34 rest
    (step-quote_end nodes (Pairs d ∷ brackets) Key place (place + 1 + width inner) key
    ∙ key-ended nodes d brackets (Quoted place) place (place + 1 + width inner + 1) key h)
    ∙ run_same _ _ (place + 1 + width inner + 1) (place + width cs) rest
    (ap (λ p. key_end nodes d brackets place p key) (omega (arith, w))) (omega (arith, w))

-- ---- values

settled_same : (r s : List TreeNode) (brackets : List Open) (m n p q : ℕ) (rest : List ℕ) → r ≡ s
    → m ≡ n → p ≡ q → run (settled r brackets m) p rest ≡ run (settled s brackets n) q rest
settled_same r s brackets m n p q rest e f g = ap (λ x. run (settled x brackets m) p rest) e
    ∙ ap (λ x. run (settled s brackets x) p rest) f ∙ ap (λ x. run (settled s brackets n) x rest) g

list_end_same : (r s : List TreeNode) (at p q : ℕ) (xs ys : List ℕ) (brackets : List Open)
    (rest : List ℕ) → r ≡ s → p ≡ q → xs ≡ ys
    → run (list_end r at p xs brackets) p rest ≡ run (list_end s at q ys brackets) q rest
list_end_same r s at p q xs ys brackets rest e f g =
    ap (λ x. run (list_end x at p xs brackets) p rest) e
    ∙ ap (λ x. run (list_end s at x xs brackets) x rest) f
    ∙ ap (λ x. run (list_end s at q x brackets) q rest) g

dictionary_end_same : (r s : List TreeNode) (at p q : ℕ) (xs ys : List (ℕ × ℕ))
    (brackets : List Open) (rest : List ℕ) → r ≡ s → p ≡ q → xs ≡ ys
    → run (dictionary_end r at p xs brackets) p rest
    ≡ run (dictionary_end s at q ys brackets) q rest
dictionary_end_same r s at p q xs ys brackets rest e f g =
    ap (λ x. run (dictionary_end x at p xs brackets) p rest) e
    ∙ ap (λ x. run (dictionary_end s at x xs brackets) x rest) f
    ∙ ap (λ x. run (dictionary_end s at q x brackets) q rest) g

-- the nodes when a value has ended
abbrev pub with_value : List TreeNode → grammar.Value → List TreeNode
with_value nodes v = nodes ++ (inner_of v (length nodes) ++ own_of v (length nodes) ∷ [])

pub with_value-length : (nodes : List TreeNode) (v : grammar.Value)
    → length (with_value nodes v) ≡ length nodes + length (inner_of v (length nodes)) + 1
with_value-length nodes v =
    let inner = inner_of v (length nodes) in
    let own = own_of v (length nodes) ∷ [] in
    omega (arith, length-append nodes (inner ++ own), length-append inner own)

-- regrouping the characters of an item, and of an entry
pub item_parts : (gap text after tail rest : List ℕ)
    → (gap ++ (text ++ (after ++ tail))) ++ rest ≡ gap ++ (text ++ (after ++ (tail ++ rest)))
item_parts gap text after tail rest = simp append_assoc

pub entry_parts : (gap key before behind text after tail rest : List ℕ)
    → (gap ++ (key ++ (before ++ 61 ∷ (behind ++ (text ++ (after ++ 59 ∷ tail)))))) ++ rest
    ≡ gap ++ (key ++ (before ++ 61 ∷ (behind ++ (text ++ (after ++ 59 ∷ (tail ++ rest))))))
entry_parts gap key before behind text after tail rest = simp append_assoc

-- nodes and numbers, one value on
nodes_on : (nodes inner more : List TreeNode) (own : TreeNode)
    → (nodes ++ (inner ++ own ∷ [])) ++ more ≡ nodes ++ (inner ++ own ∷ more)
nodes_on nodes inner more own = simp append_assoc

numbers_on : {A : Type 0} (done more : List A) (n : A) → (done ++ n ∷ []) ++ more ≡ done ++ n ∷ more
numbers_on done more n = append_assoc done (n ∷ []) more

entry_nodes_on : (nodes inner more : List TreeNode) (key own : TreeNode)
    → ((nodes ++ key ∷ []) ++ (inner ++ own ∷ [])) ++ more ≡ nodes ++ key ∷ (inner ++ own ∷ more)
entry_nodes_on nodes inner more key own = simp append_assoc

pub none-nodes : (vs : grammar.Values) (first : ℕ) → AreNone vs
    → (items_nodes vs first ≡ []) × (items_numbers vs first ≡ [])
none-nodes grammar.NoValues first h = (refl, refl)
none-nodes (grammar.AndValue v vs) first h = elim h [ ]

tail-marked : (last : Type 0) (others : ℕ → List ℕ → Type 0) (place : ℕ) (tail rest : List ℕ)
    → IsTail last others place tail → Marked (tail ++ 41 ∷ rest)
tail-marked last others place tail rest h = elim h [
  | inl e ↦ (let M : List ℕ → Type 0 = λ t. Marked (t ++ 41 ∷ rest) in subst M (sym e.1) marks.0)
  | inr e ↦ (let M : List ℕ → Type 0 = λ t. Marked (t ++ 41 ∷ rest) in subst M (sym e.1) marks.1)
]

node_same : (nodes : List TreeNode) (value : tree.the_data) (a b c d : ℕ) → a ≡ b → c ≡ d
    → nodes ++ node b d value ∷ [] ≡ nodes ++ node a c value ∷ []
node_same nodes value a b c d e f = ap (λ p. nodes ++ node p d value ∷ []) (sym e)
    ∙ ap (λ p. nodes ++ node a p value ∷ []) (sym f)

-- the nodes and numbers of the values that are left, from where the first has ended
pub items_on : (nodes : List TreeNode) (v : grammar.Value) (vs : grammar.Values)
    → with_value nodes v ++ items_nodes vs (length (with_value nodes v))
    ≡ nodes ++ items_nodes (grammar.AndValue v vs) (length nodes)
items_on nodes v vs =
    let n = length nodes in
    ap (λ k. with_value nodes v ++ items_nodes vs k) (with_value-length nodes v)
    ∙ nodes_on nodes (inner_of v n) (items_nodes vs (n + length (inner_of v n) + 1))
    (own_of v n)

pub item_numbers_on : (nodes : List TreeNode) (v : grammar.Value) (vs : grammar.Values)
    (done : List ℕ)
    → (done ++ (length nodes + length (inner_of v (length nodes))) ∷ [])
    ++ items_numbers vs (length (with_value nodes v))
    ≡ done ++ items_numbers (grammar.AndValue v vs) (length nodes)
item_numbers_on nodes v vs done =
    let n = length nodes in
    let number = n + length (inner_of v n) in
    ap (λ k. (done ++ number ∷ []) ++ items_numbers vs k) (with_value-length nodes v)
    ∙ numbers_on done (items_numbers vs (number + 1)) number

pub with_key-length : (nodes : List TreeNode) (key : TreeNode)
    → length (nodes ++ key ∷ []) ≡ length nodes + 1
with_key-length nodes key = length-append nodes (key ∷ [])

pub entries_on : (nodes : List TreeNode) (at end : ℕ) (key : List ℕ) (v : grammar.Value)
    (es : grammar.Entries)
    → with_value (nodes ++ node at end (tree.Text key) ∷ []) v
    ++ entries_nodes es (length (with_value (nodes ++ node at end (tree.Text key) ∷ []) v))
    ≡ nodes ++ entries_nodes (grammar.AndEntry at end key v es) (length nodes)
entries_on nodes at end key v es =
    let k = node at end (tree.Text key) in
    let more = nodes ++ k ∷ [] in
    let m = length more in
    ap (λ x. with_value more v ++ entries_nodes es x) (with_value-length more v)
    ∙ entry_nodes_on nodes (inner_of v m) (entries_nodes es (m + length (inner_of v m) + 1)) k
    (own_of v m)
    ∙ ap (λ x. nodes ++ k ∷ (inner_of v x ++ own_of v x
    ∷ entries_nodes es (x + length (inner_of v x) + 1))) (with_key-length nodes k)

pub entry_numbers_on : (nodes : List TreeNode) (at end : ℕ) (key : List ℕ) (v : grammar.Value)
    (es : grammar.Entries) (done : List (ℕ × ℕ))
    → (done ++ (
      length nodes,
      length (nodes ++ node at end (tree.Text key) ∷ [])
          + length (inner_of v (length (nodes ++ node at end (tree.Text key) ∷ []))),
    ) ∷ [])
    ++ entries_numbers es (length (with_value (nodes ++ node at end (tree.Text key) ∷ []) v))
    ≡ done ++ entries_numbers (grammar.AndEntry at end key v es) (length nodes)
entry_numbers_on nodes at end key v es done =
    let n = length nodes in
    let k = node at end (tree.Text key) in
    let more = nodes ++ k ∷ [] in
    let m = length more in
    ap (λ x. (done ++ (n, m + length (inner_of v m)) ∷ []) ++ entries_numbers es x)
    (with_value-length more v)
    ∙ numbers_on done (entries_numbers es (m + length (inner_of v m) + 1))
    (n, m + length (inner_of v m))
    ∙ ap (λ x. done ++ (n, x + length (inner_of v x))
    ∷ entries_numbers es (x + length (inner_of v x) + 1)) (with_key-length nodes k)

mutual
  run-value : (v : grammar.Value) (depth place : ℕ) (cs : List ℕ) → Spells v depth place cs
      → (nodes : List TreeNode) (brackets : List Open) (phase : Phase) (rest : List ℕ)
      → IsAwaiting phase → length brackets ≡ depth → Stops brackets rest
      → run (ready nodes brackets phase) place (cs ++ rest)
      ≡ run (settled (with_value nodes v) brackets
      (length nodes + length (inner_of v (length nodes)))) (place + width cs) rest
  run-value (grammar.Text at end bytes) depth place cs s nodes brackets phase rest a l st =
      run-text cs bytes s.2 nodes brackets phase place rest a st
      ∙ settled_same (nodes ++ node place (place + width cs) (tree.Text bytes) ∷ [])
      (nodes ++ node at end (tree.Text bytes) ∷ []) brackets (length nodes) (length nodes + 0)
      (place + width cs) (place + width cs) rest
      (node_same nodes (tree.Text bytes) at place end (place + width cs) s.0 s.1) (omega arith)
      refl
  run-value (grammar.Bytes at end bytes) depth place cs s nodes brackets phase rest a l st =
      run-bytes cs s.2 bytes s.3 s.4 nodes brackets phase place rest a
      ∙ settled_same (nodes ++ node place (place + width cs) (tree.Bytes bytes) ∷ [])
      (nodes ++ node at end (tree.Bytes bytes) ∷ []) brackets (length nodes) (length nodes + 0)
      (place + width cs) (place + width cs) rest
      (node_same nodes (tree.Bytes bytes) at place end (place + width cs) s.0 s.1) (omega arith)
      refl
  run-value (grammar.Items at end items) depth place cs s nodes brackets phase rest a l st =
      let inner = s.3 in
      let n = length nodes in
      let w : width cs ≡ 1 + (width inner + 1) = ap width s.4
      ∙ omega (arith, width-append inner (41 ∷ [])) in
      let all = nodes ++ items_nodes items n in
      let value = tree.Items (items_numbers items n) in
      ap (λ x. run (ready nodes brackets phase) place (x ++ rest)) s.4
      ∙ run_step _ _ place 40 ((inner ++ 41 ∷ []) ++ rest)
      (step-list_begun nodes brackets phase place a (omega (arith, l, s.2)))
      ∙ ap (λ x. run (ready nodes (Items place [] ∷ brackets) Item) (place + 1) x)
      (append_assoc inner (41 ∷ []) rest)
      ∙ run-items items (depth + 1) (place + 1) inner s.5 nodes place [] brackets rest
      (omega (arith, l))
      ∙ settled_same (all ++ node place (place + 1 + width inner + 1) value ∷ [])
      (nodes ++ (items_nodes items n ++ node at end value ∷ [])) brackets (length all)
      (n + length (items_nodes items n)) (place + 1 + width inner + 1) (place + width cs) rest
      (node_same all value at place end (place + 1 + width inner + 1) s.0 (s.1 ∙ omega (arith, w))
      ∙ append_assoc nodes (items_nodes items n) (node at end value ∷ []))
      (length-append nodes (items_nodes items n)) (omega (arith, w))
  run-value (grammar.Pairs at end entries) depth place cs s nodes brackets phase rest a l st =
      let inner = s.3 in
      let n = length nodes in
      let w : width cs ≡ 1 + (width inner + 1) = ap width s.4
      ∙ omega (arith, width-append inner (125 ∷ [])) in
      let all = nodes ++ entries_nodes entries n in
      let value = tree.Pairs (entries_numbers entries n) in
      ap (λ x. run (ready nodes brackets phase) place (x ++ rest)) s.4
      ∙ run_step _ _ place 123 ((inner ++ 125 ∷ []) ++ rest)
      (step-dictionary_begun nodes brackets phase place a (omega (arith, l, s.2)))
      ∙ ap (λ x. run (ready nodes (Pairs (opened place) ∷ brackets) Key) (place + 1) x)
      (append_assoc inner (125 ∷ []) rest)
      ∙ run-entries entries (depth + 1) [] (place + 1) inner s.5 nodes (opened place) brackets rest
      refl (omega (arith, l))
      ∙ settled_same (all ++ node place (place + 1 + width inner + 1) value ∷ [])
      (nodes ++ (entries_nodes entries n ++ node at end value ∷ [])) brackets (length all)
      (n + length (entries_nodes entries n)) (place + 1 + width inner + 1) (place + width cs)
      rest
      (node_same all value at place end (place + 1 + width inner + 1) s.0 (s.1 ∙ omega (arith, w))
      ∙ append_assoc nodes (entries_nodes entries n) (node at end value ∷ []))
      (length-append nodes (entries_nodes entries n)) (omega (arith, w))

  run-items : (items : grammar.Values) (depth place : ℕ) (cs : List ℕ)
      → SpellItems items depth place cs
      → (nodes : List TreeNode) (at : ℕ) (done : List ℕ) (brackets : List Open) (rest : List ℕ)
      → suc (length brackets) ≡ depth
      → run (ready nodes (Items at done ∷ brackets) Item) place (cs ++ 41 ∷ rest)
      ≡ run (list_end (nodes ++ items_nodes items (length nodes)) at (place + width cs + 1)
      (done ++ items_numbers items (length nodes)) brackets) (place + width cs + 1) rest
  run-items grammar.NoValues depth place cs s nodes at done brackets rest l =
      run-spaces cs (ready nodes (Items at done ∷ brackets) Item) place (41 ∷ rest) refl s
      ∙ run_step _ _ (place + width cs) 41 rest
      (step-empty_list_end nodes at (place + width cs) done brackets)
      ∙ list_end_same nodes (nodes ++ []) at (place + width cs + 1) (place + width cs + 1) done
      (done ++ []) brackets rest (sym (append-nil nodes)) refl (sym (append-nil done))
  run-items (grammar.AndValue v vs) depth place cs s nodes at done brackets rest l =
      let n = length nodes in
      let r = ready nodes (Items at done ∷ brackets) Item in
      let more = with_value nodes v in
      let number = n + length (inner_of v n) in
      let here = place + width s.gap in
      let there = here + width s.text + width s.after in
      let w : width cs ≡ width s.gap + (width s.text + (width s.after + width s.tail))
      = ap width s.parts ∙ omega (
        arith,
        width-append s.gap (s.text ++ (s.after ++ s.tail)),
        width-append s.text (s.after ++ s.tail),
        width-append s.after s.tail,
      ) in
      ap (λ x. run r place (x ++ 41 ∷ rest)) s.parts
      ∙ ap (λ x. run r place x) (item_parts s.gap s.text s.after s.tail (41 ∷ rest))
      ∙ run-spaces s.gap r place (s.text ++ (s.after ++ (s.tail ++ 41 ∷ rest))) refl s.gap_spaces
      ∙ run-value v depth here s.text s.spelled nodes (Items at done ∷ brackets) Item
      (s.after ++ (s.tail ++ 41 ∷ rest)) tt l
      (stops-marked (Items at done ∷ brackets) (s.after ++ (s.tail ++ 41 ∷ rest))
      (marked-spaces s.after (s.tail ++ 41 ∷ rest) s.after_spaces
      (tail-marked (AreNone vs) (λ p t. SpellItems vs depth p t) there s.tail rest s.followed)))
      ∙ run-spaces s.after (ready more (Items at (done ++ number ∷ []) ∷ brackets) ItemEnd)
      (here + width s.text) (s.tail ++ 41 ∷ rest) refl s.after_spaces
      ∙ elim s.followed [
        | inl e ↦ (let none = none-nodes vs (length more) e.0 in
            ap (λ x. run (ready more (Items at (done ++ number ∷ []) ∷ brackets) ItemEnd) there
            (x ++ 41 ∷ rest)) e.1
            ∙ run_step _ _ there 41 rest (step-list_end more at there (done ++ number ∷ [])
            brackets)
            ∙ list_end_same more (nodes ++ items_nodes (grammar.AndValue v vs) n) at (there + 1)
            (place + width cs + 1) (done ++ number ∷ [])
            (done ++ items_numbers (grammar.AndValue v vs) n) brackets rest
            (sym (append-nil more) ∙ ap (λ x. more ++ x) (sym none.0) ∙ items_on nodes v vs)
            (omega (arith, w, ap width e.1))
            (sym (append-nil (done ++ number ∷ []))
            ∙ ap (λ x. (done ++ number ∷ []) ++ x) (sym none.1)
            ∙ item_numbers_on nodes v vs done))
        | inr e ↦
            ap (λ x. run (ready more (Items at (done ++ number ∷ []) ∷ brackets) ItemEnd) there
            (x ++ 41 ∷ rest)) e.1
            ∙ run_step _ _ there 44 (e.0 ++ 41 ∷ rest)
            (step-comma more (Items at (done ++ number ∷ []) ∷ brackets) there)
            ∙ run-items vs depth (there + 1) e.0 e.2 more at (done ++ number ∷ []) brackets rest l
            ∙ list_end_same (more ++ items_nodes vs (length more))
            (nodes ++ items_nodes (grammar.AndValue v vs) n) at (there + 1 + width e.0 + 1)
            (place + width cs + 1) ((done ++ number ∷ []) ++ items_numbers vs (length more))
            (done ++ items_numbers (grammar.AndValue v vs) n) brackets rest
            (items_on nodes v vs) (omega (arith, w, ap width e.1)) (item_numbers_on nodes v vs done)
      ]

  run-entries : (entries : grammar.Entries) (depth : ℕ) (keys : List (List ℕ)) (place : ℕ)
      (cs : List ℕ) → SpellEntries entries depth keys place cs
      → (nodes : List TreeNode) (d : Dictionary) (brackets : List Open) (rest : List ℕ)
      → d.keys ≡ keys → suc (length brackets) ≡ depth
      → run (ready nodes (Pairs d ∷ brackets) Key) place (cs ++ 125 ∷ rest)
      ≡ run (dictionary_end (nodes ++ entries_nodes entries (length nodes)) d.place
      (place + width cs + 1) (d.pairs ++ entries_numbers entries (length nodes)) brackets)
      (place + width cs + 1) rest
  run-entries grammar.NoEntries depth keys place cs s nodes d brackets rest k l =
      run-spaces cs (ready nodes (Pairs d ∷ brackets) Key) place (125 ∷ rest) refl s
      ∙ run_step _ _ (place + width cs) 125 rest
      (step-dictionary_end nodes (place + width cs) d brackets)
      ∙ dictionary_end_same nodes (nodes ++ []) d.place (place + width cs + 1)
      (place + width cs + 1) d.pairs (d.pairs ++ []) brackets rest (sym (append-nil nodes)) refl
      (sym (append-nil d.pairs))
  run-entries (grammar.AndEntry at end key v es) depth keys place cs s nodes d brackets rest k l =
      let e = s.1 in
      let r = ready nodes (Pairs d ∷ brackets) Key in
      let n = length nodes in
      let keyed = nodes ++ node at end (tree.Text key) ∷ [] in
      let m = length keyed in
      let d1 : Dictionary = record d { keys = d.keys ++ key ∷ []; key = n } in
      let number = m + length (inner_of v m) in
      let more = with_value keyed v in
      let d2 : Dictionary = record d1 { pairs = d.pairs ++ (n, number) ∷ [] } in
      let here = end + width e.before_sign + 1 + width e.behind_sign in
      let there = here + width e.text + width e.after in
      let behind_value = e.after ++ 59 ∷ (e.rest ++ 125 ∷ rest) in
      let w : width cs ≡ width e.gap + (width e.key_text
      + (width e.before_sign + (1 + (width e.behind_sign
      + (width e.text + (width e.after + (1 + width e.rest))))))) =
      ap width e.parts ∙ omega (
        arith,
        width-append e.gap
            (e.key_text ++ (e.before_sign ++ 61 ∷
            (e.behind_sign ++ (e.text ++ (e.after ++ 59 ∷ e.rest))))),
        width-append e.key_text
            (e.before_sign ++ 61 ∷ (e.behind_sign ++ (e.text ++ (e.after ++ 59 ∷ e.rest)))),
        width-append e.before_sign (61 ∷ (e.behind_sign ++ (e.text ++ (e.after ++ 59 ∷ e.rest)))),
        width-append e.behind_sign (e.text ++ (e.after ++ 59 ∷ e.rest)),
        width-append e.text
            (e.after ++ 59 ∷ e.rest),
        width-append e.after (59 ∷ e.rest),
      ) in
      ap (λ x. run r place (x ++ 125 ∷ rest)) e.parts
      ∙ ap (λ x. run r place x) (entry_parts e.gap e.key_text e.before_sign e.behind_sign e.text
      e.after e.rest (125 ∷ rest))
      ∙ run-spaces e.gap r place (e.key_text
      ++ (e.before_sign ++ 61 ∷ (e.behind_sign ++ (e.text ++ behind_value)))) refl e.gap_spaces
      ∙ run-key e.key_text key e.key_spelled nodes d brackets (place + width e.gap)
      (e.before_sign ++ 61 ∷ (e.behind_sign ++ (e.text ++ behind_value)))
      (ap (λ x. is_among key x) k ∙ s.0)
      (marked-spaces e.before_sign (61 ∷ (e.behind_sign ++ (e.text ++ behind_value)))
      e.before_spaces marks.3)
      ∙ ap (λ p. run (key_end nodes d brackets p (p + width e.key_text) key) (p + width e.key_text)
      (e.before_sign ++ 61 ∷ (e.behind_sign ++ (e.text ++ behind_value)))) (sym e.key_place_is)
      ∙ ap (λ p. run (key_end nodes d brackets at p key) p
      (e.before_sign ++ 61 ∷ (e.behind_sign ++ (e.text ++ behind_value)))) (sym e.key_end_is)
      ∙ run-spaces e.before_sign (ready keyed (Pairs d1 ∷ brackets) KeyEnd) end
      (61 ∷ (e.behind_sign ++ (e.text ++ behind_value))) refl e.before_spaces
      ∙ run_step _ _ (end + width e.before_sign) 61 (e.behind_sign ++ (e.text ++ behind_value))
      (step-equals keyed (Pairs d1 ∷ brackets) (end + width e.before_sign))
      ∙ run-spaces e.behind_sign (ready keyed (Pairs d1 ∷ brackets) Value)
      (end + width e.before_sign + 1) (e.text ++ behind_value) refl e.behind_spaces
      ∙ run-value v depth here e.text e.spelled keyed (Pairs d1 ∷ brackets) Value behind_value tt l
      (stops-marked (Pairs d1 ∷ brackets) behind_value
      (marked-spaces e.after (59 ∷ (e.rest ++ 125 ∷ rest)) e.after_spaces marks.2))
      ∙ run-spaces e.after (ready more (Pairs d2 ∷ brackets) PairEnd) (here + width e.text)
      (59 ∷ (e.rest ++ 125 ∷ rest)) refl e.after_spaces
      ∙ run_step _ _ there 59 (e.rest ++ 125 ∷ rest)
      (step-semicolon more (Pairs d2 ∷ brackets) there)
      ∙ run-entries es depth (keys ++ key ∷ []) (there + 1) e.rest e.followed more d2 brackets rest
      (ap (λ x. x ++ key ∷ []) k) l
      ∙ dictionary_end_same (more ++ entries_nodes es (length more))
      (nodes ++ entries_nodes (grammar.AndEntry at end key v es) n) d.place
      (there + 1 + width e.rest + 1) (place + width cs + 1)
      ((d.pairs ++ (n, number) ∷ []) ++ entries_numbers es (length more))
      (d.pairs ++ entries_numbers (grammar.AndEntry at end key v es) n) brackets rest
      (entries_on nodes at end key v es) (omega (arith, w, e.key_place_is, e.key_end_is))
      (entry_numbers_on nodes at end key v es d.pairs)

-- ---- whole texts

pub finish-end : (nodes : List TreeNode) (number place : ℕ)
    → finish (ready nodes [] (End number)) place ≡ Ok (record { nodes = nodes; top = number })
unfolding finish whole
finish-end nodes number place = refl

pub start-ready : start ≡ ready [] [] Value
unfolding start
start-ready = refl

-- a text of the grammar is read to its value's tree
pub run-text_of : (v : grammar.Value) (cs : List ℕ) → IsTextOf v cs
    → run start 0 cs ≡ Ok (tree_of v)
run-text_of v cs s =
    let number = length (inner_of v 0) in
    let nodes = inner_of v 0 ++ own_of v 0 ∷ [] in
    ap (λ r. run r 0 cs) start-ready
    ∙ ap (λ x. run (ready [] [] Value) 0 x) s.parts
    ∙ run-spaces s.gap (ready [] [] Value) 0 (s.text ++ s.after) refl s.gap_spaces
    ∙ ap (λ p. run (ready [] [] Value) p (s.text ++ s.after)) (omega arith)
    ∙ run-value v 0 (width s.gap) s.text s.spelled [] [] Value s.after tt refl
    (stops-spaces s.after s.after_spaces)
    ∙ ap (λ x. run (ready nodes [] (End x)) (width s.gap + width s.text) s.after) (omega arith)
    ∙ ap (λ x. run (ready nodes [] (End number)) (width s.gap + width s.text) x)
    (sym (append-nil s.after))
    ∙ run-spaces s.after (ready nodes [] (End number)) (width s.gap + width s.text) [] refl
    s.after_spaces
    ∙ finish-end nodes number (width s.gap + width s.text + width s.after)

-- what has a tree by the grammar gives it
pub given : (source : List ℕ) (t : Tree) → HasTree source t → read_of source ≡ Ok t
given source t h = read_of-text source h.utf8 ∙ run-text_of h.value (chars source) h.spelled
    ∙ ap (λ x. Ok x) (sym h.numbered)
