-- The keys of each dictionary of a tree are texts that differ, and each begins where a reader
-- awaits a key behind the pairs in front of it.
use Rattle.std.proofs.Common.{◌≡◌, ℕ, ◌+◌, false, List, [], ◌∷◌, ◌++◌, length, map, Option, Some}
use Rattle.std.proofs.Common.{None, Ok, refl, sym, ap, subst, ◌∙◌, append_assoc}
use Rattle.std.specs.Prelude.{option_and_then, slice_get}
use Rattle.std.specs.List.{All, AllByRecursion}
use Rattle.std.proofs.lemmas.List.{append-nil}
use Rattle.std.proofs.lemmas.List.Elements.{All-push, All-weaker, All-nil, All-get_or}
use Rattle.std.proofs.lemmas.Option.{slice_get_within, get_or_from_slice_get}
use Rattle.plist_reader.specs.declared.tree.Tree.{Tree}
use Rattle.plist_reader.specs.declared.tree.TreeNode.{TreeNode}
use Rattle.plist_reader.specs.declared.tree.TreeValue.{TreeValue}
use Rattle.plist_reader.specs.declared.tree.TreeValue.TheVariants as tree
use Rattle.plist_reader.specs.declared.reader.Reader.{Reader}
use Rattle.plist_reader.specs.declared.reader.Dictionary.{Dictionary}
use Rattle.plist_reader.specs.declared.reader.Phase.{Phase}
use Rattle.plist_reader.specs.declared.reader.Phase.TheVariants.{Value, Item, ItemEnd, Key, KeyEnd}
use Rattle.plist_reader.specs.declared.reader.Phase.TheVariants.{PairEnd, End}
use Rattle.plist_reader.specs.declared.reader.Token.{Token}
use Rattle.plist_reader.specs.declared.reader.Open.{Open}
use Rattle.plist_reader.specs.declared.reader.Open.TheVariants.{Items, Pairs}
use Rattle.plist_reader.specs.Tree.{text_of, text_at}
use Rattle.plist_reader.specs.Keys.{is_among}
use Rattle.plist_reader.specs.Grammar.{node, width}
use Rattle.plist_reader.specs.Sources.{AreNew, IsDictionary, IsDictionaryIn}
use Rattle.plist_reader.specs.Reading.{start, run}
use Rattle.plist_reader.proofs.GivenTokens.{ready, in_token, settled, IsAwaiting}
use Rattle.plist_reader.proofs.Moves.{TextEnds, as_value, as_key, Moves, space_between}
use Rattle.plist_reader.proofs.Moves.{string_begins, word_begins, bytes_begin, list_begins}
use Rattle.plist_reader.proofs.Moves.{dictionary_begins, comma, equals, semicolon, list_ends}
use Rattle.plist_reader.proofs.Moves.{dictionary_ends, word_more, word_ends, string_more}
use Rattle.plist_reader.proofs.Moves.{string_ends, escape_begins, escape_more, escape_ends}
use Rattle.plist_reader.proofs.Moves.{space_in_bytes, first_digit, space_in_half, second_digit}
use Rattle.plist_reader.proofs.Moves.{bytes_end, Closes, closes_between, closes_word}
use Rattle.plist_reader.proofs.Scalars.{AreScalars}
use Rattle.plist_reader.proofs.Fronts.{ends-between}
use Rattle.plist_reader.proofs.Reached.{Reached, at_start, onward, reached-moves}
use Rattle.plist_reader.proofs.InEscapes.{reached-end}
use Rattle.plist_reader.proofs.Starts.{Started, StartOf, none-started, reached-started}
use Rattle.plist_reader.proofs.Keyed.{slice_get-more, slice_get-last}

-- ---- keys of pairs

-- what holds of each node holds of the one with a number
pub value-at : (nodes : List TreeNode) (P : TreeNode → Type 0) (n : ℕ) (x : TreeNode) → All P nodes
    → slice_get nodes n ≡ Some x → P x
value-at nodes P n x h e = subst P (get_or_from_slice_get nodes n x x e)
    (All-get_or P nodes n x (slice_get_within nodes n x e) h)

abbrev pub HasKeys : List TreeNode → List (ℕ × ℕ) → List (List ℕ) → Type 0
HasKeys nodes pairs keys = map (λ pair. text_at nodes pair.0) pairs ≡ map (λ key. Some key) keys

text_at-more : (nodes more : List TreeNode) (n : ℕ) (key : List ℕ) → text_at nodes n ≡ Some key
    → text_at (nodes ++ more) n ≡ Some key
text_at-more nodes more n key h = on (slice_get nodes n) refl h
  where
    on : (o : Option TreeNode) → slice_get nodes n ≡ o
        → option_and_then (λ node. text_of node.value) o ≡ Some key
        → text_at (nodes ++ more) n ≡ Some key
    on None e k = cc
    on (Some x) e k = rw (slice_get-more nodes more n x e) k

pub cons_parts : {A : Type 0} (x y : A) (xs ys : List A) → x ∷ xs ≡ y ∷ ys → (x ≡ y) × (xs ≡ ys)
cons_parts x y xs ys e = (cc, cc)

pub keys-more : (nodes more : List TreeNode) (pairs : List (ℕ × ℕ)) (keys : List (List ℕ))
    → HasKeys nodes pairs keys → HasKeys (nodes ++ more) pairs keys
keys-more nodes more [] keys h = h
keys-more nodes more (p ∷ pairs) [] h = cc
keys-more nodes more (p ∷ pairs) (k ∷ keys) h =
    let c = cons_parts (text_at nodes p.0) (Some k) (map (λ pair. text_at nodes pair.0) pairs)
    (map (λ key. Some key) keys) h in
    let a = text_at-more nodes more p.0 k c.0 in
    let b = keys-more nodes more pairs keys c.1 in
    ap (λ z. z ∷ map (λ pair. text_at (nodes ++ more) pair.0) pairs) a ∙ ap (λ z. Some k ∷ z) b

keys-push : (nodes : List TreeNode) (pairs : List (ℕ × ℕ)) (keys : List (List ℕ)) (n number : ℕ)
    (key : List ℕ) → HasKeys nodes pairs keys → text_at nodes n ≡ Some key
    → HasKeys nodes (pairs ++ (n, number) ∷ []) (keys ++ key ∷ [])
keys-push nodes [] [] n number key h e = ap (λ z. z ∷ []) e
keys-push nodes [] (k ∷ keys) n number key h e = cc
keys-push nodes (p ∷ pairs) [] n number key h e = cc
keys-push nodes (p ∷ pairs) (k ∷ keys) n number key h e =
    let c = cons_parts (text_at nodes p.0) (Some k) (map (λ pair. text_at nodes pair.0) pairs)
    (map (λ key. Some key) keys) h in
    ap (λ z. z ∷ map (λ pair. text_at nodes pair.0) (pairs ++ (n, number) ∷ [])) c.0
    ∙ ap (λ z. Some k ∷ z) (keys-push nodes pairs keys n number key c.1 e)

new-push : (before keys : List (List ℕ)) (key : List ℕ) → AreNew before keys
    → is_among key (before ++ keys) ≡ false → AreNew before (keys ++ key ∷ [])
new-push before [] key h e = (ap (λ x. is_among key x) (sym (append-nil before)) ∙ e, tt)
new-push before (k ∷ keys) key h e = (
  h.0,
  new-push (before ++ k ∷ []) keys key h.1
      (ap (λ x. is_among key x) (append_assoc before (k ∷ []) keys) ∙ e),
)

own-text : (nodes : List TreeNode) (at end : ℕ) (key : List ℕ)
    → text_at (nodes ++ node at end (tree.Text key) ∷ []) (length nodes) ≡ Some key
own-text nodes at end key = rw (slice_get-last nodes (node at end (tree.Text key)) []) refl

-- ---- where keys begin

-- A key with this number stands behind these pairs: where it begins in a text, the innermost
-- dictionary of the reader has them.
pub record Began (cs : List ℕ) (nodes : List TreeNode) (earlier : List (ℕ × ℕ)) (number : ℕ)
    : Type 0 where
  pub before : List ℕ
  pub more : List ℕ
  pub older : List TreeNode
  pub newer : List TreeNode
  pub d : Dictionary
  pub outer : List Open
  pub own : TreeNode
  pub parts : cs ≡ before ++ more
  pub grown : nodes ≡ older ++ newer
  pub reached : Reached before (ready older (Pairs d ∷ outer) Key)
  pub behind : d.pairs ≡ earlier
  pub own_is : slice_get nodes number ≡ Some own
  pub place_is : own.place ≡ width before

began-more : (cs : List ℕ) (nodes more : List TreeNode) (earlier : List (ℕ × ℕ)) (number : ℕ)
    → Began cs nodes earlier number → Began cs (nodes ++ more) earlier number
began-more cs nodes more earlier number h = record {
  before = h.before;
  more = h.more;
  older = h.older;
  newer = h.newer ++ more;
  d = h.d;
  outer = h.outer;
  own = h.own;
  parts = h.parts;
  grown = ap (λ x. x ++ more) h.grown ∙ append_assoc h.older h.newer more;
  reached = h.reached;
  behind = h.behind;
  own_is = slice_get-more nodes more number h.own h.own_is;
  place_is = h.place_is;
}

began-here : (cs front rest : List ℕ) (nodes : List TreeNode) (d : Dictionary) (outer : List Open)
    (at end : ℕ) (text : List ℕ) → cs ≡ front ++ rest → Started front at nodes (Pairs d ∷ outer) Key
    → Began cs (nodes ++ node at end (tree.Text text) ∷ []) d.pairs (length nodes)
began-here cs front rest nodes d outer at end text e s = record {
  before = s.before;
  more = s.more ++ rest;
  older = nodes;
  newer = node at end (tree.Text text) ∷ [];
  d = d;
  outer = outer;
  own = node at end (tree.Text text);
  parts = e ∙ ap (λ x. x ++ rest) s.parts ∙ append_assoc s.before s.more rest;
  grown = refl;
  reached = s.reached;
  behind = refl;
  own_is = slice_get-last nodes (node at end (tree.Text text)) [];
  place_is = s.place;
}

-- the keys of pairs that stand behind others
abbrev EachBegan : List ℕ → List TreeNode → List (ℕ × ℕ) → List (ℕ × ℕ) → Type 0
EachBegan cs nodes earlier [] = Unit {0}
EachBegan cs nodes earlier (p ∷ pairs) = Began cs nodes earlier p.0
    × EachBegan cs nodes (earlier ++ p ∷ []) pairs

each-more : (cs : List ℕ) (nodes more : List TreeNode) (earlier pairs : List (ℕ × ℕ))
    → EachBegan cs nodes earlier pairs → EachBegan cs (nodes ++ more) earlier pairs
each-more cs nodes more earlier [] h = tt
each-more cs nodes more earlier (p ∷ pairs) h
    = (
      began-more cs nodes more earlier p.0 h.0,
      each-more cs nodes more (earlier ++ p ∷ []) pairs
          h.1,
    )

each-push : (cs : List ℕ) (nodes : List TreeNode) (earlier pairs : List (ℕ × ℕ)) (n number : ℕ)
    → EachBegan cs nodes earlier pairs → Began cs nodes (earlier ++ pairs) n
    → EachBegan cs nodes earlier (pairs ++ (n, number) ∷ [])
each-push cs nodes earlier [] n number h k
    = (subst (λ (x : List (ℕ × ℕ)). Began cs nodes x n) (append-nil earlier) k, tt)
each-push cs nodes earlier (p ∷ pairs) n number h k = (
  h.0,
  each-push cs nodes (earlier ++ p ∷ []) pairs n number h.1
      (subst (λ (x : List (ℕ × ℕ)). Began cs nodes x n)
      (sym (append_assoc earlier (p ∷ []) pairs)) k),
)

each-at : (cs : List ℕ) (nodes : List TreeNode) (earlier pairs : List (ℕ × ℕ)) (n number : ℕ)
    (later : List (ℕ × ℕ)) → EachBegan cs nodes earlier (pairs ++ (n, number) ∷ later)
    → Began cs nodes (earlier ++ pairs) n
each-at cs nodes earlier [] n number later h
    = subst (λ (x : List (ℕ × ℕ)). Began cs nodes x n) (sym (append-nil earlier)) h.0
each-at cs nodes earlier (p ∷ pairs) n number later h =
    subst (λ (x : List (ℕ × ℕ)). Began cs nodes x n) (append_assoc earlier (p ∷ []) pairs)
    (each-at cs nodes (earlier ++ p ∷ []) pairs n number later h.1)

-- the keys of these pairs are these texts, and began so
abbrev Tells : List ℕ → List TreeNode → List (ℕ × ℕ) → List (List ℕ) → Type 0
Tells cs nodes pairs keys = HasKeys nodes pairs keys × EachBegan cs nodes [] pairs

tells-more : (cs : List ℕ) (nodes more : List TreeNode) (pairs : List (ℕ × ℕ))
    (keys : List (List ℕ)) → Tells cs nodes pairs keys → Tells cs (nodes ++ more) pairs keys
tells-more cs nodes more pairs keys h = (
  keys-more nodes more pairs keys h.0,
  each-more cs nodes
      more [] pairs h.1,
)

-- ---- keys of what is open

-- the keys are those of the pairs and the last one, which awaits its value
abbrev Awaits : List ℕ → List TreeNode → Open → Type 0
Awaits cs nodes (Items at done) = Unit {0}
Awaits cs nodes (Pairs d) = (number : ℕ) → Tells cs nodes (d.pairs ++ (d.key, number) ∷ []) d.keys

abbrev AllAwait : List ℕ → List TreeNode → List Open → Type 0
AllAwait cs nodes brackets = AllByRecursion (Awaits cs nodes) brackets

-- the keys of the innermost are those of its pairs
abbrev TopIs : List ℕ → List TreeNode → List Open → Type 0
TopIs cs nodes [] = Unit {0}
TopIs cs nodes (Items at done ∷ outer) = AllAwait cs nodes outer
TopIs cs nodes (Pairs d ∷ outer) = Tells cs nodes d.pairs d.keys × AllAwait cs nodes outer

abbrev KeysAt : List ℕ → List TreeNode → Phase → List Open → Type 0
KeysAt cs nodes Value brackets = AllAwait cs nodes brackets
KeysAt cs nodes Item brackets = AllAwait cs nodes brackets
KeysAt cs nodes ItemEnd brackets = AllAwait cs nodes brackets
KeysAt cs nodes KeyEnd brackets = AllAwait cs nodes brackets
KeysAt cs nodes Key brackets = TopIs cs nodes brackets
KeysAt cs nodes PairEnd brackets = TopIs cs nodes brackets
KeysAt cs nodes (End n) brackets = AllAwait cs nodes brackets

abbrev NewIn : Open → Type 0
NewIn (Items at done) = Unit {0}
NewIn (Pairs d) = AreNew [] d.keys

-- what is known of a value
abbrev IsListed : List ℕ → List TreeNode → TreeValue → Type 0
IsListed cs nodes (tree.Text bytes) = Unit {0}
IsListed cs nodes (tree.Bytes bytes) = Unit {0}
IsListed cs nodes (tree.Items items) = Unit {0}
IsListed cs nodes (tree.Pairs pairs) = IsDictionary nodes pairs × EachBegan cs nodes [] pairs

abbrev Done : List ℕ → List TreeNode → Type 0
Done cs nodes = All (λ n. IsListed cs nodes n.value) nodes

record Listed (cs : List ℕ) (r : Reader) : Type 0 where
  keys : KeysAt cs r.nodes r.phase r.brackets
  new_keys : AllByRecursion NewIn r.brackets
  done : Done cs r.nodes

awaiting-keys : (cs : List ℕ) (nodes : List TreeNode) (phase : Phase) (brackets : List Open)
    → IsAwaiting phase → KeysAt cs nodes phase brackets → AllAwait cs nodes brackets
awaiting-keys cs nodes Value brackets a h = h
awaiting-keys cs nodes Item brackets a h = h
awaiting-keys cs nodes Key brackets a h = absurd a
awaiting-keys cs nodes ItemEnd brackets a h = absurd a
awaiting-keys cs nodes KeyEnd brackets a h = absurd a
awaiting-keys cs nodes PairEnd brackets a h = absurd a
awaiting-keys cs nodes (End n) brackets a h = absurd a

items-keys : (cs : List ℕ) (nodes : List TreeNode) (phase : Phase) (at : ℕ) (done : List ℕ)
    (outer : List Open) → KeysAt cs nodes phase (Items at done ∷ outer) → AllAwait cs nodes outer
items-keys cs nodes Value at done outer h = h.1
items-keys cs nodes Item at done outer h = h.1
items-keys cs nodes ItemEnd at done outer h = h.1
items-keys cs nodes KeyEnd at done outer h = h.1
items-keys cs nodes Key at done outer h = h
items-keys cs nodes PairEnd at done outer h = h
items-keys cs nodes (End n) at done outer h = h.1

await-more : (cs : List ℕ) (nodes more : List TreeNode) (brackets : List Open)
    → AllAwait cs nodes brackets → AllAwait cs (nodes ++ more) brackets
await-more cs nodes more [] h = tt
await-more cs nodes more (Items at done ∷ outer) h = (tt, await-more cs nodes more outer h.1)
await-more cs nodes more (Pairs d ∷ outer) h
    = (
      λ number. tells-more cs nodes more (d.pairs ++ (d.key, number) ∷ []) d.keys (h.0 number),
      await-more cs nodes more outer h.1,
    )

listed-more : (cs : List ℕ) (nodes more : List TreeNode) (value : TreeValue)
    → IsListed cs nodes value → IsListed cs (nodes ++ more) value
listed-more cs nodes more (tree.Text bytes) h = tt
listed-more cs nodes more (tree.Bytes bytes) h = tt
listed-more cs nodes more (tree.Items items) h = tt
listed-more cs nodes more (tree.Pairs pairs) h
    = (
      record {
        keys = h.0.keys;
        texts = keys-more nodes more pairs h.0.keys h.0.texts;
        differ
            = h.0.differ;
      },
      each-more cs nodes more [] pairs h.1,
    )

done-push : (cs : List ℕ) (nodes : List TreeNode) (n : TreeNode) → Done cs nodes
    → IsListed cs nodes n.value → Done cs (nodes ++ n ∷ [])
done-push cs nodes n h k =
    let all = nodes ++ n ∷ [] in
    All-push (λ m. IsListed cs all m.value) nodes n
    (All-weaker (λ m. IsListed cs nodes m.value) (λ m. IsListed cs all m.value)
    (λ m q. listed-more cs nodes (n ∷ []) m.value q) nodes h)
    (listed-more cs nodes (n ∷ []) n.value k)

settled-listed : (cs : List ℕ) (nodes : List TreeNode) (brackets : List Open) (number : ℕ)
    → AllAwait cs nodes brackets → AllByRecursion NewIn brackets → Done cs nodes
    → Listed cs (settled nodes brackets number)
settled-listed cs nodes [] number h k d = record { keys = tt; new_keys = tt; done = d }
settled-listed cs nodes (Items at done ∷ outer) number h k d
    = record { keys = (tt, h.1); new_keys = (tt, k.1); done = d }
settled-listed cs nodes (Pairs e ∷ outer) number h k d
    = record { keys = (h.0 number, h.1); new_keys = (k.0, k.1); done = d }

value-listed : (cs : List ℕ) (nodes : List TreeNode) (n : TreeNode) (brackets : List Open)
    → AllAwait cs nodes brackets → AllByRecursion NewIn brackets → Done cs nodes
    → IsListed cs nodes n.value → Listed cs (settled (nodes ++ n ∷ []) brackets (length nodes))
value-listed cs nodes n brackets h k d v
    = settled-listed cs (nodes ++ n ∷ []) brackets (length nodes)
    (await-more cs nodes (n ∷ []) brackets h) k (done-push cs nodes n d v)

ended-listed : (cs front rest : List ℕ) (nodes : List TreeNode) (brackets : List Open)
    (phase : Phase) (token : Token) (at end : ℕ) (text : List ℕ) (u : Reader)
    → cs ≡ front ++ rest → TextEnds nodes brackets phase at end text u
    → Started front at nodes brackets phase
    → Listed cs (in_token nodes brackets phase token text []) → Listed cs u
ended-listed cs front rest nodes _ _ token _ _ _ _ e (as_value brackets phase at end text a) b h =
    value-listed cs nodes (node at end (tree.Text text)) brackets
    (awaiting-keys cs nodes phase brackets a h.keys) h.new_keys h.done tt
ended-listed cs front rest nodes _ _ token _ _ _ _ e (as_key d outer at end text n) b h =
    let more = node at end (tree.Text text) ∷ [] in
    let now = tells-more cs nodes more d.pairs d.keys h.keys.0 in
    record {
      keys = (
        λ number. (
          keys-push (nodes ++ more) d.pairs d.keys (length nodes) number text now.0
              (own-text nodes at end text),
          each-push cs (nodes ++ more) [] d.pairs (length nodes) number now.1
              (began-here cs front rest nodes d outer at end text e b),
        ),
        await-more cs nodes more outer h.keys.1,
      );
      new_keys = (new-push [] d.keys text h.new_keys.0 n, h.new_keys.1);
      done = done-push cs nodes (node at end (tree.Text text)) h.done tt;
    }

token-listed : (cs : List ℕ) (nodes : List TreeNode) (brackets : List Open) (phase : Phase)
    (t u : Token) (text more bytes made : List ℕ)
    → Listed cs (in_token nodes brackets phase t text bytes)
    → Listed cs (in_token nodes brackets phase u more made)
token-listed cs nodes brackets phase t u text more bytes made h
    = record { keys = h.keys; new_keys = h.new_keys; done = h.done }

moves-listed : (cs front rest : List ℕ) (place c : ℕ) (r s : Reader) → cs ≡ front ++ rest
    → Moves place c r s → StartOf r front → Listed cs r → Listed cs s
moves-listed cs front rest place c _ _ q (space_between nodes brackets phase e) b h = h
moves-listed cs front rest place c _ _ q (string_begins nodes brackets phase k e) b h
    = token-listed cs nodes brackets phase _ _ [] [] [] [] h
moves-listed cs front rest place c _ _ q (word_begins nodes brackets phase k w) b h
    = token-listed cs nodes brackets phase _ _ [] _ [] [] h
moves-listed cs front rest place c _ _ q (bytes_begin nodes brackets phase a) b h
    = token-listed cs nodes brackets phase _ _ [] [] [] [] h
moves-listed cs front rest place c _ _ q (list_begins nodes brackets phase a d) b h
    = record {
      keys = (tt, awaiting-keys cs nodes phase brackets a h.keys);
      new_keys
          = (tt, h.new_keys);
      done = h.done;
    }
moves-listed cs front rest place c _ _ q (dictionary_begins nodes brackets phase a d) b h
    = record {
      keys = ((refl, tt), awaiting-keys cs nodes phase brackets a h.keys);
      new_keys
          = (tt, h.new_keys);
      done = h.done;
    }
moves-listed cs front rest place c _ _ q (comma nodes brackets) b h
    = record { keys = h.keys; new_keys = h.new_keys; done = h.done }
moves-listed cs front rest place c _ _ q (equals nodes brackets) b h
    = record { keys = h.keys; new_keys = h.new_keys; done = h.done }
moves-listed cs front rest place c _ _ q (semicolon nodes brackets) b h
    = record { keys = h.keys; new_keys = h.new_keys; done = h.done }
moves-listed cs front rest place c _ _ q (list_ends nodes at done outer phase) b h =
    value-listed cs nodes (node at (place + 1) (tree.Items done)) outer
    (items-keys cs nodes phase at done outer h.keys) h.new_keys.1 h.done tt
moves-listed cs front rest place c _ _ q (dictionary_ends nodes d outer) b h =
    value-listed cs nodes (node d.place (place + 1) (tree.Pairs d.pairs)) outer h.keys.1
    h.new_keys.1 h.done (
      record { keys = d.keys; texts = h.keys.0.0; differ = h.new_keys.0 },
      h.keys.0.1,
    )
moves-listed cs front rest place c _ _ q (word_more nodes brackets phase at text k w) b h
    = token-listed cs nodes brackets phase _ _ text _ [] [] h
moves-listed cs front rest place c _ _ q (word_ends nodes brackets phase at text u s w t m) b h =
    moves-listed cs front rest place c u s q m
    (none-started u front (ends-between nodes brackets phase at place text u t))
    (ended-listed cs front rest nodes brackets phase _ at place text u q t b h)
moves-listed cs front rest place c _ _ q (string_more nodes brackets phase at text k n m) b h
    = token-listed cs nodes brackets phase _ _ text _ [] [] h
moves-listed cs front rest place c _ _ q (string_ends nodes brackets phase at text s e t) b h
    = ended-listed cs front rest nodes brackets phase _ at (place + 1) text s q t b h
moves-listed cs front rest place c _ _ q (escape_begins nodes brackets phase at text k e) b h
    = token-listed cs nodes brackets phase _ _ text text [] [] h
moves-listed cs front rest place c _ _ q
    (escape_more nodes brackets phase at backslash text escape next k e) b h
    = token-listed cs nodes brackets phase _ _ text text [] [] h
moves-listed cs front rest place c _ _ q
    (escape_ends nodes brackets phase at backslash text escape character k e) b h
    = token-listed cs nodes brackets phase _ _ text _ [] [] h
moves-listed cs front rest place c _ _ q (space_in_bytes nodes brackets phase at bytes) b h = h
moves-listed cs front rest place c _ _ q (first_digit nodes brackets phase at x bytes e) b h
    = token-listed cs nodes brackets phase _ _ [] [] bytes bytes h
moves-listed cs front rest place c _ _ q (space_in_half nodes brackets phase at high bytes) b h = h
moves-listed cs front rest place c _ _ q (second_digit nodes brackets phase at high byte bytes) b h
    = token-listed cs nodes brackets phase _ _ [] [] bytes _ h
moves-listed cs front rest place c _ _ q (bytes_end nodes brackets phase at bytes a) b h =
    value-listed cs nodes (node at (place + 1) (tree.Bytes bytes)) brackets
    (awaiting-keys cs nodes phase brackets a h.keys) h.new_keys h.done tt

closes-listed : (cs : List ℕ) (place : ℕ) (r : Reader) (t : Tree) → Closes place r t → Listed cs r
    → Done cs t.nodes
closes-listed cs place _ _ (closes_between nodes brackets number) h = h.done
closes-listed cs place _ _ (closes_word nodes phase at text a) h
    = done-push cs nodes (node at place (tree.Text text)) h.done tt

start-listed : (cs : List ℕ) → Listed cs start
unfolding start
start-listed cs = record { keys = tt; new_keys = tt; done = All-nil (λ n. IsListed cs [] n.value) }

reached-listed : (cs front rest : List ℕ) (r : Reader) → cs ≡ front ++ rest → Reached front r
    → Listed cs r
reached-listed cs _ rest _ q at_start = start-listed cs
reached-listed cs _ rest _ q (onward front r s c i h e) =
    let p = q ∙ append_assoc front (c ∷ []) rest in
    moves-listed cs front (c ∷ rest) (width front) c r s p (reached-moves front r s c h e)
    (reached-started front r h) (reached-listed cs front (c ∷ rest) r p h)

-- where a key is awaited, the innermost dictionary's keys are those of its pairs
pub reached-keys : (front : List ℕ) (nodes : List TreeNode) (d : Dictionary) (outer : List Open)
    → Reached front (ready nodes (Pairs d ∷ outer) Key) → HasKeys nodes d.pairs d.keys
reached-keys front nodes d outer h = (reached-listed front front []
    (ready nodes (Pairs d ∷ outer) Key) (sym (append-nil front)) h).keys.0.0

-- ---- trees

tree-listed : (cs : List ℕ) (t : Tree) → AreScalars cs → run start 0 cs ≡ Ok t → Done cs t.nodes
tree-listed cs t i e = let b = reached-end cs t i e
    in closes-listed cs (width cs) b.0 t b.2 (reached-listed cs cs [] b.0 (sym (append-nil cs)) b.1)

is_dictionary : (cs : List ℕ) (nodes : List TreeNode) (v : TreeValue) → IsListed cs nodes v
    → IsDictionaryIn nodes v
is_dictionary cs nodes (tree.Text bytes) h = tt
is_dictionary cs nodes (tree.Bytes bytes) h = tt
is_dictionary cs nodes (tree.Items items) h = tt
is_dictionary cs nodes (tree.Pairs pairs) h = h.0

pub tree-dictionaries : (cs : List ℕ) (t : Tree) → AreScalars cs → run start 0 cs ≡ Ok t
    → All (λ n. IsDictionaryIn t.nodes n.value) t.nodes
tree-dictionaries cs t i e = All-weaker (λ n. IsListed cs t.nodes n.value)
    (λ n. IsDictionaryIn t.nodes n.value) (λ n h. is_dictionary cs t.nodes n.value h) t.nodes
    (tree-listed cs t i e)

-- where the key of a pair of a tree began
pub key-began : (cs : List ℕ) (t : Tree) (n place end : ℕ) (earlier : List (ℕ × ℕ))
    (number value : ℕ) (later : List (ℕ × ℕ)) → AreScalars cs → run start 0 cs ≡ Ok t
    → slice_get t.nodes n ≡ Some (node place end (tree.Pairs (earlier ++ (number, value) ∷ later)))
    → Began cs t.nodes earlier number
key-began cs t n place end earlier number value later i e f =
    let pairs = earlier ++ (number, value) ∷ later in
    let k : IsListed cs t.nodes (tree.Pairs pairs)
    = value-at t.nodes (λ x. IsListed cs t.nodes x.value) n (node place end (tree.Pairs pairs))
    (tree-listed cs t i e) f in
    each-at cs t.nodes [] earlier number value later k.1
