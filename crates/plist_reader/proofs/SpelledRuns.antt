-- What is read is spelled by the grammar: steps between tokens, and texts that end.
use Rattle.std.proofs.Common.{inl, inr, ◌≡◌, ℕ, suc, ◌+◌, true, eqb, ltb, List, [], ◌∷◌, ◌++◌}
use Rattle.std.proofs.Common.{length, refl, sym, ap, subst, ◌∙◌, arith, append_assoc, IfOk}
use Rattle.std.proofs.lemmas.Bool.{ltb-true, eqb-true, both_ways, or_cases}
use Rattle.std.proofs.lemmas.List.{append-nil}
use Rattle.std.proofs.lemmas.Str.{encode_ascii}
use Rattle.std.specs.Char.{len_utf8}
use lib.Utf8.{encode}
use Rattle.plist_reader.specs.declared.tree.Tree.{Tree}
use Rattle.plist_reader.specs.declared.tree.TreeNode.{TreeNode}
use Rattle.plist_reader.specs.declared.tree.TreeValue.TheVariants as tree
use Rattle.plist_reader.specs.declared.reader.Reader.{Reader}
use Rattle.plist_reader.specs.declared.reader.Dictionary.{Dictionary}
use Rattle.plist_reader.specs.declared.reader.Phase.{Phase}
use Rattle.plist_reader.specs.declared.reader.Phase.TheVariants.{Value, Item, ItemEnd, Key, KeyEnd}
use Rattle.plist_reader.specs.declared.reader.Phase.TheVariants.{PairEnd, End}
use Rattle.plist_reader.specs.declared.reader.Token.TheVariants.{Quoted, Bytes}
use Rattle.plist_reader.specs.declared.reader.Open.{Open}
use Rattle.plist_reader.specs.declared.reader.Open.TheVariants.{Items, Pairs}
use Rattle.plist_reader.specs.Characters.{is_space, is_word}
use Rattle.plist_reader.specs.Grammar as grammar
use Rattle.plist_reader.specs.Grammar.{node, width, AreSpaces, IsText, IsWord, IsTail, IsItem}
use Rattle.plist_reader.specs.Grammar.{IsEntry, AreNone, Spells, SpellItems, SpellEntries, IsQuoted}
use Rattle.plist_reader.specs.Grammar.{IsHex}
use Rattle.plist_reader.specs.Reading.{is_bracket, text_begun, bracket_opened, value_begun}
use Rattle.plist_reader.specs.Reading.{list_opened, dictionary_opened, list_closed}
use Rattle.plist_reader.specs.Reading.{dictionary_closed, value_ended, awaited, between}
use Rattle.plist_reader.proofs.GivenTokens.{ready, in_token, settled, settled_any, width-append}
use Rattle.plist_reader.proofs.GivenTokens.{word-ascii, CanBegin, IsAwaiting, begin-from_awaiting}
use Rattle.plist_reader.proofs.GivenTexts.{opened}
use Rattle.plist_reader.proofs.SpelledEscapes.{holds-known}
use Rattle.plist_reader.proofs.SpelledRests.{Onward, carry, ListEnds, DictionaryEnds, ItemTail}
use Rattle.plist_reader.proofs.SpelledRests.{InItems, InEntries, EntryTail, After, AtValue, AtSign}
use Rattle.plist_reader.proofs.SpelledSteps.{RestIn, AfterText, InWord, InQuoted, InBytes, Rest}
use Rattle.plist_reader.proofs.SpelledSteps.{Agrees, Back, if_ok-known, settled-good, settled-rest}
use Rattle.plist_reader.proofs.SpelledSteps.{awaiting-from_value, bytes-value, list-value}
use Rattle.plist_reader.proofs.SpelledSteps.{dictionary-value, begun-text, rest_same}

-- ---- places that are the same

pub after_text_same : (phase : Phase) (brackets : List Open) (t : Tree) (nodes : List TreeNode)
    (at : ℕ) (xs ys : List ℕ) (p q : ℕ) (rest : List ℕ) → xs ≡ ys → p ≡ q
    → AfterText phase brackets t nodes at xs p rest → AfterText phase brackets t nodes at ys q rest
after_text_same phase brackets t nodes at xs ys p q rest e f h =
    let A : List ℕ → Type 0 = λ x. AfterText phase brackets t nodes at x p rest in
    let B : ℕ → Type 0 = λ x. AfterText phase brackets t nodes at ys x rest in
    subst B f (subst A e h)

-- ---- spaces

space-value : (K : Onward) (depth : ℕ) (nodes : List TreeNode) (place c : ℕ) (cs : List ℕ)
    → is_space c ≡ true → AtValue K depth nodes (place + len_utf8 c) cs
    → AtValue K depth nodes place (c ∷ cs)
space-value K depth nodes place c cs e h =
    let P : ℕ → Type 0 = λ x. Spells h.value depth x h.text in
    let moved : place + len_utf8 c + width h.gap ≡ place + (len_utf8 c + width h.gap) = omega arith
    in
    record {
      value = h.value;
      gap = c ∷ h.gap;
      text = h.text;
      rest = h.rest;
      parts = ap (λ x. c ∷ x) h.parts;
      spaces = (e, h.spaces);
      spelled = subst P moved h.spelled;
      onward = carry K _ _ _ _ (place + len_utf8 c + width h.gap + width h.text)
          (place + (len_utf8 c + width h.gap) + width h.text) h.rest refl refl (omega arith)
          h.onward;
    }

space-sign : (K : Onward) (depth : ℕ) (nodes : List TreeNode) (place c : ℕ) (cs : List ℕ)
    → is_space c ≡ true → AtSign K depth nodes (place + len_utf8 c) cs
    → AtSign K depth nodes place (c ∷ cs)
space-sign K depth nodes place c cs e h =
    let P : ℕ → Type 0 = λ x. AtValue K depth nodes x h.rest in
    let moved : place + len_utf8 c + width h.gap + 1
    ≡ place + (len_utf8 c + width h.gap) + 1 = omega arith in
    record {
      gap = c ∷ h.gap;
      rest = h.rest;
      parts = ap (λ x. c ∷ x) h.parts;
      spaces
          = (e, h.spaces);
      onward = subst P moved h.onward;
    }

space-tail : (K : Onward) (depth at : ℕ) (done : List ℕ) (nodes : List TreeNode) (place c : ℕ)
    (cs : List ℕ) → is_space c ≡ true
    → ItemTail K depth at done nodes (place + len_utf8 c) cs
    → ItemTail K depth at done nodes place (c ∷ cs)
space-tail K depth at done nodes place c cs e h =
    let P : ℕ → Type 0 = λ x. IsTail (AreNone h.values) (λ p y. SpellItems h.values depth p y) x
    h.tail in
    let Q : ℕ → Type 0 = λ x. ListEnds K at done nodes h.values x h.rest in
    let moved : place + len_utf8 c + width h.after
    ≡ place + (len_utf8 c + width h.after) = omega arith in
    let moved_end : place + len_utf8 c + width h.after + width h.tail
    ≡ place + (len_utf8 c + width h.after) + width h.tail = omega arith in
    record {
      values = h.values;
      after = c ∷ h.after;
      tail = h.tail;
      rest = h.rest;
      parts
          = ap (λ x. c ∷ x) h.parts;
      spaces = (e, h.spaces);
      followed
          = subst P moved h.followed;
      onward = subst Q moved_end h.onward;
    }

spelled_space-items : (values : grammar.Values) (depth place c : ℕ) (inner : List ℕ)
    → is_space c ≡ true → SpellItems values depth (place + len_utf8 c) inner
    → SpellItems values depth place (c ∷ inner)
spelled_space-items grammar.NoValues depth place c inner e s = (e, s)
spelled_space-items (grammar.AndValue v vs) depth place c inner e s =
    let P : ℕ → Type 0 = λ x. Spells v depth x s.text in
    let Q : ℕ → Type 0 = λ x. IsTail (AreNone vs) (λ p y. SpellItems vs depth p y) x s.tail in
    let moved : place + len_utf8 c + width s.gap ≡ place + (len_utf8 c + width s.gap) = omega arith
    in
    let moved_end : place + len_utf8 c + width s.gap + width s.text + width s.after
    ≡ place + (len_utf8 c + width s.gap) + width s.text + width s.after = omega arith in
    record {
      gap = c ∷ s.gap;
      text = s.text;
      after = s.after;
      tail = s.tail;
      parts
          = ap (λ x. c ∷ x) s.parts;
      gap_spaces = (e, s.gap_spaces);
      spelled
          = subst P moved s.spelled;
      after_spaces = s.after_spaces;
      followed
          = subst Q moved_end s.followed;
    }

space-items : (K : Onward) (depth at : ℕ) (done : List ℕ) (nodes : List TreeNode) (place c : ℕ)
    (cs : List ℕ) → is_space c ≡ true
    → InItems K depth at done nodes (place + len_utf8 c) cs
    → InItems K depth at done nodes place (c ∷ cs)
space-items K depth at done nodes place c cs e h =
    let Q : ℕ → Type 0 = λ x. ListEnds K at done nodes h.values x h.rest in
    let moved : place + len_utf8 c + width h.inner
    ≡ place + (len_utf8 c + width h.inner) = omega arith in
    record {
      values = h.values;
      inner = c ∷ h.inner;
      rest = h.rest;
      parts
          = ap (λ x. c ∷ x) h.parts;
      spelled = spelled_space-items h.values depth place c h.inner e
          h.spelled;
      onward = subst Q moved h.onward;
    }

spelled_space-entries : (entries : grammar.Entries) (depth : ℕ) (keys : List (List ℕ)) (place c : ℕ)
    (inner : List ℕ) → is_space c ≡ true
    → SpellEntries entries depth keys (place + len_utf8 c) inner
    → SpellEntries entries depth keys place (c ∷ inner)
spelled_space-entries grammar.NoEntries depth keys place c inner e s = (e, s)
spelled_space-entries (grammar.AndEntry at end key v es) depth keys place c inner e s =
    let i = s.1 in (
      s.0,
      record {
        gap = c ∷ i.gap;
        key_text = i.key_text;
        before_sign = i.before_sign;
        behind_sign = i.behind_sign;
        text = i.text;
        after = i.after;
        rest = i.rest;
        parts = ap (λ x. c ∷ x) i.parts;
        gap_spaces = (e, i.gap_spaces);
        key_place_is = i.key_place_is ∙ omega arith;
        key_end_is = i.key_end_is;
        key_spelled = i.key_spelled;
        before_spaces = i.before_spaces;
        behind_spaces = i.behind_spaces;
        spelled = i.spelled;
        after_spaces = i.after_spaces;
        followed = i.followed;
      },
    )

space-entries : (K : Onward) (depth : ℕ) (d : Dictionary) (nodes : List TreeNode) (place c : ℕ)
    (cs : List ℕ) → is_space c ≡ true
    → InEntries K depth d nodes (place + len_utf8 c) cs → InEntries K depth d nodes place (c ∷ cs)
space-entries K depth d nodes place c cs e h =
    let Q : ℕ → Type 0 = λ x. DictionaryEnds K d nodes h.entries x h.rest in
    let moved : place + len_utf8 c + width h.inner
    ≡ place + (len_utf8 c + width h.inner) = omega arith in
    record {
      entries = h.entries;
      inner = c
          ∷ h.inner;
      rest = h.rest;
      parts = ap (λ x. c ∷ x) h.parts;
      spelled
          = spelled_space-entries h.entries depth d.keys place c h.inner e h.spelled;
      onward
          = subst Q moved h.onward;
    }

space-entry_tail : (K : Onward) (depth : ℕ) (d : Dictionary) (nodes : List TreeNode) (place c : ℕ)
    (cs : List ℕ) → is_space c ≡ true
    → EntryTail K depth d nodes (place + len_utf8 c) cs → EntryTail K depth d nodes place (c ∷ cs)
space-entry_tail K depth d nodes place c cs e h =
    let Q : ℕ → Type 0 = λ x. InEntries K depth d nodes x h.rest in
    let moved : place + len_utf8 c + width h.after + 1
    ≡ place + (len_utf8 c + width h.after) + 1 = omega arith in
    record {
      after = c ∷ h.after;
      rest = h.rest;
      parts = ap (λ x. c ∷ x) h.parts;
      spaces
          = (e, h.spaces);
      onward = subst Q moved h.onward;
    }

back-space : (phase : Phase) (brackets : List Open) → Agrees phase brackets
    → (t : Tree) (nodes : List TreeNode) (place c : ℕ) (cs : List ℕ) → is_space c ≡ true
    → RestIn phase brackets t nodes (place + len_utf8 c) cs
    → RestIn phase brackets t nodes place (c ∷ cs)
back-space Value brackets g t nodes place c cs e h
    = space-value (After brackets t) (length brackets) nodes place c cs e h
back-space Item [] g t nodes place c cs e h = elim g [ ]
back-space Item (Pairs d ∷ outer) g t nodes place c cs e h = elim g [ ]
back-space Item (Items at done ∷ outer) g t nodes place c cs e h
    = space-items (After outer t) (suc (length outer)) at done nodes place c cs e h
back-space ItemEnd [] g t nodes place c cs e h = elim g [ ]
back-space ItemEnd (Pairs d ∷ outer) g t nodes place c cs e h = elim g [ ]
back-space ItemEnd (Items at done ∷ outer) g t nodes place c cs e h
    = space-tail (After outer t) (suc (length outer)) at done nodes place c cs e h
back-space Key [] g t nodes place c cs e h = elim g [ ]
back-space Key (Items at done ∷ outer) g t nodes place c cs e h = elim g [ ]
back-space Key (Pairs d ∷ outer) g t nodes place c cs e h
    = space-entries (After outer t) (suc (length outer)) d nodes place c cs e h
back-space KeyEnd [] g t nodes place c cs e h = elim g [ ]
back-space KeyEnd (Items at done ∷ outer) g t nodes place c cs e h = elim g [ ]
back-space KeyEnd (Pairs d ∷ outer) g t nodes place c cs e h
    = space-sign (After (Pairs d ∷ outer) t) (suc (length outer)) nodes place c cs e h
back-space PairEnd [] g t nodes place c cs e h = elim g [ ]
back-space PairEnd (Items at done ∷ outer) g t nodes place c cs e h = elim g [ ]
back-space PairEnd (Pairs d ∷ outer) g t nodes place c cs e h
    = space-entry_tail (After outer t) (suc (length outer)) d nodes place c cs e h
back-space (End n) brackets g t nodes place c cs e h = ((e, h.0), h.1)

-- ---- marks

-- a character that is known
pub at_char : (r s : Reader) (place c k : ℕ) → eqb c k ≡ true
    → ((t : Tree) (cs : List ℕ) → Rest s t (place + len_utf8 k) cs → Rest r t place (k ∷ cs))
    → (t : Tree) (cs : List ℕ)
    → Rest s t (place + len_utf8 c) cs → Rest r t place (c ∷ cs)
at_char r s place c k e h =
    let P : ℕ → Type 0 = λ x. (t : Tree) (cs : List ℕ) → Rest s t (place + len_utf8 x) cs
    → Rest r t place (x ∷ cs) in
    subst P (sym (eqb-true c k e)) h

close-list : (K : Onward) (depth at : ℕ) (done : List ℕ) (nodes : List TreeNode) (place : ℕ)
    (cs : List ℕ)
    → K (nodes ++ node at (place + 1) (tree.Items done) ∷ []) (length nodes) (place + 1) cs
    → ListEnds K at done nodes grammar.NoValues place cs
close-list K depth at done nodes place cs h = carry K _ _ _ _ (place + 1) (place + 1) cs
    (ap (λ x. x ++ node at (place + 1) (tree.Items done) ∷ []) (sym (append-nil nodes))
    ∙ ap (λ x. (nodes ++ []) ++ node at (place + 1) (tree.Items x) ∷ [])
    (sym (append-nil done)))
    (ap length (sym (append-nil nodes))) refl h

close-dictionary : (K : Onward) (d : Dictionary) (nodes : List TreeNode) (place : ℕ) (cs : List ℕ)
    → K (nodes ++ node d.place (place + 1) (tree.Pairs d.pairs) ∷ []) (length nodes) (place + 1) cs
    → DictionaryEnds K d nodes grammar.NoEntries place cs
close-dictionary K d nodes place cs h = carry K _ _ _ _ (place + 1) (place + 1) cs
    (ap (λ x. x ++ node d.place (place + 1) (tree.Pairs d.pairs) ∷ []) (sym (append-nil nodes))
    ∙ ap (λ x. (nodes ++ []) ++ node d.place (place + 1) (tree.Pairs x) ∷ [])
    (sym (append-nil d.pairs)))
    (ap length (sym (append-nil nodes))) refl h

back-empty_list_closed : (nodes : List TreeNode) (brackets : List Open) (place c : ℕ)
    → Agrees Item brackets → eqb c 41 ≡ true
    → IfOk (list_closed (ready nodes brackets Item) place)
    (Back (ready nodes brackets Item) place c)
unfolding list_closed value_ended
back-empty_list_closed nodes [] place c g e = tt
back-empty_list_closed nodes (Pairs d ∷ outer) place c g e = tt
back-empty_list_closed nodes (Items at done ∷ outer) place c g e =
    let r = ready nodes (Items at done ∷ outer) Item in
    let made = nodes ++ node at (place + 1) (tree.Items done) ∷ [] in
    let B : Reader → Type 0 = λ s. Back r place c s in
    let Q : ℕ → Tree → List ℕ → Type 0 = λ x t cs. ListEnds (After outer t) at done nodes
    grammar.NoValues x cs in
    let none : place ≡ place + 0 = omega arith in
    subst B (sym (settled_any made outer outer Item (length nodes))) (
      settled-good made outer (length nodes),
      at_char r (settled made outer (length nodes)) place c 41 e (λ t cs h. record {
        values = grammar.NoValues;
        inner = [];
        rest = cs;
        parts = refl;
        spelled = tt;
        onward = subst (λ (x : ℕ). Q x t cs) none
            (close-list (After outer t) (suc (length outer)) at done nodes place cs
            (settled-rest made outer (length nodes) t (place + 1) cs h));
      }),
    )

back-list_closed : (nodes : List TreeNode) (brackets : List Open) (place c : ℕ)
    → Agrees ItemEnd brackets → eqb c 41 ≡ true
    → IfOk (list_closed (ready nodes brackets ItemEnd) place)
    (Back (ready nodes brackets ItemEnd) place c)
unfolding list_closed value_ended
back-list_closed nodes [] place c g e = tt
back-list_closed nodes (Pairs d ∷ outer) place c g e = tt
back-list_closed nodes (Items at done ∷ outer) place c g e =
    let r = ready nodes (Items at done ∷ outer) ItemEnd in
    let made = nodes ++ node at (place + 1) (tree.Items done) ∷ [] in
    let B : Reader → Type 0 = λ s. Back r place c s in
    let Q : ℕ → Tree → List ℕ → Type 0 = λ x t cs. ListEnds (After outer t) at done nodes
    grammar.NoValues x cs in
    let none : place ≡ place + 0 + 0 = omega arith in
    subst B (sym (settled_any made outer outer ItemEnd (length nodes))) (
      settled-good made outer (length nodes),
      at_char r (settled made outer (length nodes)) place c 41 e (λ t cs h. record {
        values = grammar.NoValues;
        after = [];
        tail = [];
        rest = cs;
        parts = refl;
        spaces = tt;
        followed = inl (tt, refl);
        onward = subst (λ (x : ℕ). Q x t cs) none
            (close-list (After outer t) (suc (length outer)) at done nodes place cs
            (settled-rest made outer (length nodes) t (place + 1) cs h));
      }),
    )

back-dictionary_closed : (nodes : List TreeNode) (brackets : List Open) (place c : ℕ)
    → Agrees Key brackets → eqb c 125 ≡ true
    → IfOk (dictionary_closed (ready nodes brackets Key) place)
    (Back (ready nodes brackets Key) place c)
unfolding dictionary_closed value_ended
back-dictionary_closed nodes [] place c g e = tt
back-dictionary_closed nodes (Items at done ∷ outer) place c g e = tt
back-dictionary_closed nodes (Pairs d ∷ outer) place c g e =
    let r = ready nodes (Pairs d ∷ outer) Key in
    let made = nodes ++ node d.place (place + 1) (tree.Pairs d.pairs) ∷ [] in
    let B : Reader → Type 0 = λ s. Back r place c s in
    let Q : ℕ → Tree → List ℕ → Type 0 = λ x t cs. DictionaryEnds (After outer t) d nodes
    grammar.NoEntries x cs in
    let none : place ≡ place + 0 = omega arith in
    subst B (sym (settled_any made outer outer Key (length nodes))) (
      settled-good made outer (length nodes),
      at_char r (settled made outer (length nodes)) place c 125 e (λ t cs h. record {
        entries = grammar.NoEntries;
        inner = [];
        rest = cs;
        parts = refl;
        spelled = tt;
        onward = subst (λ (x : ℕ). Q x t cs) none
            (close-dictionary (After outer t) d nodes place cs
            (settled-rest made outer (length nodes) t (place + 1) cs h));
      }),
    )

back-comma : (nodes : List TreeNode) (brackets : List Open) (place c : ℕ) → Agrees ItemEnd brackets
    → eqb c 44 ≡ true → Back (ready nodes brackets ItemEnd) place c (ready nodes brackets Item)
back-comma nodes [] place c g e = elim g [ ]
back-comma nodes (Pairs d ∷ outer) place c g e = elim g [ ]
back-comma nodes (Items at done ∷ outer) place c g e = (
  (tt, refl, refl),
  at_char (ready nodes (Items at done ∷ outer) ItemEnd)
      (ready nodes (Items at done ∷ outer) Item) place c 44 e (λ t cs h. comma t cs h),
)
  where
    comma : (t : Tree) (cs : List ℕ) → InItems (After outer t) (suc (length outer)) at done nodes
        (place + 1) cs → ItemTail (After outer t) (suc (length outer)) at done nodes place (44 ∷ cs)
    comma t cs h =
        let P : ℕ → Type 0 = λ x. SpellItems h.values (suc (length outer)) x h.inner in
        let Q : ℕ → Type 0 = λ x. ListEnds (After outer t) at done nodes h.values x h.rest in
        let one : place + 1 ≡ place + 0 + 1 = omega arith in
        let moved : place + 1 + width h.inner ≡ place + 0 + (1 + width h.inner) = omega arith in
        record {
          values = h.values;
          after = [];
          tail = 44
              ∷ h.inner;
          rest = h.rest;
          parts = ap (λ x. 44 ∷ x) h.parts;
          spaces = tt;
          followed
              = inr (h.inner, refl, subst P one h.spelled);
          onward = subst Q moved h.onward;
        }

back-equals : (nodes : List TreeNode) (brackets : List Open) (place c : ℕ) → Agrees KeyEnd brackets
    → eqb c 61 ≡ true → Back (ready nodes brackets KeyEnd) place c (ready nodes brackets Value)
back-equals nodes [] place c g e = elim g [ ]
back-equals nodes (Items at done ∷ outer) place c g e = elim g [ ]
back-equals nodes (Pairs d ∷ outer) place c g e = (
  (tt, refl, refl),
  at_char (ready nodes (Pairs d ∷ outer) KeyEnd) (ready nodes (Pairs d ∷ outer) Value) place c 61 e
      (λ t cs h.
      (let P : ℕ → Type 0 = λ x. AtValue (After (Pairs d ∷ outer) t) (suc (length outer)) nodes x cs
      in
      let one : place + 1 ≡ place + 0 + 1 = omega arith in
      record { gap = []; rest = cs; parts = refl; spaces = tt; onward = subst P one h })),
)

back-semicolon : (nodes : List TreeNode) (brackets : List Open) (place c : ℕ)
    → Agrees PairEnd brackets → eqb c 59 ≡ true
    → Back (ready nodes brackets PairEnd) place c (ready nodes brackets Key)
back-semicolon nodes [] place c g e = elim g [ ]
back-semicolon nodes (Items at done ∷ outer) place c g e = elim g [ ]
back-semicolon nodes (Pairs d ∷ outer) place c g e = (
  (tt, refl, refl),
  at_char (ready nodes (Pairs d ∷ outer) PairEnd) (ready nodes (Pairs d ∷ outer) Key) place c 59 e
      (λ t cs h.
      (let P : ℕ → Type 0 = λ x. InEntries (After outer t) (suc (length outer)) d nodes x cs in
      let one : place + 1 ≡ place + 0 + 1 = omega arith in
      record { after = []; rest = cs; parts = refl; spaces = tt; onward = subst P one h })),
)

-- ---- values and texts that begin

back-text_begun : (nodes : List TreeNode) (brackets : List Open) (phase : Phase) (place c : ℕ)
    → CanBegin phase → Agrees phase brackets
    → IfOk (text_begun (ready nodes brackets phase) place c)
    (Back (ready nodes brackets phase) place c)
unfolding text_begun
back-text_begun nodes brackets phase place c b g =
    let r = ready nodes brackets phase in
    if_ok-known (Back r place c) (eqb c 34) _ _
    (λ e. (
      (g, b, refl),
      at_char r (in_token nodes brackets phase (Quoted place) [] []) place c 34 e
          (λ t cs h. quoted_text t cs h),
    ))
    (λ _. if_ok-known (Back r place c) (is_word c) _ _
    (λ w. ((g, b, refl), λ t cs h. word_text w t cs h)) (λ _. tt))
  where
    quoted_text : (t : Tree) (cs : List ℕ) → InQuoted phase brackets nodes [] t place (place + 1) cs
        → RestIn phase brackets t nodes place (34 ∷ cs)
    quoted_text t cs h =
        let text = 34 ∷ (h.more ++ 34 ∷ []) in
        let w : width text ≡ 1 + (width h.more + 1) = omega (arith, width-append h.more (34 ∷ []))
        in
        rest_same phase brackets t nodes place (text ++ h.rest) (34 ∷ cs)
        (ap (λ x. 34 ∷ x) (append_assoc h.more (34 ∷ []) h.rest ∙ sym h.parts))
        (begun-text phase brackets b g t nodes place text h.bytes h.rest
        (inr (h.more, refl, h.quoted))
        (after_text_same phase brackets t nodes place h.bytes h.bytes (place + 1 + width h.more + 1)
        (place + width text) h.rest refl (omega (arith, w)) h.onward))

    word_text : is_word c ≡ true → (t : Tree) (cs : List ℕ)
        → InWord phase brackets nodes (encode c) t place (place + len_utf8 c) cs
        → RestIn phase brackets t nodes place (c ∷ cs)
    word_text w t cs h =
        let text = c ∷ h.more in
        let one : encode c ≡ c ∷ [] = encode_ascii c (word-ascii c w) in
        rest_same phase brackets t nodes place (text ++ h.rest) (c ∷ cs)
        (ap (λ x. c ∷ x) (sym h.parts))
        (begun-text phase brackets b g t nodes place text text h.rest
        (inl (record { some = omega arith; own = (w, h.own); same = refl }))
        (after_text_same phase brackets t nodes place (encode c ++ h.more) text
        (place + len_utf8 c + width h.more) (place + width text) h.rest
        (ap (λ x. x ++ h.more) one) (omega arith) h.onward))

back-value_begun : (nodes : List TreeNode) (brackets : List Open) (phase : Phase) (place c : ℕ)
    → IsAwaiting phase → Agrees phase brackets
    → IfOk (value_begun (ready nodes brackets phase) place c)
    (Back (ready nodes brackets phase) place c)
unfolding value_begun bracket_opened
back-value_begun nodes brackets phase place c a g =
    let r = ready nodes brackets phase in
    if_ok-known (Back r place c) (is_bracket c) _ _
    (λ e. if_ok-known (Back r place c) (ltb (length brackets) 64) _ _
    (λ l. holds-known (Back r place c) (eqb c 40) (list_opened r place) (dictionary_opened r place)
    (λ k. (
      (tt, refl, refl),
      at_char r (ready nodes (Items place [] ∷ brackets) Item) place c 40 k
          (λ t cs h. awaiting-from_value phase brackets a g t nodes place (40 ∷ cs)
          (list-value (After brackets t) (length brackets) (suc (length brackets)) nodes place cs
          (ltb-true (length brackets) 64 l) (omega arith) h)),
    ))
    (λ k. (
      (tt, refl, refl),
      at_char r (ready nodes (Pairs (opened place) ∷ brackets) Key) place c 123
          (elim (or_cases (eqb c 40) (eqb c 123) e)
          [ inl x ↦ absurd (both_ways (eqb c 40) k x) | inr x ↦ x ])
          (λ t cs h. awaiting-from_value phase brackets a g t nodes place (123 ∷ cs)
          (dictionary-value (After brackets t) (length brackets) (suc (length brackets)) nodes
          place cs (ltb-true (length brackets) 64 l) (omega arith) h)),
    )))
    (λ _. tt))
    (λ _. if_ok-known (Back r place c) (eqb c 60) _ _
    (λ e. (
      (g, a, refl),
      at_char r (in_token nodes brackets phase (Bytes place) [] []) place c 60 e
          (λ t cs h. bytes_text t cs h),
    ))
    (λ _. back-text_begun nodes brackets phase place c (begin-from_awaiting phase a) g))
  where
    bytes_text : (t : Tree) (cs : List ℕ) → InBytes brackets nodes [] t place (place + 1) cs
        → RestIn phase brackets t nodes place (60 ∷ cs)
    bytes_text t cs h =
        rest_same phase brackets t nodes place (60 ∷ (h.more ++ 62 ∷ h.rest)) (60 ∷ cs)
        (ap (λ x. 60 ∷ x) (sym h.parts))
        (awaiting-from_value phase brackets a g t nodes place (60 ∷ (h.more ++ 62 ∷ h.rest))
        (bytes-value (After brackets t) (length brackets) nodes place h.more h.made h.rest h.hex
        h.onward))

back-awaited : (nodes : List TreeNode) (brackets : List Open) (phase : Phase) (place c : ℕ)
    → Agrees phase brackets
    → IfOk (awaited (ready nodes brackets phase) place c phase)
    (Back (ready nodes brackets phase) place c)
back-awaited nodes brackets Value place c g = back-value_begun nodes brackets Value place c tt g
back-awaited nodes brackets Item place c g =
    if_ok-known (Back (ready nodes brackets Item) place c) (eqb c 41) _ _
    (λ e. back-empty_list_closed nodes brackets place c g e)
    (λ _. back-value_begun nodes brackets Item place c tt g)
back-awaited nodes brackets ItemEnd place c g
    = if_ok-known (Back (ready nodes brackets ItemEnd) place c) (eqb c 41) _ _
    (λ e. back-list_closed nodes brackets place c g e)
    (λ _. if_ok-known (Back (ready nodes brackets ItemEnd) place c) (eqb c 44) _ _
    (λ e. back-comma nodes brackets place c g e) (λ _. tt))
back-awaited nodes brackets Key place c g =
    if_ok-known (Back (ready nodes brackets Key) place c) (eqb c 125) _ _
    (λ e. back-dictionary_closed nodes brackets place c g e)
    (λ _. back-text_begun nodes brackets Key place c tt g)
back-awaited nodes brackets KeyEnd place c g
    = if_ok-known (Back (ready nodes brackets KeyEnd) place c) (eqb c 61) _ _
    (λ e. back-equals nodes brackets place c g e) (λ _. tt)
back-awaited nodes brackets PairEnd place c g
    = if_ok-known (Back (ready nodes brackets PairEnd) place c) (eqb c 59) _ _
    (λ e. back-semicolon nodes brackets place c g e) (λ _. tt)
back-awaited nodes brackets (End n) place c g = tt

pub back-between : (nodes : List TreeNode) (brackets : List Open) (phase : Phase) (place c : ℕ)
    → Agrees phase brackets
    → IfOk (between (ready nodes brackets phase) place c)
    (Back (ready nodes brackets phase) place c)
unfolding between
back-between nodes brackets phase place c g
    = if_ok-known (Back (ready nodes brackets phase) place c) (is_space c) _ _
    (λ e. ((g, refl, refl), λ t cs h. back-space phase brackets g t nodes place c cs e h))
    (λ _. back-awaited nodes brackets phase place c g)
