-- What names add, one after another.
use Rattle.std.proofs.Common.{◌≡◌, ℕ, ◌+◌, ◌*◌, ◌<◌, ◌≤◌, List, [], ◌∷◌, ◌++◌, length, get_or, map}
use Rattle.std.proofs.Common.{drop, refl, sym, subst, ap, ◌∙◌, append_assoc, append-nil, arith}
use Rattle.std.proofs.Common.{length-append}
use Rattle.std.proofs.lemmas.List.{drop_more, at_drop_all}
use Rattle.std.proofs.lemmas.List.Concat.{flat_map-append}
use Rattle.name_tables.specs.declared.store.NameStore.{NameStore}
use Rattle.name_tables.specs.Names.{name_records, record_fields, string_data, text_bytes}
use Rattle.name_tables.specs.Stores.{Adds, Holds}
use Rattle.name_tables.specs.Texts.{NamedText, named, numbered, utf16_bytes}

-- one text
pub adds_one : (before after : NameStore) (id len offset : ℕ) (text : List ℕ)
    → offset ≡ length before.texts.items → len ≡ length (utf16_bytes text)
    → after.texts.items ≡ before.texts.items ++ utf16_bytes text
    → after.records.items ≡ before.records.items ++ record_fields id len offset
    → length text ≤ 300 → length (utf16_bytes text) ≤ 2 * length text
    → Adds before after (named id text ∷ [])
adds_one before after id len offset text at long texts records small units = record {
  records = records ∙ ap (λ n. before.records.items ++ record_fields id n offset) long
      ∙ ap (λ n. before.records.items ++ record_fields id (length (utf16_bytes text)) n) at
      ∙ ap (λ (l : List ℕ). before.records.items ++ l) (sym (append-nil _));
  texts = texts ∙ ap (λ (l : List ℕ). before.texts.items ++ l) (sym (append-nil _));
  room = omega (arith, ap length texts, length-append before.texts.items (utf16_bytes text));
}

-- no text
pub adds_none : (store : NameStore) → Adds store store []
adds_none store = record {
  records = sym (append-nil _);
  texts = sym (append-nil _);
  room = omega arith;
}

name_records-append : (offset : ℕ) (xs ys : List NamedText) → name_records offset (xs ++ ys)
    ≡ name_records offset xs ++ name_records (offset + length (string_data xs)) ys
name_records-append offset [] ys = ap (λ n. name_records n ys) (omega arith)
name_records-append offset (x ∷ xs) ys =
    let next : ℕ = offset + length (text_bytes x) in
    let here = record_fields x.id (length (text_bytes x)) offset in
    let far : next + length (string_data xs) ≡ offset + length (string_data (x ∷ xs))
    = omega (arith, length-append (text_bytes x) (string_data xs)) in
    ap (λ (l : List ℕ). here ++ l) (name_records-append next xs ys)
    ∙ sym (append_assoc here (name_records next xs)
    (name_records (next + length (string_data xs)) ys))
    ∙ ap (λ n. (here ++ name_records next xs) ++ name_records n ys) far

-- some texts, and then others
pub adds_both : (a b c : NameStore) (xs ys : List NamedText) → Adds a b xs → Adds b c ys
    → Adds a c (xs ++ ys)
adds_both a b c xs ys first second =
    let length_there : length b.texts.items ≡ length a.texts.items + length (string_data xs)
    = ap length first.texts ∙ length-append a.texts.items (string_data xs) in
    record {
      records = second.records
          ∙ ap (λ (l : List ℕ). l ++ name_records (length b.texts.items) ys) first.records
          ∙ append_assoc a.records.items (name_records (length a.texts.items) xs) _
          ∙ ap (λ n. a.records.items ++ (name_records (length a.texts.items) xs
          ++ name_records n ys))
          length_there
          ∙ ap (λ (l : List ℕ). a.records.items ++ l)
          (sym (name_records-append (length a.texts.items) xs ys));
      texts = second.texts ∙ ap (λ (l : List ℕ). l ++ string_data ys) first.texts
          ∙ append_assoc a.texts.items (string_data xs) (string_data ys)
          ∙ ap (λ (l : List ℕ). a.texts.items ++ l) (sym (flat_map-append text_bytes xs ys));
      room = omega (arith, first.room, second.room, length-append xs ys);
    }

-- three texts
pub adds_three : (a b c d : NameStore) (i j k : ℕ) (s t u x y z : List ℕ) → s ≡ x → t ≡ y → u ≡ z
    → Adds a b (named i s ∷ []) → Adds b c (named j t ∷ []) → Adds c d (named k u ∷ [])
    → Adds a d (named i x ∷ named j y ∷ named k z ∷ [])
adds_three a b c d i j k s t u x y z first second third f g h =
    let all = adds_both a c d (named i s ∷ named j t ∷ []) (named k u ∷ [])
    (adds_both a b c (named i s ∷ []) (named j t ∷ []) f g) h in
    rw (first, second, third) at all

-- texts added to an empty store are all that it has
pub holds_all : (a b : NameStore) (names : List NamedText) → a.records.items ≡ []
    → a.texts.items ≡ [] → Adds a b names → Holds b names
holds_all a b names no_records no_texts added = record {
  records = added.records
      ∙ ap (λ (l : List ℕ). l ++ name_records (length a.texts.items) names) no_records
      ∙ ap (λ n. name_records n names) (ap length no_texts);
  texts = added.texts ∙ ap (λ (l : List ℕ). l ++ string_data names) no_texts;
}

-- the names of a list's first items are added, the number of the first one being id
pub record Goes {X : Type 0} (f : X → List ℕ) (id : ℕ) (xs : List X) (i : ℕ)
    (before now : NameStore) : Type 0 where
  pub done : List NamedText
  pub adds : Adds before now done
  pub count : length done ≡ i
  pub rest : done ++ numbered (id + i) (map f (drop i xs)) ≡ numbered id (map f xs)

pub goes_start : {X : Type 0} (f : X → List ℕ) (id : ℕ) (xs : List X) (store : NameStore)
    → Goes f id xs 0 store store
goes_start f id xs store = record {
  done = [];
  adds = adds_none store;
  count = refl;
  rest = ap (λ n. numbered n (map f xs)) (omega arith);
}

pub goes_on : {X : Type 0} (f : X → List ℕ) (id : ℕ) (xs : List X) (i : ℕ) (x : X)
    (before now next : NameStore) → i < length xs → x ≡ get_or xs i x → Goes f id xs i before now
    → Adds now next (named (id + i) (f x) ∷ []) → Goes f id xs (i + 1) before next
goes_on {X} f id xs i x before now next within is so one =
    let here : NamedText = named (id + i) (f x) in
    let others : List X = drop (i + 1) xs in
    let split : drop i xs ≡ x ∷ others
    = drop_more xs i x within ∙ ap (λ (y : X). y ∷ others) (sym is) in
    let number : id + (i + 1) ≡ (id + i) + 1 = omega arith in
    record {
      done = so.done ++ here ∷ [];
      adds = adds_both before now next so.done (here ∷ []) so.adds one;
      count = omega (arith, so.count, length-append so.done (here ∷ []));
      rest = ap (λ n. (so.done ++ here ∷ []) ++ numbered n (map f others)) number
          ∙ append_assoc so.done (here ∷ []) (numbered ((id + i) + 1) (map f others))
          ∙ ap (λ (l : List X). so.done ++ numbered (id + i) (map f l)) (sym split) ∙ so.rest;
    }

pub goes_end : {X : Type 0} (f : X → List ℕ) (id : ℕ) (xs : List X) (i : ℕ) (all : List NamedText)
    (before now : NameStore) → length xs ≤ i → all ≡ numbered id (map f xs)
    → Goes f id xs i before now → Adds before now all
goes_end {X} f id xs i all before now past is so =
    let last : so.done ++ numbered (id + i) (map f (drop i xs)) ≡ so.done ++ []
    = at_drop_all (λ (l : List X). so.done ++ numbered (id + i) (map f l)) xs i past in
    let whole : so.done ≡ all = sym (append-nil so.done) ∙ sym last ∙ so.rest ∙ sym is in
    subst (λ names. Adds before now names) whole so.adds
