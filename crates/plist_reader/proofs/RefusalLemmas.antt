-- Why reading stops where it does: each refusal is the one that the texts with trees explain.
use Rattle.std.proofs.Common.{inl, inr, ◌≡◌, ℕ, ◌<◌, Bool, true, false, cond, eqb, List, [], ◌∷◌}
use Rattle.std.proofs.Common.{◌++◌, length, Result, Ok, Err, refl, sym, ap, subst, ◌∙◌, arith}
use Rattle.std.specs.Prelude.{IfErr}
use Rattle.std.proofs.lemmas.Bool.{eqb-true, eq-eqb, false≢true, or_cases, both_ways}
use Rattle.std.specs.Str.{IsUtf8, chars}
use Rattle.refusal_codes.specs.declared.refusal.Refusal.{Refusal}
use Rattle.refusal_codes.specs.declared.rule.Rule.TheVariants.{UnexpectedByte, UnexpectedEnd}
use Rattle.refusal_codes.specs.declared.rule.Rule.TheVariants.{BadEscape, DuplicateKey, TooDeep}
use Rattle.refusal_codes.specs.declared.rule.Rule.TheVariants.{TrailingText}
use Rattle.plist_reader.specs.declared.tree.Tree.{Tree}
use Rattle.plist_reader.specs.declared.tree.TreeNode.{TreeNode}
use Rattle.plist_reader.specs.declared.tree.TreeValue.TheVariants as tree
use Rattle.plist_reader.specs.declared.reader.Reader.{Reader}
use Rattle.plist_reader.specs.declared.reader.Phase.{Phase}
use Rattle.plist_reader.specs.declared.reader.Phase.TheVariants.{Value, Item, ItemEnd, Key, KeyEnd}
use Rattle.plist_reader.specs.declared.reader.Phase.TheVariants.{PairEnd, End}
use Rattle.plist_reader.specs.declared.reader.Token.{Token}
use Rattle.plist_reader.specs.declared.reader.Token.TheVariants.{Between, Word, Quoted, Escape}
use Rattle.plist_reader.specs.declared.reader.Token.TheVariants.{Bytes, Half}
use Rattle.plist_reader.specs.declared.reader.Dictionary.{Dictionary}
use Rattle.plist_reader.specs.Keys.{is_among}
use Rattle.plist_reader.specs.declared.reader.Open.{Open}
use Rattle.plist_reader.specs.declared.reader.Open.TheVariants.{Items, Pairs}
use Rattle.plist_reader.specs.declared.escape.Escape.{Escape as EscapeState}
use Rattle.plist_reader.specs.Grammar.{node, width}
use Rattle.plist_reader.specs.Refusals.{EndsText, HasText, IsWhole, IsDeep, IsBracket, IsTooDeep}
use Rattle.plist_reader.specs.Refusals.{IsInEscape, IsExplained, bad_escape, twice, too_deep}
use Rattle.plist_reader.specs.Refusals.{trailing, unexpected, IsReason, StopsIn, IsErrorOf, refusal}
use Rattle.refusal_codes.specs.declared.errors.ReadError.{ReadError}
use Rattle.refusal_codes.specs.declared.errors.ReadError.TheVariants as read_errors
use Rattle.refusal_codes.specs.Gives.{Gives}
use Rattle.refusal_codes.specs.Gives.{◌>>=◌}
use Rattle.plist_reader.specs.Reading.{start, is_bracket, is_end, text_ended, step, whole_in, whole}
use Rattle.plist_reader.specs.Reading.{finish_in, finish, run, read_of}
use Rattle.plist_reader.proofs.RunLemmas.{read_of-text}
use Rattle.plist_reader.proofs.Scalars.{AreScalars, source-scalars}
use Rattle.plist_reader.proofs.GivenTokens.{width-append, ready, in_token, IsAwaiting}
use Rattle.plist_reader.proofs.GivenEscapes.{Reads}
use Rattle.plist_reader.proofs.GivenStrings.{finish-word}
use Rattle.plist_reader.proofs.SpelledSteps.{Agrees, GoodIn, Good}
use Rattle.plist_reader.proofs.Moves.{TextEnds, as_value, as_key, Closes, closes_between}
use Rattle.plist_reader.proofs.Moves.{closes_word, closes}
use Rattle.plist_reader.proofs.CanGoOnEscapes.{finishes, finished-escape}
use Rattle.plist_reader.proofs.CanGoOn.{finish_whole, KeyWay, way-any_word, way-any_string}
use Rattle.plist_reader.proofs.TwiceRefused.{not_twice}
use Rattle.plist_reader.proofs.Twices.{twice-goes_on}
use Rattle.plist_reader.proofs.Fronts.{WordIn, StringIn, EscapeIn}
use Rattle.plist_reader.proofs.Reached.{Reached, at_ok, reached-good, reached-token}
use Rattle.plist_reader.proofs.Reached.{reached-goes_on, whole-finishes, finishes-whole}
use Rattle.plist_reader.proofs.Reached.{refused-stops, err_not_ok, StopOf, stopped}
use Rattle.plist_reader.proofs.Depths.{reached-placed, reached-deep}
use Rattle.plist_reader.proofs.Texts.{open-text}
use Rattle.plist_reader.proofs.InEscapes.{not_in_escape}
use Rattle.plist_reader.proofs.Fails.{IsOver, StopsAt, over, behind, other, Fails, between_fails}
use Rattle.plist_reader.proofs.Fails.{word_fails, word_twice, string_twice, escape_fails}
use Rattle.plist_reader.proofs.Fails.{bytes_fail, half_fails, fails}

-- ---- choices

if_err-bind : {A B : Type 0} (P : Refusal → Type 0) (d : Result A Refusal)
    (f : A → Result B Refusal) → IfErr d P → ((x : A) → IfErr (f x) P) → IfErr (d >>= f) P
if_err-bind P (Ok x) f h k = k x
if_err-bind P (Err e) f h k = h

pub at_err : {A : Type 0} (P : Refusal → Type 0) (d : Result A Refusal) (e : Refusal) → d ≡ Err e
    → IfErr d P → P e
at_err {A} P d e h k = let Q : Result A Refusal → Type 0 = λ x. IfErr x P in subst Q h k

-- a good reader agrees with what is open
agrees_in : (token : Token) (r : Reader) → GoodIn token r → Agrees r.phase r.brackets
agrees_in Between r g = g.0
agrees_in (Word at) r g = g.0
agrees_in (Quoted at) r g = g.0
agrees_in (Escape at backslash escape) r g = g.0
agrees_in (Bytes at) r g = g.0
agrees_in (Half at high) r g = g.0

-- ---- brackets

bracket-of : (c : ℕ) → is_bracket c ≡ true → IsBracket c
bracket-of c e = elim (or_cases (eqb c 40) (eqb c 123) e)
    [ inl h ↦ inl (eqb-true c 40 h) | inr h ↦ inr (eqb-true c 123 h) ]

is_bracket-of : (c : ℕ) → IsBracket c → is_bracket c ≡ true
is_bracket-of c h = elim h [ inl e ↦ rw e refl | inr e ↦ rw e refl ]

too_deep-of : (front : List ℕ) (r u : Reader) (c : ℕ) → Reached front r
    → length u.brackets ≡ length r.brackets → IsOver c u → IsTooDeep front c
too_deep-of front r u c h e o =
    let D : ℕ → Type 0 = λ n. IsDeep front n in
    let full : length r.brackets ≡ 64 = omega (arith, e, o.1, (reached-placed front r h).shallow) in
    (bracket-of c o.0, subst D full (reached-deep front r h))

over-of : (front : List ℕ) (r u : Reader) (c : ℕ) → Reached front r
    → length u.brackets ≡ length r.brackets → IsTooDeep front c → IsOver c u
over-of front r u c h e d =
    let g = reached-goes_on front r h in
    let full : 64 ≡ length r.brackets = sym (d.1 g.0 g.1 g.2) ∙ reached-deep front r h g.0 g.1 g.2
    in
    (is_bracket-of c d.0, omega (arith, full, e))

-- ---- whole values

-- where a text may end
abbrev SaysEnd : Token → Reader → Type 0
SaysEnd Between r = is_end r.phase ≡ true
SaysEnd (Word at) r = r.brackets ≡ []
SaysEnd (Quoted at) r = ⊥
SaysEnd (Escape at backslash escape) r = ⊥
SaysEnd (Bytes at) r = ⊥
SaysEnd (Half at high) r = ⊥

closes-says : (place : ℕ) (r : Reader) (t : Tree) → Closes place r t → SaysEnd r.token r
closes-says place _ _ (closes_between nodes brackets number) = refl
closes-says place _ _ (closes_word nodes phase at text a) = refl

whole-says : (front : List ℕ) (r : Reader) → Reached front r → IsWhole front → SaysEnd r.token r
whole-says front r h w =
    let t = whole-finishes front r h w in
    closes-says (width front) r t.0 (at_ok (Closes (width front) r) (finish r (width front)) t.0 t.1
    (closes r (width front) (reached-good front r h)))

ended-length : (nodes : List TreeNode) (brackets : List Open) (phase : Phase) (at end : ℕ)
    (text : List ℕ) (u : Reader) → TextEnds nodes brackets phase at end text u
    → length u.brackets ≡ length brackets
ended-length nodes _ _ _ _ _ _ (as_value [] phase at end text a) = refl
ended-length nodes _ _ _ _ _ _ (as_value (Items p done ∷ outer) phase at end text a) = refl
ended-length nodes _ _ _ _ _ _ (as_value (Pairs d ∷ outer) phase at end text a) = refl
ended-length nodes _ _ _ _ _ _ (as_key d outer at end text e) = refl

-- outside all brackets the end of a text is the end of the whole value
ended-outside : (nodes : List TreeNode) (brackets : List Open) (phase : Phase) (at end : ℕ)
    (text : List ℕ) (u : Reader) → TextEnds nodes brackets phase at end text u
    → length brackets ≡ 0 → is_end u.phase ≡ true
ended-outside nodes _ _ _ _ _ _ (as_value [] phase at end text a) l = refl
ended-outside nodes _ _ _ _ _ _ (as_value (Items p done ∷ outer) phase at end text a) l
    = absurd (omega (arith, l))
ended-outside nodes _ _ _ _ _ _ (as_value (Pairs d ∷ outer) phase at end text a) l
    = absurd (omega (arith, l))
ended-outside nodes _ _ _ _ _ _ (as_key d outer at end text e) l = absurd (omega (arith, l))

ended-finishes : (nodes : List TreeNode) (brackets : List Open) (phase : Phase) (at end : ℕ)
    (text : List ℕ) (u : Reader) → TextEnds nodes brackets phase at end text u
    → is_end u.phase ≡ true → (t : Tree) ×
    (finish (in_token nodes brackets phase (Word at) text []) end ≡ Ok t)
ended-finishes nodes _ _ _ _ _ _ (as_value [] phase at end text a) e =
    let made = nodes ++ node at end (tree.Text text) ∷ [] in (
      record { nodes = made; top = length nodes },
      finish-word nodes phase at end text a
          ∙ finish_whole made [] (length nodes) end,
    )
ended-finishes nodes _ _ _ _ _ _ (as_value (Items p done ∷ outer) phase at end text a) e
    = absurd (false≢true e)
ended-finishes nodes _ _ _ _ _ _ (as_value (Pairs d ∷ outer) phase at end text a) e
    = absurd (false≢true e)
ended-finishes nodes _ _ _ _ _ _ (as_key d outer at end text k) e = absurd (false≢true e)

ready-finishes : (nodes : List TreeNode) (brackets : List Open) (phase : Phase) (place : ℕ)
    → is_end phase ≡ true → (t : Tree) × (finish (ready nodes brackets phase) place ≡ Ok t)
ready-finishes nodes brackets (End n) place e
    = (record { nodes = nodes; top = n }, finish_whole nodes brackets n place)
ready-finishes nodes brackets Value place e = absurd (false≢true e)
ready-finishes nodes brackets Item place e = absurd (false≢true e)
ready-finishes nodes brackets ItemEnd place e = absurd (false≢true e)
ready-finishes nodes brackets Key place e = absurd (false≢true e)
ready-finishes nodes brackets KeyEnd place e = absurd (false≢true e)
ready-finishes nodes brackets PairEnd place e = absurd (false≢true e)

awaiting-no_end : (phase : Phase) → IsAwaiting phase → is_end phase ≡ true → ⊥
awaiting-no_end Value a e = false≢true e
awaiting-no_end Item a e = false≢true e
awaiting-no_end Key a e = a
awaiting-no_end ItemEnd a e = a
awaiting-no_end KeyEnd a e = a
awaiting-no_end PairEnd a e = a
awaiting-no_end (End n) a e = a

-- ---- which rule

deep_no_end : TooDeep ≡ UnexpectedEnd → ⊥
deep_no_end e = cc

deep_no_escape : TooDeep ≡ BadEscape → ⊥
deep_no_escape e = cc

trail_no_end : TrailingText ≡ UnexpectedEnd → ⊥
trail_no_end e = cc

trail_no_escape : TrailingText ≡ BadEscape → ⊥
trail_no_escape e = cc

byte_no_end : UnexpectedByte ≡ UnexpectedEnd → ⊥
byte_no_end e = cc

byte_no_escape : UnexpectedByte ≡ BadEscape → ⊥
byte_no_escape e = cc

deep_no_key : TooDeep ≡ DuplicateKey → ⊥
deep_no_key e = cc

trail_no_key : TrailingText ≡ DuplicateKey → ⊥
trail_no_key e = cc

byte_no_key : UnexpectedByte ≡ DuplicateKey → ⊥
byte_no_key e = cc

key_no_end : DuplicateKey ≡ UnexpectedEnd → ⊥
key_no_end e = cc

key_no_escape : DuplicateKey ≡ BadEscape → ⊥
key_no_escape e = cc

-- a character that nothing takes
explain-stop : (front : List ℕ) (r u : Reader) (c : ℕ) (e : Refusal) → Reached front r
    → step r (width front) c ≡ Err e → length u.brackets ≡ length r.brackets
    → (is_end u.phase ≡ true → IsWhole front) → (IsWhole front → is_end u.phase ≡ true)
    → StopsAt (width front) c u e → IsExplained front c e
explain-stop front r u c _ h s l w n (over o) =
    too_deep (not_in_escape front r c (refusal TooDeep (width front)) h s deep_no_end
    deep_no_escape) (not_twice front r c (refusal TooDeep (width front)) h s deep_no_key)
    (too_deep-of front r u c h l o)
explain-stop front r u c _ h s l w n (behind o e) =
    trailing (not_in_escape front r c (refusal TrailingText (width front)) h s trail_no_end
    trail_no_escape) (not_twice front r c (refusal TrailingText (width front)) h s trail_no_key)
    (λ d. o (over-of front r u c h l d)) (w e)
explain-stop front r u c _ h s l w n (other o e) =
    unexpected (not_in_escape front r c (refusal UnexpectedByte (width front)) h s byte_no_end
    byte_no_escape) (not_twice front r c (refusal UnexpectedByte (width front)) h s byte_no_key)
    (λ d. o (over-of front r u c h l d)) (λ k. both_ways (is_end u.phase) e (n k))

same_bit : (m n : ℕ) → m ≡ n → ◌≡◌ {A = ℕ} (cond (eqb m n) 1 0) 1
same_bit m n e = rw (eq-eqb m n e) refl

explain-escape : (front text : List ℕ) (nodes : List TreeNode) (brackets : List Open)
    (phase : Phase) (at backslash : ℕ) (escape : EscapeState)
    → Reached front (in_token nodes brackets phase (Escape at backslash escape) text [])
    → EscapeIn front at backslash escape text → IsInEscape front backslash
explain-escape front text nodes brackets phase at backslash escape r h =
    let f = finishes escape h.first h.fits in
    record {
      before = h.before;
      inner = h.inner;
      bytes = text;
      escape = h.first;
      more
          = f.0;
      character = f.1;
      parts = h.parts;
      place_is = h.back;
      string = begins;
      quoted
          = h.quoted;
      unfinished = some f.0 f.2;
      known
          = finished-escape escape h.first f.0 f.1 h.fits f.2;
    }
  where
    inside : width h.before < width front
    inside = omega (
      arith,
      ap width h.parts,
      width-append (h.before ++ 34 ∷ h.inner) (92 ∷ h.first),
      width-append h.before (34 ∷ h.inner),
    )

    begins : HasText front h.before
    begins = open-text front h.before (in_token nodes brackets phase (Escape at backslash escape)
        text []) r inside (same_bit at (width h.before) h.place)

    some : (cs : List ℕ) → Reads escape cs (finishes escape h.first h.fits).1 → 0 < length cs
    some [] r = absurd r
    some (c ∷ cs) r = omega arith

-- a key that stands twice, with the word or string that it is
explain-twice : (front : List ℕ) (nodes : List TreeNode) (d : Dictionary) (outer : List Open)
    (token : Token) (at c : ℕ) (text before part : List ℕ)
    → Reached front (in_token nodes (Pairs d ∷ outer) Key token text [])
    → step (in_token nodes (Pairs d ∷ outer) Key token text []) (width front) c
    ≡ Err (refusal DuplicateKey at) → front ≡ before ++ part → at ≡ width before
    → EndsText part c text
    → KeyWay nodes d outer at (in_token nodes (Pairs d ∷ outer) Key token text []) (width front)
    → is_among text d.keys ≡ true → IsExplained front c (refusal DuplicateKey at)
explain-twice front nodes d outer token at c text before part h x parts place ended way k =
    let r = in_token nodes (Pairs d ∷ outer) Key token text [] in
    let g = twice-goes_on front nodes d outer token at text h way k in
    twice at (not_in_escape front r c (refusal DuplicateKey at) h x key_no_end key_no_escape)
    (record {
      before = before;
      text = part;
      key = text;
      rest = g.rest;
      other = g.other;
      parts
          = parts;
      place_is = place;
      ended = ended;
      goes_on = g.spelled;
      behind = g.behind;
    })

pub explain : (front : List ℕ) (r : Reader) (c : ℕ) (e : Refusal) → Reached front r
    → step r (width front) c ≡ Err e → Fails (width front) c r e → IsExplained front c e
explain front _ c e h x (between_fails nodes brackets phase _ s) =
    let r = ready nodes brackets phase in
    explain-stop front r r c e h x refl (λ k.
    (let t = ready-finishes nodes brackets phase (width front) k
    in finishes-whole front r t.0 h t.1)) (λ w. whole-says front r h w) s
explain front _ c e h x (word_fails nodes brackets phase at text u _ k s) =
    let r = in_token nodes brackets phase (Word at) text [] in
    explain-stop front r u c e h x (ended-length nodes brackets phase at (width front) text u k)
    (λ q. (let t = ended-finishes nodes brackets phase at (width front) text u k q
    in finishes-whole front r t.0 h t.1))
    (λ w. ended-outside nodes brackets phase at (width front) text u k
    (ap length (whole-says front r h w))) s
explain front _ c e h x (word_twice nodes d outer at text w k) =
    let r = in_token nodes (Pairs d ∷ outer) Key (Word at) text [] in
    let i : WordIn front at text = reached-token front r h in
    explain-twice front nodes d outer (Word at) at c text i.before i.word h x i.parts i.place
    (inl (i.own, w)) (way-any_word nodes d outer at (width front) text) k
explain front _ c e h x (string_twice nodes d outer at text q k) =
    let r = in_token nodes (Pairs d ∷ outer) Key (Quoted at) text [] in
    let i : StringIn front at text = reached-token front r h in
    explain-twice front nodes d outer (Quoted at) at c text i.before (34 ∷ i.inner) h x i.parts
    i.place (inr (q, i.inner, refl, i.quoted))
    (way-any_string nodes d outer at (width front) text) k
explain front _ c e h x (escape_fails nodes brackets phase at backslash text escape) =
    bad_escape backslash (explain-escape front text nodes brackets phase at backslash escape h
    (reached-token front (in_token nodes brackets phase (Escape at backslash escape) text [])
    h))
explain front _ c e h x (bytes_fail nodes brackets phase at bytes _ a s) =
    let r = in_token nodes brackets phase (Bytes at) [] bytes in
    explain-stop front r r c e h x refl (λ q. absurd (awaiting-no_end phase a q))
    (λ w. absurd (whole-says front r h w)) s
explain front _ c e h x (half_fails nodes brackets phase at high bytes _ a s) =
    let r = in_token nodes brackets phase (Half at high) [] bytes in
    explain-stop front r r c e h x refl (λ q. absurd (awaiting-no_end phase a q))
    (λ w. absurd (whole-says front r h w)) s

-- ---- the end

abbrev IsEnd : ℕ → Refusal → Type 0
IsEnd here e = e ≡ refusal UnexpectedEnd here

whole_in-end : (r : Reader) (place : ℕ) (phase : Phase)
    → IfErr (whole_in r place phase) (IsEnd place)
whole_in-end r place (End n) = tt
whole_in-end r place Value = refl
whole_in-end r place Item = refl
whole_in-end r place ItemEnd = refl
whole_in-end r place Key = refl
whole_in-end r place KeyEnd = refl
whole_in-end r place PairEnd = refl

whole-end : (r : Reader) (place : ℕ) → IfErr (whole r place) (IsEnd place)
unfolding whole
whole-end r place = whole_in-end r place r.phase

-- outside all brackets a text is no key
outside_key : (r : Reader) (at end : ℕ) (phase : Phase) (brackets : List Open) → r.phase ≡ phase
    → r.brackets ≡ brackets → eqb (length brackets) 0 ≡ true → Agrees phase brackets
    → IfErr (text_ended r at end) (IsEnd end)
unfolding text_ended
outside_key r at end Key [] e f n g = elim g [ ]
outside_key r at end Key (b ∷ brackets) e f n g
    = absurd (omega (arith, eqb-true (length (b ∷ brackets)) 0 n))
outside_key r at end Value brackets e f n g = rw e tt
outside_key r at end Item brackets e f n g = rw e tt
outside_key r at end ItemEnd brackets e f n g = rw e tt
outside_key r at end KeyEnd brackets e f n g = rw e tt
outside_key r at end PairEnd brackets e f n g = rw e tt
outside_key r at end (End m) brackets e f n g = rw e tt

if_err-known : {A : Type 0} (P : Refusal → Type 0) (b : Bool) (x y : Result A Refusal)
    → (b ≡ true → IfErr x P) → IfErr y P → IfErr (cond b x y) P
if_err-known P true x y h k = h refl
if_err-known P false x y h k = k

finish_in-end : (r : Reader) (place : ℕ) (token : Token) → Agrees r.phase r.brackets
    → IfErr (finish_in r place token) (IsEnd place)
finish_in-end r place Between g = whole-end r place
finish_in-end r place (Word at) g = if_err-known (IsEnd place) (eqb (length r.brackets) 0) _ _
    (λ n. if_err-bind (IsEnd place) (text_ended r at place) (λ s. whole s place)
    (outside_key r at place r.phase r.brackets refl refl n g) (λ s. whole-end s place)) refl
finish_in-end r place (Quoted at) g = refl
finish_in-end r place (Escape at backslash escape) g = refl
finish_in-end r place (Bytes at) g = refl
finish_in-end r place (Half at high) g = refl

pub finish-end : (r : Reader) (place : ℕ) → Good r → IfErr (finish r place) (IsEnd place)
unfolding finish
finish-end r place g = finish_in-end r place r.token (agrees_in r.token r g)

-- ---- why reading stops

reason_of : (front rest : List ℕ) (r : Reader) (e : Refusal) → Reached front r
    → StopOf r (width front) rest e → IsReason front rest e
reason_of front [] r e h stop = (
  reached-goes_on front r h,
  λ w. (let t = whole-finishes front r h w in err_not_ok e t.0 (finish r (width front)) stop t.1),
  at_err (IsEnd (width front)) (finish r (width front)) e stop
      (finish-end r (width front) (reached-good front r h)),
)
reason_of front (c ∷ cs) r e h stop = (
  record { goes_on = reached-goes_on front r h; no_more = refused-stops front r c e h stop },
  explain front r c e h stop (at_err (Fails (width front) c r) (step r (width front) c) e stop
      (fails r (width front) c (reached-good front r h))),
)

-- a text that is refused stops so
pub run-refused : (cs : List ℕ) (e : Refusal) → AreScalars cs → run start 0 cs ≡ Err e
    → StopsIn cs e
run-refused cs e i h =
    let k = stopped cs e i h in
    record {
      front = k.front;
      rest = k.rest;
      parts = k.parts;
      reason
          = reason_of k.front k.rest k.state e k.reached k.stop;
    }

-- each refusal that is answered is one of the source
pub error-from_Gives : (source : List ℕ) (result : Result Tree ReadError) → IsUtf8 source
    → Gives (λ t. t) result (read_of source) → IfErr result (IsErrorOf source)
error-from_Gives source (Ok t) u h = tt
error-from_Gives source (Err (read_errors.Refused r)) u h
    = inr (
      u,
      run-refused (chars source) r (source-scalars source u)
          (sym (read_of-text source u) ∙ h),
    )
error-from_Gives source (Err read_errors.NoMemory) u h = tt
