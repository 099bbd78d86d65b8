-- What the reader makes of the characters that spell a quoted string or a byte string, and of a
-- text that ends.
use Rattle.std.proofs.Common.{inl, inr, ◌≡◌, ℕ, ◌+◌, ◌*◌, Bool, true, false, eqb, List, [], ◌∷◌}
use Rattle.std.proofs.Common.{◌++◌, length, Some, Ok, refl, sym, ap, ◌∙◌, arith, append_assoc}
use Rattle.std.specs.Prelude.{is_some}
use Rattle.std.proofs.lemmas.Bool.{ne_eqb}
use Rattle.std.proofs.lemmas.List.{append-nil}
use Rattle.std.specs.Char.{len_utf8}
use lib.Utf8.{encode}
use Rattle.plist_reader.specs.declared.tree.TreeNode.{TreeNode}
use Rattle.plist_reader.specs.declared.tree.TreeValue.TheVariants as tree
use Rattle.plist_reader.specs.declared.reader.Reader.{Reader}
use Rattle.plist_reader.specs.declared.reader.Phase.{Phase}
use Rattle.plist_reader.specs.declared.reader.Phase.TheVariants.{Value, Item, ItemEnd, Key, KeyEnd}
use Rattle.plist_reader.specs.declared.reader.Phase.TheVariants.{PairEnd, End}
use Rattle.plist_reader.specs.declared.reader.Token.{Token}
use Rattle.plist_reader.specs.declared.reader.Token.TheVariants.{Between, Word, Quoted, Escape}
use Rattle.plist_reader.specs.declared.reader.Token.TheVariants.{Bytes, Half}
use Rattle.plist_reader.specs.declared.reader.Open.{Open}
use Rattle.plist_reader.specs.declared.escape.Escape.TheVariants.{Begun}
use Rattle.plist_reader.specs.Characters.{is_space, is_word, hex_value, byte_of}
use Rattle.refusal_codes.specs.Gives.{◌>>=◌}
use Rattle.plist_reader.specs.Reading.{value_ended, text_ended, text_begun, value_begun, between}
use Rattle.plist_reader.specs.Reading.{in_word, in_quoted, in_bytes, in_half, step, whole, finish}
use Rattle.plist_reader.specs.Reading.{run}
use Rattle.plist_reader.specs.Grammar.{node, width, AreSpaces, IsQuoted, no_more, plain, escaped}
use Rattle.plist_reader.specs.Grammar.{IsText, IsHex, no_digits, space, digits}
use Rattle.plist_reader.proofs.RunLemmas.{run_step}
use Rattle.plist_reader.proofs.GivenTokens.{ready, in_token, settled, settled_any, settled-between}
use Rattle.plist_reader.proofs.GivenTokens.{run_same, width-append, unlike, run-word, CanBegin}
use Rattle.plist_reader.proofs.GivenTokens.{IsAwaiting, begin-from_awaiting}
use Rattle.plist_reader.proofs.GivenEscapes.{reads-escape, run-escape}

-- ---- quoted strings

pub step-quote_begun : (nodes : List TreeNode) (brackets : List Open) (phase : Phase) (place : ℕ)
    → CanBegin phase
    → step (ready nodes brackets phase) place 34
    ≡ Ok (in_token nodes brackets phase (Quoted place) [] [])
unfolding step between value_begun text_begun is_space
step-quote_begun nodes brackets Value place h = refl
step-quote_begun nodes brackets Item place h = refl
step-quote_begun nodes brackets Key place h = refl
step-quote_begun nodes brackets ItemEnd place h = elim h [ ]
step-quote_begun nodes brackets KeyEnd place h = elim h [ ]
step-quote_begun nodes brackets PairEnd place h = elim h [ ]
step-quote_begun nodes brackets (End n) place h = elim h [ ]

pub step-plain : (nodes : List TreeNode) (brackets : List Open) (phase : Phase) (at place c : ℕ)
    (text : List ℕ) → ¬ (c ≡ 34) → ¬ (c ≡ 92)
    → step (in_token nodes brackets phase (Quoted at) text []) place c
    ≡ Ok (in_token nodes brackets phase (Quoted at) (text ++ encode c) [])
unfolding step in_quoted
step-plain nodes brackets phase at place c text h g = rw (ne_eqb c 34 h, ne_eqb c 92 g) refl

pub step-backslash : (nodes : List TreeNode) (brackets : List Open) (phase : Phase) (at place : ℕ)
    (text : List ℕ)
    → step (in_token nodes brackets phase (Quoted at) text []) place 92
    ≡ Ok (in_token nodes brackets phase (Escape at place Begun) text [])
unfolding step in_quoted
step-backslash nodes brackets phase at place text = refl

pub run-quoted : (cs bytes : List ℕ) → IsQuoted cs bytes
    → (nodes : List TreeNode) (brackets : List Open) (phase : Phase) (at place : ℕ)
    (text rest : List ℕ)
    → run (in_token nodes brackets phase (Quoted at) text []) place (cs ++ rest)
    ≡ run (in_token nodes brackets phase (Quoted at) (text ++ bytes) []) (place + width cs) rest
run-quoted _ _ no_more nodes brackets phase at place text rest
    = run_same _ _ place (place + 0) rest (ap (λ t. in_token nodes brackets phase (Quoted at) t [])
    (sym (append-nil text))) (omega arith)
run-quoted _ _ (plain c cs bytes i h g q) nodes brackets phase at place text rest =
    run_step _ _ place c (cs ++ rest) (step-plain nodes brackets phase at place c text h g)
    ∙ run-quoted cs bytes q nodes brackets phase at (place + len_utf8 c) (text ++ encode c) rest
    ∙ run_same _ _ (place + len_utf8 c + width cs) (place + (len_utf8 c + width cs)) rest
    (ap (λ t. in_token nodes brackets phase (Quoted at) t [])
    (append_assoc text (encode c) bytes)) (omega arith)
run-quoted _ _ (escaped c escape cs bytes e q) nodes brackets phase at place text rest =
    run_step _ _ place 92 ((escape ++ cs) ++ rest)
    (step-backslash nodes brackets phase at place text)
    ∙ ap (λ r. run (in_token nodes brackets phase (Escape at place Begun) text []) (place + 1) r)
    (append_assoc escape cs rest)
    ∙ run-escape escape nodes brackets phase at place (place + 1) Begun c text (cs ++ rest)
    (reads-escape escape c e)
    ∙ run-quoted cs bytes q nodes brackets phase at (place + 1 + width escape) (text ++ encode c)
    rest
    ∙ run_same _ _ (place + 1 + width escape + width cs) (place + (1 + width (escape ++ cs))) rest
    (ap (λ t. in_token nodes brackets phase (Quoted at) t [])
    (append_assoc text (encode c) bytes)) (omega (arith, width-append escape cs))

-- ---- byte strings

digit_is : ℕ → Bool
digit_is c = is_some (hex_value c)

pub step-angle_begun : (nodes : List TreeNode) (brackets : List Open) (phase : Phase) (place : ℕ)
    → IsAwaiting phase
    → step (ready nodes brackets phase) place 60
    ≡ Ok (in_token nodes brackets phase (Bytes place) [] [])
unfolding step between value_begun is_space
step-angle_begun nodes brackets Value place h = refl
step-angle_begun nodes brackets Item place h = refl
step-angle_begun nodes brackets Key place h = elim h [ ]
step-angle_begun nodes brackets ItemEnd place h = elim h [ ]
step-angle_begun nodes brackets KeyEnd place h = elim h [ ]
step-angle_begun nodes brackets PairEnd place h = elim h [ ]
step-angle_begun nodes brackets (End n) place h = elim h [ ]

hex-no_space : (c x : ℕ) → hex_value c ≡ Some x → is_space c ≡ false
unfolding is_space digit_is hex_value
hex-no_space c x h =
    let d : digit_is c ≡ true = ap (λ o. is_some o) h in
    rw (
      unlike digit_is c 32 d refl,
      unlike digit_is c 9 d refl,
      unlike digit_is c 13 d refl,
      unlike
          digit_is c 10 d refl,
    ) refl

hex-no_end : (c x : ℕ) → hex_value c ≡ Some x → eqb c 62 ≡ false
unfolding digit_is hex_value
hex-no_end c x h = let d : digit_is c ≡ true = ap (λ o. is_some o) h in unlike digit_is c 62 d refl

step-bytes_space : (nodes : List TreeNode) (brackets : List Open) (phase : Phase) (at place c : ℕ)
    (bytes : List ℕ) → is_space c ≡ true
    → step (in_token nodes brackets phase (Bytes at) [] bytes) place c
    ≡ Ok (in_token nodes brackets phase (Bytes at) [] bytes)
unfolding step in_bytes
step-bytes_space nodes brackets phase at place c bytes h = rw h refl

step-first_digit : (nodes : List TreeNode) (brackets : List Open) (phase : Phase) (at place c x : ℕ)
    (bytes : List ℕ) → hex_value c ≡ Some x
    → step (in_token nodes brackets phase (Bytes at) [] bytes) place c
    ≡ Ok (in_token nodes brackets phase (Half at c) [] bytes)
unfolding step in_bytes
step-first_digit nodes brackets phase at place c x bytes h
    = rw (hex-no_space c x h, hex-no_end c x h, h) refl

step-half_space : (nodes : List TreeNode) (brackets : List Open) (phase : Phase)
    (at high place c : ℕ) (bytes : List ℕ) → is_space c ≡ true
    → step (in_token nodes brackets phase (Half at high) [] bytes) place c
    ≡ Ok (in_token nodes brackets phase (Half at high) [] bytes)
unfolding step in_half
step-half_space nodes brackets phase at high place c bytes h = rw h refl

pub step-second_digit : (nodes : List TreeNode) (brackets : List Open) (phase : Phase)
    (at high place c x y : ℕ) (bytes : List ℕ) → hex_value high ≡ Some x → hex_value c ≡ Some y
    → step (in_token nodes brackets phase (Half at high) [] bytes) place c
    ≡ Ok (in_token nodes brackets phase (Bytes at) [] (bytes ++ (x * 16 + y) ∷ []))
unfolding step in_half byte_of
step-second_digit nodes brackets phase at high place c x y bytes h g
    = rw (hex-no_space c y g, h, g) refl

run-half_spaces : (gap : List ℕ) (nodes : List TreeNode) (brackets : List Open) (phase : Phase)
    (at high place : ℕ) (bytes rest : List ℕ) → AreSpaces gap
    → run (in_token nodes brackets phase (Half at high) [] bytes) place (gap ++ rest)
    ≡ run (in_token nodes brackets phase (Half at high) [] bytes) (place + width gap) rest
run-half_spaces [] nodes brackets phase at high place bytes rest h
    = run_same _ _ place (place + 0) rest refl (omega arith)
run-half_spaces (c ∷ cs) nodes brackets phase at high place bytes rest h =
    run_step _ _ place c (cs ++ rest) (step-half_space nodes brackets phase at high place c bytes
    h.0)
    ∙ run-half_spaces cs nodes brackets phase at high (place + len_utf8 c) bytes rest h.1
    ∙ run_same _ _ (place + len_utf8 c + width cs) (place + (len_utf8 c + width cs)) rest refl
    (omega arith)

pub run-hex : (cs made : List ℕ) → IsHex cs made
    → (nodes : List TreeNode) (brackets : List Open) (phase : Phase) (at place : ℕ)
    (bytes rest : List ℕ)
    → run (in_token nodes brackets phase (Bytes at) [] bytes) place (cs ++ rest)
    ≡ run (in_token nodes brackets phase (Bytes at) [] (bytes ++ made)) (place + width cs) rest
run-hex _ _ no_digits nodes brackets phase at place bytes rest
    = run_same _ _ place (place + 0) rest (ap (λ b. in_token nodes brackets phase (Bytes at) [] b)
    (sym (append-nil bytes))) (omega arith)
run-hex _ _ (space c cs made h q) nodes brackets phase at place bytes rest =
    run_step _ _ place c (cs ++ rest) (step-bytes_space nodes brackets phase at place c bytes h)
    ∙ run-hex cs made q nodes brackets phase at (place + len_utf8 c) bytes rest
    ∙ run_same _ _ (place + len_utf8 c + width cs) (place + (len_utf8 c + width cs)) rest refl
    (omega arith)
run-hex _ _ (digits a b x y gap cs made ha hg hb q) nodes brackets phase at place bytes rest =
    run_step _ _ place a ((gap ++ b ∷ cs) ++ rest)
    (step-first_digit nodes brackets phase at place a x bytes ha)
    ∙ ap (λ r. run (in_token nodes brackets phase (Half at a) [] bytes) (place + len_utf8 a) r)
    (append_assoc gap (b ∷ cs) rest)
    ∙ run-half_spaces gap nodes brackets phase at a (place + len_utf8 a) bytes (b ∷ (cs ++ rest)) hg
    ∙ run_step _ _ (place + len_utf8 a + width gap) b (cs ++ rest)
    (step-second_digit nodes brackets phase at a (place + len_utf8 a + width gap) b x y bytes ha
    hb)
    ∙ run-hex cs made q nodes brackets phase at (place + len_utf8 a + width gap + len_utf8 b)
    (bytes ++ (x * 16 + y) ∷ []) rest
    ∙ run_same _ _ (place + len_utf8 a + width gap + len_utf8 b + width cs)
    (place + (len_utf8 a + width (gap ++ b ∷ cs))) rest
    (ap (λ t. in_token nodes brackets phase (Bytes at) [] t)
    (append_assoc bytes ((x * 16 + y) ∷ []) made)) (omega (arith, width-append gap (b ∷ cs)))

pub step-angle_end : (nodes : List TreeNode) (brackets : List Open) (phase : Phase) (at place : ℕ)
    (bytes : List ℕ)
    → step (in_token nodes brackets phase (Bytes at) [] bytes) place 62
    ≡ Ok (settled (nodes ++ node at (place + 1) (tree.Bytes bytes) ∷ []) brackets
    (length nodes))
unfolding step in_bytes is_space value_ended
step-angle_end nodes brackets phase at place bytes
    = ap (λ r. Ok r) (settled_any (nodes ++ node at (place + 1) (tree.Bytes bytes) ∷ []) brackets
    brackets phase (length nodes))

-- ---- texts that end

-- what may follow a value: the end where nothing is open, or a character that no word has
abbrev pub Stops : List Open → List ℕ → Type 0
Stops [] [] = Unit {0}
Stops (bracket ∷ brackets) [] = ⊥
Stops brackets (c ∷ cs) = is_word c ≡ false

pub text-ended : (nodes : List TreeNode) (brackets : List Open) (phase : Phase) (token : Token)
    (at end : ℕ) (text : List ℕ) → IsAwaiting phase
    → text_ended (in_token nodes brackets phase token text []) at end
    ≡ Ok (settled (nodes ++ node at end (tree.Text text) ∷ []) brackets (length nodes))
unfolding text_ended value_ended
text-ended nodes brackets Value token at end text h
    = ap (λ r. Ok r) (settled_any (nodes ++ node at end (tree.Text text) ∷ []) brackets brackets
    Value (length nodes))
text-ended nodes brackets Item token at end text h
    = ap (λ r. Ok r) (settled_any (nodes ++ node at end (tree.Text text) ∷ []) brackets brackets
    Item (length nodes))
text-ended nodes brackets Key token at end text h = elim h [ ]
text-ended nodes brackets ItemEnd token at end text h = elim h [ ]
text-ended nodes brackets KeyEnd token at end text h = elim h [ ]
text-ended nodes brackets PairEnd token at end text h = elim h [ ]
text-ended nodes brackets (End n) token at end text h = elim h [ ]

-- a step between tokens
pub step-between : (r : Reader) (place c : ℕ) → r.token ≡ Between
    → step r place c ≡ between r place c
unfolding step
step-between r place c e = rw e refl

pub step-in_word : (r : Reader) (at place c : ℕ) → r.token ≡ Word at
    → step r place c ≡ in_word r at place c
unfolding step
step-in_word r at place c e = rw e refl

pub step-word_end : (r s : Reader) (at place c : ℕ) → r.token ≡ Word at → is_word c ≡ false
    → text_ended r at place ≡ Ok s → s.token ≡ Between → step r place c ≡ step s place c
unfolding in_word
step-word_end r s at place c e w h k =
    let inside : step r place c ≡ in_word r at place c = step-in_word r at place c e in
    let off : in_word r at place c ≡ between s place c = rw (w, h) refl in
    inside ∙ off ∙ sym (step-between s place c k)

pub finish-word : (nodes : List TreeNode) (phase : Phase) (at place : ℕ) (text : List ℕ)
    → IsAwaiting phase
    → finish (in_token nodes [] phase (Word at) text []) place
    ≡ finish (settled (nodes ++ node at place (tree.Text text) ∷ []) [] (length nodes)) place
unfolding finish
finish-word nodes phase at place text h = ap (λ d. d >>= (λ s. whole s place))
    (text-ended nodes [] phase (Word at) at place text h)

run-word_end : (nodes : List TreeNode) (brackets : List Open) (phase : Phase) (at place : ℕ)
    (text rest : List ℕ) → IsAwaiting phase → Stops brackets rest
    → run (in_token nodes brackets phase (Word at) text []) place rest
    ≡ run (settled (nodes ++ node at place (tree.Text text) ∷ []) brackets (length nodes)) place
    rest
run-word_end nodes [] phase at place text [] h s = finish-word nodes phase at place text h
run-word_end nodes (bracket ∷ brackets) phase at place text [] h s = elim s [ ]
run-word_end nodes brackets phase at place text (c ∷ cs) h s =
    ap (λ d. d >>= (λ r. run r (place + len_utf8 c) cs))
    (step-word_end (in_token nodes brackets phase (Word at) text [])
    (settled (nodes ++ node at place (tree.Text text) ∷ []) brackets (length nodes)) at place c
    refl s
    (text-ended nodes brackets phase (Word at) at place text h)
    (settled-between (nodes ++ node at place (tree.Text text) ∷ []) brackets (length nodes)))

pub step-quote_end : (nodes : List TreeNode) (brackets : List Open) (phase : Phase) (at place : ℕ)
    (text : List ℕ)
    → step (in_token nodes brackets phase (Quoted at) text []) place 34
    ≡ text_ended (in_token nodes brackets phase (Quoted at) text []) at (place + 1)
unfolding step in_quoted
step-quote_end nodes brackets phase at place text = refl

-- a word or a quoted string that is a value
pub run-text : (cs bytes : List ℕ) → IsText cs bytes
    → (nodes : List TreeNode) (brackets : List Open) (phase : Phase) (place : ℕ) (rest : List ℕ)
    → IsAwaiting phase → Stops brackets rest
    → run (ready nodes brackets phase) place (cs ++ rest)
    ≡ run (settled (nodes ++ node place (place + width cs) (tree.Text bytes) ∷ []) brackets
    (length nodes)) (place + width cs) rest
run-text cs bytes (inl w) nodes brackets phase place rest a s =
    let same : bytes ≡ cs = w.same in
    run-word cs nodes brackets phase place rest (begin-from_awaiting phase a) w.some w.own
    ∙ run-word_end nodes brackets phase place (place + width cs) cs rest a s
    ∙ ap (λ b. run (settled (nodes ++ node place (place + width cs) (tree.Text b) ∷ []) brackets
    (length nodes)) (place + width cs) rest) (sym same)
run-text cs bytes (inr (inner, e, q)) nodes brackets phase place rest a s =
    let w : width cs ≡ 1 + (width inner + 1) = ap width e
    ∙ omega (arith, width-append inner (34 ∷ [])) in
    ap (λ x. run (ready nodes brackets phase) place (x ++ rest)) e
    ∙ run_step _ _ place 34 ((inner ++ 34 ∷ []) ++ rest)
    (step-quote_begun nodes brackets phase place (begin-from_awaiting phase a))
    ∙ ap (λ x. run (in_token nodes brackets phase (Quoted place) [] []) (place + 1) x)
    (append_assoc inner (34 ∷ []) rest)
    ∙ run-quoted inner bytes q nodes brackets phase place (place + 1) [] (34 ∷ rest)
    ∙ run_step _ _ (place + 1 + width inner) 34 rest
    (step-quote_end nodes brackets phase place (place + 1 + width inner) bytes
    ∙ text-ended nodes brackets phase (Quoted place) place (place + 1 + width inner + 1) bytes
    a)
    ∙ run_same _ _ (place + 1 + width inner + 1) (place + width cs) rest
    (ap (λ p. settled (nodes ++ node place p (tree.Text bytes) ∷ []) brackets (length nodes))
    (omega (arith, w))) (omega (arith, w))

-- a byte string
pub run-bytes : (cs inner bytes : List ℕ) → cs ≡ 60 ∷ (inner ++ 62 ∷ []) → IsHex inner bytes
    → (nodes : List TreeNode) (brackets : List Open) (phase : Phase) (place : ℕ) (rest : List ℕ)
    → IsAwaiting phase
    → run (ready nodes brackets phase) place (cs ++ rest)
    ≡ run (settled (nodes ++ node place (place + width cs) (tree.Bytes bytes) ∷ []) brackets
    (length nodes)) (place + width cs) rest
run-bytes cs inner bytes e q nodes brackets phase place rest a =
    let w : width cs ≡ 1 + (width inner + 1) = ap width e
    ∙ omega (arith, width-append inner (62 ∷ [])) in
    ap (λ x. run (ready nodes brackets phase) place (x ++ rest)) e
    ∙ run_step _ _ place 60 ((inner ++ 62 ∷ []) ++ rest)
    (step-angle_begun nodes brackets phase place a)
    ∙ ap (λ x. run (in_token nodes brackets phase (Bytes place) [] []) (place + 1) x)
    (append_assoc inner (62 ∷ []) rest)
    ∙ run-hex inner bytes q nodes brackets phase place (place + 1) [] (62 ∷ rest)
    ∙ run_step _ _ (place + 1 + width inner) 62 rest
    (step-angle_end nodes brackets phase place (place + 1 + width inner) bytes)
    ∙ run_same _ _ (place + 1 + width inner + 1) (place + width cs) rest
    (ap (λ p. settled (nodes ++ node place p (tree.Bytes bytes) ∷ []) brackets (length nodes))
    (omega (arith, w))) (omega (arith, w))
