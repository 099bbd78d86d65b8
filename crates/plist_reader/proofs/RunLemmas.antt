-- Steps of `run`, over plain variables.
use Rattle.std.proofs.Common.{arith, IfOk, ◌≡◌, ℕ, ◌+◌, ◌<◌, List, ◌∷◌, length, get_or, drop}
use Rattle.std.proofs.Common.{Result, Ok, Err, refl, sym, ap, subst, ◌∙◌}
use Rattle.std.proofs.lemmas.List.{at_drop_more, length-append}
use Rattle.std.proofs.lemmas.Str.{length-encode}
use Rattle.std.specs.Str.{encode_utf8_all}
use lib.Utf8.{encode}
use Rattle.std.specs.Char.{len_utf8}
use Rattle.refusal_codes.specs.declared.refusal.Refusal.{Refusal}
use Rattle.refusal_codes.specs.declared.errors.ReadError.{ReadError}
use Rattle.refusal_codes.specs.declared.errors.ReadError.TheVariants as read_errors
use Rattle.refusal_codes.specs.Gives.{Gives, RefusesRead}
use Rattle.plist_reader.specs.declared.tree.Tree.{Tree}
use Rattle.plist_reader.specs.declared.reader.Reader.{Reader}
use Rattle.std.proofs.Common.{Bool, true, false, cond}
use Rattle.std.proofs.lemmas.Str.{is_utf8-from_IsUtf8, IsUtf8-from_is_utf8}
use Rattle.std.specs.Str.{IsUtf8, is_utf8, chars}
use Rattle.std.specs.Str.Lossy.{utf8_valid_len}
use Rattle.refusal_codes.specs.declared.rule.Rule.TheVariants.{NotUtf8}
use Rattle.plist_reader.specs.Refusals.{refusal}
use Rattle.refusal_codes.specs.Gives.{◌>>=◌}
use Rattle.plist_reader.specs.Reading.{step, run, read_of, start}

-- the rest of a list begins with the element at the place
pub rest_is : (cs : List ℕ) (n c : ℕ) → (n < length cs) × (c ≡ get_or cs n c)
    → drop n cs ≡ c ∷ drop (n + 1) cs
rest_is cs n c h = at_drop_more (λ xs. xs) cs n c h.0 ∙ ap (λ x. x ∷ drop (n + 1) cs) (sym h.1)

-- a refusal is passed on
pub refused_after : (e : ReadError) (definition : Result Reader Refusal)
    (f : Reader → Result Tree Refusal) → RefusesRead e definition → RefusesRead e (definition >>= f)
refused_after (read_errors.Refused r) definition f h = ap (λ d. d >>= f) h
refused_after read_errors.NoMemory definition f h = tt

-- a step of the run
pub run_step : (r s : Reader) (place c : ℕ) (cs : List ℕ) → step r place c ≡ Ok s
    → run r place (c ∷ cs) ≡ run s (place + len_utf8 c) cs
run_step r s place c cs h = ap (λ d. d >>= (λ t. run t (place + len_utf8 c) cs)) h

pub run_refused : (e : ReadError) (r : Reader) (place c : ℕ) (cs : List ℕ)
    → RefusesRead e (step r place c) → RefusesRead e (run r place (c ∷ cs))
run_refused e r place c cs h = refused_after e (step r place c) (λ t. run t (place + len_utf8 c) cs)
    h

-- the place behind a character, and what is left behind it, are the text
pub weight_of_rest : (cs : List ℕ) (n c place total : ℕ) → drop n cs ≡ c ∷ drop (n + 1) cs
    → place + length (encode_utf8_all (drop n cs)) ≡ total
    → place + len_utf8 c + length (encode_utf8_all (drop (n + 1) cs)) ≡ total
weight_of_rest cs n c place total e h =
    let rest = drop (n + 1) cs in
    let split : length (encode_utf8_all (drop n cs))
    ≡ length (encode c) + length (encode_utf8_all rest) = ap (λ x. length (encode_utf8_all x)) e
    ∙ length-append (encode c) (encode_utf8_all rest) in
    omega (arith, split, length-encode c, h)

-- a source in UTF-8 is read as its characters, and no other source is
pub read_of-text : (source : List ℕ) → IsUtf8 source → read_of source ≡ run start 0 (chars source)
unfolding read_of
read_of-text source u = ap (λ b. cond b (run start 0 (chars source))
    (Err (refusal NotUtf8 (utf8_valid_len source)))) (is_utf8-from_IsUtf8 source u)

fails_utf8 : (source : List ℕ) (b : Bool) → is_utf8 source ≡ b → ¬ (IsUtf8 source) → b ≡ false
fails_utf8 source true e h = absurd (h (IsUtf8-from_is_utf8 source e))
fails_utf8 source false e h = refl

pub read_of-bad : (source : List ℕ) → ¬ (IsUtf8 source)
    → read_of source ≡ Err (refusal NotUtf8 (utf8_valid_len source))
unfolding read_of
read_of-bad source h = ap (λ b. cond b (run start 0 (chars source))
    (Err (refusal NotUtf8 (utf8_valid_len source)))) (fails_utf8 source (is_utf8 source) refl h)

-- an answer that the definition gives has what the definition's answers have
pub if_ok-from_Gives : {X : Type 0} (P : X → Type 0) (result : Result X ReadError)
    (definition : Result X Refusal) → Gives (λ x. x) result definition → IfOk definition P
    → IfOk result P
if_ok-from_Gives {X} P (Ok x) definition h k = let Q = λ (d : Result X Refusal). IfOk d P
    in subst Q h k
if_ok-from_Gives {X} P (Err e) definition h k = tt

-- what gives two answers gives one
pub one_answer : {A : Type 0} (x y : A) (r : Result A Refusal) → r ≡ Ok x → r ≡ Ok y → x ≡ y
one_answer x y r e f = cc
