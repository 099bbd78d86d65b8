-- A text spells a decimal exactly where the definition gives it.
use Rattle.std.proofs.Common.{◌≡◌, ℕ, zero, suc, ◌+◌, ◌<◌, Bool, true, false, ◌&&◌, ◌==◌, cond}
use Rattle.std.proofs.Common.{List, [], ◌∷◌, ◌++◌, length, get_or, take, drop, Option, Some, None}
use Rattle.std.proofs.Common.{refl, sym, ap, ◌∙◌, subst, arith, add-one, append_assoc, true≢false}
use Rattle.std.specs.Prelude.{position, slice_index, not, nat_lt}
use Rattle.std.specs.List.{list_all, position_or_len}
use Rattle.std.specs.Char.{is_ascii_digit}
use Rattle.std.proofs.lemmas.List.{append-nil, take-append-drop, length-append}
use Rattle.std.proofs.lemmas.List.Quantifiers.{position-Some}
use Rattle.std.proofs.lemmas.Bool.Decides.{nat_tests}
use Rattle.std.proofs.Math.Seq.{take-append_seam, drop-append-add, drop-cons}
use Rattle.source_values.specs.declared.decimals.Decimal.{Decimal}
use Rattle.source_values.specs.Decimals.{are_digits, digits_value, billionths_of, first_digits}
use Rattle.source_values.specs.Decimals.{fraction_of, unsigned_by, unsigned_of, decimal_of}
use Rattle.source_values.specs.Spelling.{sign, point_with, nine_digits, Spells}

abbrev is_point : ℕ → Bool
is_point byte = byte == 46

-- ---- fractions

-- the first nine digits, one by one
nine : (ds : List ℕ) → billionths_of ds ≡ digits_value (nine_digits ds)
unfolding billionths_of digits_value
nine [] = refl
nine (a ∷ []) = refl
nine (a ∷ b ∷ []) = refl
nine (a ∷ b ∷ c ∷ []) = refl
nine (a ∷ b ∷ c ∷ d ∷ []) = refl
nine (a ∷ b ∷ c ∷ d ∷ e ∷ []) = refl
nine (a ∷ b ∷ c ∷ d ∷ e ∷ f ∷ []) = refl
nine (a ∷ b ∷ c ∷ d ∷ e ∷ f ∷ g ∷ []) = refl
nine (a ∷ b ∷ c ∷ d ∷ e ∷ f ∷ g ∷ h ∷ []) = refl
nine (a ∷ b ∷ c ∷ d ∷ e ∷ f ∷ g ∷ h ∷ i ∷ ds) = refl

no_billionths : digits_value (nine_digits []) ≡ 0
unfolding digits_value
no_billionths = refl

-- ---- tests

both : (a b : Bool) → (a && b) ≡ true → (a ≡ true) × (b ≡ true)
both true b e = (refl, e)
both false b e = absurd (true≢false (sym e))

some_digits : (ds : List ℕ) → are_digits ds ≡ true
    → (nat_lt 0 (length ds) ≡ true) × (list_all is_ascii_digit ds ≡ true)
unfolding are_digits
some_digits ds e = both (nat_lt 0 (length ds)) (list_all is_ascii_digit ds) e

pointed : (ds : List ℕ) → are_digits ds ≡ true → point_with ds ≡ 46 ∷ ds
pointed [] e = absurd (true≢false (sym (some_digits [] e).0))
pointed (d ∷ ds) e = refl

digit_no_byte : (n d : ℕ) → n < 48 → is_ascii_digit d ≡ true → (d == n) ≡ false
digit_no_byte n d lt e = grind (arith, nat_tests)

-- digits have no point among them
past_digits : (ds rest : List ℕ) → list_all is_ascii_digit ds ≡ true
    → position_or_len is_point (ds ++ rest) ≡ length ds + position_or_len is_point rest
past_digits [] rest e = omega arith
past_digits (d ∷ ds) rest e =
    let parts = both (is_ascii_digit d) (list_all is_ascii_digit ds) e in
    let k : position_or_len is_point (ds ++ rest) ≡ length ds + position_or_len is_point rest =
    past_digits ds rest parts.1 in
    ap (λ (b : Bool). cond (not b) (1 + position_or_len is_point (ds ++ rest)) 0)
    (digit_no_byte 46 d (omega arith) parts.0)
    ∙ omega (arith, k)

at_place : (p n k : ℕ) → p ≡ k → k < n → cond (nat_lt p n) (Some p) None ≡ Some k
at_place p n k e lt =
    let t : nat_lt p n ≡ true = grind (arith, nat_tests) in
    ap (λ (b : Bool). cond b (Some p) None) t ∙ ap (λ (m : ℕ). Some m) e

no_place : (p n : ℕ) → p ≡ n → cond (nat_lt p n) (Some p) None ≡ None
no_place p n e = let t : nat_lt p n ≡ false = grind (arith, nat_tests)
    in ap (λ (b : Bool). cond b (Some p) None) t

passed : (ds rest : List ℕ) → list_all is_ascii_digit ds ≡ true
    → position is_point (ds ++ 46 ∷ rest) ≡ Some (length ds)
passed ds rest e =
    let k : position_or_len is_point (ds ++ 46 ∷ rest)
    ≡ length ds + 0 = past_digits ds (46 ∷ rest) e in
    at_place _ _ (length ds) (omega (arith, k)) (omega (arith, length-append ds (46 ∷ rest)))

nowhere : (ds : List ℕ) → list_all is_ascii_digit ds ≡ true → position is_point ds ≡ None
nowhere ds e =
    let k : position_or_len is_point (ds ++ []) ≡ length ds + 0 = past_digits ds [] e in
    let same : position_or_len is_point (ds ++ []) ≡ position_or_len is_point ds =
    ap (λ (xs : List ℕ). position_or_len is_point xs) (append-nil ds) in
    no_place _ _ (omega (arith, k, same))

-- ---- behind the sign

abbrev IsRest : Bool → List ℕ → Decimal → Type 0
IsRest negative text d =
    (whole : List ℕ)
    × (fraction : List ℕ)
    × (text ≡ whole ++ point_with fraction)
    × (are_digits whole ≡ true)
    × (list_all is_ascii_digit fraction ≡ true)
    × (d ≡ record {
      negative = negative;
      whole = digits_value whole;
      billionths
          = digits_value (nine_digits fraction);
    })

abbrev number : Bool → ℕ → ℕ → Decimal
number negative whole billionths = record
    { negative = negative; whole = whole; billionths = billionths }

-- what a test lets through
given : (b : Bool) (x d : Decimal) → cond b (Some x) None ≡ Some d → (b ≡ true) × (d ≡ x)
given true x d e = (refl, cc)
given false x d e = absurd cc

split_at_point : (text : List ℕ) (k : ℕ) → position is_point text ≡ Some k
    → text ≡ take k text ++ 46 ∷ drop (k + 1) text
split_at_point text k e =
    let found = position-Some is_point text k 0 e in
    let within : k < length text = found.0 in
    let point : get_or text k 0 ≡ 46 = grind (arith, nat_tests, found.1) in
    sym (take-append-drop k text)
    ∙ ap (λ (xs : List ℕ). take k text ++ xs)
    (rw (add-one, drop-cons text k 0) (ap (λ (c : ℕ). c ∷ drop (suc k) text) point))

rest_by : (negative : Bool) (text : List ℕ) (o : Option ℕ) (d : Decimal)
    → position is_point text ≡ o
    → unsigned_by negative text o ≡ Some d → IsRest negative text d
unfolding fraction_of
rest_by negative text None d at e =
    let g = given (are_digits text) (number negative (digits_value text) 0) d e in (
      text,
      [],
      sym (append-nil text),
      g.0,
      refl,
      g.1 ∙ ap (λ (n : ℕ). number negative (digits_value text) n) (sym no_billionths),
    )
rest_by negative text (Some k) d at e =
    let front = take k text in
    let back = drop (k + 1) text in
    let g = given (are_digits front && are_digits back)
    (number negative (digits_value front) (billionths_of back)) d e in
    let tests = both (are_digits front) (are_digits back) g.0 in (
      front,
      back,
      split_at_point text k at ∙ ap (λ (xs : List ℕ). front ++ xs) (sym (pointed back tests.1)),
      tests.0,
      (some_digits back tests.1).1,
      g.1 ∙ ap (λ (n : ℕ). number negative (digits_value front) n) (nine back),
    )

rest : (negative : Bool) (text : List ℕ) (d : Decimal) → unsigned_of negative text ≡ Some d
    → IsRest negative text d
unfolding unsigned_of
rest negative text d e = rest_by negative text (position is_point text) d refl e

signed_rest : (negative : Bool) (text : List ℕ) (d : Decimal) → IsRest negative text d
    → Spells (sign negative ++ text) d
signed_rest negative text d r =
    let (whole, fraction, parts, whole_digits, fraction_digits, is) = r in
    subst (Spells (sign negative ++ text)) (sym is) (record {
      whole = whole;
      fraction = fraction;
      parts = ap (λ (xs : List ℕ). sign negative ++ xs) parts
          ∙ sym (append_assoc (sign negative) whole (point_with fraction));
      whole_digits = whole_digits;
      fraction_digits = fraction_digits;
      whole_part = refl;
      billionths = refl;
    })

first_byte : (b : Bool) (c : ℕ) (cs : List ℕ) (d : Decimal) → (c == 45) ≡ b
    → cond b (unsigned_of true cs) (unsigned_of false (c ∷ cs)) ≡ Some d → Spells (c ∷ cs) d
first_byte true c cs d is e =
    let minus : c ≡ 45 = grind (arith, nat_tests) in
    subst (λ (x : ℕ). Spells (x ∷ cs) d) (sym minus) (signed_rest true cs d (rest true cs d e))
first_byte false c cs d is e = signed_rest false (c ∷ cs) d (rest false (c ∷ cs) d e)

pub spelled : (text : List ℕ) (d : Decimal) → decimal_of text ≡ Some d → Spells text d
unfolding decimal_of
spelled [] d e = signed_rest false [] d (rest false [] d e)
spelled (c ∷ cs) d e = first_byte (c == 45) c cs d refl e

-- ---- and back

through : (b : Bool) (x : Decimal) → b ≡ true → cond b (Some x) None ≡ Some x
through b x e = ap (λ (b : Bool). cond b (Some x) None) e

back_whole : (negative : Bool) (whole : List ℕ) → are_digits whole ≡ true
    → unsigned_of negative (whole ++ []) ≡ Some
    (number negative (digits_value whole) (digits_value (nine_digits [])))
unfolding unsigned_of
back_whole negative whole e =
    ap (λ (xs : List ℕ). unsigned_by negative xs (position is_point xs)) (append-nil whole)
    ∙ ap (unsigned_by negative whole) (nowhere whole (some_digits whole e).1)
    ∙ through (are_digits whole) (number negative (digits_value whole) 0) e
    ∙ ap (λ (n : ℕ). Some (number negative (digits_value whole) n)) (sym no_billionths)

digits_there : (f : ℕ) (fs : List ℕ) → list_all is_ascii_digit (f ∷ fs) ≡ true
    → are_digits (f ∷ fs) ≡ true
unfolding are_digits
digits_there f fs k =
    let t : nat_lt 0 (length (f ∷ fs)) ≡ true = grind (arith, nat_tests) in
    ap (λ (b : Bool). b && list_all is_ascii_digit (f ∷ fs)) t ∙ k

back_point : (negative : Bool) (whole : List ℕ) (f : ℕ) (fs : List ℕ) → are_digits whole ≡ true
    → list_all is_ascii_digit (f ∷ fs) ≡ true
    → unsigned_of negative (whole ++ 46 ∷ f ∷ fs)
    ≡ Some (number negative (digits_value whole) (digits_value (nine_digits (f ∷ fs))))
unfolding unsigned_of fraction_of
back_point negative whole f fs e k =
    let text = whole ++ 46 ∷ f ∷ fs in
    ap (unsigned_by negative text) (passed whole (f ∷ fs) (some_digits whole e).1)
    ∙ ap (λ (xs : List ℕ). fraction_of negative xs (drop (length whole + 1) text))
    (take-append_seam whole (46 ∷ f ∷ fs))
    ∙ ap (λ (xs : List ℕ). fraction_of negative whole xs) (drop-append-add whole (46 ∷ f ∷ fs) 1)
    ∙ ap (λ (b : Bool). cond (b && are_digits (f ∷ fs))
    (Some (number negative (digits_value whole) (billionths_of (f ∷ fs)))) None) e
    ∙ through (are_digits (f ∷ fs)) (number negative (digits_value whole) (billionths_of (f ∷ fs)))
    (digits_there f fs k)
    ∙ ap (λ (n : ℕ). Some (number negative (digits_value whole) n)) (nine (f ∷ fs))

back_rest : (negative : Bool) (whole fraction : List ℕ) → are_digits whole ≡ true
    → list_all is_ascii_digit fraction ≡ true
    → unsigned_of negative (whole ++ point_with fraction)
    ≡ Some (number negative (digits_value whole) (digits_value (nine_digits fraction)))
back_rest negative whole [] e k = back_whole negative whole e
back_rest negative whole (f ∷ fs) e k = back_point negative whole f fs e k

unsigned_first : (whole rest : List ℕ) → are_digits whole ≡ true
    → (slice_index (whole ++ rest) 0 == 45) ≡ false
unsigned_first [] rest e = absurd (true≢false (sym (some_digits [] e).0))
unsigned_first (d ∷ ds) rest e =
    digit_no_byte 45 d (omega arith) (both (is_ascii_digit d) (list_all is_ascii_digit ds)
    (some_digits (d ∷ ds) e).1).0

back_sign : (negative : Bool) (whole fraction : List ℕ) (o : Option Decimal)
    → are_digits whole ≡ true
    → unsigned_of negative (whole ++ point_with fraction) ≡ o
    → decimal_of (sign negative ++ whole ++ point_with fraction) ≡ o
unfolding decimal_of
back_sign true whole fraction o e k = k
back_sign false whole fraction o e k =
    let text = whole ++ point_with fraction in
    ap (λ (b : Bool). cond b (unsigned_of true (drop 1 text)) (unsigned_of false text))
    (unsigned_first whole (point_with fraction) e) ∙ k

pub given_back : (text : List ℕ) (d : Decimal) → Spells text d → decimal_of text ≡ Some d
given_back text d s =
    let same : number d.negative (digits_value s.whole) (digits_value (nine_digits s.fraction))
    ≡ d =
    λ i. record {
      negative = d.negative;
      whole = sym s.whole_part i;
      billionths
          = sym s.billionths i;
    } in
    ap decimal_of s.parts
    ∙ back_sign d.negative s.whole s.fraction (Some d) s.whole_digits
    (back_rest d.negative s.whole s.fraction s.whole_digits s.fraction_digits
    ∙ ap (λ (x : Decimal). Some x) same)
