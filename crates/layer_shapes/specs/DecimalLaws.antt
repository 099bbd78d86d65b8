-- The parts of decimals that a source spells: a fraction is less than one, so that cutting the parts
-- of a decimal of a bounded size changes nothing. For proofs alone.
use Rattle.std.proofs.Common.{◌≡◌, ℕ, zero, suc, ◌-◌, ◌<◌, ◌≤◌, ◌%◌, ◌+◌, min, Bool, true}
use Rattle.std.proofs.Common.{false, ◌&&◌, ◌||◌, ◌==◌, nat_lt, cond, List, [], ◌∷◌, Option, Some, None}
use Rattle.std.proofs.Common.{take, drop, refl, sym, ap, ◌∙◌, subst, arith}
use Rattle.std.specs.Prelude.{slice_index, slice_index_or, position, option_and_then, option_map}
use Rattle.std.specs.Prelude.{IfSome, pos}
use Rattle.std.specs.List.{list_all}
use Rattle.std.specs.Char.{is_ascii_digit}
use Rattle.std.proofs.lemmas.Bool.Decides.{nat_tests}
use Rattle.plist_reader.specs.declared.tree.Tree.{Tree}
use Rattle.plist_reader.specs.Tree.{text_at}
use Rattle.fixed_math.specs.declared.Fixed.{Fixed}
use Rattle.source_values.specs.declared.decimals.Decimal.{Decimal}
use Rattle.source_values.specs.Decimals.{are_digits, digits_value, billionths_of, fraction_of}
use Rattle.source_values.specs.Decimals.{unsigned_by, unsigned_of, decimal_of, cut}
use Rattle.source_values.specs.Values.{decimal_at}
use Rattle.layer_shapes.specs.Placing.{nearest, is_at_most, without_full_turns}
use Rattle.layer_shapes.specs.LayerReading.{bounded_by}

-- ---- a fraction is less than one

digit_small : (digits : List ℕ) (k : ℕ) → list_all is_ascii_digit digits ≡ true
    → slice_index_or digits k 48 - 48 ≤ 9
digit_small [] k e = omega arith
digit_small (d ∷ ds) zero e = grind (arith, nat_tests)
digit_small (d ∷ ds) (suc k) e = digit_small ds k (rest (is_ascii_digit d) e)
  where
    rest : (b : Bool) → (b && list_all is_ascii_digit ds) ≡ true
        → list_all is_ascii_digit ds ≡ true
    rest true h = h
    rest false h = absurd cc

nine_small : (digits : List ℕ) → list_all is_ascii_digit digits ≡ true
    → billionths_of digits < 1000000000
unfolding billionths_of
nine_small digits e =
    omega (
      arith,
      digit_small digits 0 e,
      digit_small digits 1 e,
      digit_small digits 2 e,
      digit_small digits 3 e,
      digit_small digits 4 e,
      digit_small digits 5 e,
      digit_small digits 6 e,
      digit_small digits 7 e,
      digit_small digits 8 e,
    )

all_digits : (some : Bool) (digits : List ℕ) → (some && list_all is_ascii_digit digits) ≡ true
    → list_all is_ascii_digit digits ≡ true
all_digits true digits e = e
all_digits false digits e = absurd cc

fraction_small : (digits : List ℕ) → are_digits digits ≡ true → billionths_of digits < 1000000000
unfolding are_digits
fraction_small digits e = nine_small digits (all_digits _ digits e)

abbrev decimal : Bool → ℕ → ℕ → Decimal
decimal negative whole billionths =
    record { negative = negative; whole = whole; billionths = billionths }

made_small : (a b negative : Bool) (whole n : ℕ) (d : Decimal) → (b ≡ true → n < 1000000000)
    → cond (a && b) (Some (decimal negative whole n)) None ≡ Some d → d.billionths < 1000000000
made_small true true negative whole n d h e =
    let same : decimal negative whole n ≡ d = cc in
    subst (λ (x : Decimal). x.billionths < 1000000000) same (h refl)
made_small true false negative whole n d h e = absurd cc
made_small false b negative whole n d h e = absurd cc

unsigned_small : (negative : Bool) (text : List ℕ) (o : Option ℕ) (d : Decimal)
    → unsigned_by negative text o ≡ Some d
    → d.billionths < 1000000000
unfolding fraction_of
unsigned_small negative text None d e =
    made_small true (are_digits text) negative (digits_value text) 0 d (λ h. omega arith) e
unsigned_small negative text (Some point) d e =
    made_small (are_digits (take point text)) (are_digits (drop (point + 1) text)) negative
    (digits_value (take point text)) (billionths_of (drop (point + 1) text)) d
    (fraction_small (drop (point + 1) text)) e

signed_small : (b : Bool) (text : List ℕ) (d : Decimal)
    → cond b (unsigned_of true (drop 1 text)) (unsigned_of false text) ≡ Some d
    → d.billionths < 1000000000
unfolding unsigned_of
signed_small true text d e =
    unsigned_small true (drop 1 text) (position (λ byte. byte == 46) (drop 1 text)) d e
signed_small false text d e =
    unsigned_small false text (position (λ byte. byte == 46) text) d e

pub decimal_small : (text : List ℕ) (d : Decimal) → decimal_of text ≡ Some d
    → d.billionths < 1000000000
unfolding decimal_of
decimal_small text d e = signed_small (slice_index text 0 == 45) text d e

text_small : (o : Option (List ℕ)) (d : Decimal) → option_and_then decimal_of o ≡ Some d
    → d.billionths < 1000000000
text_small None d e = absurd cc
text_small (Some text) d e = decimal_small text d e

pub value_small : (t : Tree) (n : ℕ) (d : Decimal) → decimal_at t n ≡ Some d
    → d.billionths < 1000000000
unfolding decimal_at
value_small t n d e = text_small (text_at t.nodes n) d e

-- ---- decimals whose parts are cut

same_parts : (d : Decimal) (whole billionths : ℕ) → whole ≡ d.whole → billionths ≡ d.billionths
    → decimal d.negative whole billionths ≡ d
same_parts d whole billionths e h =
    ap (λ (w : ℕ). decimal d.negative w billionths) e
    ∙ ap (λ (b : ℕ). decimal d.negative d.whole b) h

at_most_whole : (bound whole billionths : ℕ) → bound ≤ 16383
    → (nat_lt (min whole 1000000000) bound
    || ((min whole 1000000000 == bound) && (min billionths 1000000000 == 0)))
    ≡ true
    → whole ≤ 16383
at_most_whole bound whole billionths le e = grind (arith, nat_tests)

-- a decimal that is read is as the source spells it, where it is at most so much in size
bounded_same : (bound : ℕ) (d : Decimal) → bound ≤ 16383 → d.billionths < 1000000000
    → is_at_most bound (cut d) ≡ true
    → cut d ≡ d
bounded_same bound d le small e =
    let whole : d.whole ≤ 16383 = at_most_whole bound d.whole d.billionths le e in
    same_parts d (min d.whole 1000000000) (min d.billionths 1000000000) (omega arith) (omega arith)

pub bounded_read : (bound : ℕ) (o : Option Decimal) (x : Decimal) → bound ≤ 16383
    → ((d : Decimal) → o ≡ Some d → d.billionths < 1000000000)
    → Some x ≡ option_map cut o
    → is_at_most bound x ≡ true
    → nearest x ≡ bounded_by bound o
bounded_read bound None x le small e h = absurd cc
bounded_read bound (Some d) x le small e h =
    let cut_so : x ≡ cut d = cc in
    let same : cut d ≡ d =
    bounded_same bound d le (small d refl)
    (subst (λ (y : Decimal). is_at_most bound y ≡ true) cut_so h) in
    let is : is_at_most bound d ≡ true =
    subst (λ (y : Decimal). is_at_most bound y ≡ true) (cut_so ∙ same) h in
    ap nearest (cut_so ∙ same)
    ∙ sym (ap (λ (b : Bool). cond b (nearest d) (let zero : Fixed = record { 0 = pos 0 } in zero))
    is)

-- an angle that is read is as the source spells it, but for its full turns
pub angle_read : (text : List ℕ) (o : Option Decimal) (x : Decimal) (whole : ℕ)
    → decimal_of text ≡ o
    → Some x ≡ option_map cut o
    → IfSome o (λ d. whole ≡ d.whole % 360)
    → Some (decimal x.negative whole x.billionths) ≡ option_map without_full_turns o
angle_read text None x whole is e h = absurd cc
angle_read text (Some d) x whole is e h =
    let cut_so : x ≡ cut d = cc in
    let small = decimal_small text d is in
    let sign : x.negative ≡ d.negative = ap (λ (y : Decimal). y.negative) cut_so in
    let parts : x.billionths ≡ d.billionths =
    ap (λ (y : Decimal). y.billionths) cut_so ∙ omega arith in
    ap (λ (b : Bool). Some (decimal b whole x.billionths)) sign
    ∙ ap (λ (w : ℕ). Some (decimal d.negative w x.billionths)) h
    ∙ ap (λ (b : ℕ). Some (decimal d.negative (d.whole % 360) b)) parts
