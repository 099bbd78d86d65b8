-- The parts of a file, and where they stand in it.
use Rattle.std.proofs.Common.{◌≡◌, ℕ, ◌+◌, ◌*◌, ◌%◌, ◌^◌, ◌<◌, ◌≤◌, Bool, true, false, ⊎_elim}
use Rattle.std.proofs.Common.{IsTrue, List, [], ◌∷◌, ◌++◌, length, replicate, take, drop, refl, ap}
use Rattle.std.proofs.Common.{◌∙◌, arith, length-append, length-drop, append_assoc}
use Rattle.std.proofs.lemmas.List.{length-take, length-replicate}
use Rattle.std.proofs.Math.Seq.{take-append_seam, drop-append_seam}
use Rattle.std.proofs.lemmas.List.Elements.{All-tail}
use Rattle.std.proofs.lemmas.Bool.{cases_Bool}
use Rattle.std.proofs.lemmas.Nat.{from_be_bytes-to_be_bytes_4}
use Rattle.std.specs.Prelude.{if◌then◌else◌}
use Rattle.std.specs.Int.{w32, from_be_bytes}
use Rattle.std.specs.List.{All, list_any, list_all}
use Rattle.table_bytes.specs.DataTypes.{uint32, padding}
use Rattle.font_assembly.specs.File.{Table, is_head, fits_head, unadjusted, room_of, room_of_all}
use Rattle.font_assembly.specs.File.{head_offset, directory_entry, directory_entries, bodies}
use Rattle.font_assembly.specs.Directory.{bytes_at, uint32_at}
use Rattle.font_assembly.proofs.FileLemmas.{head_has_54, length_unadjusted, and_first, and_second}

-- ---- bytes at a place

-- bytes that stand after so many others
pub found : (before part after : List ℕ) (place count : ℕ) → place ≡ length before
    → count ≡ length part
    → bytes_at (before ++ part ++ after) place count ≡ part
found before part after place count p c =
    rw (
      append_assoc before part after,
      p,
      c,
      drop-append_seam before (part ++ after),
      take-append_seam part after,
    ) refl

pub three_parts : (a b c d : List ℕ) → a ++ (b ++ c ++ d) ≡ (a ++ b) ++ c ++ d
three_parts a b c d = simp append_assoc

four_parts : (a b c d e : List ℕ) → ((a ++ b ++ c) ++ d) ++ e ≡ a ++ b ++ (c ++ d ++ e)
four_parts a b c d e = simp append_assoc

pub number_found : (before after : List ℕ) (place n : ℕ) → place ≡ length before → n < 2 ^ 32
    → uint32_at (before ++ uint32 n ++ after) place ≡ n
number_found before after place n p small =
    ap (from_be_bytes w32) (found before (uint32 n) after place 4 p refl)
    ∙ from_be_bytes-to_be_bytes_4 n small

-- ---- the directory

pub length_entries : (ts : List Table) (offset : ℕ) → All (λ table. length table.tag ≡ 4) ts
    → length (directory_entries ts offset) ≡ 16 * length ts
unfolding directory_entry
length_entries [] offset tags = refl
length_entries (t ∷ ts) offset tags =
    let four : length t.tag ≡ 4 = tags 0 t (omega arith) in
    let rest = length_entries ts (offset + room_of t)
    (All-tail (λ (table : Table). length table.tag ≡ 4) t ts tags) in
    simp length-append (omega (arith, four, rest))

pub entries-append : (before : List Table) (t : Table) (after : List Table) (offset : ℕ)
    → directory_entries (before ++ t ∷ after) offset
    ≡ directory_entries before offset ++ directory_entry t (offset + room_of_all before)
    ++ directory_entries after (offset + room_of_all before + room_of t)
entries-append [] t after offset =
    let same : offset ≡ offset + 0 = omega arith in
    ap (λ o. directory_entry t o ++ directory_entries after (o + room_of t)) same
entries-append (b ∷ before) t after offset =
    let same : offset + room_of b + room_of_all before
    ≡ offset + (room_of b + room_of_all before) = omega arith in
    ap (λ rest. directory_entry b offset ++ rest)
    (entries-append before t after (offset + room_of b))
    ∙ three_parts (directory_entry b offset) (directory_entries before (offset + room_of b))
    (directory_entry t (offset + room_of b + room_of_all before))
    (directory_entries after (offset + room_of b + room_of_all before + room_of t))
    ∙ ap (λ o. (directory_entry b offset ++ directory_entries before (offset + room_of b))
    ++ directory_entry t o ++ directory_entries after (o + room_of t)) same

-- ---- the tables

-- the zeros after a table
abbrev pub zeros_after : Table → List ℕ
zeros_after t = replicate (padding (length (unadjusted t))) 0

-- bytes with four others in the place of checksumAdjustment
abbrev pub with_four : List ℕ → List ℕ → List ℕ
with_four bytes four = take 8 bytes ++ four ++ drop 12 bytes

-- the padded tables, with a number as the checksumAdjustment of the first 'head'
abbrev pub placed : ℕ → List Table → List ℕ
placed n [] = []
placed n (t ∷ ts) = if is_head t then (with_four t.bytes (uint32 n) ++ zeros_after t)
    ++ bodies ts else (unadjusted t ++ zeros_after t) ++ placed n ts

length-with_four : (bytes four : List ℕ) → 12 ≤ length bytes → length four ≡ 4
    → length (with_four bytes four) ≡ length bytes
length-with_four bytes four long e = simp (length-append, length-take, length-drop) (omega arith)

pub first_part : (xs ys : List ℕ) (n : ℕ) → n ≡ length xs → take n (xs ++ ys) ≡ xs
first_part xs ys n e = rw (e, take-append_seam xs ys) refl

pub last_part : (xs ys : List ℕ) (n : ℕ) → n ≡ length xs → drop n (xs ++ ys) ≡ ys
last_part xs ys n e = rw (e, drop-append_seam xs ys) refl

cleared : (bytes four : List ℕ) → 12 ≤ length bytes → length four ≡ 4
    → with_four (with_four bytes four) (0 ∷ 0 ∷ 0 ∷ 0 ∷ []) ≡ with_four bytes (0 ∷ 0 ∷ 0 ∷ 0 ∷ [])
cleared bytes four long e =
    let eight : 8 ≡ length (take 8 bytes) = omega (arith, length-take 8 bytes) in
    let twelve : 12 ≡ length (take 8 bytes ++ four)
    = omega (arith, length-take 8 bytes, length-append (take 8 bytes) four) in
    let front : take 8 (with_four bytes four) ≡ take 8 bytes =
    ap (take 8) (append_assoc (take 8 bytes) four (drop 12 bytes))
    ∙ first_part (take 8 bytes) (four ++ drop 12 bytes) 8 eight
    in
    let back : drop 12 (with_four bytes four)
    ≡ drop 12 bytes = last_part (take 8 bytes ++ four) (drop 12 bytes) 12 twelve in
    ap (λ xs. xs ++ (0 ∷ 0 ∷ 0 ∷ 0 ∷ []) ++ drop 12 (with_four bytes four)) front
    ∙ ap (λ xs. take 8 bytes ++ (0 ∷ 0 ∷ 0 ∷ 0 ∷ []) ++ xs) back

-- whatever the four bytes of checksumAdjustment are, they don't count
unadjusted_with : (t : Table) (four : List ℕ) → is_head t ≡ true → IsTrue (fits_head t)
    → length four ≡ 4
    → unadjusted (record { tag = t.tag; bytes = with_four t.bytes four }) ≡ unadjusted t
unadjusted_with t four it long e =
    let fifty_four : length t.bytes ≡ 54 = head_has_54 t it long in
    rw it (cleared t.bytes four (omega arith) e)

unadjusted_twice : (t : Table) → IsTrue (fits_head t)
    → unadjusted (record { tag = t.tag; bytes = unadjusted t }) ≡ unadjusted t
unadjusted_twice t long =
    ⊎_elim
    (λ (it : is_head t ≡ true). let fifty_four : length t.bytes ≡ 54 = head_has_54 t it long
    in rw it (cleared t.bytes (0 ∷ 0 ∷ 0 ∷ 0 ∷ []) (omega arith) refl))
    (λ (other : is_head t ≡ false). rw other refl)
    (cases_Bool (is_head t))

-- in some bytes those of a table stand after so many others
pub record Led (whole : List ℕ) (t : Table) (room : ℕ) : Type 0 where
  pub front : List ℕ
  pub body : List ℕ
  pub back : List ℕ
  pub parts : whole ≡ front ++ body ++ back
  pub before : length front ≡ room
  pub long : length body ≡ length t.bytes
  pub same : unadjusted (record { tag = t.tag; bytes = body }) ≡ unadjusted t

behind : (part whole : List ℕ) (t : Table) (room more : ℕ) → length part ≡ room → Led whole t more
    → Led (part ++ whole) t (room + more)
behind part whole t room more e led = record {
  front = part ++ led.front;
  body = led.body;
  back = led.back;
  parts = ap (λ w. part ++ w) led.parts ∙ three_parts part led.front led.body led.back;
  before = omega (arith, length-append part led.front, e, led.before);
  long = led.long;
  same = led.same;
}

pub length_room : (t : Table) (bytes : List ℕ) → length bytes ≡ length t.bytes
    → IsTrue (fits_head t)
    → length (bytes ++ zeros_after t) ≡ room_of t
length_room t bytes e long =
    let same = length_unadjusted t long in
    simp (length-append, length-replicate, same) (omega arith)

bodies_led : (before : List Table) (t : Table) (after : List Table)
    → IsTrue (list_all fits_head (before ++ t ∷ after))
    → Led (bodies (before ++ t ∷ after)) t (room_of_all before)
bodies_led [] t after fit = record {
  front = [];
  body = unadjusted t;
  back = zeros_after t ++ bodies after;
  parts = append_assoc (unadjusted t) (zeros_after t) (bodies after);
  before = refl;
  long = length_unadjusted t (and_first (fits_head t) (list_all fits_head after) fit);
  same = unadjusted_twice t (and_first (fits_head t) (list_all fits_head after) fit);
}
bodies_led (b ∷ before) t after fit =
    let fits = and_first (fits_head b) (list_all fits_head (before ++ t ∷ after)) fit in
    behind (unadjusted b ++ zeros_after b) (bodies (before ++ t ∷ after)) t (room_of b)
    (room_of_all before)
    (length_room b (unadjusted b) (length_unadjusted b fits) fits)
    (bodies_led before t after (and_second (fits_head b) (list_all fits_head (before ++ t ∷ after))
    fit))

long_head : (t : Table) (n : ℕ) → is_head t ≡ true → IsTrue (fits_head t)
    → length (with_four t.bytes (uint32 n)) ≡ length t.bytes
long_head t n it long =
    let fifty_four : length t.bytes ≡ 54 = head_has_54 t it long in
    length-with_four t.bytes (uint32 n) (omega arith) refl

placed_head : (n : ℕ) (t : Table) (ts : List Table) → is_head t ≡ true
    → placed n (t ∷ ts) ≡ (with_four t.bytes (uint32 n) ++ zeros_after t) ++ bodies ts
placed_head n t ts it = ap (λ (b : Bool). if b then (with_four t.bytes (uint32 n) ++ zeros_after t)
    ++ bodies ts else (unadjusted t ++ zeros_after t) ++ placed n ts) it

placed_other : (n : ℕ) (t : Table) (ts : List Table) → is_head t ≡ false
    → placed n (t ∷ ts) ≡ (unadjusted t ++ zeros_after t) ++ placed n ts
placed_other n t ts other = ap (λ (b : Bool). if b then
    (with_four t.bytes (uint32 n) ++ zeros_after t)
    ++ bodies ts else (unadjusted t ++ zeros_after t) ++ placed n ts) other

moved : (xs ys : List ℕ) (t : Table) (room : ℕ) → xs ≡ ys → Led ys t room → Led xs t room
moved xs ys t room e led = record {
  front = led.front;
  body = led.body;
  back = led.back;
  parts = e ∙ led.parts;
  before = led.before;
  long = led.long;
  same = led.same;
}

pub placed_led : (n : ℕ) (before : List Table) (t : Table) (after : List Table)
    → IsTrue (list_all fits_head (before ++ t ∷ after))
    → Led (placed n (before ++ t ∷ after)) t (room_of_all before)
placed_led n [] t after fit =
    let fits = and_first (fits_head t) (list_all fits_head after) fit in
    ⊎_elim
    (λ (it : is_head t ≡ true). record {
      front = [];
      body = with_four t.bytes (uint32 n);
      back = zeros_after t ++ bodies after;
      parts = placed_head n t after it ∙ append_assoc (with_four t.bytes (uint32 n)) (zeros_after t)
          (bodies after);
      before = refl;
      long = long_head t n it fits;
      same = unadjusted_with t (uint32 n) it fits refl;
    })
    (λ (other : is_head t ≡ false). record {
      front = [];
      body = unadjusted t;
      back = zeros_after t ++ placed n after;
      parts = placed_other n t after other ∙ append_assoc (unadjusted t) (zeros_after t)
          (placed n after);
      before = refl;
      long = length_unadjusted t fits;
      same = unadjusted_twice t fits;
    })
    (cases_Bool (is_head t))
placed_led n (b ∷ before) t after fit =
    let fits = and_first (fits_head b) (list_all fits_head (before ++ t ∷ after)) fit in
    let others = and_second (fits_head b) (list_all fits_head (before ++ t ∷ after)) fit in
    ⊎_elim
    (λ (it : is_head b ≡ true).
    moved (placed n (b ∷ before ++ t ∷ after))
    ((with_four b.bytes (uint32 n) ++ zeros_after b) ++ bodies (before ++ t ∷ after)) t
    (room_of b + room_of_all before) (placed_head n b (before ++ t ∷ after) it)
    (behind (with_four b.bytes (uint32 n) ++ zeros_after b) (bodies (before ++ t ∷ after)) t
    (room_of b) (room_of_all before)
    (length_room b (with_four b.bytes (uint32 n)) (long_head b n it fits) fits)
    (bodies_led before t after others)))
    (λ (other : is_head b ≡ false).
    moved (placed n (b ∷ before ++ t ∷ after))
    ((unadjusted b ++ zeros_after b) ++ placed n (before ++ t ∷ after)) t
    (room_of b + room_of_all before) (placed_other n b (before ++ t ∷ after) other)
    (behind (unadjusted b ++ zeros_after b) (placed n (before ++ t ∷ after)) t (room_of b)
    (room_of_all before)
    (length_room b (unadjusted b) (length_unadjusted b fits) fits)
    (placed_led n before t after others)))
    (cases_Bool (is_head b))

-- ---- checksumAdjustment

-- where it stands: the bytes before it and after it, with 0 and with a number there
pub record Adjusted (n offset : ℕ) (ts : List Table) : Type 0 where
  pub front : List ℕ
  pub back : List ℕ
  pub cleared : bodies ts ≡ front ++ (0 ∷ 0 ∷ 0 ∷ 0 ∷ []) ++ back
  pub set : placed n ts ≡ front ++ uint32 n ++ back
  pub place : offset + length front ≡ head_offset ts offset + 8
  pub fours : length front % 4 ≡ 0

pub adjusted : (n offset : ℕ) (ts : List Table) → IsTrue (list_any is_head ts)
    → IsTrue (list_all fits_head ts) → Adjusted n offset ts
adjusted n offset [] there fit = cc
adjusted n offset (t ∷ ts) there fit =
    let fits = and_first (fits_head t) (list_all fits_head ts) fit in
    let room = length_room t (unadjusted t) (length_unadjusted t fits) fits in
    ⊎_elim
    (λ (it : is_head t ≡ true).
    let fifty_four : length t.bytes ≡ 54 = head_has_54 t it fits in
    let eight : length (take 8 t.bytes) ≡ 8 = omega (arith, length-take 8 t.bytes) in
    let here : head_offset (t ∷ ts) offset
    ≡ offset = ap (λ (b : Bool). if b then offset else head_offset ts (offset + room_of t)) it
    in
    let bytes : unadjusted t ≡ with_four t.bytes (0 ∷ 0 ∷ 0 ∷ 0 ∷ []) =
    ap (λ (b : Bool). if b then with_four t.bytes (0 ∷ 0 ∷ 0 ∷ 0 ∷ []) else t.bytes) it
    in
    record {
      front = take 8 t.bytes;
      back = drop 12 t.bytes ++ zeros_after t ++ bodies ts;
      cleared = ap (λ xs. (xs ++ zeros_after t) ++ bodies ts) bytes
          ∙ four_parts (take 8 t.bytes) (0 ∷ 0 ∷ 0 ∷ 0 ∷ []) (drop 12 t.bytes) (zeros_after t)
          (bodies ts);
      set = placed_head n t ts it ∙ four_parts (take 8 t.bytes) (uint32 n) (drop 12 t.bytes)
          (zeros_after t) (bodies ts);
      place = omega (arith, eight, here);
      fours = omega (arith, eight);
    })
    (λ (other : is_head t ≡ false).
    let more : IsTrue (list_any is_head ts) = rw other at there in
    let rest = adjusted n (offset + room_of t) ts more
    (and_second (fits_head t) (list_all fits_head ts) fit) in
    let later : head_offset (t ∷ ts) offset ≡ head_offset ts (offset + room_of t) =
    ap (λ (b : Bool). if b then offset else head_offset ts (offset + room_of t)) other
    in
    let whole = length-append (unadjusted t ++ zeros_after t) rest.front in
    let fours : room_of t % 4 ≡ 0 = omega arith in
    record {
      front = (unadjusted t ++ zeros_after t) ++ rest.front;
      back = rest.back;
      cleared = ap (λ w. (unadjusted t ++ zeros_after t) ++ w) rest.cleared
          ∙ three_parts (unadjusted t ++ zeros_after t) rest.front (0 ∷ 0 ∷ 0 ∷ 0 ∷ []) rest.back;
      set = placed_other n t ts other ∙ ap (λ w. (unadjusted t ++ zeros_after t) ++ w) rest.set
          ∙ three_parts (unadjusted t ++ zeros_after t) rest.front (uint32 n) rest.back;
      place = omega (arith, whole, room, rest.place, later);
      fours = omega (arith, whole, room, rest.fours, fours);
    })
    (cases_Bool (is_head t))
