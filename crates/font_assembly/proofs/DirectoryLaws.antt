-- A file's length, its checksum, and where its directory leads.
use Rattle.std.proofs.Common.{◌≡◌, ℕ, ◌+◌, ◌-◌, ◌*◌, ◌%◌, ◌^◌, ◌<◌, IsTrue, List, [], ◌∷◌, ◌++◌}
use Rattle.std.proofs.Common.{length, take, drop, refl, sym, ap, ◌∙◌, arith, length-append}
use Rattle.std.proofs.Common.{append_assoc}
use Rattle.std.proofs.lemmas.List.Elements.{All-tail, All-cons}
use Rattle.std.proofs.lemmas.Nat.{from_be_bytes-to_be_bytes_4}
use Rattle.std.specs.List.{All, list_all}
use Rattle.table_bytes.specs.DataTypes.{uint32}
use Rattle.font_assembly.specs.Checksum.{total, checksum}
use Rattle.font_assembly.specs.File.{Table, fits_head, unadjusted, room_of, room_of_all}
use Rattle.font_assembly.specs.File.{head_offset, directory_head, directory_entry}
use Rattle.font_assembly.specs.File.{directory_entries, bodies, first_offset, unadjusted_file}
use Rattle.font_assembly.specs.File.{with_word, adjustment, file, file_len}
use Rattle.font_assembly.specs.Directory.{AreTables, LeadsTo, bytes_at, uint32_at, tag_at}
use Rattle.font_assembly.specs.Directory.{checksum_at, offset_at, length_at}
use Rattle.font_assembly.proofs.TotalLemmas.{total-append}
use Rattle.font_assembly.proofs.FileLemmas.{length_unadjusted, total-cleared, and_first, and_second}
use Rattle.font_assembly.proofs.DirectoryLemmas.{found, number_found, three_parts, first_part}
use Rattle.font_assembly.proofs.DirectoryLemmas.{last_part, length_entries, entries-append}
use Rattle.font_assembly.proofs.DirectoryLemmas.{length_room, zeros_after, placed, placed_led}
use Rattle.font_assembly.proofs.DirectoryLemmas.{adjusted}

-- ---- lengths

length_head : (n : ℕ) → length (directory_head n) ≡ 12
unfolding directory_head
length_head n = refl

length_bodies : (ts : List Table) → IsTrue (list_all fits_head ts)
    → length (bodies ts) ≡ room_of_all ts
length_bodies [] fit = refl
length_bodies (t ∷ ts) fit =
    let fits = and_first (fits_head t) (list_all fits_head ts) fit in
    let here = length_room t (unadjusted t) (length_unadjusted t fits) fits in
    let rest = length_bodies ts (and_second (fits_head t) (list_all fits_head ts) fit) in
    omega (arith, length-append (unadjusted t ++ zeros_after t) (bodies ts), here, rest)

rooms-append : (before : List Table) (t : Table) (after : List Table)
    → room_of_all (before ++ t ∷ after) ≡ room_of_all before + (room_of t + room_of_all after)
rooms-append [] t after = omega arith
rooms-append (b ∷ before) t after = let rest = rooms-append before t after in omega (arith, rest)

rooms_are_fours : (ts : List Table) → room_of_all ts % 4 ≡ 0
rooms_are_fours [] = refl
rooms_are_fours (t ∷ ts) = let rest = rooms_are_fours ts in omega (arith, rest)

abbrev directory : List Table → List ℕ
directory ts = directory_head (length ts) ++ directory_entries ts (first_offset ts)

length_directory : (ts : List Table) → All (λ table. length table.tag ≡ 4) ts
    → length (directory ts) ≡ first_offset ts
length_directory ts tags = omega (
  arith,
  length-append (directory_head (length ts))
      (directory_entries ts (first_offset ts)),
  length_head (length ts),
  length_entries ts
      (first_offset ts) tags,
)

-- ---- the file in parts

-- the file is these bytes with the adjustment between them, and the unadjusted file the same with 0
record Parts (ts : List Table) : Type 0 where
  front : List ℕ
  back : List ℕ
  unadjusted_is : unadjusted_file ts ≡ front ++ (0 ∷ 0 ∷ 0 ∷ 0 ∷ []) ++ back
  file_is : file ts ≡ front ++ uint32 (adjustment (unadjusted_file ts)) ++ back
  tables : file ts ≡ directory ts ++ placed (adjustment (unadjusted_file ts)) ts
  fours : length front % 4 ≡ 0

word_set : (bytes front four back : List ℕ) (offset n : ℕ) → bytes ≡ front ++ four ++ back
    → offset ≡ length front
    → length four ≡ 4 → with_word bytes offset n ≡ front ++ uint32 n ++ back
word_set bytes front four back offset n e place long =
    let before : take offset bytes ≡ front =
    ap (take offset) (e ∙ append_assoc front four back)
    ∙ first_part front (four ++ back) offset place
    in
    let after : drop (offset + 4) bytes ≡ back =
    ap (drop (offset + 4)) e ∙ last_part (front ++ four) back (offset + 4)
    (omega (arith, length-append front four, place, long))
    in
    ap (λ xs. xs ++ uint32 n ++ drop (offset + 4) bytes) before
    ∙ ap (λ xs. front ++ uint32 n ++ xs) after

parts : (ts : List Table) → AreTables ts → Parts ts
unfolding file unadjusted_file
parts ts are =
    let n = adjustment (unadjusted_file ts) in
    let a = adjusted n (first_offset ts) ts are.head.0 are.head.1 in
    let zeros : List ℕ = 0 ∷ 0 ∷ 0 ∷ 0 ∷ [] in
    let len = length_directory ts are.tags in
    let both = length-append (directory ts) a.front in
    let with_zeros : unadjusted_file ts ≡ (directory ts ++ a.front) ++ zeros ++ a.back =
    ap (λ w. directory ts ++ w) a.cleared ∙ three_parts (directory ts) a.front zeros a.back
    in
    let with_number : file ts ≡ (directory ts ++ a.front) ++ uint32 n ++ a.back =
    word_set (unadjusted_file ts) (directory ts ++ a.front) zeros a.back
    (head_offset ts (first_offset ts) + 8) n with_zeros (omega (arith, both, len, a.place)) refl
    in
    record {
      front = directory ts ++ a.front;
      back = a.back;
      unadjusted_is = with_zeros;
      file_is = with_number;
      tables = with_number ∙ sym (ap (λ w. directory ts ++ w) a.set
          ∙ three_parts (directory ts) a.front (uint32 n) a.back);
      fours = omega (arith, both, len, a.fours);
    }

pub length_file : (ts : List Table) → AreTables ts → length (file ts) ≡ file_len ts
unfolding unadjusted_file
length_file ts are =
    let p = parts ts are in
    let n = adjustment (unadjusted_file ts) in
    let zeros : List ℕ = 0 ∷ 0 ∷ 0 ∷ 0 ∷ [] in
    let with_number = ap length p.file_is ∙ length-append (p.front ++ uint32 n) p.back in
    let with_zeros = ap length p.unadjusted_is ∙ length-append (p.front ++ zeros) p.back in
    let front_number = length-append p.front (uint32 n) in
    let front_zeros = length-append p.front zeros in
    let whole = length-append (directory ts) (bodies ts) in
    omega (
      arith,
      with_number,
      with_zeros,
      front_number,
      front_zeros,
      whole,
      length_directory ts
          are.tags,
      length_bodies ts are.head.1,
    )

-- ---- the checksum

total_number : (n : ℕ) → n < 2 ^ 32 → total (uint32 n) ≡ n
unfolding total
total_number n small = omega (arith, from_be_bytes-to_be_bytes_4 n small)

total_with : (front back : List ℕ) (n : ℕ) → length front % 4 ≡ 0 → n < 2 ^ 32
    → total (front ++ uint32 n ++ back) ≡ total front + n + total back
total_with front back n fours small =
    let longer : length (front ++ uint32 n) % 4
    ≡ 0 = omega (arith, length-append front (uint32 n), fours) in
    total-append (front ++ uint32 n) back longer
    ∙ ap (λ s. s + total back) (total-append front (uint32 n) fours
    ∙ ap (λ s. total front + s) (total_number n small))

adds_up : (front back whole n sum : ℕ) → whole ≡ front + back
    → n ≡ (0xB1B0AFBA + (2 ^ 32 - whole % 2 ^ 32)) % 2 ^ 32
    → sum ≡ front + n + back → sum % 2 ^ 32 ≡ 0xB1B0AFBA
adds_up front back whole n sum w e s = omega arith

pub checksum_file : (ts : List Table) → AreTables ts → checksum (file ts) ≡ 0xB1B0AFBA
checksum_file ts are =
    let p = parts ts are in
    let n = adjustment (unadjusted_file ts) in
    adds_up (total p.front) (total p.back) (total (unadjusted_file ts)) n (total (file ts))
    (ap total p.unadjusted_is ∙ total-cleared p.front p.back p.fours) refl
    (ap total p.file_is ∙ total_with p.front p.back n p.fours (omega arith))

-- ---- the records of the directory

tag_part : (h d t c o l e p : List ℕ) → (h ++ (d ++ (t ++ c ++ o ++ l) ++ e)) ++ p
    ≡ (h ++ d) ++ t ++ (c ++ o ++ l ++ e ++ p)
tag_part h d t c o l e p = simp append_assoc

checksum_part : (h d t c o l e p : List ℕ)
    → (h ++ (d ++ (t ++ c ++ o ++ l) ++ e)) ++ p ≡ (h ++ d ++ t) ++ c ++ (o ++ l ++ e ++ p)
checksum_part h d t c o l e p = simp append_assoc

offset_part : (h d t c o l e p : List ℕ)
    → (h ++ (d ++ (t ++ c ++ o ++ l) ++ e)) ++ p ≡ (h ++ d ++ t ++ c) ++ o ++ (l ++ e ++ p)
offset_part h d t c o l e p = simp append_assoc

length_part : (h d t c o l e p : List ℕ)
    → (h ++ (d ++ (t ++ c ++ o ++ l) ++ e)) ++ p ≡ (h ++ d ++ t ++ c ++ o) ++ l ++ (e ++ p)
length_part h d t c o l e p = simp append_assoc

tags_before : (before : List Table) (t : Table) (after : List Table)
    → All (λ table. length table.tag ≡ 4) (before ++ t ∷ after)
    → All (λ table. length table.tag ≡ 4) before
tags_before [] t after tags = λ k d h. absurd (omega arith)
tags_before (b ∷ before) t after tags =
    All-cons (λ (table : Table). length table.tag ≡ 4) b before (tags 0 b (omega arith))
    (tags_before before t after (All-tail (λ (table : Table). length table.tag ≡ 4) b
    (before ++ t ∷ after) tags))

tag_of : (before : List Table) (t : Table) (after : List Table)
    → All (λ table. length table.tag ≡ 4) (before ++ t ∷ after)
    → length t.tag ≡ 4
tag_of [] t after tags = tags 0 t (omega arith)
tag_of (b ∷ before) t after tags = tag_of before t after
    (All-tail (λ (table : Table). length table.tag ≡ 4) b (before ++ t ∷ after) tags)

pub leads : (before : List Table) (t : Table) (after : List Table) → AreTables (before ++ t ∷ after)
    → file_len (before ++ t ∷ after) < 2 ^ 32
    → LeadsTo (file (before ++ t ∷ after)) (length before) t
unfolding directory_entry
leads before t after are fits =
    let ts = before ++ t ∷ after in
    let k = length before in
    let p = parts ts are in
    let n = adjustment (unadjusted_file ts) in
    let start = first_offset ts in
    let offset = start + room_of_all before in
    let sum = checksum (unadjusted t) in
    let count = length t.bytes in
    let h = directory_head (length ts) in
    let d = directory_entries before start in
    let e = directory_entries after (offset + room_of t) in
    let tables = placed n ts in
    let rooms = rooms-append before t after in
    let twelve = length_head (length ts) in
    let four = tag_of before t after are.tags in
    let sixteens = length_entries before start (tags_before before t after are.tags) in
    let fours = rooms_are_fours before in
    let hd = length-append h d in
    let hdt = length-append (h ++ d) t.tag in
    let hdtc = length-append (h ++ d ++ t.tag) (uint32 sum) in
    let hdtco = length-append (h ++ d ++ t.tag ++ uint32 sum) (uint32 offset) in
    let whole : file ts ≡ (h ++ (d ++ (t.tag ++ uint32 sum ++ uint32 offset ++ uint32 count) ++ e))
    ++ tables =
    p.tables ∙ ap (λ entries. (h ++ entries) ++ tables) (entries-append before t after start)
    in
    let tag_is : tag_at (file ts) k ≡ t.tag =
    ap (λ f. bytes_at f (12 + 16 * k) 4) (whole
    ∙ tag_part h d t.tag (uint32 sum) (uint32 offset) (uint32 count) e tables)
    ∙ found (h ++ d) t.tag (uint32 sum ++ uint32 offset ++ uint32 count ++ e ++ tables)
    (12 + 16 * k) 4 (omega (arith, twelve, sixteens, hd)) (sym four) in
    let sum_is : checksum_at (file ts) k ≡ sum =
    ap (λ f. uint32_at f (16 + 16 * k)) (whole
    ∙ checksum_part h d t.tag (uint32 sum) (uint32 offset) (uint32 count) e tables)
    ∙ number_found (h ++ d ++ t.tag) (uint32 offset ++ uint32 count ++ e ++ tables) (16 + 16 * k)
    sum (omega (arith, twelve, sixteens, hd, hdt, four)) (omega arith) in
    let offset_is : offset_at (file ts) k ≡ offset =
    ap (λ f. uint32_at f (20 + 16 * k)) (whole
    ∙ offset_part h d t.tag (uint32 sum) (uint32 offset) (uint32 count) e tables)
    ∙ number_found (h ++ d ++ t.tag ++ uint32 sum) (uint32 count ++ e ++ tables) (20 + 16 * k)
    offset (omega (arith, twelve, sixteens, hd, hdt, hdtc, four)) (omega (arith, rooms, fits))
    in
    let count_is : length_at (file ts) k ≡ count =
    ap (λ f. uint32_at f (24 + 16 * k)) (whole
    ∙ length_part h d t.tag (uint32 sum) (uint32 offset) (uint32 count) e tables)
    ∙ number_found (h ++ d ++ t.tag ++ uint32 sum ++ uint32 offset) (e ++ tables) (24 + 16 * k)
    count (omega (arith, twelve, sixteens, hd, hdt, hdtc, hdtco, four))
    (omega (arith, rooms, fits)) in
    let led = placed_led n before t after are.head.1 in
    let len = length_directory ts are.tags in
    let both = length-append (directory ts) led.front in
    let body_is : bytes_at (file ts) offset count ≡ led.body =
    ap (λ f. bytes_at f offset count) (p.tables ∙ ap (λ w. directory ts ++ w) led.parts
    ∙ three_parts (directory ts) led.front led.body led.back)
    ∙ found (directory ts ++ led.front) led.body led.back offset count
    (omega (arith, both, len, led.before)) (sym led.long) in
    record {
      tag = tag_is;
      sum = sum_is;
      aligned = ap (λ o. o % 4) offset_is ∙ omega (arith, fours);
      len = count_is;
      bytes = (λ i. unadjusted (record {
        tag = tag_is i;
        bytes
            = bytes_at (file ts) (offset_is i) (count_is i);
      }))
          ∙ ap (λ bytes. unadjusted (record { tag = t.tag; bytes = bytes })) body_is ∙ led.same;
    }
