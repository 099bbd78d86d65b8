-- Places of MemFiles as paths: what a change of one place does to the paths.
use Rattle.std.proofs.Common.{◌≡◌, ℕ, ◌+◌, ◌<◌, ◌≤◌, Bool, cond, List, [], ◌∷◌, ◌++◌, length}
use Rattle.std.proofs.Common.{get_or, take, map, Option, Some, None, refl, sym, ap, ◌∙◌, zero-add}
use Rattle.std.proofs.Common.{arith}
use Rattle.std.specs.List.{position_from}
use Rattle.std.specs.Str.{bytes_eq}
use Rattle.std.proofs.Math.ListN.{set, get_or-map}
use Rattle.std.proofs.Math.Seq.{take-set-lt}
use Rattle.std.proofs.lemmas.List.{map-set, map-append, take_more_set, get_or-take, length-map}
use Rattle.std.proofs.lemmas.List.{length-take, length-take-le}
use Rattle.outside_io.specs.Memory.{Memory, number_of, bytes_at, with_bytes}
use Rattle.outside_io.proofs.Paths.{stands_from_number, new_from_number}
use Rattle.outside_io.specs.Slots.{shown}
use Rattle.outside_io.specs.declared.mem_files.Slot.{Slot}

position_from-map : {A B : Type 0} (test : B → Bool) (f : A → B) (k : ℕ) (xs : List A)
    → position_from test k (map f xs) ≡ position_from (λ x. test (f x)) k xs
position_from-map test f k [] = refl
position_from-map test f k (x ∷ xs) = ap (cond (test (f x)) (Some k))
    (position_from-map test f (k + 1) xs)

-- the number of a path is that of its place
pub number_of-shown : (slots : List Slot) (path : List ℕ)
    → number_of (map shown slots) path ≡ position_from (λ slot. bytes_eq slot.name.items path) 0
    slots
number_of-shown slots path = position_from-map (λ entry. bytes_eq entry.0 path) shown 0 slots

-- a place that is used shows another path once it is changed
pub shown-set : (slots : List Slot) (used i : ℕ) (slot : Slot) → i < used
    → map shown (take used (set slots i slot)) ≡ set (map shown (take used slots)) i (shown slot)
shown-set slots used i slot h = ap (map shown) (take-set-lt used slots i slot h)
    ∙ map-set shown (take used slots) i slot

-- the first place that isn't used shows a new path
pub shown-new : (slots : List Slot) (used : ℕ) (slot : Slot) → used < length slots
    → map shown (take (used + 1) (set slots used slot))
    ≡ map shown (take used slots) ++ shown slot ∷ []
shown-new slots used slot h = ap (map shown) (take_more_set slots used slot h)
    ∙ map-append shown (take used slots) (slot ∷ [])

module _ (slots : List Slot) (used : ℕ) (path : List ℕ) (paths : List (List ℕ × List ℕ))
    (shows : map shown (take used slots) ≡ paths) where
  -- the places that are used are as many as the paths
  pub length-shown : used ≤ length slots → length paths ≡ used
  length-shown h = sym (ap length shows) ∙ length-map (take used slots) shown
      ∙ length-take-le used slots h

  -- a path's place is one of those that are used
  pub number-used : (i : ℕ) → number_of paths path ≡ Some i → i < used
  number-used i n =
      let at = stands_from_number paths path i n in
      omega (
        arith,
        at.within,
        sym (ap length shows)
            ∙ length-map (take used slots) shown,
        length-take used slots,
      )

  -- it shows the path
  pub shown-at : (i : ℕ) (slot : Slot) → number_of paths path ≡ Some i → slot ≡ get_or slots i slot
      → get_or paths i (shown slot) ≡ shown slot
  shown-at i slot n here =
      sym (ap (λ ps. get_or ps i (shown slot)) shows)
      ∙ get_or-map shown (take used slots) i slot
      ∙ ap shown (get_or-take used slots i slot (number-used i n))
      ∙ ap shown (sym here)

  -- it holds the path's bytes
  pub bytes-at : (i : ℕ) (slot : Slot) → number_of paths path ≡ Some i → slot ≡ get_or slots i slot
      → bytes_at paths path ≡ Some slot.bytes.items
  bytes-at i slot n here = (stands_from_number paths path i n).present (shown slot)
      ∙ ap (λ (e : List ℕ × List ℕ). Some e.1) (shown-at i slot n here)

  -- with other bytes in it, the path has them
  pub changed-at : (i : ℕ) (slot new : Slot) → number_of paths path ≡ Some i
      → slot ≡ get_or slots i slot → new.name.items ≡ slot.name.items
      → map shown (take used (set slots i new)) ≡ with_bytes paths path new.bytes.items
  changed-at i slot new n here same_name =
      shown-set slots used i new (number-used i n)
      ∙ ap (λ ps. set ps i (shown new)) shows
      ∙ ap (λ name. set paths i (name, new.bytes.items))
      (same_name ∙ sym (ap (λ (e : List ℕ × List ℕ). e.0) (shown-at i slot n here)))
      ∙ sym ((stands_from_number paths path i n).in_place (shown slot) new.bytes.items)

  -- a new path has the bytes of the next place
  pub new-at : (new : Slot) → number_of paths path ≡ None → used < length slots
      → new.name.items ≡ path → map shown (take (used + 1) (set slots used new))
      ≡ with_bytes paths path new.bytes.items
  new-at new n h name =
      shown-new slots used new h
      ∙ ap (λ ps. ps ++ shown new ∷ []) shows
      ∙ ap (λ p. paths ++ (p, new.bytes.items) ∷ []) name
      ∙ sym ((new_from_number paths path n).comes_last new.bytes.items)

  -- and that place's number
  pub new-number : (bytes : List ℕ) → number_of paths path ≡ None → used ≤ length slots
      → number_of (with_bytes paths path bytes) path ≡ Some used
  new-number bytes n h = (new_from_number paths path n).number 0 bytes
      ∙ ap Some (omega (arith, length-shown h))

-- a path that was given bytes keeps its number
pub kept-number : (paths : List (List ℕ × List ℕ)) (path : List ℕ) (i : ℕ) (bytes : List ℕ)
    → number_of paths path ≡ Some i → number_of (with_bytes paths path bytes) path ≡ Some i
kept-number paths path i bytes n = (stands_from_number paths path i n).number 0 bytes
    ∙ ap Some (zero-add i)

-- a memory with other paths
abbrev pub with_paths : Memory → List (List ℕ × List ℕ) → Memory
with_paths m paths = record m { paths = paths }

-- a memory with other paths and other room
abbrev pub with_paths_and_room : Memory → List (List ℕ × List ℕ) → ℕ → Memory
with_paths_and_room m paths room = record m { paths = paths; room = room }
