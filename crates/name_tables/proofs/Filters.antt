-- The first so many of what a test keeps.
use Rattle.std.proofs.Common.{◌≡◌, ℕ, zero, suc, ◌+◌, ◌-◌, ◌<◌, ◌≤◌, Bool, true, false, List, []}
use Rattle.std.proofs.Common.{◌∷◌, ◌++◌, length, get_or, take, drop, sym, ap, ◌∙◌, refl}
use Rattle.std.proofs.Common.{append_assoc, append-nil, arith, length-append}
use Rattle.std.proofs.lemmas.List.{drop_more, at_drop_all}
use Rattle.std.specs.Prelude.{◌&&◌, cond, nat_lt, if◌then◌else◌}
use Rattle.std.specs.List.{filter}
use Rattle.name_tables.specs.Texts.{is_postscript, postscript_family}
use Rattle.name_tables.specs.Stores.{with_postscript}
use borrow.Author.Tests.{ltb-true, ltb-false}

-- what a text is with as much of the rest as it has room for
abbrev pub filled : List ℕ → List ℕ → List ℕ
filled text rest = text ++ take (55 - length text) rest

kept : (text rest : List ℕ) (b : ℕ) → length text < 55
    → filled (text ++ b ∷ []) rest ≡ filled text (b ∷ rest)
kept text rest b room =
    let left : 55 - length text ≡ suc (55 - length (text ++ b ∷ []))
    = omega (arith, length-append text (b ∷ [])) in
    append_assoc text (b ∷ []) (take (55 - length (text ++ b ∷ [])) rest)
    ∙ ap (λ n. text ++ take n (b ∷ rest)) (sym left)

full : (text rest others : List ℕ) → 55 ≤ length text → filled text rest ≡ filled text others
full text rest others none =
    let left : 55 - length text ≡ 0 = omega arith in
    ap (λ n. text ++ take n rest) left ∙ ap (λ n. text ++ take n others) (sym left)

turn_by : (room may : Bool) (text rest : List ℕ) (b : ℕ) → nat_lt (length text) 55 ≡ room
    → filled (if room && may then text ++ b ∷ [] else text) rest
    ≡ filled text (cond may (b ∷ rest) rest)
turn_by true true text rest b e = kept text rest b (ltb-true (length text) 55 e)
turn_by true false text rest b e = refl
turn_by false true text rest b e = full text rest (b ∷ rest) (ltb-false (length text) 55 e)
turn_by false false text rest b e = refl

pub filter_turn : (text next xs all : List ℕ) (i d : ℕ) → i < length xs
    → next ≡ with_postscript text (get_or xs i d)
    → filled text (filter is_postscript (drop i xs)) ≡ all
    → filled next (filter is_postscript (drop (i + 1) xs)) ≡ all
filter_turn text next xs all i d within stepped h =
    let b : ℕ = get_or xs i d in
    let rest : List ℕ = filter is_postscript (drop (i + 1) xs) in
    ap (λ (t : List ℕ). filled t rest) stepped
    ∙ turn_by (nat_lt (length text) 55) (is_postscript b) text rest b refl
    ∙ sym (ap (λ (l : List ℕ). filled text (filter is_postscript l)) (drop_more xs i d within)) ∙ h

take_none : (n : ℕ) → take {A = ℕ} n [] ≡ []
take_none zero = refl
take_none (suc n) = refl

pub filter_start : (family : List ℕ) → filled [] (filter is_postscript family)
    ≡ postscript_family family
filter_start family = refl

pub filter_end : (text xs all : List ℕ) (i : ℕ) → length xs ≤ i
    → filled text (filter is_postscript (drop i xs)) ≡ all → text ≡ all
filter_end text xs all i past h =
    sym (append-nil text) ∙ ap (λ (l : List ℕ). text ++ l) (sym (take_none (55 - length text)))
    ∙ sym (at_drop_all (λ l. filled text (filter is_postscript l)) xs i past) ∙ h
