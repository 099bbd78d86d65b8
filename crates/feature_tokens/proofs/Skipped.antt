-- Bytes that are skipped: the tokens are those of what follows them.
use Rattle.std.proofs.Common.{◌≡◌, ℕ, zero, suc, ◌+◌, ◌-◌, ◌<◌, List, [], ◌∷◌, ◌++◌, length, drop}
use Rattle.std.proofs.Common.{get_or, refl, ap, ◌∙◌, arith, append_assoc, sym}
use Rattle.std.proofs.lemmas.List.{drop-drop, drop_more, length-drop}
use Rattle.std.proofs.Math.Seq.{take-length}
use Rattle.std.specs.Prelude.{slice_range, take}
use Rattle.feature_tokens.specs.declared.tokens.Token.{Token}
use Rattle.feature_tokens.specs.declared.tokens.Piece.{Piece}
use Rattle.feature_tokens.specs.Tokens.{tokens_in, piece_of, token_at}

pub skipped : (k place : ℕ) (text : List ℕ)
    → tokens_in k place text ≡ tokens_in 0 (place + k) (drop k text)
skipped zero place [] = refl
skipped (suc k) place [] = refl
skipped zero place (b ∷ bs) = ap (λ n. tokens_in 0 n (b ∷ bs)) (omega arith)
skipped (suc k) place (b ∷ bs) =
    skipped k (place + 1) bs
    ∙ ap (λ n. tokens_in 0 n (drop k bs)) (omega arith)

-- the piece at a place, and what follows it
cut : (text : List ℕ) (place : ℕ) (piece : Piece) → 0 < piece.length
    → tokens_in (piece.length - 1) (place + 1) (drop (place + 1) text)
    ≡ tokens_in 0 (place + piece.length) (drop (place + piece.length) text)
cut text place piece some =
    skipped (piece.length - 1) (place + 1) (drop (place + 1) text)
    ∙ ap (λ rest. tokens_in 0 (place + 1 + (piece.length - 1)) rest)
    (drop-drop (piece.length - 1) (place + 1) text)
    ∙ ap (λ n. tokens_in 0 n (drop n text)) (omega arith)

-- what follows a byte
rest_is : (text : List ℕ) (place : ℕ)
    → slice_range text (place + 1) (length text) ≡ drop (place + 1) text
rest_is text place =
    ap (λ n. take n (drop (place + 1) text)) (sym (length-drop (place + 1) text))
    ∙ take-length (drop (place + 1) text)

pub turn : (text : List ℕ) (place : ℕ) (piece : Piece) (found next all : List Token)
    → place < length text → 0 < piece.length
    → piece ≡ piece_of (get_or text place 0) (slice_range text (place + 1) (length text))
    → next ≡ found ++ token_at place piece
    → found ++ tokens_in 0 place (drop place text) ≡ all
    → next ++ tokens_in 0 (place + piece.length) (drop (place + piece.length) text) ≡ all
turn text place piece found next all lt some is e h =
    ap (λ ts. ts ++ tokens_in 0 (place + piece.length) (drop (place + piece.length) text)) e
    ∙ append_assoc found (token_at place piece) _
    ∙ ap (λ ts. found ++ (token_at place piece ++ ts)) (sym (cut text place piece some))
    ∙ ap (λ p. found ++ (token_at place p ++ tokens_in (p.length - 1) (place + 1)
    (drop (place + 1) text))) (is ∙ ap (piece_of (get_or text place 0)) (rest_is text place))
    ∙ ap (λ rest. found ++ tokens_in 0 place rest) (sym (drop_more text place 0 lt))
    ∙ h
