-- Tokens lie in their text.
use Rattle.std.proofs.Common.{◌≡◌, ℕ, ◌+◌, ◌≤◌, List, [], ◌++◌, Option, Some, None, sym, subst, arith}
use Rattle.std.specs.List.{All}
use Rattle.std.proofs.lemmas.List.Elements.{All-append, All-cons, All-nil}
use Rattle.feature_tokens.specs.declared.tokens.Token.{Token}
use Rattle.feature_tokens.specs.declared.tokens.TokenKind.{TokenKind}
use Rattle.feature_tokens.specs.declared.tokens.Piece.{Piece}
use Rattle.feature_tokens.specs.Tokens.{token_of, token_at, IsInside}

of_one : (n : ℕ) (kind : Option TokenKind) (start end : ℕ) → start ≤ end → end ≤ n
    → All (IsInside n) (token_of kind start end)
of_one n None start end le within = All-nil (IsInside n)
of_one n (Some kind) start end le within
    = All-cons (IsInside n) _ [] (le, within) (All-nil (IsInside n))

pub more_inside : (n place : ℕ) (piece : Piece) (found next : List Token)
    → place + piece.length ≤ n → next ≡ found ++ token_at place piece
    → All (IsInside n) found → All (IsInside n) next
more_inside n place piece found next within e h =
    let P : List Token → Type 0 = All (IsInside n) in
    subst P (sym e) (All-append (IsInside n) found (token_at place piece) h
    (of_one n piece.kind place (place + piece.length) (omega arith) within))
