-- The tokens of feature code. A text is cut from its front into pieces, each as long as it can
-- be: gaps, which are white space and comments, and tokens. A byte that begins none of the others
-- is a token by itself, be it punctuation or one that no feature file has a place for. What a
-- token is doesn't depend on where it stands. The Adobe feature file specification, section 2
-- ("Syntax").
use Rattle.std.specs.Prelude.{ℕ, zero, suc, ◌+◌, ◌-◌, ◌≤◌, ◌++◌, ◌&&◌, ◌==◌, nat_lt}
use Rattle.std.specs.Prelude.{if◌then◌else◌}
use Rattle.std.specs.Prelude.{List, [], ◌∷◌, Option, Some, None, slice_index_or}
use Rattle.std.specs.List.{prefix_len}
use Rattle.feature_tokens.specs.declared.bytes.Run.TheVariants as runs
use Rattle.feature_tokens.specs.declared.tokens.Piece.{Piece}
use Rattle.feature_tokens.specs.declared.tokens.Token.{Token}
use Rattle.feature_tokens.specs.declared.tokens.TokenKind.{TokenKind}
use Rattle.feature_tokens.specs.declared.tokens.TokenKind.TheVariants as kinds
use Rattle.feature_tokens.specs.Bytes.{starts_name, belongs}

-- how long the name is with which a text begins; 0 where it begins with none
unfoldable pub name_length : List ℕ → ℕ
name_length [] = 0
name_length (b ∷ bs) = if starts_name b then 1 + prefix_len (belongs runs.Name) bs else 0

-- how many digits a text begins with
abbrev pub digits_length : List ℕ → ℕ
digits_length text = prefix_len (belongs runs.Digits) text

abbrev pub gap : ℕ → Piece
gap length = record { kind = None; length = length }

abbrev pub token : TokenKind → ℕ → Piece
token kind length = record { kind = Some kind; length = length }

-- the first token of a text that begins with this byte, which begins no gap, no name and no
-- digits: a number with its minus, a class's name behind @, a name or a glyph's number behind \,
-- the reference ${, or the byte alone
unfoldable pub marked_piece : ℕ → List ℕ → Piece
marked_piece b bs =
    if b == 45 && nat_lt 0 (digits_length bs) then token kinds.Number (1 + digits_length bs)
    else (if b == 64 && nat_lt 0 (name_length bs) then token kinds.Class (1 + name_length bs)
    else (if b == 92 && nat_lt 0 (name_length bs) then token kinds.Escaped (1 + name_length bs)
    else (if b == 92 && nat_lt 0 (digits_length bs) then token kinds.Cid (1 + digits_length bs)
    else (if b == 36 && slice_index_or bs 0 0 == 123 then token kinds.Reference 2
    else token (kinds.Sign b) 1))))

-- the first piece of a text that begins with this byte: 35 is #
unfoldable pub piece_of : ℕ → List ℕ → Piece
piece_of b bs =
    if belongs runs.Space b then gap (1 + prefix_len (belongs runs.Space) bs)
    else (if b == 35 then gap (1 + prefix_len (belongs runs.Comment) bs)
    else (if starts_name b then token kinds.Name (1 + prefix_len (belongs runs.Name) bs)
    else (if belongs runs.Digits b then token kinds.Number (1 + digits_length bs)
    else marked_piece b bs)))

-- a piece that begins at this place, where it is a token
abbrev pub token_of : Option TokenKind → ℕ → ℕ → List Token
token_of None start end = []
token_of (Some kind) start end = record { kind = kind; start = start; end = end } ∷ []

abbrev pub token_at : ℕ → Piece → List Token
token_at place piece = token_of piece.kind place (place + piece.length)

-- the tokens that begin in a text, whose first byte has this place; its first bytes, so many,
-- belong to a piece that began before
abbrev pub tokens_in : ℕ → ℕ → List ℕ → List Token
tokens_in skipped place [] = []
tokens_in (suc skipped) place (b ∷ bs) = tokens_in skipped (place + 1) bs
tokens_in zero place (b ∷ bs) = token_at place (piece_of b bs)
    ++ tokens_in ((piece_of b bs).length - 1) (place + 1) bs

-- a token of a text of this length
abbrev pub IsInside : ℕ → Token → Type 0
IsInside length token = (token.start ≤ token.end) × (token.end ≤ length)

-- the tokens of a text
unfoldable pub tokens_of : List ℕ → List Token
tokens_of text = tokens_in 0 0 text
