-- Tokens as the grammar sees them. A name that is spelled as a word of the grammar is that
-- keyword, unless it stands behind \. A number has at most five digits and is from -32768 to
-- 32767. The Adobe feature file specification, sections 2.c ("Keywords"), 2.e.i ("Number") and
-- 2.f ("Glyphs").
use Rattle.std.specs.Prelude.{ℕ, ℤ, pos, neg_ℤ, ◌+◌, ◌-◌, ◌*◌, Bool, true, false, ◌||◌, ◌&&◌, ◌==◌}
use Rattle.std.specs.Prelude.{nat_le, nat_eq, List, map, length, drop, fold, codes, slice_index}
use Rattle.std.specs.Prelude.{slice_range, Option, Some, None, if◌then◌else◌}
use Rattle.std.specs.Cmp.Lexicographic.{pointwise}
use Rattle.feature_tokens.specs.declared.tokens.Token.{Token}
use Rattle.feature_tokens.specs.declared.tokens.TokenKind.{TokenKind}
use Rattle.feature_tokens.specs.declared.tokens.TokenKind.TheVariants as kinds
use Rattle.feature_tokens.specs.declared.words.Keyword.{Keyword}
use Rattle.feature_tokens.specs.declared.words.Keyword.TheVariants as keywords
use Rattle.feature_tokens.specs.declared.words.Lexeme.{Lexeme}
use Rattle.feature_tokens.specs.declared.words.Lexeme.TheVariants as lexemes
use Rattle.feature_tokens.specs.Tokens.{tokens_of}

-- these are the letters of this word
unfoldable pub is_word : List ℕ → List ℕ → Bool
is_word text word = pointwise nat_eq text word

-- the keywords of files and blocks
unfoldable pub block_word : List ℕ → Option Keyword
block_word text =
    if is_word text (codes "languagesystem") then Some keywords.LanguageSystem
    else (if is_word text (codes "lookup") then Some keywords.Lookup
    else (if is_word text (codes "feature") then Some keywords.Feature
    else (if is_word text (codes "script") then Some keywords.Script
    else (if is_word text (codes "language") then Some keywords.Language
    else (if is_word text (codes "include_dflt") then Some keywords.IncludeDflt
    else (if is_word text (codes "exclude_dflt") then Some keywords.ExcludeDflt
    else (if is_word text (codes "featureNames") then Some keywords.FeatureNames
    else None)))))))

-- the keywords of flags
unfoldable pub flag_word : List ℕ → Option Keyword
flag_word text =
    if is_word text (codes "lookupflag") then Some keywords.LookupFlag
    else (if is_word text (codes "IgnoreBaseGlyphs") then Some keywords.IgnoreBaseGlyphs
    else (if is_word text (codes "IgnoreLigatures") then Some keywords.IgnoreLigatures
    else (if is_word text (codes "IgnoreMarks") then Some keywords.IgnoreMarks
    else (if is_word text (codes "MarkAttachmentType") then Some keywords.MarkAttachmentType
    else (if is_word text (codes "UseMarkFilteringSet") then Some keywords.UseMarkFilteringSet
    else None)))))

-- the keywords of rules, three of which have a longer form
unfoldable pub rule_word : List ℕ → Option Keyword
rule_word text =
    if is_word text (codes "subtable") then Some keywords.Subtable
    else (if is_word text (codes "sub") || is_word text (codes "substitute") then Some keywords.Sub
    else (if is_word text (codes "by") then Some keywords.By
    else (if is_word text (codes "from") then Some keywords.From
    else (if is_word text (codes "ignore") then Some keywords.Ignore
    else (if is_word text (codes "pos") || is_word text (codes "position") then Some keywords.Pos
    else (if is_word text (codes "enum") || is_word text (codes "enumerate")
    then Some keywords.Enum else None))))))

abbrev pub or_else : Option Keyword → Option Keyword → Option Keyword
or_else (Some keyword) other = Some keyword
or_else None other = other

-- the keyword that a name is
unfoldable pub keyword_of : List ℕ → Option Keyword
keyword_of text = or_else (rule_word text) (or_else (block_word text) (flag_word text))

-- the number that digits spell
unfoldable pub digits_value : List ℕ → ℕ
digits_value digits = fold (λ n d. 10 * n + (d - 48)) 0 digits

-- that number with its sign
unfoldable pub signed : Bool → List ℕ → Option ℤ
signed negative digits =
    if nat_le (length digits) 5 && nat_le (digits_value digits) (if negative then 32768 else 32767)
    then Some (if negative then neg_ℤ (pos (digits_value digits)) else pos (digits_value digits))
    else None

-- 45 is the minus sign
unfoldable pub number_of : List ℕ → Option ℤ
number_of text =
    if slice_index text 0 == 45 then signed true (drop 1 text) else signed false text

abbrev pub named : Option Keyword → List ℕ → Lexeme
named (Some keyword) text = lexemes.Keyword keyword text
named None text = lexemes.Name text

abbrev pub numbered : Option ℤ → Lexeme
numbered (Some number) = lexemes.Number number
numbered None = lexemes.BadNumber

-- a token of this kind and these bytes
unfoldable pub lexeme_of : TokenKind → List ℕ → Lexeme
lexeme_of kinds.Name text = named (keyword_of text) text
lexeme_of kinds.Class text = lexemes.Class (drop 1 text)
lexeme_of kinds.Escaped text = lexemes.Escaped (drop 1 text)
lexeme_of kinds.Cid text = lexemes.Cid
lexeme_of kinds.Number text = numbered (number_of text)
lexeme_of kinds.Reference text = lexemes.Reference
lexeme_of (kinds.Sign byte) text = lexemes.Sign byte

-- a word of a feature file, with the byte at which its token starts
pub record Word : Type 0 where
  pub lexeme : Lexeme
  pub place : ℕ

abbrev pub word_of : List ℕ → Token → Word
word_of text token = record {
  lexeme = lexeme_of token.kind (slice_range text token.start token.end);
  place = token.start;
}

-- the words of a text
unfoldable pub words_of : List ℕ → List Word
words_of text = map (word_of text) (tokens_of text)
