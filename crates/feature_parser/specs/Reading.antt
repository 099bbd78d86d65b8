-- Reading a feature file word by word: the blocks that are open, the statement so far, and what
-- is read between brackets. Each word goes on with them, or is refused; the text's end is refused
-- where anything is open. What a file is stands in `Grammar`, without this reading.
use Rattle.std.specs.Prelude.{ℕ, ◌+◌, ◌-◌, ℤ, Bool, true, false, ◌&&◌, ◌||◌, not, ◌==◌, nat_lt}
use Rattle.std.specs.Prelude.{List, [], ◌∷◌, ◌++◌, length, codes, Option, Some, None}
use Rattle.std.specs.Prelude.{is_some, is_none}
use Rattle.std.specs.Prelude.{Result, Ok, Err, if◌then◌else◌}
use Rattle.refusal_codes.specs.declared.rule.Rule.TheVariants.{Syntax, Unsupported}
use Rattle.refusal_codes.specs.declared.refusal.Refusal.{Refusal}
use Rattle.refusal_codes.specs.declared.job.TheConstants.{FEATURE_PARSE}
use Rattle.refusal_codes.specs.First.{refusal_of}
use Rattle.feature_grammar.specs.declared.file.Name.{Name}
use Rattle.feature_grammar.specs.declared.file.Member.{Member}
use Rattle.feature_grammar.specs.declared.file.Member.TheVariants as kinds_of
use Rattle.feature_grammar.specs.declared.file.GlyphSet.TheVariants as sets
use Rattle.feature_grammar.specs.declared.file.Numbers.{Numbers}
use Rattle.feature_grammar.specs.declared.file.Numbers.TheVariants as value_forms
use Rattle.feature_grammar.specs.declared.file.Statement.{Statement}
use Rattle.feature_grammar.specs.declared.file.Statement.TheVariants as statements
use Rattle.feature_grammar.specs.declared.file.Lookup.{Lookup}
use Rattle.feature_grammar.specs.declared.file.FeatureItem.{FeatureItem}
use Rattle.feature_grammar.specs.declared.file.FeatureItem.TheVariants as parts
use Rattle.feature_grammar.specs.declared.file.Definition.{Definition}
use Rattle.feature_grammar.specs.declared.file.Definition.TheVariants as definitions
use Rattle.feature_grammar.specs.declared.file.FeatureFile.{FeatureFile}
use Rattle.feature_tokens.specs.declared.words.Keyword.{Keyword}
use Rattle.feature_tokens.specs.declared.words.Keyword.TheVariants as keywords
use Rattle.feature_tokens.specs.declared.words.Lexeme.{Lexeme}
use Rattle.feature_tokens.specs.declared.words.Lexeme.TheVariants as lexemes
use Rattle.rule_words.specs.declared.line.Level.{Level}
use Rattle.rule_words.specs.declared.line.TagWord.TheVariants as tag_words
use Rattle.rule_words.specs.declared.line.Entry.{Entry}
use Rattle.rule_words.specs.declared.line.Entry.TheVariants as entries
use Rattle.rule_words.specs.declared.line.Line.{Line}
use Rattle.rule_words.specs.declared.line.Line.TheVariants as lines
use Rattle.rule_words.specs.declared.line.Inner.{Inner}
use Rattle.rule_words.specs.declared.line.Inner.TheVariants as inners
use Rattle.feature_tokens.specs.Words.{Word, is_word, words_of}
use Rattle.rule_words.specs.Lines.{name_at, give_set, takes_set, give_value, takes_value}
use Rattle.rule_words.specs.Lines.{give_number, give_plain, give_escaped, give_class}
use Rattle.rule_words.specs.Lines.{give_keyword, give_sign, entry_of, is_empty, takes_item}
use Rattle.rule_words.specs.Lines.{is_one_glyph, follows_pos, is_position_word}

-- ---- what is open

-- a feature whose `}` has not come
pub record OpenFeature : Type 0 where
  pub place : ℕ
  pub tag : Name
  pub scripted : Bool
  pub items : List FeatureItem

pub record State : Type 0 where
  pub file : List Definition
  pub feature : Option OpenFeature
  pub lookup : Option Lookup
  pub line : Line
  pub inner : Inner

abbrev pub start_state : State
start_state = record {
  file = [];
  feature = None;
  lookup = None;
  line = lines.Start;
  inner = inners.Nothing;
}

abbrev pub level_by : Option OpenFeature → Option Lookup → Level
level_by None lookup = record {
  in_feature = false;
  in_aalt = false;
  scripted = false;
  in_lookup = is_some lookup;
}
level_by (Some feature) lookup = record {
  in_feature = true;
  in_aalt = is_word feature.tag.text (codes "aalt");
  scripted = feature.scripted;
  in_lookup = is_some lookup;
}

abbrev pub level_of : State → Level
level_of state = level_by state.feature state.lookup

-- the same blocks, with another statement
abbrev pub with_line : State → Line → State
with_line state line = record state { line = line; inner = inners.Nothing }

abbrev pub next_line : State → Option Line → Option State
next_line state (Some line) = Some (with_line state line)
next_line state None = None

-- ---- blocks

abbrev pub is_script : FeatureItem → Bool
is_script (parts.Script place tag) = true
is_script item = false

abbrev pub with_item_in : OpenFeature → FeatureItem → OpenFeature
with_item_in feature item = record feature {
  items = feature.items ++ item ∷ [];
  scripted = feature.scripted || is_script item;
}

abbrev pub add_item : State → FeatureItem → Option OpenFeature → Option State
add_item state item (Some feature) = Some (record state {
  feature = Some (with_item_in feature item);
  line = lines.Start;
})
add_item state item None = None

abbrev pub add_definition : State → Definition → State
add_definition state definition
    = record state { file = state.file ++ definition ∷ []; line = lines.Start }

-- a statement of a file itself is a class
abbrev pub add_to_file : State → Statement → Option State
add_to_file state (statements.Class definition)
    = Some (add_definition state (definitions.Class definition))
add_to_file state statement = None

abbrev pub add_outside : State → Statement → Option OpenFeature → Option State
add_outside state statement (Some feature)
    = add_item state (parts.Statement statement) (Some feature)
add_outside state statement None = add_to_file state statement

abbrev pub add_statement : State → Statement → Option Lookup → Option State
add_statement state statement (Some lookup) = Some (record state {
  lookup = Some (record lookup { statements = lookup.statements ++ statement ∷ [] });
  line = lines.Start;
})
add_statement state statement None = add_outside state statement state.feature

abbrev pub add_entry : State → Entry → Option State
add_entry state (entries.Definition definition) = Some (add_definition state definition)
add_entry state (entries.Statement statement) = add_statement state statement state.lookup
add_entry state (entries.Item item) =
    if is_some state.lookup then None else add_item state item state.feature

abbrev pub ended_by_semicolon : State → Option Entry → Option State
ended_by_semicolon state (Some entry) = add_entry state entry
ended_by_semicolon state None = None

-- the block that is closed is a part of the one around it
abbrev pub closed_outside : State → Lookup → Option OpenFeature → State
closed_outside state lookup (Some feature) = record state {
  lookup = None;
  line = lines.Start;
  feature = Some (with_item_in feature (parts.Lookup lookup));
}
closed_outside state lookup None
    = record (add_definition state (definitions.Lookup lookup)) { lookup = None }

abbrev pub closed_feature : State → Option OpenFeature → Option State
closed_feature state (Some feature) = Some (record (add_definition state (definitions.Feature
    (record { place = feature.place; tag = feature.tag; items = feature.items })))
    { feature = None })
closed_feature state None = None

abbrev pub closed_by : State → Option Lookup → Option State
closed_by state (Some lookup) = Some (closed_outside state lookup state.feature)
closed_by state None = closed_feature state state.feature

-- the name behind a block's }: a lookup's own name, which is no keyword, or a feature's own tag,
-- which stands behind no \
abbrev pub closing_feature : Option OpenFeature → List ℕ → Bool
closing_feature (Some feature) text = is_word text feature.tag.text
closing_feature None text = false

abbrev pub is_closing : Option Lookup → Option OpenFeature → Lexeme → Bool
is_closing (Some lookup) feature (lexemes.Name text) = is_word text lookup.name.text
is_closing (Some lookup) feature (lexemes.Escaped text) = is_word text lookup.name.text
is_closing None feature (lexemes.Name text) = closing_feature feature text
is_closing None feature (lexemes.Keyword keyword text) = closing_feature feature text
is_closing lookup feature lexeme = false

-- ---- braces and semicolons

abbrev pub braced : State → Line → Option State
braced state (lines.LookupName place name) = Some (record (with_line state lines.Start) {
  lookup = Some (record { place = place; name = name; statements = [] });
})
braced state (lines.FeatureTag place tag) = Some (record (with_line state lines.Start) {
  feature = Some (record { place = place; tag = tag; scripted = false; items = [] });
})
braced state (lines.FeatureNames place) = Some (with_line state (lines.InNames place 1))
braced state line = None

abbrev pub unbraced : State → Line → Option State
unbraced state lines.Start =
    if is_some state.feature || is_some state.lookup
    then Some (with_line state lines.Closing) else None
unbraced state line = None

abbrev pub semicolon : State → Line → Option State
semicolon state lines.Closed = closed_by state state.lookup
semicolon state line = ended_by_semicolon state (entry_of line)

-- 123 is {, 125 is }, 59 is ;, 91 is [ and 60 is <
abbrev pub signed : State → ℕ → ℕ → Option State
signed state sign place =
    if sign == 123 then braced state state.line
    else (if sign == 125 then unbraced state state.line
    else (if sign == 59 then semicolon state state.line
    else (if sign == 91 then (if takes_set state.line
    then Some (record state { inner = inners.Set place [] }) else None)
    else (if sign == 60 then (if takes_value state.line
    then Some (record state { inner = inners.Value place [] }) else None)
    else next_line state (give_sign state.line sign)))))

-- ---- one word

-- inside featureNames: braces are balanced
abbrev pub in_names : State → ℕ → ℕ → Lexeme → Option State
in_names state place depth lexemes.Reference = None
in_names state place depth (lexemes.Sign sign) =
    if sign == 123 then Some (with_line state (lines.InNames place (depth + 1)))
    else (if sign == 125 then Some (with_line state (if depth == 1
    then lines.Ready (entries.Item (parts.FeatureNames place))
    else lines.InNames place (depth - 1)))
    else Some state)
in_names state place depth lexeme = Some state

abbrev pub given : State → Lexeme → ℕ → Option State
given state (lexemes.Keyword keyword text) place
    = next_line state (give_keyword (level_of state) state.line keyword (name_at text place))
given state (lexemes.Name text) place
    = next_line state (give_plain state.line (name_at text place))
given state (lexemes.Escaped text) place
    = next_line state (give_escaped state.line (name_at text place))
given state (lexemes.Class text) place
    = next_line state (give_class state.line (name_at text place))
given state (lexemes.Number number) place
    = next_line state (give_number state.line number place)
given state (lexemes.Sign sign) place = signed state sign place
given state lexeme place = None

abbrev pub lined : State → Line → Lexeme → ℕ → Option State
lined state (lines.InNames place depth) lexeme at = in_names state place depth lexeme
lined state lines.Closing lexeme at =
    if is_closing state.lookup state.feature lexeme
    then Some (with_line state lines.Closed) else None
lined state line lexeme at = given state lexeme at

abbrev pub with_member : State → ℕ → List Member → Member → Option State
with_member state place members member
    = Some (record state { inner = inners.Set place (members ++ member ∷ []) })

-- 93 is ]
abbrev pub in_set : State → ℕ → List Member → Lexeme → ℕ → Option State
in_set state place members (lexemes.Name text) at =
    if is_word text (codes "NULL") then None
    else with_member state place members (kinds_of.Glyph (name_at text at))
in_set state place members (lexemes.Escaped text) at
    = with_member state place members (kinds_of.Glyph (name_at text at))
in_set state place members (lexemes.Class text) at
    = with_member state place members (kinds_of.Class (name_at text at))
in_set state place members (lexemes.Sign sign) at =
    if sign == 93 then next_line state (give_set state.line (sets.Members place members)) else None
in_set state place members lexeme at = None

abbrev pub four : List ℤ → Option Numbers
four (a ∷ b ∷ c ∷ d ∷ []) = Some (value_forms.Record a b c d)
four numbers = None

abbrev pub give_four : State → ℕ → Option Numbers → Option State
give_four state place (Some four)
    = next_line state (give_value state.line (record { place = place; numbers = four }))
give_four state place None = None

-- 62 is >
abbrev pub in_value : State → ℕ → List ℤ → Lexeme → Option State
in_value state place numbers (lexemes.Number number) =
    if nat_lt (length numbers) 4
    then Some (record state { inner = inners.Value place (numbers ++ number ∷ []) }) else None
in_value state place numbers (lexemes.Sign sign) =
    if sign == 62 then give_four state place (four numbers) else None
in_value state place numbers lexeme = None

abbrev pub step_by : State → Inner → Lexeme → ℕ → Option State
step_by state inners.Nothing lexeme at = lined state state.line lexeme at
step_by state (inners.Set place members) lexeme at = in_set state place members lexeme at
step_by state (inners.Value place numbers) lexeme at = in_value state place numbers lexeme

-- what a word makes of those before it
abbrev pub step : State → Word → Option State
step state word = step_by state state.inner word.lexeme word.place

-- ---- words that fontc doesn't support

abbrev pub is_one_of : List ℕ → List (List ℕ) → Bool
is_one_of text [] = false
is_one_of text (word ∷ words) = is_word text word || is_one_of text words

abbrev pub statement_words : List (List ℕ)
statement_words = codes "include" ∷ codes "table" ∷ codes "anonymous" ∷ codes "anon"
    ∷ codes "size" ∷ codes "rsub" ∷ codes "markClass" ∷ codes "NULL" ∷ codes "RightToLeft"
    ∷ codes "useExtension" ∷ codes "valueRecordDef" ∷ codes "anchorDef" ∷ codes "cvParameters"
    ∷ codes "contourpoint" ∷ []

-- whether any glyph's name may stand here
abbrev pub takes_glyph : Line → Bool
takes_glyph (lines.Items items) = takes_item items
takes_glyph (lines.By place what) = true
takes_glyph (lines.ByGlyphs place what glyphs) = is_one_glyph what
takes_glyph (lines.First place enumerated item value) = true
takes_glyph line = false

abbrev pub takes_brace : Line → Bool
takes_brace (lines.LookupName place name) = true
takes_brace (lines.FeatureTag place tag) = true
takes_brace (lines.FeatureNames place) = true
takes_brace line = false

abbrev pub asks_feature : Line → Bool
asks_feature (lines.Tag tag_words.Feature place) = true
asks_feature (lines.Tag tag_words.Alternates place) = true
asks_feature line = false

abbrev pub follows_ignore : Line → Bool
follows_ignore (lines.Ignore place) = true
follows_ignore line = false

abbrev pub in_flags : Line → Bool
in_flags (lines.Flags place flags) = true
in_flags line = false

abbrev pub is_start : Line → Bool
is_start lines.Start = true
is_start line = false

abbrev pub no_name : Line → List ℕ → Bool
no_name line text = is_start line && is_one_of text statement_words
    || asks_feature line && is_word text (codes "size")
    || takes_glyph line && is_word text (codes "NULL")
    || follows_pos line && is_position_word text
    || in_flags line && is_word text (codes "RightToLeft")
    || takes_brace line && is_word text (codes "useExtension")
    || follows_ignore line && is_word text (codes "rsub")

-- `feature` in a block that is not in aalt
abbrev pub no_feature : State → Keyword → Bool
no_feature state keywords.Feature = is_start state.line && not (level_of state).in_aalt
no_feature state keyword = false

abbrev pub ends_with_glyph : List Member → Bool
ends_with_glyph [] = false
ends_with_glyph (kinds_of.Glyph name ∷ []) = true
ends_with_glyph (kinds_of.Class name ∷ []) = false
ends_with_glyph (first ∷ second ∷ more) = ends_with_glyph (second ∷ more)

abbrev pub unsupported_by : State → Inner → Lexeme → Bool
unsupported_by state inner lexemes.Reference = true
unsupported_by state inners.Nothing (lexemes.Name text) = no_name state.line text
unsupported_by state inners.Nothing (lexemes.Keyword keyword text) = no_feature state keyword
unsupported_by state inners.Nothing lexemes.Cid = takes_glyph state.line
unsupported_by state inners.Nothing (lexemes.Sign sign) = sign == 40 && takes_value state.line
unsupported_by state (inners.Set place members) (lexemes.Name text)
    = is_word text (codes "NULL")
unsupported_by state (inners.Set place members) lexemes.Cid = true
unsupported_by state (inners.Set place members) (lexemes.Sign sign)
    = sign == 45 && ends_with_glyph members
unsupported_by state (inners.Value place numbers) (lexemes.Name text)
    = is_empty numbers && is_word text (codes "NULL")
unsupported_by state (inners.Value place numbers) (lexemes.Sign sign)
    = sign == 40 && nat_lt (length numbers) 4
unsupported_by state inner lexeme = false

-- ---- whole files

abbrev pub is_done : State → Inner → Line → Bool
is_done state inners.Nothing lines.Start = is_none state.feature && is_none state.lookup
is_done state inner line = false

abbrev pub refused : Bool → ℕ → Refusal
refused unsupported place = refusal_of FEATURE_PARSE [] (record {
  rule = if unsupported then Unsupported else Syntax;
  place = place;
})

-- the text's end is a token at its length
abbrev pub ended : ℕ → State → Result FeatureFile Refusal
ended length state =
    if is_done state state.inner state.line then Ok (record { definitions = state.file })
    else Err (refused false length)

abbrev pub go_on : {X Y : Type 0} → Option X → Y → (X → Y) → Y
go_on (Some x) stop next = next x
go_on None stop next = stop

-- reading words up to the text's end, at this byte
abbrev pub read_from : ℕ → State → List Word → Result FeatureFile Refusal
read_from length state [] = ended length state
read_from length state (word ∷ words) = go_on (step state word)
    (Err (refused (unsupported_by state state.inner word.lexeme) word.place))
    (λ next. read_from length next words)

-- the file that a text is, or its refusal
unfoldable pub file_of : List ℕ → Result FeatureFile Refusal
file_of text = read_from (length text) start_state (words_of text)
