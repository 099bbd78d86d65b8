-- What it is that words spell a feature file: each part of a file with the words that spell it,
-- in the order of the text, rule by rule of the grammar. A part's place is that of its first
-- word; what stands in no part, as a brace, may stand at any place. The Adobe feature file
-- specification, sections 4 ("Specifying features"), 5 (GSUB), 6 (GPOS) and 4.e ("lookup"),
-- narrowed to what fontc supports.
use Rattle.std.specs.Prelude.{◌≡◌, ℕ, zero, suc, ◌+◌, ℤ, pos, Bool, true, false, ◌&&◌, ◌||◌, not}
use Rattle.std.specs.Prelude.{◌==◌, nat_le, List, [], ◌∷◌, ◌++◌, length, map, codes}
use Rattle.std.specs.Prelude.{Option, Some, None, if◌then◌else◌}
use Rattle.std.specs.List.{flat_map, list_all}
use Rattle.std.specs.Ordering.{int_eq}
use Rattle.feature_grammar.specs.declared.file.Name.{Name}
use Rattle.feature_grammar.specs.declared.file.Member.{Member}
use Rattle.feature_grammar.specs.declared.file.Member.TheVariants as member_forms
use Rattle.feature_grammar.specs.declared.file.GlyphSet.{GlyphSet}
use Rattle.feature_grammar.specs.declared.file.GlyphSet.TheVariants as set_forms
use Rattle.feature_grammar.specs.declared.file.Item.{Item}
use Rattle.feature_grammar.specs.declared.file.Item.TheVariants as item_forms
use Rattle.feature_grammar.specs.declared.file.Numbers.{Numbers}
use Rattle.feature_grammar.specs.declared.file.Numbers.TheVariants as value_forms
use Rattle.feature_grammar.specs.declared.file.Value.{Value}
use Rattle.feature_grammar.specs.declared.file.Marked.{Marked}
use Rattle.feature_grammar.specs.declared.file.Context.{Context}
use Rattle.feature_grammar.specs.declared.file.Flag.{Flag}
use Rattle.feature_grammar.specs.declared.file.FlagWord.{FlagWord}
use Rattle.feature_grammar.specs.declared.file.FlagWord.TheVariants as flag_words
use Rattle.feature_grammar.specs.declared.file.Flags.{Flags}
use Rattle.feature_grammar.specs.declared.file.Flags.TheVariants as flag_forms
use Rattle.feature_grammar.specs.declared.file.ClassDefinition.{ClassDefinition}
use Rattle.feature_grammar.specs.declared.file.Rule.{Rule}
use Rattle.feature_grammar.specs.declared.file.Rule.TheVariants as rule_forms
use Rattle.feature_grammar.specs.declared.file.Statement.{Statement}
use Rattle.feature_grammar.specs.declared.file.Statement.TheVariants as statement_forms
use Rattle.feature_grammar.specs.declared.file.Lookup.{Lookup}
use Rattle.feature_grammar.specs.declared.file.Inherits.{Inherits}
use Rattle.feature_grammar.specs.declared.file.Inherits.TheVariants as inherits_forms
use Rattle.feature_grammar.specs.declared.file.FeatureItem.{FeatureItem}
use Rattle.feature_grammar.specs.declared.file.FeatureItem.TheVariants as part_forms
use Rattle.feature_grammar.specs.declared.file.Feature.{Feature}
use Rattle.feature_grammar.specs.declared.file.Definition.{Definition}
use Rattle.feature_grammar.specs.declared.file.Definition.TheVariants as definition_forms
use Rattle.feature_grammar.specs.declared.file.FeatureFile.{FeatureFile}
use Rattle.feature_tokens.specs.declared.words.Keyword.{Keyword}
use Rattle.feature_tokens.specs.declared.words.Keyword.TheVariants as keywords
use Rattle.feature_tokens.specs.declared.words.Lexeme.{Lexeme}
use Rattle.feature_tokens.specs.declared.words.Lexeme.TheVariants as lexemes
use Rattle.feature_tokens.specs.Words.{Word, is_word}

-- ---- what is asked of a word

pub data Piece : Type 0 where
  -- a keyword with which a part starts, at its place; and one inside a part
  starts : Keyword → ℕ → Piece
  keyword : Keyword → Piece
  -- a glyph's name; one behind `pos`; a lookup's name; that name again, at another place
  glyph : Name → Piece
  first_glyph : Name → Piece
  name : Name → Piece
  name_again : Name → Piece
  -- a tag; a feature's tag; that tag again, at another place
  tag : Name → Piece
  feature_tag : Name → Piece
  tag_again : Name → Piece
  class : Name → Piece
  -- a number with which a part starts, at its place; and one inside a part
  starts_number : ℤ → ℕ → Piece
  number : ℤ → Piece
  -- a sign with which a part starts, at its place; and one inside a part
  starts_sign : ℕ → ℕ → Piece
  sign : ℕ → Piece
  -- { any balanced text }
  balanced : Piece

-- each keyword has a number of its own
abbrev pub keyword_number : Keyword → ℕ
keyword_number keywords.LanguageSystem = 0
keyword_number keywords.Lookup = 1
keyword_number keywords.Feature = 2
keyword_number keywords.Script = 3
keyword_number keywords.Language = 4
keyword_number keywords.IncludeDflt = 5
keyword_number keywords.ExcludeDflt = 6
keyword_number keywords.FeatureNames = 7
keyword_number keywords.LookupFlag = 8
keyword_number keywords.IgnoreBaseGlyphs = 9
keyword_number keywords.IgnoreLigatures = 10
keyword_number keywords.IgnoreMarks = 11
keyword_number keywords.MarkAttachmentType = 12
keyword_number keywords.UseMarkFilteringSet = 13
keyword_number keywords.Subtable = 14
keyword_number keywords.Sub = 15
keyword_number keywords.By = 16
keyword_number keywords.From = 17
keyword_number keywords.Ignore = 18
keyword_number keywords.Pos = 19
keyword_number keywords.Enum = 20

abbrev pub same_keyword : Keyword → Keyword → Bool
same_keyword a b = keyword_number a == keyword_number b

abbrev pub is_keyword : Keyword → Lexeme → Bool
is_keyword wanted (lexemes.Keyword found text) = same_keyword wanted found
is_keyword wanted lexeme = false

abbrev pub is_position : List ℕ → Bool
is_position text = is_word text (codes "base") || is_word text (codes "mark")
    || is_word text (codes "ligature") || is_word text (codes "cursive")

abbrev pub is_glyph_name : List ℕ → Lexeme → Bool
is_glyph_name text (lexemes.Name found)
    = is_word found text && not (is_word found (codes "NULL"))
is_glyph_name text (lexemes.Escaped found) = is_word found text
is_glyph_name text lexeme = false

abbrev pub is_first_name : List ℕ → Lexeme → Bool
is_first_name text (lexemes.Name found) = is_word found text
    && not (is_word found (codes "NULL")) && not (is_position found)
is_first_name text (lexemes.Escaped found) = is_word found text
is_first_name text lexeme = false

abbrev pub is_lookup_name : List ℕ → Lexeme → Bool
is_lookup_name text (lexemes.Name found) = is_word found text
is_lookup_name text (lexemes.Escaped found) = is_word found text
is_lookup_name text lexeme = false

abbrev pub is_tag_text : List ℕ → List ℕ → Bool
is_tag_text text found = is_word found text && nat_le (length found) 4

abbrev pub is_tag : List ℕ → Lexeme → Bool
is_tag text (lexemes.Name found) = is_tag_text text found
is_tag text (lexemes.Keyword known found) = is_tag_text text found
is_tag text lexeme = false

abbrev pub is_class : List ℕ → Lexeme → Bool
is_class text (lexemes.Class found) = is_word found text
is_class text lexeme = false

abbrev pub is_number : ℤ → Lexeme → Bool
is_number wanted (lexemes.Number found) = int_eq found wanted
is_number wanted lexeme = false

abbrev pub is_sign : ℕ → Lexeme → Bool
is_sign wanted (lexemes.Sign found) = found == wanted
is_sign wanted lexeme = false

-- a word is what a piece asks
abbrev pub is_piece : Piece → Word → Bool
is_piece (starts wanted place) word = is_keyword wanted word.lexeme && word.place == place
is_piece (keyword wanted) word = is_keyword wanted word.lexeme
is_piece (glyph n) word = is_glyph_name n.text word.lexeme && word.place == n.place
is_piece (first_glyph n) word = is_first_name n.text word.lexeme && word.place == n.place
is_piece (name n) word = is_lookup_name n.text word.lexeme && word.place == n.place
is_piece (name_again n) word = is_lookup_name n.text word.lexeme
is_piece (tag n) word = is_tag n.text word.lexeme && word.place == n.place
is_piece (feature_tag n) word = is_tag n.text word.lexeme && word.place == n.place
    && not (is_word n.text (codes "size"))
is_piece (tag_again n) word = is_tag n.text word.lexeme
is_piece (class n) word = is_class n.text word.lexeme && word.place == n.place
is_piece (starts_number n place) word = is_number n word.lexeme && word.place == place
is_piece (number n) word = is_number n word.lexeme
is_piece (starts_sign wanted place) word = is_sign wanted word.lexeme && word.place == place
is_piece (sign wanted) word = is_sign wanted word.lexeme
is_piece balanced word = is_sign 123 word.lexeme

abbrev pub is_balanced : Piece → Bool
is_balanced balanced = true
is_balanced piece = false

-- how many braces are open behind a word of a balanced text, None where it is no such word
abbrev pub depth_behind : ℕ → Lexeme → Option ℕ
depth_behind depth lexemes.Reference = None
depth_behind zero lexeme = None
depth_behind (suc depth) (lexemes.Sign found) =
    if found == 123 then Some (suc depth + 1) else (if found == 125 then Some depth
    else Some (suc depth))
depth_behind (suc depth) lexeme = Some (suc depth)

abbrev pub goes_on : Option ℕ → (ℕ → Bool) → Bool
goes_on (Some depth) next = next depth
goes_on None next = false

-- the words are what the pieces ask, one by one, and a balanced text goes on up to the } that
-- closes it; so many braces of it are open
abbrev pub spelled_by : ℕ → List Piece → List Word → Bool
spelled_by zero [] [] = true
spelled_by zero (piece ∷ pieces) [] = false
spelled_by (suc depth) pieces [] = false
spelled_by zero [] (word ∷ words) = false
spelled_by zero (piece ∷ pieces) (word ∷ words) = is_piece piece word
    && spelled_by (if is_balanced piece then 1 else 0) pieces words
spelled_by (suc depth) pieces (word ∷ words) =
    goes_on (depth_behind (suc depth) word.lexeme) (λ d. spelled_by d pieces words)

-- ---- the rules of the grammar

-- set = [ { glyph | @name } ] | @name
abbrev pub member_pieces : Member → List Piece
member_pieces (member_forms.Glyph n) = glyph n ∷ []
member_pieces (member_forms.Class n) = class n ∷ []

abbrev pub set_pieces : GlyphSet → List Piece
set_pieces (set_forms.Members place members)
    = starts_sign 91 place ∷ flat_map member_pieces members ++ sign 93 ∷ []
set_pieces (set_forms.Class n) = class n ∷ []

-- item = glyph | set
abbrev pub item_pieces : Item → List Piece
item_pieces (item_forms.Glyph n) = glyph n ∷ []
item_pieces (item_forms.Set set) = set_pieces set

-- the first item behind `pos` is none of the words of the kinds of attachment
abbrev pub first_pieces : Item → List Piece
first_pieces (item_forms.Glyph n) = first_glyph n ∷ []
first_pieces (item_forms.Set set) = set_pieces set

abbrev pub numbers_pieces : ℕ → Numbers → List Piece
numbers_pieces place (value_forms.Advance n) = starts_number n place ∷ []
numbers_pieces place (value_forms.Record a b c d) = starts_sign 60 place
    ∷ number a ∷ number b ∷ number c ∷ number d ∷ sign 62 ∷ []

-- value = number | < number number number number >
abbrev pub value_pieces : Value → List Piece
value_pieces value = numbers_pieces value.place value.numbers

-- mark = item ' { lookup name } [ value ]
abbrev pub call_pieces : Name → List Piece
call_pieces n = keyword keywords.Lookup ∷ name n ∷ []

abbrev pub maybe_value : Option Value → List Piece
maybe_value None = []
maybe_value (Some value) = value_pieces value

abbrev pub behind_mark : Marked → List Piece
behind_mark mark = sign 39 ∷ flat_map call_pieces mark.calls ++ maybe_value mark.value

abbrev pub mark_pieces : Marked → List Piece
mark_pieces mark = item_pieces mark.item ++ behind_mark mark

-- context = { item } mark { mark } { item }
abbrev pub context_pieces : Context → List Piece
context_pieces context = flat_map item_pieces context.before
    ++ flat_map mark_pieces context.marked ++ flat_map item_pieces context.after

-- the same behind `pos`
abbrev pub first_mark : List Marked → List Piece
first_mark [] = []
first_mark (mark ∷ marked)
    = first_pieces mark.item ++ behind_mark mark ++ flat_map mark_pieces marked

abbrev pub before_pieces : List Item → List Marked → List Piece
before_pieces [] marked = first_mark marked
before_pieces (item ∷ before) marked = first_pieces item ++ flat_map item_pieces before
    ++ flat_map mark_pieces marked

abbrev pub pos_context : Context → List Piece
pos_context context = before_pieces context.before context.marked
    ++ flat_map item_pieces context.after

-- contexts with commas between them: of `ignore sub`, and of `ignore pos`
abbrev pub more_contexts : List Context → List Piece
more_contexts [] = []
more_contexts (context ∷ contexts)
    = sign 44 ∷ context_pieces context ++ more_contexts contexts

abbrev pub sub_contexts : List Context → List Piece
sub_contexts [] = []
sub_contexts (context ∷ contexts) = context_pieces context ++ more_contexts contexts

abbrev pub pos_contexts : List Context → List Piece
pos_contexts [] = []
pos_contexts (context ∷ contexts) = pos_context context ++ more_contexts contexts

-- flags = number | { IgnoreBaseGlyphs | IgnoreLigatures | IgnoreMarks
--     | MarkAttachmentType set | UseMarkFilteringSet set }
abbrev pub word_pieces : ℕ → FlagWord → List Piece
word_pieces place flag_words.IgnoreBaseGlyphs = starts keywords.IgnoreBaseGlyphs place ∷ []
word_pieces place flag_words.IgnoreLigatures = starts keywords.IgnoreLigatures place ∷ []
word_pieces place flag_words.IgnoreMarks = starts keywords.IgnoreMarks place ∷ []
word_pieces place (flag_words.MarkAttachmentType set)
    = starts keywords.MarkAttachmentType place ∷ set_pieces set
word_pieces place (flag_words.UseMarkFilteringSet set)
    = starts keywords.UseMarkFilteringSet place ∷ set_pieces set

abbrev pub flag_pieces : Flag → List Piece
flag_pieces flag = word_pieces flag.place flag.word

abbrev pub flags_pieces : Flags → List Piece
flags_pieces (flag_forms.Number place n) = starts_number n place ∷ []
flags_pieces (flag_forms.Words flags) = flat_map flag_pieces flags

-- classdef = @name = set ;
abbrev pub class_pieces : ClassDefinition → List Piece
class_pieces definition
    = class definition.name ∷ sign 61 ∷ set_pieces definition.set ++ sign 59 ∷ []

abbrev pub pair_start : Bool → ℕ → List Piece
pair_start true place = starts keywords.Enum place ∷ keyword keywords.Pos ∷ []
pair_start false place = starts keywords.Pos place ∷ []

-- sub seq by glyph { glyph } ; | sub set by set ; | sub item from set ; | sub context ;
--     | sub context by glyph { glyph } ; | sub context by set ;
--     | ignore sub context { , context } ;
--     | pos item value ; | [enum] pos item value item [value] ; | [enum] pos item item value ;
--     | pos context ; | ignore pos context { , context } ;
abbrev pub rule_pieces : ℕ → Rule → List Piece
rule_pieces place (rule_forms.Substitute items by) = starts keywords.Sub place
    ∷ flat_map item_pieces items ++ keyword keywords.By ∷ map glyph by
rule_pieces place (rule_forms.SubstituteSet set by) = starts keywords.Sub place
    ∷ set_pieces set ++ keyword keywords.By ∷ set_pieces by
rule_pieces place (rule_forms.Alternate item set) = starts keywords.Sub place
    ∷ item_pieces item ++ keyword keywords.From ∷ set_pieces set
rule_pieces place (rule_forms.ContextSub context)
    = starts keywords.Sub place ∷ context_pieces context
rule_pieces place (rule_forms.ContextByGlyphs context by) = starts keywords.Sub place
    ∷ context_pieces context ++ keyword keywords.By ∷ map glyph by
rule_pieces place (rule_forms.ContextBySet context by) = starts keywords.Sub place
    ∷ context_pieces context ++ keyword keywords.By ∷ set_pieces by
rule_pieces place (rule_forms.IgnoreSub contexts) = starts keywords.Ignore place
    ∷ keyword keywords.Sub ∷ sub_contexts contexts
rule_pieces place (rule_forms.SinglePos item value)
    = starts keywords.Pos place ∷ first_pieces item ++ value_pieces value
rule_pieces place (rule_forms.PairPos enumerated first value second other)
    = pair_start enumerated place ++ first_pieces first ++ value_pieces value
    ++ item_pieces second ++ maybe_value other
rule_pieces place (rule_forms.PairPosAfter enumerated first second value)
    = pair_start enumerated place ++ first_pieces first ++ item_pieces second
    ++ value_pieces value
rule_pieces place (rule_forms.ContextPos context)
    = starts keywords.Pos place ∷ pos_context context
rule_pieces place (rule_forms.IgnorePos contexts) = starts keywords.Ignore place
    ∷ keyword keywords.Pos ∷ pos_contexts contexts

-- stmt = classdef | lookupflag flags ; | subtable ; | a rule and ;
abbrev pub statement_pieces : Statement → List Piece
statement_pieces (statement_forms.Class definition) = class_pieces definition
statement_pieces (statement_forms.Flag place flags)
    = starts keywords.LookupFlag place ∷ flags_pieces flags ++ sign 59 ∷ []
statement_pieces (statement_forms.Subtable place)
    = starts keywords.Subtable place ∷ sign 59 ∷ []
statement_pieces (statement_forms.Rule place rule) = rule_pieces place rule ++ sign 59 ∷ []

-- lookup = lookup name { { stmt } } name ;
abbrev pub lookup_pieces : Lookup → List Piece
lookup_pieces lookup = starts keywords.Lookup lookup.place ∷ name lookup.name ∷ sign 123
    ∷ flat_map statement_pieces lookup.statements
    ++ sign 125 ∷ name_again lookup.name ∷ sign 59 ∷ []

abbrev pub inherits_pieces : Inherits → List Piece
inherits_pieces inherits_forms.Unsaid = []
inherits_pieces (inherits_forms.Default place) = starts keywords.IncludeDflt place ∷ []
inherits_pieces (inherits_forms.Nothing place) = starts keywords.ExcludeDflt place ∷ []

-- stmt | lookup | lookup name ; | script tag ; | language tag [ include_dflt | exclude_dflt ] ;
--     | feature tag ; | featureNames { any balanced text } ;
abbrev pub part_pieces : FeatureItem → List Piece
part_pieces (part_forms.Statement statement) = statement_pieces statement
part_pieces (part_forms.Lookup lookup) = lookup_pieces lookup
part_pieces (part_forms.Reference place n)
    = starts keywords.Lookup place ∷ name n ∷ sign 59 ∷ []
part_pieces (part_forms.Script place n)
    = starts keywords.Script place ∷ tag n ∷ sign 59 ∷ []
part_pieces (part_forms.Language place n inherits) = starts keywords.Language place ∷ tag n
    ∷ inherits_pieces inherits ++ sign 59 ∷ []
part_pieces (part_forms.Feature place n)
    = starts keywords.Feature place ∷ feature_tag n ∷ sign 59 ∷ []
part_pieces (part_forms.FeatureNames place)
    = starts keywords.FeatureNames place ∷ balanced ∷ sign 59 ∷ []

-- feature = feature tag { { .. } } tag ;
abbrev pub feature_pieces : Feature → List Piece
feature_pieces feature = starts keywords.Feature feature.place ∷ feature_tag feature.tag
    ∷ sign 123 ∷ flat_map part_pieces feature.items
    ++ sign 125 ∷ tag_again feature.tag ∷ sign 59 ∷ []

-- file = { languagesystem tag tag ; | classdef | lookup | feature }
abbrev pub definition_pieces : Definition → List Piece
definition_pieces (definition_forms.LanguageSystem place script language)
    = starts keywords.LanguageSystem place ∷ tag script ∷ tag language ∷ sign 59 ∷ []
definition_pieces (definition_forms.Class definition) = class_pieces definition
definition_pieces (definition_forms.Lookup lookup) = lookup_pieces lookup
definition_pieces (definition_forms.Feature feature) = feature_pieces feature

-- ---- what the grammar's rules don't show

abbrev pub some : {X : Type 0} → List X → Bool
some [] = false
some (x ∷ xs) = true

abbrev pub single : {X : Type 0} → (X → Bool) → List X → Bool
single test (x ∷ []) = test x
single test xs = false

abbrev pub is_glyph_item : Item → Bool
is_glyph_item (item_forms.Glyph n) = true
is_glyph_item (item_forms.Set set) = false

abbrev pub no_value : Option Value → Bool
no_value None = true
no_value (Some value) = false

-- one item is marked, at least
abbrev pub is_context : Context → Bool
is_context context = some context.marked

-- values stand in `pos` only
abbrev pub is_sub_context : Context → Bool
is_sub_context context
    = some context.marked && list_all (λ mark. no_value mark.value) context.marked

-- a second glyph behind `by` stands only where what it replaces is one glyph
abbrev pub may_replace : Bool → List Name → Bool
may_replace one glyphs = some glyphs && (one || nat_le (length glyphs) 1)

abbrev pub is_marked_glyph : Context → Bool
is_marked_glyph context = single (λ mark. is_glyph_item mark.item) context.marked

-- a set behind an inline `by` stands only where the marked items are one set
abbrev pub is_marked_set : Context → Bool
is_marked_set context = single (λ mark. not (is_glyph_item mark.item)) context.marked

abbrev pub is_rule : Rule → Bool
is_rule (rule_forms.Substitute items by)
    = some items && may_replace (single is_glyph_item items) by
is_rule (rule_forms.ContextSub context) = is_sub_context context
is_rule (rule_forms.ContextByGlyphs context by)
    = is_sub_context context && may_replace (is_marked_glyph context) by
is_rule (rule_forms.ContextBySet context by) = is_sub_context context && is_marked_set context
is_rule (rule_forms.IgnoreSub contexts) = some contexts && list_all is_sub_context contexts
is_rule (rule_forms.ContextPos context) = is_context context
is_rule (rule_forms.IgnorePos contexts) = some contexts && list_all is_context contexts
is_rule rule = true

-- a number flag is even and from 0 to 14
abbrev pub is_flag_number : ℤ → Bool
is_flag_number (pos n) = n == 0 || n == 2 || n == 4 || n == 6 || n == 8 || n == 10 || n == 12
    || n == 14
is_flag_number n = false

abbrev pub is_flags : Flags → Bool
is_flags (flag_forms.Number place n) = is_flag_number n
is_flags (flag_forms.Words flags) = true

abbrev pub is_statement : Statement → Bool
is_statement (statement_forms.Flag place flags) = is_flags flags
is_statement (statement_forms.Rule place rule) = is_rule rule
is_statement statement = true

abbrev pub is_lookup : Lookup → Bool
is_lookup lookup = list_all is_statement lookup.statements

-- `language` stands behind a `script`, and `feature tag ;` in aalt
abbrev pub are_parts : Bool → Bool → List FeatureItem → Bool
are_parts aalt scripted [] = true
are_parts aalt scripted (part_forms.Statement statement ∷ items)
    = is_statement statement && are_parts aalt scripted items
are_parts aalt scripted (part_forms.Lookup lookup ∷ items)
    = is_lookup lookup && are_parts aalt scripted items
are_parts aalt scripted (part_forms.Script place n ∷ items) = are_parts aalt true items
are_parts aalt scripted (part_forms.Language place n inherits ∷ items)
    = scripted && are_parts aalt scripted items
are_parts aalt scripted (part_forms.Feature place n ∷ items)
    = aalt && are_parts aalt scripted items
are_parts aalt scripted (item ∷ items) = are_parts aalt scripted items

abbrev pub is_feature : Feature → Bool
is_feature feature = are_parts (is_word feature.tag.text (codes "aalt")) false feature.items

abbrev pub is_definition : Definition → Bool
is_definition (definition_forms.Lookup lookup) = is_lookup lookup
is_definition (definition_forms.Feature feature) = is_feature feature
is_definition definition = true

-- ---- files

-- whether these words spell this file
unfoldable pub spells : FeatureFile → List Word → Bool
spells file words = list_all is_definition file.definitions
    && spelled_by 0 (flat_map definition_pieces file.definitions) words

abbrev pub Spells : FeatureFile → List Word → Type 0
Spells file words = spells file words ≡ true

-- the words begin a file
pub record Begins (words : List Word) : Type 0 where
  pub rest : List Word
  pub file : FeatureFile
  pub spelled : Spells file (words ++ rest)
