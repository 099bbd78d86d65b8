-- Reading a statement word by word: what each word makes of the words before it, None where no
-- statement goes on so. What a whole file is stands in `Grammar`; this reads it.
use Rattle.std.specs.Prelude.{ℕ, ℤ, pos, Bool, true, false, ◌&&◌, ◌||◌, not, ◌==◌}
use Rattle.std.specs.Prelude.{nat_le, List, [], ◌∷◌, ◌++◌, length, codes}
use Rattle.std.specs.Prelude.{Option, Some, None, option_map, is_none, if◌then◌else◌}
use Rattle.feature_grammar.specs.declared.file.Name.{Name}
use Rattle.feature_grammar.specs.declared.file.GlyphSet.{GlyphSet}
use Rattle.feature_grammar.specs.declared.file.GlyphSet.TheVariants as sets
use Rattle.feature_grammar.specs.declared.file.Item.{Item}
use Rattle.feature_grammar.specs.declared.file.Item.TheVariants as items
use Rattle.feature_grammar.specs.declared.file.Numbers.TheVariants as numbers
use Rattle.feature_grammar.specs.declared.file.Value.{Value}
use Rattle.feature_grammar.specs.declared.file.Marked.{Marked}
use Rattle.feature_grammar.specs.declared.file.Context.{Context}
use Rattle.feature_grammar.specs.declared.file.Flag.{Flag}
use Rattle.feature_grammar.specs.declared.file.FlagWord.{FlagWord}
use Rattle.feature_grammar.specs.declared.file.FlagWord.TheVariants as flags
use Rattle.feature_grammar.specs.declared.file.Flags.TheVariants as flag_forms
use Rattle.feature_grammar.specs.declared.file.Rule.{Rule}
use Rattle.feature_grammar.specs.declared.file.Rule.TheVariants as rules
use Rattle.feature_grammar.specs.declared.file.Statement.TheVariants as statements
use Rattle.feature_grammar.specs.declared.file.Inherits.TheVariants as inherits
use Rattle.feature_grammar.specs.declared.file.FeatureItem.TheVariants as parts
use Rattle.feature_grammar.specs.declared.file.Definition.TheVariants as definitions
use Rattle.feature_tokens.specs.declared.words.Keyword.{Keyword}
use Rattle.feature_tokens.specs.declared.words.Keyword.TheVariants as keywords
use Rattle.rule_words.specs.declared.line.Level.{Level}
use Rattle.rule_words.specs.declared.line.TagWord.{TagWord}
use Rattle.rule_words.specs.declared.line.TagWord.TheVariants as tag_words
use Rattle.rule_words.specs.declared.line.Verb.{Verb}
use Rattle.rule_words.specs.declared.line.Verb.TheVariants as verbs
use Rattle.rule_words.specs.declared.line.Open.{Open}
use Rattle.rule_words.specs.declared.line.Open.TheVariants as opens
use Rattle.rule_words.specs.declared.line.Items.{Items}
use Rattle.rule_words.specs.declared.line.Replaced.{Replaced}
use Rattle.rule_words.specs.declared.line.Replaced.TheVariants as replaced
use Rattle.rule_words.specs.declared.line.Entry.{Entry}
use Rattle.rule_words.specs.declared.line.Entry.TheVariants as entries
use Rattle.rule_words.specs.declared.line.Line.{Line}
use Rattle.rule_words.specs.declared.line.Line.TheVariants as lines
use Rattle.feature_tokens.specs.Words.{is_word}

abbrev pub name_at : List ℕ → ℕ → Name
name_at text place = record { text = text; place = place }

-- ---- items of a rule

abbrev pub fresh : ℕ → Verb → List Context → Items
fresh place verb contexts = record {
  place = place;
  verb = verb;
  contexts = contexts;
  before = [];
  marked = [];
  after = [];
  last = opens.Nothing;
}

abbrev pub is_empty : {X : Type 0} → List X → Bool
is_empty [] = true
is_empty (x ∷ xs) = false

-- the items of a rule, the last of which has its place: behind marked ones an unmarked one stands
-- after them
abbrev pub placed : List Item → List Marked → List Item → Open → Context
placed before marked after opens.Nothing
    = record { before = before; marked = marked; after = after }
placed before marked after (opens.Item item) =
    if is_empty marked
    then record { before = before ++ item ∷ []; marked = marked; after = after }
    else record { before = before; marked = marked; after = after ++ item ∷ [] }
placed before marked after (opens.Mark mark)
    = record { before = before; marked = marked ++ mark ∷ []; after = after }

unfoldable pub placed_items : Items → Context
placed_items items = placed items.before items.marked items.after items.last

abbrev pub settled_by : Items → Context → Items
settled_by items context = record items {
  before = context.before;
  marked = context.marked;
  after = context.after;
  last = opens.Nothing;
}

unfoldable pub settled : Items → Items
settled items = settled_by items (placed_items items)

abbrev pub is_enumerated : Verb → Bool
is_enumerated verbs.EnumPos = true
is_enumerated verb = false

abbrev pub is_pos : Verb → Bool
is_pos verbs.Pos = true
is_pos verbs.IgnorePos = true
is_pos verb = false

-- an enumerated pair has two items
unfoldable pub takes_item : Items → Bool
takes_item items = not (is_enumerated items.verb) || is_empty items.before

unfoldable pub with_item : Items → Item → Option Line
with_item items item =
    if takes_item items
    then Some (lines.Items (record (settled items) { last = opens.Item item }))
    else None

-- the mark ' behind an item: marked items stand side by side
abbrev pub marked_by : Items → Open → Option Line
marked_by items (opens.Item item) =
    if not (is_enumerated items.verb) && is_empty items.after
    then Some (lines.Items (record items {
      last = opens.Mark (record { item = item; calls = []; value = None });
    })) else None
marked_by items last = None

-- `lookup` behind a marked item
abbrev pub call_by : Items → Open → Option Line
call_by items (opens.Mark mark) = if is_none mark.value then Some (lines.Call items) else None
call_by items last = None

-- and the lookup's name
abbrev pub called_by : Items → Name → Open → Option Line
called_by items name (opens.Mark mark) = Some (lines.Items (record items {
  last = opens.Mark (record mark { calls = mark.calls ++ name ∷ [] });
}))
called_by items name last = None

abbrev pub rule_entry : ℕ → Rule → Entry
rule_entry place rule = entries.Statement (statements.Rule place rule)

-- a value behind one unmarked item, or two of them
abbrev pub only_of : {X : Type 0} → List X → Option X
only_of [] = None
only_of (x ∷ []) = Some x
only_of (x ∷ y ∷ xs) = None

abbrev pub paired_by : ℕ → Bool → Item → Value → Option Item → Option Line
paired_by place enumerated item value (Some first) = Some (lines.Ready (rule_entry place
    (rules.PairPosAfter enumerated first item value)))
paired_by place enumerated item value None = None

unfoldable pub paired : ℕ → Bool → List Item → Item → Value → Option Line
paired place enumerated before item value =
    if is_empty before then Some (lines.First place enumerated item value)
    else paired_by place enumerated item value (only_of before)

abbrev pub is_pair : Verb → Bool
is_pair verbs.Pos = true
is_pair verbs.EnumPos = true
is_pair verb = false

abbrev pub valued_by : Items → Value → Open → Option Line
valued_by items value opens.Nothing = None
valued_by items value (opens.Item item) =
    if is_pair items.verb && is_empty items.marked
    then paired items.place (is_enumerated items.verb) items.before item value
    else None
valued_by items value (opens.Mark mark) =
    if is_pos items.verb && is_none mark.value
    then Some (lines.Items (record items {
      last = opens.Mark (record mark { value = Some value });
    }))
    else None

-- the context that the items are
abbrev pub marked_context : Context → Option Context
marked_context context = if is_empty context.marked then None else Some context

unfoldable pub context_of : Items → Option Context
context_of items
    = marked_context (placed items.before items.marked items.after items.last)

abbrev pub is_ignore : Verb → Bool
is_ignore verbs.IgnoreSub = true
is_ignore verbs.IgnorePos = true
is_ignore verb = false

abbrev pub is_sub : Verb → Bool
is_sub verbs.Sub = true
is_sub verb = false

-- the comma between two contexts
abbrev pub next_by : Items → Option Context → Option Line
next_by items (Some context) =
    if is_ignore items.verb
    then Some (lines.Items (fresh items.place items.verb (items.contexts ++ context ∷ [])))
    else None
next_by items None = None

unfoldable pub next_context : Items → Option Line
next_context items = next_by items (context_of items)

-- `by`: what stands before it, with a mark or without one
abbrev pub is_mark : Open → Bool
is_mark (opens.Mark mark) = true
is_mark last = false

abbrev pub unmarked_by : List Item → Open → Option Replaced
unmarked_by [] (opens.Item item) = Some (replaced.One item)
unmarked_by (first ∷ before) (opens.Item item)
    = Some (replaced.Many ((first ∷ before) ++ item ∷ []))
unmarked_by before last = None

abbrev pub replaced_by : List Item → List Marked → List Item → Open → Option Replaced
replaced_by before marked after last =
    if not (is_empty marked) || is_mark last
    then Some (replaced.Context (placed before marked after last)) else unmarked_by before last

abbrev pub by_line : ℕ → Option Replaced → Option Line
by_line place (Some what) = Some (lines.By place what)
by_line place None = None

unfoldable pub by_word : Items → Option Line
by_word items =
    if is_sub items.verb
    then by_line items.place (replaced_by items.before items.marked items.after items.last)
    else None

-- `from`
abbrev pub from_by : ℕ → List Item → List Marked → Open → Option Line
from_by place [] [] (opens.Item item) = Some (lines.From place item)
from_by place before marked last = None

unfoldable pub from_word : Items → Option Line
from_word items =
    if is_sub items.verb then from_by items.place items.before items.marked items.last else None

-- ---- what replaces

abbrev pub is_glyph : Item → Bool
is_glyph (items.Glyph name) = true
is_glyph (items.Set set) = false

abbrev pub is_set : Item → Bool
is_set (items.Glyph name) = false
is_set (items.Set set) = true

abbrev pub is_one : (Item → Bool) → List Marked → Bool
is_one test (mark ∷ []) = test mark.item
is_one test marked = false

-- one glyph, or a context with one marked glyph: it may be replaced by several
unfoldable pub is_one_glyph : Replaced → Bool
is_one_glyph (replaced.One item) = is_glyph item
is_one_glyph (replaced.Many items) = false
is_one_glyph (replaced.Context context) = is_one is_glyph context.marked

-- one set, or a context with one marked set: it may be replaced by a set
unfoldable pub is_one_set : Replaced → Bool
is_one_set (replaced.One item) = is_set item
is_one_set (replaced.Many items) = false
is_one_set (replaced.Context context) = is_one is_set context.marked

abbrev pub by_glyphs : Replaced → List Name → Rule
by_glyphs (replaced.One item) glyphs = rules.Substitute (item ∷ []) glyphs
by_glyphs (replaced.Many items) glyphs = rules.Substitute items glyphs
by_glyphs (replaced.Context context) glyphs = rules.ContextByGlyphs context glyphs

abbrev pub set_by_set : ℕ → Item → GlyphSet → Option Line
set_by_set place (items.Set set) by
    = Some (lines.Ready (rule_entry place (rules.SubstituteSet set by)))
set_by_set place (items.Glyph name) by = None

unfoldable pub by_set : ℕ → Replaced → GlyphSet → Option Line
by_set place (replaced.One item) set = set_by_set place item set
by_set place (replaced.Many items) set = None
by_set place (replaced.Context context) set =
    if is_one is_set context.marked
    then Some (lines.Ready (rule_entry place (rules.ContextBySet context set))) else None

-- ---- names, sets and values

unfoldable pub give_item : Line → Item → Option Line
give_item (lines.Items items) item = with_item items item
give_item (lines.First place enumerated first value) item
    = Some (lines.Second place enumerated first value item)
give_item line item = None

unfoldable pub give_glyph : Line → Name → Option Line
give_glyph (lines.By place what) name = Some (lines.ByGlyphs place what (name ∷ []))
give_glyph (lines.ByGlyphs place what glyphs) name =
    if is_one_glyph what then Some (lines.ByGlyphs place what (glyphs ++ name ∷ [])) else None
give_glyph line name = give_item line (items.Glyph name)

abbrev pub flag_word_of : Bool → GlyphSet → FlagWord
flag_word_of true set = flags.MarkAttachmentType set
flag_word_of false set = flags.UseMarkFilteringSet set

unfoldable pub give_set : Line → GlyphSet → Option Line
give_set (lines.ClassEquals name) set = Some (lines.Ready (entries.Statement (statements.Class
    (record { name = name; set = set }))))
give_set (lines.FlagSet place words at attachment) set = Some (lines.Flags place
    (words ++ record { place = at; word = flag_word_of attachment set } ∷ []))
give_set (lines.By place what) set = by_set place what set
give_set (lines.From place item) set
    = Some (lines.Ready (rule_entry place (rules.Alternate item set)))
give_set line set = give_item line (items.Set set)

-- whether a set may stand here
unfoldable pub takes_set : Line → Bool
takes_set (lines.ClassEquals name) = true
takes_set (lines.FlagSet place words at attachment) = true
takes_set (lines.By place what) = is_one_set what
takes_set (lines.From place item) = true
takes_set (lines.Items items) = takes_item items
takes_set (lines.First place enumerated first value) = true
takes_set line = false

unfoldable pub give_value : Line → Value → Option Line
give_value (lines.Items items) value = valued_by items value items.last
give_value (lines.Second place enumerated first before second) value
    = Some (lines.Ready (rule_entry place
    (rules.PairPos enumerated first before second (Some value))))
give_value line value = None

-- whether a value may stand behind these items
abbrev pub takes_pair_value : List Item → Bool
takes_pair_value (first ∷ second ∷ more) = false
takes_pair_value before = true

abbrev pub takes_value_by : Items → Open → Bool
takes_value_by items opens.Nothing = false
takes_value_by items (opens.Item item)
    = is_pair items.verb && is_empty items.marked && takes_pair_value items.before
takes_value_by items (opens.Mark mark) = is_pos items.verb && is_none mark.value

unfoldable pub takes_value : Line → Bool
takes_value (lines.Items items) = takes_value_by items items.last
takes_value (lines.Second place enumerated first before second) = true
takes_value line = false

-- a number is a flag, even and from 0 to 14, or an advance
abbrev pub is_flag : ℤ → Bool
is_flag (pos n) = n == 0 || n == 2 || n == 4 || n == 6 || n == 8 || n == 10 || n == 12 || n == 14
is_flag number = false

unfoldable pub give_number : Line → ℤ → ℕ → Option Line
give_number (lines.Flags place []) number at =
    if is_flag number
    then Some (lines.Ready (entries.Statement (statements.Flag place
    (flag_forms.Number at number))))
    else None
give_number line number at
    = give_value line (record { place = at; numbers = numbers.Advance number })

-- the name of a lookup
unfoldable pub asks_name : Line → Bool
asks_name (lines.LookupWord place) = true
asks_name (lines.Call items) = true
asks_name line = false

unfoldable pub give_name : Line → Name → Option Line
give_name (lines.LookupWord place) name = Some (lines.LookupName place name)
give_name (lines.Call items) name = called_by items name items.last
give_name line name = None

unfoldable pub asks_tag : Line → Bool
asks_tag (lines.Tag word place) = true
asks_tag (lines.SystemScript place script) = true
asks_tag line = false

-- a tag of at most four letters; `size` is no feature's
abbrev pub tag_word : TagWord → ℕ → Name → Option Line
tag_word tag_words.LanguageSystem place tag = Some (lines.SystemScript place tag)
tag_word tag_words.Script place tag = Some (lines.Ready (entries.Item (parts.Script place tag)))
tag_word tag_words.Language place tag = Some (lines.LanguageTag place tag)
tag_word tag_words.Feature place tag =
    if is_word tag.text (codes "size") then None else Some (lines.FeatureTag place tag)
tag_word tag_words.Alternates place tag =
    if is_word tag.text (codes "size") then None
    else Some (lines.Ready (entries.Item (parts.Feature place tag)))

abbrev pub tag_by : Line → Name → Option Line
tag_by (lines.Tag word place) tag = tag_word word place tag
tag_by (lines.SystemScript place script) tag = Some (lines.Ready (entries.Definition
    (definitions.LanguageSystem place script tag)))
tag_by line tag = None

unfoldable pub give_tag : Line → Name → Option Line
give_tag line tag = if nat_le (length tag.text) 4 then tag_by line tag else None

-- no word of a rule but its verb yet
abbrev pub is_nothing : Open → Bool
is_nothing opens.Nothing = true
is_nothing last = false

unfoldable pub is_behind_pos : Items → Bool
is_behind_pos items = (is_pos items.verb || is_enumerated items.verb)
    && (is_empty items.contexts && (is_empty items.before && (is_empty items.marked
    && is_nothing items.last)))

unfoldable pub follows_pos : Line → Bool
follows_pos (lines.Items items) = is_behind_pos items
follows_pos line = false

unfoldable pub is_position_word : List ℕ → Bool
is_position_word text = is_word text (codes "base") || is_word text (codes "mark")
    || is_word text (codes "ligature") || is_word text (codes "cursive")

-- names that no glyph has where they stand
unfoldable pub is_no_glyph : Line → List ℕ → Bool
is_no_glyph line text
    = is_word text (codes "NULL") || follows_pos line && is_position_word text

unfoldable pub give_plain : Line → Name → Option Line
give_plain line name =
    if asks_tag line then give_tag line name
    else (if asks_name line then give_name line name
    else (if is_no_glyph line name.text then None else give_glyph line name))

unfoldable pub give_escaped : Line → Name → Option Line
give_escaped line name = if asks_name line then give_name line name else give_glyph line name

unfoldable pub give_class : Line → Name → Option Line
give_class lines.Start name = Some (lines.ClassName name)
give_class line name = give_set line (sets.Class name)

-- ---- keywords

abbrev pub only_if : Bool → Line → Option Line
only_if true line = Some line
only_if false line = None

abbrev pub in_block : Level → Bool
in_block level = level.in_feature || level.in_lookup

-- directly in a feature
abbrev pub in_feature_itself : Level → Bool
in_feature_itself level = level.in_feature && not level.in_lookup

abbrev pub feature_word : Level → ℕ → Option Line
feature_word level place =
    if in_block level
    then only_if (in_feature_itself level && level.in_aalt) (lines.Tag tag_words.Alternates place)
    else Some (lines.Tag tag_words.Feature place)

-- the word with which a statement starts that features and lookups have
unfoldable pub start_statement : Bool → Keyword → ℕ → Option Line
start_statement may keywords.LookupFlag place = only_if may (lines.Flags place [])
start_statement may keywords.Subtable place
    = only_if may (lines.Ready (entries.Statement (statements.Subtable place)))
start_statement may keywords.Sub place = only_if may (lines.Items (fresh place verbs.Sub []))
start_statement may keywords.Pos place = only_if may (lines.Items (fresh place verbs.Pos []))
start_statement may keywords.Enum place = only_if may (lines.Enum place)
start_statement may keywords.Ignore place = only_if may (lines.Ignore place)
start_statement may keyword place = None

-- the word with which a statement starts
unfoldable pub start : Level → Keyword → ℕ → Option Line
start level keywords.LanguageSystem place
    = only_if (not (in_block level)) (lines.Tag tag_words.LanguageSystem place)
start level keywords.Lookup place = only_if (not level.in_lookup) (lines.LookupWord place)
start level keywords.Feature place = feature_word level place
start level keywords.Script place
    = only_if (in_feature_itself level) (lines.Tag tag_words.Script place)
start level keywords.Language place
    = only_if (in_feature_itself level && level.scripted) (lines.Tag tag_words.Language place)
start level keywords.FeatureNames place
    = only_if (in_feature_itself level) (lines.FeatureNames place)
start level keyword place = start_statement (in_block level) keyword place

abbrev pub language_line : ℕ → Name → Keyword → ℕ → Option Line
language_line place tag keywords.IncludeDflt at
    = Some (lines.Ready (entries.Item (parts.Language place tag (inherits.Default at))))
language_line place tag keywords.ExcludeDflt at
    = Some (lines.Ready (entries.Item (parts.Language place tag (inherits.Nothing at))))
language_line place tag keyword at = None

abbrev pub with_flag : ℕ → List Flag → ℕ → FlagWord → Option Line
with_flag place words at word
    = Some (lines.Flags place (words ++ record { place = at; word = word } ∷ []))

abbrev pub flags_line : ℕ → List Flag → Keyword → ℕ → Option Line
flags_line place words keywords.IgnoreBaseGlyphs at
    = with_flag place words at flags.IgnoreBaseGlyphs
flags_line place words keywords.IgnoreLigatures at
    = with_flag place words at flags.IgnoreLigatures
flags_line place words keywords.IgnoreMarks at = with_flag place words at flags.IgnoreMarks
flags_line place words keywords.MarkAttachmentType at
    = Some (lines.FlagSet place words at true)
flags_line place words keywords.UseMarkFilteringSet at
    = Some (lines.FlagSet place words at false)
flags_line place words keyword at = None

abbrev pub ignore_line : ℕ → Keyword → Option Line
ignore_line place keywords.Sub = Some (lines.Items (fresh place verbs.IgnoreSub []))
ignore_line place keywords.Pos = Some (lines.Items (fresh place verbs.IgnorePos []))
ignore_line place keyword = None

abbrev pub enum_line : ℕ → Keyword → Option Line
enum_line place keywords.Pos = Some (lines.Items (fresh place verbs.EnumPos []))
enum_line place keyword = None

abbrev pub items_line : Items → Keyword → Option Line
items_line items keywords.Lookup = call_by items items.last
items_line items keywords.By = by_word items
items_line items keywords.From = from_word items
items_line items keyword = None

abbrev pub keyword_line : Level → Line → Keyword → ℕ → Option Line
keyword_line level lines.Start keyword at = start level keyword at
keyword_line level (lines.LanguageTag place tag) keyword at = language_line place tag keyword at
keyword_line level (lines.Flags place words) keyword at = flags_line place words keyword at
keyword_line level (lines.Ignore place) keyword at = ignore_line place keyword
keyword_line level (lines.Enum place) keyword at = enum_line place keyword
keyword_line level (lines.Items items) keyword at = items_line items keyword
keyword_line level line keyword at = None

unfoldable pub give_keyword : Level → Line → Keyword → Name → Option Line
give_keyword level line keyword name =
    if asks_tag line then give_tag line name else keyword_line level line keyword name.place

-- ---- signs

-- 39 is ', 61 is = and 44 is the comma
abbrev pub sign_by : Line → ℕ → Option Line
sign_by (lines.ClassName name) sign
    = if sign == 61 then Some (lines.ClassEquals name) else None
sign_by (lines.Items items) sign =
    if sign == 39 then marked_by items items.last
    else (if sign == 44 then next_context items else None)
sign_by line sign = None

unfoldable pub give_sign : Line → ℕ → Option Line
give_sign line sign = sign_by line sign

-- ---- ends

abbrev pub ended_by : Verb → List Context → Context → Option Rule
ended_by verbs.Sub contexts context = Some (rules.ContextSub context)
ended_by verbs.Pos contexts context = Some (rules.ContextPos context)
ended_by verbs.EnumPos contexts context = None
ended_by verbs.IgnoreSub contexts context = Some (rules.IgnoreSub (contexts ++ context ∷ []))
ended_by verbs.IgnorePos contexts context = Some (rules.IgnorePos (contexts ++ context ∷ []))

abbrev pub ended : Items → Option Context → Option Rule
ended items (Some context) = ended_by items.verb items.contexts context
ended items None = None

unfoldable pub ended_items : Items → Option Entry
ended_items items = option_map (rule_entry items.place) (ended items (context_of items))

-- `enum` has no value of one item
abbrev pub single : ℕ → Bool → Item → Value → Option Entry
single place enumerated item value =
    if enumerated then None else Some (rule_entry place (rules.SinglePos item value))

-- the statement that `;` ends
unfoldable pub entry_of : Line → Option Entry
entry_of (lines.Ready entry) = Some entry
entry_of (lines.LanguageTag place tag)
    = Some (entries.Item (parts.Language place tag inherits.Unsaid))
entry_of (lines.LookupName place name) = Some (entries.Item (parts.Reference place name))
entry_of (lines.Flags place words)
    = Some (entries.Statement (statements.Flag place (flag_forms.Words words)))
entry_of (lines.Items items) = ended_items items
entry_of (lines.ByGlyphs place what glyphs) = Some (rule_entry place (by_glyphs what glyphs))
entry_of (lines.First place enumerated item value) = single place enumerated item value
entry_of (lines.Second place enumerated first value second)
    = Some (rule_entry place (rules.PairPos enumerated first value second None))
entry_of line = None
