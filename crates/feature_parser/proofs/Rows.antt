-- Worked texts, by computation: which are refused, and where, and that what is read of the others
-- is what their words spell.
use Rattle.std.proofs.Common.{◌≡◌, ℕ, Bool, true, false, ◌&&◌, List, [], ◌∷◌, ◌++◌, refl}
use Rattle.std.specs.Prelude.{◌==◌, Result, Ok, Err, codes}
use Rattle.refusal_codes.specs.declared.refusal.Refusal.{Refusal}
use Rattle.refusal_codes.specs.Rules.{rule_number}
use Rattle.feature_grammar.specs.declared.file.FeatureFile.{FeatureFile}
use Rattle.feature_parser.specs.OnLiterals.{texts_on_literals}
use Rattle.feature_grammar.specs.Grammar.{spells}
use Rattle.feature_tokens.specs.Words.{Word, words_of}
use Rattle.feature_parser.specs.Reading.{file_of}

-- ---- refused texts

record Row : Type 0 where
  text : List ℕ
  rule : ℕ
  place : ℕ

abbrev syntax : List ℕ → ℕ → Row
syntax text place = record { text = text; rule = 40; place = place }

abbrev unsupported : List ℕ → ℕ → Row
unsupported text place = record { text = text; rule = 41; place = place }

-- fifteen bytes, and the code of a feature
abbrev inside : List ℕ → List ℕ → List ℕ
inside tag code = codes "feature " ++ tag ++ codes " {" ++ 10 ∷ code ++ 10 ∷ codes "} " ++ tag
    ++ codes ";" ++ 10 ∷ []

abbrev liga : List ℕ → List ℕ
liga code = inside (codes "liga") code

abbrev is_refused : Row → Result FeatureFile Refusal → Bool
is_refused row (Ok file) = false
is_refused row (Err refusal) = rule_number refusal.rule == row.rule && refusal.place == row.place

abbrev are_refused : List Row → Bool
are_refused [] = true
are_refused (row ∷ rows) = is_refused row (file_of row.text) && are_refused rows

rules_of_glyphs : are_refused (
    syntax (liga (codes "sub A by ;")) 24
    ∷ syntax (liga (codes "sub [A B] by C D;")) 30
    ∷ syntax (liga (codes "sub A B by C D;")) 28
    ∷ syntax (liga (codes "sub A by @x;")) 24
    ∷ syntax (liga (codes "sub A' @x' by @y;")) 29
    ∷ syntax (liga (codes "sub A B' C by D E F, ;")) 34
    ∷ syntax (liga (codes "sub a' b c';")) 25
    ∷ syntax (liga (codes "sub a'';")) 21
    ∷ syntax (liga (codes "sub a' 5;")) 22
    ∷ syntax (liga (codes "sub a b;")) 22
    ∷ syntax (liga (codes "sub a from b;")) 26
    ∷ syntax (liga (codes "sub a b from [c];")) 23
    ∷ syntax (liga (codes "ignore sub a b;")) 29
    ∷ syntax (liga (codes "ignore sub a', ;")) 30
    ∷ []) ≡ true
unfolding texts_on_literals
rules_of_glyphs = refl

rules_of_values : are_refused (
    syntax (liga (codes "pos A 32768;")) 21
    ∷ syntax (liga (codes "pos A -32769;")) 21
    ∷ syntax (liga (codes "pos A 123456;")) 21
    ∷ syntax (liga (codes "pos A <1 2 3>;")) 27
    ∷ syntax (liga (codes "pos A <1 2 3 4 5>;")) 30
    ∷ syntax (liga (codes "enum pos A 5;")) 27
    ∷ syntax (liga (codes "enum pos A B C;")) 28
    ∷ syntax (liga (codes "enum pos A' 5;")) 25
    ∷ syntax (liga (codes "pos A B C 5;")) 25
    ∷ syntax (liga (codes "lookupflag 16;")) 26
    ∷ syntax (liga (codes "lookupflag 3;")) 26
    ∷ syntax (liga (codes "lookupflag -2;")) 26
    ∷ syntax (liga (codes "lookupflag IgnoreMarks 2;")) 38
    ∷ []) ≡ true
unfolding texts_on_literals
rules_of_values = refl

blocks : are_refused (
    syntax (liga (codes "language DEU;")) 15
    ∷ syntax (liga (codes "languagesystem DFLT dflt;")) 15
    ∷ syntax (inside (codes "aalt") (codes "lookup l { feature x; } l;")) 26
    ∷ syntax (codes "feature liga { } kern;") 17
    ∷ syntax (codes "lookup l { } m;") 13
    ∷ syntax (codes "lookup by { } by;") 7
    ∷ syntax (codes "feature ligature { } ligature;") 8
    ∷ syntax (codes "sub A by B;") 0
    ∷ syntax (codes "feature liga {") 14
    ∷ syntax (codes "feature liga { sub A") 20
    ∷ syntax (codes "feature liga { } liga") 21
    ∷ syntax (codes "lookup l;") 8
    ∷ []) ≡ true
unfolding texts_on_literals
blocks = refl

in_their_places : are_refused (
    unsupported (codes "table head {} head;") 0
    ∷ unsupported (codes "feature size { } size;") 8
    ∷ unsupported (liga (codes "pos NULL 5;")) 19
    ∷ unsupported (liga (codes "sub [A NULL] by C;")) 22
    ∷ unsupported (liga (codes "sub A by NULL;")) 24
    ∷ unsupported (liga (codes "sub \\5 by A;")) 19
    ∷ unsupported (liga (codes "sub [\\5] by A;")) 20
    ∷ unsupported (liga (codes "pos A <NULL>;")) 22
    ∷ unsupported (liga (codes "pos A (wght=1:2);")) 21
    ∷ unsupported (liga (codes "pos A <1 (wght=1:2) 3 4>;")) 24
    ∷ unsupported (liga (codes "sub [A - B] by C;")) 22
    ∷ unsupported (liga (codes "lookupflag RightToLeft;")) 26
    ∷ unsupported (liga (codes "lookup l useExtension { } l;")) 24
    ∷ unsupported (codes "feature liga useExtension { } liga;") 13
    ∷ unsupported (liga (codes "ignore rsub A';")) 22
    ∷ unsupported (liga (codes "pos base A;")) 19
    ∷ unsupported (liga (codes "enum pos mark A;")) 24
    ∷ unsupported (liga (codes "pos cursive A;")) 19
    ∷ unsupported (liga (codes "pos ligature A;")) 19
    ∷ unsupported (liga (codes "sub ${A} by B;")) 19
    ∷ unsupported (liga (codes "feature kern;")) 15
    ∷ unsupported (liga (codes "lookup l { feature x; } l;")) 26
    ∷ []) ≡ true
unfolding texts_on_literals
in_their_places = refl

-- each word that begins a statement which is not supported, in a feature and in a file
abbrev at_starts : List (List ℕ) → List Row
at_starts [] = []
at_starts (word ∷ words) = unsupported (liga (word ++ codes " x;")) 15
    ∷ unsupported (word ++ codes " x;") 0 ∷ at_starts words

statements : are_refused (at_starts (codes "include" ∷ codes "table" ∷ codes "anonymous"
    ∷ codes "anon" ∷ codes "size" ∷ codes "rsub" ∷ codes "markClass" ∷ codes "NULL"
    ∷ codes "RightToLeft" ∷ codes "useExtension" ∷ codes "valueRecordDef" ∷ codes "anchorDef"
    ∷ codes "cvParameters" ∷ codes "contourpoint" ∷ [])) ≡ true
unfolding texts_on_literals
statements = refl

-- ---- texts that are read

-- a text is read, and its words spell what is read of it
abbrev spells_read : List Word → Result FeatureFile Refusal → Bool
spells_read words (Ok file) = spells file words
spells_read words (Err refusal) = false

abbrev is_read : List ℕ → Bool
is_read text = spells_read (words_of text) (file_of text)

systems : is_read (codes "languagesystem DFLT dflt; @x = [A \\by @y]; @y = @x; # end") ≡ true
unfolding texts_on_literals
systems = refl

substitutions : is_read (liga (codes "sub A by B; substitute A by B C; sub A [B C] by D;"
    ++ codes "sub @x by @y;"
    ++ codes "sub A from [B C]; sub A' by B C; sub A @x' lookup l B by @y; sub A' lookup l B' C;"
    ++ codes "ignore sub A B', @x' C; sub A' B' by \\sub; lookup l { sub A by B; } l; lookup l;"))
    ≡ true
unfolding texts_on_literals
substitutions = refl

positions : is_read (liga (codes "pos A 5; pos A <1 -2 3 4>; position A 5 B; enum pos A 5 [B C] 6;"
    ++ codes "enumerate pos @x B 7; pos A B 32767; pos A' 5 B' lookup l -32768 C; pos \\base 3;"
    ++ codes "ignore pos A B', C'; subtable; pos base' 5;")) ≡ false
unfolding texts_on_literals
positions = refl

values : is_read (liga (codes "pos A 5; pos A <1 -2 3 4>; position A 5 B; enum pos A 5 [B C] 6;"
    ++ codes "enumerate pos @x B 7; pos A B 32767; pos A' 5 B' lookup l -32768 C; pos \\base 3;"
    ++ codes "ignore pos A B', C'; subtable;")) ≡ true
unfolding texts_on_literals
values = refl

flags : is_read (liga (codes "lookupflag 14; lookupflag; lookupflag IgnoreMarks IgnoreLigatures;"
    ++ codes "lookupflag MarkAttachmentType @x UseMarkFilteringSet [A] IgnoreBaseGlyphs;"
    ++ codes "script latn; language DEU; language NLD exclude_dflt; language sub include_dflt;"
    ++ codes "featureNames { name 3 1 \"x{y}\" $ 99999; };")) ≡ true
unfolding texts_on_literals
flags = refl

alternates : is_read (inside (codes "aalt") (codes "feature ss01; feature sub; sub A from [B];"))
    ≡ true
unfolding texts_on_literals
alternates = refl
