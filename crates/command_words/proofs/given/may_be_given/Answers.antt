-- `all` answers whether each word may be given
use Rattle.std.proofs.Common.{◌≡◌, rules, tests, refl, ap, ◌∙◌, ◌&&◌, List, [], ◌∷◌}
use Rattle.std.proofs.Common.{map, String, Global}
use Rattle.std.proofs.Common.{string_bytes}
use Rattle.std.specs.List.{list_all}
use Rattle.std.proofs.lemmas.Iterator.{YieldsList-from_slice}
use Rattle.std.proofs.lemmas.Iterator.Search.{all_from_yields_List}
use Rattle.command_words.specs.Grammar.{may_be_given}
use Rattle.command_words.proofs.given.may_be_given.Goals as goal

all_of_bytes : (words : List (String Global))
    → list_all (λ word. may_be_given (string_bytes word)) words
    ≡ list_all may_be_given (map string_bytes words)
all_of_bytes [] = refl
all_of_bytes (word ∷ words) = ap (λ b. may_be_given (string_bytes word) && b) (all_of_bytes words)

pub returns : goal.returns
returns c = all_from_yields_List (λ word. may_be_given (string_bytes word)) _ _ _ c.all.ensures.ran
    (YieldsList-from_slice c.args.words.now cc) (λ x b q k. search (rules, tests))
    ∙ all_of_bytes c.args.words.now
