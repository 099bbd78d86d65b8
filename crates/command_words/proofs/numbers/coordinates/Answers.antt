-- each piece gives its coordinate
use Rattle.std.proofs.Common.{rules, tests, lit<}
use Rattle.std.proofs.lemmas.Iterator.{YieldsList-from_map, items_from_collect}
use Rattle.std.proofs.lemmas.Iterator.Consumers.{YieldsList-at}
use Rattle.std.proofs.lemmas.Iterator.Splits.{YieldsList-from_str_split}
use Rattle.command_words.specs.Commands.{coordinate_of}
use Rattle.command_words.proofs.numbers.coordinates.Goals as goal

pub returns : goal.returns
returns c = items_from_collect _ c.collect.ensures.ran (YieldsList-from_map _ coordinate_of
    (YieldsList-at c.map.ensures.source (YieldsList-from_str_split 44 c.args.word.now (lit< tt)
    c.split.ensures.text c.split.ensures.has_more c.split.ensures.pattern)) c.map.ensures.closure
    (λ x r q k. search (rules, tests)))
