use Rattle.character_codes.specs.CharacterCodes.{codes_of}
use Rattle.font_plan.proofs.Characters.{codes_known, codes_given}
use Rattle.font_plan.proofs.font_reads.characters_in.Goals as goal

pub returns-clause-known : goal.returns-clause-known
returns-clause-known c =
    let index = c.args.index.now in
    let order = c.args.order.now in
    codes_given c.codes_in.result (codes_of index order.numbers) c.codes_in.ensures
    (codes_known c.codes_rise.ensures index order c.requires.index c.requires.order)
