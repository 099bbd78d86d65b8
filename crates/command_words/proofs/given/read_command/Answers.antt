-- words of which one may not be given are no command
use Rattle.std.proofs.Common.{sym, ◌∙◌, map, string_bytes}
use Rattle.command_words.proofs.Ungiven.{not_given}
use Rattle.command_words.proofs.given.read_command.Goals as goal

pub returns-else-may_be_given-clause-command : goal.returns-else-may_be_given-clause-command
returns-else-may_be_given-clause-command c =
    sym (not_given (map string_bytes c.args.words.now)
    (sym c.may_be_given.ensures ∙ c.if-may_be_given.false))
