-- clap's answer is the command
use Rattle.std.proofs.Common.{◌≡◌, ◌⊎◌, sym, ap, ◌∙◌, subst, map, string_bytes}
use Rattle.clap.specs.Simple.{is_simple, subcommand_of}
use Rattle.clap.specs.Faults.{fault_of, is_simple_and_free}
use Rattle.clap.specs.Kinds.{IsAmong}
use Rattle.clap.specs.Values.{kind_of}
use Rattle.clap.specs.declared.error.kind.ErrorKind.TheVariants.{OutOfMemory}
use Rattle.command_words.specs.Matched.{command_in}
use Rattle.command_words.proofs.Answered.{found, refused}
use Rattle.command_words.proofs.given.read_given.Goals as goal

pub returns-in-Ok-clause-command : goal.returns-in-Ok-clause-command
returns-in-Ok-clause-command c =
    let words = map string_bytes c.args.words.now in
    let is = c.in_ok-fontc.ensures in
    c.command_in.ensures.command
    ∙ ap command_in ((c.in-Ok.ensures.matches (ap is_simple is)).1
    ∙ ap (λ a. subcommand_of a words) is)
    ∙ found words c.requires (sym (ap (λ a. fault_of a words) is)
    ∙ c.in-Ok.ensures.kinds (ap is_simple_and_free is))

pub returns : goal.returns
returns c =
    let words = map string_bytes c.args.words.now in
    let is = c.in_ok-fontc.ensures in
    let kind = kind_of c.in-Err.error in record {
      command = refused words kind c.requires
          (λ memory. c.in_default.not-OutOfMemory (c.kind.ensures ∙ memory))
          (subst (λ a. (kind ≡ OutOfMemory) ⊎ IsAmong kind (fault_of a words)) is
          (c.in-Err.ensures.kinds (ap is_simple_and_free is)));
      runnable = tt;
    }
