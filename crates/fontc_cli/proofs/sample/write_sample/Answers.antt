-- the text is made by no job
use Rattle.std.proofs.Common.{inl}
use Rattle.fontc_cli.proofs.Ends.{sample_written_ends}
use Rattle.fontc_cli.proofs.Samples.{text_is_sampled}
use Rattle.command_words.specs.Shown.{shown_sample}
use Rattle.fontc_cli.proofs.sample.write_sample.Goals as goal

pub returns-then-command-clause-ends : goal.returns-then-command-clause-ends
returns-then-command-clause-ends g c = rw c.of.ensures
    (sample_written_ends (shown_sample c.args.command) c.args.text.now 0 c.write_bytes.result _ _
    (text_is_sampled (shown_sample c.args.command) c.args.text.now c.if-command.true c.requires.text)
    c.write_bytes.ensures.ends)

pub returns-then-command-clause-board : goal.returns-then-command-clause-board
returns-then-command-clause-board g c = rw c.of.ensures (inl c.if-command.true)
