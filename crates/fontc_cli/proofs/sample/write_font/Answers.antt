-- a compilation whose font is begun leaves its board, whose jobs are told
use Rattle.std.proofs.Common.{Ok, sym, ap, ◌∙◌}
use Rattle.fontc_cli.proofs.BoardLaws.{sample_board_reported}
use Rattle.fontc_cli.proofs.Ends.{sample_written_ends}
use Rattle.fontc_cli.proofs.Samples.{board_of_text, font_is_sampled}
use Rattle.command_words.specs.Shown.{shown_sample}
use Rattle.fontc_cli.proofs.sample.write_font.Goals as goal

pub returns-in-Ok-clause-ends : goal.returns-in-Ok-clause-ends
returns-in-Ok-clause-ends g c = rw c.with_board.ensures.status
    (sample_written_ends (shown_sample c.args.command) c.as_slice-font.result.now c.jobs_run-jobs.result
    c.write_bytes-status.result _ _
    (font_is_sampled (shown_sample c.args.command) c.as_slice-font.result.now c.jobs_run-jobs.result c.in-Ok.built.board
    c.requires.font
    (board_of_text (shown_sample c.args.command) c.args.text.now c.as_slice-font.result.now c.in-Ok.built.board c.requires.text
    c.in-Ok.ensures.ended c.in-Ok.ensures.workers c.in-Ok.ensures.over
    (c.in-Ok.ensures.font ∙ ap Ok (sym c.as_slice-font.ensures.value)))
    c.jobs_run-jobs.ensures)
    c.write_bytes-status.ensures.ends)

pub returns-in-Ok-clause-board : goal.returns-in-Ok-clause-board
returns-in-Ok-clause-board g c = sample_board_reported (shown_sample c.args.command) c.write_bytes-status.result
    c.as_slice-font.result.now c.jobs_run-jobs.result c.in-Ok.built.board _ _
    c.with_board.result.status c.with_board.result.board c.with_board.ensures.status
    c.with_board.ensures.board c.requires.font
    (board_of_text (shown_sample c.args.command) c.args.text.now c.as_slice-font.result.now c.in-Ok.built.board c.requires.text
    c.in-Ok.ensures.ended c.in-Ok.ensures.workers c.in-Ok.ensures.over
    (c.in-Ok.ensures.font ∙ ap Ok (sym c.as_slice-font.ensures.value)))
    c.jobs_run-jobs.ensures c.write_bytes-status.ensures.ends
