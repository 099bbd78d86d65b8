-- a compilation whose font is begun leaves its board, and ends the build
use Rattle.std.proofs.Common.{◌≡◌, ℕ, List, Option, Some, None, IfSome, Ok, refl, sym, ap, ◌∙◌}
use Rattle.font_plan.specs.Font.{font_of}
use Rattle.fontc_cli.proofs.BoardLaws.{board_reported, over_told}
use Rattle.fontc_cli.proofs.Ends.{font_written_ends}
use Rattle.fontc_cli.proofs.runs.build_source.Goals as goal

-- the font of what was read is that of what the path is told to hold
font_told : (told : Option (List ℕ)) (source font : List ℕ) → font_of source ≡ Ok font
    → IfSome told (λ bytes. source ≡ bytes) → IfSome told (λ bytes. font_of bytes ≡ Ok font)
font_told None source font is read = tt
font_told (Some bytes) source font is read = sym (ap font_of read) ∙ is

pub returns-in-Ok-clause-ends : goal.returns-in-Ok-clause-ends
returns-in-Ok-clause-ends g c = rw c.with_board.ensures.status
    (font_written_ends _ c.as_slice-font.result.now _ c.write_font-status.result _ _
    (font_told _ c.args.source.now c.as_slice-font.result.now
    (c.in-Ok.ensures.font ∙ ap Ok (sym c.as_slice-font.ensures.value)) c.requires.read)
    refl c.write_font-status.ensures.ends)

pub returns-in-Ok-clause-board : goal.returns-in-Ok-clause-board
returns-in-Ok-clause-board g c = board_reported _ c.write_font-status.result
    c.as_slice-font.result.now _ c.in-Ok.built.board _ _ c.with_board.result.status
    c.with_board.result.board c.with_board.ensures.status c.with_board.ensures.board
    (record {
      ended = c.in-Ok.ensures.ended;
      one_worker = c.in-Ok.ensures.workers;
      over = over_told _ c.in-Ok.built.board.plan c.args.source.now c.in-Ok.ensures.over
          c.requires.read;
      verdict = ap font_of c.in-Ok.ensures.over ∙ c.in-Ok.ensures.font
          ∙ ap Ok (sym c.as_slice-font.ensures.value);
    })
    c.write_font-status.ensures.ends
