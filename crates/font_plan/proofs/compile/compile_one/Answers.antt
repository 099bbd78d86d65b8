-- the verdict on the board's source is that on this source
use Rattle.std.proofs.Common.{sym, ap, ◌∙◌, Ok}
use Rattle.std.specs.Arc.{arc_value}
use Rattle.font_plan.specs.Font.{font_of}
use Rattle.font_plan.proofs.Judgement.{font_item_is, same_font}
use Rattle.font_plan.proofs.compile.compile_one.Goals as goal

pub font_bytes-requires : goal.font_bytes-requires
font_bytes-requires c =
    let made = font_item_is c.in_ok-board.board.plan (arc_value c.in_ok-item.item)
    c.in_ok-item.ensures in
    (made.font, c.deref.ensures ∙ made.is)

pub returns : goal.returns
returns c =
    let made = font_item_is c.in_ok-board.board.plan (arc_value c.in_ok-item.item)
    c.in_ok-item.ensures in
    record {
      font = ap font_of (sym c.in_ok-board.ensures.over) ∙ made.accepted
          ∙ ap Ok (same_font made.font c.in_ok-font.font.items
          (sym made.is ∙ sym c.deref.ensures ∙ c.in_ok-font.ensures));
      over = c.in_ok-board.ensures.over;
      workers = c.in_ok-board.ensures.workers;
      ended = c.in_ok-board.ensures.ended;
    }
