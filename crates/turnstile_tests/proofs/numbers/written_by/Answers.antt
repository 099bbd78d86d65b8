use Rattle.std.proofs.Common.{length, sym, ap, ◌∙◌, arith}
use Rattle.std.proofs.lemmas.List.{with_items_is}
use Rattle.std.proofs.lemmas.List.Elements.{All-same}
use Rattle.turnstile.specs.Passes.{IsHistoryOf}
use Rattle.turnstile_tests.specs.Turns.{IsFresh, IsDone}
use Rattle.turnstile_tests.proofs.Orders.{fresh, length-new_passes, in_order}
use Rattle.turnstile_tests.proofs.numbers.written_by.Goals as goal

pub all_take_turns-requires-clause-fresh : goal.all_take_turns-requires-clause-fresh
all_take_turns-requires-clause-fresh g c κs within =
    let t = c.in_ok-turnstile.turnstile in
    All-same (IsFresh t) c.as_mut_slice.result.now _
    (c.as_mut_slice.ensures.value ∙ c.in_ok-turnstile.ensures.each) (fresh t _ 0 c.args.workers)

pub close_list-requires-clause-done : goal.close_list-requires-clause-done
close_list-requires-clause-done g c =
    let qs = c.all_take_turns.new.passes in
    let same = with_items_is c.in_ok-turnstile.passes qs
    (omega (arith, c.all_take_turns.auto.passes, c.as_mut_slice.ensures.len)) in
    All-same (IsDone c.in_ok-turnstile.turnstile) _ qs same c.all_take_turns.ensures.done

pub close_list-requires-clause-all : goal.close_list-requires-clause-all
close_list-requires-clause-all g c =
    let qs = c.all_take_turns.new.passes in
    let same = with_items_is c.in_ok-turnstile.passes qs
    (omega (arith, c.all_take_turns.auto.passes, c.as_mut_slice.ensures.len)) in
    ap (λ ps. length ps) same
    ∙ (c.all_take_turns.auto.passes
    ∙ (ap (λ ps. length ps) (c.as_mut_slice.ensures.value ∙ c.in_ok-turnstile.ensures.each)
    ∙ (length-new_passes c.in_ok-turnstile.turnstile _ 0 c.args.workers
    ∙ sym c.in_ok-turnstile.ensures.passes)))

pub returns : goal.returns
returns g c =
    let t = c.in_ok-turnstile.turnstile in
    let qs = c.all_take_turns.new.passes in
    let len = c.all_take_turns.auto.passes in
    let same = with_items_is c.in_ok-turnstile.passes qs
    (omega (arith, len, c.as_mut_slice.ensures.len)) in
    let closed = c.in_ok-list.list in
    let history = All-same (IsHistoryOf closed.entries.items closed.title) qs _ (sym same)
    c.in_ok-list.ensures.history in
    in_order t _ closed.title c.args.workers c.as_mut_slice.result.now qs closed.entries.items
    (c.as_mut_slice.ensures.value ∙ c.in_ok-turnstile.ensures.each) len
    c.all_take_turns.ensures.workers c.all_take_turns.ensures.done history
    (λ k le. c.in_ok-list.ensures.nobody_else k
    (omega (arith, le, c.in_ok-turnstile.ensures.passes)))
