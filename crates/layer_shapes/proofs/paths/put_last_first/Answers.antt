use Rattle.std.proofs.Common.{◌≡◌, ◌<◌, ◌-◌, ◌++◌, length, take, drop, rules, arith}
use Rattle.std.proofs.lemmas.Grind.{common_steps}
use Rattle.layer_shapes.proofs.LastFirst.{turned_back}
use Rattle.layer_shapes.proofs.paths.put_last_first.Goals as goal

pub returns-then-not-is_empty : goal.returns-then-not-is_empty
returns-then-not-is_empty c =
    let items = c.args.points.now.items in
    let some : 0 < length items = grind (arith, common_steps) in
    let turned : c.rotate_right.new.self ≡ drop (length items - 1) items
    ++ take (length items - 1) items =
    grind (arith, common_steps) in
    turned_back items c.rotate_right.new.self c.args.points.now.len (search rules) some turned
