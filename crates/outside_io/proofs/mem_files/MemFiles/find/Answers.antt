use Rattle.std.proofs.Common.{List, take, is_some, sym, ap, ◌∙◌}
use Rattle.std.specs.List.{position_from}
use Rattle.std.specs.Str.{bytes_eq}
use Rattle.outside_io.specs.Memory.{Memory, number_of}
use Rattle.outside_io.specs.declared.mem_files.Slot.{Slot}
use Rattle.outside_io.proofs.Paths.{is_some-number_of, number_of-within}
use Rattle.outside_io.proofs.SlotLemmas.{number_of-shown}
use Rattle.outside_io.proofs.mem_files.MemFiles.find.Goals as goal

-- the places that are used show the paths
pub returns-clause-number : goal.returns-clause-number
returns-clause-number c =
    let used = c.self.inside.used in
    let path = c.args.path.now in
    c.place_among.ensures
    ∙ ap (λ (slots : List Slot). position_from (λ slot. bytes_eq slot.name.items path) 0
    (take used slots)) c.deref.ensures.value
    ∙ sym (number_of-shown (take used c.self.inside.slots.items) path)
    ∙ ap (λ (m : Memory). number_of m.paths path) c.self.view_is

pub returns-clause-there : goal.returns-clause-there
returns-clause-there c = ap is_some (returns-clause-number c)
    ∙ is_some-number_of c.args.self.now.paths c.args.path.now

pub returns-clause-within : goal.returns-clause-within
returns-clause-within c = number_of-within c.args.self.now.paths c.args.path.now
    c.place_among.result (returns-clause-number c)
