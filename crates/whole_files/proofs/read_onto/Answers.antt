use Rattle.std.proofs.Common.{◌≡◌, ◌++◌, take, length, rules}
use Rattle.outside_io.specs.Files.{told_bytes}
use Rattle.whole_files.proofs.Fronts.{read_goes_on}
use Rattle.whole_files.proofs.read_onto.Goals as goal

pub returns-in-Ok-extend_from_slice-clause-front : goal.returns-in-Ok-extend_from_slice-clause-front
returns-in-Ok-extend_from_slice-clause-front g c =
    let e : c.extend_from_slice.new.self.items
    ≡ c.args.bytes.now.items ++ take c.in-Ok.count c.read_some.new.into
    = c.in-Ok-extend_from_slice.ensures.items in
    let here : c.len.result ≡ length c.args.bytes.now.items = search rules in
    rw e (read_goes_on (told_bytes (g.F.Files.holds c.args.files.now c.args.path.now))
    c.args.bytes.now.items (take c.in-Ok.count c.read_some.new.into) c.len.result c.in-Ok.count
    here c.requires.front c.in-Ok.ensures.bytes)
