use Rattle.std.proofs.Common.{ℕ, Global, Vec, map}
use Rattle.commands.specs.Carrying.{world}
use Rattle.commands.specs.Commands.{header}
use Rattle.commands.proofs.Carried as by
use Rattle.rte_program.proofs.header.header_named.Goals as goal

pub returns-in-Ok-clause-ends : goal.returns-in-Ok-clause-ends
returns-in-Ok-clause-ends g c =
    let d = c.args.description.now in
    let before = world (g.S.Shelf.files c.args.shelf.now) (g.S.Shelf.faults c.args.shelf.now) (g.S.Shelf.long_files c.args.shelf.now) (g.S.Shelf.fetches c.args.shelf.now) (g.K.Sink.told c.args.out.now) (g.K.Sink.faults c.args.out.now) in
    let after = world (g.S.Shelf.files c.fetch_all.new.shelf) (g.S.Shelf.faults c.fetch_all.new.shelf) (g.S.Shelf.long_files c.fetch_all.new.shelf) (g.S.Shelf.fetches c.fetch_all.new.shelf) (g.K.Sink.told c.header_file.new.out) (g.K.Sink.faults c.header_file.new.out) in
    let files = by.one_file (λ (file : Vec ℕ Global). file.items) (g.S.Shelf.files c.args.shelf.now) d c.in-Ok.files.items c.index.result.now c.index.ensures c.in-Ok.ensures.held in
    by.fetched (header d c.args.name.now) c.header_file.result before after (map (λ (file : Vec ℕ Global). file.items) c.in-Ok.files.items) c.in-Ok.ensures.held c.in-Ok.ensures.counts (rw (files, ← c.as_slice.ensures.value) (c.header_file.ensures d))
