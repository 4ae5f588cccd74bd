use Rattle.std.proofs.Common.{ℕ, Global, Vec, map}
use Rattle.commands.specs.Carrying.{world}
use Rattle.commands.specs.Commands.{pair}
use Rattle.commands.proofs.Carried as by
use Rattle.rte_program.proofs.pair.pair_named.Goals as goal

pub returns-in-Ok-clause-ends : goal.returns-in-Ok-clause-ends
returns-in-Ok-clause-ends g c =
    let d = c.args.one.now in
    let e = c.args.two.now in
    let s = c.args.script.now in
    let before = world (g.S.Shelf.files c.args.shelf.now) (g.S.Shelf.faults c.args.shelf.now) (g.S.Shelf.long_files c.args.shelf.now) (g.S.Shelf.fetches c.args.shelf.now) (g.K.Sink.told c.args.out.now) (g.K.Sink.faults c.args.out.now) in
    let after = world (g.S.Shelf.files c.fetch_all.new.shelf) (g.S.Shelf.faults c.fetch_all.new.shelf) (g.S.Shelf.long_files c.fetch_all.new.shelf) (g.S.Shelf.fetches c.fetch_all.new.shelf) (g.K.Sink.told c.pair_files.new.out) (g.K.Sink.faults c.pair_files.new.out) in
    let files = by.three_files (λ (file : Vec ℕ Global). file.items) (g.S.Shelf.files c.args.shelf.now) d e s c.in-Ok.files.items c.index.result.now c.index-in-Ok.result.now c.index-in-Ok-2.result.now
    c.index.ensures c.index-in-Ok.ensures c.index-in-Ok-2.ensures c.in-Ok.ensures.held in
    by.fetched (pair d e s) c.pair_files.result before after (map (λ (file : Vec ℕ Global). file.items) c.in-Ok.files.items) c.in-Ok.ensures.held c.in-Ok.ensures.counts
    (rw (files, ← c.as_slice.ensures.value, ← c.as_slice-in-Ok.ensures.value, ← c.as_slice-in-Ok-2.ensures.value) (c.pair_files.ensures d e s))
