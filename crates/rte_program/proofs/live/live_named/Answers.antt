use Rattle.std.proofs.Common.{ℕ, Global, Vec, map}
use Rattle.commands.specs.Carrying.{world}
use Rattle.commands.specs.Commands.{live, stimuli}
use Rattle.commands.proofs.Carried as by
use Rattle.rte_program.proofs.live.live_named.Goals as goal

pub returns-in-Ok-clause-ends : goal.returns-in-Ok-clause-ends
returns-in-Ok-clause-ends g c =
    let d = c.args.description.now in
    let before = world (g.S.Shelf.files c.args.shelf.now) (g.S.Shelf.faults c.args.shelf.now) (g.S.Shelf.long_files c.args.shelf.now) (g.S.Shelf.fetches c.args.shelf.now) (g.K.Sink.told c.args.out.now) (g.K.Sink.faults c.args.out.now) in
    let after = world (g.S.Shelf.files c.fetch_all.new.shelf) (g.S.Shelf.faults c.fetch_all.new.shelf) (g.S.Shelf.long_files c.fetch_all.new.shelf) (g.S.Shelf.fetches c.fetch_all.new.shelf) (g.K.Sink.told c.live_files.new.out) (g.K.Sink.faults c.live_files.new.out) in
    let files = by.two_files (λ (file : Vec ℕ Global). file.items) (g.S.Shelf.files c.args.shelf.now) d stimuli c.in-Ok.files.items c.index.result.now c.index-in-Ok.result.now c.index.ensures c.index-in-Ok.ensures c.in-Ok.ensures.held in
    by.fetched (live d) c.live_files.result before after (map (λ (file : Vec ℕ Global). file.items) c.in-Ok.files.items) c.in-Ok.ensures.held c.in-Ok.ensures.counts
    (rw (files, ← c.as_slice.ensures.value, ← c.as_slice-in-Ok.ensures.value) (c.live_files.ensures d))
