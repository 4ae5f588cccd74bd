use Rattle.std.proofs.Common.{ℤ, List, Option, Some, ap}
use Rattle.bus_semantics.specs.Common.{option_map, map-set, words_of}
use Rattle.task_machine.specs.Store.{Store}
use Rattle.task_machine.specs.Spots.{store_of}
use Rattle.task_machine.proofs.store.Store.keep.Goals as goal

pub returns-in-Some-clause-store : goal.returns-in-Some-clause-store
returns-in-Some-clause-store c =
    let m : Store = store_of c.args.self.now in
    ap (λ (w : List (Option (List ℤ))). let n : Store = record { vars = m.vars; fetched = m.fetched; written = w } in n) (map-set (option_map words_of) c.args.self.now.written.items c.args.slot (Some c.args.value))
