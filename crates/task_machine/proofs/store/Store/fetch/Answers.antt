use Rattle.std.proofs.Common.{ℤ, List, ap}
use Rattle.bus_semantics.specs.Common.{map-set, words_of}
use Rattle.task_machine.specs.Store.{Store}
use Rattle.task_machine.specs.Spots.{store_of}
use Rattle.task_machine.proofs.store.Store.fetch.Goals as goal

pub returns-in-Some-clause-store : goal.returns-in-Some-clause-store
returns-in-Some-clause-store c =
    let m : Store = store_of c.args.self.now in
    ap (λ (f : List (List ℤ)). let n : Store = record { vars = m.vars; fetched = f; written = m.written } in n) (map-set words_of c.args.self.now.fetched.items c.args.slot c.args.value)
