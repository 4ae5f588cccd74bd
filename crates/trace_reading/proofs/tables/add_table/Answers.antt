use Rattle.std.proofs.Common.{◌++◌, ◌∷◌, [], sym, subst}
use Rattle.bus_semantics.specs.Common.{plan_of}
use Rattle.indexmap.proofs.SetLemmas.{AllZip-push}
use Rattle.trace_reading.specs.Tables.{AreTables, IsTable}
use Rattle.trace_reading.proofs.tables.add_table.Goals as goal

pub returns : goal.returns
returns c = λ ks are.
    let p = plan_of c.args.plan.now in
    subst (λ l. AreTables p (ks ++ c.args.kind ∷ []) l) (sym c.in_ok-push.ensures.items)
    (AllZip-push (λ k m. IsTable k p m) ks c.args.tables.now.items c.args.kind c.in_ok-table.table are c.in_ok-table.ensures)
