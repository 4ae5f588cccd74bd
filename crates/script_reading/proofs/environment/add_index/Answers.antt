use Rattle.std.proofs.Common.{◌++◌, ◌∷◌, [], sym, subst}
use Rattle.bus_semantics.specs.Common.{plan_of}
use Rattle.indexmap.proofs.SetLemmas.{AllZip-push}
use Rattle.script_reading.specs.Index.{AreIndexes, IsIndex}
use Rattle.script_reading.proofs.environment.add_index.Goals as goal

pub returns : goal.returns
returns c = λ fs are.
    let p = plan_of c.args.plan.now in
    subst (λ l. AreIndexes p (fs ++ c.args.form ∷ []) l) (sym c.in_ok-push.ensures.items)
    (AllZip-push (λ f m. IsIndex f p m) fs c.args.indexes.now.items c.args.form c.in_ok-index.index are c.in_ok-index.ensures)
