use Rattle.std.proofs.Common.{◌∷◌, refl, sym, subst}
use Rattle.bus_semantics.specs.declared.entries.Entry.{Entry}
use Rattle.core_runtime.specs.Common.{NodeState, IsLawfulNode}
use Rattle.core_runtime.proofs.Ticking.{is_tick}
use Rattle.core_runtime.proofs.node.Node.tick.Goals as goal

pub returns-then-not-tick_clock-clause-lawful : goal.returns-then-not-tick_clock-clause-lawful
returns-then-not-tick_clock-clause-lawful c = λ h lawful.
    let made = c.environment.ensures in
    subst (λ (e : Entry). IsLawfulNode c.environment.new.self (e ∷ h)) (is_tick c.environment.result made.actor (made.wish 0))
    (made.lawful h (subst (λ (n : NodeState). IsLawfulNode n h) (sym (c.if-not-tick_clock.ensures.same refl)) lawful))
