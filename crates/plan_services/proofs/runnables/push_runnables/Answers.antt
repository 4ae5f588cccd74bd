use Rattle.std.proofs.Common.{[], ◌∷◌, Some, sym, ap, ◌∙◌}
use Rattle.std.proofs.lemmas.Option.{slice_get-get_or}
use Rattle.plan_definitions.specs.Started.{runnable_of}
use Rattle.plan_services.specs.Shared.{accesses_of, signature_in}
use Rattle.plan_definitions.proofs.Turns.{from_added, from_all}
use Rattle.plan_services.proofs.Sharing.{at_place, within}
use Rattle.plan_services.proofs.runnables.push_runnables.Goals as goal

pub bounds-signatures-number : goal.bounds-signatures-number
bounds-signatures-number c = within accesses_of (signature_in c.args.source.now.d.now.types c.args.common.now.component.now) c.args.common.now.signatures.now c.args.runnables.now c.requires.signatures c.loop-number.number c.loop-number-test.true

pub push_runnable-requires-clause-signature : goal.push_runnable-requires-clause-signature
push_runnable-requires-clause-signature c = at_place accesses_of (signature_in c.args.source.now.d.now.types c.args.common.now.component.now) c.args.common.now.signatures.now c.args.runnables.now c.requires.signatures
    c.loop-number.number _ _ c.loop-number-test.true c.index-signatures-number.is c.index-runnables-number.is

pub push_runnable-requires-clause-own : goal.push_runnable-requires-clause-own
push_runnable-requires-clause-own c =
    let r = c.index-runnables-number.result in
    c.requires.own c.loop-number.number r (slice_get-get_or c.args.runnables.now c.loop-number.number r c.loop-number-test.true ∙ ap Some (sym c.index-runnables-number.is))

pub loop-number-preserved : goal.loop-number-preserved
loop-number-preserved c = record {
  listed = from_added (λ m r. runnable_of c.args.source.now.d.now c.args.source.now.f.now c.args.instance c.args.common.now.component.now m r ∷ []) c.args.runnables.now _ _ _ c.loop-number.number _ c.loop-number-test.true c.index-runnables-number.is c.in_ok-push_runnable.ensures.listed c.loop-number.invariant.listed;
  coded = c.in_ok-push_runnable.ensures.coded;
}

pub returns-clause-listed : goal.returns-clause-listed
returns-clause-listed c = from_all (λ m r. runnable_of c.args.source.now.d.now c.args.source.now.f.now c.args.instance c.args.common.now.component.now m r ∷ []) c.args.runnables.now _ _ c.loop-number.number c.loop-number-test.false c.loop-number.invariant.listed
