-- The rules on components, where programs are held elsewhere.
use Rattle.std.proofs.Common.{◌≡◌, ℕ, List, map, Option, Some, option_map, option_and_then, refl, ap, ◌∙◌, ◌==◌, nat_lt}
use Rattle.bus_semantics.specs.Common.{flat_map, option_or, AccessKind}
use Rattle.runnable_lang.specs.declared.program.AccessKind.TheVariants as kind
use Rattle.runnable_lang.specs.Refusals as programs
use Rattle.plan_definitions.specs.Common.{TypeTable, Access, Component, Event, EventKind, Timing, Init, DataReceived, OperationInvoked, CallReturns, ModeSwitchedAck, Runnable, Description}
use Rattle.plan_definitions.specs.Common.{misfit, misfit_among, access_keeps, called, called_by, event_keeps, is_left, left, left_by, mixed, mixed_access, mixed_event, incoherent}
use Rattle.plan_definitions.specs.Common.{incoherent_among, misplaced, wrongly_disabled, first_of, unless, wrongly_served, path_of, program_refusal, refused_in, broken_in, of_program}
use Rattle.plan_definitions.specs.Common.{of_rule, signature, program_text, spot_text, count, same_operation}
use Rattle.description_types.specs.declared.component.EventKind.TheVariants.{ModeSwitch}
use Rattle.component_model.specs.Programs.{component_tree, runnable_tree}
use Rattle.plan_definitions.specs.declared.component_rule.ComponentRule as rules
use Rattle.plan_definitions.specs.declared.component_rule.ComponentRule.TheVariants as rule
use Rattle.plan_definitions.specs.declared.spot.Spot.TheVariants as spot
use Rattle.plan_definitions.specs.ComponentRefusals.{number_of, refusal}
use Rattle.description_stages.proofs.Held.{bare, held_as, on_each, on_first, running}

-- ---- a component

accesses_of : (r s : Runnable) → runnable_tree r ≡ runnable_tree s → r.accesses ≡ s.accesses
accesses_of r s e = ap (λ t. t.accesses) e

runnables_of : (a b : Component) → component_tree a ≡ component_tree b → map runnable_tree a.behavior.runnables ≡ map runnable_tree b.behavior.runnables
runnables_of a b e = ap (λ t. t.behavior.runnables) e

misfit-again : (types : TypeTable) (a b : Component) → component_tree a ≡ component_tree b → misfit types a ≡ misfit types b
misfit-again types a b e = on_first runnable_tree (λ m r. misfit_among types a.ports m r.accesses) (λ m r. misfit_among types b.ports m r.accesses)
    (λ m r s same. λ i. misfit_among types ((e i).ports) m (accesses_of r s same i)) 0 a.behavior.runnables b.behavior.runnables (runnables_of a b e)

module _ (rs ss : List Runnable) (same : map runnable_tree rs ≡ map runnable_tree ss) where
  called-again : called rs ≡ called ss
  called-again = on_each runnable_tree (λ r. flat_map called_by r.accesses) (λ r s e. ap (flat_map called_by) (accesses_of r s e)) rs ss same

  left-again : left rs ≡ left ss
  left-again = on_each runnable_tree (λ r. flat_map left_by r.accesses) (λ r s e. ap (flat_map left_by) (accesses_of r s e)) rs ss same

  is_left-again : (x : ℕ × ℕ) → is_left rs x ≡ is_left ss x
  is_left-again x = ap (λ xs. nat_lt 0 (count (same_operation x) xs)) left-again

  access_keeps-again : (a : Access) → access_keeps rs a ≡ access_keeps ss a
  access_keeps-again a = by a.kind
    where
      by : (k : AccessKind) → access_keeps rs (record { kind = k; port = a.port; item = a.item }) ≡ access_keeps ss (record { kind = k; port = a.port; item = a.item })
      by kind.ACall = ap (λ xs. count (same_operation (a.port, a.item)) xs == 1) called-again
      by kind.TakeResult = is_left-again (a.port, a.item)
      by _ = refl

  event_keeps-again : (e : EventKind) → event_keeps rs e ≡ event_keeps ss e
  event_keeps-again (CallReturns k n) = is_left-again (k, n)
  event_keeps-again (Timing period) = refl
  event_keeps-again Init = refl
  event_keeps-again (DataReceived k n) = refl
  event_keeps-again (OperationInvoked k n) = refl
  event_keeps-again (ModeSwitch k moment) = refl
  event_keeps-again (ModeSwitchedAck k) = refl

  mixed_access-again : mixed_access rs ≡ mixed_access ss
  mixed_access-again = on_first runnable_tree (λ m r. first_of (λ k a. unless (access_keeps rs a) (spot.Access m k)) 0 r.accesses) (λ m r. first_of (λ k a. unless (access_keeps ss a) (spot.Access m k)) 0 r.accesses)
      (λ m r s e. λ i. first_of (λ k a. unless (access_keeps-again a i) (spot.Access m k)) 0 (accesses_of r s e i)) 0 rs ss same

  mixed_event-again : (events : List Event) → mixed_event rs events ≡ mixed_event ss events
  mixed_event-again events = λ i. first_of (λ k e. unless (event_keeps-again e.kind i) (spot.Event k)) 0 events

mixed-again : (a b : Component) → component_tree a ≡ component_tree b → mixed a ≡ mixed b
mixed-again a b e = let same = runnables_of a b e in
    λ i. option_or (mixed_access-again a.behavior.runnables b.behavior.runnables same i) ((mixed_event-again a.behavior.runnables b.behavior.runnables same a.behavior.events ∙ ap (mixed_event b.behavior.runnables) (ap (λ t. t.behavior.events) e)) i)

incoherent-again : (types : TypeTable) (a b : Component) → component_tree a ≡ component_tree b → incoherent types a ≡ incoherent types b
incoherent-again types a b e = on_first runnable_tree (λ m r. incoherent_among types a m r) (λ m r. incoherent_among types b m r)
    (λ m r s same. λ i. incoherent_among types (bare (e i)) m (running r.program (same i))) 0 a.behavior.runnables b.behavior.runnables (runnables_of a b e)

broken_in-again : (r : rules.ComponentRule) (types : TypeTable) (a b : Component) → component_tree a ≡ component_tree b → broken_in r types a ≡ broken_in r types b
broken_in-again rule.Accesses types a b e = misfit-again types a b e
broken_in-again rule.EventKinds types a b e = ap (λ t. misplaced types (bare t)) e
broken_in-again rule.Invocations types a b e = ap (λ t. wrongly_served types (bare t)) e
broken_in-again rule.Calls types a b e = mixed-again a b e
broken_in-again rule.Disablings types a b e = ap (λ t. wrongly_disabled types (bare t)) e
broken_in-again rule.CoherentLists types a b e = incoherent-again types a b e

pub signature-again : (types : TypeTable) (a b : Component) → component_tree a ≡ component_tree b → (accesses : List Access) → signature types a accesses ≡ signature types b accesses
signature-again types a b e accesses = ap (λ t. signature types (bare t) accesses) e

program_refusal-again : (types : TypeTable) (a b : Component) → component_tree a ≡ component_tree b → (r s : Runnable) → runnable_tree r ≡ runnable_tree s → program_refusal types a r ≡ program_refusal types b s
program_refusal-again types a b e r s same = λ i. programs.refusal (signature types (bare (e i)) ((same i).accesses)) ((same i).program)

refused_in-again : (wanted : Option ℕ) (types : TypeTable) (a b : Component) → component_tree a ≡ component_tree b → refused_in wanted types a ≡ refused_in wanted types b
refused_in-again wanted types a b e = on_first runnable_tree
    (λ m r. option_map (λ path. (m, path)) (option_and_then (path_of wanted) (program_refusal types a r)))
    (λ m r. option_map (λ path. (m, path)) (option_and_then (path_of wanted) (program_refusal types b r)))
    (λ m r s same. ap (λ o. option_map (λ path. (m, path)) (option_and_then (path_of wanted) o)) (program_refusal-again types a b e r s same))
    0 a.behavior.runnables b.behavior.runnables (runnables_of a b e)

-- ---- a description

module _ (d : Description) (cs : List Component) (same : map component_tree d.components ≡ map component_tree cs) where
  pub of_rule-again : (r : rules.ComponentRule) → of_rule r d ≡ of_rule r (held_as d cs)
  of_rule-again r = ap (λ o. option_map (λ x. (number_of r, spot_text x.0 x.1)) o)
      (on_first component_tree (λ n c. option_map (λ place. (n, place)) (broken_in r d.types c)) (λ n c. option_map (λ place. (n, place)) (broken_in r d.types c))
      (λ n a b e. ap (option_map (λ place. (n, place))) (broken_in-again r d.types a b e)) 0 d.components cs same)

  of_program-again : (r : ℕ) → of_program r d ≡ of_program r (held_as d cs)
  of_program-again r = ap (λ o. option_map (λ x. (r, program_text x.0 x.1.0 x.1.1)) o)
      (on_first component_tree (λ n c. option_map (λ x. (n, x)) (refused_in (Some r) d.types c)) (λ n c. option_map (λ x. (n, x)) (refused_in (Some r) d.types c))
      (λ n a b e. ap (option_map (λ x. (n, x))) (refused_in-again (Some r) d.types a b e)) 0 d.components cs same)

  pub refusal-again : refusal d ≡ refusal (held_as d cs)
  refusal-again = λ i. option_or (of_rule-again rule.Accesses i)
      (option_or (option_or (of_program-again 17 i) (option_or (of_program-again 18 i) (option_or (of_program-again 19 i) (of_program-again 20 i))))
      (option_or (of_rule-again rule.EventKinds i) (option_or (of_rule-again rule.Invocations i) (option_or (of_rule-again rule.Calls i) (of_rule-again rule.Disablings i)))))
