use Rattle.std.proofs.Common.{ℕ, ◌∙◌, ap, arith, length, map, false}
use Rattle.std.proofs.lemmas.List.{length-map}
use Rattle.circular_buffer.specs.Buffer.{Buffer}
use Rattle.rte_value.specs.declared.kinds.Step.TheVariants as step
use Rattle.mode_machine.specs.Common.{Watched, idle_dependency, modes_in, never_owed, owed_by, Tracked}
use Rattle.mode_machine.proofs.machine.Machine.new.Goals as goal

pub invariant_of-result : goal.invariant_of-result
invariant_of-result c =
    let initial = c.args.initial in
    let owed = ap (λ (t : Tracked). t.events) c.in_ok-entered.ensures ∙ ap (λ ms. map (owed_by step.Entry initial initial) (map never_owed ms)) c.deref.ensures.value in
    let disablings = c.args.disablings.items in
    record {
      few_events = omega (arith, c.requires.few_events, ap length owed, length-map (map never_owed c.args.owed.items) (owed_by step.Entry initial initial), length-map c.args.owed.items never_owed);
      few_disablings = omega (arith, c.requires.few_disablings, ap (λ (w : Watched). length w.events) c.in_ok-new.ensures, length-map (map modes_in disablings) idle_dependency, length-map disablings modes_in);
      last = ap (λ (t : Tracked). t.last) c.in_ok-entered.ensures;
      watched = ap (λ (w : Watched). w.mode) c.in_ok-new.ensures;
    }

pub returns : goal.returns
returns c =
    let initial = c.args.initial in
    let owed = ap (λ (t : Tracked). t.events) c.in_ok-entered.ensures ∙ ap (λ ms. map (owed_by step.Entry initial initial) (map never_owed ms)) c.deref.ensures.value in
    let acks = c.in_ok-vec.ensures.items_if_clones_equal (λ y e. e) in
    let rows = ap (λ (w : Watched). w.events) c.in_ok-new.ensures in
    let ring = c.in_ok-with_capacity.ensures in
    λ i. record {
      modes = c.args.modes;
      queue = ap (λ (b : Buffer ℕ). b.capacity) ring i;
      waits = c.args.waits;
      stage = step.Entry;
      settled = initial;
      next = initial;
      was_stable = false;
      unbegun = ap (λ (b : Buffer ℕ). b.items) ring i;
      owed = owed i;
      acks = acks i;
      disablings = rows i;
    }
