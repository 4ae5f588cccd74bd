use Rattle.std.proofs.Common.{◌≡◌, true, ◌<◌, ◌≤◌, length, get_or, set, refl, sym, ◌∙◌, ap, subst, arith, [], ◌∷◌, ◌++◌}
use Rattle.bus_semantics.specs.Plan.{plan_of}
use Rattle.task_slots.specs.Common.{Nothing, Looked, SlotLooked}
use Rattle.task_slots.specs.Slots.{slot_tries, events_of_slot}
use Rattle.task_slots.specs.Waiting.{looks_awake}
use Rattle.task_slots.proofs.Onward.{looked_as}
use Rattle.task_slots.proofs.Counted.{all_looks}
use Rattle.task_slots.proofs.Unchanged.{none_asleep}
use Rattle.task_slots.proofs.Written.{look_is}
use Rattle.core_turn.proofs.Passing.{found_at, set_same, pass_on, pass_made, pass_lost, none_passed}
use Rattle.core_turn.proofs.looking.look_through.Goals as goal

pub loop-at-init : goal.loop-at-init
loop-at-init g c = record { slots = refl; home = refl; plan = refl; none = refl; capacity = refl; looked = none_passed (plan_of c.args.p.now) c.args.t.now c.args.slots.now.items c.args.from (g.B.Bench.told c.args.bench.now) }

pub look_at-requires-clause-ready : goal.look_at-requires-clause-ready
look_at-requires-clause-ready g c =
    let within : c.loop-at.at < length c.loop-at.slots.items = omega (arith, ap length c.loop-at.invariant.slots) in
    c.requires.ready c.loop-at.at c.index_mut.result.now (subst (λ xs. Rattle.std.specs.List.slice_get xs c.loop-at.at ≡ Rattle.std.proofs.Common.Some c.index_mut.result.now) c.loop-at.invariant.slots
    (found_at c.loop-at.slots.items c.loop-at.at c.index_mut.result.now within c.index_mut.ensures.value))

pub look_at-requires-clause-held : goal.look_at-requires-clause-held
look_at-requires-clause-held g c = none_asleep (plan_of c.args.p.now) (g.B.Bench.told c.loop-at.bench).objects (events_of_slot c.index_mut.result.now)

pub look_at-requires-clause-space : goal.look_at-requires-clause-space
look_at-requires-clause-space g c =
    let none = c.loop-at.invariant.none in
    let count : length c.loop-at.made.items ≡ length c.args.made.now.items = ap length none in
    omega (arith, c.requires.space, c.loop-at.invariant.capacity)

pub returns-in-Made-clause-pass : goal.returns-in-Made-clause-pass
returns-in-Made-clause-pass g c =
    let s = c.in-Made.ensures.written.0 in
    let written = look_is c.last_entries_are_last.ensures c.loop-at.made.items c.look_at.new.made.items c.in-Made.ensures.written in
    let same = c.loop-at.invariant.slots in
    let within : c.loop-at.at < length c.args.slots.now.items = omega arith in
    let behind : c.args.from ≤ c.loop-at.at = omega arith in
    let is : c.index_mut.result.now ≡ get_or c.args.slots.now.items c.loop-at.at c.index_mut.result.now = c.index_mut.ensures.value ∙ ap (λ xs. get_or xs c.loop-at.at c.index_mut.result.now) same in
    record {
      within = c.loop-at-test.true;
      entry = s;
      written = c.in-Made.ensures.written.1 ∙ ap (λ ys. ys ++ s ∷ []) c.loop-at.invariant.none;
      made = pass_made (plan_of c.args.p.now) c.args.t.now c.args.slots.now.items c.args.from c.loop-at.at c.index_mut.result.now behind within is
          _ c.look_at.new.slot _ _ _ _ _ s (ap (λ xs. set xs c.loop-at.at c.look_at.new.slot) same)
          (subst (SlotLooked (plan_of c.args.p.now) c.args.t.now c.index_mut.result.now c.look_at.new.slot) written c.in-Made.ensures.slot) c.loop-at.invariant.looked
          (subst (Looked (plan_of c.args.p.now) (slot_tries (plan_of c.args.p.now) c.args.t.now c.index_mut.result.now) (looks_awake (plan_of c.args.p.now) c.index_mut.result.now (λ i. true))
          (g.B.Bench.told c.loop-at.bench) (g.B.Bench.told c.look_at.new.bench)) written c.in-Made.ensures.looked);
    }

pub returns-in-Contended-clause-pass : goal.returns-in-Contended-clause-pass
returns-in-Contended-clause-pass g c =
    let same = c.loop-at.invariant.slots in
    let within : c.loop-at.at < length c.args.slots.now.items = omega arith in
    let behind : c.args.from ≤ c.loop-at.at = omega arith in
    let is : c.index_mut.result.now ≡ get_or c.args.slots.now.items c.loop-at.at c.index_mut.result.now = c.index_mut.ensures.value ∙ ap (λ xs. get_or xs c.loop-at.at c.index_mut.result.now) same in
    record {
      same = ap (λ xs. set xs c.loop-at.at c.look_at.new.slot) same ∙ ap (set c.args.slots.now.items c.loop-at.at) c.in-Contended.ensures.slot ∙ set_same c.args.slots.now.items c.loop-at.at c.index_mut.result.now is;
      none = c.in-Contended.ensures.written ∙ c.loop-at.invariant.none;
      looked = pass_lost (plan_of c.args.p.now) c.args.t.now c.args.slots.now.items c.args.from c.loop-at.at c.index_mut.result.now behind within is c.args.to _ _ _ _ _ c.in-Contended.object c.loop-at-test.true c.loop-at.invariant.looked c.in-Contended.ensures.looked;
    }

pub loop-at-preserved : goal.loop-at-preserved
loop-at-preserved g c =
    let same = c.loop-at.invariant.slots in
    let within : c.loop-at.at < length c.args.slots.now.items = omega arith in
    let behind : c.args.from ≤ c.loop-at.at = omega arith in
    let is : c.index_mut.result.now ≡ get_or c.args.slots.now.items c.loop-at.at c.index_mut.result.now = c.index_mut.ensures.value ∙ ap (λ xs. get_or xs c.loop-at.at c.index_mut.result.now) same in
    record {
      slots = ap (λ xs. set xs c.loop-at.at c.look_at.new.slot) same ∙ ap (set c.args.slots.now.items c.loop-at.at) c.in-Nothing.ensures.slot ∙ set_same c.args.slots.now.items c.loop-at.at c.index_mut.result.now is;
      home = c.in-Nothing.ensures.home ∙ c.loop-at.invariant.home;
      plan = c.in-Nothing.ensures.plan ∙ c.loop-at.invariant.plan;
      none = c.in-Nothing.ensures.written ∙ c.loop-at.invariant.none;
      capacity = c.in-Nothing.ensures.capacity ∙ c.loop-at.invariant.capacity;
      looked = pass_on (plan_of c.args.p.now) c.args.t.now c.args.slots.now.items c.args.from c.loop-at.at c.index_mut.result.now behind within is _ _ _ Nothing c.loop-at.invariant.looked
          (looked_as (plan_of c.args.p.now) _ _ _ _ _ _ Nothing refl (all_looks (plan_of c.args.p.now) c.index_mut.result.now) c.in-Nothing.ensures.looked);
    }
