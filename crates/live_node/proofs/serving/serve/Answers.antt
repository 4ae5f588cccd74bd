use Rattle.std.proofs.Common.{◌≡◌, ◌≤◌, ◌<◌, refl, sym, ◌∙◌, ap, subst, arith, List, length, true}
use Rattle.bus_semantics.specs.declared.script.Mapping.{Mapping}
use Rattle.bus_semantics.specs.Common.{plan_of, stamps_count}
use Rattle.bus_semantics.specs.declared.plan.BusPlan.{BusPlan}
use Rattle.core_turn.specs.Lawful.{IsLawful}
use Rattle.port_objects.specs.Objects.{ArePlans}
use Rattle.core_lanes.specs.Rooms.{HaveRoom}
use Rattle.core_runtime.proofs.Together.{node_count}
use Rattle.core_runtime.specs.Parting.{IsParts}
use Rattle.core_runtime.proofs.Parting.{parts_on}
use Rattle.feed_queue.specs.Reading.{AreFeeds}
use Rattle.core_runtime.specs.Common.{after, IsLawfulNode}
use Rattle.feed_queue.specs.Passes.{order_of}
use Rattle.live_lanes.specs.Calls.{called_in}
use Rattle.live_lanes.specs.Drawn.{IsDrawn}
use Rattle.live_node.proofs.Moving.{lawful_of}
use Rattle.live_node.proofs.Feeding.{all_fit}
use Rattle.live_node.proofs.serving.serve.Goals as goal

pub run_beside-requires-clause-count : goal.run_beside-requires-clause-count
run_beside-requires-clause-count g c = λ κs lives.
    let node = c.take_apart-parts.ensures.parts.node in
    let long = ap (λ v. length v.items) c.replace.ensures.value in
    let some = (node_count node).0 in
    let cores = ap (λ (m : Mapping). m.cores) c.take_apart-parts.ensures.mapping in
    (omega (arith, long, some), omega (arith, long, cores, node.cores_are, c.requires.cores))

pub run_beside-requires-clause-planned : goal.run_beside-requires-clause-planned
run_beside-requires-clause-planned g c = λ κs lives. subst (λ v. ArePlans (plan_of c.take_apart-parts.result.plan) v.items) (sym c.replace-2.ensures.value) c.take_apart-parts.ensures.parts.node.planned

pub run_beside-requires-clause-lawful : goal.run_beside-requires-clause-lawful
run_beside-requires-clause-lawful g c = λ κs lives.
    let node = c.take_apart-parts.ensures.parts.node in
    let p = plan_of c.take_apart-parts.result.plan in
    record {
      mapping = c.take_apart-parts.result.mapping;
      history = node.history;
      sound = node.sound;
      lawful = subst (λ v. IsLawful p c.take_apart-parts.result.mapping c.take_apart-parts.result.tasks v.items c.replace-2.result.items node.history) (sym c.replace.ensures.value)
          (subst (λ v. IsLawful p c.take_apart-parts.result.mapping c.take_apart-parts.result.tasks c.take_apart-parts.result.cores.items v.items node.history) (sym c.replace-2.ensures.value) node.lawful);
    }

pub run_beside-requires-clause-room : goal.run_beside-requires-clause-room
run_beside-requires-clause-room g c = λ κs lives. subst (λ v. HaveRoom v.items) (sym c.replace.ensures.value) c.take_apart-parts.ensures.parts.node.room

pub run_beside-requires-clause-feeds : goal.run_beside-requires-clause-feeds
run_beside-requires-clause-feeds g c = λ κs lives.
    let p = c.take_apart-parts.result.plan in
    let feeds = c.args.feeds.now in
    let bytes = c.requires.feeds.0 in
    let are : AreFeeds (plan_of p) bytes feeds = subst (λ (x : BusPlan). AreFeeds (plan_of x) bytes feeds) (sym c.take_apart-parts.ensures.plan) c.requires.feeds.1 in
    record {
      four = are.four;
      few = c.feeds_are_few.ensures (plan_of p) bytes feeds are;
      fit = all_fit (plan_of p) feeds are.four (λ f less. c.feeds_give_what_may_be_called.ensures (plan_of p) bytes feeds f are less);
    }

-- ---- it stopped

pub from_parts-requires : goal.from_parts-requires
from_parts-requires g c =
    let parts = c.take_apart-parts.result in
    let is = c.take_apart-parts.ensures.parts in
    let served = c.in-Ran.ensures in
    let cores = ap (λ v. v.items) c.replace.ensures.value in
    let objects = ap (λ v. v.items) c.replace-2.ensures.value in
    record {
      parts = parts_on c.in-Ran.made.entries.items is (served.count ∙ ap length cores) served.room served.planned
          (λ h lawful. served.goes parts.mapping h is.node.sound (lawful_of parts.plan parts.plan parts.mapping parts.mapping parts.tasks parts.tasks parts.cores.items c.replace.result.items parts.objects.items c.replace-2.result.items h refl refl refl cores objects lawful));
    }

pub returns-in-Ran-clause-bus : goal.returns-in-Ran-clause-bus
returns-in-Ran-clause-bus g c = record {
  plan = c.from_parts.ensures.plan ∙ c.take_apart-parts.ensures.plan;
  mapping = c.from_parts.ensures.mapping ∙ c.take_apart-parts.ensures.mapping;
  bodies = c.from_parts.ensures.bodies ∙ c.take_apart-parts.ensures.tasks;
}

pub returns-in-Ran-clause-lawful : goal.returns-in-Ran-clause-lawful
returns-in-Ran-clause-lawful g c =
    let parts = c.take_apart-parts.result in
    let is = c.take_apart-parts.ensures in
    let served = c.in-Ran.ensures in
    let made = c.in-Ran.made in
    let cores = ap (λ v. v.items) c.replace.ensures.value ∙ is.cores in
    let objects = ap (λ v. v.items) c.replace-2.ensures.value ∙ is.objects in
    record {
      lawful = λ h before. subst (λ es. IsLawfulNode c.from_parts.result (after es h)) (sym c.from_parts.ensures.entries)
          (c.from_parts.ensures.lawful (after made.entries.items h)
          (served.goes parts.mapping h is.parts.node.sound (lawful_of c.args.n.plan parts.plan c.args.n.mapping parts.mapping c.args.n.bodies parts.tasks c.args.n.cores c.replace.result.items c.args.n.objects c.replace-2.result.items h
          is.plan is.mapping is.tasks cores objects before)));
      stamps = subst (λ es. stamps_count es ≡ true) (sym c.from_parts.ensures.entries) served.stamps;
    }

pub returns-in-Ran-clause-calls : goal.returns-in-Ran-clause-calls
returns-in-Ran-clause-calls g c = record {
  drawn = subst (λ es. IsDrawn c.args.feeds.now (order_of c.in-Ran.made.pump) (called_in es)) (sym c.from_parts.ensures.entries) c.in-Ran.ensures.drawn;
  whole = c.in-Ran.ensures.whole;
}

-- ---- there was no memory

pub from_parts-requires-in-Memory : goal.from_parts-requires-in-Memory
from_parts-requires-in-Memory g c =
    let parts = c.take_apart-parts.result in
    let p = plan_of parts.plan in
    let cores = c.in-Memory.ensures.0 ∙ ap (λ v. v.items) c.replace.ensures.value in
    let objects = c.in-Memory.ensures.1 ∙ ap (λ v. v.items) c.replace-2.ensures.value in
    record {
      parts = subst (λ cs. IsParts p parts.mapping parts.tasks cs c.in-Memory.work.objects.items parts.kept) (sym cores)
          (subst (λ os. IsParts p parts.mapping parts.tasks parts.cores.items os parts.kept) (sym objects) c.take_apart-parts.ensures.parts);
    }

pub returns-in-Memory-clause-same : goal.returns-in-Memory-clause-same
returns-in-Memory-clause-same g c =
    let is = c.take_apart-parts.ensures in
    let back = c.from_parts-in-Memory.ensures in
    record {
      plan = back.plan ∙ is.plan;
      mapping = back.mapping ∙ is.mapping;
      bodies = back.bodies ∙ is.tasks;
      cores = back.cores ∙ c.in-Memory.ensures.0 ∙ ap (λ v. v.items) c.replace.ensures.value ∙ is.cores;
      objects = back.objects ∙ c.in-Memory.ensures.1 ∙ ap (λ v. v.items) c.replace-2.ensures.value ∙ is.objects;
      entries = back.entries ∙ ap (λ v. v.items) c.replace-entries.ensures.value ∙ is.entries;
    }
