use Rattle.std.proofs.Common.{refl, sym, subst, arith, List}
use Rattle.bus_semantics.specs.Plan.{plan_of}
use Rattle.bus_semantics.specs.declared.entries.Stamped.{Stamped}
use Rattle.core_turn.specs.Cores.{CoreState}
use Rattle.core_lanes.specs.Together.{HasRun}
use Rattle.core_runtime.specs.declared.watch.Watch.{Watch}
use Rattle.core_runtime.specs.Watching.{AllWatched, HaveSameTasks}
use Rattle.core_runtime.proofs.Together.{fitting, node_count, ran_tasks, ran_few, shaped, shaped_by, watch_after}
use Rattle.core_runtime.proofs.many.turn_many.Goals as goal

pub run_together-requires-clause-count : goal.run_together-requires-clause-count
run_together-requires-clause-count g c = λ κs within. node_count c.requires.node.1

pub run_together-requires-clause-sound : goal.run_together-requires-clause-sound
run_together-requires-clause-sound g c = λ κs within. c.requires.node.1.counted

pub run_together-requires-clause-planned : goal.run_together-requires-clause-planned
run_together-requires-clause-planned g c = λ κs within. c.requires.node.1.planned

pub run_together-requires-clause-bodies : goal.run_together-requires-clause-bodies
run_together-requires-clause-bodies g c = λ κs within. c.requires.node.1.bodies

pub run_together-requires-clause-ready : goal.run_together-requires-clause-ready
run_together-requires-clause-ready g c = λ κs within. (c.requires.node.0, c.requires.node.1.lawful.ready)

pub run_together-requires-clause-room : goal.run_together-requires-clause-room
run_together-requires-clause-room g c = λ κs within. c.requires.node.1.room

pub run_together-requires-clause-fit : goal.run_together-requires-clause-fit
run_together-requires-clause-fit g c = λ κs within.
    let live = c.args.live in
    fitting live.cores.items live.watch.awake.items (shaped (plan_of c.args.p.now) c.args.t.now live.objects.items live.cores.items live.watch.awake.items c.requires.watched.awake)

pub rouse_all-requires : goal.rouse_all-requires
rouse_all-requires g c =
    let now = c.in-Ran.changing.cores.items in (
      now,
      shaped_by now c.in-Ran.changing.awake.items c.in-Ran.ensures.1,
      subst (λ (cores : List CoreState). HaveSameTasks now cores) (sym c.as_slice.ensures.value) refl,
    )

pub exchanged-entries-requires : goal.exchanged-entries-requires
exchanged-entries-requires g c = let few = ran_few c.requires.node.1 c.in-Ran.ensures.0 in omega (arith, few, c.requires.node.1.cores_are, c.requires.room)

pub returns-in-Ran-clause-ran : goal.returns-in-Ran-clause-ran
returns-in-Ran-clause-ran g c =
    let p = plan_of c.args.p.now in
    let t = c.args.t.now in
    let live = c.args.live in
    let cores = c.in-Ran.changing.cores.items in
    let objects = c.in-Ran.changing.objects.items in
    let watch : Watch = record { awake = c.rouse_all.new.awake; seats = live.watch.seats; starters = live.watch.starters } in
    let all = subst (λ (now : List CoreState). AllWatched now watch.awake.items) c.as_slice.ensures.value c.rouse_all.ensures in
    record {
      run = subst (λ (made : List Stamped). HasRun p t live.cores.items cores live.objects.items objects made) (sym c.exchanged-entries.ensures.items) c.in-Ran.ensures.0;
      watched = watch_after p t live.objects.items objects live.cores.items cores live.watch watch c.requires.watched (ran_tasks c.requires.node.1 c.in-Ran.ensures.0) all refl refl;
      room = c.exchanged-entries.ensures.capacity;
    }

pub returns-in-Memory-clause-same : goal.returns-in-Memory-clause-same
returns-in-Memory-clause-same g c =
    let watch = c.args.live.watch in
    record {
      cores = c.in-Memory.ensures.0;
      objects = c.in-Memory.ensures.1;
      watch = λ i. record { awake = c.in-Memory.ensures.2 i; seats = watch.seats; starters = watch.starters };
      entries = refl;
    }
