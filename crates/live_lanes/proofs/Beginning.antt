-- A round that is open, with all who run in it.
use Rattle.std.proofs.Common.{◌≡◌, ◌≤◌, ◌<◌, ◌+◌, ◌++◌, ◌∷◌, [], suc, ℕ, refl, sym, ◌∙◌, ap, subst, arith, List, length, map, take, drop, Option, Some}
use Rattle.std.specs.Prelude.{sum}
use Rattle.bus_semantics.specs.Common.{length-map, length_push, Plan}
use Rattle.port_objects.specs.declared.object.Object.{Object}
use Rattle.task_machine.specs.declared.instr.TaskSet.{TaskSet}
use Rattle.task_generator.specs.Promise.{AsksAsPlanned}
use Rattle.core_turn.specs.Cores.{CoreState}
use Rattle.cross_core_table.specs.declared.seats.CoreSeat.{CoreSeat}
use Rattle.cross_core_table.specs.Common.{OpenRound, IsSeatOf}
use Rattle.cross_core_table.specs.Opened.{IsOpened}
use Rattle.core_lanes.specs.Rooms.{HaveRoom}
use Rattle.feed_queue.specs.declared.queue.Queued.{Queued}
use Rattle.feed_queue.specs.Passes.{IsNew, IsPumpOf, order_of}
use Rattle.feed_queue.specs.declared.feeds.Feeds.{Feeds}
use Rattle.feed_queue.specs.Given.{lengths_of}
use Rattle.live_lanes.specs.declared.caller.Caller.{Caller}
use Rattle.live_lanes.specs.declared.lanes.Lane.{Lane}
use Rattle.live_lanes.specs.declared.workers.Worker.{Worker}
use Rattle.live_lanes.specs.declared.workers.Worker.TheVariants.{Core, Pump}
use Rattle.live_lanes.specs.Beside.{IsGoing, IsDone}
use Rattle.live_lanes.specs.Callers.{WillCall}
use Rattle.live_lanes.specs.Drawn.{AreWished}
use Rattle.live_lanes.specs.Grounds.{IsGround}
use Rattle.live_lanes.specs.Lanes.{core_in}
use Rattle.live_lanes.specs.Workers.{AreCores, WillAllWork, HaveWorked, all_outside, with_pump}
use Rattle.live_lanes.proofs.Lists.{written_back}
use Rattle.live_lanes.proofs.Runs.{own_count, all_seated, env_seat, env_fresh, have_stood}
use Rattle.live_lanes.proofs.Working.{Worked, all_ready, all_worked}

module _ {F : Type 0} (lengths : List ℕ) (p : Plan) (t : TaskSet) (feeds : Feeds) (objects : List Object) (r : OpenRound) (cores : List CoreState) (seats own : List CoreSeat) (env : CoreSeat) (q : Queued F)
    (opened : IsOpened p objects (suc (length cores)) 65536 r seats) (whole : seats ≡ own ++ env ∷ []) (going : IsGoing p t cores objects) (new : IsNew lengths q) where
  pub ground : AsksAsPlanned p t → lengths ≡ lengths_of feeds → AreWished p feeds → IsGround lengths p t feeds r
  ground bodies long wished = record {
    plan = opened.plan;
    limit = opened.limit;
    bodies = bodies;
    mapping = going.mapping;
    sound = going.sound;
    stood = have_stood p t objects r cores seats opened going;
    long = long;
    wished = wished;
  }

  module _ (workers : List Worker) (are : AreCores cores own workers) where
    pub as_many : length are.lanes ≡ length cores
    as_many = sym (length-map are.lanes core_in) ∙ ap (λ (cs : List CoreState). length cs) are.cores_are

    pub workers_long : length workers ≡ length cores
    workers_long = ap (λ (ws : List Worker). length ws) are.workers_are ∙ length-map are.lanes Core ∙ as_many

    module _ (c : Caller) (pump : c.pump ≡ q.pump) (seat : c.seat ≡ Some env) (wishes : c.wishes ≡ sum lengths) where
      calls : WillCall lengths r q.queue (length are.lanes) c
      calls = record {
        seat = env;
        has = seat;
        of = subst (λ n. IsSeatOf r n env) (sym as_many) (env_seat p t objects r cores seats own env opened whole);
        fresh = env_fresh p t objects r cores seats own env opened whole;
        pump = subst (IsPumpOf lengths q.queue) (sym pump) new.pump;
        order = ap order_of pump ∙ new.order;
        wishes_are = wishes;
      }

      abbrev all : List Worker
      all = workers ++ all_outside c q.feeders

      same : map Core are.lanes ++ all_outside c q.feeders ≡ all
      same = ap (λ ws. ws ++ all_outside c q.feeders) (sym are.workers_are)

      pub ready : HaveRoom cores → WillAllWork lengths p t r q.queue all
      ready room = subst (WillAllWork lengths p t r q.queue) same
          (all_ready lengths p t r q.queue are.lanes c q.feeders (all_seated p t objects r cores seats own env opened whole going room are.lanes are.cores_are are.seats_are) calls
          (λ i f found. let x = new.feeders i f found in (x.0, x.2)))

      -- what is left of them when they have worked
      pub worked : (after : List Worker) → HaveWorked p t feeds r all after → Worked p t feeds r cores after
      worked after have = subst (λ cs. Worked p t feeds r cs after) are.cores_are (all_worked p t feeds r are.lanes c q.feeders after (subst (λ ws. HaveWorked p t feeds r ws after) (sym same) have))

  -- the list that is cut behind the pump
  pub left : (before after : List Worker) (len count : ℕ) → length after ≡ length before → len ≡ length before → count ≡ length cores → (w : Worked p t feeds r cores after)
      → take (count + 1) (take len (after ++ drop (length after) before)) ≡ with_pump w.lanes w.caller
  left before after len count same long few w =
      let e : count + 1 ≡ suc (length cores) = omega (arith, few) in
      ap (take (count + 1)) (written_back before after len same long) ∙ ap (λ n. take n after) e ∙ w.first

  pub left_long : (after : List Worker) (w : Worked p t feeds r cores after) → length (with_pump w.lanes w.caller) ≡ suc (length cores)
  left_long after w = omega (arith, length_push (map Core w.lanes) (Pump w.caller), length-map w.lanes Core, w.gone.count)

  pub is_done : (after : List Worker) (w : Worked p t feeds r cores after) → IsDone p t feeds r cores w.lanes w.caller
  is_done after w = record { plan = opened.plan; seats = opened.number; gone = w.gone; called = w.called }
