-- All who run, in one list.
use Rattle.std.proofs.Common.{◌≡◌, ◌<◌, ◌≤◌, ◌+◌, ◌⊎◌, inl, inr, ⊎_elim, ℕ, zero, suc, refl, sym, ◌∙◌, ap, subst, arith, List, [], ◌∷◌, ◌++◌, map, take, length, length-append, append-nil}
use Rattle.std.proofs.Common.{get_or, ◌-◌, Option, Some}
use Rattle.bus_semantics.specs.Common.{slice_get, flat_map, length-map, length_push, same_Some, slice_get_within, get_or_from_slice_get, take-append_seam, Plan}
use Rattle.bus_laws.proofs.Thinning.{there_is}
use Rattle.task_machine.specs.declared.instr.TaskSet.{TaskSet}
use Rattle.core_turn.specs.Cores.{CoreState}
use Rattle.cross_core_table.specs.OpenRounds.{OpenRound}
use Rattle.feed_queue.specs.declared.passes.Feeder as passes
use Rattle.feed_queue.specs.declared.queue.FeedQueue.{FeedQueue}
use Rattle.feed_queue.specs.declared.feeds.Feeds.{Feeds}
use Rattle.live_lanes.specs.declared.caller.Caller.{Caller}
use Rattle.live_lanes.specs.declared.lanes.Lane.{Lane}
use Rattle.live_lanes.specs.declared.workers.Worker.{Worker}
use Rattle.live_lanes.specs.declared.workers.Worker.TheVariants.{Core, Pump, Feeder}
use Rattle.live_lanes.specs.Callers.{WillCall, HasCalledAll}
use Rattle.live_lanes.specs.Feeders.{WillFeed}
use Rattle.live_lanes.specs.Lanes.{core_in, IsSeated, HasGone, HaveGone}
use Rattle.live_lanes.specs.Workers.{lane_in, WillWork, HasWorked, WillAllWork, HaveWorked, all_outside, with_pump}

-- ---- lists

-- an item of two lists, one behind the other
append_at : {X : Type 0} (xs ys : List X) (i : ℕ) (y : X) → slice_get (xs ++ ys) i ≡ Some y → (slice_get xs i ≡ Some y) ⊎ ((k : ℕ) × (i ≡ length xs + k) × (slice_get ys k ≡ Some y))
append_at [] ys i y found = inr (i, omega arith, found)
append_at (x ∷ xs) ys zero y found = inl found
append_at (x ∷ xs) ys (suc i) y found = ⊎_elim (λ a. inl a) (λ b. let e = b.1 in inr (b.0, omega (arith, e), b.2)) (append_at xs ys i y found)

first_at : {X : Type 0} (xs ys : List X) (i : ℕ) (y : X) → slice_get xs i ≡ Some y → slice_get (xs ++ ys) i ≡ Some y
first_at [] ys i y found = absurd (cc found)
first_at (x ∷ xs) ys zero y found = found
first_at (x ∷ xs) ys (suc i) y found = first_at xs ys i y found

behind_at : {X : Type 0} (xs : List X) (y : X) (ys : List X) → slice_get (xs ++ y ∷ ys) (length xs) ≡ Some y
behind_at [] y ys = refl
behind_at (x ∷ xs) y ys = behind_at xs y ys

mapped_at : {X Y : Type 0} (f : X → Y) (xs : List X) (i : ℕ) (y : Y) → slice_get (map f xs) i ≡ Some y → (x : X) × (slice_get xs i ≡ Some x) × (f x ≡ y)
mapped_at f [] i y found = absurd (cc found)
mapped_at f (x ∷ xs) zero y found = (x, refl, same_Some _ _ found)
mapped_at f (x ∷ xs) (suc i) y found = mapped_at f xs i y found

map_at : {X Y : Type 0} (f : X → Y) (xs : List X) (i : ℕ) (x : X) → slice_get xs i ≡ Some x → slice_get (map f xs) i ≡ Some (f x)
map_at f [] i x found = absurd (cc found)
map_at f (y ∷ xs) zero x found = ap (λ z. Some (f z)) (same_Some _ _ found)
map_at f (y ∷ xs) (suc i) x found = map_at f xs i x found

-- ---- lanes among all

pub lanes_of_cores : (lanes : List Lane) → flat_map lane_in (map Core lanes) ≡ lanes
lanes_of_cores [] = refl
lanes_of_cores (l ∷ lanes) = ap (λ ls. l ∷ ls) (lanes_of_cores lanes)

-- each is one lane at most
pub lanes_few : (workers : List Worker) → length (flat_map lane_in workers) ≤ length workers
lanes_few [] = omega arith
lanes_few (Core l ∷ workers) = let few = lanes_few workers in omega (arith, few)
lanes_few (Pump c ∷ workers) = let few = lanes_few workers in omega (arith, few)
lanes_few (Feeder f ∷ workers) = let few = lanes_few workers in omega (arith, few)

-- one more
pub lanes_on : (workers : List Worker) (w : Worker) → flat_map lane_in (workers ++ w ∷ []) ≡ flat_map lane_in workers ++ lane_in w
lanes_on [] w = append-nil (lane_in w)
lanes_on (Core l ∷ workers) w = ap (λ ls. l ∷ ls) (lanes_on workers w)
lanes_on (Pump c ∷ workers) w = lanes_on workers w
lanes_on (Feeder f ∷ workers) w = lanes_on workers w

-- ---- before they work

module _ {F : Type 0} (lengths : List ℕ) (p : Plan) (t : TaskSet) (r : OpenRound) (q : FeedQueue F) where
  pub all_ready : (lanes : List Lane) (c : Caller) (feeders : List passes.Feeder) → ((i : ℕ) (l : Lane) → slice_get lanes i ≡ Some l → IsSeated p t r i l) → WillCall lengths r q (length lanes) c
      → ((i : ℕ) (f : passes.Feeder) → slice_get feeders i ≡ Some f → WillFeed lengths q f) → WillAllWork lengths p t r q (map Core lanes ++ all_outside c feeders)
  all_ready lanes c feeders seated calls feed i w found = ⊎_elim
      (λ a. let l = mapped_at Core lanes i w a in subst (WillWork lengths p t r q i) l.2 (seated i l.0 l.1))
      (λ b. outside b.0 (b.1 ∙ ap (λ n. n + b.0) (length-map lanes Core)) b.2)
      (append_at (map Core lanes) (all_outside c feeders) i w found)
    where
      outside : (k : ℕ) → i ≡ length lanes + k → slice_get (all_outside c feeders) k ≡ Some w → WillWork lengths p t r q i w
      outside zero at is = let e : length lanes ≡ i = omega (arith, at) in subst (WillWork lengths p t r q i) (same_Some _ _ is) (subst (λ n. WillCall lengths r q n c) e calls)
      outside (suc k) at is = let f = mapped_at Feeder feeders k w is in subst (WillWork lengths p t r q i) f.2 (feed k f.0 f.1)

-- ---- after it

-- the first of these, as they are now
pub record Worked (p : Plan) (t : TaskSet) (feeds : Feeds) (r : OpenRound) (old : List CoreState) (workers : List Worker) : Type 0 where
  pub lanes : List Lane
  pub caller : Caller
  pub first : take (suc (length old)) workers ≡ with_pump lanes caller
  pub gone : HaveGone p t r old lanes
  pub called : HasCalledAll p feeds r (length old) caller

module _ (p : Plan) (t : TaskSet) (feeds : Feeds) (r : OpenRound) where
  -- cores that have gone, one after the other from a number on
  record Gone (n : ℕ) (lanes : List Lane) (workers : List Worker) : Type 0 where
    now : List Lane
    rest : List Worker
    split : workers ≡ map Core now ++ rest
    count : length now ≡ length lanes
    each : (i : ℕ) (l k : Lane) → slice_get lanes i ≡ Some l → slice_get now i ≡ Some k → HasGone p t r (n + i) l.core k

  gone_from : (n : ℕ) (lanes : List Lane) (more workers : List Worker) → length workers ≡ length (map Core lanes ++ more)
      → ((i : ℕ) (w v : Worker) → slice_get (map Core lanes ++ more) i ≡ Some w → slice_get workers i ≡ Some v → HasWorked p t feeds r (n + i) w v) → Gone n lanes workers
  gone_from n [] more workers long each = record { now = []; rest = workers; split = refl; count = refl; each = λ i l k found is. absurd (cc found) }
  gone_from n (l ∷ lanes) more [] long each = absurd (omega (arith, long))
  gone_from n (l ∷ lanes) more (v ∷ workers) long each =
      let first = each 0 (Core l) v refl refl in
      let rest = gone_from (suc n) lanes more workers (omega (arith, long)) (λ i w x found is. let e : n + suc i ≡ suc n + i = omega arith in subst (λ m. HasWorked p t feeds r m w x) e (each (suc i) w x found is)) in
      record {
        now = first.0 ∷ rest.now;
        rest = rest.rest;
        split = λ i. first.1 i ∷ rest.split i;
        count = ap suc rest.count;
        each = λ i x k found is. placed first.0 first.2 rest i x k found is;
      }
    where
      placed : (k0 : Lane) → HasGone p t r (n + 0) l.core k0 → (g : Gone (suc n) lanes workers) → (i : ℕ) (x k : Lane) → slice_get (l ∷ lanes) i ≡ Some x → slice_get (k0 ∷ g.now) i ≡ Some k → HasGone p t r (n + i) x.core k
      placed k0 gone g zero x k found is = subst (λ y. HasGone p t r (n + 0) y.core k) (same_Some _ _ found) (subst (HasGone p t r (n + 0) l.core) (same_Some _ _ is) gone)
      placed k0 gone g (suc i) x k found is = let e : suc n + i ≡ n + suc i = omega arith in subst (λ m. HasGone p t r m x.core k) e (g.each i x k found is)

  take_more : {X : Type 0} (xs : List X) (y : X) (ys : List X) → take (suc (length xs)) (xs ++ y ∷ ys) ≡ xs ++ y ∷ []
  take_more [] y ys = refl
  take_more (x ∷ xs) y ys = ap (λ l. x ∷ l) (take_more xs y ys)

  pub all_worked : (lanes : List Lane) (c : Caller) (feeders : List passes.Feeder) (workers : List Worker) → HaveWorked p t feeds r (map Core lanes ++ all_outside c feeders) workers
      → Worked p t feeds r (map core_in lanes) workers
  all_worked lanes c feeders workers worked =
      let g = gone_from 0 lanes (all_outside c feeders) workers worked.count (λ i w v found is. let e : i ≡ 0 + i = omega arith in subst (λ m. HasWorked p t feeds r m w v) e (worked.each i w v found is)) in
      let cores : length (map core_in lanes) ≡ length lanes = length-map lanes core_in in
      let pump_was : slice_get (map Core lanes ++ all_outside c feeders) (length lanes) ≡ Some (Pump c) = subst (λ n. slice_get (map Core lanes ++ all_outside c feeders) n ≡ Some (Pump c)) (length-map lanes Core) (behind_at (map Core lanes) (Pump c) (map Feeder feeders)) in
      let within = slice_get_within (map Core lanes ++ all_outside c feeders) (length lanes) (Pump c) pump_was in
      let pump_is = there_is workers (length lanes) (omega (arith, within, worked.count)) in
      let d = worked.each (length lanes) (Pump c) pump_is.0 pump_was pump_is.1 in
      let at : slice_get (map Core g.now ++ g.rest) (length lanes) ≡ Some (Pump d.0) = sym (ap (λ ws. slice_get ws (length lanes)) g.split) ∙ pump_is.1 ∙ ap (λ w. Some w) d.1 in
      let rest = behind g.now g.rest d.0 (subst (λ n. slice_get (map Core g.now ++ g.rest) n ≡ Some (Pump d.0)) (sym g.count) at) in
      record {
        lanes = g.now;
        caller = d.0;
        first =
            ap (λ n. take (suc n) workers) (cores ∙ sym g.count ∙ sym (length-map g.now Core)) ∙ ap (take (suc (length (map Core g.now)))) (g.split ∙ ap (λ ws. map Core g.now ++ ws) rest.1)
            ∙ take_more (map Core g.now) (Pump d.0) rest.0;
        gone = record {
          count = g.count ∙ sym cores;
          each = λ i x k found is. let l = mapped_at core_in lanes i x found in let e : 0 + i ≡ i = omega arith in subst (λ y. HasGone p t r i y k) l.2 (subst (λ m. HasGone p t r m l.0.core k) e (g.each i l.0 k l.1 is));
        };
        called = subst (λ n. HasCalledAll p feeds r n d.0) (sym cores) d.2;
      }
    where
      behind : (now : List Lane) (rest : List Worker) (d : Caller) → slice_get (map Core now ++ rest) (length now) ≡ Some (Pump d) → (more : List Worker) × (rest ≡ Pump d ∷ more)
      behind [] [] d found = absurd (cc found)
      behind [] (w ∷ more) d found = (more, ap (λ x. x ∷ more) (same_Some _ _ found))
      behind (l ∷ now) rest d found = behind now rest d found

-- the pump among them
abbrev caller_or : Caller → Worker → Caller
caller_or d (Core l) = d
caller_or d (Pump c) = c
caller_or d (Feeder f) = d

pub same_pump : (c d : Caller) → ◌≡◌ {A = Worker} (Pump c) (Pump d) → c ≡ d
same_pump c d same = ap (caller_or c) same

-- the pump is taken from behind the cores
pub popped : (lanes : List Lane) (c : Caller) (old new : List Worker) (len : ℕ) (r : Option Worker) → old ≡ with_pump lanes c → len ≡ length old → ((d : Worker) → 0 < len → r ≡ Some (get_or old (len - 1) d)) → new ≡ take (len - 1) old
    → (r ≡ Some (Pump c)) × (new ≡ map Core lanes)
popped lanes c old new len r is long value rest =
    let n : len - 1 ≡ length (map Core lanes) = omega (arith, long, ap (λ (ws : List Worker). length ws) is, length_push (map Core lanes) (Pump c)) in
    let some : 0 < len = omega (arith, long, ap (λ (ws : List Worker). length ws) is, length_push (map Core lanes) (Pump c)) in
    let at : get_or old (len - 1) (Pump c) ≡ Pump c = ap (λ ws. get_or ws (len - 1) (Pump c)) is ∙ ap (λ k. get_or (with_pump lanes c) k (Pump c)) n ∙ get_or_from_slice_get (with_pump lanes c) (length (map Core lanes)) (Pump c) (Pump c) (behind_at (map Core lanes) (Pump c) []) in
    (value (Pump c) some ∙ ap (λ w. Some w) at, rest ∙ ap (take (len - 1)) is ∙ ap (λ k. take k (with_pump lanes c)) n ∙ take-append_seam (map Core lanes) (Pump c ∷ []))
