-- A round of cores with a seat more, from its opening to its close.
use Rattle.std.proofs.Common.{◌≡◌, ◌<◌, ◌⊎◌, ⊎_elim, ◌+◌, ℕ, zero, suc, refl, sym, ◌∙◌, ap, subst, arith, List, [], ◌∷◌, ◌++◌, map, length, length-append, true, Option, Some, None}
use Rattle.bus_semantics.specs.Common.{slice_get, length-map, map-append, length_push, same_Some, slice_get_within, Plan, History, IsSound, entries_of}
use Rattle.std.specs.Option.{MatchOption, option_to_list}
use Rattle.bus_laws.specs.Common.{Stamped, Mapping}
use Rattle.bus_laws.proofs.Thinning.{there_is}
use Rattle.port_objects.specs.declared.object.Object.{Object}
use Rattle.port_objects.specs.Common.{kept_of, ArePlans, Stands}
use Rattle.task_machine.specs.declared.instr.TaskSet.{TaskSet}
use Rattle.core_turn.specs.Cores.{CoreState}
use Rattle.core_turn.specs.Lawful.{IsLawful}
use Rattle.cross_core_table.specs.declared.views.Opening.{Opening}
use Rattle.cross_core_table.specs.declared.seats.CoreSeat.{CoreSeat}
use Rattle.cross_core_table.specs.Closing.{IsClosed}
use Rattle.cross_core_table.specs.Common.{plan_in, OpenRound, IsSeatOf, AreSeatsOf, view_of, made_of}
use Rattle.cross_core_table.specs.Opened.{IsOpened}
use Rattle.core_lanes.specs.After.{after, calls_in}
use Rattle.core_lanes.specs.Calling.{TakeParts}
use Rattle.core_lanes.specs.Rooms.{HasRoom, HaveRoom}
use Rattle.core_lanes.specs.Taking.{TakesTurns, TakeTurns}
use Rattle.feed_queue.specs.Passes.{order_of}
use Rattle.feed_queue.specs.declared.feeds.Feeds.{Feeds}
use Rattle.live_lanes.specs.declared.beside.Made.{Made}
use Rattle.live_lanes.specs.declared.caller.Caller.{Caller}
use Rattle.live_lanes.specs.declared.lanes.Lane.{Lane}
use Rattle.live_lanes.specs.Beside.{IsGoing, IsDone, HasServed}
use Rattle.live_lanes.specs.Calls.{called_in, wishes_in, HaveStood}
use Rattle.live_lanes.specs.Drawn.{IsDrawn, IsWhole}
use Rattle.live_lanes.specs.Lanes.{core_in, seat_in, seats_in, IsSeated}
use Rattle.live_lanes.proofs.Drawing.{pushed_at}
use Rattle.live_lanes.proofs.Lists.{core_at, core_of_lane, seat_of_lane, seats_count, seat_at}

-- ---- before the turns

slice_first : {X : Type 0} (xs ys : List X) (i : ℕ) (x : X) → slice_get xs i ≡ Some x → slice_get (xs ++ ys) i ≡ Some x
slice_first [] ys i x found = absurd (cc found)
slice_first (z ∷ xs) ys zero x found = found
slice_first (z ∷ xs) ys (suc i) x found = slice_first xs ys i x found

slice_end : {X : Type 0} (xs : List X) (x : X) → slice_get (xs ++ x ∷ []) (length xs) ≡ Some x
slice_end [] x = refl
slice_end (z ∷ xs) x = slice_end xs x

-- the last seat of at least one
pub last_seat : (old new : List CoreSeat) (r : Option CoreSeat) (n len left : ℕ) → old ≡ new ++ option_to_list r → len ≡ length old → length old ≡ suc n → MatchOption r ((len ≡ 0) × (left ≡ 0)) (λ s. left + 1 ≡ len)
    → (s : CoreSeat) × (r ≡ Some s) × (old ≡ new ++ s ∷ [])
last_seat old new None n len left whole long some cases = absurd (omega (arith, long, some, cases.0))
last_seat old new (Some s) n len left whole long some cases = (s, refl, whole)

module _ (p : Plan) (t : TaskSet) (objects : List Object) (r : OpenRound) (cores : List CoreState) (seats own : List CoreSeat) (env : CoreSeat)
    (opened : IsOpened p objects (suc (length cores)) 65536 r seats) (whole : seats ≡ own ++ env ∷ []) where
  pub own_count : length own ≡ length cores
  own_count = omega (arith, ap (λ (l : List CoreSeat). length l) whole, length_push own env, opened.seated.count, opened.number)

  pub all_seated : IsGoing p t cores objects → HaveRoom cores → (lanes : List Lane) → map core_in lanes ≡ cores → map seat_in lanes ≡ map (λ (s : CoreSeat). Some s) own
      → (i : ℕ) (l : Lane) → slice_get lanes i ≡ Some l → IsSeated p t r i l
  all_seated going room lanes same_cores same_seats i l found =
      let at = seat_of_lane lanes own i l same_seats found in
      let core : slice_get cores i ≡ Some l.core = sym (ap (λ cs. slice_get cs i) same_cores) ∙ core_of_lane lanes i l found in
      let there : slice_get seats i ≡ Some at.0 = ap (λ ss. slice_get ss i) whole ∙ slice_first own (env ∷ []) i at.0 at.1 in
      record {
        seat = at.0;
        has = at.2;
        of = opened.seated.each i at.0 there;
        fresh = (opened.fresh i at.0 there).made;
        room = room i l.core core;
        mapping = going.mapping;
        ready = going.lawful.ready i l.core core;
      }

  env_there : slice_get seats (length cores) ≡ Some env
  env_there = ap (λ ss. slice_get ss (length cores)) whole ∙ subst (λ n. slice_get (own ++ env ∷ []) n ≡ Some env) own_count (slice_end own env)

  pub env_seat : IsSeatOf r (length cores) env
  env_seat = opened.seated.each (length cores) env env_there

  pub env_fresh : (view_of env).made ≡ []
  env_fresh = (opened.fresh (length cores) env env_there).made

pub have_stood : (p : Plan) (t : TaskSet) (objects : List Object) (r : OpenRound) (cores : List CoreState) (seats : List CoreSeat) → IsOpened p objects (suc (length cores)) 65536 r seats → IsGoing p t cores objects → HaveStood r.opening
have_stood p t objects r cores seats opened going o x found =
    let at : slice_get objects o ≡ Some x = sym (ap (λ os. slice_get os o) opened.slots) ∙ found in
    let stands = going.lawful.stand o x at in
    (entries_of p going.history o, subst (λ q. Stands q o (kept_of x) (entries_of p going.history o)) (sym opened.plan) stands)

-- ---- after them

module _ (p : Plan) (t : TaskSet) (feeds : Feeds) (r : OpenRound) (old : List CoreState) (lanes : List Lane) (c : Caller) (done : IsDone p t feeds r old lanes c) where
  abbrev pub env : CoreSeat
  env = done.called.seat

  -- what the core at a place did
  record Done (i : ℕ) (k : Lane) : Type 0 where
    core : CoreState
    core_is : slice_get old i ≡ Some core
    seat : CoreSeat
    has : k.seat ≡ Some seat
    of : IsSeatOf r i seat
    room : HasRoom k.core
    turns : TakesTurns p t core (made_of seat) k.core

  did : (i : ℕ) (k : Lane) → slice_get lanes i ≡ Some k → Done i k
  did i k found =
      let less = slice_get_within lanes i k found in
      let x = there_is old i (omega (arith, less, done.gone.count)) in
      let g = done.gone.each i x.0 k x.1 found in
      record { core = x.0; core_is = x.1; seat = g.seat; has = g.has; of = g.of; room = g.room; turns = g.turns }

  each_seat : (i : ℕ) (k : Lane) → slice_get lanes i ≡ Some k → (s : CoreSeat) × (k.seat ≡ Some s)
  each_seat i k found = let d = did i k found in (d.seat, d.has)

  seat_of : (i : ℕ) (s : CoreSeat) → slice_get (seats_in lanes) i ≡ Some s → (k : Lane) × (slice_get lanes i ≡ Some k) × (k.seat ≡ Some s)
  seat_of = seat_at lanes each_seat

  own_seats : length (seats_in lanes) ≡ length old
  own_seats = seats_count lanes each_seat ∙ done.gone.count

  of_core : (i : ℕ) (s : CoreSeat) → slice_get (seats_in lanes) i ≡ Some s → IsSeatOf r i s
  of_core i s found =
      let k = seat_of i s found in
      let d = did i k.0 k.1 in
      subst (IsSeatOf r i) (same_Some _ _ (sym d.has ∙ k.2)) d.of

  pub seats_return : AreSeatsOf r (seats_in lanes ++ env ∷ [])
  seats_return = record {
    count = omega (arith, length_push (seats_in lanes) env, own_seats, done.seats);
    each = λ i s found. ⊎_elim
        (λ a. of_core i s a.1)
        (λ b. subst (IsSeatOf r i) b.1 (subst (λ n. IsSeatOf r n env) (sym (b.0 ∙ own_seats)) done.called.of))
        (pushed_at (seats_in lanes) env i s found);
  }

  now_room : HaveRoom (map core_in lanes)
  now_room i x found = let k = core_at lanes i x found in subst HasRoom k.2 (did i k.0 k.1).room

  part_at : (ss : List CoreSeat) (i : ℕ) (part : List Stamped) → slice_get (map made_of ss) i ≡ Some part → (s : CoreSeat) × (slice_get ss i ≡ Some s) × (made_of s ≡ part)
  part_at [] i part found = absurd (cc found)
  part_at (s ∷ ss) zero part found = (s, refl, cc found)
  part_at (s ∷ ss) (suc i) part found = part_at ss i part found

  turned : TakeTurns p t old (map core_in lanes) (map made_of (seats_in lanes))
  turned = record {
    count = length-map lanes core_in ∙ done.gone.count;
    parts_are = length-map (seats_in lanes) made_of ∙ own_seats;
    each = λ i before new part found made is.
        let s = part_at (seats_in lanes) i part is in
        let k = seat_of i s.0 s.1 in
        let d = did i k.0 k.1 in
        let x = core_at lanes i new made in
        let own : d.core ≡ before = same_Some _ _ (sym d.core_is ∙ found) in
        let lane : k.0 ≡ x.0 = same_Some _ _ (sym k.1 ∙ x.1) in
        let now : k.0.core ≡ new = ap core_in lane ∙ x.2 in
        let seat : d.seat ≡ s.0 = same_Some _ _ (sym d.has ∙ k.2) in
        let entries : made_of d.seat ≡ part = ap made_of seat ∙ s.2 in
        subst (λ y. TakesTurns p t y part new) own (subst (λ y. TakesTurns p t d.core y new) entries (subst (λ y. TakesTurns p t d.core (made_of d.seat) y) now d.turns));
  }

  abbrev parts : List (List Stamped)
  parts = map made_of (seats_in lanes ++ env ∷ [])

  taken : TakeParts p t old (map core_in lanes) (made_of env) parts
  taken = record {
    own = map made_of (seats_in lanes);
    whole = map-append made_of (seats_in lanes) (env ∷ []);
    turns = turned;
    called = done.called.all.called;
  }

  module _ (m : Made) (cores_are : m.work.cores.items ≡ map core_in lanes) (pump_is : m.pump ≡ c.pump) (closed : IsClosed r.opening parts m.work.objects.items m.entries.items)
      (lawful_law : (k : Opening) (x : Mapping) (h : History) → IsSound (plan_in k) x → ArePlans (plan_in k) k.objects.value.items → IsLawful (plan_in k) x t old k.objects.value.items h
      → TakeParts (plan_in k) t old (map core_in lanes) (made_of env) parts → IsClosed k parts m.work.objects.items m.entries.items → IsLawful (plan_in k) x t (map core_in lanes) m.work.objects.items (after m.entries.items h))
      (calls_law : (k : Opening) → TakeParts (plan_in k) t old (map core_in lanes) (made_of env) parts → IsClosed k parts m.work.objects.items m.entries.items → calls_in m.entries.items ≡ made_of env) where
    taken_in : TakeParts (plan_in r.opening) t old (map core_in lanes) (made_of env) parts
    taken_in = subst (λ q. TakeParts q t old (map core_in lanes) (made_of env) parts) (sym done.plan) taken

    pub has_served : ArePlans p r.opening.objects.value.items → HasServed p t feeds old r.opening.objects.value.items m
    has_served planned = record {
      count = ap (λ (cs : List CoreState). length cs) cores_are ∙ length-map lanes core_in ∙ done.gone.count;
      room = subst HaveRoom (sym cores_are) now_room;
      planned = subst (λ q. ArePlans q m.work.objects.items) done.plan closed.planned;
      goes = λ x h sound lawful.
          subst (λ cs. IsLawful p x t cs m.work.objects.items (after m.entries.items h)) (sym cores_are)
          (subst (λ q. IsLawful q x t (map core_in lanes) m.work.objects.items (after m.entries.items h)) done.plan
          (lawful_law r.opening x h (subst (λ q. IsSound q x) (sym done.plan) sound)
          (subst (λ q. ArePlans q r.opening.objects.value.items) (sym done.plan) planned)
          (subst (λ q. IsLawful q x t old r.opening.objects.value.items h) (sym done.plan) lawful)
          taken_in closed));
      stamps = closed.interleaved.stamps;
      drawn = subst (λ pump. IsDrawn feeds (order_of pump) (called_in m.entries.items)) (sym pump_is)
          (subst (IsDrawn feeds (order_of c.pump)) (sym (ap wishes_in (calls_law r.opening taken_in closed))) done.called.all.drawn);
      whole = λ f. subst (λ pump. IsWhole feeds (order_of pump)) (sym pump_is) done.called.all.whole f;
    }
