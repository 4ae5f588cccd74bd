-- A round of cores, from its opening to its close.
use Rattle.std.proofs.Common.{◌≡◌, ◌≤◌, ◌*◌, ℕ, zero, suc, refl, sym, ◌∙◌, ap, subst, arith, List, [], ◌∷◌, map, length, true, Some}
use Rattle.bus_semantics.specs.Common.{slice_get, length-map, same_Some, slice_get_within, Plan, History, IsSound}
use Rattle.bus_laws.specs.Common.{Stamped, Mapping}
use Rattle.bus_laws.proofs.Thinning.{there_is}
use Rattle.port_objects.specs.declared.object.Object.{Object}
use Rattle.port_objects.specs.Objects.{ArePlans}
use Rattle.task_machine.specs.declared.instr.TaskSet.{TaskSet}
use Rattle.core_turn.specs.Cores.{CoreState}
use Rattle.core_turn.specs.Lawful.{IsLawful}
use Rattle.cross_core_table.specs.declared.views.Opening.{Opening}
use Rattle.cross_core_table.specs.declared.seats.CoreSeat.{CoreSeat}
use Rattle.cross_core_table.specs.Closing.{IsClosed}
use Rattle.cross_core_table.specs.Common.{plan_in, OpenRound, IsSeatOf, AreSeatsOf, made_of}
use Rattle.cross_core_table.specs.Opened.{IsOpened}
use Rattle.core_lanes.specs.After.{after, are_within}
use Rattle.core_lanes.specs.Taking.{TakesTurns, TakeTurns}
use Rattle.core_lanes.specs.declared.lanes.Lane.{Lane}
use Rattle.core_lanes.specs.Lanes.{lanes_of, core_in, seats_in, AreSeated, HaveGone}
use Rattle.core_lanes.specs.Rooms.{HasRoom, HaveRoom}
use Rattle.core_lanes.specs.Together.{AllReady, HasRun}
use Rattle.core_lanes.proofs.Lists.{lane_at, lanes_count, core_at, seats_count, seat_at}

-- ---- before the turns

pub all_seated : (p : Plan) (m : Mapping) (t : TaskSet) (objects : List Object) (r : OpenRound) (cores : List CoreState) (seats : List CoreSeat)
    → IsOpened p objects (length cores) 1024 r seats → AllReady p m t cores → HaveRoom cores → AreSeated p t r (lanes_of cores seats)
all_seated p m t objects r cores seats opened ready room i l found =
    let at = lane_at cores seats i l (opened.seated.count ∙ opened.number) found in
    record {
      seat = at.seat;
      has = at.has;
      of = opened.seated.each i at.seat at.seat_is;
      fresh = opened.fresh i at.seat at.seat_is;
      room = room i l.core at.core_is;
      mapping = m;
      ready = ready i l.core at.core_is;
    }

-- ---- after them

module _ (p : Plan) (t : TaskSet) (objects : List Object) (r : OpenRound) (cores : List CoreState) (seats : List CoreSeat) (gone : List Lane)
    (opened : IsOpened p objects (length cores) 1024 r seats) (went : HaveGone p t r (lanes_of cores seats) gone) where
  pub gone_count : length gone ≡ length cores
  gone_count = went.count ∙ lanes_count cores seats

  -- what the core at a place did
  record Done (i : ℕ) (k : Lane) : Type 0 where
    core : CoreState
    core_is : slice_get cores i ≡ Some core
    seat : CoreSeat
    has : k.seat ≡ Some seat
    of : IsSeatOf r i seat
    room : HasRoom k.core
    turns : TakesTurns p t core (made_of seat) k.core

  done : (i : ℕ) (k : Lane) → slice_get gone i ≡ Some k → Done i k
  done i k found =
      let less = slice_get_within gone i k found in
      let l = there_is (lanes_of cores seats) i (omega (arith, less, went.count)) in
      let at = lane_at cores seats i l.0 (opened.seated.count ∙ opened.number) l.1 in
      let g = went.each i l.0 k l.1 found in
      record { core = l.0.core; core_is = at.core_is; seat = g.seat; has = g.has; of = g.of; room = g.room; turns = g.turns }

  each_seat : (i : ℕ) (k : Lane) → slice_get gone i ≡ Some k → (s : CoreSeat) × (k.seat ≡ Some s)
  each_seat i k found = let d = done i k found in (d.seat, d.has)

  seat_of : (i : ℕ) (s : CoreSeat) → slice_get (seats_in gone) i ≡ Some s → (k : Lane) × (slice_get gone i ≡ Some k) × (k.seat ≡ Some s)
  seat_of = seat_at gone each_seat

  pub seats_return : AreSeatsOf r (seats_in gone)
  seats_return = record {
    count = seats_count gone each_seat ∙ gone_count ∙ sym opened.number;
    each = λ i s found.
        let k = seat_of i s found in
        let d = done i k.0 k.1 in
        subst (IsSeatOf r i) (same_Some _ _ (sym d.has ∙ k.2)) d.of;
  }

  now_room : HaveRoom (map core_in gone)
  now_room i c found = let k = core_at gone i c found in subst HasRoom k.2 (done i k.0 k.1).room

  part_at : (ss : List CoreSeat) (i : ℕ) (part : List Stamped) → slice_get (map made_of ss) i ≡ Some part → (s : CoreSeat) × (slice_get ss i ≡ Some s) × (made_of s ≡ part)
  part_at [] i part found = absurd (cc found)
  part_at (s ∷ ss) zero part found = (s, refl, cc found)
  part_at (s ∷ ss) (suc i) part found = part_at ss i part found

  parts_count : length (map made_of (seats_in gone)) ≡ length cores
  parts_count = length-map (seats_in gone) made_of ∙ seats_count gone each_seat ∙ gone_count

  turned : TakeTurns p t cores (map core_in gone) (map made_of (seats_in gone))
  turned = record {
    count = length-map gone core_in ∙ gone_count;
    parts_are = parts_count;
    each = λ i old new part found made is.
        let s = part_at (seats_in gone) i part is in
        let k = seat_of i s.0 s.1 in
        let d = done i k.0 k.1 in
        let c = core_at gone i new made in
        let own : d.core ≡ old = same_Some _ _ (sym d.core_is ∙ found) in
        let lane : k.0 ≡ c.0 = same_Some _ _ (sym k.1 ∙ c.1) in
        let now : k.0.core ≡ new = ap core_in lane ∙ c.2 in
        let seat : d.seat ≡ s.0 = same_Some _ _ (sym d.has ∙ k.2) in
        let entries : made_of d.seat ≡ part = ap made_of seat ∙ s.2 in
        subst (λ x. TakesTurns p t x part new) own (subst (λ x. TakesTurns p t d.core x new) entries (subst (λ x. TakesTurns p t d.core (made_of d.seat) x) now d.turns));
  }

  -- no core made more than it had room for
  part_few : (i : ℕ) (part : List Stamped) → slice_get (map made_of (seats_in gone)) i ≡ Some part → length part ≤ 1024
  part_few i part is =
      let s = part_at (seats_in gone) i part is in
      let within : length (made_of s.0) ≤ r.opening.room = (seats_return.each i s.0 s.1).at.within in
      let same : length (made_of s.0) ≡ length part = ap (λ (xs : List Stamped). length xs) s.2 in
      omega (arith, within, same, opened.limit)

  module _ (later : List Object) (entries : List Stamped) (closed : IsClosed r.opening (map made_of (seats_in gone)) later entries)
      (lawful_law : (k : Opening) (m : Mapping) (h : History) → IsSound (plan_in k) m → ArePlans (plan_in k) k.objects.value.items → IsLawful (plan_in k) m t cores k.objects.value.items h
      → TakeTurns (plan_in k) t cores (map core_in gone) (map made_of (seats_in gone)) → IsClosed k (map made_of (seats_in gone)) later entries → IsLawful (plan_in k) m t (map core_in gone) later (after entries h))
      (within_law : (k : Opening) → TakeTurns (plan_in k) t cores (map core_in gone) (map made_of (seats_in gone)) → IsClosed k (map made_of (seats_in gone)) later entries → are_within entries ≡ true)
      (few_law : (k : Opening) (room : ℕ) → ((i : ℕ) (part : List Stamped) → slice_get (map made_of (seats_in gone)) i ≡ Some part → length part ≤ room) → IsClosed k (map made_of (seats_in gone)) later entries
      → length entries ≤ length (map made_of (seats_in gone)) * room) where
    turned_in : TakeTurns (plan_in r.opening) t cores (map core_in gone) (map made_of (seats_in gone))
    turned_in = subst (λ q. TakeTurns q t cores (map core_in gone) (map made_of (seats_in gone))) (sym opened.plan) turned

    pub has_run : ArePlans p objects → HasRun p t cores (map core_in gone) objects later entries
    has_run planned = record {
      count = length-map gone core_in ∙ gone_count;
      room = now_room;
      planned = subst (λ q. ArePlans q later) opened.plan closed.planned;
      goes = λ m h sound lawful.
          subst (λ q. IsLawful q m t (map core_in gone) later (after entries h)) opened.plan
          (lawful_law r.opening m h (subst (λ q. IsSound q m) (sym opened.plan) sound)
          (subst (λ q. ArePlans q r.opening.objects.value.items) (sym opened.plan) (subst (ArePlans p) (sym opened.slots) planned))
          (subst (λ q. IsLawful q m t cores r.opening.objects.value.items h) (sym opened.plan) (subst (λ os. IsLawful p m t cores os h) (sym opened.slots) lawful))
          turned_in closed);
      within = within_law r.opening turned_in closed;
      stamps = closed.interleaved.stamps;
      few = let less : length entries ≤ length (map made_of (seats_in gone)) * 1024 = few_law r.opening 1024 part_few closed in omega (arith, less, parts_count);
    }
