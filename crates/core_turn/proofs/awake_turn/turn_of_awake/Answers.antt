use Rattle.std.proofs.Common.{◌≡◌, ◌-◌, ◌<◌, ◌≤◌, length, sym, ◌∙◌, ap, subst, refl, arith, [], ◌∷◌, ◌++◌, ◌+◌, suc, Some, None}
use Rattle.bus_semantics.specs.Common.{slice_get, plan_of, touched_by}
use Rattle.core_turn.specs.Cores.{CoreState}
use Rattle.port_objects.specs.Benches.{IsFurther}
use Rattle.task_slots.specs.Common.{sum_below, noting_of}
use Rattle.core_turn.specs.Awake.{Fits, HeldTold, looks_at_place}
use Rattle.core_turn.proofs.Counting.{turn_counted}
use Rattle.core_turn.proofs.Settling.{begins_at, held_round, held_turned, fits_begins}
use Rattle.core_turn.proofs.Stepped.{ready_on, back_steps, front_steps, nothing_found, pass_at, made_within, behind_all, before_all, back_contended, front_contended, behind_lost, before_lost}
use Rattle.task_slots.proofs.Unchanged.{unchanged_by}
use Rattle.core_turn.proofs.awake_turn.turn_of_awake.Goals as goal

pub look_through-requires-clause-ready : goal.look_through-requires-clause-ready
look_through-requires-clause-ready g c = λ i s found. c.requires.ready.1.each i s (subst (λ xs. slice_get xs i ≡ Some s) (ap (λ (k : CoreState). k.slots) c.c.view_is) found)

pub look_through-requires-in-Nothing-clause-ready : goal.look_through-requires-in-Nothing-clause-ready
look_through-requires-in-Nothing-clause-ready g c = λ i s found. c.requires.ready.1.each i s (subst (λ xs. slice_get xs i ≡ Some s) (c.in-Nothing.ensures.pass.same ∙ ap (λ (k : CoreState). k.slots) c.c.view_is) found)

pub look_through-requires-in-Nothing-clause-held : goal.look_through-requires-in-Nothing-clause-held
look_through-requires-in-Nothing-clause-held g c =
    let p = plan_of c.args.p.now in
    let same = unchanged_by p _ _ _ _ c.in-Nothing.ensures.pass.looked in
    let count : c.len-count.result ≡ length c.c.inside.slots.items = omega arith in
    let kept : length c.look_through.new.slots.items ≡ length c.c.inside.slots.items = ap length c.in-Nothing.ensures.pass.same in
    subst (λ objects. HeldTold p c.args.t.now objects None c.look_through.new.slots.items 0 c.look_through.new.a) (sym same.objects)
    (held_round p c.args.t.now (g.B.Bench.told c.args.b.now).objects c.look_through.new.slots.items c.look_through.new.a c.len-count.result (omega arith) c.in-Nothing.ensures.held)

pub note-requires : goal.note-requires
note-requires g c =
    made_within (plan_of c.args.p.now) c.args.t.now c.c.inside.slots.items c.look_through.new.slots.items c.c.inside.first c.in-Made.at _ _ c.in-Made.ensures.pass.entry c.in-Made.ensures.pass.made

pub note-requires-in-Made-look_through : goal.note-requires-in-Made-look_through
note-requires-in-Made-look_through g c =
    made_within (plan_of c.args.p.now) c.args.t.now c.look_through.new.slots.items c.look_through-in-Nothing.new.slots.items 0 c.in-Made-look_through.at _ _ c.in-Made-look_through.ensures.pass.entry c.in-Made-look_through.ensures.pass.made

pub returns-in-Made-clause-ready : goal.returns-in-Made-clause-ready
returns-in-Made-clause-ready g c = λ m ready.
    let pass = pass_at (plan_of c.args.p.now) c.args.t.now c.c.inside.slots.items c.args.c.now.slots c.look_through.new.slots.items c.note.new.self.slots c.c.inside.first c.args.c.now.first c.in-Made.at _ _ c.in-Made.ensures.pass.entry
    (ap (λ (k : CoreState). k.slots) c.c.view_is) (sym c.note.ensures.slots) (ap (λ (k : CoreState). k.first) c.c.view_is) c.in-Made.ensures.pass.made in
    ready_on (plan_of c.args.p.now) m c.args.t.now c.args.c.now c.note.new.self ready c.in-Made.at pass.slot pass.stepped c.in-Made.ensures.pass.entry pass.there pass.slots
    (c.note.ensures.number ∙ ap (λ (k : CoreState). k.number) c.c.view_is) pass.step

pub returns-in-Made-clause-turned : goal.returns-in-Made-clause-turned
returns-in-Made-clause-turned g c =
    let pass = pass_at (plan_of c.args.p.now) c.args.t.now c.c.inside.slots.items c.args.c.now.slots c.look_through.new.slots.items c.note.new.self.slots c.c.inside.first c.args.c.now.first c.in-Made.at _ _ c.in-Made.ensures.pass.entry
    (ap (λ (k : CoreState). k.slots) c.c.view_is) (sym c.note.ensures.slots) (ap (λ (k : CoreState). k.first) c.c.view_is) c.in-Made.ensures.pass.made in (
      c.in-Made.ensures.pass.entry,
      record {
        apart = back_steps (plan_of c.args.p.now) c.requires.ready.0 c.args.t.now c.args.c.now c.note.new.self c.requires.ready.1 c.in-Made.ensures.pass.entry c.in-Made.at
            (c.note.ensures.number ∙ ap (λ (k : CoreState). k.number) c.c.view_is) c.note.ensures.first _ _ pass;
        written = c.in-Made.ensures.pass.written;
        trace = c.note.ensures.trace ∙ ap (λ (k : CoreState). k.trace) c.c.view_is;
        room = c.note.ensures.room ∙ ap (λ (k : CoreState). k.room) c.c.view_is;
      },
    )

pub returns-in-Made-look_through-clause-ready : goal.returns-in-Made-look_through-clause-ready
returns-in-Made-look_through-clause-ready g c = λ m ready.
    let pass = pass_at (plan_of c.args.p.now) c.args.t.now c.look_through.new.slots.items c.args.c.now.slots c.look_through-in-Nothing.new.slots.items c.note-in-Made-look_through.new.self.slots 0 0 c.in-Made-look_through.at _ _ c.in-Made-look_through.ensures.pass.entry
    (c.in-Nothing.ensures.pass.same ∙ ap (λ (k : CoreState). k.slots) c.c.view_is) (sym c.note-in-Made-look_through.ensures.slots) refl c.in-Made-look_through.ensures.pass.made in
    ready_on (plan_of c.args.p.now) m c.args.t.now c.args.c.now c.note-in-Made-look_through.new.self ready c.in-Made-look_through.at pass.slot pass.stepped c.in-Made-look_through.ensures.pass.entry pass.there pass.slots
    (c.note-in-Made-look_through.ensures.number ∙ ap (λ (k : CoreState). k.number) c.c.view_is) pass.step

pub returns-in-Made-look_through-clause-turned : goal.returns-in-Made-look_through-clause-turned
returns-in-Made-look_through-clause-turned g c =
    let pass = pass_at (plan_of c.args.p.now) c.args.t.now c.look_through.new.slots.items c.args.c.now.slots c.look_through-in-Nothing.new.slots.items c.note-in-Made-look_through.new.self.slots 0 0 c.in-Made-look_through.at _ _ c.in-Made-look_through.ensures.pass.entry
    (c.in-Nothing.ensures.pass.same ∙ ap (λ (k : CoreState). k.slots) c.c.view_is) (sym c.note-in-Made-look_through.ensures.slots) refl c.in-Made-look_through.ensures.pass.made in
    let count : c.len-count.result ≡ length c.c.inside.slots.items = omega arith in
    let back = behind_all (plan_of c.args.p.now) c.args.t.now c.args.c.now c.c.inside.slots.items c.c.inside.first _ _ (ap (λ (k : CoreState). k.slots) c.c.view_is) (ap (λ (k : CoreState). k.first) c.c.view_is) _ c.len-count.result count c.in-Nothing.ensures.pass.looked in
    let before : c.in-Made-look_through.at < c.args.c.now.first = subst (λ n. c.in-Made-look_through.at < n) (ap (λ (k : CoreState). k.first) c.c.view_is) c.in-Made-look_through.ensures.pass.within in (
      c.in-Made-look_through.ensures.pass.entry,
      record {
        apart = front_steps (plan_of c.args.p.now) c.requires.ready.0 c.args.t.now c.args.c.now c.note-in-Made-look_through.new.self c.requires.ready.1 c.in-Made-look_through.ensures.pass.entry c.in-Made-look_through.at
            (c.note-in-Made-look_through.ensures.number ∙ ap (λ (k : CoreState). k.number) c.c.view_is) c.note-in-Made-look_through.ensures.first _ _ _ _ before back pass;
        written = c.in-Made-look_through.ensures.pass.written ∙ ap (λ ys. ys ++ c.in-Made-look_through.ensures.pass.entry ∷ []) c.in-Nothing.ensures.pass.none;
        trace = c.note-in-Made-look_through.ensures.trace ∙ ap (λ (k : CoreState). k.trace) c.c.view_is;
        room = c.note-in-Made-look_through.ensures.room ∙ ap (λ (k : CoreState). k.room) c.c.view_is;
      },
    )

pub returns-in-Made-clause-held : goal.returns-in-Made-clause-held
returns-in-Made-clause-held g c = λ s last.
    held_turned (plan_of c.args.p.now) c.args.t.now (g.B.Bench.told c.args.b.now).objects (touched_by (plan_of c.args.p.now) (noting_of s)) c.look_through.new.slots.items c.note.new.self.slots c.in-Made.at (c.in-Made.at + 1) c.look_through.new.a _
    c.note.ensures.slots (omega arith) c.a.view_is (c.in-Made.ensures.held s last)

pub returns-in-Made-clause-fits : goal.returns-in-Made-clause-fits
returns-in-Made-clause-fits g c =
    let at = c.in-Made.at in
    let next : at + 1 ≡ c.note.new.self.first = let more : at + 1 ≡ suc at = omega arith in more ∙ sym c.note.ensures.first in
    subst (λ ys. Fits ys c.note.new.self.first (begins_at (record {
      slots = c.a.inside.slots;
      events = c.a.inside.events.items;
      waiting = c.a.inside.waiting;
      areas = c.a.inside.areas.items;
      first = c.a.inside.first;
    }) (at + 1))) (sym c.note.ensures.slots)
    (fits_begins _ _ _ _ (at + 1) next (subst (Fits c.look_through.new.slots.items c.args.a.now.first) (sym c.a.view_is) c.in-Made.ensures.fits))

pub returns-in-Made-look_through-clause-fits : goal.returns-in-Made-look_through-clause-fits
returns-in-Made-look_through-clause-fits g c =
    let at = c.in-Made-look_through.at in
    let next : at + 1 ≡ c.note-in-Made-look_through.new.self.first = let more : at + 1 ≡ suc at = omega arith in more ∙ sym c.note-in-Made-look_through.ensures.first in
    subst (λ ys. Fits ys c.note-in-Made-look_through.new.self.first (begins_at (record {
      slots = c.a-in-Nothing.inside.slots;
      events = c.a-in-Nothing.inside.events.items;
      waiting = c.a-in-Nothing.inside.waiting;
      areas = c.a-in-Nothing.inside.areas.items;
      first = c.a-in-Nothing.inside.first;
    }) (at + 1))) (sym c.note-in-Made-look_through.ensures.slots)
    (fits_begins _ _ _ _ (at + 1) next (subst (Fits c.look_through-in-Nothing.new.slots.items c.look_through.new.a.first) (sym c.a-in-Nothing.view_is) c.in-Made-look_through.ensures.fits))

pub returns-in-Made-look_through-clause-held : goal.returns-in-Made-look_through-clause-held
returns-in-Made-look_through-clause-held g c = λ s last.
    let p = plan_of c.args.p.now in
    let same = unchanged_by p _ _ _ _ c.in-Nothing.ensures.pass.looked in
    let from_there = last ∙ ap (λ ys. ys ++ s ∷ []) (sym c.in-Nothing.ensures.pass.none) in
    let held = subst (λ o. HeldTold p c.args.t.now o (touched_by p (noting_of s)) c.look_through-in-Nothing.new.slots.items (suc c.in-Made-look_through.at) c.look_through-in-Nothing.new.a) same.objects (c.in-Made-look_through.ensures.held s from_there) in
    held_turned p c.args.t.now (g.B.Bench.told c.args.b.now).objects (touched_by p (noting_of s)) c.look_through-in-Nothing.new.slots.items c.note-in-Made-look_through.new.self.slots c.in-Made-look_through.at (c.in-Made-look_through.at + 1) c.look_through-in-Nothing.new.a _
    c.note-in-Made-look_through.ensures.slots (omega arith) c.a-in-Nothing.view_is held

pub returns-in-Nothing-look_through-clause-turned : goal.returns-in-Nothing-look_through-clause-turned
returns-in-Nothing-look_through-clause-turned g c =
    let count : c.len-count.result ≡ length c.c.inside.slots.items = omega arith in
    let back = behind_all (plan_of c.args.p.now) c.args.t.now c.args.c.now c.c.inside.slots.items c.c.inside.first _ _ (ap (λ (k : CoreState). k.slots) c.c.view_is) (ap (λ (k : CoreState). k.first) c.c.view_is) _ c.len-count.result count c.in-Nothing.ensures.pass.looked in
    let front = before_all (plan_of c.args.p.now) c.args.t.now c.args.c.now c.look_through.new.slots.items c.c.inside.first _ _ (c.in-Nothing.ensures.pass.same ∙ ap (λ (k : CoreState). k.slots) c.c.view_is) (ap (λ (k : CoreState). k.first) c.c.view_is) _ c.in-Nothing-look_through.ensures.pass.looked in
    let same = ap (λ (xs : _). record { number = c.c.inside.number; slots = xs; first = c.c.inside.first; trace = c.c.inside.trace.items; room = Rattle.std.specs.Vec.vec_capacity c.c.inside.trace - length c.c.inside.trace.items }) (c.in-Nothing-look_through.ensures.pass.same ∙ c.in-Nothing.ensures.pass.same) ∙ c.c.view_is in
    (c.in-Nothing-look_through.ensures.pass.none ∙ c.in-Nothing.ensures.pass.none, nothing_found (plan_of c.args.p.now) c.args.t.now c.args.c.now _ 0 0 _ _ _ same back front)

pub returns-in-Contended-clause-turned : goal.returns-in-Contended-clause-turned
returns-in-Contended-clause-turned g c =
    let count : c.len-count.result ≡ length c.c.inside.slots.items = omega arith in
    let lost = behind_lost (plan_of c.args.p.now) c.args.t.now c.args.c.now c.c.inside.slots.items c.c.inside.first _ _ (ap (λ (k : CoreState). k.slots) c.c.view_is) (ap (λ (k : CoreState). k.first) c.c.view_is) c.in-Contended.object c.len-count.result count c.in-Contended.ensures.pass.looked in
    let same = ap (λ (xs : _). record { number = c.c.inside.number; slots = xs; first = c.c.inside.first; trace = c.c.inside.trace.items; room = Rattle.std.specs.Vec.vec_capacity c.c.inside.trace - length c.c.inside.trace.items }) c.in-Contended.ensures.pass.same ∙ c.c.view_is in
    (c.in-Contended.ensures.pass.none, back_contended (plan_of c.args.p.now) c.args.t.now c.args.c.now _ (g.B.Bench.told c.args.b.now) (g.B.Bench.told c.args.b.now) _ c.in-Contended.object same lost)

pub returns-in-Contended-look_through-clause-turned : goal.returns-in-Contended-look_through-clause-turned
returns-in-Contended-look_through-clause-turned g c =
    let count : c.len-count.result ≡ length c.c.inside.slots.items = omega arith in
    let back = behind_all (plan_of c.args.p.now) c.args.t.now c.args.c.now c.c.inside.slots.items c.c.inside.first _ _ (ap (λ (k : CoreState). k.slots) c.c.view_is) (ap (λ (k : CoreState). k.first) c.c.view_is) _ c.len-count.result count c.in-Nothing.ensures.pass.looked in
    let lost = before_lost (plan_of c.args.p.now) c.args.t.now c.args.c.now c.look_through.new.slots.items c.c.inside.first _ _ (c.in-Nothing.ensures.pass.same ∙ ap (λ (k : CoreState). k.slots) c.c.view_is) (ap (λ (k : CoreState). k.first) c.c.view_is) c.in-Contended-look_through.object c.in-Contended-look_through.ensures.pass.looked in
    let same = ap (λ (xs : _). record { number = c.c.inside.number; slots = xs; first = c.c.inside.first; trace = c.c.inside.trace.items; room = Rattle.std.specs.Vec.vec_capacity c.c.inside.trace - length c.c.inside.trace.items }) (c.in-Contended-look_through.ensures.pass.same ∙ c.in-Nothing.ensures.pass.same) ∙ c.c.view_is in
    (c.in-Contended-look_through.ensures.pass.none ∙ c.in-Nothing.ensures.pass.none, front_contended (plan_of c.args.p.now) c.args.t.now c.args.c.now _ _ _ _ c.in-Contended-look_through.object same _ back lost)

pub returns-in-Nothing-look_through-clause-counted : goal.returns-in-Nothing-look_through-clause-counted
returns-in-Nothing-look_through-clause-counted g c =
    let p = plan_of c.args.p.now in
    let xs = c.c.inside.slots.items in
    let first = c.c.inside.first in
    let a = c.args.a.now in
    let b = c.look_through.new.a in
    let count : c.len-count.result ≡ length xs = omega arith in
    let le : first ≤ c.len-count.result = omega arith in
    let told = (g.B.Bench.told c.args.b.now).work in
    let mid = (g.B.Bench.told c.look_through.new.bench).work in
    let now = (g.B.Bench.told c.look_through-in-Nothing.new.bench).work in
    let front : IsFurther mid now [] (sum_below (looks_at_place p xs b) first - sum_below (looks_at_place p xs b) 0) 0 =
    subst (λ ys. IsFurther mid now [] (sum_below (looks_at_place p ys b) first - sum_below (looks_at_place p ys b) 0) 0) c.in-Nothing.ensures.pass.same c.in-Nothing-look_through.ensures.counted in
    subst (λ ys. IsFurther told now [] (sum_below (looks_at_place p ys a) (length ys)) 0) (ap (λ (k : CoreState). k.slots) c.c.view_is)
    (turn_counted p xs a b first c.len-count.result told mid now le count c.in-Nothing.ensures.before c.in-Nothing.ensures.counted front)
