use Rattle.std.proofs.Common.{◌≡◌, ◌<◌, suc, length, sym, ◌∙◌, ap, subst, refl, arith, [], ◌∷◌, ◌++◌, Some}
use Rattle.bus_semantics.specs.Common.{slice_get, vec_capacity, plan_of}
use Rattle.core_turn.specs.Cores.{CoreState}
use Rattle.core_turn.proofs.Stepped.{ready_on, back_steps, front_steps, nothing_comes, pass_at, made_within, behind_all, before_all, behind_looks, before_looks, back_contended}
use Rattle.core_turn.proofs.Stepped.{front_contended, behind_lost, before_lost, room_taken, same_core}
use Rattle.core_turn.proofs.turning.turn.Goals as goal

pub look_through-requires-clause-ready : goal.look_through-requires-clause-ready
look_through-requires-clause-ready g c = λ i s found. c.requires.ready.1.each i s (subst (λ xs. slice_get xs i ≡ Some s) (ap (λ (k : CoreState). k.slots) c.c.view_is) found)

pub look_through-requires-in-Nothing-clause-ready : goal.look_through-requires-in-Nothing-clause-ready
look_through-requires-in-Nothing-clause-ready g c = λ i s found. c.requires.ready.1.each i s (subst (λ xs. slice_get xs i ≡ Some s) (c.in-Nothing.ensures.pass.same ∙ ap (λ (k : CoreState). k.slots) c.c.view_is) found)

pub note-requires : goal.note-requires
note-requires g c =
    made_within (plan_of c.args.p.now) c.args.t.now c.c.inside.slots.items c.look_through.new.slots.items c.c.inside.first c.in-Made.at _ _ c.in-Made.ensures.pass.entry c.in-Made.ensures.pass.made

pub note-requires-in-Made-look_through : goal.note-requires-in-Made-look_through
note-requires-in-Made-look_through g c =
    made_within (plan_of c.args.p.now) c.args.t.now c.look_through.new.slots.items c.look_through-in-Nothing.new.slots.items 0 c.in-Made-look_through.at _ _ c.in-Made-look_through.ensures.pass.entry c.in-Made-look_through.ensures.pass.made

pub returns-in-Made-clause-ready : goal.returns-in-Made-clause-ready
returns-in-Made-clause-ready g c = λ m ready.
    let pass = pass_at (plan_of c.args.p.now) c.args.t.now c.c.inside.slots.items c.args.c.now.slots c.look_through.new.slots.items c.note.new.self.slots c.c.inside.first c.args.c.now.first c.in-Made.at _ _ c.in-Made.ensures.pass.entry
    (ap (λ (k : CoreState). k.slots) c.c.view_is) (sym c.note.ensures.slots) (ap (λ (k : CoreState). k.first) c.c.view_is) c.in-Made.ensures.pass.made in
    ready_on (plan_of c.args.p.now) m c.args.t.now c.args.c.now c.note.new.self ready c.in-Made.at pass.slot pass.stepped c.in-Made.ensures.pass.entry pass.there pass.slots
    (c.note.ensures.number ∙ ap (λ (k : CoreState). k.number) c.c.view_is) pass.step

pub returns-in-Made-clause-turned : goal.returns-in-Made-clause-turned
returns-in-Made-clause-turned g c =
    let pass = pass_at (plan_of c.args.p.now) c.args.t.now c.c.inside.slots.items c.args.c.now.slots c.look_through.new.slots.items c.note.new.self.slots c.c.inside.first c.args.c.now.first c.in-Made.at _ _ c.in-Made.ensures.pass.entry
    (ap (λ (k : CoreState). k.slots) c.c.view_is) (sym c.note.ensures.slots) (ap (λ (k : CoreState). k.first) c.c.view_is) c.in-Made.ensures.pass.made in (
      c.in-Made.ensures.pass.entry,
      record {
        apart = back_steps (plan_of c.args.p.now) c.requires.ready.0 c.args.t.now c.args.c.now c.note.new.self c.requires.ready.1 c.in-Made.ensures.pass.entry c.in-Made.at
            (c.note.ensures.number ∙ ap (λ (k : CoreState). k.number) c.c.view_is) c.note.ensures.first _ _ pass;
        trace = c.note.ensures.trace ∙ c.in-Made.ensures.pass.written ∙ ap (λ (k : CoreState). k.trace ++ c.in-Made.ensures.pass.entry ∷ []) c.c.view_is;
        room = sym (ap (λ (k : CoreState). k.room) c.c.view_is) ∙ room_taken (vec_capacity c.c.inside.trace) (vec_capacity c.look_through.new.made) c.c.inside.trace.items c.look_through.new.made.items c.in-Made.ensures.pass.entry
            (subst (λ (k : CoreState). 0 < k.room) (sym c.c.view_is) c.requires.room) c.in-Made.ensures.capacity c.in-Made.ensures.pass.written ∙ ap (λ n. suc n) (sym c.note.ensures.room);
      },
    )

pub returns-in-Made-look_through-clause-ready : goal.returns-in-Made-look_through-clause-ready
returns-in-Made-look_through-clause-ready g c = λ m ready.
    let pass = pass_at (plan_of c.args.p.now) c.args.t.now c.look_through.new.slots.items c.args.c.now.slots c.look_through-in-Nothing.new.slots.items c.note-in-Made-look_through.new.self.slots 0 0 c.in-Made-look_through.at _ _ c.in-Made-look_through.ensures.pass.entry
    (c.in-Nothing.ensures.pass.same ∙ ap (λ (k : CoreState). k.slots) c.c.view_is) (sym c.note-in-Made-look_through.ensures.slots) refl c.in-Made-look_through.ensures.pass.made in
    ready_on (plan_of c.args.p.now) m c.args.t.now c.args.c.now c.note-in-Made-look_through.new.self ready c.in-Made-look_through.at pass.slot pass.stepped c.in-Made-look_through.ensures.pass.entry pass.there pass.slots
    (c.note-in-Made-look_through.ensures.number ∙ ap (λ (k : CoreState). k.number) c.c.view_is) pass.step

pub returns-in-Made-look_through-clause-turned : goal.returns-in-Made-look_through-clause-turned
returns-in-Made-look_through-clause-turned g c =
    let pass = pass_at (plan_of c.args.p.now) c.args.t.now c.look_through.new.slots.items c.args.c.now.slots c.look_through-in-Nothing.new.slots.items c.note-in-Made-look_through.new.self.slots 0 0 c.in-Made-look_through.at _ _ c.in-Made-look_through.ensures.pass.entry
    (c.in-Nothing.ensures.pass.same ∙ ap (λ (k : CoreState). k.slots) c.c.view_is) (sym c.note-in-Made-look_through.ensures.slots) refl c.in-Made-look_through.ensures.pass.made in
    let count : c.len-count.result ≡ length c.c.inside.slots.items = omega arith in
    let back = behind_all (plan_of c.args.p.now) c.args.t.now c.args.c.now c.c.inside.slots.items c.c.inside.first _ _ (ap (λ (k : CoreState). k.slots) c.c.view_is) (ap (λ (k : CoreState). k.first) c.c.view_is) _ c.len-count.result count c.in-Nothing.ensures.pass.looked in
    let written = c.in-Made-look_through.ensures.pass.written ∙ ap (λ ys. ys ++ c.in-Made-look_through.ensures.pass.entry ∷ []) c.in-Nothing.ensures.pass.none in
    let before : c.in-Made-look_through.at < c.args.c.now.first = subst (λ n. c.in-Made-look_through.at < n) (ap (λ (k : CoreState). k.first) c.c.view_is) c.in-Made-look_through.ensures.pass.within in (
      c.in-Made-look_through.ensures.pass.entry,
      record {
        apart = front_steps (plan_of c.args.p.now) c.requires.ready.0 c.args.t.now c.args.c.now c.note-in-Made-look_through.new.self c.requires.ready.1 c.in-Made-look_through.ensures.pass.entry c.in-Made-look_through.at
            (c.note-in-Made-look_through.ensures.number ∙ ap (λ (k : CoreState). k.number) c.c.view_is) c.note-in-Made-look_through.ensures.first _ _ _ _ before back pass;
        trace = c.note-in-Made-look_through.ensures.trace ∙ written ∙ ap (λ (k : CoreState). k.trace ++ c.in-Made-look_through.ensures.pass.entry ∷ []) c.c.view_is;
        room = sym (ap (λ (k : CoreState). k.room) c.c.view_is) ∙ room_taken (vec_capacity c.c.inside.trace) (vec_capacity c.look_through-in-Nothing.new.made) c.c.inside.trace.items c.look_through-in-Nothing.new.made.items c.in-Made-look_through.ensures.pass.entry
            (subst (λ (k : CoreState). 0 < k.room) (sym c.c.view_is) c.requires.room) (c.in-Made-look_through.ensures.capacity ∙ c.in-Nothing.ensures.capacity) written ∙ ap (λ n. suc n) (sym c.note-in-Made-look_through.ensures.room);
      },
    )

pub returns-in-Nothing-look_through-clause-turned : goal.returns-in-Nothing-look_through-clause-turned
returns-in-Nothing-look_through-clause-turned g c =
    let count : c.len-count.result ≡ length c.c.inside.slots.items = omega arith in
    let back = behind_all (plan_of c.args.p.now) c.args.t.now c.args.c.now c.c.inside.slots.items c.c.inside.first _ _ (ap (λ (k : CoreState). k.slots) c.c.view_is) (ap (λ (k : CoreState). k.first) c.c.view_is) _ c.len-count.result count c.in-Nothing.ensures.pass.looked in
    let front = before_all (plan_of c.args.p.now) c.args.t.now c.args.c.now c.look_through.new.slots.items c.c.inside.first _ _ (c.in-Nothing.ensures.pass.same ∙ ap (λ (k : CoreState). k.slots) c.c.view_is) (ap (λ (k : CoreState). k.first) c.c.view_is) _ c.in-Nothing-look_through.ensures.pass.looked in
    let same = same_core c.c.inside.number c.c.inside.first _ _ _ _ _ _ (c.in-Nothing-look_through.ensures.pass.same ∙ c.in-Nothing.ensures.pass.same)
    (c.in-Nothing-look_through.ensures.pass.none ∙ c.in-Nothing.ensures.pass.none) (c.in-Nothing-look_through.ensures.capacity ∙ c.in-Nothing.ensures.capacity) ∙ c.c.view_is in
    let behind = behind_looks (plan_of c.args.p.now) c.args.t.now c.args.c.now c.c.inside.slots.items c.c.inside.first (g.B.Bench.told c.args.b.now) (g.B.Bench.told c.args.b.now) (ap (λ (k : CoreState). k.slots) c.c.view_is) (ap (λ (k : CoreState). k.first) c.c.view_is) c.len-count.result count in
    let before = before_looks (plan_of c.args.p.now) c.args.t.now c.args.c.now c.look_through.new.slots.items c.c.inside.first (g.B.Bench.told c.args.b.now) (g.B.Bench.told c.args.b.now) (c.in-Nothing.ensures.pass.same ∙ ap (λ (k : CoreState). k.slots) c.c.view_is) (ap (λ (k : CoreState). k.first) c.c.view_is) in
    nothing_comes (plan_of c.args.p.now) c.args.t.now c.args.c.now _ _ _ _ _ _ same behind before back front

pub returns-in-Contended-clause-turned : goal.returns-in-Contended-clause-turned
returns-in-Contended-clause-turned g c =
    let count : c.len-count.result ≡ length c.c.inside.slots.items = omega arith in
    let lost = behind_lost (plan_of c.args.p.now) c.args.t.now c.args.c.now c.c.inside.slots.items c.c.inside.first _ _ (ap (λ (k : CoreState). k.slots) c.c.view_is) (ap (λ (k : CoreState). k.first) c.c.view_is) c.in-Contended.object c.len-count.result count c.in-Contended.ensures.pass.looked in
    let same = same_core c.c.inside.number c.c.inside.first _ _ _ _ _ _ c.in-Contended.ensures.pass.same c.in-Contended.ensures.pass.none c.in-Contended.ensures.capacity ∙ c.c.view_is in
    back_contended (plan_of c.args.p.now) c.args.t.now c.args.c.now _ (g.B.Bench.told c.args.b.now) (g.B.Bench.told c.args.b.now) _ c.in-Contended.object same lost

pub returns-in-Contended-look_through-clause-turned : goal.returns-in-Contended-look_through-clause-turned
returns-in-Contended-look_through-clause-turned g c =
    let count : c.len-count.result ≡ length c.c.inside.slots.items = omega arith in
    let back = behind_all (plan_of c.args.p.now) c.args.t.now c.args.c.now c.c.inside.slots.items c.c.inside.first _ _ (ap (λ (k : CoreState). k.slots) c.c.view_is) (ap (λ (k : CoreState). k.first) c.c.view_is) _ c.len-count.result count c.in-Nothing.ensures.pass.looked in
    let lost = before_lost (plan_of c.args.p.now) c.args.t.now c.args.c.now c.look_through.new.slots.items c.c.inside.first _ _ (c.in-Nothing.ensures.pass.same ∙ ap (λ (k : CoreState). k.slots) c.c.view_is) (ap (λ (k : CoreState). k.first) c.c.view_is) c.in-Contended-look_through.object c.in-Contended-look_through.ensures.pass.looked in
    let same = same_core c.c.inside.number c.c.inside.first _ _ _ _ _ _ (c.in-Contended-look_through.ensures.pass.same ∙ c.in-Nothing.ensures.pass.same)
    (c.in-Contended-look_through.ensures.pass.none ∙ c.in-Nothing.ensures.pass.none) (c.in-Contended-look_through.ensures.capacity ∙ c.in-Nothing.ensures.capacity) ∙ c.c.view_is in
    front_contended (plan_of c.args.p.now) c.args.t.now c.args.c.now _ _ _ _ c.in-Contended-look_through.object same _ back lost
