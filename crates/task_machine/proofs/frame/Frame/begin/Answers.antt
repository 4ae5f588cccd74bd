use Rattle.std.proofs.Common.{◌≡◌, ℕ, List, ◌≤◌, ◌<◌, refl, sym, ap, subst, ◌∙◌, Some, None, arith, length, get_or}
use Rattle.std.specs.Prelude.{slice_get}
use Rattle.std.proofs.lemmas.Option.{slice_get-get_or, slice_get_past}
use Rattle.task_machine.specs.declared.instr.Body.{Body}
use Rattle.task_machine.specs.Spots.{first_spot}
use Rattle.task_machine.specs.Frames.{most, event_in, first_place, spot_from}
use Rattle.task_machine.proofs.Most.{le-most}
use Rattle.task_machine.proofs.frame.Frame.begin.Goals as goal

found : (items bodies : List Body) (i : ℕ) (b : Body) → items ≡ bodies → i < length items → b ≡ get_or items i b → slice_get bodies i ≡ Some b
found items bodies i b same within at = subst (λ (l : List Body). slice_get l i ≡ Some b) same (slice_get-get_or items i b within ∙ ap Some (sym at))

pub begin-requires-clause-vars : goal.begin-requires-clause-vars
begin-requires-clause-vars c =
    let h = c.in-Some.ensures.lookup in
    let at = found c.items.result.now c.args.t.now.bodies c.args.key.runnable c.in-Some.body.now c.items.ensures h.3.0 h.1 in
    let fits = le-most (λ (b : Body). b.vars) c.args.t.now.bodies c.args.key.runnable c.in-Some.body.now at in
    let room = subst (λ f. most (λ (b : Body). b.vars) c.args.t.now.bodies ≤ f.room.vars) (sym c.self.view_is) c.requires.made_for.vars in
    omega arith

pub begin-requires-clause-counters : goal.begin-requires-clause-counters
begin-requires-clause-counters c =
    let h = c.in-Some.ensures.lookup in
    let at = found c.items.result.now c.args.t.now.bodies c.args.key.runnable c.in-Some.body.now c.items.ensures h.3.0 h.1 in
    let fits = le-most (λ (b : Body). b.counters) c.args.t.now.bodies c.args.key.runnable c.in-Some.body.now at in
    let room = subst (λ f. most (λ (b : Body). b.counters) c.args.t.now.bodies ≤ f.counters_room) (sym c.self.view_is) c.requires.made_for.counters in
    omega arith

pub begin-requires-clause-fetched : goal.begin-requires-clause-fetched
begin-requires-clause-fetched c =
    let h = c.in-Some.ensures.lookup in
    let at = found c.items.result.now c.args.t.now.bodies c.args.key.runnable c.in-Some.body.now c.items.ensures h.3.0 h.1 in
    let fits = le-most (λ (b : Body). b.fetched) c.args.t.now.bodies c.args.key.runnable c.in-Some.body.now at in
    let room = subst (λ f. most (λ (b : Body). b.fetched) c.args.t.now.bodies ≤ f.room.fetched) (sym c.self.view_is) c.requires.made_for.fetched in
    omega arith

pub begin-requires-clause-written : goal.begin-requires-clause-written
begin-requires-clause-written c =
    let h = c.in-Some.ensures.lookup in
    let at = found c.items.result.now c.args.t.now.bodies c.args.key.runnable c.in-Some.body.now c.items.ensures h.3.0 h.1 in
    let fits = le-most (λ (b : Body). b.written) c.args.t.now.bodies c.args.key.runnable c.in-Some.body.now at in
    let room = subst (λ f. most (λ (b : Body). b.written) c.args.t.now.bodies ≤ f.room.written) (sym c.self.view_is) c.requires.made_for.written in
    omega arith

pub returns-in-Some-clause-stands : goal.returns-in-Some-clause-stands
returns-in-Some-clause-stands c =
    let h = c.in-Some.ensures.lookup in
    let at = found c.items.result.now c.args.t.now.bodies c.args.key.runnable c.in-Some.body.now c.items.ensures h.3.0 h.1 in
    let event = c.event_of-self-inside.ensures in
    let place = c.first_place-place.ensures ∙ ap (first_place c.args.t.now) event in
    let first = c.begin.ensures.first ∙ ap (λ n. first_spot c.in-Some.body.now n c.words_of_start.result.now) place ∙ ap (first_spot c.in-Some.body.now (first_place c.args.t.now (event_in c.args.start.now))) c.words_of_start.ensures in
    record { key = refl; event = event; at = first ∙ ap (spot_from c.args.t.now c.args.start.now) (sym at) }

pub returns-in-None-clause-stands : goal.returns-in-None-clause-stands
returns-in-None-clause-stands c =
    let h = c.in-None.ensures.lookup in
    let none = subst (λ (l : List Body). slice_get l c.args.key.runnable ≡ None) c.items.ensures (slice_get_past c.items.result.now c.args.key.runnable h.3) in
    record { key = refl; event = c.event_of-self-inside.ensures; at = c.begin_nowhere.ensures.first ∙ ap (spot_from c.args.t.now c.args.start.now) (sym none) }
