-- What the bus answers to an entry looks only at the earlier entries of its object.
use Rattle.std.proofs.Common.{◌≡◌, ℕ, true, ◌&&◌, not, refl, [], ◌∷◌, Some, None}
use Rattle.bus_semantics.specs.Common.{and_from, and_parts, list_all, same_number, Plan, runnable_of_event, History, Noted, Past, noted, note, runs, touched_by, touches, fits}
use Rattle.bus_semantics.specs.Common.{follows_program, may_start, caller_has_asked, is_held_back, IsLegal, starts_its_own, is_proper, SameAnswers, IsSound}
use Rattle.std.specs.Prelude.{filter}
use Rattle.bus_laws.specs.Common.{Mapping, Actor, Env, Machine, Act, Deed}
use Rattle.bus_semantics.specs.declared.entries.Deed.TheVariants as deed
use Rattle.bus_laws.proofs.LocalGroups.{unqueued_local, queued_local, unqueued_free, queued_free}
use Rattle.bus_laws.proofs.LocalCalls.{calls_local, calls_free}
use Rattle.bus_laws.proofs.LocalPhases.{modes_local, admission_local, modes_free, admission_free}
use Rattle.bus_laws.proofs.LocalDue.{due_local, areas_local, due_free, areas_free}

pub touching : (p : Plan) (m : Mapping) (h : Past) (n : Noted) (object : ℕ) → IsSound p m → list_all (is_proper p) h ≡ true → is_proper p n ≡ true → touched_by p n ≡ Some object
    → SameAnswers p n h (filter (touches p object) h)
touching p m h n object sound fine proper touched = record {
  unqueued = unqueued_local p m sound h fine n.entry.actor n.entry.deed n.event object touched;
  queued = queued_local p m sound h fine n.entry.actor n.entry.deed n.event object touched;
  calls = calls_local p m h sound fine n.entry.actor n.entry.deed n.event object proper touched;
  areas = areas_local p m h sound fine n.entry.actor n.entry.deed n.event object touched;
  modes = modes_local p m h sound fine n.entry.actor n.entry.deed n.event object touched;
  admission = admission_local p m h sound fine n.entry.actor n.entry.deed n.event object touched;
  due = due_local p m h sound fine n.entry.actor n.entry.deed n.event object proper touched;
}

pub free : (p : Plan) (m : Mapping) (h : Past) (n : Noted) → IsSound p m → list_all (is_proper p) h ≡ true → is_proper p n ≡ true → touched_by p n ≡ None → SameAnswers p n h []
free p m h n sound fine proper untouched = record {
  unqueued = unqueued_free p m sound h [] n.entry.actor n.entry.deed n.event untouched;
  queued = queued_free p m sound h [] n.entry.actor n.entry.deed n.event untouched;
  calls = calls_free p n.entry.actor n.entry.deed n.event h fine proper untouched;
  areas = areas_free p m h sound fine n.entry.actor n.entry.deed n.event untouched;
  modes = modes_free p h [] n.entry.actor n.entry.deed n.event untouched;
  admission = admission_free p h [] n.entry.actor n.entry.deed n.event untouched;
  due = due_free p m h sound fine n.entry.actor n.entry.deed n.event untouched;
}

-- ---- legal histories

own_start : (p : Plan) (h : History) (a : Actor) (d : Deed) → follows_program p h a d ≡ true → starts_its_own p a d ≡ true
own_start p h (Act k) (deed.Start event point value) may =
    let own = same_number (runnable_of_event p event) (Some k.runnable) in
    (and_parts own (not (runs k h)) (and_parts (own && not (runs k h)) (caller_has_asked p h k) (and_parts (may_start p h k event) (not (is_held_back p h k)) may).0).0).0
own_start p h (Act k) d may = refl
own_start p h Env d may = refl
own_start p h (Machine m) d may = refl

pub proper_legal : (p : Plan) (h : History) → IsLegal p h → list_all (is_proper p) (noted h) ≡ true
proper_legal p [] legal = refl
proper_legal p (e ∷ h) legal = and_from (is_proper p (note h e)) (list_all (is_proper p) (noted h))
    (and_from (fits p e) (starts_its_own p e.actor e.deed) legal.1.fit (own_start p h e.actor e.deed legal.1.actor)) (proper_legal p h legal.0)
