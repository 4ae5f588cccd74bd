-- A machine that cannot go on, by computing.
use Rattle.std.specs.Prelude.{◌≡◌, ℕ, Bool, true, false, not, ◌||◌, refl, Option, Some, None, is_some}
use Rattle.std.proofs.Common.{sym, ◌∙◌, ap}
use Rattle.bus_semantics.specs.Common.{false≢true, Step, same_number, Plan, Wanted, to_move_on, History, Past, noted, note, stage_of, waits_of, all_done, none_runs_disabled, first_unbegun}
use Rattle.bus_semantics.specs.Common.{phase_after, phase_may_come, Answers, Try, try_of, IsStuck}
use Rattle.rte_value.specs.declared.kinds.Step.TheVariants as step
use Rattle.bus_laws.specs.Common.{Actor, Env, Machine, Act, Deed}
use Rattle.bus_semantics.specs.declared.entries.Deed.TheVariants as deed

-- whether some phase may come at this stage
abbrev pub goes_on_from : Plan → (machine : ℕ) → Past → (stage : Step) → Bool
goes_on_from p m h step.Stable = is_some (first_unbegun m h)
goes_on_from p m h (step.Close mode) = not (waits_of p m) || none_runs_disabled p m h
goes_on_from p m h step.Exit = all_done p m h
goes_on_from p m h step.Transition = all_done p m h
goes_on_from p m h step.Entry = all_done p m h

was_there : (o : Option ℕ) (mode : ℕ) → same_number o (Some mode) ≡ true → is_some o ≡ true
was_there None mode e = e
was_there (Some n) mode e = refl

came_after : (p : Plan) (m : ℕ) (h : Past) (stage s : Step) → phase_after p m h stage s ≡ true → goes_on_from p m h stage ≡ true
came_after p m h step.Stable (step.Close mode) e = was_there (first_unbegun m h) mode e
came_after p m h (step.Close mode) step.Exit e = e
came_after p m h step.Exit step.Transition e = e
came_after p m h step.Transition step.Entry e = e
came_after p m h step.Entry step.Stable e = e
came_after p m h _ _ e = absurd (false≢true e)

abbrev pub machine_could : Plan → Past → Actor → Bool
machine_could p h Env = false
machine_could p h (Machine m) = goes_on_from p m h (stage_of m h)
machine_could p h (Act k) = false

came : (p : Plan) (h : Past) (a : Actor) (s : Step) → phase_may_come p a h s ≡ true → machine_could p h a ≡ true
came p h Env s e = e
came p h (Machine m) s e = came_after p m h (stage_of m h) s e
came p h (Act k) s e = e

abbrev pub phase_could : Plan → History → Actor → Wanted → Bool
phase_could p h a to_move_on = machine_could p (noted h) a
phase_could p h a _ = true

could_deed : (p : Plan) (h : History) (a : Actor) (d : Deed) → Answers p (noted h) (note h (record { actor = a; deed = d })) → phase_could p h a (try_of h (record { actor = a; deed = d })).1 ≡ true
could_deed p h a (deed.Phase s) r = came p (noted h) a s r.modes
could_deed p h a _ r = refl

not_both : (b : Bool) → b ≡ true → not b ≡ true → ⊥
not_both true e n = absurd (false≢true n)
not_both false e n = absurd (false≢true e)

pub phase_stuck : (p : Plan) (h : History) (t : Try) → not (phase_could p h t.0 t.1) ≡ true → IsStuck p h t
phase_stuck p h t n e same may = not_both (phase_could p h t.0 t.1) (sym (ap (λ (u : Try). phase_could p h u.0 u.1) same) ∙ could_deed p h e.actor e.deed may.answers) n
