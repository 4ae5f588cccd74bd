-- What is tried at rest, one kind after the other.
use Rattle.std.proofs.Common.{◌≡◌, ℕ, ◌<◌, inl, inr, true, refl, sym, subst, List, [], ◌∷◌, ◌++◌, length, Option, Some}
use Rattle.bus_semantics.specs.Common.{slice_get, ActKey, same_number, Plan, positions, server_of, caller_of, runnable_of_event, Wanted, to_start, to_move_on, History, next_wish, direct_key}
use Rattle.bus_semantics.specs.Common.{asked_last, Try, plain_key, option_list, gathered, keys_of, goes_on_tries, direct_try, direct_tries, machine_tries, is_free, start_try, task_tries}
use Rattle.bus_semantics.specs.Common.{tries, IsStuck, AllStuck, IsAtRest}
use Rattle.bus_laws.specs.Common.{ServerPlan, Mapping, Task, Machine, Act}
use Rattle.no_stall.proofs.Lists.{Among, among_left, among_right, among_gathered, among_map, among_positions}

stuck_among : (p : Plan) (h : History) (t : Try) (ts : List Try) → AllStuck p h ts → Among t ts → IsStuck p h t
stuck_among p h t [] all never = absurd never
stuck_among p h t (u ∷ ts) all (inl same) = subst (IsStuck p h) same all.0
stuck_among p h t (u ∷ ts) all (inr rest) = stuck_among p h t ts all.1 rest

among_option : {X : Type 0} (x : X) (o : Option X) → o ≡ Some x → Among x (option_list o)
among_option x o e = subst (λ z. Among x (option_list z)) (sym e) (inl refl)

abbrev own_tries : Plan → History → ActKey → List Try
own_tries p h k = gathered (λ w. (Act k, w) ∷ []) (option_list (next_wish p h k))

module _ (p : Plan) (m : Mapping) (h : History) (rest : IsAtRest p m h) where
  abbrev by_callers : List Try
  by_callers = goes_on_tries p h ++ direct_tries p h

  abbrev by_machines : List Try
  by_machines = goes_on_tries p h ++ direct_tries p h ++ machine_tries p

  abbrev by_tasks : List Try
  by_tasks = gathered (task_tries p h) m.tasks

  stuck : (t : Try) → Among t (tries p m h) → IsStuck p h t
  stuck t here = stuck_among p h t (tries p m h) rest here

  called : (t : Try) → Among t by_callers → IsStuck p h t
  called t here = stuck t (among_left t by_machines by_tasks (among_left t by_callers (machine_tries p) here))

  -- the running activation of a key
  pub going_stuck : (k : ActKey) (w : Wanted) → Among k (keys_of p) → next_wish p h k ≡ Some w → IsStuck p h (Act k, w)
  going_stuck k w is next = called (Act k, w) (among_left (Act k, w) (goes_on_tries p h) (direct_tries p h) (among_gathered (own_tries p h) k (Act k, w) (keys_of p) is tried))
    where
      tried : Among (Act k, w) (own_tries p h k)
      tried = among_gathered (λ v. (Act k, v) ∷ []) w (Act k, w) (option_list (next_wish p h k)) (among_option w (next_wish p h k) next) (inl refl)

  -- the start of a direct activation whose caller has just asked
  pub direct_stuck : (q r s : ℕ) (v : ServerPlan) (k : ActKey) → q < length p.points → caller_of p q ≡ Some r → asked_last (plain_key r) h ≡ Some q
      → server_of p q ≡ Some s → slice_get p.servers s ≡ Some v → direct_key p q ≡ Some k → same_number (Some q) (Some q) ≡ true → IsStuck p h (Act k, to_start v.event)
  direct_stuck q r s v k less caller asked server there key same =
      called (Act k, to_start v.event) (among_right (Act k, to_start v.event) (goes_on_tries p h) (direct_tries p h)
      (among_gathered (direct_try p h) q (Act k, to_start v.event) (positions (length p.points)) (among_positions q (length p.points) less) tried))
    where
      tried : Among (Act k, to_start v.event) (direct_try p h q)
      tried = rw (caller, asked, same, key, server, there) (inl refl)

  pub machine_stuck : (n : ℕ) → n < length p.machines → IsStuck p h (Machine n, to_move_on)
  machine_stuck n less = stuck (Machine n, to_move_on) (among_left (Machine n, to_move_on) by_machines by_tasks (among_right (Machine n, to_move_on) by_callers (machine_tries p)
      (among_map (λ (i : ℕ). (Machine i, to_move_on)) n (positions (length p.machines)) (among_positions n (length p.machines) less))))

  -- the start by a mapped event of a free task
  pub start_stuck : (t : Task) (e r : ℕ) → Among t m.tasks → Among e t.events → is_free p h t ≡ true → runnable_of_event p e ≡ Some r → IsStuck p h (Act (plain_key r), to_start e)
  start_stuck t e r is mapped free runs = stuck (Act (plain_key r), to_start e) (among_right (Act (plain_key r), to_start e) by_machines by_tasks
      (among_gathered (task_tries p h) t (Act (plain_key r), to_start e) m.tasks is tried))
    where
      tried : Among (Act (plain_key r), to_start e) (task_tries p h t)
      tried = rw free (among_gathered (start_try p) e (Act (plain_key r), to_start e) t.events mapped (among_map (λ (i : ℕ). (Act (plain_key i), to_start e)) r (option_list (runnable_of_event p e)) (among_option r (runnable_of_event p e) runs)))
