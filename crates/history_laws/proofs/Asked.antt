-- What an activation of a runnable may ask after a trail, and what is kept in its state.
use Rattle.std.proofs.Common.{◌≡◌, ℕ, ◌≤◌, ℤ, Bool, true, false, ◌&&◌, ◌||◌, not, if◌then◌else◌, List, [], ◌∷◌, length, Some, is_some}
use Rattle.std.specs.Prelude.{nat_lt}
use Rattle.bus_semantics.specs.Common.{list_all, list_any, AccessSig, Plan, Runnable, disabling_of, Wanted, to_tick, to_start, to_admit, to_fetch, to_write, to_read, to_invalidate}
use Rattle.bus_semantics.specs.Common.{to_see_updated, to_send, to_receive, to_ask, to_hear, to_take_result, to_return, to_enter, to_leave, to_switch, to_see_mode, to_move_on, to_publish}
use Rattle.bus_semantics.specs.Common.{to_fetch_all, to_publish_all, to_end, elems_of, marked, marks_fit, list_fits, elem_fits, is_writable, is_readable, is_unqueued, is_queued, own_point}
use Rattle.bus_semantics.specs.Common.{result_point, area_fits, switch_fits, mode_port_fits, State, same_kind, found_under, code_in, arguments_of, argument_limits, list_sound}
use Rattle.runnable_lang.specs.declared.program.AccessKind.TheVariants as kind
use Rattle.bus_semantics.specs.declared.entries.Deed.{Deed}
use Rattle.history_laws.specs.OpenAreas.{innermost}
use Rattle.history_laws.specs.Given.{are_within, elem_takes, elems_take, point_gets}
use Rattle.history_laws.specs.Wishes.{is_awaited}
use Rattle.history_laws.proofs.Trails.{Trail, open_of, returns_of}

abbrev pub is_calling : AccessSig → Bool
is_calling a = same_kind a.kind kind.Call || (same_kind a.kind kind.ACall || same_kind a.kind kind.TakeResult)

abbrev pub Calls : Runnable → Type 0
Calls r = list_any is_calling r.accesses ≡ true

-- an ask at the point was accepted last
abbrev pub WasAccepted : ℕ → Wanted → Deed → Type 0
WasAccepted q (to_ask other ws) d = (other ≡ q) × (code_in d ≡ 0)
WasAccepted q w d = ⊥

abbrev pub HasAsked : ℕ → Trail → Type 0
HasAsked q [] = ⊥
HasAsked q (x ∷ t) = WasAccepted q x.0 x.1

abbrev pub returns_wanted : Runnable → ℕ
returns_wanted r = if is_some r.server then 1 else 0

abbrev pub IsWritten : Plan → Runnable → ℕ → List ℤ → Type 0
IsWritten p r x ws = (elem_fits p (Some r.instance) is_writable x ≡ true) × (elem_takes p x ws ≡ true)

-- a list of the runnable, of reads or of writes
abbrev pub IsListed : Plan → (i : ℕ) → Runnable → (reads : Bool) → ℕ → Type 0
IsListed p i r reads l = (list_fits p i reads l ≡ true) × (list_sound p i r l ≡ true)

abbrev pub MayAsk : (p : Plan) (i : ℕ) (r : Runnable) (event : ℕ) → Trail → Wanted → Type 0
MayAsk p i r event t to_tick = ⊥
MayAsk p i r event t (to_start e) = ⊥
MayAsk p i r event t (to_admit e) = (returns_of t ≡ 0) × (e ≡ event) × (t ≡ []) × (is_some (disabling_of p event) ≡ true)
MayAsk p i r event t (to_fetch x) = (returns_of t ≡ 0) × (elem_fits p (Some r.instance) is_readable x ≡ true)
MayAsk p i r event t (to_write x ws) = (returns_of t ≡ 0) × IsWritten p r x ws
MayAsk p i r event t (to_read x) = (returns_of t ≡ 0) × (elem_fits p (Some r.instance) is_readable x ≡ true)
MayAsk p i r event t (to_invalidate x) = (returns_of t ≡ 0) × (elem_fits p (Some r.instance) (λ e. is_unqueued e && e.provided) x ≡ true)
MayAsk p i r event t (to_see_updated x) = (returns_of t ≡ 0) × (elem_fits p (Some r.instance) (λ e. is_unqueued e && not e.provided) x ≡ true)
MayAsk p i r event t (to_send x ws) = (returns_of t ≡ 0) × (elem_fits p (Some r.instance) (λ e. is_queued e && e.provided) x ≡ true) × (elem_takes p x ws ≡ true)
MayAsk p i r event t (to_receive x) = (returns_of t ≡ 0) × (elem_fits p (Some r.instance) (λ e. is_queued e && not e.provided) x ≡ true)
MayAsk p i r event t (to_ask q ws) = (returns_of t ≡ 0) × (open_of t ≡ []) × (own_point p (Some i) q ≡ true) × (point_gets p q ws ≡ true) × Calls r
MayAsk p i r event t (to_hear q) = (returns_of t ≡ 0) × (open_of t ≡ []) × (own_point p (Some i) q ≡ true) × (is_awaited p q ≡ true) × HasAsked q t × Calls r
MayAsk p i r event t (to_take_result q) = (returns_of t ≡ 0) × (result_point p (Some r.instance) q ≡ true) × Calls r
MayAsk p i r event t (to_return code ws) = (returns_of t ≡ 0) × (open_of t ≡ []) × (is_some r.server ≡ true) × (nat_lt code 64 ≡ true) × (are_within (argument_limits true (arguments_of p r)) ws ≡ true)
MayAsk p i r event t (to_enter x) = (returns_of t ≡ 0) × (area_fits p (Some r.instance) x ≡ true) × (list_all (λ y. nat_lt y x) (open_of t) ≡ true)
MayAsk p i r event t (to_leave x) = (returns_of t ≡ 0) × (area_fits p (Some r.instance) x ≡ true) × (innermost (open_of t) ≡ Some x)
MayAsk p i r event t (to_switch m mode) = (returns_of t ≡ 0) × (switch_fits p (Some r.instance) m mode ≡ true)
MayAsk p i r event t (to_see_mode port) = (returns_of t ≡ 0) × (mode_port_fits p (Some r.instance) port ≡ true)
MayAsk p i r event t to_move_on = ⊥
MayAsk p i r event t (to_publish x ws) = (returns_of t ≡ 0) × (open_of t ≡ []) × IsWritten p r x ws
MayAsk p i r event t (to_fetch_all l) = (returns_of t ≡ 0) × IsListed p i r true l
MayAsk p i r event t (to_publish_all l written ws) = (returns_of t ≡ 0) × (open_of t ≡ []) × IsListed p i r false l × (marks_fit written (elems_of p l) ≡ true) × (elems_take p (marked written (elems_of p l)) ws ≡ true)
MayAsk p i r event t (to_end e) = (returns_of t ≡ returns_wanted r) × (open_of t ≡ []) × (e ≡ event)

-- there is a variable for each argument, and what was written implicitly may be published
pub record IsKept (p : Plan) (r : Runnable) (s : State) : Type 0 where
  pub vars : length (arguments_of p r) ≤ length s.vars
  pub written : (x : ℕ) (ws : List ℤ) → found_under x s.written ≡ Some ws → IsWritten p r x ws
