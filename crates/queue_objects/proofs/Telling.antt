-- What a send tells is exactly what it made pending.
use Rattle.std.proofs.Common.{◌≡◌, ℕ, zero, suc, Bool, true, false, refl, sym, ◌∙◌, ap, List, [], ◌∷◌, Option, Some, None}
use Rattle.bus_semantics.specs.Common.{Contains, slice_get, false≢true, Value}
use Rattle.bus_semantics.specs.declared.entries.Deed.{Deed}
use Rattle.queued_ports.specs.Kept as ports
use Rattle.object_kinds.specs.Common.{place, is_set, is_pending, is_rising}
use Rattle.object_kinds.proofs.Flags.{flag_is}
use Rattle.object_kinds.proofs.Options.{clash}
use Rattle.object_kinds.proofs.Placing.{place_at}
use Rattle.object_kinds.proofs.Rising.{place_here}
use Rattle.queue_objects.specs.Acting.{Tells}
use Rattle.queue_objects.specs.Kept.{GroupState, may_start}
use Rattle.queue_objects.specs.Leading.{wakes}

-- a group by its parts
abbrev pub state : (receivers events : List ℕ) → ports.Kept → (woken : List ℕ) → GroupState
state receivers events k woken = record { kept = record { receivers = receivers; events = events; queued = k }; woken = woken }

-- an event that there is not is not pending after a send either
was_clear : (queues : List ports.Queue) (es : List ℕ) (due : List Bool) (i : ℕ) → is_set due i ≡ false → is_set (ports.due_after queues es due) i ≡ true → slice_get due i ≡ Some false
was_clear queues [] due i off on = absurd (false≢true on)
was_clear queues (r ∷ es) [] i off on = absurd (false≢true on)
was_clear queues (r ∷ es) (b ∷ due) zero off on = ap (λ c. Some c) off
was_clear queues (r ∷ es) (b ∷ due) (suc i) off on = was_clear queues es due i off on

set_there : (flags : List Bool) (i : ℕ) → is_set flags i ≡ true → slice_get flags i ≡ Some true
set_there [] i on = absurd (false≢true on)
set_there (b ∷ flags) zero on = ap (λ c. Some c) on
set_there (b ∷ flags) (suc i) on = set_there flags i on

-- each event has its number in the plan as its name
module _ (receivers events names : List ℕ) (k new : ports.Kept) (value : Value) (before woken : List ℕ) (up : is_rising events ≡ true) (named : names ≡ events) (sends : new ≡ ports.after_send value k)
    (told : (i name : ℕ) → slice_get k.due i ≡ Some false → slice_get new.due i ≡ Some true → slice_get names i ≡ Some name → Contains woken name) (only : (name : ℕ) → Contains woken name → ports.IsWoken names k new name) where
  came : (event : ℕ) → is_pending k.due (place event events) ≡ false → is_pending new.due (place event events) ≡ true → Contains woken event
  came event off on = by_place (place event events) refl off on
    where
      by_place : (at : Option ℕ) → place event events ≡ at → is_pending k.due at ≡ false → is_pending new.due at ≡ true → Contains woken event
      by_place None there off on = absurd (false≢true on)
      by_place (Some i) there off on =
          told i event (was_clear k.queues k.events k.due i off (sym (ap (λ (z : ports.Kept). is_set z.due i) sends) ∙ on)) (set_there new.due i on) (ap (λ xs. slice_get xs i) named ∙ place_at event events i there)

  made : (event : ℕ) → Contains woken event → (is_pending k.due (place event events) ≡ false) × (is_pending new.due (place event events) ≡ true)
  made event among =
      let of = only event among in
      let there : place event events ≡ Some of.event = place_here events of.event event up (sym (ap (λ xs. slice_get xs of.event) named) ∙ of.named) in
      (ap (is_pending k.due) there ∙ flag_is k.due of.event false of.was, ap (is_pending new.due) there ∙ flag_is new.due of.event true of.is)

  pub send_tells : (d : Deed) → wakes d ≡ true → Tells (state receivers events k before) (state receivers events new woken) d
  send_tells d is = record { came = came; only = λ yes event among. made event among; left = λ not. clash (wakes d) is not }

-- a deed that wakes nothing and leaves what was told
pub none_tells : (old new : GroupState) (d : Deed) → wakes d ≡ false → new.woken ≡ old.woken → ((event : ℕ) → may_start old.kept event ≡ false → may_start new.kept event ≡ false) → Tells old new d
none_tells old new d is same off = record {
  came = λ event was now. clash (may_start new.kept event) now (off event was);
  only = λ yes. clash (wakes d) yes is;
  left = λ not. same;
}
