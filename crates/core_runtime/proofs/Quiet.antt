-- Entries that wake nobody: of an object that leads on by one no phase comes, or it keeps what it kept; and nothing was returned on it.
use Rattle.std.proofs.Common.{◌≡◌, ℕ, ◌+◌, ◌==◌, Bool, true, false, ◌&&◌, if◌then◌else◌, inl, inr, refl, sym, ◌∙◌, ap, subst, List, [], ◌∷◌, Option, Some, None}
use Rattle.std.specs.Prelude.{option_map, unwrap_or}
use Rattle.bus_semantics.specs.Common.{slice_get, same_Some, false≢true, unsigned_Decides, Step, Plan, Noted, touches, touched_by, is_proper, first_machine}
use Rattle.bus_semantics.specs.Common.{to_move_on, wanted_by}
use Rattle.bus_semantics.specs.declared.entries.Actor.{Actor}
use Rattle.bus_semantics.specs.declared.entries.Actor.TheVariants.{Machine}
use Rattle.bus_semantics.specs.declared.entries.Deed.{Deed}
use Rattle.bus_semantics.specs.declared.entries.Deed.TheVariants as deed
use Rattle.object_kinds.specs.Flags.{given}
use Rattle.port_objects.specs.declared.object.Object.{Object}
use Rattle.port_objects.specs.declared.object.Object.TheVariants as kind
use Rattle.port_objects.specs.Common.{Kept, of_group, of_bundle, of_queues, of_server, of_area, of_machine, of_clock, lead, lead_by_kind, kept_of, heard_in, is_leave, wakes}
use Rattle.task_machine.specs.declared.instr.TaskSet.{TaskSet}
use Rattle.task_slots.specs.Looking.{AllHeld, IsHeldOn}
use Rattle.core_turn.specs.Cores.{CoreState}
use Rattle.core_turn.specs.Awake.{AwakeState}
use Rattle.core_runtime.specs.Watching.{AreAnswered, IsAfter, IsWatch, Touches, is_quiet}
use Rattle.core_runtime.specs.declared.watch.Watch.{Watch}
use Rattle.latches.proofs.Places.{set_here}
use Rattle.core_runtime.proofs.Areas.{SleepOnLaw, calm_waiting}
use Rattle.core_runtime.proofs.Wakes.{are_same}
use Rattle.core_runtime.proofs.Watched.{NowhereLaw, OthersLaw, DeafLaw, ComesLaw, PhasesStay, after_entry, machine_moved}

-- ---- the deed

makes_no_start : (d : Deed) → is_quiet d ≡ true → wakes d ≡ false
makes_no_start (deed.Fetch x value) quiet = refl
makes_no_start (deed.Read x code value) quiet = refl
makes_no_start (deed.IsUpdated x updated) quiet = refl
makes_no_start (deed.Invalidate x) quiet = refl
makes_no_start (deed.Receive x code value) quiet = refl
makes_no_start (deed.FetchAll l value) quiet = refl
makes_no_start (deed.Enter area) quiet = refl
makes_no_start (deed.Mode port mode) quiet = refl
makes_no_start d quiet = absurd (cc quiet)

leaves_none : (d : Deed) → is_quiet d ≡ true → is_leave d ≡ false
leaves_none (deed.Leave area) quiet = absurd (cc quiet)
leaves_none d quiet = refl

-- ---- the object

-- data and areas: no phase comes of them
abbrev is_still : Kept → Bool
is_still (of_group k) = true
is_still (of_bundle k) = true
is_still (of_queues k) = true
is_still (of_server k) = false
is_still (of_area k) = true
is_still (of_machine k) = false
is_still (of_clock k) = false

abbrev is_server : Kept → Bool
is_server (of_server k) = true
is_server k = false

-- it is of that kind, or a machine that keeps what it kept
data IsCalm (before after : Kept) : Type 0 where
  of_kind : is_still after ≡ true → IsCalm before after
  unmoved : is_server after ≡ false → after ≡ before → IsCalm before after

abbrev noting : Actor → Option ℕ → Deed → Noted
noting a event d = record { entry = record { actor = a; deed = d }; event = event }

mapped : {X : Type 0} (f : X → Kept) (o : Option X) (before after : Kept) → ((x : X) → is_still (f x) ≡ true) → option_map f o ≡ Some after → IsCalm before after
mapped f None before after kind e = absurd (cc e)
mapped f (Some x) before after kind e = of_kind (subst (λ k. is_still k ≡ true) (same_Some _ _ e) (kind x))

-- where what is given is kept
kept : {X Y : Type 0} (f : Y → Kept) (g : X → Y) (b : Bool) (x : X) (after : Kept) → option_map f (option_map g (given b x)) ≡ Some after → after ≡ f (g x)
kept f g true x after e = sym (same_Some _ _ e)
kept f g false x after e = absurd (cc e)

-- a lead keeps the kind; servers and the clock lead on by no quiet entry, and machines by what sees their mode
quiet_by_kind : (p : Plan) (object : ℕ) (k after : Kept) (a : Actor) (event : Option ℕ) (d : Deed) → is_quiet d ≡ true → lead_by_kind p object k (noting a event d) ≡ Some after → IsCalm k after
quiet_by_kind p object (of_group k) after a event d quiet e = mapped of_group _ (of_group k) after (λ x. refl) e
quiet_by_kind p object (of_bundle k) after a event d quiet e = mapped of_bundle _ (of_bundle k) after (λ x. refl) e
quiet_by_kind p object (of_queues k) after a event d quiet e = mapped of_queues _ (of_queues k) after (λ x. refl) e
quiet_by_kind p object (of_area k) after a event d quiet e = mapped of_area _ (of_area k) after (λ x. refl) e
quiet_by_kind p object (of_server k) after a event d quiet e = absurd (cc (sym (of_deed d quiet) ∙ e))
  where
    of_deed : (d : Deed) → is_quiet d ≡ true → lead_by_kind p object (of_server k) (noting a event d) ≡ None
    of_deed (deed.Start started point value) quiet = absurd (cc quiet)
    of_deed (deed.Ask q value code) quiet = absurd (cc quiet)
    of_deed (deed.Answer q code value) quiet = absurd (cc quiet)
    of_deed (deed.TakeResult q code value) quiet = absurd (cc quiet)
    of_deed (deed.Return code value) quiet = absurd (cc quiet)
    of_deed d quiet = refl
quiet_by_kind p object (of_machine k) after a event d quiet e = of_deed d quiet e
  where
    of_deed : (d : Deed) → is_quiet d ≡ true → lead_by_kind p object (of_machine k) (noting a event d) ≡ Some after → IsCalm (of_machine k) after
    of_deed (deed.Mode port mode) quiet e =
        let is : after ≡ of_machine k = kept of_machine _ _ _ after e in
        unmoved (ap is_server is) is
    of_deed (deed.Start started point value) quiet e = absurd (cc quiet)
    of_deed (deed.Admit admitted) quiet e = absurd (cc quiet)
    of_deed (deed.Switch m mode code) quiet e = absurd (cc quiet)
    of_deed (deed.Phase s) quiet e = absurd (cc quiet)
    of_deed deed.End quiet e = absurd (cc quiet)
    of_deed d quiet e = absurd (cc e)
quiet_by_kind p object (of_clock k) after a event d quiet e = absurd (cc (sym (of_deed d quiet) ∙ e))
  where
    of_deed : (d : Deed) → is_quiet d ≡ true → lead_by_kind p object (of_clock k) (noting a event d) ≡ None
    of_deed deed.Tick quiet = absurd (cc quiet)
    of_deed (deed.Start started point value) quiet = absurd (cc quiet)
    of_deed d quiet = refl

-- an entry that does not touch the object, or is not proper, leads nowhere
opened : (b : Bool) (o : Option Kept) (after : Kept) → (if b then o else None) ≡ Some after → o ≡ Some after
opened true o after e = e
opened false o after e = absurd (cc e)

shut : (b : Bool) (o : Option Kept) → o ≡ None → (if b then o else None) ≡ None
shut true o none = none
shut false o none = refl

quiet_leads : (p : Plan) (object : ℕ) (k after : Kept) (n : Noted) → is_quiet n.entry.deed ≡ true → lead p object k n ≡ Some after → IsCalm k after
unfolding lead
quiet_leads p object k after n quiet e = quiet_by_kind p object k after n.entry.actor n.event n.entry.deed quiet (opened (touches p object n && is_proper p n) (lead_by_kind p object k n) after e)

-- nothing was returned
unheard : (o : Object) → is_server (kept_of o) ≡ false → heard_in o ≡ None
unheard (kind.Server s) none = absurd (cc none)
unheard o none = refl

unserved : (k : Kept) → is_still k ≡ true → is_server k ≡ false
unserved (of_server k) kind = absurd (cc kind)
unserved k kind = refl

calm_unheard : (before : Kept) (o : Object) → IsCalm before (kept_of o) → heard_in o ≡ None
calm_unheard before o (of_kind kind) = unheard o (unserved (kept_of o) kind)
calm_unheard before o (unmoved none is) = unheard o none

no_phase : (p : Plan) (object : ℕ) (k : Kept) (a : Actor) (event : Option ℕ) (s : Step) → is_still k ≡ true → lead_by_kind p object k (noting a event (deed.Phase s)) ≡ None
no_phase p object (of_server k) a event s kind = absurd (cc kind)
no_phase p object (of_machine k) a event s kind = absurd (cc kind)
no_phase p object (of_clock k) a event s kind = absurd (cc kind)
no_phase p object k a event s kind = refl

moves_none : (p : Plan) (object : ℕ) (k : Kept) (n : Noted) → is_still k ≡ true → wanted_by (unwrap_or n.event 0) n.entry.deed ≡ to_move_on → lead p object k n ≡ None
unfolding lead
moves_none p object k n kind wish = shut (touches p object n && is_proper p n) (lead_by_kind p object k n) (of_deed n.entry.deed wish)
  where
    of_deed : (d : Deed) → wanted_by (unwrap_or n.event 0) d ≡ to_move_on → lead_by_kind p object k (noting n.entry.actor n.event d) ≡ None
    of_deed (deed.Phase s) wish = no_phase p object k n.entry.actor n.event s kind
    of_deed d wish = absurd (cc wish)

-- ---- what sleeps

module _ (p : Plan) (n : Noted) (t : TaskSet) (cores : List CoreState) (before later : List Object) (quiet : is_quiet n.entry.deed ≡ true) where
  calm : (x : Touches p before later n) → IsCalm (kept_of x.old) (kept_of x.new)
  calm x = quiet_leads p x.object (kept_of x.old) (kept_of x.new) n quiet x.leads

  -- a machine, at the object that the entry touches
  stays_here : (x : Touches p before later n) (machine : ℕ) → first_machine p + machine ≡ x.object → IsCalm (kept_of x.old) (kept_of x.new) → IsHeldOn p before (Machine machine) to_move_on (first_machine p + machine)
      → IsHeldOn p later (Machine machine) to_move_on (first_machine p + machine)
  stays_here x machine at how held = record {
    before = x.new;
    found = ap (slice_get later) at ∙ ap (λ os. slice_get os x.object) x.others ∙ set_here before x.object x.old x.new x.found;
    none = λ m actor wish. none how m actor wish;
    flag = λ r event actor wish. absurd (cc wish);
  }
    where
      none : IsCalm (kept_of x.old) (kept_of x.new) → (m : Noted) → m.entry.actor ≡ Machine machine → wanted_by (unwrap_or m.event 0) m.entry.deed ≡ to_move_on → lead p (first_machine p + machine) (kept_of x.new) m ≡ None
      none (of_kind kind) m actor wish = moves_none p (first_machine p + machine) (kept_of x.new) m kind wish
      none (unmoved served is) m actor wish =
          let was : held.before ≡ x.old = same_Some _ _ (sym held.found ∙ ap (slice_get before) at ∙ x.found) in
          ap (λ k. lead p (first_machine p + machine) k m) (is ∙ ap kept_of (sym was)) ∙ held.none m actor wish

  phases_stay : (awake : List AwakeState) → IsAfter p before later n → PhasesStay p before later cores awake
  phases_stay awake (inl none) = λ i j machine c a core_is awake_is slot_is sleeps held. subst (λ os. AllHeld p os ((Machine machine, to_move_on) ∷ [])) (sym none.1) held
  phases_stay awake (inr x) = λ i j machine c a core_is awake_is slot_is sleeps held. of_place machine held (first_machine p + machine == x.object) refl
    where
      of_place : (machine : ℕ) → AllHeld p before ((Machine machine, to_move_on) ∷ []) → (b : Bool) → (first_machine p + machine == x.object) ≡ b → AllHeld p later ((Machine machine, to_move_on) ∷ [])
      of_place machine held true at = (stays_here x machine ((unsigned_Decides (first_machine p + machine) x.object).0 at) (calm x) held.0, tt)
      of_place machine held false other =
          machine_moved p before later n machine (inr x) (λ touching. false≢true (sym other ∙ (unsigned_Decides (first_machine p + machine) x.object).1 (same_Some _ _ (sym touching ∙ x.touching)))) held

  unanswered : (awake : List AwakeState) → AreAnswered p t before later n cores awake
  unanswered awake = λ x i j point c a s core_is awake_is slot_is hears is. absurd (cc (sym (calm_unheard (kept_of x.old) x.new (calm x)) ∙ is))

  pub watch_on : NowhereLaw → OthersLaw → DeafLaw → ComesLaw → SleepOnLaw → (w : Watch) → IsAfter p before later n → IsWatch p t before (touched_by p n) cores w → IsWatch p t later None cores w
  watch_on nowhere others deaf comes sleep_on w after watch =
      let awake = w.awake.items in
      record {
        awake = after_entry nowhere others p before later n cores awake awake w.seats.items watch.seated (are_same awake) (phases_stay awake after) deaf comes t (unanswered awake) watch.awake after
            (λ x on. absurd (false≢true (sym (makes_no_start n.entry.deed quiet) ∙ on)));
        waiting = calm_waiting sleep_on p t n before later cores awake (leaves_none n.entry.deed quiet) after watch.waiting;
        seated = watch.seated;
        behind = watch.behind;
        starters = watch.starters;
      }
