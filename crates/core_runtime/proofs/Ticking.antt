-- A tick of the clock: what it does not wake, and that the environment's entry of a wish for one is a tick.
use Rattle.std.proofs.Common.{◌≡◌, ℕ, ◌+◌, ◌<◌, Bool, true, false, ◌&&◌, if◌then◌else◌, refl, sym, ◌∙◌, ap, arith, List, length, map, get_or, set, Some, None}
use Rattle.std.proofs.lemmas.List.{set-get_or}
use Rattle.bus_semantics.specs.Common.{slice_get, option_map, length-map, same_Some, slice_get_within, slice_get-map, Plan, Noted, clock, first_machine, touches, is_proper, to_tick, wanted_by}
use Rattle.bus_semantics.specs.declared.entries.Actor.TheVariants.{Env}
use Rattle.bus_semantics.specs.declared.entries.Deed.{Deed}
use Rattle.bus_semantics.specs.declared.entries.Deed.TheVariants as deed
use Rattle.bus_semantics.specs.declared.entries.Entry.{Entry}
use Rattle.port_objects.specs.declared.object.Object.{Object}
use Rattle.port_objects.specs.declared.object.Object.TheVariants.{Unqueued, Bundle, Queued, Server, Area, Machine, Clock}
use Rattle.port_objects.specs.Common.{heard_in, kept_of, lead, lead_by_kind, tick_of_env}
use Rattle.task_machine.specs.declared.instr.TaskSet.{TaskSet}
use Rattle.task_slots.specs.declared.slot.Slot.TheVariants as kind
use Rattle.task_slots.specs.Slots.{of_machine, table_of}
use Rattle.core_turn.specs.Cores.{CoreState}
use Rattle.core_turn.specs.Awake.{AwakeState}
use Rattle.core_runtime.specs.Watching.{owners_of, AreBehind, AreRoused, AreAnswered}

-- the entry, noted
abbrev pub ticked : Noted
ticked = record { entry = tick_of_env; event = None }

-- an object that has not changed is put back
pub put_back : (objects : List Object) (number : ℕ) (old new : Object) → new ≡ old → old ≡ get_or objects number old → set objects number new ≡ objects
put_back objects number old new same is = ap (set objects number) (same ∙ is) ∙ set-get_or objects number old

-- ---- machines

-- the clock is the object of no machine that has a slot
pub rouses_none : (p : Plan) (cores : List CoreState) (awake : List AwakeState) → AreBehind p (owners_of cores) → AreRoused p ticked cores awake
rouses_none p cores awake behind = λ i j machine c x core_is awake_is slot_is touching.
    let core_at : slice_get (owners_of cores) i ≡ Some (map table_of c.slots) = slice_get-map (λ (k : CoreState). map table_of k.slots) cores i ∙ ap (option_map (λ (k : CoreState). map table_of k.slots)) core_is in
    let slot_at : slice_get (map table_of c.slots) j ≡ Some (of_machine machine) = slice_get-map table_of c.slots j ∙ ap (option_map table_of) slot_is in
    let place = behind i j machine (map table_of c.slots) core_at slot_at in
    let same : clock p ≡ first_machine p + machine = same_Some _ _ touching in
    let within : j < length c.slots = slice_get_within c.slots j (kind.Machine machine) slot_is in
    let count : length (map table_of c.slots) ≡ length c.slots = length-map c.slots table_of in
    absurd (omega (arith, place.1, same, within, count))

-- ---- callers

-- a tick returns to no caller
unheard : (p : Plan) (object : ℕ) (old new : Object) → lead_by_kind p object (kept_of old) ticked ≡ Some (kept_of new) → heard_in new ≡ None
unheard p object (Unqueued g) (Server s) e = absurd (cc e)
unheard p object (Bundle b) (Server s) e = absurd (cc e)
unheard p object (Queued g) (Server s) e = absurd (cc e)
unheard p object (Server o) (Server s) e = absurd (cc e)
unheard p object (Area a) (Server s) e = absurd (cc e)
unheard p object (Machine m) (Server s) e = absurd (cc e)
unheard p object (Clock t) (Server s) e = absurd (cc e)
unheard p object old (Unqueued g) e = refl
unheard p object old (Bundle b) e = refl
unheard p object old (Queued g) e = refl
unheard p object old (Area a) e = refl
unheard p object old (Machine m) e = refl
unheard p object old (Clock t) e = refl

hears_none : (p : Plan) (object : ℕ) (old new : Object) → lead p object (kept_of old) ticked ≡ Some (kept_of new) → heard_in new ≡ None
unfolding lead
hears_none p object old new = by_test (touches p object ticked && is_proper p ticked)
  where
    by_test : (b : Bool) → (if b then lead_by_kind p object (kept_of old) ticked else None) ≡ Some (kept_of new) → heard_in new ≡ None
    by_test true e = unheard p object old new e
    by_test false e = absurd (cc e)

pub answers_none : (p : Plan) (t : TaskSet) (before later : List Object) (cores : List CoreState) (awake : List AwakeState) → AreAnswered p t before later ticked cores awake
answers_none p t before later cores awake = λ x i j point c a s core_is awake_is slot_is hears is.
    absurd (cc (sym (hears_none p x.object x.old x.new x.leads) ∙ is))

-- ---- the entry

ticks_only : (d : Deed) → wanted_by 0 d ≡ to_tick → d ≡ deed.Tick
ticks_only deed.Tick e = refl
ticks_only (deed.Start event point value) e = absurd (cc e)
ticks_only (deed.Admit admitted) e = absurd (cc e)
ticks_only (deed.Fetch x value) e = absurd (cc e)
ticks_only (deed.Write x value) e = absurd (cc e)
ticks_only (deed.Read x code value) e = absurd (cc e)
ticks_only (deed.Invalidate x) e = absurd (cc e)
ticks_only (deed.IsUpdated x updated) e = absurd (cc e)
ticks_only (deed.Send x value code) e = absurd (cc e)
ticks_only (deed.Receive x code value) e = absurd (cc e)
ticks_only (deed.Ask q value code) e = absurd (cc e)
ticks_only (deed.Answer q code value) e = absurd (cc e)
ticks_only (deed.TakeResult q code value) e = absurd (cc e)
ticks_only (deed.Return code value) e = absurd (cc e)
ticks_only (deed.Enter x) e = absurd (cc e)
ticks_only (deed.Leave x) e = absurd (cc e)
ticks_only (deed.Switch m mode code) e = absurd (cc e)
ticks_only (deed.Mode port mode) e = absurd (cc e)
ticks_only (deed.Phase s) e = absurd (cc e)
ticks_only (deed.Publish x value) e = absurd (cc e)
ticks_only (deed.FetchAll l value) e = absurd (cc e)
ticks_only (deed.PublishAll l written value) e = absurd (cc e)
ticks_only deed.End e = absurd (cc e)

pub is_tick : (e : Entry) → e.actor ≡ Env → wanted_by 0 e.deed ≡ to_tick → e ≡ tick_of_env
is_tick e actor wish = λ i. record { actor = actor i; deed = ticks_only e.deed wish i }
