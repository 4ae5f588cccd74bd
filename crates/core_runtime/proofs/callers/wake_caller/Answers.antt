use Rattle.std.proofs.Common.{◌≡◌, sym, ◌∙◌, ap, Some}
use Rattle.bus_semantics.specs.Common.{same_Some, slice_get_past, slice_get, plan_of, caller_of}
use Rattle.port_objects.specs.Waking.{heard_in}
use Rattle.core_runtime.specs.declared.seats.Seat.{Seat}
use Rattle.core_runtime.proofs.Called.{calls_at, inside, at_home, stands_at}
use Rattle.latches.proofs.Places.{found_at, set_here}
use Rattle.core_runtime.proofs.callers.wake_caller.Goals as goal

pub returns-in-Some-heard-clause-answered : goal.returns-in-Some-heard-clause-answered
returns-in-Some-heard-clause-answered c = λ note t cores before touching seated starters x i j point core a s core_is awake_is slot_is hears is.
    let p = plan_of c.args.p.now in
    let n = c.in-Some.number in
    let object = c.in-Some-get.object.now in
    let number : Some n ≡ Some x.object = sym c.in-Some.is ∙ touching ∙ x.touching in
    let place : n ≡ x.object = cc in
    let found = found_at c.args.objects.now n object c.in-Some-get.ensures.lookup.3.0 c.in-Some-get.ensures.lookup.1 in
    let same : x.new ≡ object = same_Some _ _ (sym (set_here before x.object x.old x.new x.found) ∙ sym (ap (slice_get c.args.objects.now) place ∙ ap (λ os. slice_get os x.object) x.others) ∙ found) in
    let heard : c.in-Some-heard.point ≡ point = same_Some _ _ (c.in-Some-heard.ensures ∙ sym (ap heard_in same) ∙ is) in
    let home = at_home p t s point hears in
    let seat : Seat = record { core = i; slot = j; place = home.place } in
    let stands = stands_at cores i j home.place home.event core s core_is slot_is home.is in
    let listed = starters.all home.event hears.key.runnable home.starts (inside p t s point hears) in
    c.rouse_caller.ensures.up hears.key.runnable home.event seat (ap (caller_of p) heard ∙ calls_at p t s point hears) listed (seated.all home.event seat stands) a awake_is

pub returns-in_default-get-clause-answered : goal.returns-in_default-get-clause-answered
returns-in_default-get-clause-answered c = λ note t cores before touching seated starters x i j point core a s core_is awake_is slot_is hears is.
    let n = c.in-Some.number in
    let number : Some n ≡ Some x.object = sym c.in-Some.is ∙ touching ∙ x.touching in
    let place : n ≡ x.object = cc in
    let none = slice_get_past c.args.objects.now n c.in_default-get.ensures.lookup.3 in
    absurd (cc (sym none ∙ ap (slice_get c.args.objects.now) place ∙ ap (λ os. slice_get os x.object) x.others ∙ set_here before x.object x.old x.new x.found))
