use Rattle.std.proofs.Common.{refl, sym, ◌∙◌, subst}
use Rattle.bus_semantics.specs.Common.{plan_of, Noted, touched_by}
use Rattle.core_runtime.specs.Watching.{AreSeated, AreStarters, AreWaiting, tables_of}
use Rattle.core_runtime.proofs.Areas.{watched_even, woken_even, woken_waiting}
use Rattle.core_runtime.proofs.Behind.{roused_still, watched_still}
use Rattle.core_runtime.proofs.Wakes.{are_then, there_still}
use Rattle.core_runtime.proofs.Watched.{seats_there}
use Rattle.core_runtime.proofs.waking.wake_after.Goals as goal

pub returns-then-is_quiet : goal.returns-then-is_quiet
returns-then-is_quiet c = λ t cores before after watch.
    let note : Noted = record { entry = c.args.entry.now; event = c.args.event } in
    c.quiet_entries_wake_nobody.ensures (plan_of c.args.p.now) note t cores before c.args.objects.now c.args.w.now (sym c.if-is_quiet.ensures) after watch

pub wake_machine-requires : goal.wake_machine-requires
wake_machine-requires c = let r = c.requires.watched in record { even = watched_even (plan_of c.args.p.now) r.0 r.2 r.1 c.args.w.now.awake.items r.3 }

pub wake_caller-requires : goal.wake_caller-requires
wake_caller-requires c =
    let r = c.requires.watched in
    record { there = λ e s at. there_still c.args.w.now.awake.items c.wake_machine.new.awake.items s c.wake_machine.ensures.woken (seats_there (plan_of c.args.p.now) r.0 r.2 r.1 c.args.w.now.awake.items c.args.w.now.seats.items r.3 r.4 e s at) }

pub wake_starts-requires : goal.wake_starts-requires
wake_starts-requires c =
    let r = c.requires.watched in
    let woken = are_then c.args.w.now.awake.items c.wake_machine.new.awake.items c.wake_caller.new.w.awake.items c.wake_machine.ensures.woken c.wake_caller.ensures.woken in
    let watched = watched_still (plan_of c.args.p.now) r.0 r.2 r.1 c.args.w.now.awake.items c.wake_caller.new.w.awake.items woken r.3 in
    record { there = seats_there (plan_of c.args.p.now) r.0 r.2 r.1 c.wake_caller.new.w.awake.items c.wake_caller.new.w.seats.items watched (subst (λ (v : _). AreSeated (tables_of r.1) v.items) (sym c.wake_caller.ensures.seats) r.4) }

pub wake_waiting-requires : goal.wake_waiting-requires
wake_waiting-requires c =
    let r = c.requires.watched in
    let first = are_then c.args.w.now.awake.items c.wake_machine.new.awake.items c.wake_caller.new.w.awake.items c.wake_machine.ensures.woken c.wake_caller.ensures.woken in
    let woken = are_then c.args.w.now.awake.items c.wake_caller.new.w.awake.items c.wake_starts.new.w.awake.items first c.wake_starts.ensures.woken in
    record { even = woken_even (plan_of c.args.p.now) r.0 r.2 r.1 c.args.w.now.awake.items c.wake_starts.new.w.awake.items r.3 woken }

pub rest_started-requires : goal.rest_started-requires
rest_started-requires c =
    let r = c.requires.watched in
    let p = plan_of c.args.p.now in
    let first = are_then c.args.w.now.awake.items c.wake_machine.new.awake.items c.wake_caller.new.w.awake.items c.wake_machine.ensures.woken c.wake_caller.ensures.woken in
    let woken = are_then c.args.w.now.awake.items c.wake_caller.new.w.awake.items c.wake_starts.new.w.awake.items first c.wake_starts.ensures.woken in
    let watched = c.wake_waiting.ensures.starts p r.0 r.2 r.1 (watched_still p r.0 r.2 r.1 c.args.w.now.awake.items c.wake_starts.new.w.awake.items woken r.3) in
    record { there = seats_there p r.0 r.2 r.1 c.wake_waiting.new.awake.items c.wake_starts.new.w.seats.items watched (subst (λ (v : _). AreSeated (tables_of r.1) v.items) (sym (c.wake_starts.ensures.seats ∙ c.wake_caller.ensures.seats)) r.4) }

pub returns : goal.returns
returns c = λ t cores before after watch.
    let p = plan_of c.args.p.now in
    let note : Noted = record { entry = c.args.entry.now; event = c.args.event } in
    let old = c.args.w.now.awake.items in
    let mid = c.wake_machine.new.awake.items in
    let next = c.wake_caller.new.w.awake.items in
    let touching = c.touched_object-touched.ensures in
    let first = are_then old mid next c.wake_machine.ensures.woken c.wake_caller.ensures.woken in
    let roused = roused_still p note cores mid next c.wake_caller.ensures.woken (c.wake_machine.ensures.roused note t before cores touching watch.behind watch.awake) in
    let answered = c.wake_caller.ensures.answered note t cores before touching watch.seated watch.starters in
    let watched = watched_still p t before cores old next first watch.awake in
    let woken = are_then old next c.wake_starts.new.w.awake.items first c.wake_starts.ensures.woken in
    let seated = subst (λ (v : _). AreSeated (tables_of cores) v.items) (sym c.wake_caller.ensures.seats) watch.seated in
    c.rest_started.ensures p note t cores refl touching (record {
      awake = c.wake_waiting.ensures.starts p t c.args.objects.now cores (c.wake_starts.ensures.starts p note t cores before refl touching after roused answered seated watched);
      waiting = c.wake_waiting.ensures.waiting p note t cores before c.args.objects.now refl touching after (subst (λ o. AreWaiting p t before o cores c.wake_starts.new.w.awake.items) (sym touching) (woken_waiting p t before (touched_by p note) cores old c.wake_starts.new.w.awake.items woken watch.waiting));
      seated = subst (λ (v : _). AreSeated (tables_of cores) v.items) (sym c.wake_starts.ensures.seats) seated;
      behind = watch.behind;
      starters = subst (λ (v : _). AreStarters p v.items) (sym (c.wake_starts.ensures.starters ∙ c.wake_caller.ensures.starters)) watch.starters;
    })
