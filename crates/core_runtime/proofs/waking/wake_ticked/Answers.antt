use Rattle.std.proofs.Common.{refl, sym, ap, subst, Some}
use Rattle.bus_semantics.specs.Common.{touched_by}
use Rattle.core_runtime.specs.Watching.{AreSeated, AreStarters, tables_of}
use Rattle.core_runtime.proofs.Areas.{calm_waiting, woken_waiting}
use Rattle.core_runtime.proofs.Ticking.{ticked, rouses_none, answers_none}
use Rattle.core_runtime.proofs.waking.wake_ticked.Goals as goal

pub returns : goal.returns
returns c = λ p t cores before is_clock after watch.
    let old = c.args.w.now.awake.items in
    let new = c.wake_starts.new.w.awake.items in
    record {
      awake = c.wake_starts.ensures.starts p ticked t cores before refl (ap (λ n. Some n) is_clock) after (rouses_none p cores old watch.behind)
          (answers_none p t before c.args.objects.now cores old) watch.seated watch.awake;
      waiting = calm_waiting c.waiters_sleep_on.ensures.touched p t ticked before c.args.objects.now cores new refl after
          (woken_waiting p t before (touched_by p ticked) cores old new c.wake_starts.ensures.woken watch.waiting);
      seated = subst (λ (v : _). AreSeated (tables_of cores) v.items) (sym c.wake_starts.ensures.seats) watch.seated;
      behind = watch.behind;
      starters = subst (λ (v : _). AreStarters p v.items) (sym c.wake_starts.ensures.starters) watch.starters;
    }
