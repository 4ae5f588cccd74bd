use Rattle.std.proofs.Common.{◌≡◌, ◌+◌, ◌-◌, ◌^◌, min, true, [], List, length, refl, ap, subst}
use Rattle.bus_semantics.specs.Common.{list_all, plan_of}
use Rattle.rte_text.specs.Sinks.{ToldAfter}
use Rattle.bus_semantics.specs.declared.entries.Stamped.{Stamped}
use Rattle.script_run.specs.declared.script.ScriptRun.TheVariants.{Memory}
use Rattle.script_run.specs.Sizes.{is_sized_stamped}
use Rattle.script_run.specs.Standing.{inside}
use Rattle.script_run.specs.Texts.{entries_text}
use Rattle.script_run.proofs.Sessions as by
use Rattle.script_run.proofs.laps.put_round.Goals as goal

pub returns-in-Ran-clause-carries : goal.returns-in-Ran-clause-carries
returns-in-Ran-clause-carries g c = λ made.
    let told = g.K.Sink.told in
    let ran = c.in-Ran.ensures in
    let es = c.run_round.new.n.entries in
    let put = subst (λ (xs : List Stamped). ToldAfter c.put_entries.result (told c.args.out.now) (told c.put_entries.new.out) (entries_text c.args.w (plan_of c.plan.result.now) xs)) c.entries.ensures c.put_entries.ensures.told in
    let sized = subst (λ (xs : List Stamped). list_all is_sized_stamped xs ≡ true) c.entries.ensures c.put_entries.ensures.sized in
    rw c.came_of.ensures
    (by.entries_carry c.args.w c.args.n.now c.run_round.new.n es c.put_entries.result (told c.args.out.now) (told c.put_entries.new.out) (plan_of c.plan.result.now) made (min (made + length es) (2 ^ 64 - 1))
    ran.plan ran.mapping (ran.within refl) sized refl (ran.lawful refl) (ap plan_of c.plan.ensures.plan) put)

pub returns-in-Memory-clause-carries : goal.returns-in-Memory-clause-carries
returns-in-Memory-clause-carries g c = λ made.
    by.stops c.args.w Memory [] (inside made) (inside (min (made + length c.run_round.new.n.entries) (2 ^ 64 - 1))) c.args.n.now c.run_round.new.n (g.K.Sink.told c.args.out.now) (λ e. cc)
