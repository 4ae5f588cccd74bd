use Rattle.std.proofs.Common.{◌≡◌, ◌++◌, ◌+◌, ◌-◌, ◌^◌, min, ◌==◌, true, [], ◌∷◌, List, length, refl, sym, ap, ◌∙◌, subst, arith}
use Rattle.bus_semantics.specs.Common.{list_all, eqb-true, History, plan_of}
use Rattle.rte_text.specs.Sinks.{ToldAfter}
use Rattle.rte_text.specs.declared.sink.Put.TheVariants.{Done, Failed}
use Rattle.bus_semantics.specs.declared.entries.Stamped.{Stamped}
use Rattle.core_runtime.specs.Common.{after, IsLawfulNode}
use Rattle.script_run.specs.Sizes.{is_sized_stamped}
use Rattle.script_run.specs.Standing.{LapCloses}
use Rattle.script_run.specs.Texts.{entries_text}
use Rattle.script_run.proofs.Sessions as by
use Rattle.script_run.proofs.laps.put_pass.Goals as goal

none : (es : List Stamped) → (length es == 0) ≡ true → es ≡ []
none [] h = refl
none (e ∷ es) h = let zero : length (e ∷ es) ≡ 0 = eqb-true (length (e ∷ es)) 0 h in absurd (omega arith)

pub returns-then-is_empty-clause-carries : goal.returns-then-is_empty-clause-carries
returns-then-is_empty-clause-carries g c =
    let told = g.K.Sink.told in
    let new = c.serial_pass.new.n in
    let passed = c.serial_pass.ensures in
    let no_entry : new.entries ≡ [] = sym c.entries.ensures ∙ none c.entries.result.now (sym c.is_empty.ensures ∙ c.if-is_empty.true) in
    let lawful : (h : History) → IsLawfulNode c.args.n.now h → IsLawfulNode new h = λ h before. subst (λ xs. IsLawfulNode new (after xs h)) no_entry (passed.lawful h before) in
    rw c.came_of.ensures
    (by.idle_carries c.args.w c.args.n.now new c.put_behind.result (told c.args.out.now) (told c.put_behind.new.out) c.args.made
    passed.plan passed.mapping lawful (passed.rest no_entry)
    (subst (λ t. ToldAfter c.put_behind.result (told c.args.out.now) (told c.put_behind.new.out) (c.args.w.prefix.now ++ t)) c.idle_line.ensures c.put_behind.ensures.told))

pub returns-in-Done-clause-carries : goal.returns-in-Done-clause-carries
returns-in-Done-clause-carries g c =
    let told = g.K.Sink.told in
    let new = c.serial_pass.new.n in
    let passed = c.serial_pass.ensures in
    let same = ap length c.entries-in-Done.ensures in
    let sized = subst (λ (xs : List Stamped). list_all is_sized_stamped xs ≡ true) c.entries-2.ensures c.in-Done.ensures.sized in
    let few : c.saturating_add.result ≡ min (c.args.made + length new.entries) (2 ^ 64 - 1) = omega (arith, c.saturating_add.ensures, same) in
    by.lap_then c.args.w c.close_late.result c.args.made c.saturating_add.result c.args.n.now new new (told c.args.out.now) (told c.put_entries.new.out) (told c.close_late.new.out)
    (by.entries_carry c.args.w c.args.n.now new new.entries Done (told c.args.out.now) (told c.put_entries.new.out) (plan_of c.plan.result.now) c.args.made c.saturating_add.result
    passed.plan passed.mapping passed.within sized few passed.lawful (ap plan_of c.plan.ensures.plan)
    (subst (λ (xs : List Stamped). ToldAfter Done (told c.args.out.now) (told c.put_entries.new.out) (entries_text c.args.w (plan_of c.plan.result.now) xs)) c.entries-2.ensures c.in-Done.ensures.told))
    (c.close_late.ensures.carries new)

pub returns-in-Failed-clause-carries : goal.returns-in-Failed-clause-carries
returns-in-Failed-clause-carries g c =
    let told = g.K.Sink.told in
    let new = c.serial_pass.new.n in
    let passed = c.serial_pass.ensures in
    let sized = subst (λ (xs : List Stamped). list_all is_sized_stamped xs ≡ true) c.entries-2.ensures c.in-Failed.ensures.sized in
    by.entries_carry c.args.w c.args.n.now new new.entries Failed (told c.args.out.now) (told c.put_entries.new.out) (plan_of c.plan.result.now) c.args.made (min (c.args.made + length new.entries) (2 ^ 64 - 1))
    passed.plan passed.mapping passed.within sized refl passed.lawful (ap plan_of c.plan.ensures.plan)
    (subst (λ (xs : List Stamped). ToldAfter Failed (told c.args.out.now) (told c.put_entries.new.out) (entries_text c.args.w (plan_of c.plan.result.now) xs)) c.entries-2.ensures c.in-Failed.ensures.told)

pub returns-then-is_empty-clause-closes : goal.returns-then-is_empty-clause-closes
returns-then-is_empty-clause-closes g c =
    let told = g.K.Sink.told in
    let new = c.serial_pass.new.n in
    let no_entry : new.entries ≡ [] = sym c.entries.ensures ∙ none c.entries.result.now (sym c.is_empty.ensures ∙ c.if-is_empty.true) in
    rw c.came_of.ensures
    (by.idle_closes c.args.w new.entries c.put_behind.result (told c.args.out.now) (told c.put_behind.new.out) no_entry
    (subst (λ t. ToldAfter c.put_behind.result (told c.args.out.now) (told c.put_behind.new.out) (c.args.w.prefix.now ++ t)) c.idle_line.ensures c.put_behind.ensures.told))

pub returns-in-Done-clause-rises : goal.returns-in-Done-clause-rises
returns-in-Done-clause-rises g c =
    let some = by.some_entries c.entries.result.now (sym c.is_empty.ensures ∙ c.if-is_empty.false) in
    let same = ap length c.entries.ensures in
    let other = ap length c.entries-in-Done.ensures in
    c.close_late.ensures.rises c.args.made (λ few. omega (arith, few, some, same, other, c.saturating_add.ensures))

pub returns-in-Done-clause-closes : goal.returns-in-Done-clause-closes
returns-in-Done-clause-closes g c =
    let told = g.K.Sink.told c.close_late.new.out in
    subst (λ (es : List Stamped). LapCloses c.args.w c.close_late.result es told) c.entries.ensures
    (by.late_closes c.args.w c.close_late.result c.entries.result.now told (sym c.is_empty.ensures ∙ c.if-is_empty.false) c.close_late.ensures.closes)
