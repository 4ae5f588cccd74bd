use Rattle.std.proofs.Common.{sym, ◌∙◌, ap, subst, ◌-◌, suc}
use Rattle.bus_semantics.specs.Common.{plan_of, wanted_of}
use Rattle.object_kinds.specs.declared.acted.Acted.TheVariants.{Done}
use Rattle.port_objects.specs.Benches.{ActedOn, IsActed, Plain}
use Rattle.port_objects.proofs.Benching.{told_by, plain_made, plain_held}
use Rattle.port_objects.proofs.Written.{benched_made, cut_behind}
use Rattle.port_objects.proofs.plain_bench.PlainBenchBench.act_into.Goals as goal

pub returns-in-Done-clause-written : goal.returns-in-Done-clause-written
returns-in-Done-clause-written c = let made = c.in-Done.ensures.made in (_, made.1)

pub returns-in-Done-clause-acted : goal.returns-in-Done-clause-acted
returns-in-Done-clause-acted c =
    let p = plan_of c.args.self.now.plan in
    let a = c.args.who.now in
    let w = wanted_of c.args.wish.now in
    let old : Plain = c.args.self.now in
    let new : Plain = c.take_stamp.new.self in
    let made = c.in-Done.ensures.made in
    let after = c.take_stamp.ensures.bench in
    subst (IsActed p c.args.object a w (told_by old) (told_by new)) (sym (benched_made _ _ _ made.1))
    (plain_made p c.args.object a w made.0 old new c.requires.room (subst (λ (b : Plain). ActedOn p c.args.object a w old.objects b.objects (Done made.0)) (sym after) made.2)
    (ap (λ (b : Plain). b.room) after ∙ ap (λ n. n - 1) c.act_behind.ensures.room) (ap (λ (b : Plain). b.next) after ∙ ap suc c.act_behind.ensures.next))

pub returns-in-NotYet-clause-written : goal.returns-in-NotYet-clause-written
returns-in-NotYet-clause-written c = let made = c.in-NotYet.ensures.made in cut_behind _ _ _ _ _ (c.len-before.ensures ∙ c.args.made.now.ok.0) made.1 c.truncate.ensures.items

pub returns-in-NotYet-clause-acted : goal.returns-in-NotYet-clause-acted
returns-in-NotYet-clause-acted c =
    let made = c.in-NotYet.ensures.made in
    plain_held (plan_of c.args.self.now.plan) c.args.object c.args.who.now (wanted_of c.args.wish.now) c.in-NotYet.shown c.args.self.now c.act_behind.new.self made.2 c.act_behind.ensures.room c.act_behind.ensures.next
