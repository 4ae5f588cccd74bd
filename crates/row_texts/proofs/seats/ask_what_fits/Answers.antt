use Rattle.std.proofs.Common.{Option, ℕ, sym, ◌∙◌, subst}
use Rattle.std.specs.Option.{IfSome}
use Rattle.bus_semantics.specs.Common.{IsObject, Plan, plan_of, wanted_of}
use Rattle.port_objects.specs.Benches.{IsAsked}
use Rattle.row_texts.proofs.seats.ask_what_fits.Goals as goal

pub object_of-requires : goal.object_of-requires
object_of-requires c =
    record { within = c.sound_plans_have_objects.ensures.touched (plan_of c.args.p.now) c.args.m.now c.args.who (wanted_of c.args.wish.now) c.requires.sound c.requires.fits }

pub act_once-requires-clause-asked : goal.act_once-requires-clause-asked
act_once-requires-clause-asked c =
    let p = plan_of c.args.p.now in
    let w = wanted_of c.args.wish.now in
    let touching = sym c.object_of.ensures ∙ c.in-Some.is in
    let there = subst (λ (o : Option ℕ). IfSome o (IsObject p)) touching (c.sound_plans_have_objects.ensures.touched p c.args.m.now c.args.who w c.requires.sound c.requires.fits) in
    subst (λ (q : Plan). IsAsked q c.in-Some.object c.args.who w) c.requires.plan (record { touching = touching; there = there; fits = c.requires.fits; own = c.requires.own })
