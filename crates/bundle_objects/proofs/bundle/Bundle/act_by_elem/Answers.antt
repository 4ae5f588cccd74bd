use Rattle.std.proofs.Common.{◌≡◌, ◌<◌, length, sym, ◌∙◌, ap, subst, Some}
use Rattle.std.specs.Prelude.{IfSome}
use Rattle.bus_semantics.specs.Common.{slice_get, plan_of, wanted_of}
use Rattle.bundle_objects.proofs.Acting.{seen_at}
use Rattle.bundle_objects.proofs.bundle.Bundle.act_by_elem.Goals as goal

pub act_at-requires-clause-within : goal.act_at-requires-clause-within
act_at-requires-clause-within c = subst (λ o. IfSome o (λ place. place < length c.args.self.now.kept.parts)) c.in-Some.is c.place_of.ensures.within

pub act_at-requires-clause-planned : goal.act_at-requires-clause-planned
act_at-requires-clause-planned c = λ group part found seen.
    let p = plan_of c.args.p.now in
    let at = sym c.place_of.ensures.place ∙ c.in-Some.is in
    c.requires.planned c.in-Some.place group part (seen_at p c.args.self.now.kept c.args.elem c.in-Some.place group (wanted_of c.args.wish.now) c.requires.wish at seen) found
