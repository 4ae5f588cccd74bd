use Rattle.std.proofs.Common.{◌∙◌, inr, subst}
use Rattle.description_types.specs.Connectors.{IsFirstBroken}
use Rattle.composition_flatten.proofs.flattening.check_connectors.Goals as goal

pub returns-in_ok-place-in-Some-clause-refused : goal.returns-in_ok-place-in-Some-clause-refused
returns-in_ok-place-in-Some-clause-refused c = inr (inr (
  c.refusal_at.ensures.rule,
  c.requires.nesting,
  c.requires.limits,
  (c.in-Some.found, subst (IsFirstBroken c.args.d.now) c.in-Some.is c.in_ok-found.ensures, c.refusal_at.ensures.place ∙ c.in_ok-place-in-Some.ensures),
))
