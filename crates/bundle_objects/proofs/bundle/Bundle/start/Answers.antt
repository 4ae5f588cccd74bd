use Rattle.std.proofs.Common.{◌<◌, length, subst}
use Rattle.std.specs.Prelude.{IfSome}
use Rattle.bundle_objects.proofs.bundle.Bundle.start.Goals as goal

pub act_at-requires-clause-within : goal.act_at-requires-clause-within
act_at-requires-clause-within c = subst (λ o. IfSome o (λ place. place < length c.args.self.now.kept.parts)) c.in-Some.is c.route.ensures.within
