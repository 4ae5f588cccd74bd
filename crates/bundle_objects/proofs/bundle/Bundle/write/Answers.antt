use Rattle.std.proofs.Common.{◌<◌, length, sym, ap, subst}
use Rattle.std.specs.Prelude.{IfSome}
use Rattle.bundle_objects.specs.Kept.{Kept}
use Rattle.bundle_objects.proofs.bundle.Bundle.write.Goals as goal

pub store_at-requires-clause-within : goal.store_at-requires-clause-within
store_at-requires-clause-within c =
    subst (λ (k : Kept). c.in-Some.place < length k.parts) (sym c.forget.ensures.kept) (subst (λ o. IfSome o (λ place. place < length c.args.self.now.kept.parts)) c.in-Some.is c.place_of.ensures.within)
