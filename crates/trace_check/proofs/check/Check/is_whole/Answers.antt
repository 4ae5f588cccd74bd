use Rattle.std.proofs.Common.{◌≡◌, false, rules}
use Rattle.trace_check.proofs.Judging.{whole, whole_over}
use Rattle.trace_check.proofs.check.Check.is_whole.Goals as goal

pub returns-then-not-self : goal.returns-then-not-self
returns-then-not-self c = λ s stands.
    let r = c.args.rules.now in
    let outside : c.args.self.now.inside ≡ false = search rules in (
      λ over. whole r s c.args.self.now stands outside (c.is_over.ensures.0 over),
      λ session. c.is_over.ensures.1 (whole_over r s c.args.self.now stands session),
    )
