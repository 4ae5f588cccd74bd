use Rattle.std.proofs.Common.{◌≡◌, ◌==◌, true, false, refl, sym, ◌∙◌, rules}
use Rattle.bus_semantics.specs.Common.{and_parts, unsettled}
use Rattle.trace_check.specs.Checking.{most_made}
use Rattle.trace_check.proofs.Judging.{closed, settled, unsettled_then}
use Rattle.trace_check.proofs.check.Check.judge_unsettled.Goals as goal

pub returns-then-not-is_unsettled : goal.returns-then-not-is_unsettled
returns-then-not-is_unsettled c = λ s stands.
    let told : c.is_unsettled.result ≡ false = search rules in
    settled c.args.rules.now s c.args.self.now stands (sym c.is_unsettled.ensures ∙ told)

pub returns : goal.returns
returns c = λ s stands.
    let r = c.args.rules.now in
    let old = c.args.self.now in
    let told : c.is_unsettled.result ≡ true = search rules in
    let both = and_parts old.inside (old.made == most_made) (sym c.is_unsettled.ensures ∙ told) in
    closed r s old stands unsettled _ (unsettled_then r s old stands both.1) stands.state both.0 refl refl refl
