use Rattle.std.proofs.Common.{◌≡◌, true, false, sym, ◌∙◌, rules}
use Rattle.std.proofs.lemmas.Bool.{false≢true}
use Rattle.trace_check.proofs.Reaching.{ends_early, ends_whole}
use Rattle.trace_check.proofs.trace.end.Goals as goal

pub returns-then-is_whole : goal.returns-then-is_whole
returns-then-is_whole c = λ v trace reached.
    let told : c.is_whole.result ≡ true = search rules in
    ends_whole v c.args.rules.now trace c.args.check.now c.args.line reached ((c.is_whole.ensures reached.session reached.stands).0 told)

pub returns-else-is_whole : goal.returns-else-is_whole
returns-else-is_whole c = λ v trace reached.
    let told : c.is_whole.result ≡ false = search rules in
    ends_early v c.args.rules.now trace c.args.check.now c.args.line reached (λ whole. false≢true (sym told ∙ (c.is_whole.ensures reached.session reached.stands).1 whole))
