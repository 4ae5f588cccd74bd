use Rattle.std.proofs.Common.{◌≡◌, true, false, refl, subst, rules}
use Rattle.bus_semantics.specs.Run.{history_of, idle}
use Rattle.trace_check.specs.Along.{Idles, plan_in}
use Rattle.trace_check.proofs.Judging.{along, closed, closes_outside, holds_not}
use Rattle.trace_check.proofs.Making.{legal_history}
use Rattle.trace_check.proofs.check.Check.judge_idle.Goals as goal

pub returns-then-not-self : goal.returns-then-not-self
returns-then-not-self c = λ s stands.
    let outside : c.args.self.now.inside ≡ false = search rules in
    closes_outside c.args.rules.now s c.args.self.now stands idle outside

pub is_idle-requires-clause-along : goal.is_idle-requires-clause-along
is_idle-requires-clause-along c = along c.args.rules.now c.requires.can.0 c.args.self.now c.requires.can.1

pub returns-then-not-is_idle : goal.returns-then-not-is_idle
returns-then-not-is_idle c = λ s stands.
    let r = c.args.rules.now in
    let told : c.is_idle.result ≡ false = search rules in
    let idles = c.is_idle.ensures (history_of s) (legal_history (plan_in r) r.mapping.now s stands.legal) stands.state in
    holds_not r s c.args.self.now stands idle (subst (Idles r.tasks.now (plan_in r) r.mapping.now (history_of s) c.is_idle.new.self) told idles)

pub returns : goal.returns
returns c = λ s stands.
    let r = c.args.rules.now in
    let told : c.is_idle.result ≡ true = search rules in
    let within : c.args.self.now.inside ≡ true = search rules in
    let idles = c.is_idle.ensures (history_of s) (legal_history (plan_in r) r.mapping.now s stands.legal) stands.state in
    let both = subst (Idles r.tasks.now (plan_in r) r.mapping.now (history_of s) c.is_idle.new.self) told idles in
    closed r s c.args.self.now stands idle _ both.0 both.1 within refl refl refl
