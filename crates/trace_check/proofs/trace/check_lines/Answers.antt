use Rattle.std.proofs.Common.{◌≡◌, [], ◌++◌, length, refl, sym, ◌∙◌, subst, arith}
use Rattle.bus_semantics.specs.Common.{eqb-true, plan_of, Letters, header}
use Rattle.std.proofs.lemmas.List.{nil_from_length}
use Rattle.bus_semantics.specs.declared.plan.BusPlan.{BusPlan}
use Rattle.trace_reading.specs.Reads.{Reads}
use Rattle.trace_check.specs.Along.{plan_in}
use Rattle.trace_check.specs.Checking.{JudgesRead}
use Rattle.trace_check.specs.Lines.{Reaches}
use Rattle.trace_check.proofs.Reaching.{accepted, bad, reached_first, refused, shorter, some_left}
use Rattle.trace_check.proofs.trace.check_lines.Goals as goal

pub lines-init : goal.lines-init
lines-init c = record {
  few = omega arith;
  reached = λ trace is. reached_first c.args.version c.args.rules.now trace c.args.text.now c.in_ok-check.check c.in_ok-check.ensures is;
}

pub judge-requires-clause-can : goal.judge-requires-clause-can
judge-requires-clause-can c =
    let reached = c.lines.invariant.reached (header c.args.version ++ c.args.text.now) refl in
    (reached.session, reached.stands)

pub lines-preserved : goal.lines-preserved
lines-preserved c =
    let v = c.args.version in
    let r = c.args.rules.now in
    let first = c.first_line.result.0.now in
    let more = c.first_line.result.1.now in
    let some = some_left c.lines.left.now (sym c.is_empty.ensures ∙ c.lines-test.true) in
    let less = shorter first more c.lines.left.now c.first_line.ensures.line c.first_line.ensures.whole some in
    let reads = subst (λ (b : BusPlan). Reads v (plan_of b) first c.read_expecting-read.result) c.requires.of_plan c.read_expecting-read.ensures.reads in
    record {
      few = omega (arith, less, c.lines.invariant.few);
      reached = λ trace is.
          let reached = c.lines.invariant.reached trace is in
          let judges = subst (JudgesRead r reached.session c.read_expecting-read.result c.judge.new.self) c.in-Accepted.is (c.in_ok-judge.ensures reached.session reached.stands) in
          accepted v r trace c.lines.check c.lines.left.now c.lines.line reached first more c.first_line.ensures.whole c.read_expecting-read.result c.judge.new.self reads judges;
    }

pub returns-in-Bad : goal.returns-in-Bad
returns-in-Bad c = λ trace is.
    let v = c.args.version in
    let r = c.args.rules.now in
    let first = c.first_line.result.0.now in
    let more = c.first_line.result.1.now in
    let some = some_left c.lines.left.now (sym c.is_empty.ensures ∙ c.lines-test.true) in
    let reads = subst (λ (b : BusPlan). Reads v (plan_of b) first c.read_expecting-read.result) c.requires.of_plan c.read_expecting-read.ensures.reads in
    let reached = c.lines.invariant.reached trace is in
    let judges = subst (JudgesRead r reached.session c.read_expecting-read.result c.judge.new.self) c.in-Bad.is (c.in_ok-judge.ensures reached.session reached.stands) in
    bad v r trace c.lines.check c.lines.left.now c.lines.line reached first more c.first_line.ensures.whole
    (c.items_have_one_line.ensures (plan_in r) r.mapping.now c.requires.sound.sound) c.first_line.ensures.line some c.read_expecting-read.result c.judge.new.self reads judges

pub returns-in-Refused : goal.returns-in-Refused
returns-in-Refused c = λ trace is.
    let v = c.args.version in
    let r = c.args.rules.now in
    let first = c.first_line.result.0.now in
    let more = c.first_line.result.1.now in
    let reads = subst (λ (b : BusPlan). Reads v (plan_of b) first c.read_expecting-read.result) c.requires.of_plan c.read_expecting-read.ensures.reads in
    let reached = c.lines.invariant.reached trace is in
    let judges = subst (JudgesRead r reached.session c.read_expecting-read.result c.judge.new.self) c.in-Refused.is (c.in_ok-judge.ensures reached.session reached.stands) in
    refused v r trace c.lines.check c.lines.left.now c.lines.line reached first more c.first_line.ensures.whole c.read_expecting-read.result c.judge.new.self c.in-Refused.clause reads judges

pub returns : goal.returns
returns c = λ trace is.
    let v = c.args.version in
    let r = c.args.rules.now in
    let none : c.lines.left.now ≡ [] = nil_from_length c.lines.left.now (eqb-true (length c.lines.left.now) 0 (sym c.is_empty.ensures ∙ c.lines-test.false)) in
    c.end.ensures v trace (subst (λ (t : Letters). Reaches v r trace c.lines.check t c.lines.line) none (c.lines.invariant.reached trace is))
