use Rattle.std.proofs.Common.{◌≡◌, [], ◌++◌, refl, sym, ◌∙◌, subst, length}
use Rattle.bus_semantics.specs.Common.{eqb-true, header}
use Rattle.std.proofs.lemmas.List.{nil_from_length}
use Rattle.std.proofs.lemmas.Option.{MatchOption-at_some}
use Rattle.trace_check.specs.Along.{plan_in}
use Rattle.trace_check.proofs.Reaching.{ends_whole, reached_first}
use Rattle.trace_check.proofs.AtOnce.{IsAt, less_left, next_at}
use Rattle.trace_check.proofs.quick.is_legal_at_once.Goals as goal

pub lines-init : goal.lines-init
lines-init c = λ trace is. record { line = 2; reached = reached_first c.args.rules.now.version c.args.rules.now trace c.args.text.now c.in_ok-check.check c.in_ok-check.ensures is }

pub take_line-requires-clause-can : goal.take_line-requires-clause-can
take_line-requires-clause-can c =
    let at = c.lines.invariant (header c.args.rules.now.version ++ c.args.text.now) refl in
    (at.reached.session, at.reached.stands)

pub lines-preserved : goal.lines-preserved
lines-preserved c = λ trace is.
    let at = c.lines.invariant trace is in
    next_at c.args.rules.now trace c.lines.check c.lines.left.now c.in-Some.more.now at c.take_line.new.check (MatchOption-at_some _ _ c.in-Some.more c.in-Some.is (c.in_ok-more.ensures at.reached.session at.reached.stands))

pub lines-smaller : goal.lines-smaller
lines-smaller c =
    let r = c.args.rules.now in
    let at = c.lines.invariant (header r.version ++ c.args.text.now) refl in
    less_left r at.reached.session c.lines.left.now c.in-Some.more.now c.take_line.new.check (c.items_have_one_line.ensures (plan_in r) r.mapping.now c.requires.sound.sound)
    (MatchOption-at_some _ _ c.in-Some.more c.in-Some.is (c.in_ok-more.ensures at.reached.session at.reached.stands))

pub returns : goal.returns
returns c = λ trace legal is.
    let r = c.args.rules.now in
    let none : c.lines.left.now ≡ [] = nil_from_length c.lines.left.now (eqb-true (length c.lines.left.now) 0 (sym c.is_empty.ensures ∙ c.lines-test.false)) in
    let at = subst (IsAt r trace c.lines.check) none (c.lines.invariant trace is) in
    ends_whole r.version r trace c.lines.check at.line at.reached ((c.is_whole.ensures at.reached.session at.reached.stands).0 legal)
