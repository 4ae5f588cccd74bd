use Rattle.std.proofs.Common.{◌≡◌, ◌<◌, ◌+◌, true, refl, sym, ap, ◌∙◌, subst, arith}
use Rattle.bus_semantics.specs.Common.{slice_get, same_Some, words_of, wish_fits, plan_of, to_receive, to_send}
use Rattle.rte_text.specs.declared.sink.Put.{Put}
use Rattle.rte_text.specs.Sinks.{SinkFaultsAfter}
use Rattle.bus_laws.specs.Common.{Env, BusPlan}
use Rattle.pair_run.specs.Common.{takes, Failed, Finished, Drains, Passed, CarryBoth}
use Rattle.signal_link.specs.declared.link_elem.LinkElem.{LinkElem}
use Rattle.signal_link.specs.Common.{AreOfWords, IsGood, Kept}
use Rattle.pair_run.proofs.Carrying.{none_done}
use Rattle.pair_run.proofs.Draining.{none_was_held, one_passed, pass_stopped, receive_failed, too_many, value_taken}
use Rattle.pair_run.proofs.Faults.{after_then, link_then, sink_then}
use Rattle.pair_run.proofs.Stood.{good_value, in_links, may_receive, may_send, stand_on, word_limits}
use Rattle.pair_run.proofs.crossing.drain.Goals as goal

pub loop-i-init : goal.loop-i-init
loop-i-init g c = record {
  plan_one = refl;
  plan_two = refl;
  empty = c.requires.way;
  kept = refl;
  never = refl;
  carries = λ k at. none_done (Passed k 0) c.args.one.now c.args.two.now (g.K.Sink.told c.args.out.now) refl;
  sink = refl;
  link = refl;
}

pub make_call-put-requires : goal.make_call-put-requires
make_call-put-requires g c =
    let k = c.link_at-elem.result in
    subst (λ (b : BusPlan). wish_fits (plan_of b) Env (to_receive k.out_elem) ≡ true) (sym c.loop-i.invariant.plan_one)
    (may_receive (plan_of c.args.one.now.plan) (plan_of c.args.two.now.plan) c.args.unframer.now c.args.number k c.requires.unframer c.link_at-elem.ensures)

pub returns-in-Failed-clause-carries : goal.returns-in-Failed-clause-carries
returns-in-Failed-clause-carries g c = λ l at.
    let told = g.K.Sink.told in
    let k = c.link_at-elem.result in
    subst (λ (m : LinkElem). CarryBoth (Drains m) Failed c.args.one.now c.make_call-put.new.n c.args.two.now c.loop-i.two (told c.args.out.now) (told c.make_call-put.new.out))
    (same_Some k l (sym c.link_at-elem.ensures ∙ at))
    (receive_failed c.lines_of_one-w.result c.lines_of_one-w.ensures k c.loop-i.i c.args.one.now c.loop-i.one c.make_call-put.new.n c.args.two.now c.loop-i.two
    (told c.args.out.now) (told c.loop-i.out) (told c.make_call-put.new.out) c.make_call-put.result.0 (c.loop-i.invariant.carries k c.link_at-elem.ensures)
    c.make_call-put.result.1 c.make_call-put.ensures.calls c.in-Failed.is)

pub returns-in_default-clause-carries : goal.returns-in_default-clause-carries
returns-in_default-clause-carries g c = λ l at.
    let told = g.K.Sink.told in
    let k = c.link_at-elem.result in
    subst (λ (m : LinkElem). CarryBoth (Drains m) Finished c.args.one.now c.make_call-put.new.n c.args.two.now c.loop-i.two (told c.args.out.now) (told c.make_call-put.new.out))
    (same_Some k l (sym c.link_at-elem.ensures ∙ at))
    (none_was_held c.lines_of_one-w.result c.lines_of_one-w.ensures k c.loop-i.i c.args.one.now c.loop-i.one c.make_call-put.new.n c.args.two.now c.loop-i.two
    (told c.args.out.now) (told c.loop-i.out) (told c.make_call-put.new.out) c.make_call-put.result.0 (c.loop-i.invariant.carries k c.link_at-elem.ensures)
    c.make_call-put.result.1 c.make_call-put.ensures.calls c.in-Done.is (sym c.held_in.ensures ∙ c.in_default.is))

pub pass-requires-clause-of_words : goal.pass-requires-clause-of_words
pass-requires-clause-of_words g c =
    subst (λ (u : Kept). AreOfWords u.links) (sym (c.loop-i.invariant.kept ∙ c.requires.unframer)) (word_limits c.args.one.now c.args.two.now c.requires.stand)

pub pass-requires-clause-good : goal.pass-requires-clause-good
pass-requires-clause-good g c =
    let told = g.K.Sink.told in
    let k = c.link_at-elem.result in
    let v = c.in-Some.value in
    let p = plan_of c.args.one.now.plan in
    let q = plan_of c.args.two.now.plan in
    let here = stand_on (Passed k c.loop-i.i) c.args.one.now c.loop-i.one c.args.two.now c.loop-i.two (told c.args.out.now) (told c.loop-i.out) c.requires.stand (c.loop-i.invariant.carries k c.link_at-elem.ensures) in
    let taken = subst (λ (b : BusPlan). takes (plan_of b) k.out_elem (words_of v) ≡ true) c.loop-i.invariant.plan_one
    (value_taken c.lines_of_one-w.result c.lines_of_one-w.ensures k c.loop-i.one c.make_call-put.new.n c.loop-i.two (told c.loop-i.out) (told c.make_call-put.new.out) c.make_call-put.result.0 c.make_call-put.result.1 v here
    c.make_call-put.ensures.calls (sym c.held_in.ensures ∙ c.in-Some.is)) in
    subst (λ (u : Kept). IsGood u.links c.args.number (words_of v)) (sym (c.loop-i.invariant.kept ∙ c.requires.unframer))
    (good_value c.args.one.now c.args.two.now c.args.number k (words_of v) c.requires.stand (in_links p q c.args.unframer.now c.args.number k c.requires.unframer c.link_at-elem.ensures) taken)

pub pass-requires-clause-sent : goal.pass-requires-clause-sent
pass-requires-clause-sent g c = λ l at.
    let told = g.K.Sink.told in
    let k = c.link_at-elem.result in
    let v = c.in-Some.value in
    let p = plan_of c.args.one.now.plan in
    let q = plan_of c.args.two.now.plan in
    let here = stand_on (Passed k c.loop-i.i) c.args.one.now c.loop-i.one c.args.two.now c.loop-i.two (told c.args.out.now) (told c.loop-i.out) c.requires.stand (c.loop-i.invariant.carries k c.link_at-elem.ensures) in
    let taken = subst (λ (b : BusPlan). takes (plan_of b) k.out_elem (words_of v) ≡ true) c.loop-i.invariant.plan_one
    (value_taken c.lines_of_one-w.result c.lines_of_one-w.ensures k c.loop-i.one c.make_call-put.new.n c.loop-i.two (told c.loop-i.out) (told c.make_call-put.new.out) c.make_call-put.result.0 c.make_call-put.result.1 v here
    c.make_call-put.ensures.calls (sym c.held_in.ensures ∙ c.in-Some.is)) in
    let there = sym (ap (λ (u : Kept). slice_get u.links c.args.number) c.loop-i.invariant.kept) ∙ at in
    let same = same_Some k l (sym c.link_at-elem.ensures ∙ there) in
    subst (λ (b : BusPlan). wish_fits (plan_of b) Env (to_send l.in_elem (words_of v)) ≡ true) (sym c.loop-i.invariant.plan_two)
    (may_send p q c.args.number l (words_of v) (in_links p q c.args.unframer.now c.args.number l c.requires.unframer there)
    (subst (λ (m : LinkElem). takes p m.out_elem (words_of v) ≡ true) same taken))

pub returns-in_default-pass : goal.returns-in_default-pass
returns-in_default-pass g c =
    let told = g.K.Sink.told in
    let faults = g.K.Sink.faults in
    let k = c.link_at-elem.result in
    let so_far = c.loop-i.invariant in
    let called = subst (λ (r : Put). SinkFaultsAfter r (faults c.loop-i.out) (faults c.make_call-put.new.out)) c.in-Done.is c.make_call-put.ensures.faults in
    let there = ap (λ (u : Kept). slice_get u.links c.args.number) so_far.kept ∙ c.link_at-elem.ensures in
    record {
      plan_one = c.make_call-put.ensures.plan ∙ so_far.plan_one;
      plan_two = c.pass.ensures.plan ∙ so_far.plan_two;
      after = after_then c.pass.result (g.L.Link.way c.pass.new.way) c.args.unframer.now c.loop-i.unframer c.pass.new.unframer so_far.kept c.pass.ensures.after;
      sound_link = λ never. c.pass.ensures.sound_link (so_far.never ∙ never);
      never_fails = c.pass.ensures.never_fails ∙ so_far.never;
      carries = λ l at.
          subst (λ (m : LinkElem). CarryBoth (Drains m) c.pass.result c.args.one.now c.make_call-put.new.n c.args.two.now c.pass.new.two (told c.args.out.now) (told c.pass.new.out))
          (same_Some k l (sym c.link_at-elem.ensures ∙ at))
          (pass_stopped c.lines_of_one-w.result c.lines_of_one-w.ensures k c.loop-i.i c.args.one.now c.loop-i.one c.make_call-put.new.n c.args.two.now c.loop-i.two
          (told c.args.out.now) (told c.loop-i.out) (told c.make_call-put.new.out) c.make_call-put.result.0 (so_far.carries k c.link_at-elem.ensures)
          c.make_call-put.result.1 c.make_call-put.ensures.calls c.in-Done.is c.in-Some.value (sym c.held_in.ensures ∙ c.in-Some.is) c.pass.new.two (told c.pass.new.out)
          c.pass.result c.in_default-pass.not-Finished (c.pass.ensures.carries k c.make_call-put.new.n there));
      sink = sink_then c.pass.result (faults c.args.out.now) (faults c.make_call-put.new.out) (faults c.pass.new.out) (called ∙ so_far.sink) c.pass.ensures.sink;
      link = link_then c.pass.result (g.L.Link.faults c.args.way.now) (g.L.Link.faults c.loop-i.way) (g.L.Link.faults c.pass.new.way) so_far.link c.pass.ensures.link;
    }

pub loop-i-preserved : goal.loop-i-preserved
loop-i-preserved g c =
    let told = g.K.Sink.told in
    let faults = g.K.Sink.faults in
    let k = c.link_at-elem.result in
    let so_far = c.loop-i.invariant in
    let done = c.in-Finished.ensures in
    let called = subst (λ (r : Put). SinkFaultsAfter r (faults c.loop-i.out) (faults c.make_call-put.new.out)) c.in-Done.is c.make_call-put.ensures.faults in
    let there = ap (λ (u : Kept). slice_get u.links c.args.number) so_far.kept ∙ c.link_at-elem.ensures in
    record {
      plan_one = c.make_call-put.ensures.plan ∙ so_far.plan_one;
      plan_two = done.plan ∙ so_far.plan_two;
      empty = done.after.0;
      kept = done.after.1 ∙ so_far.kept;
      never = done.never_fails ∙ so_far.never;
      carries = λ l at.
          subst (λ (m : LinkElem). CarryBoth (Passed m (c.loop-i.i + 1)) Finished c.args.one.now c.make_call-put.new.n c.args.two.now c.pass.new.two (told c.args.out.now) (told c.pass.new.out))
          (same_Some k l (sym c.link_at-elem.ensures ∙ at))
          (one_passed c.lines_of_one-w.result c.lines_of_one-w.ensures k c.loop-i.i c.args.one.now c.loop-i.one c.make_call-put.new.n c.args.two.now c.loop-i.two
          (told c.args.out.now) (told c.loop-i.out) (told c.make_call-put.new.out) c.make_call-put.result.0 (so_far.carries k c.link_at-elem.ensures)
          c.make_call-put.result.1 c.make_call-put.ensures.calls c.in-Done.is c.in-Some.value (sym c.held_in.ensures ∙ c.in-Some.is) c.pass.new.two (told c.pass.new.out)
          (done.carries k c.make_call-put.new.n there));
      sink = done.sink ∙ called ∙ so_far.sink;
      link = done.link ∙ so_far.link;
    }

pub returns-clause-carries : goal.returns-clause-carries
returns-clause-carries g c = λ l at.
    let told = g.K.Sink.told in
    let many : 1024 < c.loop-i.i = omega (arith, c.loop-i-test.false) in
    too_many l c.loop-i.i c.args.one.now c.loop-i.one c.args.two.now c.loop-i.two (told c.args.out.now) (told c.loop-i.out) many (c.loop-i.invariant.carries l at)
