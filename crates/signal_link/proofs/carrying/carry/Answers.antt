use Rattle.std.proofs.Common.{ℕ, List, take, refl, sym, ◌∙◌, subst}
use Rattle.std.proofs.lemmas.List.{take_rest}
use Rattle.rte_value.specs.Values.{words_of}
use Rattle.signal_link.proofs.Sending.{IsUnderWay, goes_on, is_carried, is_never_bad}
use Rattle.signal_link.proofs.carrying.carry.Goals as goal

pub turns-preserved : goal.turns-preserved
turns-preserved g c =
    let way = g.L.Link.way in
    record {
      under_way =
          subst (λ (l : List ℕ). IsUnderWay c.args.unframer.now.links c.args.link (words_of c.args.value.now) c.feed.new.self (way c.receive.new.self) l)
          (sym (take_rest c.turns.unsent.now c.in-Took.taken))
          (goes_on c.args.unframer.now.links c.args.link (words_of c.args.value.now) c.turns.unframer (way c.turns.way) (way c.send.new.self) (way c.receive.new.self)
          c.turns.unsent.now c.in-Took.taken c.in-Gave.given c.turns.room c.receive.new.room (take c.in-Gave.given c.receive.new.room)
          c.turns.invariant.under_way c.requires.good c.in-Took.ensures.way c.in-Gave.ensures.way refl
          c.feed.result.found c.feed.new.self c.feed.ensures.found c.in-More.is c.feed.ensures.kept);
      faults = c.in-Gave.ensures.faults ∙ c.in-Took.ensures.faults ∙ c.turns.invariant.faults;
      never = c.in-Gave.ensures.never_fails ∙ c.in-Took.ensures.never_fails ∙ c.turns.invariant.never;
    }

pub returns-in-Whole-clause-carried : goal.returns-in-Whole-clause-carried
returns-in-Whole-clause-carried g c =
    let way = g.L.Link.way in
    is_carried c.args.unframer.now.links c.args.link (words_of c.args.value.now) c.turns.unframer (way c.turns.way) (way c.send.new.self) (way c.receive.new.self)
    c.turns.unsent.now c.in-Took.taken c.in-Gave.given c.turns.room c.receive.new.room (take c.in-Gave.given c.receive.new.room)
    c.turns.invariant.under_way c.requires.good c.in-Took.ensures.way c.in-Gave.ensures.way refl
    c.feed.result.found c.feed.new.self c.args.unframer.now c.in-Whole.link c.in-Whole.value c.requires.of_words c.requires.nothing_kept
    c.feed.ensures.found c.in-Whole.is c.feed.ensures.kept

pub returns-in-BadFrame-clause-faults : goal.returns-in-BadFrame-clause-faults
returns-in-BadFrame-clause-faults g c =
    let way = g.L.Link.way in
    absurd (is_never_bad c.args.unframer.now.links c.args.link (words_of c.args.value.now) c.turns.unframer (way c.turns.way) (way c.send.new.self) (way c.receive.new.self)
    c.turns.unsent.now c.in-Took.taken c.in-Gave.given c.turns.room c.receive.new.room (take c.in-Gave.given c.receive.new.room)
    c.turns.invariant.under_way c.requires.good c.in-Took.ensures.way c.in-Gave.ensures.way refl
    c.feed.result.found c.feed.ensures.found c.in-BadFrame.is)

pub returns-in-BadFrame-clause-may_fail : goal.returns-in-BadFrame-clause-may_fail
returns-in-BadFrame-clause-may_fail g c =
    let way = g.L.Link.way in
    absurd (is_never_bad c.args.unframer.now.links c.args.link (words_of c.args.value.now) c.turns.unframer (way c.turns.way) (way c.send.new.self) (way c.receive.new.self)
    c.turns.unsent.now c.in-Took.taken c.in-Gave.given c.turns.room c.receive.new.room (take c.in-Gave.given c.receive.new.room)
    c.turns.invariant.under_way c.requires.good c.in-Took.ensures.way c.in-Gave.ensures.way refl
    c.feed.result.found c.feed.ensures.found c.in-BadFrame.is)
