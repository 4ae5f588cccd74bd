use Rattle.std.proofs.Common.{◌≡◌, ◌+◌, ◌++◌, ℕ, List, [], Option, Some, None, length, take, sym, ap, ◌∙◌, subst}
use Rattle.std.proofs.lemmas.List.{take_all}
use Rattle.std.specs.Option.{option_map}
use Rattle.signal_link.specs.Common.{Part, Whole, More, BadFrame, IsFed, IsPart, begun_of, kept_of}
use Rattle.signal_link.proofs.Beginnings.{kept_is_cut}
use Rattle.signal_link.proofs.Feeds.{fed_as, fed_bad, fed_more, fed_whole, kept_as, next_byte, some_of}
use Rattle.signal_link.proofs.unframer.feed_begun.Goals as goal

pub returns-in-BadFrame : goal.returns-in-BadFrame
returns-in-BadFrame c =
    let k = some_of (begun_of c.args.part.now) c.requires.begun in
    let begun = c.loop-at.invariant.begun ∙ ap (λ (o : Option (List ℕ)). option_map (λ (ks : List ℕ). ks ++ take c.loop-at.at c.args.piece.now) o) k.1 in
    let found = c.in-BadFrame.ensures (k.0 ++ take c.loop-at.at c.args.piece.now) begun in
    let cut = kept_is_cut c.args.links.now c.loop-at.part (k.0 ++ take c.loop-at.at c.args.piece.now) c.requires.links c.loop-at.invariant.part begun in
    let fed = fed_bad c.args.links.now k.0 c.args.piece.now c.loop-at.at c.loop-at-test.true cut found.0 in
    record {
      fed =
          subst (λ (p : Part). IsFed (kept_of c.args.links.now c.args.part.now) (fed_as c.args.piece.now (length c.args.piece.now) BadFrame) (kept_of c.args.links.now p)) (sym found.1)
          (subst (λ (o : Option (List ℕ)). IsFed (kept_as c.args.links.now o) (fed_as c.args.piece.now (length c.args.piece.now) BadFrame) (kept_as c.args.links.now None)) (sym k.1) fed);
      part = subst (λ (p : Part). IsPart c.args.links.now p) (sym found.1) tt;
    }

pub returns-in-Whole : goal.returns-in-Whole
returns-in-Whole c =
    let k = some_of (begun_of c.args.part.now) c.requires.begun in
    let begun = c.loop-at.invariant.begun ∙ ap (λ (o : Option (List ℕ)). option_map (λ (ks : List ℕ). ks ++ take c.loop-at.at c.args.piece.now) o) k.1 in
    let found = c.in-Whole.ensures (k.0 ++ take c.loop-at.at c.args.piece.now) begun in
    let fed = fed_whole c.args.links.now k.0 c.args.piece.now c.loop-at.at c.in-Whole.link c.in-Whole.value c.loop-at-test.true found.0 found.1 in
    record {
      fed =
          subst (λ (p : Part). IsFed (kept_of c.args.links.now c.args.part.now) (fed_as c.args.piece.now (c.loop-at.at + 1) (Whole c.in-Whole.link c.in-Whole.value)) (kept_of c.args.links.now p)) (sym found.2)
          (subst (λ (o : Option (List ℕ)). IsFed (kept_as c.args.links.now o) (fed_as c.args.piece.now (c.loop-at.at + 1) (Whole c.in-Whole.link c.in-Whole.value)) (kept_as c.args.links.now (Some []))) (sym k.1) fed);
      part = subst (λ (p : Part). IsPart c.args.links.now p) (sym found.2) tt;
    }

pub loop-at-preserved : goal.loop-at-preserved
loop-at-preserved c =
    let k = some_of (begun_of c.args.part.now) c.requires.begun in
    let begun = c.loop-at.invariant.begun ∙ ap (λ (o : Option (List ℕ)). option_map (λ (ks : List ℕ). ks ++ take c.loop-at.at c.args.piece.now) o) k.1 in
    let found = c.in-More.ensures (k.0 ++ take c.loop-at.at c.args.piece.now) begun in
    record {
      part = found.0;
      begun =
          found.1
          ∙ ap (λ (l : List ℕ). Some l) (next_byte k.0 c.args.piece.now c.loop-at.at c.loop-at-test.true)
          ∙ sym (ap (λ (o : Option (List ℕ)). option_map (λ (ks : List ℕ). ks ++ take (c.loop-at.at + 1) c.args.piece.now) o) k.1);
    }

pub returns : goal.returns
returns c =
    let k = some_of (begun_of c.args.part.now) c.requires.begun in
    let all : take c.loop-at.at c.args.piece.now ≡ c.args.piece.now = take_all c.loop-at.at c.args.piece.now c.loop-at-test.false in
    let begun : begun_of c.loop-at.part ≡ Some (k.0 ++ c.args.piece.now) =
    c.loop-at.invariant.begun
    ∙ ap (λ (o : Option (List ℕ)). option_map (λ (ks : List ℕ). ks ++ take c.loop-at.at c.args.piece.now) o) k.1
    ∙ ap (λ (l : List ℕ). Some (k.0 ++ l)) all in
    let cut = kept_is_cut c.args.links.now c.loop-at.part (k.0 ++ c.args.piece.now) c.requires.links c.loop-at.invariant.part begun in
    let fed = fed_more c.args.links.now k.0 c.args.piece.now cut in
    record {
      fed =
          subst (λ (o : Option (List ℕ)). IsFed (kept_of c.args.links.now c.args.part.now) (fed_as c.args.piece.now (length c.args.piece.now) More) (kept_as c.args.links.now o)) (sym begun)
          (subst (λ (o : Option (List ℕ)). IsFed (kept_as c.args.links.now o) (fed_as c.args.piece.now (length c.args.piece.now) More) (kept_as c.args.links.now (Some (k.0 ++ c.args.piece.now)))) (sym k.1) fed);
      part = c.loop-at.invariant.part;
    }
