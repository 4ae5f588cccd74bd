use Rattle.std.proofs.Common.{◌∙◌, ◌<◌, ◌≤◌, sym, subst, length, get_or}
use Rattle.std.proofs.lemmas.Option.{slice_get-get_or}
use Rattle.description_types.specs.declared.description.Connector.TheVariants.{Assembly}
use Rattle.description_types.specs.declared.description.Connector.{Connector}
use Rattle.description_types.specs.Connectors.{IsBrokenConnector, connectors_of}
use Rattle.composition_flatten.proofs.Broken.{broken_here, unbroken_here, noted_more}
use Rattle.composition_tables.proofs.FirstOnes.{none_all}
use Rattle.composition_flatten.proofs.wiring.first_broken_in.Goals as goal
use borrow.Author.Count.{below_more}

some : Connector
some = Assembly (record { prototype = 0; port = 0 }) (record { prototype = 0; port = 0 })

pub returns-then-is_broken : goal.returns-then-is_broken
unfolding some
returns-then-is_broken c =
    let cs = c.connectors_of-connectors.result.now in
    let m = c.loop-number.number in (
      subst (λ l. m < length l) c.connectors_of-connectors.ensures c.loop-number-test.true,
      broken_here c.args.d.now c.args.composition cs c.connectors_of-connectors.ensures m (get_or cs m some) (slice_get-get_or cs m some c.loop-number-test.true)
          c.loop-number.noted.keys c.loop-number.invariant.noted c.key_of.result c.key_of.ensures c.in_ok-is_repeated.is_repeated c.in_ok-is_repeated.ensures.answer (sym c.is_broken.ensures ∙ c.if-is_broken.true),
      c.loop-number.invariant.unbroken,
    )

pub loop-number-preserved : goal.loop-number-preserved
unfolding some
loop-number-preserved c =
    let cs = c.connectors_of-connectors.result.now in
    let m = c.loop-number.number in
    record {
      noted = noted_more c.args.d.now c.args.composition cs c.connectors_of-connectors.ensures m (get_or cs m some) (slice_get-get_or cs m some c.loop-number-test.true)
          c.loop-number.noted.keys c.loop-number.invariant.noted c.key_of.result c.key_of.ensures c.in_ok-is_repeated.is_repeated c.in_ok-is_repeated.ensures.answer c.was_noted.new.noted.keys c.in_ok-is_repeated.ensures.noted c.loop-number-test.true;
      unbroken = below_more (λ n. ¬ IsBrokenConnector c.args.d.now c.args.composition n) m c.loop-number.invariant.unbroken
          (unbroken_here c.args.d.now c.args.composition cs c.connectors_of-connectors.ensures m (get_or cs m some) (slice_get-get_or cs m some c.loop-number-test.true)
          c.loop-number.noted.keys c.loop-number.invariant.noted c.key_of.result c.key_of.ensures c.in_ok-is_repeated.is_repeated c.in_ok-is_repeated.ensures.answer (sym c.is_broken.ensures ∙ c.if-is_broken.false));
    }

pub returns : goal.returns
returns c = none_all (IsBrokenConnector c.args.d.now c.args.composition) c.loop-number.number (length (connectors_of c.args.d.now c.args.composition)) c.loop-number.invariant.unbroken
    (subst (λ l. length l ≤ c.loop-number.number) c.connectors_of-connectors.ensures c.loop-number-test.false)
