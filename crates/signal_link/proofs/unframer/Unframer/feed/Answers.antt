use Rattle.std.proofs.Common.{◌++◌, List, take, sym, subst}
use Rattle.signal_link.specs.Common.{LinkElem, begun_of, kept_of, Kept, StandsFor, given}
use Rattle.signal_link.specs.Feeding.{feed_of}
use Rattle.signal_link.proofs.Streams.{fed_stands}
use Rattle.signal_link.proofs.unframer.Unframer.feed.Goals as goal

pub returns-clause-stands : goal.returns-clause-stands
returns-clause-stands c = λ bytes pairs stands.
    let links = c.as_slice-links.result.now in
    let inside = subst (λ (u : Kept). StandsFor u bytes pairs) (sym c.self.view_is) stands in
    let lent = subst (λ (ls : List LinkElem). StandsFor (record { links = ls; begun = begun_of c.self.inside.part }) bytes pairs) (sym c.as_slice-links.ensures.value) inside in
    let after = fed_stands (kept_of c.as_slice-links.result.now c.self.inside.part) (feed_of c.args.piece.now c.feed_part.result)
    (kept_of c.as_slice-links.result.now c.feed_part.new.part) bytes pairs c.feed_part.ensures.fed lent in
    subst (λ (ls : List LinkElem). StandsFor (record { links = ls; begun = begun_of c.feed_part.new.part })
    (bytes ++ take c.feed_part.result.used c.args.piece.now) (pairs ++ given c.feed_part.result.found)) c.as_slice-links.ensures.value after
