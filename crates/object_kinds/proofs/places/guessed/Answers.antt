use Rattle.std.proofs.Common.{◌≡◌, ◌<◌, ◌∙◌, Some, length, get_or, sym, ap, arith}
use Rattle.bus_semantics.specs.Common.{slice_get-get_or, get_or_from_slice_get, nat_tests}
use Rattle.object_kinds.proofs.Rising.{rising_pairs, place_found}
use Rattle.object_kinds.proofs.places.guessed.Goals as goal

pub returns-then-found-number : goal.returns-then-found-number
returns-then-found-number c =
    let number = c.args.number in
    let numbers = c.args.numbers.now in
    let place = c.in_ok-place.place in
    let found = c.in-Some.found.now in
    let within : place < length numbers = c.in-Some.ensures.lookup.3.0 in
    let read : found ≡ get_or numbers place found = c.in-Some.ensures.lookup.1 in
    let same : found ≡ number = grind (arith, nat_tests) in
    let is : get_or numbers place 0 ≡ number = get_or_from_slice_get numbers place found 0 (slice_get-get_or numbers place found within ∙ ap (λ x. Some x) (sym read)) ∙ same in
    place_found numbers place number (rising_pairs numbers c.requires) within is
