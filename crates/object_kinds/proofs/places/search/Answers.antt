use Rattle.std.proofs.Common.{◌≤◌, ◌<◌, sym, arith, length, get_or}
use Rattle.std.proofs.lemmas.List.Sorted.{searched}
use Rattle.object_kinds.proofs.Rising.{rising_pairs, place_below, place_found, rising_below, nowhere}
use Rattle.object_kinds.proofs.places.search.Goals as goal

pub overflow_cast-result : goal.overflow_cast-result
overflow_cast-result c =
    let s = searched c.args.numbers.now c.args.number c.binary_search.result c.binary_search.ensures.position (rising_below c.args.numbers.now (rising_pairs c.args.numbers.now c.requires)) in
    let found = rw c.in-Ok.is at s in
    let within : c.in-Ok.place < length c.args.numbers.now = found.0 in
    let is = found.1 in
    let below : c.in-Ok.place ≤ get_or c.args.numbers.now c.in-Ok.place 0 = place_below c.args.numbers.now c.in-Ok.place (rising_pairs c.args.numbers.now c.requires) within in
    omega arith

pub returns-in-Ok : goal.returns-in-Ok
returns-in-Ok c =
    let s = searched c.args.numbers.now c.args.number c.binary_search.result c.binary_search.ensures.position (rising_below c.args.numbers.now (rising_pairs c.args.numbers.now c.requires)) in
    let found = rw c.in-Ok.is at s in
    sym (place_found c.args.numbers.now c.in-Ok.place c.args.number (rising_pairs c.args.numbers.now c.requires) found.0 found.1)

pub returns-in-Err : goal.returns-in-Err
returns-in-Err c =
    let s = searched c.args.numbers.now c.args.number c.binary_search.result c.binary_search.ensures.position (rising_below c.args.numbers.now (rising_pairs c.args.numbers.now c.requires)) in
    let missed = rw c.in-Err.is at s in
    sym (nowhere c.args.numbers.now c.args.number c.in-Err.field-0 missed.1 missed.2)
