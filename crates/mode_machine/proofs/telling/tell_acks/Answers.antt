use Rattle.std.proofs.Common.{◌<◌, ◌≤◌, ◌∙◌, ℕ, ap, arith, length, get_or, false, not}
use Rattle.std.proofs.lemmas.Option.{slice_get-get_or}
use Rattle.mode_machine.proofs.Told.{all_told, only_next, tells_next}
use Rattle.mode_machine.proofs.telling.tell_acks.Goals as goal

pub loop-at-preserved : goal.loop-at-preserved
loop-at-preserved c =
    let names = c.args.names.now in
    let at = c.loop-at.at in
    let x = get_or names at 0 in
    let before = c.loop-at.invariant in
    let told = c.tell_if.ensures in
    let within : at < length names = omega (arith, c.loop-at-test.true, c.requires.named) in
    let there = slice_get-get_or names at 0 within in
    let test = λ (k : ℕ). not (get_or c.args.acks.now k false) in
    record {
      told = tells_next names test at x c.loop-at.told.items c.tell_if.new.told.items there (told.told) told.kept before.told;
      kept = λ name first. told.kept name (before.kept name first);
      only = only_next names test at x c.args.told.now.items c.loop-at.told.items c.tell_if.new.told.items there told.only before.only;
      room = omega (arith, told.room, before.room);
      capacity = told.capacity ∙ before.capacity;
    }

pub returns-clause-told : goal.returns-clause-told
returns-clause-told c =
    let names = c.args.names.now in
    let past : length names ≤ c.loop-at.at = omega (arith, c.loop-at-test.false, c.requires.named) in
    λ at name off named. all_told names (λ (k : ℕ). not (get_or c.args.acks.now k false)) c.loop-at.at c.loop-at.told.items past c.loop-at.invariant.told at name (ap not off) named
