use Rattle.std.proofs.Common.{◌≡◌, ◌≤◌, ◌+◌, suc, ◌∙◌, ap, length, set, true, false, arith}
use Rattle.mode_machine.proofs.Each.{all_done, all_true, next_done, so_far}
use Rattle.mode_machine.proofs.machine.set_all.Goals as goal

pub loop-flag-preserved : goal.loop-flag-preserved
loop-flag-preserved c =
    let flags = c.args.flags.now in
    let at = c.loop-flag.flag-index in
    let next : suc at ≡ at + 1 = omega arith in
    ap (λ xs. set xs at true) c.loop-flag.invariant ∙ next_done (λ _. true) at flags false (omega (arith, c.loop-flag-test.true)) ∙ ap (λ n. so_far (λ _. true) n flags) next

pub returns : goal.returns
returns c =
    let flags = c.args.flags.now in
    let at = c.loop-flag.flag-index in
    let past : length flags ≤ at = omega (arith, c.loop-flag-test.false) in
    c.loop-flag.invariant ∙ all_done (λ _. true) at flags past ∙ all_true flags
