use Rattle.std.proofs.Common.{◌≡◌, ◌<◌, false, bytes_eq, length, get_or, ap, ◌∙◌, subst, arith, rules}
use Rattle.script_reading.proofs.Indexed.{mode_passed}
use Rattle.script_reading.proofs.environment.mode_in.Goals as goal

pub loop-at-preserved : goal.loop-at-preserved
loop-at-preserved c =
    let modes = c.args.machine.now.modes in
    let as_many : length c.items-mode-items.result.now ≡ length modes = ap length c.items-mode-items.ensures in
    let within : c.loop-at.at < length modes = omega arith in
    let is : c.mode-item.result ≡ get_or modes c.loop-at.at c.mode-item.result = subst (λ ms. c.mode-item.result ≡ get_or ms c.loop-at.at c.mode-item.result) c.items-mode-items.ensures c.mode-item.is in
    let other : bytes_eq c.mode-item.result c.args.name.now ≡ false = first_of (search rules, cc) in
    c.loop-at.invariant ∙ mode_passed modes c.args.name.now c.mode-item.result c.loop-at.at within is other
