use Rattle.std.proofs.Common.{◌≡◌, ◌∙◌, ap, sym, arith, length, replicate, false}
use Rattle.std.proofs.lemmas.List.{length-replicate}
use Rattle.mode_machine.specs.Disabling.{dependencies, holds_at}
use Rattle.mode_machine.proofs.Watching.{idle_dependencies, lying, none_idle}
use Rattle.mode_machine.proofs.disabling.Disablings.new.Goals as goal

pub invariant_of-result : goal.invariant_of-result
invariant_of-result c =
    let modes = c.args.modes.items in
    let long : c.len.result ≡ length modes = omega (arith, c.len.ensures, c.args.modes.ok) in
    let none = c.in_ok-running.ensures ∙ ap (λ n. replicate n false) long in
    (sym (ap length none ∙ length-replicate (length modes) false), λ place behind. ap (λ running. holds_at (lying modes running c.args.watched) place) none ∙ none_idle modes c.args.watched place)

pub returns : goal.returns
returns c =
    let modes = c.args.modes.items in
    let long : c.len.result ≡ length modes = omega (arith, c.len.ensures, c.args.modes.ok) in
    let none = c.in_ok-running.ensures ∙ ap (λ n. replicate n false) long in
    λ i. record { events = (ap (dependencies modes) none ∙ idle_dependencies modes) i; mode = c.args.watched }
