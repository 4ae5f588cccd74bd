use Rattle.std.proofs.Common.{sym, ◌∙◌, arith}
use Rattle.std.proofs.lemmas.Option.{same_Some}
use Rattle.live_lanes.proofs.Working.{popped, same_pump}
use Rattle.live_lanes.proofs.beside.take_caller.Goals as goal

pub returns : goal.returns
returns c = λ lanes k is.
    let at = popped lanes k c.args.workers.now.items c.pop.new.self.items c.args.workers.now.len c.pop.result is (omega arith) c.pop.ensures.value c.pop.ensures.rest in
    (same_pump c.in-Some-Pump.caller k (sym c.in-Some-Pump.field-0-is ∙ same_Some _ _ (sym c.in-Some-Pump.is ∙ at.0)), at.1)
