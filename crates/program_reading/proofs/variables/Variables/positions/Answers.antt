use Rattle.std.proofs.Common.{◌<◌, length, arith}
use Rattle.program_reading.proofs.Added.{name_copied}
use Rattle.program_reading.proofs.Counted.{few_taken}
use Rattle.program_reading.proofs.variables.Variables.positions.Goals as goal

pub loop-number-preserved : goal.loop-number-preserved
loop-number-preserved c =
    let within : c.loop-number.number < length c.args.self.now = omega arith in
    name_copied c.args.self.now c.loop-number.number c.loop-number.names.items c.push.new.self.items c.name.result within c.loop-number.invariant c.name.ensures c.in_ok-push.ensures.items

pub of-requires : goal.of-requires
of-requires c = few_taken c.args.self.now c.loop-number.number c.loop-number.names.items c.loop-number.invariant c.requires
