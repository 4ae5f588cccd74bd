use Rattle.cross_core_table.proofs.Keeping as steps
use Rattle.cross_core_table.proofs.Seating as seats
use Rattle.cross_core_table.proofs.laws.each_step_keeps_the_rule.Goals as goal

pub returns-clause-opening : goal.returns-clause-opening
returns-clause-opening c = seats.opens

pub returns-clause-tries : goal.returns-clause-tries
returns-clause-tries c = steps.locks

pub returns-clause-stamps_on : goal.returns-clause-stamps_on
returns-clause-stamps_on c = steps.stamps_on

pub returns-clause-stamps_off : goal.returns-clause-stamps_off
returns-clause-stamps_off c = steps.stamps_off

pub returns-clause-unlocks : goal.returns-clause-unlocks
returns-clause-unlocks c = steps.unlocks

pub returns-clause-looks : goal.returns-clause-looks
returns-clause-looks c = steps.looks

pub returns-clause-splits : goal.returns-clause-splits
returns-clause-splits c = seats.splits

pub returns-clause-joins : goal.returns-clause-joins
returns-clause-joins c = seats.joins
