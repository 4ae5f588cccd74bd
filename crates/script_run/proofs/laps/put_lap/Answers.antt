use Rattle.std.proofs.Common.{◌≡◌, ◌+◌, ◌-◌, ◌^◌, min, [], length, ap, subst, arith}
use Rattle.script_run.specs.declared.script.ScriptRun.TheVariants.{Finished}
use Rattle.script_run.specs.Standing.{Carries, inside}
use Rattle.script_run.proofs.Sessions as by
use Rattle.script_run.proofs.laps.put_lap.Goals as goal

pub returns-in-Finished-clause-carries : goal.returns-in-Finished-clause-carries
returns-in-Finished-clause-carries g c =
    let told = g.K.Sink.told in
    let made = c.args.made in
    let mid = c.put_round.new.n in
    let same = ap length c.entries.ensures in
    let count : min (made + length mid.entries) (2 ^ 64 - 1) ≡ c.saturating_add.result = omega (arith, c.saturating_add.ensures, same) in
    by.lap_then c.args.w c.put_pass.result made c.saturating_add.result c.args.n.now mid c.put_pass.new.n (told c.args.out.now) (told c.put_round.new.out) (told c.put_pass.new.out)
    (subst (λ n. Carries c.args.w Finished [] (inside made) (inside n) c.args.n.now mid (told c.args.out.now) (told c.put_round.new.out)) count (c.in-Finished.ensures.carries made))
    c.put_pass.ensures.carries

pub returns-in-Failed-clause-carries : goal.returns-in-Failed-clause-carries
returns-in-Failed-clause-carries g c = c.in-Failed.ensures.carries c.args.made

pub returns-in-Memory-clause-carries : goal.returns-in-Memory-clause-carries
returns-in-Memory-clause-carries g c = c.in-Memory.ensures.carries c.args.made
