use Rattle.std.proofs.Common.{◌++◌, codes, ℕ, Option, sym, subst}
use Rattle.bus_semantics.specs.Common.{Step, plan_of, mode_text, phase_text, spaced}
use Rattle.trace_text.specs.Appending.{Appends}
use Rattle.trace_text.proofs.Appending.{appends_both}
use Rattle.trace_text.proofs.deeds.write_phase.Goals as goal

pub returns-in-Close-clause-text : goal.returns-in-Close-clause-text
returns-in-Close-clause-text c =
    let p = plan_of c.args.p.now in
    let text = λ (m : Option ℕ). codes " phase close " ++ mode_text c.args.v p m c.in-Close.mode in
    subst (λ (s : Step). Appends c.args.out.now c.write_mode_of.new.out (spaced (phase_text c.args.v p c.args.actor s))) (sym c.in-Close.is)
    (subst (λ (m : Option ℕ). Appends c.args.out.now c.write_mode_of.new.out (text m)) c.machine_itself.ensures (appends_both c.write_text.ensures c.write_mode_of.ensures.text))

pub returns-in-Entry-clause-text : goal.returns-in-Entry-clause-text
returns-in-Entry-clause-text c =
    subst (λ (s : Step). Appends c.args.out.now c.write_text-in-Entry.new.out (spaced (phase_text c.args.v (plan_of c.args.p.now) c.args.actor s))) (sym c.in-Entry.is) c.write_text-in-Entry.ensures
