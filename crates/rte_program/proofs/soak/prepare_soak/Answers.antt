use Rattle.std.proofs.Common.{◌≡◌, List, ℕ, subst, sym}
use Rattle.bus_semantics.specs.declared.script.Line.{Line}
use Rattle.bus_semantics.specs.Plan.{Plan}
use Rattle.description_places.specs.Rules.{Reads}
use Rattle.script_reading.specs.Reading.{IsScript}
use Rattle.soak_maker.specs.Script.{soak_lines}
use Rattle.soak_maker.specs.Soak.{soak_value}
use Rattle.rte_program.proofs.SoakSizes.{soak_few}
use Rattle.rte_program.proofs.Soaks as by
use Rattle.rte_program.proofs.soak.prepare_soak.Goals as goal

pub judge-requires : goal.judge-requires
judge-requires c =
    let reads = subst (λ (t : List ℕ). Reads t (soak_value c.args.pairs)) (sym c.as_slice.ensures.value) c.in-Ok.ensures.described in
    soak_few c.args.pairs c.as_slice.result.now c.requires.most reads

pub returns-in-Ok-clause-ready : goal.returns-in-Ok-clause-ready
returns-in-Ok-clause-ready c =
    let reads = subst (λ (t : List ℕ). Reads t (soak_value c.args.pairs)) (sym c.as_slice.ensures.value) c.in-Ok.ensures.described in
    let once = subst (λ (t : List ℕ). (p : Plan) (lines : List Line) → IsScript p t lines → lines ≡ soak_lines) (sym c.as_slice-in-Ok.ensures.value) c.in-Ok.ensures.once in
    by.soaked c.args.pairs c.as_slice.result.now c.as_slice-in-Ok.result.now reads once c.judge.result c.judge.ensures.ready

pub returns-in-Ok-clause-memory : goal.returns-in-Ok-clause-memory
returns-in-Ok-clause-memory c =
    let reads = subst (λ (t : List ℕ). Reads t (soak_value c.args.pairs)) (sym c.as_slice.ensures.value) c.in-Ok.ensures.described in
    let is = subst (λ (t : List ℕ). (p : Plan) → IsScript p t soak_lines) (sym c.as_slice-in-Ok.ensures.value) c.in-Ok.ensures.scripted in
    by.only_memory c.args.pairs c.as_slice.result.now c.as_slice-in-Ok.result.now
    (c.soaks_break_no_rule.ensures c.args.pairs c.requires.least c.requires.most c.as_slice.result.now reads) is c.judge.result c.judge.ensures.stopped
