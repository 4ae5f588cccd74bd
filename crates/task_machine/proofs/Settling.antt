-- The instruction at a place of a body, and one that asks nothing with the rest.
use Rattle.std.proofs.Common.{◌≡◌, ℕ, zero, suc, ◌-◌, ◌<◌, List, ◌++◌, Option, Some, None, map, take, drop, refl, sym, ap, ◌∙◌, arith}
use Rattle.std.specs.Prelude.{slice_get}
use Rattle.bus_semantics.specs.Common.{arc_value, option_map, slice_get-map}
use Rattle.task_machine.specs.declared.instr.Body.{Body}
use Rattle.task_machine.specs.declared.instr.Instr.{Instr}
use Rattle.task_machine.specs.declared.instr.Targets.{Targets}
use Rattle.task_machine.specs.Store.{Store}
use Rattle.task_machine.specs.Instructions.{Instruction, Shared, instruction_of, resolved}
use Rattle.task_machine.specs.Machine.{Spot, Rest, silently, settled}
use Rattle.task_machine.specs.Spots.{code_in}

-- the instruction at a place, if there is one
pub resolved_at : (t : Targets) (code : List Instr) (i : ℕ) (o : Option Instr) → slice_get code i ≡ o → slice_get (resolved t (map instruction_of code)) i ≡ option_map (λ (x : Instr). instruction_of x t) o
resolved_at t code i None at = slice_get-map (λ (s : Shared). s t) (map instruction_of code) i ∙ ap (option_map (λ (s : Shared). s t)) (slice_get-map instruction_of code i ∙ ap (option_map instruction_of) at)
resolved_at t code i (Some x) at = slice_get-map (λ (s : Shared). s t) (map instruction_of code) i ∙ ap (option_map (λ (s : Shared). s t)) (slice_get-map instruction_of code i ∙ ap (option_map instruction_of) at)

pub found_in : (b : Body) (around program : List Instr) (i : ℕ) (o : Option Instr) → around ≡ b.around → program ≡ (arc_value b.code).instrs
    → o ≡ slice_get (take b.before around ++ (program ++ drop b.before around)) i → slice_get (code_in b) i ≡ option_map (λ (x : Instr). instruction_of x b.targets) o
found_in b around program i o same shared is =
    resolved_at b.targets (take b.before b.around ++ ((arc_value b.code).instrs ++ drop b.before b.around)) i o
    (sym (is ∙ (λ j. slice_get (take b.before (same j) ++ (shared j ++ drop b.before (same j))) i)))

-- what was found there
pub found_there : (t : Targets) (o : Option Instr) (x : Instr) (found : Option Instruction) → found ≡ option_map (λ (y : Instr). instruction_of y t) o → o ≡ Some x → found ≡ Some (instruction_of x t)
found_there t o x found is some = is ∙ ap (option_map (λ (y : Instr). instruction_of y t)) some

pub none_there : (t : Targets) (o : Option Instr) (found : Option Instruction) → found ≡ option_map (λ (y : Instr). instruction_of y t) o → o ≡ None → found ≡ None
none_there t o found is none = is ∙ ap (option_map (λ (y : Instr). instruction_of y t)) none

-- at a call it stays where it is
pub stays : (code : List Instruction) (left place : ℕ) (m : Store) (cs : List ℕ) (i : Instruction) → 0 < left → slice_get code place ≡ Some i
    → ((rest : Rest) (here : Spot) → silently (Some i) rest place m cs here ≡ here) → settled code left place m cs ≡ record { left = left; place = place; store = m; counters = cs }
stays code zero place m cs i some at waits = absurd (omega arith)
stays code (suc n) place m cs i some at waits =
    let here : Spot = record { left = suc n; place = place; store = m; counters = cs } in
    ap (λ o. silently o (settled code n) place m cs here) at ∙ waits (settled code n) here

-- and behind the last instruction
pub ends : (code : List Instruction) (left place : ℕ) (m : Store) (cs : List ℕ) → slice_get code place ≡ None → settled code left place m cs ≡ record { left = left; place = place; store = m; counters = cs }
ends code zero place m cs none = refl
ends code (suc n) place m cs none =
    let here : Spot = record { left = suc n; place = place; store = m; counters = cs } in
    ap (λ o. silently o (settled code n) place m cs here) none

pub settles : (code : List Instruction) (left place place' : ℕ) (m m' : Store) (cs cs' : List ℕ) (i : Instruction) → 0 < left → slice_get code place ≡ Some i
    → ((rest : Rest) (here : Spot) → silently (Some i) rest place m cs here ≡ rest place' m' cs')
    → settled code (left - 1) place' m' cs' ≡ settled code left place m cs
settles code zero place place' m m' cs cs' i some at step = absurd (omega arith)
settles code (suc n) place place' m m' cs cs' i some at step =
    let here : Spot = record { left = suc n; place = place; store = m; counters = cs } in
    let less : suc n - 1 ≡ n = omega arith in
    rw less (sym (ap (λ o. silently o (settled code n) place m cs here) at ∙ step (settled code n) here))
