-- The instructions of a body: those around its program, and those that it shares.
use Rattle.std.proofs.Common.{◌≡◌, ℕ, ◌+◌, List, [], ◌∷◌, ◌++◌, map, take, drop, length, Option, refl, sym, ap, ◌∙◌, arith, length-append}
use Rattle.bus_semantics.specs.Common.{map-append, length-map, Plan, Runnable, Implicit, BodyTree}
use Rattle.bus_semantics.specs.declared.plan.ServerPlan.{ServerPlan}
use Rattle.task_machine.specs.declared.instr.Instr.{Instr}
use Rattle.task_machine.specs.Instructions.{Shared, instruction_of, resolved}
use Rattle.task_generator.specs.Common.{code_of_body, fetching_code, publishing_code, returning_code, ending_code, targets_of, fixed, before_code, after_code, shared_of_body}
use Rattle.task_generator.proofs.Resolving.{fixed_is, body_is}

cut_front : (code : List Instr) (xs ys : List Shared) → map instruction_of code ≡ xs ++ ys → map instruction_of (take (length xs) code) ≡ xs
cut_front code [] ys is = refl
cut_front [] (x ∷ xs) ys is = absurd (cc)
cut_front (i ∷ code) (x ∷ xs) ys is =
    let first : instruction_of i ≡ x = cc in
    let rest : map instruction_of code ≡ xs ++ ys = cc in
    λ j. first j ∷ cut_front code xs ys rest j

cut_back : (code : List Instr) (xs ys : List Shared) → map instruction_of code ≡ xs ++ ys → map instruction_of (drop (length xs) code) ≡ ys
cut_back code [] ys is = is
cut_back [] (x ∷ xs) ys is = absurd (cc)
cut_back (i ∷ code) (x ∷ xs) ys is =
    let rest : map instruction_of code ≡ xs ++ ys = cc in
    cut_back code xs ys rest

pub whole_code : (p : Plan) (fetches publications : List Implicit) (r : Runnable) → length r.accesses ≡ length r.targets → (around instrs : List Instr) (before : ℕ) (fs ps : List ℕ) (server : Option ServerPlan) (body : BodyTree)
    → map instruction_of around ≡ map fixed (before_code p fs fetches) ++ map fixed (after_code p ps publications server) → before ≡ length (before_code p fs fetches) → map instruction_of instrs ≡ shared_of_body r.accesses 0 body
    → resolved (targets_of r) (map instruction_of (take before around ++ (instrs ++ drop before around))) ≡ before_code p fs fetches ++ (code_of_body r 0 body ++ after_code p ps publications server)
whole_code p fetches publications r whole around instrs before fs ps server body are many shared =
    let t = targets_of r in
    let xs = map fixed (before_code p fs fetches) in
    let ys = map fixed (after_code p ps publications server) in
    let n : before ≡ length xs = many ∙ sym (length-map (before_code p fs fetches) fixed) in
    let front : map instruction_of (take before around) ≡ xs = ap (λ k. map instruction_of (take k around)) n ∙ cut_front around xs ys are in
    let back : map instruction_of (drop before around) ≡ ys = ap (λ k. map instruction_of (drop k around)) n ∙ cut_back around xs ys are in
    let all : map instruction_of (take before around ++ (instrs ++ drop before around)) ≡ xs ++ (shared_of_body r.accesses 0 body ++ ys) =
    map-append instruction_of (take before around) (instrs ++ drop before around)
    ∙ ap (λ is. map instruction_of (take before around) ++ is) (map-append instruction_of instrs (drop before around))
    ∙ (λ i. front i ++ (shared i ++ back i)) in
    ap (resolved t) all
    ∙ map-append (λ (s : Shared). s t) xs (shared_of_body r.accesses 0 body ++ ys)
    ∙ ap (λ is. resolved t xs ++ is) (map-append (λ (s : Shared). s t) (shared_of_body r.accesses 0 body) ys)
    ∙ (λ i. fixed_is t (before_code p fs fetches) i ++ (body_is r whole 0 body i ++ fixed_is t (after_code p ps publications server) i))

-- how many instructions stand around a program
pub around_long : (p : Plan) (fetches publications : List Implicit) (around : List Instr) (fs ps : List ℕ) (server : Option ServerPlan)
    → map instruction_of around ≡ map fixed (before_code p fs fetches) ++ map fixed (after_code p ps publications server)
    → length around ≡ 1 + (length (fetching_code p fs fetches) + (length (publishing_code p ps publications) + (length (returning_code server) + 1)))
around_long p fetches publications around fs ps server are = omega (
  arith,
  length-map around instruction_of,
  ap length are,
  length-append (map fixed (before_code p fs fetches)) (map fixed (after_code p ps publications server)),
  length-map (before_code p fs fetches) fixed,
  length-map (after_code p ps publications server) fixed,
  length-append (publishing_code p ps publications) (returning_code server ++ ending_code),
  length-append (returning_code server) ending_code,
)
