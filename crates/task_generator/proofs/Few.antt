-- What a program costs bounds the instructions that it executes, those that it has, and its loops.
use Rattle.std.proofs.Common.{◌≡◌, ◌≤◌, ◌<◌, ℕ, zero, suc, ◌+◌, ◌*◌, Bool, true, false, if◌then◌else◌, refl, sym, subst, List, [], ◌∷◌, length, get_or, arith, length-append}
use Rattle.std.specs.Prelude.{◌||◌, ◌==◌}
use Rattle.std.proofs.lemmas.Nat.{mul-le}
use Rattle.bus_semantics.specs.Common.{true≢false, AccessSig, Stmt, ExprTree, stmt_tree, body_tree, StmtTree, chooses, repeats, in_area, BodyTree, done, next, stmt_cost, body_cost, Runnable}
use Rattle.bus_semantics.specs.Common.{to_leave, access}
use Rattle.runnable_lang.specs.declared.program.AccessKind.TheVariants as kind
use Rattle.task_machine.specs.declared.instr.Taken.TheVariants as taken
use Rattle.task_machine.specs.Targets.{number_at}
use Rattle.task_machine.specs.Instructions.{Instruction, Shared, skip, end_loop}
use Rattle.task_generator.specs.Common.{does_nothing, do_nothing, numbered, calling_code, looping_code, code_of, code_of_body, fixed, calling_shared, looping_shared, shared_of}
use Rattle.task_generator.specs.Common.{shared_of_body, steps, steps_of_body, loops, loops_of_body}

-- ---- a loop that does something has a turn and a body

pub some_turns : (turns : ℕ) → (turns == 0) ≡ false → 1 ≤ turns
some_turns zero some = absurd (true≢false some)
some_turns (suc n) some = omega arith

-- ---- the instructions that are executed

loop_steps : (n s c : ℕ) (z b : Bool) → (b ≡ false → s + 1 ≤ 3 * c) → (if z || b then 0 else 1 + n * (s + 1)) + 1 ≤ 3 * (1 + n * c)
loop_steps n s c true b some = omega arith
loop_steps n s c false true some = omega arith
loop_steps n s c false false some =
    let turns : n * (s + 1) ≤ n * (3 * c) = mul-le n (s + 1) n (3 * c) (omega arith) (some refl) in
    omega arith

mutual
  pub stmt_steps : (st : StmtTree) → steps st + 1 ≤ 3 * stmt_cost st
  stmt_steps (chooses c first second) = let a = body_steps first in let b = body_steps second in omega arith
  stmt_steps (repeats turns body) = loop_steps turns (steps_of_body body) (body_cost body) (turns == 0) (do_nothing body) (λ some. some_steps body some)
  stmt_steps (in_area x body) = let a = body_steps body in omega arith
  stmt_steps st = omega arith

  pub body_steps : (body : BodyTree) → steps_of_body body ≤ 3 * body_cost body
  body_steps done = omega arith
  body_steps (next st body) = let a = stmt_steps st in let b = body_steps body in omega arith

  some_steps : (body : BodyTree) → do_nothing body ≡ false → steps_of_body body + 1 ≤ 3 * body_cost body
  some_steps done some = absurd (true≢false some)
  some_steps (next st body) some = let a = stmt_steps st in let b = body_steps body in omega arith

-- ---- the instructions that stand there

loop_code : (d n s : ℕ) (code : List Shared) (z b : Bool) → (z ≡ false → 1 ≤ n) → length code ≤ s
    → length (if z || b then [] else looping_shared d n code) ≤ (if z || b then 0 else 1 + n * (s + 1))
loop_code d n s code true b some short = omega arith
loop_code d n s code false true some short = omega arith
loop_code d n s code false false some short =
    let turns : 1 * (s + 1) ≤ n * (s + 1) = mul-le 1 (s + 1) n (s + 1) (some refl) (omega arith) in
    omega (arith, length-append code (fixed (end_loop d (length code)) ∷ []))

module _ (s : List AccessSig) where
  mutual
    pub stmt_code : (d : ℕ) (st : StmtTree) → length (shared_of s d st) ≤ steps st
    stmt_code d (chooses c first second) =
        let x = shared_of_body s d first in
        let y = shared_of_body s d second in
        let a = body_code d first in
        let b = body_code d second in
        omega (arith, length-append x (fixed (skip (length y)) ∷ y))
    stmt_code d (repeats turns body) = loop_code d turns (steps_of_body body) (shared_of_body s (d + 1) body) (turns == 0) (do_nothing body) (some_turns turns) (body_code (d + 1) body)
    stmt_code d (in_area x body) =
        let y = shared_of_body s d body in
        let a = body_code d body in
        omega (arith, length-append y (calling_shared (λ t m. to_leave (number_at t (numbered s kind.Enter 0 x).target)) taken.Nothing))
    stmt_code d st = omega arith

    pub body_code : (d : ℕ) (body : BodyTree) → length (shared_of_body s d body) ≤ steps_of_body body
    body_code d done = omega arith
    body_code d (next st body) =
        let a = stmt_code d st in
        let b = body_code d body in
        omega (arith, length-append (shared_of s d st) (shared_of_body s d body))

-- a program has as many instructions in an instance as instances share

long_loop : (d n : ℕ) (x : List Shared) (y : List Instruction) (b : Bool) → length x ≡ length y → length (if b then [] else looping_shared d n x) ≡ length (if b then [] else looping_code d n y)
long_loop d n x y true same = refl
long_loop d n x y false same = omega (arith, same, length-append x (fixed (end_loop d (length x)) ∷ []), length-append y (end_loop d (length y) ∷ []))

module _ (s : List AccessSig) (r : Runnable) where
  mutual
    as_long : (d : ℕ) (st : StmtTree) → length (shared_of s d st) ≡ length (code_of r d st)
    as_long d (chooses c first second) =
        let x = shared_of_body s d first in
        let y = shared_of_body s d second in
        let v = code_of_body r d first in
        let w = code_of_body r d second in
        omega (arith, bodies_as_long d first, bodies_as_long d second, length-append x (fixed (skip (length y)) ∷ y), length-append v (skip (length w) ∷ w))
    as_long d (repeats turns body) = long_loop d turns (shared_of_body s (d + 1) body) (code_of_body r (d + 1) body) (does_nothing (repeats turns body)) (bodies_as_long (d + 1) body)
    as_long d (in_area x body) =
        omega (
          arith,
          bodies_as_long d body,
          length-append (shared_of_body s d body) (calling_shared (λ t m. to_leave (number_at t (numbered s kind.Enter 0 x).target)) taken.Nothing),
          length-append (code_of_body r d body) (calling_code (λ m. to_leave (access r kind.Enter 0 x).target) taken.Nothing),
        )
    as_long d st = refl

    bodies_as_long : (d : ℕ) (body : BodyTree) → length (shared_of_body s d body) ≡ length (code_of_body r d body)
    bodies_as_long d done = refl
    bodies_as_long d (next st body) = omega (arith, as_long d st, bodies_as_long d body, length-append (shared_of s d st) (shared_of_body s d body), length-append (code_of r d st) (code_of_body r d body))

pub instance_code : (r : Runnable) (d : ℕ) (body : BodyTree) → length (code_of_body r d body) ≤ steps_of_body body
instance_code r d body = omega (arith, bodies_as_long r.accesses r d body, body_code r.accesses d body)

-- ---- loops within one another

loop_loops : (n l c : ℕ) (z b : Bool) → (z ≡ false → 1 ≤ n) → l ≤ c → (if z || b then 0 else 1 + l) ≤ 1 + n * c
loop_loops n l c true b some less = omega arith
loop_loops n l c false true some less = omega arith
loop_loops n l c false false some less =
    let turns : 1 * c ≤ n * c = mul-le 1 c n c (some refl) (omega arith) in
    omega arith

mutual
  pub stmt_loops : (st : StmtTree) → loops st ≤ stmt_cost st
  stmt_loops (chooses c first second) = let a = body_loops first in let b = body_loops second in omega arith
  stmt_loops (repeats turns body) = loop_loops turns (loops_of_body body) (body_cost body) (turns == 0) (do_nothing body) (some_turns turns) (body_loops body)
  stmt_loops (in_area x body) = let a = body_loops body in omega arith
  stmt_loops st = omega arith

  pub body_loops : (body : BodyTree) → loops_of_body body ≤ body_cost body
  body_loops done = omega arith
  body_loops (next st body) = let a = stmt_loops st in let b = body_loops body in omega arith

-- ---- a part of a program costs no more than the whole

-- a statement of a body
part_cost : (body : List Stmt) (i : ℕ) (d : Stmt) → i < length body → stmt_cost (stmt_tree (get_or body i d)) ≤ body_cost (body_tree body)
part_cost [] i d below = absurd (omega arith)
part_cost (s ∷ body) zero d below = omega arith
part_cost (s ∷ body) (suc i) d below = let rest = part_cost body i d (omega arith) in omega arith

part_loops : (body : List Stmt) (i : ℕ) (d : Stmt) → i < length body → loops (stmt_tree (get_or body i d)) ≤ loops_of_body (body_tree body)
part_loops [] i d below = absurd (omega arith)
part_loops (s ∷ body) zero d below = omega arith
part_loops (s ∷ body) (suc i) d below = let rest = part_loops body i d (omega arith) in omega arith

pub cheap_part : (body : List Stmt) (i : ℕ) (x : Stmt) → x ≡ get_or body i x → i < length body → body_cost (body_tree body) ≤ 100000 → stmt_cost (stmt_tree x) ≤ 100000
cheap_part body i x is below cost = subst (λ y. stmt_cost (stmt_tree y) ≤ 100000) (sym is) (omega (arith, cost, part_cost body i x below))

pub flat_part : (body : List Stmt) (i depth : ℕ) (x : Stmt) → x ≡ get_or body i x → i < length body → depth + loops_of_body (body_tree body) ≤ 100000 → depth + loops (stmt_tree x) ≤ 100000
flat_part body i depth x is below flat = subst (λ y. depth + loops (stmt_tree y) ≤ 100000) (sym is) (omega (arith, flat, part_loops body i x below))

turns_cost : (n c : ℕ) (z b : Bool) → (z ≡ false → 1 ≤ n) → (z || b) ≡ false → c ≤ n * c
turns_cost n c true b some does = absurd (true≢false does)
turns_cost n c false b some does =
    let turns : 1 * c ≤ n * c = mul-le 1 c n c (some refl) (omega arith) in
    omega arith

-- the body of a loop that does something
pub loop_cost : (turns : ℕ) (body : BodyTree) → does_nothing (repeats turns body) ≡ false → body_cost body + 1 ≤ stmt_cost (repeats turns body)
loop_cost turns body does = let inner = turns_cost turns (body_cost body) (turns == 0) (do_nothing body) (some_turns turns) does in omega arith

-- the code of both sides of a choice
pub sides_short : (s : List AccessSig) (d : ℕ) (st : StmtTree) (e : ExprTree) (first second : BodyTree) → st ≡ chooses e first second → stmt_cost st ≤ 100000
    → length (shared_of_body s d first) + length (shared_of_body s d second) ≤ 300000
sides_short s d st e first second is cost =
    let low : stmt_cost (chooses e first second) ≤ 100000 = subst (λ x. stmt_cost x ≤ 100000) is cost in
    omega (arith, low, stmt_steps (chooses e first second), body_code s d first, body_code s d second)

-- the code of the body of a loop that does something
pub inner_short : (s : List AccessSig) (d turns : ℕ) (body : BodyTree) → does_nothing (repeats turns body) ≡ false → stmt_cost (repeats turns body) ≤ 100000 → length (shared_of_body s (d + 1) body) ≤ 300000
inner_short s d turns body does cost = omega (arith, cost, loop_cost turns body does, body_steps body, body_code s (d + 1) body)
