-- What is counted of a program, and whether it does nothing, one statement further.
use Rattle.std.proofs.Common.{◌≡◌, ℕ, ◌+◌, ◌*◌, ◌<◌, min, max, arith, List, length, drop, get_or, refl}
use Rattle.bus_semantics.specs.Common.{drop_more, Stmt, stmt_tree, body_tree}
use Rattle.runnable_lang.proofs.Capped.{capped_product}
use Rattle.std.specs.Prelude.{◌&&◌}
use Rattle.task_generator.specs.Common.{does_nothing, do_nothing, steps, steps_of_body, loops, loops_of_body}

pub steps_turn : (body : List Stmt) (i : ℕ) (d : Stmt) (total : ℕ) → i < length body
    → min (min (total + min (steps (stmt_tree (get_or body i d))) 18446744073709551615) 18446744073709551615 + steps_of_body (body_tree (drop (i + 1) body))) 18446744073709551615
    ≡ min (total + steps_of_body (body_tree (drop i body))) 18446744073709551615
steps_turn body i d total below = rw (drop_more body i d below) (omega arith)

pub loop_turns : (turns inner : ℕ) → min (min (turns * min (min inner 18446744073709551615 + 1) 18446744073709551615) 18446744073709551615 + 1) 18446744073709551615 ≡ min (1 + turns * (inner + 1)) 18446744073709551615
loop_turns turns inner =
    let one : min (min inner 18446744073709551615 + 1) 18446744073709551615 ≡ min (inner + 1) 18446744073709551615 = omega arith in
    let all = capped_product turns (inner + 1) 18446744073709551615 in
    rw one (omega (arith, all))

pub loops_turn : (body : List Stmt) (i : ℕ) (d : Stmt) (found : ℕ) → i < length body
    → min (max (max found (min (loops (stmt_tree (get_or body i d))) 4294967295)) (loops_of_body (body_tree (drop (i + 1) body)))) 4294967295 ≡ min (max found (loops_of_body (body_tree (drop i body)))) 4294967295
loops_turn body i d found below = rw (drop_more body i d below) (omega arith)

-- the statements from a place on do nothing exactly if the one there does nothing, and those behind it
pub nothing_turn : (body : List Stmt) (i : ℕ) (d : Stmt) → i < length body → do_nothing (body_tree (drop i body)) ≡ (does_nothing (stmt_tree (get_or body i d)) && do_nothing (body_tree (drop (i + 1) body)))
nothing_turn body i d below = rw (drop_more body i d below) refl
