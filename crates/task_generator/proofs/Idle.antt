-- Statements that do nothing go on with the same state and the same answers.
use Rattle.std.proofs.Common.{◌≡◌, ℕ, zero, suc, pos, List, Bool, true, false, if◌then◌else◌, refl, ap, ◌∙◌}
use Rattle.std.specs.Prelude.{◌||◌, ◌==◌}
use Rattle.bus_semantics.specs.Common.{int_eq, and_parts, eqb-true, false≢true, StmtTree, chooses, repeats, BodyTree, done, next, worth, Runnable, State, Go, Running, goes_on, times}
use Rattle.bus_semantics.specs.Common.{running, running_body}
use Rattle.bus_semantics.specs.declared.entries.Deed.{Deed}
use Rattle.task_generator.specs.Nothing.{does_nothing, do_nothing}

-- a run that changes nothing
abbrev IsIdle : Running → Type 0
IsIdle m = (s : State) (ds : List Deed) → m s ds ≡ Go s ds

times_idle : (n : ℕ) (m : Running) → IsIdle m → IsIdle (times n m)
times_idle zero m idle s ds = refl
times_idle (suc n) m idle s ds = ap (goes_on (times n m)) (idle s ds) ∙ times_idle n m idle s ds

either_idle : (b : Bool) (s : State) (ds : List Deed) (f g : Running) → IsIdle f → IsIdle g → (if b then f s else g s) ds ≡ Go s ds
either_idle true s ds f g first second = first s ds
either_idle false s ds f g first second = second s ds

-- a loop without turns, or with an idle body
loop_idle : (n : ℕ) (z b : Bool) (m : Running) → (z ≡ true → n ≡ 0) → (b ≡ true → IsIdle m) → (z || b) ≡ true → IsIdle (times n m)
loop_idle n true b m none idle does s ds = ap (λ k. times k m s ds) (none refl)
loop_idle n false true m none idle does s ds = times_idle n m (idle refl) s ds
loop_idle n false false m none idle does s ds = absurd (false≢true does)

mutual
  pub stmt_idle : (r : Runnable) (st : StmtTree) → does_nothing st ≡ true → IsIdle (running r st)
  stmt_idle r (chooses c first second) nothing s ds =
      let parts = and_parts (do_nothing first) (do_nothing second) nothing in
      either_idle (int_eq (worth s.vars c) (pos 0)) s ds (running_body r second) (running_body r first) (body_idle r second parts.1) (body_idle r first parts.0)
  stmt_idle r (repeats n body) nothing s ds = loop_idle n (n == 0) (do_nothing body) (running_body r body) (eqb-true n 0) (body_idle r body) nothing s ds
  stmt_idle r st nothing s ds = absurd (false≢true nothing)

  body_idle : (r : Runnable) (body : BodyTree) → do_nothing body ≡ true → IsIdle (running_body r body)
  body_idle r done nothing s ds = refl
  body_idle r (next st body) nothing s ds =
      let parts = and_parts (does_nothing st) (do_nothing body) nothing in
      ap (goes_on (running_body r body)) (stmt_idle r st parts.0 s ds) ∙ body_idle r body parts.1 s ds
