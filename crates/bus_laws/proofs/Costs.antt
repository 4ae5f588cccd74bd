-- A program makes at most twice as many calls of the bus as it costs: a call of an operation costs 1, and is an ask and an answer.
use Rattle.std.proofs.Common.{◌+◌, ◌*◌, ◌≤◌, ℕ, zero, suc, ℤ, pos, Bool, true, false, if◌then◌else◌, arith, List, [], ◌∷◌, length}
use Rattle.bus_semantics.specs.Common.{int_eq, StmtTree, sets, chooses, repeats, in_area, writes, reads, invalidates, asks_updated, sends, receives, writes_late, reads_early}
use Rattle.bus_semantics.specs.Common.{writes_variable, reads_variable, writes_variable_late, reads_variable_early, calls, calls_and_goes_on, takes_result, switches, asks_mode, BodyTree}
use Rattle.bus_semantics.specs.Common.{done, next, worth, stmt_cost, body_cost, Runnable, Wanted, to_hear, to_enter, to_leave, State, code_in, given, access, Outcome, Stop, Go, Running}
use Rattle.bus_semantics.specs.Common.{goes_on, both, changing, calling, times, takes_nothing, takes_words, hears, asking_and_hearing, within_area, running, running_body}
use Rattle.runnable_lang.specs.declared.program.AccessKind.TheVariants as kind
use Rattle.bus_laws.specs.Common.{Deed, UsesAtMost}

-- a run that makes at most so many calls, whatever the state and the answers
abbrev Bounded : ℕ → Running → Type 0
Bounded n m = (s : State) (answers : List Deed) → UsesAtMost n answers (m s answers)

wider : (a b : ℕ) (answers : List Deed) (o : Outcome) → a ≤ b → UsesAtMost a answers o → UsesAtMost b answers o
wider a b answers (Stop w) le uses = omega arith
wider a b answers (Go s left) le uses = omega arith

after : (a b : ℕ) (answers left : List Deed) (o : Outcome) → length answers ≤ a + length left → UsesAtMost b left o → UsesAtMost (a + b) answers o
after a b answers left (Stop w) used uses = omega arith
after a b answers left (Go s rest) used uses = omega arith

goes_bounded : (a b : ℕ) (n : Running) → Bounded b n → (answers : List Deed) (o : Outcome) → UsesAtMost a answers o → UsesAtMost (a + b) answers (goes_on n o)
goes_bounded a b n last answers (Stop w) uses = omega arith
goes_bounded a b n last answers (Go s left) uses = after a b answers left (n s left) uses (last s left)

both_bounded : (a b : ℕ) (m n : Running) → Bounded a m → Bounded b n → Bounded (a + b) (both m n)
both_bounded a b m n first last s answers = goes_bounded a b n last answers (m s answers) (first s answers)

times_bounded : (n a : ℕ) (m : Running) → Bounded a m → Bounded (n * a) (times n m)
times_bounded zero a m once s answers = omega arith
times_bounded (suc n) a m once s answers =
    wider (a + n * a) (suc n * a) answers (times (suc n) m s answers) (omega arith) (both_bounded a (n * a) m (times n m) once (times_bounded n a m once) s answers)

calling_bounded : (n : ℕ) (w : Wanted) (change : Deed → State → State) → 1 ≤ n → Bounded n (calling w change)
calling_bounded n w change one s [] = omega arith
calling_bounded n w change one s (d ∷ answers) = omega arith

changing_bounded : (n : ℕ) (f : State → State) → Bounded n (changing f)
changing_bounded n f s answers = omega arith

hears_bounded : (q : ℕ) (vs : List ℕ) (status code : ℕ) → Bounded 1 (hears q vs status code)
hears_bounded q vs status zero s answers = calling_bounded 1 (to_hear q) (takes_words vs status) (omega arith) s answers
hears_bounded q vs status (suc code) s answers = omega arith

asking_bounded : (n q : ℕ) (ws : List ℤ) (vs : List ℕ) (status : ℕ) → 2 ≤ n → Bounded n (asking_and_hearing q ws vs status)
asking_bounded n q ws vs status two s [] = omega arith
asking_bounded n q ws vs status two s (d ∷ answers) =
    wider (1 + 1) n (d ∷ answers) (hears q vs status (code_in d) s answers) (omega arith)
    (after 1 1 (d ∷ answers) answers (hears q vs status (code_in d) s answers) (omega arith) (hears_bounded q vs status (code_in d) s answers))

either_bounded : (n : ℕ) (b : Bool) (answers : List Deed) (f g : List Deed → Outcome) → UsesAtMost n answers (f answers) → UsesAtMost n answers (g answers) → UsesAtMost n answers ((if b then f else g) answers)
either_bounded n true answers f g first second = first
either_bounded n false answers f g first second = second

area_bounded : (r : Runnable) (x a n : ℕ) (m : Running) → 1 + (a + 1) ≤ n → Bounded a m → Bounded n (within_area r x m)
area_bounded r x a n m room inside s answers =
    let enters = to_enter (access r kind.Enter 0 x).target in
    let leaves = to_leave (access r kind.Enter 0 x).target in
    wider (1 + (a + 1)) n answers (within_area r x m s answers) room
    (both_bounded 1 (a + 1) (calling enters takes_nothing) (both m (calling leaves takes_nothing)) (calling_bounded 1 enters takes_nothing (omega arith))
    (both_bounded a 1 m (calling leaves takes_nothing) inside (calling_bounded 1 leaves takes_nothing (omega arith))) s answers)

mutual
  statement_bounded : (r : Runnable) (st : StmtTree) → Bounded (2 * stmt_cost st) (running r st)
  statement_bounded r (sets v e) s answers = omega arith
  statement_bounded r (chooses c first second) s answers =
      either_bounded (2 * stmt_cost (chooses c first second)) (int_eq (worth s.vars c) (pos 0)) answers (running_body r second s) (running_body r first s)
      (wider (2 * body_cost second) (2 * stmt_cost (chooses c first second)) answers (running_body r second s answers) (omega arith) (program_bounded r second s answers))
      (wider (2 * body_cost first) (2 * stmt_cost (chooses c first second)) answers (running_body r first s answers) (omega arith) (program_bounded r first s answers))
  statement_bounded r (repeats n body) s answers =
      wider (n * (2 * body_cost body)) (2 * stmt_cost (repeats n body)) answers (times n (running_body r body) s answers) (omega arith)
      (times_bounded n (2 * body_cost body) (running_body r body) (program_bounded r body) s answers)
  statement_bounded r (in_area x body) s answers = area_bounded r x (2 * body_cost body) (2 * stmt_cost (in_area x body)) (running_body r body) (omega arith) (program_bounded r body) s answers
  statement_bounded r (writes port item es status) s [] = omega arith
  statement_bounded r (writes port item es status) s (d ∷ answers) = omega arith
  statement_bounded r (reads port item vs status) s [] = omega arith
  statement_bounded r (reads port item vs status) s (d ∷ answers) = omega arith
  statement_bounded r (invalidates port item status) s [] = omega arith
  statement_bounded r (invalidates port item status) s (d ∷ answers) = omega arith
  statement_bounded r (asks_updated port item v) s [] = omega arith
  statement_bounded r (asks_updated port item v) s (d ∷ answers) = omega arith
  statement_bounded r (sends port item es status) s [] = omega arith
  statement_bounded r (sends port item es status) s (d ∷ answers) = omega arith
  statement_bounded r (receives port item vs status) s [] = omega arith
  statement_bounded r (receives port item vs status) s (d ∷ answers) = omega arith
  statement_bounded r (writes_late port item es) s answers = omega arith
  statement_bounded r (reads_early port item vs) s answers = omega arith
  statement_bounded r (writes_variable item es) s [] = omega arith
  statement_bounded r (writes_variable item es) s (d ∷ answers) = omega arith
  statement_bounded r (reads_variable item vs) s [] = omega arith
  statement_bounded r (reads_variable item vs) s (d ∷ answers) = omega arith
  statement_bounded r (writes_variable_late item es) s answers = omega arith
  statement_bounded r (reads_variable_early item vs) s answers = omega arith
  statement_bounded r (calls port item es vs status) s answers =
      let a = access r kind.Call port item in
      asking_bounded (2 * stmt_cost (calls port item es vs status)) a.target (given a es s) vs status (omega arith) s answers
  statement_bounded r (calls_and_goes_on port item es status) s [] = omega arith
  statement_bounded r (calls_and_goes_on port item es status) s (d ∷ answers) = omega arith
  statement_bounded r (takes_result port item vs status) s [] = omega arith
  statement_bounded r (takes_result port item vs status) s (d ∷ answers) = omega arith
  statement_bounded r (switches port mode status) s [] = omega arith
  statement_bounded r (switches port mode status) s (d ∷ answers) = omega arith
  statement_bounded r (asks_mode port v) s [] = omega arith
  statement_bounded r (asks_mode port v) s (d ∷ answers) = omega arith

  pub program_bounded : (r : Runnable) (body : BodyTree) → Bounded (2 * body_cost body) (running_body r body)
  program_bounded r done s answers = omega arith
  program_bounded r (next st body) s answers =
      wider (2 * stmt_cost st + 2 * body_cost body) (2 * body_cost (next st body)) answers (running_body r (next st body) s answers) (omega arith)
      (both_bounded (2 * stmt_cost st) (2 * body_cost body) (running r st) (running_body r body) (statement_bounded r st) (program_bounded r body) s answers)
