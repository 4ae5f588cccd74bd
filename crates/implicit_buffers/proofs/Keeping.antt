-- A program leaves what its activation has fetched, whatever it does and whatever it is answered.
use Rattle.std.proofs.Common.{◌≡◌, ℕ, zero, suc, ℤ, pos, List, [], ◌∷◌, Bool, true, false, if◌then◌else◌, refl, subst}
use Rattle.std.specs.Prelude.{⊤}
use Prim.{tt}
use Rattle.bus_semantics.specs.Common.{int_eq, StmtTree, sets, chooses, repeats, in_area, writes, reads, invalidates, asks_updated, sends, receives, writes_late, reads_early}
use Rattle.bus_semantics.specs.Common.{writes_variable, reads_variable, writes_variable_late, reads_variable_early, calls, calls_and_goes_on, takes_result, switches, asks_mode, BodyTree}
use Rattle.bus_semantics.specs.Common.{done, next, worth, Runnable, Wanted, to_write, to_read, to_invalidate, to_see_updated, to_send, to_receive, to_ask, to_hear, to_take_result, to_enter}
use Rattle.bus_semantics.specs.Common.{to_leave, to_switch, to_see_mode, State, code_in, access, given, Outcome, Stop, Go, Running, goes_on, both, calling, times, takes_nothing, takes_zero}
use Rattle.bus_semantics.specs.Common.{takes_code, takes_number, takes_value, takes_words, hears, asking_and_hearing, running, running_body, run_program}
use Rattle.runnable_lang.specs.declared.program.AccessKind.TheVariants as kind
use Rattle.bus_semantics.specs.declared.entries.Deed.{Deed}

abbrev pub Leaves : List (ℕ × List ℤ) → Outcome → Type 0
Leaves fetched (Stop w) = ⊤
Leaves fetched (Go s ds) = s.fetched ≡ fetched

then_left : (fetched : List (ℕ × List ℤ)) (o : Outcome) (n : Running) → Leaves fetched o → ((s : State) (ds : List Deed) → Leaves s.fetched (n s ds)) → Leaves fetched (goes_on n o)
then_left fetched (Stop w) n first last = tt
then_left fetched (Go s ds) n first last = subst (λ f. Leaves f (n s ds)) first (last s ds)

call_left : (w : Wanted) (change : Deed → State → State) (s : State) (ds : List Deed) → ((d : Deed) → (change d s).fetched ≡ s.fetched) → Leaves s.fetched (calling w change s ds)
call_left w change s [] leaves = tt
call_left w change s (d ∷ ds) leaves = leaves d

times_left : (n : ℕ) (m : Running) → ((s : State) (ds : List Deed) → Leaves s.fetched (m s ds)) → (s : State) (ds : List Deed) → Leaves s.fetched (times n m s ds)
times_left zero m once s ds = refl
times_left (suc n) m once s ds = then_left s.fetched (m s ds) (times n m) (once s ds) (times_left n m once)

side_left : (fetched : List (ℕ × List ℤ)) (b : Bool) (m n : List Deed → Outcome) (ds : List Deed) → Leaves fetched (m ds) → Leaves fetched (n ds) → Leaves fetched ((if b then m else n) ds)
side_left fetched true m n ds first second = first
side_left fetched false m n ds first second = second

heard_left : (q : ℕ) (vs : List ℕ) (status code : ℕ) (s : State) (ds : List Deed) → Leaves s.fetched (hears q vs status code s ds)
heard_left q vs status zero s ds = call_left (to_hear q) (takes_words vs status) s ds (λ d. refl)
heard_left q vs status (suc code) s ds = refl

asked_left : (q : ℕ) (ws : List ℤ) (vs : List ℕ) (status : ℕ) (s : State) (ds : List Deed) → Leaves s.fetched (asking_and_hearing q ws vs status s ds)
asked_left q ws vs status s [] = tt
asked_left q ws vs status s (d ∷ ds) = heard_left q vs status (code_in d) s ds

mutual
  statement_leaves : (r : Runnable) (st : StmtTree) (s : State) (ds : List Deed) → Leaves s.fetched (running r st s ds)
  statement_leaves r (sets v e) s ds = refl
  statement_leaves r (chooses c first second) s ds =
      side_left s.fetched (int_eq (worth s.vars c) (pos 0)) (running_body r second s) (running_body r first s) ds (body_leaves r second s ds) (body_leaves r first s ds)
  statement_leaves r (repeats n body) s ds = times_left n (running_body r body) (body_leaves r body) s ds
  statement_leaves r (in_area x body) s ds =
      let area = (access r kind.Enter 0 x).target in
      let leaving = calling (to_leave area) takes_nothing in
      then_left s.fetched (calling (to_enter area) takes_nothing s ds) (both (running_body r body) leaving) (call_left (to_enter area) takes_nothing s ds (λ d. refl))
      (λ t es. then_left t.fetched (running_body r body t es) leaving (body_leaves r body t es) (λ u fs. call_left (to_leave area) takes_nothing u fs (λ d. refl)))
  statement_leaves r (writes port item es status) s ds = let a = access r kind.Write port item in call_left (to_write a.target (given a es s)) (takes_zero status) s ds (λ d. refl)
  statement_leaves r (reads port item vs status) s ds = call_left (to_read (access r kind.Read port item).target) (takes_words vs status) s ds (λ d. refl)
  statement_leaves r (invalidates port item status) s ds = call_left (to_invalidate (access r kind.Invalidate port item).target) (takes_zero status) s ds (λ d. refl)
  statement_leaves r (asks_updated port item v) s ds = call_left (to_see_updated (access r kind.IsUpdated port item).target) (takes_number v) s ds (λ d. refl)
  statement_leaves r (sends port item es status) s ds = let a = access r kind.Send port item in call_left (to_send a.target (given a es s)) (takes_code status) s ds (λ d. refl)
  statement_leaves r (receives port item vs status) s ds = call_left (to_receive (access r kind.Receive port item).target) (takes_words vs status) s ds (λ d. refl)
  statement_leaves r (writes_late port item es) s ds = refl
  statement_leaves r (reads_early port item vs) s ds = refl
  statement_leaves r (writes_variable item es) s ds = let a = access r kind.IrvWrite 0 item in call_left (to_write a.target (given a es s)) takes_nothing s ds (λ d. refl)
  statement_leaves r (reads_variable item vs) s ds = call_left (to_read (access r kind.IrvRead 0 item).target) (takes_value vs) s ds (λ d. refl)
  statement_leaves r (writes_variable_late item es) s ds = refl
  statement_leaves r (reads_variable_early item vs) s ds = refl
  statement_leaves r (calls port item es vs status) s ds = let a = access r kind.Call port item in asked_left a.target (given a es s) vs status s ds
  statement_leaves r (calls_and_goes_on port item es status) s ds = let a = access r kind.ACall port item in call_left (to_ask a.target (given a es s)) (takes_code status) s ds (λ d. refl)
  statement_leaves r (takes_result port item vs status) s ds = call_left (to_take_result (access r kind.TakeResult port item).target) (takes_words vs status) s ds (λ d. refl)
  statement_leaves r (switches port mode status) s ds = call_left (to_switch (access r kind.Switch port 0).target mode) (takes_code status) s ds (λ d. refl)
  statement_leaves r (asks_mode port v) s ds = call_left (to_see_mode (access r kind.Mode port 0).target) (takes_number v) s ds (λ d. refl)

  body_leaves : (r : Runnable) (body : BodyTree) (s : State) (ds : List Deed) → Leaves s.fetched (running_body r body s ds)
  body_leaves r done s ds = refl
  body_leaves r (next st body) s ds = then_left s.fetched (running r st s ds) (running_body r body) (statement_leaves r st s ds) (body_leaves r body)

pub leaves_what_was_fetched : (r : Runnable) (body : BodyTree) (s t : State) (answers left : List Deed) → run_program r body s answers ≡ Go t left → t.fetched ≡ s.fetched
leaves_what_was_fetched r body s t answers left goes = subst (Leaves s.fetched) goes (body_leaves r body s answers)
