-- The body of a program does what the program does: by recursion on the statements.
use Rattle.std.proofs.Common.{◌≡◌, ℕ, ◌+◌, ◌≤◌, pos, List, [], ◌∷◌, ◌++◌, ◌*◌, length, Bool, true, false, if◌then◌else◌, Some, refl, sym, subst, arith, length-append}
use Rattle.std.specs.Prelude.{slice_get}
use Rattle.bus_semantics.specs.Common.{int_eq, StmtTree, sets, chooses, repeats, in_area, writes, reads, invalidates, asks_updated, sends, receives, writes_late, reads_early}
use Rattle.bus_semantics.specs.Common.{writes_variable, reads_variable, writes_variable_late, reads_variable_early, calls, calls_and_goes_on, takes_result, switches, asks_mode, BodyTree}
use Rattle.bus_semantics.specs.Common.{done, next, worth, Runnable, Wanted, to_write, to_read, to_invalidate, to_see_updated, to_send, to_receive, to_ask, to_take_result, to_enter, to_leave}
use Rattle.bus_semantics.specs.Common.{to_switch, to_see_mode, State, access, Go, both, calling, times, takes_nothing, takes_zero, takes_code, takes_number, takes_value, takes_words}
use Rattle.bus_semantics.specs.Common.{running, running_body}
use Rattle.runnable_lang.specs.declared.program.AccessKind.TheVariants as kind
use Rattle.bus_semantics.specs.declared.entries.Deed.{Deed}
use Rattle.task_machine.specs.declared.instr.Taken.TheVariants as taken
use Rattle.task_machine.specs.Store.{Store}
use Rattle.task_machine.specs.Instructions.{Instruction, skip, end_loop, call, change_of, passes_nothing}
use Rattle.implicit_buffers.specs.Buffers.{fetched_by, published_by}
use Rattle.task_generator.specs.Common.{does_nothing, given_over, looping_code, code_of, code_of_body, steps, steps_of_body, loops, loops_of_body}
use Rattle.task_generator.proofs.Idle.{stmt_idle}
use Rattle.task_generator.proofs.Agreeing.{Slots, store_in}
use Rattle.task_generator.proofs.Following.{Keeps, Keeps-itself, Keeps-further, Fit, Follows, nothing_runs, with_more, ends_at, keeping, joined, assign_runs, load_runs, keep_runs, call_runs}
use Rattle.task_generator.proofs.Following.{ask_runs, choice_runs, loop_runs}

-- these instructions stand at a place
abbrev pub HasAt : List Instruction → ℕ → List Instruction → Type 0
HasAt code a [] = Unit {0}
HasAt code a (i ∷ is) = (slice_get code a ≡ Some i) × HasAt code (a + 1) is

pub has_front : (code : List Instruction) (a : ℕ) (xs ys : List Instruction) → HasAt code a (xs ++ ys) → HasAt code a xs
has_front code a [] ys h = tt
has_front code a (i ∷ xs) ys h = (h.0, has_front code (a + 1) xs ys h.1)

pub has_back : (code : List Instruction) (a : ℕ) (xs ys : List Instruction) → HasAt code a (xs ++ ys) → HasAt code (a + length xs) ys
has_back code a [] ys h = let e : a ≡ a + 0 = omega arith in subst (λ n. HasAt code n ys) e h
has_back code a (i ∷ xs) ys h =
    let e : a + 1 + length xs ≡ a + length (i ∷ xs) = omega arith in
    subst (λ n. HasAt code n ys) e (has_back code (a + 1) xs ys h.1)

module _ (code : List Instruction) (event : ℕ) (r : Runnable) where
  abbrev pub F : List ℕ
  F = fetched_by r

  abbrev pub P : List ℕ
  P = published_by r

  -- a single call, whose answer changes variables alone
  one_call : (d a : ℕ) (s : State) (c : Slots) (cs : List ℕ) (ds : List Deed) (w : Store → Wanted) (change : Deed → Store → Store) (changes : Deed → State → State)
      → ((d : Deed) → change d (store_in s c) ≡ store_in (changes d s) c) → ((d : Deed) → Fit code event F P (changes d s) c)
      → HasAt code a (call (λ event m. w m) change passes_nothing ∷ [])
      → Follows code event F P (Keeps d cs) 1 a (a + 1) (store_in s c) cs ds (calling (w (store_in s c)) changes s ds)
  one_call d a s c cs ds w change changes same fit has = call_runs code event F P (Keeps d cs) a s c cs ds (λ event m. w m) change changes same fit has.0 (Keeps-itself d cs)

  -- a loop: nothing where it does nothing, and else its turns
  repeat_runs : (turns : ℕ) (body : BodyTree) (d a : ℕ) (s : State) (c : Slots) (cs : List ℕ) (ds : List Deed) (b : Bool) → does_nothing (repeats turns body) ≡ b → Fit code event F P s c
      → let y = code_of_body r (d + 1) body in let is = if b then [] else looping_code d turns y in
      HasAt code a is → d + (if b then 0 else 1 + loops_of_body body) ≤ length cs
      → ((t : State) (e : Slots) (us : List ℕ) (es : List Deed) → Fit code event F P t e → HasAt code (a + 1) y → d + 1 + loops_of_body body ≤ length us
      → Follows code event F P (Keeps (d + 1) us) (steps_of_body body) (a + 1) (a + 1 + length y) (store_in t e) us es (running_body r body t es))
      → Follows code event F P (Keeps d cs) (if b then 0 else 1 + turns * (steps_of_body body + 1)) a (a + length is) (store_in s c) cs ds (running r (repeats turns body) s ds)
  repeat_runs turns body d a s c cs ds true nothing fit has room inner =
      let end : a ≡ a + 0 = omega arith in
      subst (Follows code event F P (Keeps d cs) 0 a (a + 0) (store_in s c) cs ds) (sym (stmt_idle r (repeats turns body) nothing s ds))
      (ends_at code event F P (Keeps d cs) 0 a a (a + 0) (store_in s c) cs ds (Go s ds) end (nothing_runs code event F P (Keeps d cs) a s c cs ds fit (Keeps-itself d cs)))
  repeat_runs turns body d a s c cs ds false does fit has room inner =
      let y = code_of_body r (d + 1) body in
      let last = end_loop d (length y) ∷ [] in
      let behind = has_back code (a + 1) y last has.1 in
      let end : a + 1 + length y + 1 ≡ a + length (looping_code d turns y) = omega (arith, length-append y last) in
      ends_at code event F P (Keeps d cs) (1 + turns * (steps_of_body body + 1)) a _ _ (store_in s c) cs ds (times turns (running_body r body) s ds) end
      (loop_runs code event F P d (loops_of_body body) (steps_of_body body) a (length y) turns (running_body r body) s c cs ds
      (λ t e us es fits long. inner t e us es fits (has_front code (a + 1) y last has.1) long)
      has.0 behind.0 fit (omega arith))

  mutual
    stmt_runs : (st : StmtTree) (d a : ℕ) (s : State) (c : Slots) (cs : List ℕ) (ds : List Deed) → Fit code event F P s c → HasAt code a (code_of r d st) → d + loops st ≤ length cs
        → Follows code event F P (Keeps d cs) (steps st) a (a + length (code_of r d st)) (store_in s c) cs ds (running r st s ds)
    stmt_runs (sets v e) d a s c cs ds fit has room = assign_runs code event F P (Keeps d cs) a s c cs ds v e has.0 fit (Keeps-itself d cs)
    stmt_runs (chooses test first second) d a s c cs ds fit has room =
        let x = code_of_body r d first in
        let y = code_of_body r d second in
        let behind = has_back code (a + 1) x (skip (length y) ∷ y) has.1 in
        let end : a + 1 + length x + 1 + length y ≡ a + length (code_of r d (chooses test first second)) = omega (arith, length-append x (skip (length y) ∷ y)) in
        ends_at code event F P (Keeps d cs) (steps (chooses test first second)) a _ _ (store_in s c) cs ds (running r (chooses test first second) s ds) end
        (choice_runs code event F P (Keeps d cs) (steps_of_body first) (steps_of_body second) a (length x) (length y) (store_in s c) cs ds test (int_eq (worth s.vars test) (pos 0))
        (running_body r first s) (running_body r second s) refl has.0 behind.0
        (body_runs first d (a + 1) s c cs ds fit (has_front code (a + 1) x (skip (length y) ∷ y) has.1) (omega arith))
        (body_runs second d (a + 1 + length x + 1) s c cs ds fit behind.1 (omega arith)))
    stmt_runs (repeats turns body) d a s c cs ds fit has room =
        repeat_runs turns body d a s c cs ds (does_nothing (repeats turns body)) refl fit has room
        (λ t e us es fits within long. body_runs body (d + 1) (a + 1) t e us es fits within long)
    stmt_runs (in_area x body) d a s c cs ds fit has room =
        let t = (access r kind.Enter 0 x).target in
        let y = code_of_body r d body in
        let leave = calling (to_leave t) takes_nothing in
        let last = call (λ event m. to_leave t) (change_of taken.Nothing) passes_nothing ∷ [] in
        let behind = has_back code (a + 1) y last has.1 in
        let end : a + 1 + length y + 1 ≡ a + length (code_of r d (in_area x body)) = omega (arith, length-append y last) in
        ends_at code event F P (Keeps d cs) (steps (in_area x body)) a _ _ (store_in s c) cs ds (running r (in_area x body) s ds) end
        (with_more code event F P (Keeps d cs) (1 + (steps_of_body body + 1)) (steps (in_area x body)) a (a + 1 + length y + 1) (store_in s c) cs ds (running r (in_area x body) s ds) (omega arith)
        (joined code event F P (Keeps d cs) (Keeps d cs) 1 (steps_of_body body + 1) a (a + 1) (a + 1 + length y + 1) (store_in s c) cs ds (calling (to_enter t) takes_nothing s ds) (both (running_body r body) leave)
        (call_runs code event F P (Keeps d cs) a s c cs ds (λ event m. to_enter t) (change_of taken.Nothing) takes_nothing (λ d. refl) (λ d. fit) has.0 (Keeps-itself d cs))
        (λ u e es us fits kept.
        let long = kept.long in
        keeping code event F P (Keeps d us) (Keeps d cs) (steps_of_body body + 1) (a + 1) (a + 1 + length y + 1) (store_in u e) us es (both (running_body r body) leave u es)
        (λ ws more. Keeps-further d d cs us ws (omega arith) kept more)
        (joined code event F P (Keeps d us) (Keeps d us) (steps_of_body body) 1 (a + 1) (a + 1 + length y) (a + 1 + length y + 1) (store_in u e) us es (running_body r body u es) leave
        (body_runs body d (a + 1) u e us es fits (has_front code (a + 1) y last has.1) (omega arith))
        (λ v g fs ws fits inner. call_runs code event F P (Keeps d us) (a + 1 + length y) v g ws fs (λ event m. to_leave t) (change_of taken.Nothing) takes_nothing (λ d. refl) (λ d. fits) behind.0 inner)))))
    stmt_runs (writes port item es status) d a s c cs ds fit has room = let x = access r kind.Write port item in one_call d a s c cs ds (λ m. to_write x.target (given_over x es m)) (change_of (taken.Zero status)) (takes_zero status) (λ d. refl) (λ d. fit) has
    stmt_runs (reads port item vs status) d a s c cs ds fit has room = let x = access r kind.Read port item in one_call d a s c cs ds (λ m. to_read x.target) (change_of (taken.Words vs status)) (takes_words vs status) (λ d. refl) (λ d. fit) has
    stmt_runs (invalidates port item status) d a s c cs ds fit has room = let x = access r kind.Invalidate port item in one_call d a s c cs ds (λ m. to_invalidate x.target) (change_of (taken.Zero status)) (takes_zero status) (λ d. refl) (λ d. fit) has
    stmt_runs (asks_updated port item v) d a s c cs ds fit has room = let x = access r kind.IsUpdated port item in one_call d a s c cs ds (λ m. to_see_updated x.target) (change_of (taken.Number v)) (takes_number v) (λ d. refl) (λ d. fit) has
    stmt_runs (sends port item es status) d a s c cs ds fit has room = let x = access r kind.Send port item in one_call d a s c cs ds (λ m. to_send x.target (given_over x es m)) (change_of (taken.Code status)) (takes_code status) (λ d. refl) (λ d. fit) has
    stmt_runs (receives port item vs status) d a s c cs ds fit has room = let x = access r kind.Receive port item in one_call d a s c cs ds (λ m. to_receive x.target) (change_of (taken.Words vs status)) (takes_words vs status) (λ d. refl) (λ d. fit) has
    stmt_runs (writes_late port item es) d a s c cs ds fit has room = let x = access r kind.IWrite port item in keep_runs code event F P (Keeps d cs) a s c cs ds x.target (given_over x es) has.0 fit (Keeps-itself d cs)
    stmt_runs (reads_early port item vs) d a s c cs ds fit has room = let x = access r kind.IRead port item in load_runs code event F P (Keeps d cs) a s c cs ds vs x.target has.0 fit (Keeps-itself d cs)
    stmt_runs (writes_variable item es) d a s c cs ds fit has room = let x = access r kind.IrvWrite 0 item in one_call d a s c cs ds (λ m. to_write x.target (given_over x es m)) (change_of taken.Nothing) takes_nothing (λ d. refl) (λ d. fit) has
    stmt_runs (reads_variable item vs) d a s c cs ds fit has room = let x = access r kind.IrvRead 0 item in one_call d a s c cs ds (λ m. to_read x.target) (change_of (taken.Value vs)) (takes_value vs) (λ d. refl) (λ d. fit) has
    stmt_runs (writes_variable_late item es) d a s c cs ds fit has room = let x = access r kind.IrvIWrite 0 item in keep_runs code event F P (Keeps d cs) a s c cs ds x.target (given_over x es) has.0 fit (Keeps-itself d cs)
    stmt_runs (reads_variable_early item vs) d a s c cs ds fit has room = let x = access r kind.IrvIRead 0 item in load_runs code event F P (Keeps d cs) a s c cs ds vs x.target has.0 fit (Keeps-itself d cs)
    stmt_runs (calls port item es vs status) d a s c cs ds fit has room =
        let x = access r kind.Call port item in
        ask_runs code event F P (Keeps d cs) a s c cs ds x.target (given_over x es) vs status has.0 has.1.0 fit (Keeps-itself d cs)
    stmt_runs (calls_and_goes_on port item es status) d a s c cs ds fit has room = let x = access r kind.ACall port item in one_call d a s c cs ds (λ m. to_ask x.target (given_over x es m)) (change_of (taken.Code status)) (takes_code status) (λ d. refl) (λ d. fit) has
    stmt_runs (takes_result port item vs status) d a s c cs ds fit has room = let x = access r kind.TakeResult port item in one_call d a s c cs ds (λ m. to_take_result x.target) (change_of (taken.Words vs status)) (takes_words vs status) (λ d. refl) (λ d. fit) has
    stmt_runs (switches port mode status) d a s c cs ds fit has room = let x = access r kind.Switch port 0 in one_call d a s c cs ds (λ m. to_switch x.target mode) (change_of (taken.Code status)) (takes_code status) (λ d. refl) (λ d. fit) has
    stmt_runs (asks_mode port v) d a s c cs ds fit has room = let x = access r kind.Mode port 0 in one_call d a s c cs ds (λ m. to_see_mode x.target) (change_of (taken.Number v)) (takes_number v) (λ d. refl) (λ d. fit) has

    pub body_runs : (body : BodyTree) (d a : ℕ) (s : State) (c : Slots) (cs : List ℕ) (ds : List Deed) → Fit code event F P s c → HasAt code a (code_of_body r d body) → d + loops_of_body body ≤ length cs
        → Follows code event F P (Keeps d cs) (steps_of_body body) a (a + length (code_of_body r d body)) (store_in s c) cs ds (running_body r body s ds)
    body_runs done d a s c cs ds fit has room =
        let end : a ≡ a + 0 = omega arith in
        ends_at code event F P (Keeps d cs) 0 a a (a + 0) (store_in s c) cs ds (Go s ds) end (nothing_runs code event F P (Keeps d cs) a s c cs ds fit (Keeps-itself d cs))
    body_runs (next st body) d a s c cs ds fit has room =
        let x = code_of r d st in
        let y = code_of_body r d body in
        let end : a + length x + length y ≡ a + length (x ++ y) = omega (arith, length-append x y) in
        ends_at code event F P (Keeps d cs) (steps st + steps_of_body body) a (a + length x + length y) (a + length (x ++ y)) (store_in s c) cs ds (running_body r (next st body) s ds) end
        (joined code event F P (Keeps d cs) (Keeps d cs) (steps st) (steps_of_body body) a (a + length x) (a + length x + length y) (store_in s c) cs ds (running r st s ds) (running_body r body)
        (stmt_runs st d a s c cs ds fit (has_front code a x y has) (omega arith))
        (λ t e es us fits kept.
        let long = kept.long in
        keeping code event F P (Keeps d us) (Keeps d cs) (steps_of_body body) (a + length x) (a + length x + length y) (store_in t e) us es (running_body r body t es)
        (λ ws more. Keeps-further d d cs us ws (omega arith) kept more)
        (body_runs body d (a + length x) t e us es fits (has_back code a x y has) (omega arith))))
