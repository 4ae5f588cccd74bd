-- The instructions that instances share are, in an instance, those of its program.
use Rattle.std.proofs.Common.{◌≡◌, ℕ, ◌+◌, ℤ, List, [], ◌∷◌, ◌++◌, Bool, true, false, if◌then◌else◌, length, map, get_or, refl, sym, ap, ◌∙◌, arith}
use Rattle.bus_semantics.specs.Common.{map-append, length-map, clamped_each, AccessKind, AccessSig, ExprTree, StmtTree, sets, chooses, repeats, in_area, writes, reads, invalidates}
use Rattle.bus_semantics.specs.Common.{asks_updated, sends, receives, writes_late, reads_early, writes_variable, reads_variable, writes_variable_late, reads_variable_early, calls}
use Rattle.bus_semantics.specs.Common.{calls_and_goes_on, takes_result, switches, asks_mode, BodyTree, done, next, worth, Runnable, Wanted, to_write, to_read, to_invalidate, to_see_updated}
use Rattle.bus_semantics.specs.Common.{to_send, to_receive, to_ask, to_take_result, to_enter, to_leave, to_switch, to_see_mode, access, is_to, is_read_early, is_written_late}
use Rattle.runnable_lang.specs.declared.program.AccessKind.TheVariants as kind
use Rattle.task_machine.specs.declared.instr.Taken.{Taken}
use Rattle.task_machine.specs.declared.instr.Taken.TheVariants as taken
use Rattle.task_machine.specs.declared.instr.Targets.{Targets}
use Rattle.task_machine.specs.Store.{Store}
use Rattle.task_machine.specs.Targets.{number_at, fetched_at, written_at}
use Rattle.task_machine.specs.Instructions.{Instruction, Shared, resolved, unless, skip, begin_loop, end_loop, load, keep}
use Rattle.implicit_buffers.specs.Buffers.{fetched_by, published_by}
use Rattle.task_generator.specs.Common.{slot_of, does_nothing, counts_among, numbers, numbered, calling_code, given_over, looping_code, code_of, code_of_body, targets_of, fixed}
use Rattle.task_generator.specs.Common.{calling_shared, choosing_shared, looping_shared, shared_of, shared_of_body}
use Rattle.task_generator.specs.Code.{choosing_code, hearing_code}
use Rattle.task_generator.proofs.Numbering.{many_numbers, same_ins, placed, all_named}

-- ---- instructions that name no access

pub fixed_is : (t : Targets) (is : List Instruction) → resolved t (map fixed is) ≡ is
fixed_is t [] = refl
fixed_is t (i ∷ is) = ap (λ js. i ∷ js) (fixed_is t is)

choosing_is : (t : Targets) (c : ExprTree) (x y : List Shared) → resolved t (choosing_shared c x y) ≡ choosing_code (unless c (length (resolved t x) + 1)) (resolved t x) (resolved t y)
choosing_is t c x y =
    ap (λ is. unless c (length x + 1) ∷ is) (map-append (λ (i : Shared). i t) x (fixed (skip (length y)) ∷ y))
    ∙ ap (λ n. unless c (length x + 1) ∷ (resolved t x ++ skip n ∷ resolved t y)) (sym (length-map y (λ (i : Shared). i t)))
    ∙ ap (λ n. unless c (n + 1) ∷ (resolved t x ++ skip (length (resolved t y)) ∷ resolved t y)) (sym (length-map x (λ (i : Shared). i t)))

looping_is : (t : Targets) (d turns : ℕ) (x : List Shared) → resolved t (looping_shared d turns x) ≡ looping_code d turns (resolved t x)
looping_is t d turns x =
    ap (λ is. begin_loop d turns (length x + 1) ∷ is) (map-append (λ (i : Shared). i t) x (fixed (end_loop d (length x)) ∷ []))
    ∙ ap (λ n. begin_loop d turns (n + 1) ∷ (resolved t x ++ end_loop d n ∷ [])) (sym (length-map x (λ (i : Shared). i t)))

module _ (r : Runnable) (whole : length r.accesses ≡ length r.targets) where
  abbrev pub t : Targets
  t = targets_of r

  abbrev pub s : List AccessSig
  s = r.accesses

  -- ---- what an access names

  number : (k : AccessKind) (port item : ℕ) → ((j : AccessKind) → counts_among k j ≡ true) → number_at t (numbered s k port item).target ≡ (access r k port item).target
  number k port item among =
      ap (λ (xs : List ℕ). get_or (0 ∷ xs) (numbered s k port item).target 0) (sym (all_named s r.targets whole))
      ∙ placed (λ j. true) (λ x. x) k port item among refl s r.targets (0 ∷ []) (λ j. 1) refl (omega arith) refl whole

  fetched : (k : AccessKind) (port item : ℕ) → ((j : AccessKind) → counts_among k j ≡ is_read_early j) → is_read_early k ≡ true
      → fetched_at t (numbered s k port item).target ≡ slot_of (access r k port item).target (fetched_by r)
  fetched k port item among early = placed is_read_early (λ x. slot_of x (fetched_by r)) k port item among early s r.targets (slot_of 0 (fetched_by r) ∷ []) (λ j. 1) refl (omega arith) refl whole

  written : (k : AccessKind) (port item : ℕ) → ((j : AccessKind) → counts_among k j ≡ is_written_late j) → is_written_late k ≡ true
      → written_at t (numbered s k port item).target ≡ slot_of (access r k port item).target (published_by r)
  written k port item among late = placed is_written_late (λ x. slot_of x (published_by r)) k port item among late s r.targets (slot_of 0 (published_by r) ∷ []) (λ j. 1) refl (omega arith) refl whole

  pub ins : (k : AccessKind) (port item : ℕ) → (numbered s k port item).ins ≡ (access r k port item).ins
  ins k port item = same_ins (is_to k port item) s (numbers s) r.targets (sym (many_numbers (λ j. 1) s)) whole

  gives : (k : AccessKind) (port item : ℕ) (es : List ExprTree) → given_over (numbered s k port item) es ≡ given_over (access r k port item) es
  gives k port item es i m = clamped_each (ins k port item i) (map (worth m.vars) es)

  -- ---- calls

  one_call : (w : ℕ → Store → Wanted) (took : Taken) (k : AccessKind) (port item : ℕ) → ((j : AccessKind) → counts_among k j ≡ true)
      → resolved t (calling_shared (λ t m. w (number_at t (numbered s k port item).target) m) took) ≡ calling_code (w (access r k port item).target) took
  one_call w took k port item among = ap (λ n. calling_code (w n) took) (number k port item among)

  giving_call : (w : ℕ → List ℤ → Wanted) (took : Taken) (k : AccessKind) (port item : ℕ) (es : List ExprTree) → ((j : AccessKind) → counts_among k j ≡ true)
      → resolved t (calling_shared (λ t m. w (number_at t (numbered s k port item).target) (given_over (numbered s k port item) es m)) took)
      ≡ calling_code (λ m. w (access r k port item).target (given_over (access r k port item) es m)) took
  giving_call w took k port item es among =
      ap (λ n. calling_code (λ m. w n (given_over (numbered s k port item) es m)) took) (number k port item among)
      ∙ ap (λ (ws : Store → List ℤ). calling_code (λ m. w (access r k port item).target (ws m)) took) (gives k port item es)

  late_write : (k : AccessKind) (port item : ℕ) (es : List ExprTree) → ((j : AccessKind) → counts_among k j ≡ is_written_late j) → is_written_late k ≡ true
      → keep (written_at t (numbered s k port item).target) (given_over (numbered s k port item) es) ∷ [] ≡ keep (slot_of (access r k port item).target (published_by r)) (given_over (access r k port item) es) ∷ []
  late_write k port item es among late =
      ap (λ n. keep n (given_over (numbered s k port item) es) ∷ []) (written k port item among late)
      ∙ ap (λ (ws : Store → List ℤ). keep (slot_of (access r k port item).target (published_by r)) ws ∷ []) (gives k port item es)

  loop_is : (d turns : ℕ) (x : List Shared) (y : List Instruction) (b : Bool) → resolved t x ≡ y → resolved t (if b then [] else looping_shared d turns x) ≡ (if b then [] else looping_code d turns y)
  loop_is d turns x y true same = refl
  loop_is d turns x y false same = looping_is t d turns x ∙ ap (looping_code d turns) same

  -- ---- statements

  mutual
    statement_is : (d : ℕ) (st : StmtTree) → resolved t (shared_of s d st) ≡ code_of r d st
    statement_is d (sets v e) = refl
    statement_is d (chooses c first second) =
        choosing_is t c (shared_of_body s d first) (shared_of_body s d second)
        ∙ ap (λ (x : List Instruction). choosing_code (unless c (length x + 1)) x (resolved t (shared_of_body s d second))) (body_is d first)
        ∙ ap (choosing_code (unless c (length (code_of_body r d first) + 1)) (code_of_body r d first)) (body_is d second)
    statement_is d (repeats turns body) = loop_is d turns (shared_of_body s (d + 1) body) (code_of_body r (d + 1) body) (does_nothing (repeats turns body)) (body_is (d + 1) body)
    statement_is d (in_area x body) =
        let enter : ℕ → List Instruction = λ n. calling_code (λ m. to_enter n) taken.Nothing in
        let leave : ℕ → List Instruction = λ n. calling_code (λ m. to_leave n) taken.Nothing in
        let a = (numbered s kind.Enter 0 x).target in
        let last = calling_shared (λ t m. to_leave (number_at t a)) taken.Nothing in
        ap (λ is. enter (number_at t a) ++ is) (map-append (λ (i : Shared). i t) (shared_of_body s d body) last)
        ∙ ap (λ is. enter (number_at t a) ++ (is ++ leave (number_at t a))) (body_is d body)
        ∙ ap (λ n. enter n ++ (code_of_body r d body ++ leave n)) (number kind.Enter 0 x (λ j. refl))
    statement_is d (writes port item es status) = giving_call to_write (taken.Zero status) kind.Write port item es (λ j. refl)
    statement_is d (reads port item vs status) = one_call (λ n m. to_read n) (taken.Words vs status) kind.Read port item (λ j. refl)
    statement_is d (invalidates port item status) = one_call (λ n m. to_invalidate n) (taken.Zero status) kind.Invalidate port item (λ j. refl)
    statement_is d (asks_updated port item v) = one_call (λ n m. to_see_updated n) (taken.Number v) kind.IsUpdated port item (λ j. refl)
    statement_is d (sends port item es status) = giving_call to_send (taken.Code status) kind.Send port item es (λ j. refl)
    statement_is d (receives port item vs status) = one_call (λ n m. to_receive n) (taken.Words vs status) kind.Receive port item (λ j. refl)
    statement_is d (writes_late port item es) = late_write kind.IWrite port item es (λ j. refl) refl
    statement_is d (reads_early port item vs) = ap (λ n. load vs n ∷ []) (fetched kind.IRead port item (λ j. refl) refl)
    statement_is d (writes_variable item es) = giving_call to_write taken.Nothing kind.IrvWrite 0 item es (λ j. refl)
    statement_is d (reads_variable item vs) = one_call (λ n m. to_read n) (taken.Value vs) kind.IrvRead 0 item (λ j. refl)
    statement_is d (writes_variable_late item es) = late_write kind.IrvIWrite 0 item es (λ j. refl) refl
    statement_is d (reads_variable_early item vs) = ap (λ n. load vs n ∷ []) (fetched kind.IrvIRead 0 item (λ j. refl) refl)
    statement_is d (calls port item es vs status) =
        ap (λ n. hearing_code n (given_over (numbered s kind.Call port item) es) vs status) (number kind.Call port item (λ j. refl))
        ∙ ap (λ (ws : Store → List ℤ). hearing_code (access r kind.Call port item).target ws vs status) (gives kind.Call port item es)
    statement_is d (calls_and_goes_on port item es status) = giving_call to_ask (taken.Code status) kind.ACall port item es (λ j. refl)
    statement_is d (takes_result port item vs status) = one_call (λ n m. to_take_result n) (taken.Words vs status) kind.TakeResult port item (λ j. refl)
    statement_is d (switches port mode status) = one_call (λ n m. to_switch n mode) (taken.Code status) kind.Switch port 0 (λ j. refl)
    statement_is d (asks_mode port v) = one_call (λ n m. to_see_mode n) (taken.Number v) kind.Mode port 0 (λ j. refl)

    pub body_is : (d : ℕ) (body : BodyTree) → resolved t (shared_of_body s d body) ≡ code_of_body r d body
    body_is d done = refl
    body_is d (next st body) = map-append (λ (i : Shared). i t) (shared_of s d st) (shared_of_body s d body) ∙ (λ i. statement_is d st i ++ body_is d body i)
