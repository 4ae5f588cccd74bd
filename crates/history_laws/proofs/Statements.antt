-- The program of a runnable of a sound plan asks what it may, whatever is answered, and at its end what it entered is left.
use Rattle.std.proofs.Common.{◌≡◌, ℕ, zero, suc, ◌≤◌, ℤ, pos, Bool, true, false, ◌&&◌, ◌||◌, not, ◌==◌, if◌then◌else◌, refl, sym, ◌∙◌, ap, subst, arith, List, [], ◌∷◌, length, map, set, Some}
use Rattle.std.specs.Prelude.{nat_lt}
use Rattle.bus_semantics.specs.Common.{int_eq, list_all, list_any, slice_get, and_from, and_parts, eqb-true, length-set, has_access, is_call, ExprTree, StmtTree, sets, chooses, repeats}
use Rattle.bus_semantics.specs.Common.{in_area, writes, reads, invalidates, asks_updated, sends, receives, writes_late, reads_early, writes_variable, reads_variable, writes_variable_late}
use Rattle.bus_semantics.specs.Common.{reads_variable_early, calls, calls_and_goes_on, takes_result, switches, asks_mode, BodyTree, done, next, worth, Plan, Runnable, Wanted, to_write}
use Rattle.bus_semantics.specs.Common.{to_read, to_invalidate, to_see_updated, to_send, to_receive, to_ask, to_hear, to_take_result, to_enter, to_leave, to_switch, to_see_mode, State}
use Rattle.bus_semantics.specs.Common.{access, given, found_under, words_under, words_in, number_in, code_in, stored, put, put_all, keep_written, arguments_of, both, calling, takes_nothing}
use Rattle.bus_semantics.specs.Common.{takes_zero, takes_code, takes_number, takes_value, takes_words, hears, asking_and_hearing, running, running_body, access_sound, each_access}
use Rattle.bus_semantics.specs.Common.{accesses_distinct, areas_rise, is_in_range, is_declared_after, calls_outside, each_in, each_of, body_sound, IsSound}
use Rattle.runnable_lang.specs.declared.program.AccessKind.TheVariants as kind
use Rattle.bus_laws.specs.Common.{Deed, Mapping}
use Rattle.history_laws.specs.OpenAreas.{innermost, all_but_innermost}
use Rattle.history_laws.proofs.Trails.{Trail, open_of, At}
use Rattle.history_laws.proofs.Runs.{AtEnd, Run, Obeys, over, asks, in_turn, repeated, called}
use Rattle.history_laws.proofs.Asked.{MayAsk, IsKept, IsWritten}
use Rattle.history_laws.proofs.Accesses.{whole, writes_may, late_may, variable_may, variable_late_may, sends_may, reads_may, variable_reads_may, receives_may, calls_may, goes_on_may}
use Rattle.history_laws.proofs.Accesses.{hears_may, results_may}
use Rattle.history_laws.proofs.Entering.{enters, area, area_may, area_rises, switch_may, mode_may, invalidates_may, updated_may}

alone : (b : Bool) → (b || false) ≡ true → b ≡ true
alone true e = refl
alone false e = e

-- ---- the state

stored_count : (vs : List ℕ) (ws vars : List ℤ) → length (stored vs ws vars) ≡ length vars
stored_count [] ws vars = refl
stored_count (v ∷ vs) [] vars = refl
stored_count (v ∷ vs) (x ∷ ws) vars = stored_count vs ws (set vars v x) ∙ length-set vars v x

module _ (p : Plan) (r : Runnable) where
  put_kept : (v : ℕ) (x : ℤ) (s : State) → IsKept p r s → IsKept p r (put v x s)
  put_kept v x s kept = record { vars = subst (λ n. length (arguments_of p r) ≤ n) (sym (length-set s.vars v x)) kept.vars; written = kept.written }

  all_kept : (vs : List ℕ) (ws : List ℤ) (s : State) → IsKept p r s → IsKept p r (put_all vs ws s)
  all_kept vs ws s kept = record { vars = subst (λ n. length (arguments_of p r) ≤ n) (sym (stored_count vs ws s.vars)) kept.vars; written = kept.written }

  words_kept : (vs : List ℕ) (status : ℕ) (d : Deed) (s : State) → IsKept p r s → IsKept p r (takes_words vs status d s)
  words_kept vs status d s kept = put_kept status (pos (code_in d)) (put_all vs (words_in d) s) (all_kept vs (words_in d) s kept)

  written_kept : (x : ℕ) (ws : List ℤ) (s : State) → IsWritten p r x ws → IsKept p r s → IsKept p r (keep_written x ws s)
  written_kept x ws s may kept = record { vars = kept.vars; written = λ y vs is. by_place y vs (x == y) refl is }
    where
      by_place : (y : ℕ) (vs : List ℤ) (b : Bool) → (x == y) ≡ b → (if b then Some ws else found_under y s.written) ≡ Some vs → IsWritten p r y vs
      by_place y vs true same is =
          let place : x ≡ y = eqb-true x y same in
          let words : ws ≡ vs = cc is in
          subst (λ n. IsWritten p r n vs) place (subst (λ us. IsWritten p r x us) words may)
      by_place y vs false other is = kept.written y vs is

-- ---- statements

module _ (p : Plan) (m : Mapping) (sound : IsSound p m) (i : ℕ) (r : Runnable) (there : slice_get p.runnables i ≡ Some r) (event : ℕ) where
  abbrev May : Trail → Wanted → Type 0
  May = MayAsk p i r event

  abbrev enter : ℕ → Bool
  enter x = list_any (enters p m sound i r there x) r.accesses

  abbrev number : ℕ → ℕ
  number x = area p m sound i r there x

  -- the numbers of the areas around a statement are open, and the state is kept
  abbrev Within : List ℕ → AtEnd
  Within around t s = At (map number around) t × IsKept p r s

  abbrev test : List ℕ → StmtTree → Bool
  test around st = (has_access r.accesses st && is_in_range r.program.vars st) && (is_declared_after around st && calls_outside around st)

  has : (around : List ℕ) (st : StmtTree) → test around st ≡ true → has_access r.accesses st ≡ true
  has around st e = (and_parts (has_access r.accesses st) (is_in_range r.program.vars st) (and_parts (has_access r.accesses st && is_in_range r.program.vars st) (is_declared_after around st && calls_outside around st) e).0).0

  after_each : (around : List ℕ) (st : StmtTree) → test around st ≡ true → is_declared_after around st ≡ true
  after_each around st e = (and_parts (is_declared_after around st) (calls_outside around st) (and_parts (has_access r.accesses st && is_in_range r.program.vars st) (is_declared_after around st && calls_outside around st) e).1).0

  outside : (around : List ℕ) (st : StmtTree) → is_call st ≡ true → test around st ≡ true → (t : Trail) → At (map number around) t → open_of t ≡ []
  outside around st call e t at =
      let out = (and_parts (is_declared_after around st) (calls_outside around st) (and_parts (has_access r.accesses st && is_in_range r.program.vars st) (is_declared_after around st && calls_outside around st) e).1).1 in
      at.0 ∙ ap (map number) (none around (subst (λ b. ((length around == 0) || not b) ≡ true) call out))
    where
      none : (xs : List ℕ) → ((length xs == 0) || false) ≡ true → xs ≡ []
      none [] e = refl
      none (x ∷ xs) e = let zero : length (x ∷ xs) ≡ 0 = eqb-true (length (x ∷ xs)) 0 (alone (length (x ∷ xs) == 0) e) in absurd (omega arith)

  either : (Q : AtEnd) (t : Trail) (b : Bool) (f g : Run) → Obeys May Q t f → Obeys May Q t g → Obeys May Q t (if b then f else g)
  either Q t true f g first second = first
  either Q t false f g first second = second

  -- each area around is one that the runnable enters, so it has the lesser number
  all_less : (x : ℕ) (around : List ℕ) → enter x ≡ true → list_all enter around ≡ true → list_all (λ a. nat_lt a x) around ≡ true → list_all (λ y. nat_lt y (number x)) (map number around) ≡ true
  all_less x [] here each less = refl
  all_less x (a ∷ around) here each less =
      let entered = and_parts (enter a) (list_all enter around) each in
      let lesser = and_parts (nat_lt a x) (list_all (λ b. nat_lt b x) around) less in
      and_from (nat_lt (number a) (number x)) (list_all (λ y. nat_lt y (number x)) (map number around)) (area_rises p m sound i r there a x entered.0 here lesser.0) (all_less x around here entered.1 lesser.1)

  -- ---- calls that wait

  heard : (around : List ℕ) (t : Trail) (s : State) (port item : ℕ) (es : List ExprTree) (vs : List ℕ) (status : ℕ) → test around (calls port item es vs status) ≡ true → At (map number around) t → IsKept p r s
      → (d : Deed) → Obeys May (Within around) ((to_ask (access r kind.Call port item).target (given (access r kind.Call port item) es s), d) ∷ t) (λ ds. asking_and_hearing (access r kind.Call port item).target (given (access r kind.Call port item) es s) vs status s (d ∷ ds))
  heard around t s port item es vs status h at kept d = by_code (code_in d) refl
    where
      by_code : (c : ℕ) → code_in d ≡ c → Obeys May (Within around) ((to_ask (access r kind.Call port item).target (given (access r kind.Call port item) es s), d) ∷ t) (hears (access r kind.Call port item).target vs status c s)
      by_code zero is =
          let own = calls_may p m sound i r there port item es vs s (has around (calls port item es vs status) h) in
          called May (Within around) (to_hear (access r kind.Call port item).target) (takes_words vs status) ((to_ask (access r kind.Call port item).target (given (access r kind.Call port item) es s), d) ∷ t) s
          (at.1, outside around (calls port item es vs status) refl h t at, own.0, hears_may p m sound i r there port item es vs (has around (calls port item es vs status) h), (refl, is), own.2)
          (λ x. (at, words_kept p r vs status x s kept))
      by_code (suc c) is = over (put status (pos (suc c)) s) (at, put_kept p r status (pos (suc c)) s kept) (λ ds. refl)

  asked : (around : List ℕ) (t : Trail) (s : State) (port item : ℕ) (es : List ExprTree) (vs : List ℕ) (status : ℕ) → test around (calls port item es vs status) ≡ true → At (map number around) t → IsKept p r s
      → Obeys May (Within around) t (running r (calls port item es vs status) s)
  asked around t s port item es vs status h at kept =
      let own = calls_may p m sound i r there port item es vs s (has around (calls port item es vs status) h) in
      asks (to_ask (access r kind.Call port item).target (given (access r kind.Call port item) es s)) (at.1, outside around (calls port item es vs status) refl h t at, own.0, own.1, own.2) refl
      (heard around t s port item es vs status h at kept)

  mutual
    statement : (st : StmtTree) (around : List ℕ) → list_all enter around ≡ true → each_in test around st ≡ true → (t : Trail) (s : State) → At (map number around) t → IsKept p r s → Obeys May (Within around) t (running r st s)
    statement (sets v e) around each h t s at kept = over (put v (worth s.vars e) s) (at, put_kept p r v (worth s.vars e) s kept) (λ ds. refl)
    statement (chooses c first second) around each h t s at kept =
        let sides = and_parts (each_of test around first) (each_of test around second) (and_parts (test around (chooses c first second)) _ h).1 in
        either (Within around) t (int_eq (worth s.vars c) (pos 0)) (running_body r second s) (running_body r first s) (statements second around each sides.1 t s at kept) (statements first around each sides.0 t s at kept)
    statement (repeats n body) around each h t s at kept =
        repeated May (Within around) n (running_body r body) (λ u v q. statements body around each (and_parts (test around (repeats n body)) _ h).1 u v q.0 q.1) t s (at, kept)
    statement (in_area x body) around each h t s at kept =
        let parts = and_parts (test around (in_area x body)) (each_of test (x ∷ around) body) h in
        let here = has around (in_area x body) parts.0 in
        let less = all_less x around here each (after_each around (in_area x body) parts.0) in
        let within = and_from (enter x) (list_all enter around) here each in
        in_turn May (Within (x ∷ around)) (Within around) (calling (to_enter (number x)) takes_nothing) (both (running_body r body) (calling (to_leave (number x)) takes_nothing)) t s
        (called May (Within (x ∷ around)) (to_enter (number x)) takes_nothing t s
        (at.1, area_may p m sound i r there x here, subst (λ areas. list_all (λ y. nat_lt y (number x)) areas ≡ true) (sym at.0) less)
        (λ d. ((ap (λ areas. number x ∷ areas) at.0, at.1), kept)))
        (λ u v q. in_turn May (Within (x ∷ around)) (Within around) (running_body r body) (calling (to_leave (number x)) takes_nothing) u v
        (statements body (x ∷ around) within parts.1 u v q.0 q.1)
        (λ w y end. called May (Within around) (to_leave (number x)) takes_nothing w y
        (end.0.1, area_may p m sound i r there x here, ap innermost end.0.0)
        (λ d. ((ap all_but_innermost end.0.0, end.0.1), end.1))))
    statement (writes port item es status) around each h t s at kept =
        called May (Within around) (to_write (access r kind.Write port item).target (given (access r kind.Write port item) es s)) (takes_zero status) t s
        (at.1, writes_may p m sound i r there port item es s (has around (writes port item es status) h)) (λ d. (at, put_kept p r status (pos 0) s kept))
    statement (reads port item vs status) around each h t s at kept =
        called May (Within around) (to_read (access r kind.Read port item).target) (takes_words vs status) t s
        (at.1, reads_may p m sound i r there port item vs (has around (reads port item vs status) h)) (λ d. (at, words_kept p r vs status d s kept))
    statement (invalidates port item status) around each h t s at kept =
        called May (Within around) (to_invalidate (access r kind.Invalidate port item).target) (takes_zero status) t s
        (at.1, invalidates_may p m sound i r there port item (has around (invalidates port item status) h)) (λ d. (at, put_kept p r status (pos 0) s kept))
    statement (asks_updated port item v) around each h t s at kept =
        called May (Within around) (to_see_updated (access r kind.IsUpdated port item).target) (takes_number v) t s
        (at.1, updated_may p m sound i r there port item (has around (asks_updated port item v) h)) (λ d. (at, put_kept p r v (pos (number_in d)) s kept))
    statement (sends port item es status) around each h t s at kept =
        let may = sends_may p m sound i r there port item es s (has around (sends port item es status) h) in
        called May (Within around) (to_send (access r kind.Send port item).target (given (access r kind.Send port item) es s)) (takes_code status) t s
        (at.1, may.0, may.1) (λ d. (at, put_kept p r status (pos (code_in d)) s kept))
    statement (receives port item vs status) around each h t s at kept =
        called May (Within around) (to_receive (access r kind.Receive port item).target) (takes_words vs status) t s
        (at.1, receives_may p m sound i r there port item vs (has around (receives port item vs status) h)) (λ d. (at, words_kept p r vs status d s kept))
    statement (writes_late port item es) around each h t s at kept =
        over (keep_written (access r kind.IWrite port item).target (given (access r kind.IWrite port item) es s) s)
        (at, written_kept p r _ _ s (late_may p m sound i r there port item es s (has around (writes_late port item es) h)) kept) (λ ds. refl)
    statement (reads_early port item vs) around each h t s at kept =
        over (put_all vs (words_under (access r kind.IRead port item).target s.fetched) s) (at, all_kept p r vs _ s kept) (λ ds. refl)
    statement (writes_variable item es) around each h t s at kept =
        called May (Within around) (to_write (access r kind.IrvWrite 0 item).target (given (access r kind.IrvWrite 0 item) es s)) takes_nothing t s
        (at.1, variable_may p m sound i r there item es s (has around (writes_variable item es) h)) (λ d. (at, kept))
    statement (reads_variable item vs) around each h t s at kept =
        called May (Within around) (to_read (access r kind.IrvRead 0 item).target) (takes_value vs) t s
        (at.1, variable_reads_may p m sound i r there item vs (has around (reads_variable item vs) h)) (λ d. (at, all_kept p r vs (words_in d) s kept))
    statement (writes_variable_late item es) around each h t s at kept =
        over (keep_written (access r kind.IrvIWrite 0 item).target (given (access r kind.IrvIWrite 0 item) es s) s)
        (at, written_kept p r _ _ s (variable_late_may p m sound i r there item es s (has around (writes_variable_late item es) h)) kept) (λ ds. refl)
    statement (reads_variable_early item vs) around each h t s at kept =
        over (put_all vs (words_under (access r kind.IrvIRead 0 item).target s.fetched) s) (at, all_kept p r vs _ s kept) (λ ds. refl)
    statement (calls port item es vs status) around each h t s at kept = asked around t s port item es vs status h at kept
    statement (calls_and_goes_on port item es status) around each h t s at kept =
        let own = goes_on_may p m sound i r there port item es s (has around (calls_and_goes_on port item es status) h) in
        called May (Within around) (to_ask (access r kind.ACall port item).target (given (access r kind.ACall port item) es s)) (takes_code status) t s
        (at.1, outside around (calls_and_goes_on port item es status) refl h t at, own.0, own.1, own.2) (λ d. (at, put_kept p r status (pos (code_in d)) s kept))
    statement (takes_result port item vs status) around each h t s at kept =
        let may = results_may p m sound i r there port item vs (has around (takes_result port item vs status) h) in
        called May (Within around) (to_take_result (access r kind.TakeResult port item).target) (takes_words vs status) t s
        (at.1, may.0, may.1) (λ d. (at, words_kept p r vs status d s kept))
    statement (switches port mode status) around each h t s at kept =
        called May (Within around) (to_switch (access r kind.Switch port 0).target mode) (takes_code status) t s
        (at.1, switch_may p m sound i r there port mode (has around (switches port mode status) h)) (λ d. (at, put_kept p r status (pos (code_in d)) s kept))
    statement (asks_mode port v) around each h t s at kept =
        called May (Within around) (to_see_mode (access r kind.Mode port 0).target) (takes_number v) t s
        (at.1, mode_may p m sound i r there port (has around (asks_mode port v) h)) (λ d. (at, put_kept p r v (pos (number_in d)) s kept))

    statements : (body : BodyTree) (around : List ℕ) → list_all enter around ≡ true → each_of test around body ≡ true → (t : Trail) (s : State) → At (map number around) t → IsKept p r s → Obeys May (Within around) t (running_body r body s)
    statements done around each h t s at kept = over s (at, kept) (λ ds. refl)
    statements (next st body) around each h t s at kept =
        let parts = and_parts (each_in test around st) (each_of test around body) h in
        in_turn May (Within around) (Within around) (running r st) (running_body r body) t s (statement st around each parts.0 t s at kept)
        (λ u v q. statements body around each parts.1 u v q.0 q.1)

  -- no area is open and nothing was returned, and the state is kept
  abbrev pub Between : AtEnd
  Between t s = At [] t × IsKept p r s

  pub program : (t : Trail) (s : State) → Between t s → Obeys (MayAsk p i r event) Between t (running_body r r.program.body s)
  program t s q =
      let a = and_parts (each_access (access_sound p i (Some r.instance)) r.accesses r.targets) _ (whole p m sound i r there) in
      let b = and_parts (accesses_distinct r.accesses && areas_rise r.accesses r.targets) _ a.1 in
      statements r.program.body [] refl (and_parts (body_sound r r.program.body []) _ b.1).0 t s q.0 q.1
