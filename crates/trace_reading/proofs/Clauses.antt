-- An entry breaks no clause exactly if it follows its program and is what the bus answers.
use Rattle.std.proofs.Common.{◌≡◌, ℕ, Bool, true, false, ◌&&◌, if◌then◌else◌, List, [], ◌∷◌, Some, None, refl}
use Rattle.bus_semantics.specs.Common.{list_all, and_parts, and_from, Plan, History, Past, Noted, noted, note, follows_program, Answers, broken_answer, broken_clause, first_false}
use Rattle.bus_semantics.specs.Common.{unqueued_allows, queued_allows, calls_allow, areas_allow, modes_allow, admission_allows, due_allows}
use Rattle.bus_semantics.specs.declared.entries.Entry.{Entry}

abbrev holds : ℕ × Bool → Bool
holds clause = clause.1

none_false : (cs : List (ℕ × Bool)) → first_false cs ≡ None → list_all holds cs ≡ true
none_false [] e = refl
none_false (c ∷ cs) e = step c.1 e (none_false cs)
  where
    step : (b : Bool) → (if b then first_false cs else Some c.0) ≡ None → (first_false cs ≡ None → list_all holds cs ≡ true) → (b && list_all holds cs) ≡ true
    step true e rest = rest e
    step false e rest = absurd (cc)

all_hold : (cs : List (ℕ × Bool)) → list_all holds cs ≡ true → first_false cs ≡ None
all_hold [] e = refl
all_hold (c ∷ cs) e = step c.1 e (all_hold cs)
  where
    step : (b : Bool) → (b && list_all holds cs) ≡ true → (list_all holds cs ≡ true → first_false cs ≡ None) → (if b then first_false cs else Some c.0) ≡ None
    step true e rest = rest e
    step false e rest = absurd (cc)

answered : (p : Plan) (h : Past) (n : Noted) → broken_answer p h n ≡ None → Answers p h n
answered p h n e =
    let a = unqueued_allows p h n.entry.deed in
    let b = queued_allows p h n.entry.deed in
    let c = calls_allow p h n.entry.actor n.entry.deed in
    let d = areas_allow h n.entry.deed in
    let f = modes_allow p h n.entry.actor n.entry.deed in
    let g = admission_allows p h n.event n.entry.deed in
    let k = due_allows p h n.entry.actor n.entry.deed in
    let all : (a && (b && (c && (d && (f && (g && (k && true))))))) ≡ true = none_false ((7, a) ∷ (8, b) ∷ (9, c) ∷ (10, d) ∷ (11, f) ∷ (12, g) ∷ (13, k) ∷ []) e in
    let e0 = and_parts a (b && (c && (d && (f && (g && (k && true)))))) all in
    let e1 = and_parts b (c && (d && (f && (g && (k && true))))) e0.1 in
    let e2 = and_parts c (d && (f && (g && (k && true)))) e1.1 in
    let e3 = and_parts d (f && (g && (k && true))) e2.1 in
    let e4 = and_parts f (g && (k && true)) e3.1 in
    let e5 = and_parts g (k && true) e4.1 in
    let e6 = and_parts k true e5.1 in
    record { unqueued = e0.0; queued = e1.0; calls = e2.0; areas = e3.0; modes = e4.0; admission = e5.0; due = e6.0 }

answering : (p : Plan) (h : Past) (n : Noted) → Answers p h n → broken_answer p h n ≡ None
answering p h n r =
    let a = unqueued_allows p h n.entry.deed in
    let b = queued_allows p h n.entry.deed in
    let c = calls_allow p h n.entry.actor n.entry.deed in
    let d = areas_allow h n.entry.deed in
    let f = modes_allow p h n.entry.actor n.entry.deed in
    let g = admission_allows p h n.event n.entry.deed in
    let k = due_allows p h n.entry.actor n.entry.deed in
    let e6 = and_from k true r.due refl in
    let e5 = and_from g (k && true) r.admission e6 in
    let e4 = and_from f (g && (k && true)) r.modes e5 in
    let e3 = and_from d (f && (g && (k && true))) r.areas e4 in
    let e2 = and_from c (d && (f && (g && (k && true)))) r.calls e3 in
    let e1 = and_from b (c && (d && (f && (g && (k && true))))) r.queued e2 in
    let e0 = and_from a (b && (c && (d && (f && (g && (k && true)))))) r.unqueued e1 in
    all_hold ((7, a) ∷ (8, b) ∷ (9, c) ∷ (10, d) ∷ (11, f) ∷ (12, g) ∷ (13, k) ∷ []) e0

pub record Unbroken (p : Plan) (h : History) (e : Entry) : Type 0 where
  pub program : follows_program p h e.actor e.deed ≡ true
  pub answers : Answers p (noted h) (note h e)

pub unbroken : (p : Plan) (h : History) (e : Entry) → broken_clause p h e ≡ None → Unbroken p h e
unbroken p h e none = step (follows_program p h e.actor e.deed) refl none
  where
    step : (b : Bool) → follows_program p h e.actor e.deed ≡ b → (if b then broken_answer p (noted h) (note h e) else Some 6) ≡ None → Unbroken p h e
    step true is none = record { program = is; answers = answered p (noted h) (note h e) none }
    step false is none = absurd (cc)

pub breaks_none : (p : Plan) (h : History) (e : Entry) → follows_program p h e.actor e.deed ≡ true → Answers p (noted h) (note h e) → broken_clause p h e ≡ None
breaks_none p h e program r = step (follows_program p h e.actor e.deed) program (answering p (noted h) (note h e) r)
  where
    step : (b : Bool) → b ≡ true → broken_answer p (noted h) (note h e) ≡ None → (if b then broken_answer p (noted h) (note h e) else Some 6) ≡ None
    step true is none = none
    step false is none = absurd (cc)
