-- A session is a run of its script, by computing: it is legal, and each closing word holds.
use Rattle.std.specs.Prelude.{◌≡◌, List, [], ◌∷◌, Bool, true, not, ◌&&◌, ◌||◌, nat_le}
use Rattle.bus_semantics.specs.Common.{list_all, and_parts, or_cases, Plan, History, is_legal, may_follow, Try, tries, none_runs, IsStuck, AllStuck, Closing, idle, unsettled, made}
use Rattle.bus_semantics.specs.Common.{run_begins, run_closes, Session, history_of, is_inside, made_in_line, IsSessionOf, Holds, IsLegalRun, IsRunOf}
use Rattle.std.proofs.Common.{inl, inr}
use Rattle.bus_laws.specs.Common.{Line, Mapping}
use Rattle.bus_laws.proofs.Computing.{followed}
use Rattle.bus_laws.proofs.Resting.{could, stuck}
use Rattle.bus_rows.proofs.PhaseStuck.{phase_could, phase_stuck}

-- ---- rest

abbrev pub cannot_come : Plan → History → Try → Bool
cannot_come p h t = not (phase_could p h t.0 t.1) || not (could p h t.0 t.1)

is_stuck : (p : Plan) (h : History) (t : Try) → cannot_come p h t ≡ true → IsStuck p h t
is_stuck p h t e = elim (or_cases (not (phase_could p h t.0 t.1)) (not (could p h t.0 t.1)) e) [ inl n ↦ phase_stuck p h t n | inr n ↦ stuck p h t n ]

all_stuck : (p : Plan) (h : History) (ts : List Try) → list_all (cannot_come p h) ts ≡ true → AllStuck p h ts
all_stuck p h [] e = tt
all_stuck p h (t ∷ ts) e = let b = and_parts (cannot_come p h t) (list_all (cannot_come p h) ts) e in (is_stuck p h t b.0, all_stuck p h ts b.1)

-- ---- runs

abbrev pub word_holds : Plan → Mapping → Session → Closing → Bool
word_holds p m s idle = list_all (cannot_come p (history_of s)) (tries p m (history_of s)) && none_runs p (history_of s)
word_holds p m s unsettled = nat_le 100000 (made_in_line s)

abbrev pub words_hold : Plan → Mapping → Session → Bool
words_hold p m [] = true
words_hold p m (made e ∷ s) = words_hold p m s
words_hold p m (run_begins ∷ s) = words_hold p m s
words_hold p m (run_closes word ∷ s) = words_hold p m s && (is_inside s && word_holds p m s word)

held : (p : Plan) (m : Mapping) (s : Session) (word : Closing) → word_holds p m s word ≡ true → Holds p m s word
held p m s idle e =
    let b = and_parts (list_all (cannot_come p (history_of s)) (tries p m (history_of s))) (none_runs p (history_of s)) e in
    record { rest = all_stuck p (history_of s) (tries p m (history_of s)) b.0; none = b.1 }
held p m s unsettled e = e

legal_run : (p : Plan) (m : Mapping) (s : Session) → is_legal p (history_of s) ≡ true → words_hold p m s ≡ true → IsLegalRun p m s
legal_run p m [] t w = tt
legal_run p m (made e ∷ s) t w =
    let b = and_parts (is_legal p (history_of s)) (may_follow p (history_of s) e) t in (legal_run p m s b.0 w, followed p (history_of s) e b.1)
legal_run p m (run_begins ∷ s) t w = legal_run p m s t w
legal_run p m (run_closes word ∷ s) t w =
    let b = and_parts (words_hold p m s) (is_inside s && word_holds p m s word) w in
    let d = and_parts (is_inside s) (word_holds p m s word) b.1 in
    (legal_run p m s t b.0, d.0, held p m s word d.1)

pub run_of : (p : Plan) (m : Mapping) (script : List Line) (s : Session) → is_legal p (history_of s) ≡ true → words_hold p m s ≡ true → IsSessionOf script s → IsRunOf p m script s
run_of p m script s t w session = record { session = session; legal = legal_run p m s t w }
