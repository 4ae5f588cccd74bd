-- What a line of the script adds to a joint session.
use Rattle.std.proofs.Common.{◌≡◌, ◌≢◌, ◌<◌, ◌≤◌, ℕ, suc, ◌+◌, true, List, [], ◌∷◌, length, get_or, take, drop, replicate, Option, refl, sym, subst, append-nil}
use Rattle.bus_semantics.specs.Common.{All, and_from, take_all, wish_fits, Plan, plan_of, Ordered, a_run, a_call, to_tick, wanted_of}
use Rattle.std.proofs.lemmas.List.Elements.{All-drop}
use Rattle.rte_text.specs.declared.sink.Put.{Put}
use Rattle.bus_laws.specs.Common.{Env, Entry, Wish, Line}
use Rattle.bus_semantics.specs.declared.script.Line.TheVariants as line
use Rattle.core_runtime.specs.Nodes.{NodeState}
use Rattle.script_reading.specs.Meaning as asked
use Rattle.script_run.specs.declared.script.ScriptRun.{ScriptRun}
use Rattle.script_run.specs.declared.writing.Writing.{Writing}
use Rattle.script_run.specs.Standing as script
use Rattle.script_run.specs.Standing.{Calls, Carries, outside}
use Rattle.script_run.proofs.Sessions.{call_carries}
use Rattle.signal_link.specs.declared.link_elem.LinkElem.{LinkElem}
use Rattle.pair_run.specs.Common.{PairRun, Finished, Then, InOrder, Crosses, Did, Follows, Makes, Joint, one, two, IsPairLine, CarryBoth, came_of, Writes}
use Rattle.pair_run.specs.Running as pair
use Rattle.pair_run.proofs.Carrying.{one_carries, then_cut, then_goes, two_carries, widened}
use Rattle.pair_run.proofs.Completing.{MayCome, call_can, crosses_may, did_may, follows_may, in_order_next, in_order_whole, run_can, then_may, tick_can}
use Rattle.pair_run.proofs.Limits.{tick_keeps}

-- ---- on one side

module _ (w : Writing) (answer : ScriptRun) (old new other : NodeState) (before now : Option (List ℕ)) where
  ticks_on_one : Writes one w → (n : ℕ) → Carries w answer (replicate n (a_call to_tick)) outside outside old new before now → CarryBoth (Did one (line.Tick n)) (came_of answer) old new other other before now
  ticks_on_one is n f =
      one_carries w (line.Tick n) old new other before now (tick_can n) is answer (λ p e. tick_keeps p n)
      (subst (λ (os : List Ordered). Carries w answer os outside outside old new before now) (sym (append-nil (replicate n (a_call to_tick)))) f)

  ticks_on_two : Writes two w → (n : ℕ) → Carries w answer (replicate n (a_call to_tick)) outside outside old new before now → CarryBoth (Did two (line.Tick n)) (came_of answer) other other old new before now
  ticks_on_two is n f =
      two_carries w (line.Tick n) old new other before now (tick_can n) is answer
      (subst (λ (os : List Ordered). Carries w answer os outside outside old new before now) (sym (append-nil (replicate n (a_call to_tick)))) f)

  run_on_one : Writes one w → Carries w answer (a_run ∷ []) outside outside old new before now → CarryBoth (Did one line.Run) (came_of answer) old new other other before now
  run_on_one is f = one_carries w line.Run old new other before now run_can is answer (λ p e. refl) f

  run_on_two : Writes two w → Carries w answer (a_run ∷ []) outside outside old new before now → CarryBoth (Did two line.Run) (came_of answer) other other old new before now
  run_on_two is f = two_carries w line.Run old new other before now run_can is answer f

-- ---- a call

call_adds : (w : Writing) (wish : Wish) (e : Entry) (put : Put) (old new other : NodeState) (before now : Option (List ℕ)) → Writes one w
    → wish_fits (plan_of old.plan) Env (wanted_of wish) ≡ true → pair.keeps_limits (plan_of old.plan) (asked.a_call (wanted_of wish)) ≡ true
    → Calls w put (wanted_of wish) e old new before now → CarryBoth (Makes [] (line.Call wish)) (came_of (script.came_of put)) old new other other before now
call_adds w wish e put old new other before now is fits keeps calls =
    one_carries w (line.Call wish) old new other before now (call_can (plan_of old.plan) wish fits, tt) is (script.came_of put)
    (λ p same. and_from (pair.keeps_limits p (asked.a_call (wanted_of wish))) true (subst (λ (r : Plan). pair.keeps_limits r (asked.a_call (wanted_of wish)) ≡ true) same keeps) refl)
    (call_carries w old new e (wanted_of wish) put before now calls)

pub call_answers : (w : Writing) (wish : Wish) (e : Entry) (put other_put : Put) (old new other : NodeState) (before now : Option (List ℕ)) → Writes one w
    → wish_fits (plan_of old.plan) Env (wanted_of wish) ≡ true → pair.keeps_limits (plan_of old.plan) (asked.a_call (wanted_of wish)) ≡ true
    → Calls w put (wanted_of wish) e old new before now → put ≡ other_put → CarryBoth (Makes [] (line.Call wish)) (came_of (script.came_of other_put)) old new other other before now
call_answers w wish e put other_put old new other before now is fits keeps calls same =
    subst (λ (r : Put). CarryBoth (Makes [] (line.Call wish)) (came_of (script.came_of r)) old new other other before now) same
    (call_adds w wish e put old new other before now is fits keeps calls)

-- ---- ticks

module _ (w v : Writing) (first second : ScriptRun) (n : ℕ) (a b x y : NodeState) (before between now : Option (List ℕ)) (is : Writes one w) (also : Writes two v) where
  pub ticks_both : came_of first ≡ Finished → Carries w first (replicate n (a_call to_tick)) outside outside a b before between
      → Carries v second (replicate n (a_call to_tick)) outside outside x y between now → CarryBoth (Makes [] (line.Tick n)) (came_of second) a b x y before now
  ticks_both done f g =
      then_goes (Did one (line.Tick n)) (Did two (line.Tick n)) (came_of second) a b b x x y before between now
      (subst (λ (r : PairRun). CarryBoth (Did one (line.Tick n)) r a b x x before between) done (ticks_on_one w first a b x before between is n f))
      (ticks_on_two v second x y b between now also n g)

pub ticks_cut : (w : Writing) (first : ScriptRun) (n : ℕ) (a b x : NodeState) (before between : Option (List ℕ)) → Writes one w → came_of first ≢ Finished
    → Carries w first (replicate n (a_call to_tick)) outside outside a b before between → CarryBoth (Makes [] (line.Tick n)) (came_of first) a b x x before between
ticks_cut w first n a b x before between is cut f =
    then_cut (Did one (line.Tick n)) (Did two (line.Tick n)) (came_of first) a b b x x x before between cut (did_may two (line.Tick n) (tick_can n)) (ticks_on_one w first a b x before between is n f)

-- ---- a run line

abbrev after_run : List LinkElem → Joint → Type 0
after_run links j = Then (Crosses links) (Did two line.Run) j

pub run_cut : (w : Writing) (links : List LinkElem) (first : ScriptRun) (a b x : NodeState) (before between : Option (List ℕ)) → Writes one w → came_of first ≢ Finished
    → Carries w first (a_run ∷ []) outside outside a b before between → CarryBoth (Makes links line.Run) (came_of first) a b x x before between
run_cut w links first a b x before between is cut f =
    then_cut (Did one line.Run) (after_run links) (came_of first) a b b x x x before between cut (then_may (crosses_may links) (did_may two line.Run run_can)) (run_on_one w first a b x before between is f)

pub run_did : (w : Writing) (first : ScriptRun) (a b x : NodeState) (before between : Option (List ℕ)) → Writes one w → came_of first ≡ Finished
    → Carries w first (a_run ∷ []) outside outside a b before between → CarryBoth (Did one line.Run) Finished a b x x before between
run_did w first a b x before between is done f = subst (λ (r : PairRun). CarryBoth (Did one line.Run) r a b x x before between) done (run_on_one w first a b x before between is f)

pub crossing_cut : (links : List LinkElem) (answer : PairRun) (a b c x y : NodeState) (before between now : Option (List ℕ)) → answer ≢ Finished
    → CarryBoth (Did one line.Run) Finished a b x x before between → CarryBoth (Crosses links) answer b c x y between now → CarryBoth (Makes links line.Run) answer a c x y before now
crossing_cut links answer a b c x y before between now cut f g =
    then_goes (Did one line.Run) (after_run links) answer a b c x x y before between now f
    (then_cut (Crosses links) (Did two line.Run) answer b c c x y y between now cut (did_may two line.Run run_can) g)

pub runs_both : (v : Writing) (links : List LinkElem) (second : ScriptRun) (a b c x y z : NodeState) (before between later now : Option (List ℕ)) → Writes two v
    → CarryBoth (Did one line.Run) Finished a b x x before between → CarryBoth (Crosses links) Finished b c x y between later
    → Carries v second (a_run ∷ []) outside outside y z later now → CarryBoth (Makes links line.Run) (came_of second) a c x z before now
runs_both v links second a b c x y z before between later now is f g h =
    then_goes (Did one line.Run) (after_run links) (came_of second) a b c x x z before between now f
    (then_goes (Crosses links) (Did two line.Run) (came_of second) b c c x y z between later now g (run_on_two v second y z c later now is h))

-- ---- one of a list behind those before it

module _ {X : Type 0} (kind : X → Joint → Type 0) (xs : List X) (i : ℕ) (e : X) (within : i < length xs) (is : e ≡ get_or xs i e)
    (a b c x y z : NodeState) (before between now : Option (List ℕ)) (so_far : CarryBoth (InOrder kind (take i xs)) Finished a b x y before between) where
  pub one_more : CarryBoth (kind e) Finished b c y z between now → CarryBoth (InOrder kind (take (i + 1) xs)) Finished a c x z before now
  one_more f =
      widened (Then (InOrder kind (take i xs)) (kind e)) (InOrder kind (take (i + 1) xs)) Finished a c x z before now (in_order_next kind xs i e within is)
      (then_goes (InOrder kind (take i xs)) (kind e) Finished a b c x y z before between now so_far f)

  pub one_cut : (answer : PairRun) → answer ≢ Finished → MayCome (InOrder kind (drop (suc i) xs)) → CarryBoth (kind e) answer b c y z between now → CarryBoth (InOrder kind xs) answer a c x z before now
  one_cut answer cut may f =
      widened (Then (InOrder kind (take i xs)) (Then (kind e) (InOrder kind (drop (suc i) xs)))) (InOrder kind xs) answer a c x z before now (in_order_whole kind xs i e within is)
      (then_goes (InOrder kind (take i xs)) (Then (kind e) (InOrder kind (drop (suc i) xs))) answer a b c x y z before between now so_far
      (then_cut (kind e) (InOrder kind (drop (suc i) xs)) answer b c c y z z between now cut may f))

pub all_done : {X : Type 0} → (kind : X → Joint → Type 0) (xs : List X) (i : ℕ) (a b x y : NodeState) (before now : Option (List ℕ)) → length xs ≤ i
    → CarryBoth (InOrder kind (take i xs)) Finished a b x y before now → CarryBoth (InOrder kind xs) Finished a b x y before now
all_done {X} kind xs i a b x y before now past f =
    subst (λ (ys : List X). CarryBoth (InOrder kind ys) Finished a b x y before now) (take_all i xs past) f

-- lines that are left may come
pub lines_may : (p : Plan) (links : List LinkElem) (lines : List Line) (n : ℕ) → All (IsPairLine p links) lines → MayCome (Follows links (drop n lines))
lines_may p links lines n all = follows_may links p (drop n lines) (λ k d h. (All-drop (IsPairLine p links) n lines all k d h).carriable)

pub links_may : (links : List LinkElem) (n : ℕ) → MayCome (Crosses (drop n links))
links_may links n = crosses_may (drop n links)
