-- Calls of two nodes, one after the other: what each adds to a joint session, or begins to add where a fault cut it off.
use Rattle.std.proofs.Common.{◌≡◌, ◌≢◌, ℕ, true, List, [], ◌∷◌, ◌++◌, Option, refl, sym, subst, append_assoc, append-nil}
use Rattle.rte_text.specs.Sinks.{AppendsWhereTold, AppendsPrefixWhereTold}
use Rattle.rte_text.specs.Told.{appends_both, appends_none, prefix_after, prefix_whole}
use Rattle.bus_laws.specs.Common.{Line, Mapping}
use Rattle.bus_semantics.specs.Common.{IsLegal, Plan, plan_of, IsLegalRun, Ordered, Session, history_of, orders_of_script}
use Rattle.pair_run.specs.Common.{EnvironmentKeepsLimits, PairRun, Finished, Failed, LinkFailed, Memory, Then, Did, Joint, one, two, side_of, all_on, joint_lines, StandBoth, CutsBoth}
use Rattle.pair_run.specs.Common.{CarryBoth, came_of, Writes}
use Rattle.core_runtime.specs.Nodes.{NodeState}
use Rattle.script_run.specs.declared.script.ScriptRun.{ScriptRun}
use Rattle.script_run.specs.declared.script.ScriptRun.TheVariants as run
use Rattle.script_run.specs.declared.writing.Writing.{Writing}
use Rattle.script_run.specs.Standing.{StandsIn, IsCut, Carries, Place, outside}
use Rattle.script_run.proofs.Added.{added_is_session, cut_is_beginning}
use Rattle.script_run.proofs.Sessions.{run_from_nothing}
use Rattle.pair_run.specs.Standing.{StandsOn, AddsBoth, GoOn}
use Rattle.pair_run.proofs.Completing.{CanDoAll, MayCome, completes}
use Rattle.pair_run.proofs.Joints.{all-append, one-behind, one-beside, two-behind, two-beside, lines-append, lines-all, then_both}
use Rattle.pair_run.proofs.Limits.{orders_keep, keeps_onto, session_keeps}

-- ---- what stands

pub legal_now : (p : Plan) (m : Mapping) (orders : List Ordered) (place : Place) (node : NodeState) (s : Session) → StandsIn p m [] orders place node s → IsLegal p (history_of s)
legal_now p m orders place node s stands =
    subst (IsLegal p) (append-nil (history_of s)) (subst (λ (r : Plan). IsLegal r (history_of s ++ [])) stands.plan stands.lawful.legal)

-- both sides have run legally
pub one_legal : (p : Plan) (m : Mapping) (q : Plan) (n : Mapping) (first second : NodeState) (j : Joint) → StandBoth p m q n first second j → IsLegalRun p m (side_of one j)
one_legal p m q n first second j stands = run_from_nothing p m (side_of one j) stands.on_one.1.legal

pub two_legal : (p : Plan) (m : Mapping) (q : Plan) (n : Mapping) (first second : NodeState) (j : Joint) → StandBoth p m q n first second j → IsLegalRun q n (side_of two j)
two_legal p m q n first second j stands = run_from_nothing q n (side_of two j) stands.on_two.1.legal

-- what one does leaves two as it stands
pub stands_on_one : (p : Plan) (m : Mapping) (q : Plan) (n : Mapping) (old new other : NodeState) (j : Joint) (s : Session) (orders : List Ordered)
    → StandBoth p m q n old other j → StandsIn p m [] orders outside new (s ++ side_of one j) → EnvironmentKeepsLimits p (history_of s)
    → StandBoth p m q n new other (all_on one s ++ j)
stands_on_one p m q n old new other j s orders stands now keeps = record {
  sound_one = stands.sound_one;
  sound_two = stands.sound_two;
  on_one = (orders, subst (StandsIn p m [] orders outside new) (sym (one-behind s j)) now);
  on_two = subst (StandsOn q n other) (sym (two-beside s j)) stands.on_two;
  limits = subst (λ (t : Session). EnvironmentKeepsLimits p (history_of t)) (sym (one-behind s j)) (keeps_onto p s (side_of one j) keeps stands.limits);
}

pub stands_on_two : (p : Plan) (m : Mapping) (q : Plan) (n : Mapping) (old new other : NodeState) (j : Joint) (s : Session) (orders : List Ordered)
    → StandBoth p m q n other old j → StandsIn q n [] orders outside new (s ++ side_of two j)
    → StandBoth p m q n other new (all_on two s ++ j)
stands_on_two p m q n old new other j s orders stands now = record {
  sound_one = stands.sound_one;
  sound_two = stands.sound_two;
  on_one = subst (StandsOn p m other) (sym (one-beside s j)) stands.on_one;
  on_two = (orders, subst (StandsIn q n [] orders outside new) (sym (two-behind s j)) now);
  limits = subst (λ (t : Session). EnvironmentKeepsLimits p (history_of t)) (sym (one-beside s j)) stands.limits;
}

-- ---- a line on one side

module _ (w : Writing) (l : Line) (old new other : NodeState) (before now : Option (List ℕ)) (can : CanDoAll (orders_of_script (l ∷ []))) where
  one_cut : Writes one w → (p : Plan) (m : Mapping) (q : Plan) (n : Mapping) (j : Joint) → (stands : StandBoth p m q n old other j)
      → IsCut w p m [] (stands.on_one.0 ++ orders_of_script (l ∷ [])) (side_of one j) before now → CutsBoth (Did one l) p m q n j before now
  one_cut is p m q n j stands c =
      let more = completes (l ∷ []) c.items can (cut_is_beginning w p m [] stands.on_one.0 old (side_of one j) (l ∷ []) before now stands.on_one.1 c) in
      record {
        items = all_on one c.items;
        later = all_on one more.0;
        is = record { session = more.0 ++ c.items; is = sym (all-append one more.0 c.items); of_line = more.1 };
        legal_one = subst (IsLegalRun p m) (sym (one-behind c.items j)) (run_from_nothing p m (c.items ++ side_of one j) c.legal);
        legal_two = subst (IsLegalRun q n) (sym (two-beside c.items j)) (two_legal p m q n old other j stands);
        put = subst (AppendsPrefixWhereTold before now) (sym (lines-all one w p q c.items is)) c.put;
      }

  two_cut : Writes two w → (p : Plan) (m : Mapping) (q : Plan) (n : Mapping) (j : Joint) → (stands : StandBoth p m q n other old j)
      → IsCut w q n [] (stands.on_two.0 ++ orders_of_script (l ∷ [])) (side_of two j) before now → CutsBoth (Did two l) p m q n j before now
  two_cut is p m q n j stands c =
      let more = completes (l ∷ []) c.items can (cut_is_beginning w q n [] stands.on_two.0 old (side_of two j) (l ∷ []) before now stands.on_two.1 c) in
      record {
        items = all_on two c.items;
        later = all_on two more.0;
        is = record { session = more.0 ++ c.items; is = sym (all-append two more.0 c.items); of_line = more.1 };
        legal_one = subst (IsLegalRun p m) (sym (one-beside c.items j)) (one_legal p m q n other old j stands);
        legal_two = subst (IsLegalRun q n) (sym (two-behind c.items j)) (run_from_nothing q n (c.items ++ side_of two j) c.legal);
        put = subst (AppendsPrefixWhereTold before now) (sym (lines-all two w p q c.items is)) c.put;
      }

  pub one_carries : Writes one w → (answer : ScriptRun) → ((p : Plan) → plan_of old.plan ≡ p → orders_keep p (orders_of_script (l ∷ [])) ≡ true)
      → Carries w answer (orders_of_script (l ∷ [])) outside outside old new before now → CarryBoth (Did one l) (came_of answer) old new other other before now
  one_carries is run.Finished keeps f p m q n j stands =
      let here = stands.on_one.1 in
      let d = f p m [] stands.on_one.0 (side_of one j) here in
      let session = added_is_session p m [] stands.on_one.0 old new (side_of one j) d.items (l ∷ []) here d.stands in
      let kept = session_keeps p d.items (subst (λ (os : List Ordered). orders_keep p os ≡ true) (sym session.orders) (keeps p here.plan)) in
      record {
        items = all_on one d.items;
        is = record { session = d.items; is = refl; of_line = session };
        stand = stands_on_one p m q n old new other j d.items (stands.on_one.0 ++ orders_of_script (l ∷ [])) stands d.stands kept;
        put = subst (AppendsWhereTold before now) (sym (lines-all one w p q d.items is)) d.put;
      }
  one_carries is run.Failed keeps f p m q n j stands = one_cut is p m q n j stands (f p m [] stands.on_one.0 (side_of one j) stands.on_one.1)
  one_carries is run.Memory keeps f p m q n j stands = one_cut is p m q n j stands (f p m [] stands.on_one.0 (side_of one j) stands.on_one.1)

  pub two_carries : Writes two w → (answer : ScriptRun)
      → Carries w answer (orders_of_script (l ∷ [])) outside outside old new before now → CarryBoth (Did two l) (came_of answer) other other old new before now
  two_carries is run.Finished f p m q n j stands =
      let here = stands.on_two.1 in
      let d = f q n [] stands.on_two.0 (side_of two j) here in
      record {
        items = all_on two d.items;
        is = record { session = d.items; is = refl; of_line = added_is_session q n [] stands.on_two.0 old new (side_of two j) d.items (l ∷ []) here d.stands };
        stand = stands_on_two p m q n old new other j d.items (stands.on_two.0 ++ orders_of_script (l ∷ [])) stands d.stands;
        put = subst (AppendsWhereTold before now) (sym (lines-all two w p q d.items is)) d.put;
      }
  two_carries is run.Failed f p m q n j stands = two_cut is p m q n j stands (f q n [] stands.on_two.0 (side_of two j) stands.on_two.1)
  two_carries is run.Memory f p m q n j stands = two_cut is p m q n j stands (f q n [] stands.on_two.0 (side_of two j) stands.on_two.1)

-- ---- one kind after the other

-- nothing was done
pub none_done : (kind : Joint → Type 0) (first second : NodeState) (told : Option (List ℕ)) → kind [] → CarryBoth kind Finished first first second second told told
none_done kind first second told is p m q n j stands = record { items = []; is = is; stand = stands; put = appends_none told }

-- nothing was done, and the end came
pub stops_here : (kind : Joint → Type 0) (answer : PairRun) (a b c d : NodeState) (told : Option (List ℕ)) → answer ≢ Finished → MayCome kind → CarryBoth kind answer a b c d told told
stops_here kind answer a b c d told cut may p m q n j stands = by_answer answer cut
  where
    all : CutsBoth kind p m q n j told told
    all = record {
      items = [];
      later = may.0;
      is = subst kind (sym (append-nil may.0)) may.1;
      legal_one = one_legal p m q n a c j stands;
      legal_two = two_legal p m q n a c j stands;
      put = prefix_whole told told [] (appends_none told);
    }

    by_answer : (answer : PairRun) → answer ≢ Finished → GoOn kind answer p m q n b d j told told
    by_answer Finished cut = absurd (cut refl)
    by_answer Failed cut = all
    by_answer LinkFailed cut = all
    by_answer Memory cut = all

module _ (A B : Joint → Type 0) (p : Plan) (m : Mapping) (q : Plan) (n : Mapping) (j : Joint) (before between now : Option (List ℕ)) where
  -- the first is whole, and the second is cut off
  second_cut : (items : Joint) → A items → AppendsWhereTold before between (joint_lines p q items) → CutsBoth B p m q n (items ++ j) between now → CutsBoth (Then A B) p m q n j before now
  second_cut items a put c =
      let all : c.items ++ (items ++ j) ≡ (c.items ++ items) ++ j = sym (append_assoc c.items items j) in
      record {
        items = c.items ++ items;
        later = c.later;
        is = subst (Then A B) (append_assoc c.later c.items items) (then_both A B items (c.later ++ c.items) a c.is);
        legal_one = subst (λ (k : Joint). IsLegalRun p m (side_of one k)) all c.legal_one;
        legal_two = subst (λ (k : Joint). IsLegalRun q n (side_of two k)) all c.legal_two;
        put = subst (AppendsPrefixWhereTold before now) (sym (lines-append p q c.items items)) (prefix_after before (joint_lines p q items) put c.put);
      }

  first_cut : MayCome B → CutsBoth A p m q n j before now → CutsBoth (Then A B) p m q n j before now
  first_cut may c = record {
    items = c.items;
    later = may.0 ++ c.later;
    is = subst (Then A B) (sym (append_assoc may.0 c.later c.items)) (then_both A B (c.later ++ c.items) may.0 c.is may.1);
    legal_one = c.legal_one;
    legal_two = c.legal_two;
    put = c.put;
  }

  both_whole : (first second : NodeState) (items : Joint) → A items → AppendsWhereTold before between (joint_lines p q items)
      → AddsBoth B p m q n first second (items ++ j) between now → AddsBoth (Then A B) p m q n first second j before now
  both_whole first second items a put d = record {
    items = d.items ++ items;
    is = then_both A B items d.items a d.is;
    stand = subst (StandBoth p m q n first second) (sym (append_assoc d.items items j)) d.stand;
    put = subst (AppendsWhereTold before now) (sym (lines-append p q d.items items)) (appends_both before between now (joint_lines p q items) (joint_lines p q d.items) put d.put);
  }

  second_on : (answer : PairRun) (first second : NodeState) (items : Joint) → A items → AppendsWhereTold before between (joint_lines p q items)
      → GoOn B answer p m q n first second (items ++ j) between now → GoOn (Then A B) answer p m q n first second j before now
  second_on Finished first second items a put g = both_whole first second items a put g
  second_on Failed first second items a put g = second_cut items a put g
  second_on LinkFailed first second items a put g = second_cut items a put g
  second_on Memory first second items a put g = second_cut items a put g

pub then_goes : (A B : Joint → Type 0) (answer : PairRun) (a b c x y z : NodeState) (before between now : Option (List ℕ))
    → CarryBoth A Finished a b x y before between → CarryBoth B answer b c y z between now → CarryBoth (Then A B) answer a c x z before now
then_goes A B answer a b c x y z before between now f g p m q n j stands =
    let d = f p m q n j stands in
    second_on A B p m q n j before between now answer c z d.items d.is d.put (g p m q n (d.items ++ j) d.stand)

-- the first is cut off, and the second would come
pub then_cut : (A B : Joint → Type 0) (answer : PairRun) (a b c x y z : NodeState) (before now : Option (List ℕ)) → answer ≢ Finished → MayCome B
    → CarryBoth A answer a b x y before now → CarryBoth (Then A B) answer a c x z before now
then_cut A B Finished a b c x y z before now cut may f = absurd (cut refl)
then_cut A B Failed a b c x y z before now cut may f = λ p m q n j stands. first_cut A B p m q n j before before now may (f p m q n j stands)
then_cut A B LinkFailed a b c x y z before now cut may f = λ p m q n j stands. first_cut A B p m q n j before before now may (f p m q n j stands)
then_cut A B Memory a b c x y z before now cut may f = λ p m q n j stands. first_cut A B p m q n j before before now may (f p m q n j stands)

cut_wide : (A B : Joint → Type 0) (before now : Option (List ℕ)) → ((j : Joint) → A j → B j) → (p : Plan) (m : Mapping) (q : Plan) (n : Mapping) (j : Joint)
    → CutsBoth A p m q n j before now → CutsBoth B p m q n j before now
cut_wide A B before now wide p m q n j c = record {
  items = c.items;
  later = c.later;
  is = wide (c.later ++ c.items) c.is;
  legal_one = c.legal_one;
  legal_two = c.legal_two;
  put = c.put;
}

-- what is of one kind is of another
pub widened : (A B : Joint → Type 0) (answer : PairRun) (a b x y : NodeState) (before now : Option (List ℕ)) → ((j : Joint) → A j → B j)
    → CarryBoth A answer a b x y before now → CarryBoth B answer a b x y before now
widened A B Finished a b x y before now wide f = λ p m q n j stands.
    let d = f p m q n j stands in record { items = d.items; is = wide d.items d.is; stand = d.stand; put = d.put }
widened A B Failed a b x y before now wide f = λ p m q n j stands. cut_wide A B before now wide p m q n j (f p m q n j stands)
widened A B LinkFailed a b x y before now wide f = λ p m q n j stands. cut_wide A B before now wide p m q n j (f p m q n j stands)
widened A B Memory a b x y before now wide f = λ p m q n j stands. cut_wide A B before now wide p m q n j (f p m q n j stands)
