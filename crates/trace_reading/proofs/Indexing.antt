-- A table that has what stands at some places and behind them, and one place more.
use Rattle.std.proofs.Common.{◌≡◌, ℕ, suc, ◌+◌, ◌<◌, Bool, true, false, ◌&&◌, cond, List, ◌∷◌, map, length, drop, get_or, bytes_eq, nat_eq, option_map, Option, Some, None, refl, sym, ap, ◌∙◌, arith}
use Rattle.bus_semantics.specs.Common.{position, position_from, slice_get, option_eq, option_map_or, slice_get-get_or, slice_get-map, same_number, Plan, Runnable, instance_of, look, Letters}
use Rattle.std.proofs.Math.Seq.{drop-cons}
use Rattle.std.proofs.lemmas.Iterator.Adapters.{position_from-zero}
use Rattle.indexmap.specs.IndexMap.{IndexMap, get}
use Rattle.bus_laws.specs.Common.{AreaPlan, ElemPlan, EventPlan, MachinePlan, ModePortPlan, PointPlan}
use Rattle.line_fields.proofs.Found.{position-map}
use Rattle.line_fields.specs.Named.{is_area, is_elem, is_event, is_machine, is_mode_port, is_point, is_runnable, is_text}
use Rattle.trace_reading.specs.Finding.{home_of_caller, is_result}
use Rattle.trace_reading.specs.declared.tables.Kind.{Kind}
use Rattle.trace_reading.specs.declared.tables.Kind.TheVariants.{Instance, Runnable as a_runnable, Elem, Point, Result, Area, Machine, ModePort, Event}
use Rattle.trace_reading.specs.Tables.{IsNoted, Key, Label, first_of, goes_by, label_at, label_of, labels, result_label, same_key}

look-map : {X : Type 0} (f : X → Option Label) (xs : List X) (x : ℕ) → look xs x f None ≡ look (map f xs) x (λ (o : Option Label). o) None
look-map {X} f xs x = by (slice_get xs x) ∙ ap (λ o. option_map_or (λ (l : Option Label). l) o None) (sym (slice_get-map f xs x))
  where
    by : (o : Option X) → option_map_or f o None ≡ option_map_or (λ (l : Option Label). l) (option_map f o) None
    by None = refl
    by (Some y) = refl

label-labels : (k : Kind) (p : Plan) (x : ℕ) → label_at k p x ≡ look (labels k p) x (λ (o : Option Label). o) None
label-labels Instance p x = look-map (λ (t : Letters). Some (None, t)) p.names x
label-labels a_runnable p x = look-map (λ (r : Runnable). Some (Some r.instance, r.name)) p.runnables x
label-labels Elem p x = look-map (λ (e : ElemPlan). Some (e.instance, e.name)) p.elements x
label-labels Point p x = look-map (λ (t : PointPlan). Some (t.runnable, t.name)) p.points x
label-labels Result p x = look-map (result_label p) p.points x
label-labels Area p x = look-map (λ (a : AreaPlan). Some (Some a.instance, a.name)) p.areas x
label-labels Machine p x = look-map (λ (n : MachinePlan). Some (n.instance, n.name)) p.machines x
label-labels ModePort p x = look-map (λ (t : ModePortPlan). Some (t.instance, t.name)) p.mode_ports x
label-labels Event p x = look-map (λ (v : EventPlan). Some (instance_of p v.runnable, v.name)) p.events x

same_tests : (a b : Option ℕ) → option_eq nat_eq a b ≡ same_number a b
same_tests None None = refl
same_tests None (Some b) = refl
same_tests (Some a) None = refl
same_tests (Some a) (Some b) = refl

-- one place more
pub noted : {S : Type 0} (k : Kind) (p : Plan) (j left : ℕ) (o : Option Key) (m n : IndexMap Key ℕ S) → j < length (labels k p) → left ≡ j + 1 → label_of o ≡ label_at k p j → IsNoted o j m n
    → ((q : Key) → get same_key m q ≡ position_from (goes_by q.0 q.1.now) left (drop left (labels k p)))
    → (q : Key) → get same_key n q ≡ position_from (goes_by q.0 q.1.now) j (drop j (labels k p))
noted {S} k p j left o m n less next is put before q = by o is put ∙ sym (ap (position_from test j) here)
  where
    ls : List (Option Label)
    ls = labels k p

    test : Option Label → Bool
    test l = goes_by q.0 q.1.now l

    here : drop j ls ≡ get_or ls j None ∷ drop (j + 1) ls
    here = drop-cons ls j None less ∙ ap (λ i. get_or ls j None ∷ drop i ls) (let e : suc j ≡ j + 1 = omega arith in e)

    at : label_at k p j ≡ get_or ls j None
    at = label-labels k p j ∙ ap (λ l. option_map_or (λ (x : Option Label). x) l None) (slice_get-get_or ls j None less)

    rest : get same_key m q ≡ position_from test (j + 1) (drop (j + 1) ls)
    rest = before q ∙ ap (λ i. position_from test i (drop i ls)) next

    by : (o : Option Key) → label_of o ≡ label_at k p j → IsNoted o j m n → get same_key n q ≡ cond (test (get_or ls j None)) (Some j) (position_from test (j + 1) (drop (j + 1) ls))
    by None e put = put q ∙ rest ∙ ap (λ l. cond (test l) (Some j) (position_from test (j + 1) (drop (j + 1) ls))) (e ∙ at)
    by (Some key) e put =
        put q
        ∙ ap (λ r. cond (same_key key q) (Some j) r) rest
        ∙ ap (λ b. cond (b && bytes_eq key.1.now q.1.now) (Some j) (position_from test (j + 1) (drop (j + 1) ls))) (same_tests key.0 q.0)
        ∙ ap (λ l. cond (test l) (Some j) (position_from test (j + 1) (drop (j + 1) ls))) (e ∙ at)

-- all places
pub all_noted : (k : Kind) (p : Plan) (home : Option ℕ) (name : Letters) → position_from (goes_by home name) 0 (labels k p) ≡ first_of k p home name
all_noted k p home name = sym (position_from-zero (goes_by home name) (labels k p))

-- ---- in the words of walks

pub first_instance : (p : Plan) (t : Letters) → first_of Instance p None t ≡ position (is_text t) p.names
first_instance p t = sym (position-map (goes_by None t) (λ (u : Letters). Some (None, u)) p.names)

pub first_runnable : (p : Plan) (home : Option ℕ) (t : Letters) → first_of a_runnable p home t ≡ position (is_runnable home t) p.runnables
first_runnable p home t = sym (position-map (goes_by home t) (λ (r : Runnable). Some (Some r.instance, r.name)) p.runnables)

pub first_elem : (p : Plan) (home : Option ℕ) (t : Letters) → first_of Elem p home t ≡ position (is_elem home t) p.elements
first_elem p home t = sym (position-map (goes_by home t) (λ (e : ElemPlan). Some (e.instance, e.name)) p.elements)

pub first_point : (p : Plan) (caller : Option ℕ) (t : Letters) → first_of Point p caller t ≡ position (is_point caller t) p.points
first_point p caller t = sym (position-map (goes_by caller t) (λ (q : PointPlan). Some (q.runnable, q.name)) p.points)

pub first_result : (p : Plan) (home : Option ℕ) (t : Letters) → first_of Result p home t ≡ position (is_result p home t) p.points
first_result p home t = sym (position-map (goes_by home t) (result_label p) p.points) ∙ (λ i. position (λ (q : PointPlan). same q i) p.points)
  where
    same : (q : PointPlan) → goes_by home t (result_label p q) ≡ is_result p home t q
    same q = by q.asynchronous
      where
        by : (b : Bool) → goes_by home t (cond b (Some (home_of_caller p q.runnable, q.name)) None) ≡ (b && (same_number (home_of_caller p q.runnable) home && bytes_eq q.name t))
        by true = refl
        by false = refl

pub first_area : (p : Plan) (home : Option ℕ) (t : Letters) → first_of Area p home t ≡ position (is_area home t) p.areas
first_area p home t = sym (position-map (goes_by home t) (λ (a : AreaPlan). Some (Some a.instance, a.name)) p.areas)

pub first_machine : (p : Plan) (home : Option ℕ) (t : Letters) → first_of Machine p home t ≡ position (is_machine home t) p.machines
first_machine p home t = sym (position-map (goes_by home t) (λ (n : MachinePlan). Some (n.instance, n.name)) p.machines)

pub first_mode_port : (p : Plan) (home : Option ℕ) (t : Letters) → first_of ModePort p home t ≡ position (is_mode_port home t) p.mode_ports
first_mode_port p home t = sym (position-map (goes_by home t) (λ (u : ModePortPlan). Some (u.instance, u.name)) p.mode_ports)

pub first_event : (p : Plan) (home : Option ℕ) (t : Letters) → first_of Event p home t ≡ position (is_event p home t) p.events
first_event p home t = sym (position-map (goes_by home t) (λ (v : EventPlan). Some (instance_of p v.runnable, v.name)) p.events)
