-- How a round ends: its log in order of stamps, and all objects at home.
use Rattle.std.proofs.Common.{◌≡◌, ◌<◌, ◌≤◌, ◌+◌, ◌-◌, ◌*◌, ◌==◌, ℕ, zero, suc, Bool, true, false, ◌&&◌, is_some, if◌then◌else◌, List, [], ◌∷◌, ◌++◌, map, length, length-append, refl, sym}
use Rattle.std.proofs.Common.{◌∙◌, ap, subst, ⊎_elim, arith, eq-eqb, lt-ltb, filter, slice_get, nat_lt, Option, Some, None, option_and_then}
use Rattle.bus_semantics.specs.Common.{and_parts, map-append, length-map, Plan, every_from, positions, Noted, Past, touches, Logged, part_of, stamps_count, IsInterleaved, past_of}
use mathlib.Core.Logic.{dite}
use native.Mathlib.Decide.{ℕ_discrete}
use mathlib.Core.Option.{some, some-injective}
use lib.ListN.{get_elem?}
use Rattle.bus_semantics.specs.declared.entries.Stamped.{Stamped}
use Rattle.object_kinds.proofs.Options.{then_some}
use Rattle.object_kinds.proofs.Lists.{mapped_at}
use Rattle.object_kinds.proofs.Positions.{length_positions}
use Rattle.port_objects.specs.declared.object.Object.{Object}
use Rattle.port_objects.specs.Common.{Kept, lead, leads, kept_of, Stands}
use Rattle.cross_core_table.specs.Common.{Opening, Held, Part, View, noted_as, on_object, made_by, AreCounted, AreOf, plan_in, kept_after, Table, word_of, IsSpent, AreJoined, IsAtHome}
use Rattle.cross_core_table.specs.Common.{IsTaken, RoundRule, Among, HasAll, IsWhole}
use Rattle.cross_core_table.specs.Closing.{touching}
use Rattle.cross_core_table.proofs.Lists.{at_within}
use Rattle.cross_core_table.proofs.Logs.{log_within}

-- ---- the log in order of stamps

-- the log, the oldest first
pub in_order : List Logged → List Logged
in_order [] = []
in_order (l ∷ log) = in_order log ++ l ∷ []

-- its entries
abbrev pub entries_in : List Logged → List Stamped
entries_in log = map (λ (l : Logged). l.stamped) (in_order log)

every_end : {X : Type 0} (f : ℕ → X → Bool) (i : ℕ) (xs : List X) (x : X) → every_from i f xs ≡ true → f (i + length xs) x ≡ true → every_from i f (xs ++ x ∷ []) ≡ true
every_end f i [] x all last = ap (λ b. b && true) (subst (λ (n : ℕ). f n x ≡ true) (omega arith) last)
every_end f i (y ∷ xs) x all last =
    let t = and_parts (f i y) (every_from (i + 1) f xs) all in
    ap (λ b. b && every_from (i + 1) f (xs ++ x ∷ [])) t.0 ∙ every_end f (i + 1) xs x t.1 (subst (λ (n : ℕ). f n x ≡ true) (omega arith) last)

part_end : (c : ℕ) (xs : List Logged) (l : Logged) → part_of c (xs ++ l ∷ []) ≡ (if l.core == c then part_of c xs ++ l.stamped ∷ [] else part_of c xs)
part_end c [] l = by_test (l.core == c)
  where
    by_test : (b : Bool) → (if b then l.stamped ∷ [] else []) ≡ (if b then l.stamped ∷ [] else [])
    by_test b = refl
part_end c (x ∷ xs) l = by_tests (x.core == c) (l.core == c) (part_end c xs l)
  where
    by_tests : (a b : Bool) → part_of c (xs ++ l ∷ []) ≡ (if b then part_of c xs ++ l.stamped ∷ [] else part_of c xs)
        → (if a then x.stamped ∷ part_of c (xs ++ l ∷ []) else part_of c (xs ++ l ∷ []))
        ≡ (if b then (if a then x.stamped ∷ part_of c xs else part_of c xs) ++ l.stamped ∷ [] else (if a then x.stamped ∷ part_of c xs else part_of c xs))
    by_tests true true e = ap (λ (ys : List Stamped). x.stamped ∷ ys) e
    by_tests true false e = ap (λ (ys : List Stamped). x.stamped ∷ ys) e
    by_tests false true e = e
    by_tests false false e = e

-- what a core made stands in its order
pub part_in_order : (c : ℕ) (log : List Logged) → part_of c (in_order log) ≡ made_by c log
unfolding in_order
part_in_order c [] = refl
part_in_order c (l ∷ log) = part_end c (in_order log) l ∙ ap (λ (xs : List Stamped). if l.core == c then xs ++ l.stamped ∷ [] else xs) (part_in_order c log)

entries_end : (log : List Logged) (l : Logged) → entries_in (l ∷ log) ≡ entries_in log ++ l.stamped ∷ []
unfolding in_order
entries_end log l = map-append (λ (x : Logged). x.stamped) (in_order log) (l ∷ [])

pub entries_length : (log : List Logged) → length (entries_in log) ≡ length log
unfolding in_order
entries_length [] = refl
entries_length (l ∷ log) = ap (λ (xs : List Stamped). length xs) (entries_end log l) ∙ omega (arith, length-append (entries_in log) (l.stamped ∷ []), entries_length log)

counted : (log : List Logged) → AreCounted log → stamps_count (entries_in log) ≡ true
unfolding in_order
counted [] all = refl
counted (l ∷ log) all =
    subst (λ (xs : List Stamped). stamps_count xs ≡ true) (sym (entries_end log l))
    (every_end (λ i (s : Stamped). s.stamp == i) 0 (entries_in log) l.stamped (counted log all.1) (eq-eqb l.stamped.stamp (0 + length (entries_in log)) (omega (arith, all.0, entries_length log))))

of_cores : (n : ℕ) (log : List Logged) → AreOf n log → every_from 0 (λ i (l : Logged). nat_lt l.core n) (in_order log) ≡ true
unfolding in_order
of_cores n [] all = refl
of_cores n (l ∷ log) all = every_end (λ i (x : Logged). nat_lt x.core n) 0 (in_order log) l (of_cores n log all.1) (lt-ltb l.core n all.0)

-- the entries in order are an interleaving of what the cores made
pub is_interleaved : (n : ℕ) (log : List Logged) → AreCounted log → AreOf n log → IsInterleaved (entries_in log) (map (λ c. made_by c log) (positions n))
is_interleaved n log stamps cores =
    let parts : List (List Stamped) = map (λ c. made_by c log) (positions n) in
    let long : length parts ≡ n = length-map (positions n) (λ c. made_by c log) ∙ length_positions n in
    record {
      log = in_order log;
      whole = refl;
      stamps = counted log stamps;
      cores = subst (λ (m : ℕ). every_from 0 (λ i (l : Logged). nat_lt l.core m) (in_order log) ≡ true) (sym long) (of_cores n log cores);
      each = subst (λ (m : ℕ). map (λ c. part_of c (in_order log)) (positions m) ≡ parts) (sym long) (map_same (positions n));
    }
  where
    map_same : (cs : List ℕ) → map (λ c. part_of c (in_order log)) cs ≡ map (λ c. made_by c log) cs
    map_same [] = refl
    map_same (c ∷ cs) = λ i. part_in_order c log i ∷ map_same cs i

-- ---- what touches an object

past_end : (xs : List Stamped) (s : Stamped) → past_of (xs ++ s ∷ []) ≡ noted_as s ∷ past_of xs
past_end [] s = refl
past_end (x ∷ xs) s = ap (λ (l : Past). l ++ noted_as x ∷ []) (past_end xs s)

pub touching_is : (p : Plan) (o : ℕ) (log : List Logged) → touching p o (entries_in log) ≡ map noted_as (on_object p o log)
unfolding in_order
touching_is p o [] = refl
touching_is p o (l ∷ log) =
    ap (λ (xs : List Stamped). filter (touches p o) (past_of xs)) (entries_end log l)
    ∙ (ap (λ (xs : Past). filter (touches p o) xs) (past_end (entries_in log) l.stamped) ∙ by_test (touches p o (noted_as l.stamped)) (touching_is p o log))
  where
    by_test : (b : Bool) → touching p o (entries_in log) ≡ map noted_as (on_object p o log)
        → (if b then noted_as l.stamped ∷ touching p o (entries_in log) else touching p o (entries_in log)) ≡ map noted_as (if b then l.stamped ∷ on_object p o log else on_object p o log)
    by_test true e = ap (λ (xs : Past). noted_as l.stamped ∷ xs) e
    by_test false e = e

-- ---- the law of leads along a list

pub leads_stand : (p : Plan) (o : ℕ)
    → ((before after : Kept) (l : Past) (n : Noted) → Stands p o before l → lead p o before n ≡ Some after → Stands p o after (n ∷ l))
    → (first last : Kept) (l ns : Past) → Stands p o first l → leads p o first ns ≡ Some last → Stands p o last (ns ++ l)
leads_stand p o law first last l [] stands e = let same : first ≡ last = cc e in subst (λ (k : Kept). Stands p o k l) same stands
leads_stand p o law first last l (n ∷ ns) stands e =
    let t = then_some (λ (k : Kept). lead p o k n) (leads p o first ns) last e in
    law t.item last (ns ++ l) n (leads_stand p o law first t.item l ns stands t.is) t.gives

-- what an object keeps after entries is what the lead gives from its first state
pub kept_leads : (k : Opening) (o : ℕ) (l : List Stamped) (before : Object) (last : Kept) → slice_get k.objects.value.items o ≡ Some before → kept_after k o l ≡ Some last
    → leads (plan_in k) o (kept_of before) (map noted_as l) ≡ Some last
unfolding kept_after
kept_leads k o l before last at e = sym (ap (option_and_then (λ (x : Object). leads (plan_in k) o (kept_of x) (map noted_as l))) at) ∙ e

-- ---- all objects are at home

pub joined_at : (vs : List View) (log : List Logged) (xs : List Part) (x : Part) → AreJoined vs log xs → Among xs x
    → (x.entries ≡ made_by x.core log) × ((u : View) × (get_elem? vs x.core ≡ some u) × IsSpent u)
joined_at vs log [] x all among = absurd among
joined_at vs log (y ∷ ys) x all among = ⊎_elim
    (λ e. subst (λ (z : Part). (z.entries ≡ made_by z.core log) × ((u : View) × (get_elem? vs z.core ≡ some u) × IsSpent u)) e (all.0, all.1))
    (λ more. joined_at vs log ys x all.2 more) among

pub all_home : (k : Opening) (s : Table) (r : RoundRule k s) (v : View) → get_elem? s.views 0 ≡ some v → v.opening ≡ Some k → v.held ≡ None
    → ((c : ℕ) → 0 < c → c < v.given → (x : Part) × (x.core ≡ c) × Among v.joined x)
    → (o : ℕ) → o < length s.homes → IsAtHome k s.homes r.log o
all_home k s r v me live none joined o near = dite (ℕ_discrete (word_of s.words o) 0) (λ z. r.free o near z) (λ ne. absurd (is_taken (word_of s.words o - 1) (omega (arith, ne))))
  where
    alive : is_some v.opening ≡ true
    alive = ap (λ (x : Option Opening). is_some x) live

    hands : (u : View) (h : Held) → u.held ≡ Some h → u.held ≡ None → ⊥
    hands u h some-held no-held = let e : Some h ≡ None = sym some-held ∙ no-held in absurd (cc e)

    is_taken : (c : ℕ) → word_of s.words o ≡ suc c → ⊥
    is_taken c e =
        let t : IsTaken s.views c o = r.taken o c near e in
        let below : c < length s.views = at_within s.views c t.view t.there in
        dite (ℕ_discrete c 0)
        (λ z.
        let same : t.view ≡ v = some-injective t.view v (sym (subst (λ (i : ℕ). get_elem? s.views i ≡ some t.view) z t.there) ∙ me) in
        hands t.view t.held t.holds (ap (λ (x : View). x.held) same ∙ none))
        (λ nz.
        let x = joined c (omega arith) (omega (arith, r.giver v me)) in
        let y = (joined_at s.views r.log v.joined x.0 (r.seated 0 v me alive).joined x.2).1 in
        let at : get_elem? s.views c ≡ some y.0 = subst (λ (i : ℕ). get_elem? s.views i ≡ some y.0) x.1 y.1 in
        let same : t.view ≡ y.0 = some-injective t.view y.0 (sym t.there ∙ at) in
        hands t.view t.held t.holds (ap (λ (z : View). z.held) same ∙ (r.gone c y.0 at (ap (λ (z : Option Opening). is_some z) y.2)).held))

-- ---- the whole

slice_before : {X : Type 0} (xs ys : List X) (i : ℕ) (a : X) → slice_get xs i ≡ Some a → slice_get (xs ++ ys) i ≡ Some a
slice_before [] ys i a e = absurd (cc e)
slice_before (x ∷ xs) ys zero a e = e
slice_before (x ∷ xs) ys (suc i) a e = slice_before xs ys i a e

slice_last : {X : Type 0} (xs : List X) (i : ℕ) (a : X) → i ≡ length xs → slice_get (xs ++ a ∷ []) i ≡ Some a
slice_last [] zero a e = refl
slice_last [] (suc i) a e = absurd (omega arith)
slice_last (x ∷ xs) zero a e = absurd (omega arith)
slice_last (x ∷ xs) (suc i) a e = slice_last xs i a (omega arith)

pub position_at : (n c : ℕ) → c < n → slice_get (positions n) c ≡ Some c
position_at zero c h = absurd (omega arith)
position_at (suc n) c h = dite (ℕ_discrete c n)
    (λ e. subst (λ (m : ℕ). slice_get (positions n ++ n ∷ []) m ≡ Some m) (sym e) (slice_last (positions n) n n (sym (length_positions n))))
    (λ ne. slice_before (positions n) (n ∷ []) c c (position_at n c (omega arith)))

part_at : (log : List Logged) (n c : ℕ) → c < n → slice_get (map (λ d. made_by d log) (positions n)) c ≡ Some (made_by c log)
part_at log n c h = mapped_at (λ d. made_by d log) (positions n) c c (position_at n c h)

pub ends_whole : ((p : Plan) (o : ℕ) (before after : Kept) (l : Past) (n : Noted) → Stands p o before l → lead p o before n ≡ Some after → Stands p o after (n ∷ l))
    → (k : Opening) (s : Table) (v : View) → RoundRule k s → HasAll k s v → IsWhole k s v
ends_whole law k s v r all =
    let n : ℕ = length s.views in
    let parts : List (List Stamped) = map (λ c. made_by c r.log) (positions n) in
    let alive : is_some v.opening ≡ true = ap (λ (x : Option Opening). is_some x) all.opening in
    let q = r.seated 0 v all.there alive in
    let p = plan_in k in
    record {
      entries = entries_in r.log;
      parts = parts;
      interleaved = is_interleaved n r.log r.stamps r.cores;
      stamps = r.count ∙ sym (entries_length r.log);
      fits = subst (λ (m : ℕ). length (entries_in r.log) ≤ m * k.room) (sym (r.giver v all.there)) (subst (λ (m : ℕ). m ≤ n * k.room) (sym (entries_length r.log)) (log_within n k.room r.log r.cores r.room));
      count = length-map (positions n) (λ c. made_by c r.log) ∙ (length_positions n ∙ sym (r.giver v all.there));
      own = part_at r.log n 0 (at_within s.views 0 v all.there) ∙ ap (λ (l : List Stamped). Some l) (sym q.made);
      others = λ x among.
          let t = joined_at s.views r.log v.joined x q.joined among in
          part_at r.log n x.core (at_within s.views x.core t.1.0 t.1.1) ∙ ap (λ (l : List Stamped). Some l) (sym t.0);
      home = λ o near.
          let t = all_home k s r v all.there all.opening all.held all.taken_in o near in
          record {
            after = t.object;
            there = t.there;
            planned = t.planned;
            led = λ before at.
                let on : leads p o (kept_of before) (map noted_as (on_object p o r.log)) ≡ Some (kept_of t.object) = kept_leads k o (on_object p o r.log) before (kept_of t.object) at t.kept in
                let led : leads p o (kept_of before) (touching p o (entries_in r.log)) ≡ Some (kept_of t.object) =
                subst (λ (l : Past). leads p o (kept_of before) l ≡ Some (kept_of t.object)) (sym (touching_is p o r.log)) on in
                record { leads_on = led; stands = λ l stands. leads_stand p o (law p o) (kept_of before) (kept_of t.object) l (touching p o (entries_in r.log)) stands led };
          };
    }
