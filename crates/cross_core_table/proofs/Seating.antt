-- The rule where seats are given and taken in, at the opening, and at the close.
use Rattle.std.proofs.Common.{◌≡◌, ◌≢◌, ◌<◌, ◌≤◌, ◌^◌, ℕ, zero, suc, Bool, true, is_some, if◌then◌else◌, List, [], ◌∷◌, ◌++◌, map, length, length-append, length-set, set, get_or, refl, sym}
use Rattle.std.proofs.Common.{◌∙◌, ap, subst, ⊎_elim, arith, slice_get, Option, Some, None}
use Rattle.bus_semantics.specs.Common.{length-map, false≢true, Logged}
use mathlib.Core.Option.{some, some-injective}
use lib.ListN.{get_elem?}
use Rattle.atomic_table.specs.Table.{opening, Splits, Joins}
use Rattle.atomic_table.proofs.Lists.{at_set, set_here, set_else, at_longer, some_there}
use Rattle.port_objects.specs.declared.object.Object.{Object}
use Rattle.port_objects.specs.Objects.{ArePlans}
use Rattle.cross_core_table.specs.Common.{Opening, Part, Held, View, made_by, AreOf, plan_in, Table, IsSpent, AreJoined, IsSeated, RoundRule, place_of, parts_of, times_joined, giving, newcomer}
use Rattle.cross_core_table.specs.Common.{part_of_view, joining, spent, first_view}
use Rattle.cross_core_table.specs.Rules.{IsGone}
use Rattle.cross_core_table.proofs.Lists.{at_within, at_end, at_somes, at_only}
use Rattle.cross_core_table.proofs.Logs.{of_more, none_above, kept_first}
use Rattle.cross_core_table.proofs.Parts.{before_set, once_kept, alone_kept, one_more, no_more, none_beyond}
use Rattle.cross_core_table.proofs.Frames.{Goes, joined_kept, not_spent, StaySpent, seat_kept, set_spends_none, taken_set}

alive : (k : Opening) (v : View) → v.opening ≡ Some k → is_some v.opening ≡ true
alive k v e = ap (λ (x : Option Opening). is_some x) e

-- its part was not joined
lives : (k : Opening) (v : View) → v.opening ≡ Some k → times_joined v ≡ 0
lives k v e = ap (λ (b : Bool). if b then 0 else 1) (alive k v e)

-- what the seat with others to give is: the first
pub is_first : (k : Opening) (s : Table) (r : RoundRule k s) (id : ℕ) (v : View) → get_elem? s.views id ≡ some v → 0 < v.given → (id ≡ 0) × (v.given ≡ length s.views)
is_first k s r zero v me some-given = (refl, r.giver v me)
is_first k s r (suc id) v me some-given = absurd (omega (arith, r.takers id v me))

-- nothing on the table moves
same_log : (k : Opening) (ws : List ℕ) (log : List Logged) (id : ℕ) → Goes k ws ws log log id
same_log k ws log id = record { made = λ j ne. refl; held = λ j o ne e. (e, refl); newer = λ o. ([], refl) }

-- ---- 7: a seat is given

pub splits : (k : Opening) (id : ℕ) (v : View) → v.opening ≡ Some k → 0 < v.given → v.given < 8 → Splits (RoundRule k) id v (giving v) (newcomer v)
splits k id v live some-given few s r me =
    let first = is_first k s r id v me some-given in
    let w : View = giving v in
    let u : View = newcomer v in
    let vs' : List View = set s.views id w in
    let vs'' : List View = vs' ++ u ∷ [] in
    let q = r.seated id v me (alive k v live) in
    let same : length vs' ≡ length s.views = length-set s.views id w in
    let long : length vs'' ≡ suc (length s.views) = omega (arith, length-append vs' (u ∷ []), same) in
    let near : id < length s.views = at_within s.views id v me in
    let stay : StaySpent s.views vs'' = λ c x at gone. let t = set_spends_none s.views id v w me (alive k v live) c x at gone in (t.0, at_longer vs' (u ∷ []) c t.0 t.1, t.2) in
    let parts : (c : ℕ) (x : View) → get_elem? s.views c ≡ some x → IsSpent x → made_by c r.log ≡ made_by c r.log = λ c x at gone. refl in
    let before = before_set s.views id v w me refl refl in
    let firsts : (x : View) → get_elem? vs' 0 ≡ some x → x.joined ≡ v.joined = λ x here. let b = before 0 x here in
    sym b.joined ∙ ap (λ (z : View). z.joined) (some-injective b.was v (sym b.there ∙ subst (λ (i : ℕ). get_elem? s.views i ≡ some v) first.0 me)) in
    let fresh : made_by v.given r.log ≡ [] = subst (λ (c : ℕ). made_by c r.log ≡ []) (sym first.1) (none_above (length s.views) (length s.views) r.log (omega arith) r.cores) in
    record {
      log = r.log;
      stamps = r.stamps;
      count = r.count;
      cores = of_more (length s.views) (length vs'') r.log (omega (arith, long)) r.cores;
      small = r.small;
      room = r.room;
      words = r.words;
      objects = r.objects;
      seats = omega (arith, long, first.1);
      giver = λ x at. ⊎_elim
          (λ y. ⊎_elim (λ t. ap (λ (z : View). z.given) (sym t.1) ∙ (ap suc first.1 ∙ sym long)) (λ t. absurd (t.0 (sym first.0))) (at_set s.views id 0 w x y))
          (λ t. absurd (omega (arith, t.0, near, same))) (at_end vs' u x 0 at);
      takers = λ j x at. ⊎_elim
          (λ y. ⊎_elim (λ t. absurd (omega (arith, t.0, first.0))) (λ t. r.takers j x t.1) (at_set s.views id (suc j) w x y))
          (λ t. ap (λ (z : View). z.given) (sym t.1)) (at_end vs' u x (suc j) at);
      once = λ x at c y there. ⊎_elim
          (λ here. ⊎_elim
          (λ own. once_kept k s r c x y (before 0 x here) (before c y own))
          (λ t. ap (λ (xs : List Part). length (parts_of c xs)) (firsts x here)
          ∙ (none_beyond s.views r.log c v.joined (omega (arith, t.0, same)) q.joined ∙ (sym (lives k v live) ∙ ap (λ (z : View). times_joined z) t.1)))
          (at_end vs' u y c there))
          (λ t. absurd (omega (arith, t.0, near, same))) (at_end vs' u x 0 at);
      alone = λ j x at. ⊎_elim (λ y. alone_kept k s r j x (before (suc j) x y)) (λ t. ap (λ (z : View). z.joined) (sym t.1)) (at_end vs' u x (suc j) at);
      seated = λ j x at living. ⊎_elim
          (λ y. ⊎_elim
          (λ t. subst (λ (i : ℕ). IsSeated k s.words vs'' r.log i x) (sym t.0) (subst (λ (z : View). IsSeated k s.words vs'' r.log id z) t.1 (record {
            opening = q.opening;
            core = q.core;
            made = q.made;
            held = q.held;
            look = q.look;
            tried = q.tried;
            joined = joined_kept s.views vs'' r.log r.log parts stay v.joined q.joined;
          })))
          (λ t. seat_kept k s.words s.words s.views vs'' r.log r.log id j x (same_log k s.words r.log id) parts stay t.0 (r.seated j x t.1 living))
          (at_set s.views id j w x y))
          (λ t. subst (λ (i : ℕ). IsSeated k s.words vs'' r.log i x) (sym (t.0 ∙ (same ∙ sym first.1))) (subst (λ (z : View). IsSeated k s.words vs'' r.log v.given z) t.1 (record {
            opening = live;
            core = refl;
            made = sym fresh;
            held = tt;
            look = tt;
            tried = tt;
            joined = tt;
          })))
          (at_end vs' u x j at);
      gone = λ j x at dead. ⊎_elim
          (λ y. ⊎_elim (λ t. absurd (false≢true (sym dead ∙ (ap (λ (z : View). is_some z.opening) (sym t.1) ∙ alive k v live)))) (λ t. r.gone j x t.1 dead) (at_set s.views id j w x y))
          (λ t. absurd (false≢true (sym dead ∙ (ap (λ (z : View). is_some z.opening) (sym t.1) ∙ alive k v live)))) (at_end vs' u x j at);
      free = r.free;
      taken = λ o c near' e. let t = taken_set s.views id v w o c me (r.taken o c near' e) (λ h has is. (h, has, is)) in
          record { view = t.view; there = at_longer vs' (u ∷ []) c t.view t.there; held = t.held; holds = t.holds; object = t.object };
    }

-- ---- 8: a seat that holds nothing is taken in

joined_more : (vs : List View) (log : List Logged) (xs : List Part) (x : Part) → AreJoined vs log xs → AreJoined vs log (x ∷ []) → AreJoined vs log (xs ++ x ∷ [])
joined_more vs log [] x all more = more
joined_more vs log (y ∷ ys) x all more = (all.0, all.1, joined_more vs log ys x all.2 more)

pub joins : (k : Opening) (id : ℕ) (v : View) (other : ℕ) (u : View) → v.opening ≡ Some k → 0 < v.given → u.opening ≡ Some k → u.held ≡ None
    → Joins (RoundRule k) id v other u (joining v u) spent
joins k id v other u live some-given living none s r me apart them =
    let first = is_first k s r id v me some-given in
    let w : View = joining v u in
    let vs' : List View = set s.views id w in
    let vs'' : List View = set vs' other spent in
    let q = r.seated id v me (alive k v live) in
    let at : get_elem? s.views other ≡ some u = sym (set_else s.views id other w apart) ∙ them in
    let qu = r.seated other u at (alive k u living) in
    let same : length vs'' ≡ length s.views = length-set vs' other spent ∙ length-set s.views id w in
    let inside : other < length vs' = omega (arith, at_within s.views other u at, length-set s.views id w) in
    let here : get_elem? vs'' other ≡ some spent = set_here vs' other spent inside in
    let stay : StaySpent s.views vs'' = λ c x there gone. (
      x,
      set_else vs' other c spent (not_spent s.views other c u x at (alive k u living) there gone)
          ∙ (set_else s.views id c w (not_spent s.views id c v x me (alive k v live) there gone) ∙ there),
      gone,
    ) in
    let parts : (c : ℕ) (x : View) → get_elem? s.views c ≡ some x → IsSpent x → made_by c r.log ≡ made_by c r.log = λ c x there gone. refl in
    let zeroth : get_elem? s.views 0 ≡ some v = subst (λ (i : ℕ). get_elem? s.views i ≡ some v) first.0 me in
    let joined_once : length (parts_of other w.joined) ≡ 1 = one_more other v.joined (part_of_view u) qu.core ∙ ap suc (r.once v zeroth other u at ∙ lives k u living) in
    let taker : (x : View) → get_elem? vs'' 0 ≡ some x → w ≡ x = λ x there. ⊎_elim (λ t. absurd (apart (sym t.0 ∙ sym first.0)))
    (λ t. ⊎_elim (λ y. y.1) (λ y. absurd (y.0 (sym first.0))) (at_set s.views id 0 w x t.1))
    (at_set vs' other 0 spent x there) in
    let mine : IsSeated k s.words vs'' r.log id w = record {
      opening = q.opening;
      core = q.core;
      made = q.made;
      held = q.held;
      look = q.look;
      tried = q.tried;
      joined = joined_more vs'' r.log v.joined (part_of_view u) (joined_kept s.views vs'' r.log r.log parts stay v.joined q.joined)
          (qu.made ∙ ap (λ (c : ℕ). made_by c r.log) (sym qu.core), (spent, subst (λ (c : ℕ). get_elem? vs'' c ≡ some spent) (sym qu.core) here, refl), tt);
    } in
    record {
      log = r.log;
      stamps = r.stamps;
      count = r.count;
      cores = subst (λ (n : ℕ). AreOf n r.log) (sym same) r.cores;
      small = r.small;
      room = r.room;
      words = r.words;
      objects = r.objects;
      seats = subst (λ (n : ℕ). n ≤ 8) (sym same) r.seats;
      giver = λ x there. ⊎_elim (λ t. absurd (apart (sym t.0 ∙ sym first.0)))
          (λ t. ⊎_elim (λ y. ap (λ (z : View). z.given) (sym y.1) ∙ (first.1 ∙ sym same)) (λ y. absurd (y.0 (sym first.0))) (at_set s.views id 0 w x t.1))
          (at_set vs' other 0 spent x there);
      takers = λ j x there. ⊎_elim (λ t. ap (λ (z : View). z.given) (sym t.1))
          (λ t. ⊎_elim (λ y. absurd (omega (arith, y.0, first.0))) (λ y. r.takers j x y.1) (at_set s.views id (suc j) w x t.1))
          (at_set vs' other (suc j) spent x there);
      once = λ x here c y there. subst (λ (z : View). length (parts_of c z.joined) ≡ times_joined y) (taker x here) (⊎_elim
          (λ t. subst (λ (z : View). length (parts_of c w.joined) ≡ times_joined z) t.1 (subst (λ (i : ℕ). length (parts_of i w.joined) ≡ 1) (sym t.0) (joined_once)))
          (λ t. no_more c v.joined (part_of_view u) (λ e. t.0 (sym e ∙ qu.core)) ∙ ⊎_elim
          (λ y'. r.once v zeroth c v (subst (λ (i : ℕ). get_elem? s.views i ≡ some v) (sym y'.0) me) ∙ ap (λ (z : View). times_joined z) y'.1)
          (λ y'. r.once v zeroth c y y'.1) (at_set s.views id c w y t.1))
          (at_set vs' other c spent y there));
      alone = λ j x there. ⊎_elim (λ t. ap (λ (z : View). z.joined) (sym t.1))
          (λ t. ⊎_elim (λ y. absurd (omega (arith, y.0, first.0))) (λ y. r.alone j x y.1) (at_set s.views id (suc j) w x t.1))
          (at_set vs' other (suc j) spent x there);
      seated = λ j x there living'. ⊎_elim (λ t. absurd (false≢true (ap (λ (z : View). is_some z.opening) t.1 ∙ living')))
          (λ t. ⊎_elim
          (λ y. subst (λ (i : ℕ). IsSeated k s.words vs'' r.log i x) (sym y.0) (subst (λ (z : View). IsSeated k s.words vs'' r.log id z) y.1 mine))
          (λ y. seat_kept k s.words s.words s.views vs'' r.log r.log id j x (same_log k s.words r.log id) parts stay y.0 (r.seated j x y.1 living'))
          (at_set s.views id j w x t.1))
          (at_set vs' other j spent x there);
      gone = λ j x there dead. ⊎_elim (λ t. subst (λ (z : View). IsGone z) t.1 (record { made = refl; joined = refl; held = refl }))
          (λ t. ⊎_elim (λ y. absurd (false≢true (sym dead ∙ (ap (λ (z : View). is_some z.opening) (sym y.1) ∙ alive k v live)))) (λ y. r.gone j x y.1 dead) (at_set s.views id j w x t.1))
          (at_set vs' other j spent x there);
      free = r.free;
      taken = λ o c near e. let t = taken_set s.views id v w o c me (r.taken o c near e) (λ h has is. (h, has, is)) in
          let others : c ≢ other = λ is. empty_handed vs' other t.view u (subst (λ (i : ℕ). get_elem? vs' i ≡ some t.view) is t.there) them none t.held t.holds in
          record { view = t.view; there = set_else vs' other c spent others ∙ t.there; held = t.held; holds = t.holds; object = t.object };
    }
  where
    -- a seat that holds nothing holds nothing
    empty_handed : (vs : List View) (i : ℕ) (x y : View) → get_elem? vs i ≡ some x → get_elem? vs i ≡ some y → y.held ≡ None → (h : Held) → x.held ≡ Some h → ⊥
    empty_handed vs i x y at₁ at₂ none h has =
        let same : x ≡ y = some-injective x y (sym at₁ ∙ at₂) in
        let e : Some h ≡ None = sym has ∙ (ap (λ (z : View). z.held) same ∙ none) in
        absurd (cc e)

-- ---- the opening

pub opens : (k : Opening) (ws : List ℕ) (objects : List Object) → k.room < 2 ^ 32 → k.objects.value.items ≡ objects → ArePlans (plan_in k) objects
    → length ws ≡ place_of (length objects) → ((i : ℕ) → get_or ws i 0 ≡ 0) → RoundRule k (opening ws objects (first_view k))
opens k ws objects small same planned long zeros =
    let v : View = first_view k in
    let size : length (map some objects) ≡ length objects = length-map objects some in
    record {
      log = [];
      stamps = tt;
      count = zeros 0;
      cores = tt;
      small = small;
      room = λ c. omega arith;
      words = long ∙ ap (λ (n : ℕ). place_of n) (sym size);
      objects = size ∙ ap (λ (xs : List Object). length xs) (sym same);
      seats = omega arith;
      giver = λ u at. ap (λ (x : View). x.given) (sym (at_only v u 0 at).1);
      takers = λ j u at. absurd (omega (arith, (at_only v u (suc j) at).0));
      once = λ x at c u there. ap (λ (z : View). length (parts_of c z.joined)) (sym (at_only v x 0 at).1) ∙ ap (λ (z : View). times_joined z) (at_only v u c there).1;
      alone = λ j u at. absurd (omega (arith, (at_only v u (suc j) at).0));
      seated = λ j u at living. let t = at_only v u j at in
          subst (λ (i : ℕ). IsSeated k ws (v ∷ []) [] i u) (sym t.0) (subst (λ (x : View). IsSeated k ws (v ∷ []) [] 0 x) t.1
          (record { opening = refl; core = refl; made = refl; held = tt; look = tt; tried = tt; joined = tt }));
      gone = λ j u at dead. absurd (false≢true (sym dead ∙ ap (λ (x : View). is_some x.opening) (sym (at_only v u j at).1)));
      free = λ o near z.
          let t = some_there objects o (subst (λ (n : ℕ). o < n) size near) in
          let found : slice_get objects o ≡ Some t.0 = at_somes objects o t.0 t.1 in
          record { object = t.0; there = t.1; kept = kept_first k o t.0 (subst (λ (xs : List Object). slice_get xs o ≡ Some t.0) (sym same) found); planned = planned.each o t.0 found };
      taken = λ o c near e. absurd (omega (arith, e, zeros (place_of o)));
    }
