-- Each atomic step on the words of a round keeps its rule, and tells its seat what its play says.
use Rattle.std.proofs.Common.{◌≡◌, ◌≢◌, ◌<◌, ◌≤◌, ◌+◌, ◌%◌, ◌^◌, ℕ, suc, eqb, true, is_some, List, [], ◌∷◌, ◌++◌, length, length-append, length-set, set, get_or, get_or-set_same}
use Rattle.std.proofs.Common.{get_or-set_other, refl, sym, ◌∙◌, ap, subst, arith, Option, Some, None}
use mathlib.Core.Logic.{dite}
use native.Mathlib.Decide.{ℕ_discrete}
use mathlib.Core.Option as option
use mathlib.Core.Option.{some, some-injective}
use lib.ListN.{get_elem?}
use lib.Seq.{set-get_or}
use prog.Atomic.{either}
use Rattle.atomic_table.specs.Table.{step, Act, keeps, takes, gives, Valid, carried_after, stepped, Allows}
use Rattle.atomic_table.proofs.Lists.{set_here, set_else, exchanged}
use Rattle.bus_semantics.specs.declared.entries.Entry.{Entry}
use Rattle.bus_semantics.specs.declared.entries.Stamped.{Stamped}
use Rattle.bus_semantics.specs.Common.{touched_by, Logged}
use Rattle.port_objects.specs.declared.object.Object.{Object}
use Rattle.port_objects.specs.Objects.{kept_of, IsOfPlan}
use Rattle.cross_core_table.specs.Common.{Opening, Held, View, noted_as, on_object, made_by, plan_in, kept_after, Table, word_of, IsHolding, Holds, Looked, IsSpent, AreJoined, IsAtHome}
use Rattle.cross_core_table.specs.Common.{IsTaken, RoundRule, Sat, place_of, held_of, holding, failing, making, LockedAt, as_stamped, held_after, stamped_on, stamped_off, unlocked, looked}
use Rattle.cross_core_table.specs.Rules.{Failed}
use Rattle.cross_core_table.specs.Plays.{letting_go, having_looked, locked}
use Rattle.cross_core_table.proofs.Lists.{at_within}
use Rattle.cross_core_table.proofs.Logs.{logged, touches_it, touches_no_other, touches_none, on_it, off_it, on_newer, made_here, made_there, log_is_short}
use Rattle.cross_core_table.proofs.Frames.{Goes, holds_kept, look_kept, joined_kept, not_spent, set_spends_none, taken_set, holds_word, stepped_by}

-- what a step of the seat id on the word i, which becomes n, has to show
abbrev Moves : (k : Opening) (s : Table) (i id : ℕ) (m : Sat) (then : ℕ → Sat → Type 0) (n : ℕ) → Type 0
Moves k s i id m then n = (w : View) × (a : Act Object) × Valid s.homes m.1 a × RoundRule k (stepped s i n id m.1 w a) × then (get_or s.words i 0) (w, carried_after m.1 a)

-- a log that stays as it is
stays : (k : Opening) (ws : List ℕ) (log : List Logged) (id : ℕ) → Goes k ws ws log log id
stays k ws log id = record { made = λ j ne. refl; held = λ j o ne e. (e, refl); newer = λ o. ([], refl) }

-- a seat that was not taken in
alive : (k : Opening) (v : View) → v.opening ≡ Some k → is_some v.opening ≡ true
alive k v e = ap (λ (x : Option Opening). is_some x) e

one_opening : (k k' : Opening) → Some k ≡ Some k' → k ≡ k'
one_opening k k' e = cc e

-- no seat holds an object where it holds none
holds_none : (v : View) (vs : List View) (id : ℕ) (o : ℕ) → get_elem? vs id ≡ some v → v.held ≡ None → IsTaken vs id o → ⊥
holds_none v vs id o me none t =
    let same : t.view ≡ v = some-injective t.view v (sym t.there ∙ me) in
    let e : Some t.held ≡ None = sym t.holds ∙ (ap (λ (x : View). x.held) same ∙ none) in
    absurd (cc e)

-- ---- a step that changes nothing on the table, and of its seat the last try alone

tries_on : (k : Opening) (s : Table) (r : RoundRule k s) (i id : ℕ) (m : Sat) (o n : ℕ) → get_elem? s.views id ≡ some m.0 → m.0.opening ≡ Some k
    → n ≢ 0 → n ≢ suc id → RoundRule k (stepped s i (get_or s.words i 0) id m.1 (failing m.0 o n) keeps)
tries_on k s r i id m o n me live nonzero other =
    let v : View = m.0 in
    let w : View = failing v o n in
    let q = r.seated id v me (alive k v live) in
    let vs' : List View = set s.views id w in
    let m' : (c : ℕ) (u : View) → get_elem? s.views c ≡ some u → IsSpent u → made_by c r.log ≡ made_by c r.log = λ c u at gone. refl in
    subst (λ (ws : List ℕ). RoundRule k record { words = ws; homes = s.homes; views = vs' }) (sym (set-get_or s.words i 0))
    (stepped_by k s r id v w s.words s.homes r.log me (alive k v live) refl refl refl (stays k s.words r.log id) refl refl r.stamps r.count r.cores r.room
    (record {
      opening = q.opening;
      core = q.core;
      made = q.made;
      held = q.held;
      look = q.look;
      tried = (nonzero, other);
      joined = joined_kept s.views vs' r.log r.log m' (set_spends_none s.views id v w me (alive k v live)) v.joined q.joined;
    })
    r.free (λ x c near e. taken_set s.views id v w x c me (r.taken x c near e) (λ h has is. (h, has, is))))

-- ---- 1: a try for an object

takes_it : (k : Opening) (s : Table) (r : RoundRule k s) (id : ℕ) (m : Sat) (o : ℕ) → get_elem? s.views id ≡ some m.0 → m.0.opening ≡ Some k
    → o < length s.homes → m.0.held ≡ None → word_of s.words o ≡ 0 → (t : IsAtHome k s.homes r.log o)
    → RoundRule k (stepped s (place_of o) (suc id) id m.1 (holding m.0 (held_of o (on_object (plan_in k) o r.log))) (takes o t.object))
takes_it k s r id m o me live near none zero-word t =
    let v : View = m.0 in
    let l : List Stamped = on_object (plan_in k) o r.log in
    let w : View = holding v (held_of o l) in
    let q = r.seated id v me (alive k v live) in
    let ws' : List ℕ = set s.words (place_of o) (suc id) in
    let hs' : List (option.Option Object) = set s.homes o option.none in
    let vs' : List View = set s.views id w in
    let inside : place_of o < length s.words = omega (arith, r.words) in
    let here : word_of ws' o ≡ suc id = get_or-set_same s.words (place_of o) (suc id) 0 inside in
    let there : (x : ℕ) → x ≢ o → word_of ws' x ≡ word_of s.words x = λ x ne. get_or-set_other s.words (place_of o) (place_of x) (suc id) 0 (λ e. ne (omega arith)) in
    let m' : (c : ℕ) (u : View) → get_elem? s.views c ≡ some u → IsSpent u → made_by c r.log ≡ made_by c r.log = λ c u at gone. refl in
    stepped_by k s r id v w ws' hs' r.log me (alive k v live) refl refl refl
    (record { made = λ j ne. refl; held = λ j x ne e. (there x (λ is. absurd (omega (arith, e, ap (λ (i : ℕ). word_of s.words i) is, zero-word))) ∙ e, refl); newer = λ x. ([], refl) })
    (length-set s.words (place_of o) (suc id)) (length-set s.homes o option.none) r.stamps
    (get_or-set_other s.words (place_of o) 0 (suc id) 0 (λ e. omega arith) ∙ r.count) r.cores r.room
    (record {
      opening = q.opening;
      core = q.core;
      made = q.made;
      held = record { word = here; entries = refl };
      look = q.look;
      tried = q.tried;
      joined = joined_kept s.views vs' r.log r.log m' (set_spends_none s.views id v w me (alive k v live)) v.joined q.joined;
    })
    (λ x near' z. dite (ℕ_discrete x o)
    (λ is. absurd (omega (arith, z, ap (λ (i : ℕ). word_of ws' i) is, here)))
    (λ ne. let y = r.free x near' (sym (there x ne) ∙ z) in record { object = y.object; there = set_else s.homes o x option.none ne ∙ y.there; kept = y.kept; planned = y.planned }))
    (λ x c near' e. dite (ℕ_discrete x o)
    (λ is.
    let same : c ≡ id = omega (arith, e, ap (λ (i : ℕ). word_of ws' i) is, here) in
    record { view = w; there = subst (λ (i : ℕ). get_elem? vs' i ≡ some w) (sym same) (set_here s.views id w (at_within s.views id v me)); held = held_of o l; holds = refl; object = sym is })
    (λ ne. taken_set s.views id v w x c me (r.taken x c near' (sym (there x ne) ∙ e)) (λ h has is. let no : Some h ≡ None = sym has ∙ none in absurd (cc no))))

pub locks : (k : Opening) (n id : ℕ) (m : Sat) (i o new : ℕ) → i ≡ place_of o → new ≡ suc m.0.core → o < n → m.0.opening ≡ Some k → m.0.held ≡ None
    → Allows (RoundRule k) n id m i (λ y. either (eqb y 0) new y) (locked (step n i 0 new option.none) m)
locks k n id m i o new word mine inside live none s r wide me _ =
    let then = locked (step n i 0 new option.none) m in
    let q = r.seated id m.0 me (alive k m.0 live) in
    let core : m.0.core ≡ id = q.core in
    exchanged (get_or s.words i 0) 0 new (Moves k s i id m then)
    (λ hit.
    let near : o < length s.homes = omega (arith, wide) in
    let was : word_of s.words o ≡ 0 = ap (λ (x : ℕ). get_or s.words x 0) (sym word) ∙ hit in
    let t = r.free o near was in
    let l : List Stamped = on_object (plan_in k) o r.log in
    let w : View = holding m.0 (held_of o l) in (
      w,
      takes o t.object,
      t.there,
      subst (λ (y : ℕ). RoundRule k (stepped s y new id m.1 w (takes o t.object))) (sym word)
          (subst (λ (y : ℕ). RoundRule k (stepped s (place_of o) y id m.1 w (takes o t.object))) (sym (mine ∙ ap suc core)) (takes_it k s r id m o me live near none was t)),
      λ x is.
          let same : o ≡ x = omega (arith, word, is) in
          let n : Sat = (w, (o, t.object) ∷ m.1) in
          let answer : LockedAt m o (get_or s.words i 0) n = record {
            took = λ _. record {
              entries = l;
              object = t.object;
              seat = refl;
              kept = λ k' e. subst (λ (z : Opening). kept_after z o l ≡ Some (kept_of t.object)) (one_opening k k' (sym live ∙ e)) t.kept;
              planned = λ k' e. subst (λ (z : Opening). IsOfPlan (plan_in z) o t.object) (one_opening k k' (sym live ∙ e)) t.planned;
            };
            missed = λ miss. absurd (miss hit);
          } in
          subst (λ (y : ℕ). LockedAt m y (get_or s.words i 0) n) same answer,
    ))
    (λ miss.
    let found : ℕ = get_or s.words i 0 in
    let was : word_of s.words o ≡ found = ap (λ (x : ℕ). get_or s.words x 0) (sym word) in
    let other : found ≢ suc id = λ e. holds_none m.0 s.views id o me none (r.taken o id (omega (arith, wide)) (was ∙ e)) in (
      failing m.0 o found,
      keeps,
      tt,
      tries_on k s r i id m o found me live miss other,
      λ x is.
          let same : o ≡ x = omega (arith, word, is) in
          let n : Sat = (failing m.0 o found, m.1) in
          let answer : LockedAt m o found n = record { took = λ hit. absurd (miss hit); missed = λ _. record { seat = refl; other = λ e. other (e ∙ ap suc core) } } in
          subst (λ (y : ℕ). LockedAt m y found n) same answer,
    ))

-- ---- 3: a stamp under the lock

-- one entry more: of the seat id, stamped with word 0
grown : (k : Opening) (s : Table) (r : RoundRule k s) (id : ℕ) (v w : View) (x : Stamped) (word : ℕ) → get_elem? s.views id ≡ some v → v.opening ≡ Some k
    → word ≡ (get_or s.words 0 0 + 1) % 2 ^ 64 → x.stamp ≡ get_or s.words 0 0 → length v.made < k.room
    → w.opening ≡ v.opening → w.core ≡ v.core → w.given ≡ v.given → w.made ≡ v.made ++ x ∷ [] → w.look ≡ v.look → w.tried ≡ v.tried → w.joined ≡ v.joined
    → ((j o : ℕ) → j ≢ id → word_of s.words o ≡ suc j → on_object (plan_in k) o (logged id x ∷ r.log) ≡ on_object (plan_in k) o r.log)
    → Holds k (set s.words 0 word) (logged id x ∷ r.log) id w.held
    → ((o : ℕ) → o < length s.homes → word_of s.words o ≡ 0 → on_object (plan_in k) o (logged id x ∷ r.log) ≡ on_object (plan_in k) o r.log)
    → ((o : ℕ) (h : Held) → v.held ≡ Some h → h.object ≡ o → (y : Held) × (w.held ≡ Some y) × (y.object ≡ o))
    → RoundRule k record { words = set s.words 0 word; homes = s.homes; views = set s.views id w }
grown k s r id v w x word me live added stamp room opening core given made look tried joined others mine free holds =
    let q = r.seated id v me (alive k v live) in
    let log' : List Logged = logged id x ∷ r.log in
    let ws' : List ℕ = set s.words 0 word in
    let vs' : List View = set s.views id w in
    let there : (o : ℕ) → word_of ws' o ≡ word_of s.words o = λ o. get_or-set_other s.words 0 (place_of o) word 0 (λ e. omega arith) in
    let short = log_is_short (length s.views) k.room r.log r.cores r.room r.seats r.small in
    let count : get_or ws' 0 0 ≡ suc (length r.log) = omega (arith, get_or-set_same s.words 0 word 0 (omega (arith, r.words)), added, r.count, short) in
    let near : id < length s.views = at_within s.views id v me in
    let goes : Goes k s.words ws' r.log log' id = record {
      made = λ j ne. made_there id j x r.log ne;
      held = λ j o ne e. (there o ∙ e, others j o ne e);
      newer = λ o. on_newer (plan_in k) o id x r.log;
    } in
    let same_parts : (c : ℕ) (u : View) → get_elem? s.views c ≡ some u → IsSpent u → made_by c log' ≡ made_by c r.log =
    λ c u at gone. made_there id c x r.log (not_spent s.views id c v u me (alive k v live) at gone) in
    stepped_by k s r id v w ws' s.homes log' me (alive k v live) opening given joined goes
    (length-set s.words 0 word) refl (stamp ∙ r.count, r.stamps) count (near, r.cores)
    (λ c. dite (ℕ_discrete c id)
    (λ e. subst (λ (y : ℕ). length (made_by y log') ≤ k.room) (sym e)
    (omega (arith, ap (λ (l : List Stamped). length l) (made_here id x r.log), length-append (made_by id r.log) (x ∷ []), ap (λ (l : List Stamped). length l) q.made)))
    (λ ne. subst (λ (l : List Stamped). length l ≤ k.room) (sym (made_there id c x r.log ne)) (r.room c)))
    (record {
      opening = opening ∙ live;
      core = core ∙ q.core;
      made = made ∙ (ap (λ (l : List Stamped). l ++ x ∷ []) q.made ∙ sym (made_here id x r.log));
      held = mine;
      look = subst (λ (y : Option Held). Looked k log' y) (sym look) (look_kept k r.log log' (λ o. on_newer (plan_in k) o id x r.log) v.look q.look);
      tried = subst (λ y. Failed id y) (sym tried) q.tried;
      joined = subst (λ y. AreJoined vs' log' y) (sym joined) (joined_kept s.views vs' r.log log' same_parts (set_spends_none s.views id v w me (alive k v live)) v.joined q.joined);
    })
    (λ o near' z. let e = sym (there o) ∙ z in let t = r.free o near' e in
    record { object = t.object; there = t.there; kept = subst (λ (l : List Stamped). kept_after k o l ≡ Some (kept_of t.object)) (sym (free o near' e)) t.kept; planned = t.planned })
    (λ o c near' e. taken_set s.views id v w o c me (r.taken o c near' (sym (there o) ∙ e)) (λ h has is. holds o h has is))

pub stamps_on : (k : Opening) (n id : ℕ) (m : Sat) (o : ℕ) (e : Entry) (event : Option ℕ) (h : Held) → m.0.opening ≡ Some k → m.0.held ≡ Some h → h.object ≡ o
    → touched_by (plan_in k) (record { entry = e; event = event }) ≡ Some o → length m.0.made < k.room
    → Allows (RoundRule k) n id m 0 (λ y. (y + 1) % 2 ^ 64) (stamped_on e event (step n 0 1 0 option.none) m)
stamps_on k n id m o e event h live has is touching room s r wide me _ =
    let v : View = m.0 in
    let p = plan_in k in
    let found : ℕ = get_or s.words 0 0 in
    let x : Stamped = as_stamped found e event in
    let w : View = record (making v x) { held = held_after v.held x } in
    let q = r.seated id v me (alive k v live) in
    let hq : IsHolding k s.words r.log id h = holds_word k s.words r.log id v.held h q.held has in
    let word : ℕ = (found + 1) % 2 ^ 64 in
    let its : word_of s.words o ≡ suc id = subst (λ (y : ℕ). word_of s.words y ≡ suc id) is hq.word in
    let off : (y : ℕ) → y ≢ o → on_object p y (logged id x ∷ r.log) ≡ on_object p y r.log = λ y ne. off_it p y id x r.log (touches_no_other p o y (noted_as x) touching ne) in
    let on : on_object p h.object (logged id x ∷ r.log) ≡ x ∷ on_object p h.object r.log =
    on_it p h.object id x r.log (touches_it p h.object (noted_as x) (touching ∙ ap (λ (y : ℕ). Some y) (sym is))) in (
      w,
      keeps,
      tt,
      grown k s r id v w x word me live refl refl room refl refl refl refl refl refl refl
          (λ j y ne u. off y (λ z. ne (omega (arith, u, ap (λ (i : ℕ). word_of s.words i) z, its))))
          (subst (λ (y : Option Held). Holds k (set s.words 0 word) (logged id x ∷ r.log) id (held_after y x)) (sym has)
          (record { word = get_or-set_other s.words 0 (place_of h.object) word 0 (λ z. omega arith) ∙ hq.word; entries = ap (λ (l : List Stamped). x ∷ l) hq.entries ∙ sym on }))
          (λ y near z. off y (λ u. absurd (omega (arith, z, ap (λ (i : ℕ). word_of s.words i) u, its))))
          (λ y g some-held there. (held_of g.object (x ∷ g.entries), ap (λ (z : Option Held). held_after z x) some-held, there)),
      refl,
    )

-- ---- 4: a stamp without an object

pub stamps_off : (k : Opening) (n id : ℕ) (m : Sat) (e : Entry) → m.0.opening ≡ Some k
    → touched_by (plan_in k) (record { entry = e; event = None }) ≡ None → length m.0.made < k.room
    → Allows (RoundRule k) n id m 0 (λ y. (y + 1) % 2 ^ 64) (stamped_off e (step n 0 1 0 option.none) m)
stamps_off k n id m e live touching room s r wide me _ =
    let v : View = m.0 in
    let p = plan_in k in
    let found : ℕ = get_or s.words 0 0 in
    let x : Stamped = as_stamped found e None in
    let w : View = making v x in
    let q = r.seated id v me (alive k v live) in
    let word : ℕ = (found + 1) % 2 ^ 64 in
    let off : (y : ℕ) → on_object p y (logged id x ∷ r.log) ≡ on_object p y r.log = λ y. off_it p y id x r.log (touches_none p y (noted_as x) touching) in (
      w,
      keeps,
      tt,
      grown k s r id v w x word me live refl refl room refl refl refl refl refl refl refl
          (λ j y ne u. off y)
          (holds_kept k s.words (set s.words 0 word) r.log (logged id x ∷ r.log) id (λ o u. (get_or-set_other s.words 0 (place_of o) word 0 (λ z. omega arith) ∙ u, off o)) v.held q.held)
          (λ y near z. off y)
          (λ y g some-held there. (g, some-held, there)),
      refl,
    )

-- ---- 6: an object is given back

gives_back : (k : Opening) (s : Table) (r : RoundRule k s) (id : ℕ) (v w : View) (o : ℕ) (object : Object) (h : Held) → get_elem? s.views id ≡ some v → v.opening ≡ Some k
    → v.held ≡ Some h → h.object ≡ o → o < length s.homes → kept_after k o h.entries ≡ Some (kept_of object) → IsOfPlan (plan_in k) o object
    → w.opening ≡ v.opening → w.core ≡ v.core → w.given ≡ v.given → w.made ≡ v.made → w.held ≡ None → Looked k r.log w.look → w.tried ≡ v.tried → w.joined ≡ v.joined
    → RoundRule k record { words = set s.words (place_of o) 0; homes = set s.homes o (some object); views = set s.views id w }
gives_back k s r id v w o object h me live has is near kept planned opening core given made none look tried joined =
    let q = r.seated id v me (alive k v live) in
    let hq : IsHolding k s.words r.log id h = holds_word k s.words r.log id v.held h q.held has in
    let ws' : List ℕ = set s.words (place_of o) 0 in
    let hs' : List (option.Option Object) = set s.homes o (some object) in
    let vs' : List View = set s.views id w in
    let its : word_of s.words o ≡ suc id = subst (λ (y : ℕ). word_of s.words y ≡ suc id) is hq.word in
    let here : word_of ws' o ≡ 0 = get_or-set_same s.words (place_of o) 0 0 (omega (arith, r.words)) in
    let there : (x : ℕ) → x ≢ o → word_of ws' x ≡ word_of s.words x = λ x ne. get_or-set_other s.words (place_of o) (place_of x) 0 0 (λ e. ne (omega arith)) in
    let m' : (c : ℕ) (u : View) → get_elem? s.views c ≡ some u → IsSpent u → made_by c r.log ≡ made_by c r.log = λ c u at gone. refl in
    stepped_by k s r id v w ws' hs' r.log me (alive k v live) opening given joined
    (record { made = λ j ne. refl; held = λ j x ne e. (there x (λ z. ne (omega (arith, e, ap (λ (i : ℕ). word_of s.words i) z, its))) ∙ e, refl); newer = λ x. ([], refl) })
    (length-set s.words (place_of o) 0) (length-set s.homes o (some object)) r.stamps
    (get_or-set_other s.words (place_of o) 0 0 0 (λ e. omega arith) ∙ r.count) r.cores r.room
    (record {
      opening = opening ∙ live;
      core = core ∙ q.core;
      made = made ∙ q.made;
      held = subst (λ (y : Option Held). Holds k ws' r.log id y) (sym none) tt;
      look = look;
      tried = subst (λ y. Failed id y) (sym tried) q.tried;
      joined = subst (λ y. AreJoined vs' r.log y) (sym joined) (joined_kept s.views vs' r.log r.log m' (set_spends_none s.views id v w me (alive k v live)) v.joined q.joined);
    })
    (λ x near' z. dite (ℕ_discrete x o)
    (λ e. subst (λ (y : ℕ). IsAtHome k hs' r.log y) (sym e) (record {
      object = object;
      there = set_here s.homes o (some object) near;
      kept = subst (λ (l : List Stamped). kept_after k o l ≡ Some (kept_of object)) (hq.entries ∙ ap (λ (y : ℕ). on_object (plan_in k) y r.log) is) kept;
      planned = planned;
    }))
    (λ ne. let t = r.free x near' (sym (there x ne) ∙ z) in record { object = t.object; there = set_else s.homes o x (some object) ne ∙ t.there; kept = t.kept; planned = t.planned }))
    (λ x c near' e. dite (ℕ_discrete x o)
    (λ z. absurd (omega (arith, e, ap (λ (i : ℕ). word_of ws' i) z, here)))
    (λ ne. taken_set s.views id v w x c me (r.taken x c near' (sym (there x ne) ∙ e))
    (λ g some-held at. let two : Some h ≡ Some g = sym has ∙ some-held in let same : h ≡ g = cc two in absurd (ne (sym at ∙ (ap (λ (y : Held). y.object) (sym same) ∙ is))))))

pub unlocks : (k : Opening) (n id : ℕ) (v : View) (i o : ℕ) (object : Object) (more : List (ℕ × Object)) (h : Held) → i ≡ place_of o → o < n → v.opening ≡ Some k
    → v.held ≡ Some h → h.object ≡ o → kept_after k o h.entries ≡ Some (kept_of object) → IsOfPlan (plan_in k) o object
    → Allows (RoundRule k) n id (v, (o, object) ∷ more) i (λ _. 0) (λ _. unlocked (step n i 0 0 option.none) (v, (o, object) ∷ more) 0)
unlocks k n id v i o object more h word inside live has is kept planned s r wide me _ = (
  letting_go v,
  gives,
  tt,
  subst (λ (y : ℕ). RoundRule k (stepped s y 0 id ((o, object) ∷ more) (letting_go v) gives)) (sym word)
      (gives_back k s r id v (letting_go v) o object h me live has is (omega (arith, wide)) kept planned refl refl refl refl refl (r.seated id v me (alive k v live)).look refl refl),
  refl,
)

pub looks : (k : Opening) (n id : ℕ) (v : View) (i o : ℕ) (object : Object) (more : List (ℕ × Object)) (h : Held) → i ≡ place_of o → o < n → v.opening ≡ Some k
    → v.held ≡ Some h → h.object ≡ o → kept_after k o h.entries ≡ Some (kept_of object) → IsOfPlan (plan_in k) o object
    → Allows (RoundRule k) n id (v, (o, object) ∷ more) i (λ _. 0) (λ _. looked (step n i 0 0 option.none) (v, (o, object) ∷ more) 0)
looks k n id v i o object more h word inside live has is kept planned s r wide me _ =
    let hq : IsHolding k s.words r.log id h = holds_word k s.words r.log id v.held h (r.seated id v me (alive k v live)).held has in (
      having_looked v,
      gives,
      tt,
      subst (λ (y : ℕ). RoundRule k (stepped s y 0 id ((o, object) ∷ more) (having_looked v) gives)) (sym word)
          (gives_back k s r id v (having_looked v) o object h me live has is (omega (arith, wide)) kept planned refl refl refl refl refl
          (subst (λ (y : Option Held). Looked k r.log y) (sym has) ([], sym hq.entries)) refl refl),
      refl,
    )
