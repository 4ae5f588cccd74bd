-- What a step of one seat leaves as it was: what other seats know, and what is on the table.
use Rattle.std.proofs.Common.{◌≡◌, ◌≢◌, ◌<◌, ◌≤◌, ℕ, suc, true, is_some, List, [], ◌∷◌, ◌++◌, length, length-set, set, get_or, sym, ◌∙◌, ap, subst, ⊎_elim, append_assoc, Option, Some, None}
use mathlib.Core.Logic.{dite}
use native.Mathlib.Decide.{ℕ_discrete}
use mathlib.Core.Option as option
use mathlib.Core.Option.{some, some-injective}
use lib.ListN.{get_elem?}
use Rattle.bus_semantics.specs.Common.{false≢true, Logged}
use Rattle.atomic_table.proofs.Lists.{at_set, set_here, set_else}
use Rattle.bus_semantics.specs.declared.entries.Stamped.{Stamped}
use Rattle.port_objects.specs.declared.object.Object.{Object}
use Rattle.cross_core_table.specs.Common.{Opening, Held, Part, View, on_object, made_by, AreCounted, AreOf, plan_in, Table, word_of, IsHolding, Holds, Looked, IsSpent, AreJoined, IsSeated}
use Rattle.cross_core_table.specs.Common.{IsAtHome, IsTaken, RoundRule, place_of}
use Rattle.cross_core_table.proofs.Lists.{at_within}
use Rattle.cross_core_table.proofs.Parts.{before_set, once_kept, alone_kept}

-- what a step of the seat id may do to words and log, as other seats see it
pub record Goes (k : Opening) (ws ws' : List ℕ) (log log' : List Logged) (id : ℕ) : Type 0 where
  pub made : (j : ℕ) → j ≢ id → made_by j log' ≡ made_by j log
  pub held : (j o : ℕ) → j ≢ id → word_of ws o ≡ suc j → (word_of ws' o ≡ suc j) × (on_object (plan_in k) o log' ≡ on_object (plan_in k) o log)
  pub newer : (o : ℕ) → (new : List Stamped) × (on_object (plan_in k) o log' ≡ new ++ on_object (plan_in k) o log)

-- each seat that was taken in is still one
abbrev pub StaySpent : List View → List View → Type 0
StaySpent vs vs' = (c : ℕ) (u : View) → get_elem? vs c ≡ some u → IsSpent u → (x : View) × (get_elem? vs' c ≡ some x) × IsSpent x

-- ---- what one seat knows

pub holds_kept : (k : Opening) (ws ws' : List ℕ) (log log' : List Logged) (j : ℕ)
    → ((o : ℕ) → word_of ws o ≡ suc j → (word_of ws' o ≡ suc j) × (on_object (plan_in k) o log' ≡ on_object (plan_in k) o log))
    → (x : Option Held) → Holds k ws log j x → Holds k ws' log' j x
holds_kept k ws ws' log log' j f None h = tt
holds_kept k ws ws' log log' j f (Some x) h = let t = f x.object h.word in record { word = t.0; entries = h.entries ∙ sym t.1 }

pub look_kept : (k : Opening) (log log' : List Logged) → ((o : ℕ) → (new : List Stamped) × (on_object (plan_in k) o log' ≡ new ++ on_object (plan_in k) o log))
    → (x : Option Held) → Looked k log x → Looked k log' x
look_kept k log log' f None h = tt
look_kept k log log' f (Some x) h = let n = f x.object in
    (n.0 ++ h.0, n.1 ∙ (ap (λ (l : List Stamped). n.0 ++ l) h.1 ∙ sym (append_assoc n.0 h.0 x.entries)))

pub joined_kept : (vs vs' : List View) (log log' : List Logged)
    → ((c : ℕ) (u : View) → get_elem? vs c ≡ some u → IsSpent u → made_by c log' ≡ made_by c log)
    → StaySpent vs vs' → (xs : List Part) → AreJoined vs log xs → AreJoined vs' log' xs
joined_kept vs vs' log log' m s [] h = tt
joined_kept vs vs' log log' m s (x ∷ xs) h = let t = h.1 in
    (h.0 ∙ sym (m x.core t.0 t.1 t.2), s x.core t.0 t.1 t.2, joined_kept vs vs' log log' m s xs h.2)

-- ---- a seat that is not spent

pub not_spent : (vs : List View) (id c : ℕ) (v u : View) → get_elem? vs id ≡ some v → is_some v.opening ≡ true → get_elem? vs c ≡ some u → IsSpent u → c ≢ id
not_spent vs id c v u me live at gone e =
    let same : u ≡ v = some-injective u v (sym (subst (λ (i : ℕ). get_elem? vs i ≡ some u) e at) ∙ me) in
    false≢true (sym (ap (λ (x : Option Opening). is_some x) (sym (ap (λ (x : View). x.opening) same) ∙ gone)) ∙ live)

-- a step of one seat spends none
pub set_spends_none : (vs : List View) (id : ℕ) (v w : View) → get_elem? vs id ≡ some v → is_some v.opening ≡ true → StaySpent vs (set vs id w)
set_spends_none vs id v w me live c u at gone = (u, set_else vs id c w (not_spent vs id c v u me live at gone) ∙ at, gone)

pub seat_kept : (k : Opening) (ws ws' : List ℕ) (vs vs' : List View) (log log' : List Logged) (id j : ℕ) (u : View) → Goes k ws ws' log log' id
    → ((c : ℕ) (x : View) → get_elem? vs c ≡ some x → IsSpent x → made_by c log' ≡ made_by c log) → StaySpent vs vs'
    → j ≢ id → IsSeated k ws vs log j u → IsSeated k ws' vs' log' j u
seat_kept k ws ws' vs vs' log log' id j u g m s ne q = record {
  opening = q.opening;
  core = q.core;
  made = q.made ∙ sym (g.made j ne);
  held = holds_kept k ws ws' log log' j (λ o. g.held j o ne) u.held q.held;
  look = look_kept k log log' g.newer u.look q.look;
  tried = q.tried;
  joined = joined_kept vs vs' log log' m s u.joined q.joined;
}

-- ---- what is taken

-- what a seat holds it still holds, where the one that steps goes on with its object
pub taken_set : (vs : List View) (id : ℕ) (v w : View) (o c : ℕ) → get_elem? vs id ≡ some v → IsTaken vs c o
    → ((h : Held) → v.held ≡ Some h → h.object ≡ o → (x : Held) × (w.held ≡ Some x) × (x.object ≡ o)) → IsTaken (set vs id w) c o
taken_set vs id v w o c me t f = dite (ℕ_discrete c id)
    (λ e.
    let same : t.view ≡ v = some-injective t.view v (sym (subst (λ (i : ℕ). get_elem? vs i ≡ some t.view) e t.there) ∙ me) in
    let h = f t.held (sym (ap (λ (x : View). x.held) same) ∙ t.holds) t.object in
    record { view = w; there = subst (λ (i : ℕ). get_elem? (set vs id w) i ≡ some w) (sym e) (set_here vs id w (at_within vs id v me)); held = h.0; holds = h.1; object = h.2 })
    (λ ne. record { view = t.view; there = set_else vs id c w ne ∙ t.there; held = t.held; holds = t.holds; object = t.object })

-- the object that a seat holds is of its word
pub holds_word : (k : Opening) (ws : List ℕ) (log : List Logged) (j : ℕ) (x : Option Held) (h : Held) → Holds k ws log j x → x ≡ Some h → IsHolding k ws log j h
holds_word k ws log j x h q e = subst (λ (y : Option Held). Holds k ws log j y) e q

-- ---- a step of one seat

pub stepped_by : (k : Opening) (s : Table) (r : RoundRule k s) (id : ℕ) (v w : View) (ws' : List ℕ) (hs' : List (option.Option Object)) (log' : List Logged)
    → get_elem? s.views id ≡ some v → is_some v.opening ≡ true → w.opening ≡ v.opening → w.given ≡ v.given → w.joined ≡ v.joined
    → Goes k s.words ws' r.log log' id → length ws' ≡ length s.words → length hs' ≡ length s.homes
    → AreCounted log' → get_or ws' 0 0 ≡ length log' → AreOf (length s.views) log' → ((c : ℕ) → length (made_by c log') ≤ k.room)
    → IsSeated k ws' (set s.views id w) log' id w
    → ((o : ℕ) → o < length s.homes → word_of ws' o ≡ 0 → IsAtHome k hs' log' o)
    → ((o c : ℕ) → o < length s.homes → word_of ws' o ≡ suc c → IsTaken (set s.views id w) c o)
    → RoundRule k record { words = ws'; homes = hs'; views = set s.views id w }
stepped_by k s r id v w ws' hs' log' me live opening given joined goes wide long stamps count cores room mine free taken =
    let vs' : List View = set s.views id w in
    let same : length vs' ≡ length s.views = length-set s.views id w in
    let lively : is_some w.opening ≡ true = ap (λ (x : Option Opening). is_some x) opening ∙ live in
    let m : (c : ℕ) (u : View) → get_elem? s.views c ≡ some u → IsSpent u → made_by c log' ≡ made_by c r.log = λ c u at gone. goes.made c (not_spent s.views id c v u me live at gone) in
    let stay : StaySpent s.views vs' = set_spends_none s.views id v w me live in
    let before = before_set s.views id v w me opening joined in
    record {
      log = log';
      stamps = stamps;
      count = count;
      cores = subst (λ (n : ℕ). AreOf n log') (sym same) cores;
      small = r.small;
      room = room;
      words = wide ∙ (r.words ∙ ap (λ (n : ℕ). place_of n) (sym long));
      objects = long ∙ r.objects;
      seats = subst (λ (n : ℕ). n ≤ 8) (sym same) r.seats;
      giver = λ u at. ⊎_elim
          (λ t. ap (λ (x : View). x.given) (sym t.1) ∙ (given ∙ (r.giver v (subst (λ (i : ℕ). get_elem? s.views i ≡ some v) (sym t.0) me) ∙ sym same)))
          (λ t. r.giver u t.1 ∙ sym same) (at_set s.views id 0 w u at);
      takers = λ j u at. ⊎_elim
          (λ t. ap (λ (x : View). x.given) (sym t.1) ∙ (given ∙ r.takers j v (subst (λ (i : ℕ). get_elem? s.views i ≡ some v) (sym t.0) me)))
          (λ t. r.takers j u t.1) (at_set s.views id (suc j) w u at);
      once = λ x at c u there. once_kept k s r c x u (before 0 x at) (before c u there);
      alone = λ j u at. alone_kept k s r j u (before (suc j) u at);
      seated = λ j u at alive. ⊎_elim
          (λ t. subst (λ (i : ℕ). IsSeated k ws' vs' log' i u) (sym t.0) (subst (λ (x : View). IsSeated k ws' vs' log' id x) t.1 mine))
          (λ t. seat_kept k s.words ws' s.views vs' r.log log' id j u goes m stay t.0 (r.seated j u t.1 alive)) (at_set s.views id j w u at);
      gone = λ j u at dead. ⊎_elim
          (λ t. absurd (false≢true (sym dead ∙ (ap (λ (x : View). is_some x.opening) (sym t.1) ∙ lively))))
          (λ t. r.gone j u t.1 dead) (at_set s.views id j w u at);
      free = λ o near z. free o (subst (λ (n : ℕ). o < n) long near) z;
      taken = λ o c near e. taken o c (subst (λ (n : ℕ). o < n) long near) e;
    }
