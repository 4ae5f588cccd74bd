-- Each step keeps the rule of the queue.
use Rattle.std.proofs.Common.{◌≡◌, ◌≢◌, ◌<◌, ◌≤◌, ◌+◌, ℕ, zero, suc, List, [], ◌∷◌, ◌++◌, length, length-append, length-set, set, get_or, drop, refl, sym, ◌∙◌, ap, subst, arith, ⊎_elim, ◌⊎◌, inl, inr}
use Rattle.std.specs.Prelude.{sum, ⊤}
use Rattle.std.specs.List.{range_with_len}
use mathlib.Core.Option.{some, some-injective, some-ne-none}
use mathlib.Core.Logic.{dite}
use native.Mathlib.Decide.{ℕ_discrete}
use lib.ListN.{get_elem?}
use Rattle.crossbeam_queue.specs.Fifo.{Pushes, Pops, Forks, Learns}
use Rattle.crossbeam_queue.proofs.Lists.{at_set}
use Rattle.feed_queue.specs.declared.views.Item.{Item}
use Rattle.feed_queue.specs.declared.views.View.{View}
use Rattle.feed_queue.specs.declared.views.View.TheVariants.{Feeds, Pumps}
use Rattle.feed_queue.specs.Feeds.{length_of, times, numbers_of, pushed_of}
use Rattle.feed_queue.specs.Views.{feeders_of, IsPumping}
use Rattle.feed_queue.specs.Fed.{Knows, IsFed}
use Rattle.feed_queue.specs.Steps.{with_feeder, newest_feeder, WasPushed, WasPopped, HasPlace}
use Rattle.feed_queue.proofs.Counts.{times_last, times_other, numbers_here, numbers_there, numbers_last, numbers_other, range_last, times_within, items_within}

at_within : (l : List View) (i : ℕ) (a : View) → get_elem? l i ≡ some a → i < length l
at_within [] i a e = absurd (some-ne-none a (sym e))
at_within (x ∷ xs) zero a e = omega arith
at_within (x ∷ xs) (suc i) a e = omega (arith, at_within xs i a e)

-- at the end stands what was put there, and before it what stood there
at_end : (l : List View) (a b : View) (j : ℕ) → get_elem? (l ++ a ∷ []) j ≡ some b → (get_elem? l j ≡ some b) ⊎ ((j ≡ length l) × (a ≡ b))
at_end [] a b zero e = inr (refl, some-injective a b e)
at_end [] a b (suc j) e = absurd (some-ne-none b (sym e))
at_end (x ∷ xs) a b zero e = inl e
at_end (x ∷ xs) a b (suc j) e = ⊎_elim (λ t. inl t) (λ t. inr (ap suc t.0, t.1)) (at_end xs a b j e)

-- what every pass knows, where one pass now knows something else
all_set : (F : ℕ → View → Type 0) (views : List View) (pass : ℕ) (w : View) → F pass w → ((j : ℕ) (u : View) → j ≢ pass → get_elem? views j ≡ some u → F j u)
    → (j : ℕ) (u : View) → get_elem? (set views pass w) j ≡ some u → F j u
all_set F views pass w mine others j u e = ⊎_elim (λ (x : (j ≡ pass) × (w ≡ u)). subst (λ (y : ℕ × View). F y.0 y.1) (λ i. (sym x.0 i, x.1 i)) mine)
    (λ (x : (j ≢ pass) × (get_elem? views j ≡ some u)). others j u x.0 x.1) (at_set views pass j w u e)

-- ---- the first pass

pub begins : (lengths : List ℕ) → IsFed lengths [] (Pumps 0 [] ∷ [])
begins lengths = record {
  order = [];
  waiting = λ f. refl;
  bounded = λ f. omega arith;
  known = λ j v e. ⊎_elim (λ x. absurd (some-ne-none v (sym x))) (λ (x : (j ≡ 0) × (Pumps 0 [] ≡ v)). subst (Knows [] [] 1 j) x.1 (x.0, refl, refl, λ f _. refl)) (at_end [] (Pumps 0 []) v j e);
}

-- ---- a push

-- what another pass knows does not change when an item of this feed joins
still_known : (order : List ℕ) (items : List Item) (passes : ℕ) (x : Item) (j : ℕ) (u : View) → suc x.feed < passes → j ≢ suc x.feed
    → Knows order items passes j u → Knows order (items ++ x ∷ []) passes j u
still_known order items passes x j (Feeds g n) there other k =
    (k.0, k.1 ∙ ap (λ ns. times g order + length ns) (sym (numbers_other g x items (λ e. other (k.0 ∙ ap suc e)))))
still_known order items passes x j (Pumps feeders popped) there other k =
    (k.0, k.1, k.2, λ f h. ap (λ ns. times f order + length ns) (numbers_other f x items (λ e. omega (arith, e, k.2))) ∙ k.3 f h)

pub pushes : (lengths : List ℕ) (n pass : ℕ) (x : Item) → x.number < length_of lengths x.feed
    → Pushes (IsFed lengths) n pass (Feeds x.feed x.number) x (WasPushed (Feeds x.feed x.number) x)
pushes lengths n pass x below items views _ h at = (
  w,
  record {
    order = h.order;
    waiting = λ f. dite (ℕ_discrete f x.feed) (λ is. subst (λ (g : ℕ). numbers_of g new ≡ range_with_len (times g h.order) (length (numbers_of g new))) (sym is) here)
        (λ ne. subst (λ (ns : List ℕ). ns ≡ range_with_len (times f h.order) (length ns)) (sym (numbers_other f x items ne)) (h.waiting f));
    bounded = λ f. dite (ℕ_discrete f x.feed) (λ is. subst (λ (g : ℕ). pushed_of h.order new g ≤ length_of lengths g) (sym is) (omega (arith, one_more, mine.1, below)))
        (λ ne. omega (arith, ap length (numbers_other f x items ne), h.bounded f));
    known = λ j u e. subst (λ (n : ℕ). Knows h.order new n j u) (sym (length-set views pass w)) (all_set (Knows h.order new (length views)) views pass w (mine.0, ap suc mine.1 ∙ sym one_more)
        (λ i v other e'. still_known h.order items (length views) x i v (omega (arith, at_within views pass v₀ at, mine.0)) (λ q. other (q ∙ sym mine.0)) (h.known i v e')) j u e);
  },
  refl,
)
  where
    v₀ : View
    v₀ = Feeds x.feed x.number

    w : View
    w = Feeds x.feed (suc x.number)

    new : List Item
    new = items ++ x ∷ []

    mine : (pass ≡ suc x.feed) × (x.number ≡ pushed_of h.order items x.feed)
    mine = h.known pass v₀ at

    one_more : pushed_of h.order new x.feed ≡ suc (pushed_of h.order items x.feed)
    one_more = omega (arith, ap length (numbers_last x items), length-append (numbers_of x.feed items) (x.number ∷ []))

    here : numbers_of x.feed new ≡ range_with_len (times x.feed h.order) (length (numbers_of x.feed new))
    here = let k = length (numbers_of x.feed items) in
        let e : suc k ≡ length (numbers_of x.feed new) = omega (arith, one_more) in
        numbers_last x items ∙ ap (λ ns. ns ++ x.number ∷ []) (h.waiting x.feed) ∙ ap (λ (m : ℕ). range_with_len (times x.feed h.order) k ++ m ∷ []) mine.1
        ∙ sym (range_last (times x.feed h.order) k) ∙ ap (range_with_len (times x.feed h.order)) e

-- with a number below its feed's length in hand, there is a place
pub has_place : (lengths : List ℕ) (pass : ℕ) (x : Item) → x.number < length_of lengths x.feed
    → Learns (IsFed lengths) pass (Feeds x.feed x.number) (HasPlace lengths (Feeds x.feed x.number))
has_place lengths pass x below items views h at = omega (arith, items_within lengths (x ∷ items) each)
  where
    mine : (pass ≡ suc x.feed) × (x.number ≡ pushed_of h.order items x.feed)
    mine = h.known pass (Feeds x.feed x.number) at

    each : (f : ℕ) → length (numbers_of f (x ∷ items)) ≤ length_of lengths f
    each f = dite (ℕ_discrete f x.feed) (λ is. subst (λ (g : ℕ). length (numbers_of g (x ∷ items)) ≤ length_of lengths g) (sym is) (omega (arith, ap length (numbers_here x items), mine.1, below)))
        (λ ne. omega (arith, ap length (numbers_there f x items ne), h.bounded f))

-- ---- a pop

pub pops : (lengths : List ℕ) (pass feeders : ℕ) (order : List ℕ) → Pops (IsFed lengths) pass (Pumps feeders order) (WasPopped lengths (Pumps feeders order))
pops lengths pass feeders order x items views h at = (
  w,
  record {
    order = new;
    waiting = λ f. dite (ℕ_discrete f x.feed) (λ is. subst (λ (g : ℕ). numbers_of g items ≡ range_with_len (times g new) (length (numbers_of g items))) (sym is) (subst (λ (t : ℕ). numbers_of x.feed items ≡ range_with_len t (length (numbers_of x.feed items))) (sym (times_last x.feed h.order)) split.1))
        (λ ne. subst (λ (t : ℕ). numbers_of f items ≡ range_with_len t (length (numbers_of f items))) (sym (times_other f x.feed h.order ne))
        (subst (λ (ns : List ℕ). ns ≡ range_with_len (times f h.order) (length ns)) (numbers_there f x items ne) (h.waiting f)));
    bounded = λ f. omega (arith, same f, h.bounded f);
    known = λ j u e. subst (λ (n : ℕ). Knows new items n j u) (sym (length-set views pass w)) (all_set (Knows new items (length views)) views pass w
        (mine.0, ap (λ l. l ++ x.feed ∷ []) mine.1, mine.2, λ f k. same f ∙ mine.3 f k) (λ i v other e'. still i v other (h.known i v e')) j u e);
  },
  told,
)
  where
    new : List ℕ
    new = h.order ++ x.feed ∷ []

    w : View
    w = Pumps feeders (order ++ x.feed ∷ [])

    mine : (pass ≡ 0) × (order ≡ h.order) × (length views ≡ suc feeders) × ((f : ℕ) → feeders ≤ f → pushed_of h.order (x ∷ items) f ≡ 0)
    mine = h.known pass (Pumps feeders order) at

    split : (x.number ≡ times x.feed h.order) × (numbers_of x.feed items ≡ range_with_len (suc (times x.feed h.order)) (length (numbers_of x.feed items)))
    split = let t = times x.feed h.order in let k = length (numbers_of x.feed items) in
        let joined : x.number ∷ numbers_of x.feed items ≡ t ∷ range_with_len (t + 1) k =
        sym (numbers_here x items) ∙ h.waiting x.feed ∙ ap (λ (ns : List ℕ). range_with_len t (length ns)) (numbers_here x items) in
        let e : t + 1 ≡ suc t = omega arith in
        (ap (λ (ns : List ℕ). get_or ns 0 0) joined, ap (λ (ns : List ℕ). drop 1 ns) joined ∙ ap (λ (m : ℕ). range_with_len m k) e)

    same : (f : ℕ) → pushed_of new items f ≡ pushed_of h.order (x ∷ items) f
    same f = dite (ℕ_discrete f x.feed) (λ is. subst (λ (g : ℕ). pushed_of new items g ≡ pushed_of h.order (x ∷ items) g) (sym is) (omega (arith, times_last x.feed h.order, ap length (numbers_here x items))))
        (λ ne. omega (arith, times_other f x.feed h.order ne, ap length (numbers_there f x items ne)))

    short : length order < sum lengths
    short = let all : length new ≤ sum lengths = times_within lengths new (λ f. omega (arith, same f, h.bounded f)) in omega (arith, all, length-append h.order (x.feed ∷ []), ap length mine.1)

    told : WasPopped lengths (Pumps feeders order) x w
    told = (refl, split.0 ∙ ap (times x.feed) (sym mine.1), omega (arith, split.0, h.bounded x.feed, ap length (numbers_here x items)), short)

    still : (i : ℕ) (v : View) → i ≢ pass → Knows h.order (x ∷ items) (length views) i v → Knows new items (length views) i v
    still i (Feeds g m) other k = (k.0, k.1 ∙ sym (same g))
    still i (Pumps n l) other k = absurd (other (k.0 ∙ sym mine.0))

pub learns : (lengths : List ℕ) (pass : ℕ) (v : View) → Learns (IsFed lengths) pass v (λ _. ⊤)
learns lengths pass v items views h at = tt

-- ---- a new pass

pub forks : (lengths : List ℕ) (pass feeders : ℕ) (order : List ℕ)
    → Forks (IsFed lengths) pass (Pumps feeders order) (with_feeder (Pumps feeders order)) (newest_feeder (Pumps feeders order))
forks lengths pass feeders order items views h at = record {
  order = h.order;
  waiting = h.waiting;
  bounded = h.bounded;
  known = λ j u e. ⊎_elim (λ (x : get_elem? vs j ≡ some u). all_set (Knows h.order items (length (vs ++ r ∷ []))) views pass l
      (mine.0, mine.1, count, λ f k. mine.3 f (omega arith)) (λ i v other e'. still i v other (h.known i v e')) j u x)
      (λ (x : (j ≡ length vs) × (r ≡ u)). subst (Knows h.order items (length (vs ++ r ∷ [])) j) x.1 (x.0 ∙ length-set views pass l ∙ mine.2, sym (mine.3 feeders (omega arith)))) (at_end vs r u j e);
}
  where
    l : View
    l = Pumps (suc feeders) order

    r : View
    r = Feeds feeders 0

    vs : List View
    vs = set views pass l

    mine : (pass ≡ 0) × (order ≡ h.order) × (length views ≡ suc feeders) × ((f : ℕ) → feeders ≤ f → pushed_of h.order items f ≡ 0)
    mine = h.known pass (Pumps feeders order) at

    count : length (vs ++ r ∷ []) ≡ suc (suc feeders)
    count = omega (arith, length-append vs (r ∷ []), length-set views pass l, mine.2)

    still : (i : ℕ) (v : View) → i ≢ pass → Knows h.order items (length views) i v → Knows h.order items (length (vs ++ r ∷ [])) i v
    still i (Feeds g m) other k = (k.0, k.1)
    still i (Pumps n o) other k = absurd (other (k.0 ∙ sym mine.0))

-- ---- the same, by what a pass is known to know

pub pushes_at : (lengths : List ℕ) (n pass : ℕ) (v : View) (x : Item) → v ≡ Feeds x.feed x.number → x.number < length_of lengths x.feed
    → Pushes (IsFed lengths) n pass v x (WasPushed v x) × Learns (IsFed lengths) pass v (HasPlace lengths v)
pushes_at lengths n pass v x e below =
    subst (λ (u : View). Pushes (IsFed lengths) n pass u x (WasPushed u x) × Learns (IsFed lengths) pass u (HasPlace lengths u)) (sym e) (pushes lengths n pass x below, has_place lengths pass x below)

pub pops_at : (lengths : List ℕ) (pass : ℕ) (v : View) (order : List ℕ) → IsPumping order v
    → Pops (IsFed lengths) pass v (WasPopped lengths v) × Learns (IsFed lengths) pass v (λ _. ⊤)
pops_at lengths pass v order e =
    subst (λ (u : View). Pops (IsFed lengths) pass u (WasPopped lengths u) × Learns (IsFed lengths) pass u (λ _. ⊤)) (sym e) (pops lengths pass (feeders_of v) order, learns lengths pass (Pumps (feeders_of v) order))

pub forks_at : (lengths : List ℕ) (pass : ℕ) (v : View) (feeders : ℕ) (order : List ℕ) → v ≡ Pumps feeders order → Forks (IsFed lengths) pass v (with_feeder v) (newest_feeder v)
forks_at lengths pass v feeders order e = subst (λ (u : View). Forks (IsFed lengths) pass u (with_feeder u) (newest_feeder u)) (sym e) (forks lengths pass feeders order)
