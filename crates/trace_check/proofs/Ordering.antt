-- Taking a call, and lines that ask for nothing.
use Rattle.std.proofs.Common.{◌≡◌, ℕ, zero, suc, Bool, true, false, ◌==◌, List, [], ◌∷◌, ◌++◌, replicate, refl, sym, ap, ◌∙◌}
use Rattle.bus_semantics.specs.Common.{list_all, and_parts, and_from, eqb-true, false≢true, Wanted, to_tick, wanted_of, same_wanted, Ordered, a_call, orders_of_script}
use Rattle.bus_semantics.specs.declared.script.Line.{Line}
use Rattle.bus_semantics.specs.declared.script.Line.TheVariants as line
use Rattle.bus_semantics.specs.declared.entries.Wish.{Wish}
use Rattle.bus_semantics.proofs.SameWanted.{same_wanted-Decides}
use Rattle.trace_check.specs.Orders.{is_nothing, left_of}

one_call : (v w : Wanted) (xs ys : List Ordered) → a_call v ∷ xs ≡ a_call w ∷ ys → v ≡ w
one_call v w xs ys e = cc

pub another : (w : Wanted) (next : Wish) (lines rest : List Line) (now : List Ordered) → orders_of_script lines ≡ now → lines ≡ line.Call next ∷ rest → same_wanted w (wanted_of next) ≡ false
    → (more : List Ordered) → now ≡ a_call w ∷ more → ⊥
another w next lines rest now left is other more e =
    let same = one_call (wanted_of next) w (orders_of_script rest) more (ap orders_of_script (sym is) ∙ left ∙ e) in
    false≢true (sym other ∙ (same_wanted-Decides w (wanted_of next)).1 (sym same))

pub this_one : (w : Wanted) (next : Wish) (lines rest : List Line) (now : List Ordered) → orders_of_script lines ≡ now → lines ≡ line.Call next ∷ rest → same_wanted w (wanted_of next) ≡ true
    → now ≡ a_call w ∷ orders_of_script rest
this_one w next lines rest now left is same = sym left ∙ ap orders_of_script is ∙ ap (λ v. a_call v ∷ orders_of_script rest) (sym ((same_wanted-Decides w (wanted_of next)).0 same))

-- ---- lines that ask for nothing

nothing_left : (lines : List Line) → list_all is_nothing lines ≡ true → orders_of_script lines ≡ []
nothing_left [] e = refl
nothing_left (line.Tick n ∷ lines) e =
    let two = and_parts (n == 0) (list_all is_nothing lines) e in
    ap (λ k. replicate k (a_call to_tick) ++ orders_of_script lines) (eqb-true n 0 two.0) ∙ nothing_left lines two.1
nothing_left (line.Run ∷ lines) e = absurd (false≢true e)
nothing_left (line.Call w ∷ lines) e = absurd (false≢true e)

all_nothing : (lines : List Line) → orders_of_script lines ≡ [] → list_all is_nothing lines ≡ true
all_nothing [] e = refl
all_nothing (line.Tick zero ∷ lines) e = and_from true (list_all is_nothing lines) refl (all_nothing lines e)
all_nothing (line.Tick (suc n) ∷ lines) e = absurd (cc)
all_nothing (line.Run ∷ lines) e = absurd (cc)
all_nothing (line.Call w ∷ lines) e = absurd (cc)

pub is_over : (b : Bool) (ticks : ℕ) (lines : List Line) (now : List Ordered) → b ≡ list_all is_nothing lines → ticks ≡ 0 → left_of ticks lines ≡ now → (b ≡ true → now ≡ []) × (now ≡ [] → b ≡ true)
is_over b ticks lines now all none view =
    let same : now ≡ orders_of_script lines = sym view ∙ ap (λ n. left_of n lines) none in (
      λ e. same ∙ nothing_left lines (sym all ∙ e),
      λ e. all ∙ all_nothing lines (sym same ∙ e),
    )
