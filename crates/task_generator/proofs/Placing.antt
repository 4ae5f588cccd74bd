-- A runnable, and its elements, at its place.
use Rattle.std.proofs.Common.{◌≡◌, ℕ, ◌<◌, List, [], map, length, get_or, Some, sym, ◌∙◌, ap, arith}
use Rattle.std.specs.Prelude.{slice_get}
use Rattle.bus_semantics.specs.Common.{option_map, slice_get-map, slice_get-get_or, get_or-map, length-map, Runnable, runnable_of}
use Rattle.bus_semantics.specs.declared.plan.RunnablePlan.{RunnablePlan}

pub listed : (f : Runnable → List ℕ) (runnables : List RunnablePlan) (i : ℕ) (d : RunnablePlan) → i < length runnables → get_or (map f (map runnable_of runnables)) i [] ≡ f (runnable_of (get_or runnables i d))
listed f runnables i d below =
    let long : i < length (map runnable_of runnables) = omega (arith, below, length-map runnables runnable_of) in
    get_or-map f (map runnable_of runnables) i (runnable_of d) [] long ∙ ap f (get_or-map runnable_of runnables i d (runnable_of d) below)

pub placed : (items runnables : List RunnablePlan) (i : ℕ) (x : RunnablePlan) → items ≡ runnables → i < length items → x ≡ get_or items i x → slice_get (map runnable_of runnables) i ≡ Some (runnable_of x)
placed items runnables i x same below is =
    ap (λ xs. slice_get (map runnable_of xs) i) (sym same)
    ∙ slice_get-map runnable_of items i
    ∙ ap (option_map runnable_of) (slice_get-get_or items i x below ∙ ap Some (sym is))
