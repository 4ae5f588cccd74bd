-- The variables at the start: the `in` arguments take the words of the start, and the others are 0.
use Rattle.std.proofs.Common.{◌≡◌, ℕ, suc, ◌+◌, ◌-◌, max, ℤ, pos, List, [], ◌∷◌, ◌++◌, length, replicate, Bool, true, false, if◌then◌else◌, Option, Some, None, refl, sym, ap, ◌∙◌, arith}
use Rattle.std.proofs.Common.{append_assoc, length-append}
use Rattle.std.specs.Prelude.{slice_get}
use Rattle.bus_semantics.specs.Common.{option_map_or, Plan, Runnable, stored, arguments_at_start, arguments_of, variables_at_start}
use Rattle.std.proofs.Math.Seq.{set-append_seam}
use Rattle.std.proofs.lemmas.List.{replicate-append-replicate}
use Rattle.bus_semantics.specs.declared.plan.ArgPlan.{ArgPlan}
use Rattle.bus_semantics.specs.declared.plan.ServerPlan.{ServerPlan}
use Rattle.task_generator.specs.Servers.{served, arguments_in, in_places}

nothing_given : (args : List ArgPlan) → arguments_at_start args [] ≡ replicate (length args) (pos 0)
nothing_given [] = refl
nothing_given (a ∷ args) = ap (λ xs. pos 0 ∷ xs) (nothing_given args)

nothing_stored : (vs : List ℕ) (vars : List ℤ) → stored vs [] vars ≡ vars
nothing_stored [] vars = refl
nothing_stored (v ∷ vs) vars = refl

-- behind one more variable
abbrev pub IsStored : List ArgPlan → List ℤ → List ℤ → Type 0
IsStored args front tail = (x : ℤ) (us : List ℤ) → stored (in_places (length (front ++ x ∷ [])) args) us ((front ++ x ∷ []) ++ (replicate (length args) (pos 0) ++ tail)) ≡ (front ++ x ∷ []) ++ (arguments_at_start args us ++ tail)

-- the arguments behind those that have their words
arguments_stored : (args : List ArgPlan) (ws front tail : List ℤ) → stored (in_places (length front) args) ws (front ++ (replicate (length args) (pos 0) ++ tail)) ≡ front ++ (arguments_at_start args ws ++ tail)
arguments_stored [] ws front tail = refl
arguments_stored (a ∷ args) [] front tail =
    nothing_stored (in_places (length front) (a ∷ args)) (front ++ (replicate (length (a ∷ args)) (pos 0) ++ tail))
    ∙ ap (λ xs. front ++ (xs ++ tail)) (sym (nothing_given (a ∷ args)))
arguments_stored (a ∷ args) (w ∷ ws) front tail = by_direction a.out (λ x us. arguments_stored args us (front ++ x ∷ []) tail)
  where
    longer : (x : ℤ) → length (front ++ x ∷ []) ≡ length front + 1
    longer x = omega (arith, length-append front (x ∷ []))

    further : IsStored args front tail → (x : ℤ) (us : List ℤ) → stored (in_places (length front + 1) args) us (front ++ (x ∷ (replicate (length args) (pos 0) ++ tail))) ≡ front ++ (x ∷ (arguments_at_start args us ++ tail))
    further rest x us =
        ap (λ n. stored (in_places n args) us (front ++ (x ∷ (replicate (length args) (pos 0) ++ tail)))) (sym (longer x))
        ∙ ap (stored (in_places (length (front ++ x ∷ [])) args) us) (sym (append_assoc front (x ∷ []) (replicate (length args) (pos 0) ++ tail)))
        ∙ rest x us
        ∙ append_assoc front (x ∷ []) (arguments_at_start args us ++ tail)

    by_direction : (b : Bool) → IsStored args front tail → stored (if b then in_places (length front + 1) args else length front ∷ in_places (length front + 1) args) (w ∷ ws) (front ++ (pos 0 ∷ (replicate (length args) (pos 0) ++ tail)))
        ≡ front ++ ((if b then pos 0 ∷ arguments_at_start args (w ∷ ws) else w ∷ arguments_at_start args ws) ++ tail)
    by_direction true rest = further rest (pos 0) (w ∷ ws)
    by_direction false rest =
        ap (stored (in_places (length front + 1) args) ws) (set-append_seam front (pos 0) (replicate (length args) (pos 0) ++ tail) w)
        ∙ further rest w ws

long : (args : List ArgPlan) (ws : List ℤ) → length (arguments_at_start args ws) ≡ length args
long [] ws = refl
long (a ∷ args) [] = ap (λ n. suc n) (long args [])
long (a ∷ args) (w ∷ ws) = by_direction a.out (long args (w ∷ ws)) (long args ws)
  where
    by_direction : (b : Bool) → length (arguments_at_start args (w ∷ ws)) ≡ length args → length (arguments_at_start args ws) ≡ length args
        → length (if b then pos 0 ∷ arguments_at_start args (w ∷ ws) else w ∷ arguments_at_start args ws) ≡ length (a ∷ args)
    by_direction true given left = ap (λ n. suc n) given
    by_direction false given left = ap (λ n. suc n) left

begun_with : (args : List ArgPlan) (ws : List ℤ) (vars : ℕ) → stored (in_places 0 args) ws (replicate (max vars (length args)) (pos 0)) ≡ arguments_at_start args ws ++ replicate (vars - length (arguments_at_start args ws)) (pos 0)
begun_with args ws vars =
    let parts : max vars (length args) ≡ length args + (vars - length args) = omega arith in
    ap (λ n. stored (in_places 0 args) ws (replicate n (pos 0))) parts
    ∙ ap (stored (in_places 0 args) ws) (sym (replicate-append-replicate (length args) (vars - length args) (pos 0)))
    ∙ arguments_stored args ws [] (replicate (vars - length args) (pos 0))
    ∙ ap (λ n. arguments_at_start args ws ++ replicate (vars - n) (pos 0)) (sym (long args ws))

-- ---- the operation that a runnable serves

-- the runnable, were it to serve another operation
abbrev pub serving : Runnable → Option ℕ → Runnable
serving r server = record { instance = r.instance; name = r.name; program = r.program; accesses = r.accesses; targets = r.targets; server = server; lists = r.lists }

looked : (o : Option ServerPlan) → option_map_or (λ (v : ServerPlan). v.arguments) o [] ≡ arguments_in o
looked None = refl
looked (Some v) = refl

arguments_by : (p : Plan) (r : Runnable) (server : Option ℕ) → arguments_of p (serving r server) ≡ arguments_in (served p.servers server)
arguments_by p r None = refl
arguments_by p r (Some n) = looked (slice_get p.servers n)

pub variables_begin : (p : Plan) (r : Runnable) (ws : List ℤ) → let args = arguments_in (served p.servers r.server) in
    stored (in_places 0 args) ws (replicate (max r.program.vars (length args)) (pos 0)) ≡ variables_at_start p r ws
variables_begin p r ws =
    begun_with (arguments_in (served p.servers r.server)) ws r.program.vars
    ∙ ap (λ args. arguments_at_start args ws ++ replicate (r.program.vars - length (arguments_at_start args ws)) (pos 0)) (sym (arguments_by p r r.server))
