-- The operation that a runnable serves, as it is looked up.
use Rattle.std.proofs.Common.{◌≡◌, ℕ, List, [], ◌∷◌, ◌++◌, Bool, true, false, cond, nat_eq, Option, Some, None, refl, ap, ◌∙◌}
use Rattle.bus_semantics.specs.Common.{flat_map, lookup, option_map_or}
use Rattle.plan_definitions.specs.Common.{Event, invoked_by, served_by}
use Rattle.plan_services.specs.Served.{Served, served_entry}
use Rattle.plan_definitions.specs.Started.{serves}
use Rattle.plan_definitions.proofs.Keys.{nat_eq_sym}

none_more : (b : Bool) (rest : Option Served) → rest ≡ option_map_or (λ x. Some x) (cond b None None) rest
none_more true rest = refl
none_more false rest = refl

some_more : (b : Bool) (x : Served) (rest : Option Served) → cond b (Some x) rest ≡ option_map_or (λ x. Some x) (cond b (Some x) None) rest
some_more true x rest = refl
some_more false x rest = refl

one_more : (m r : ℕ) (served : Option Served) (rest : List (ℕ × Served))
    → lookup (nat_eq m) (option_map_or (λ x. (r, x) ∷ []) served [] ++ rest) ≡ option_map_or (λ x. Some x) (cond (nat_eq r m) served None) (lookup (nat_eq m) rest)
one_more m r None rest = none_more (nat_eq r m) (lookup (nat_eq m) rest)
one_more m r (Some x) rest = ap (λ b. cond b (Some x) (lookup (nat_eq m) rest)) (nat_eq_sym m r) ∙ some_more (nat_eq r m) x (lookup (nat_eq m) rest)

found_in : (m : ℕ) (events : List Event) → lookup (nat_eq m) (flat_map served_entry events) ≡ served_by events m
found_in m [] = refl
found_in m (e ∷ events) = one_more m e.runnable (invoked_by e.kind) (flat_map served_entry events) ∙ ap (option_map_or (λ x. Some x) (serves m e)) (found_in m events)

pub served_found : (m : ℕ) (events : List Event) (entries : List (ℕ × Served)) → entries ≡ flat_map served_entry events → lookup (nat_eq m) entries ≡ served_by events m
served_found m events entries are = ap (lookup (nat_eq m)) are ∙ found_in m events
