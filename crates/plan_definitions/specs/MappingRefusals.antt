-- What is refused of a description made flat, by the rules on the mapping and on the instances.
use Rattle.std.specs.Prelude.{◌≡◌, ℕ, List, ◌++◌, codes, slice_get, Option, Some, None, option_map, option_and_then, Result, Ok, Err}
use Rattle.std.specs.Fmt.{decimal}
use Rattle.std.specs.Option.{option_map_or, option_or}
use Rattle.rte_text.specs.declared.refusal.Refused.{Refused}
use Rattle.rte_text.specs.declared.refusal.Refused.TheVariants.{Rule, Memory}
use Rattle.description_types.specs.declared.description.Description.{Description}
use Rattle.description_types.specs.declared.flat.Flat.{Flat}
use Rattle.plan_definitions.specs.Parts.{component_of}
use Rattle.plan_definitions.specs.MappingRules.{unnamed, badly_mapped, spread, not_direct, ReachesItself}

-- the places: a mapped event, by its position; an event and a runnable of an instance, as in a trace
abbrev pub mapped_text : ℕ → List ℕ
mapped_text k = codes "/mapping/events/" ++ decimal k

abbrev pub path_of : Flat → ℕ → List ℕ
path_of f i = option_map_or (λ x. x.path) (slice_get f.instances i) (codes "")

abbrev pub event_text : Description → Flat → ℕ × ℕ → List ℕ
event_text d f e = (path_of f e.0 ++ codes ".") ++ option_map_or (λ v. v.short_name) (option_and_then (λ c. slice_get c.behavior.events e.1) (component_of d f e.0)) (codes "")

abbrev pub runnable_text : Description → Flat → ℕ × ℕ → List ℕ
runnable_text d f r = (path_of f r.0 ++ codes ":") ++ option_map_or (λ v. v.short_name) (option_and_then (λ c. slice_get c.behavior.runnables r.1) (component_of d f r.0)) (codes "")

abbrev pub mapping_text : List ℕ
mapping_text = codes "/mapping"

-- each rule with its first place
abbrev pub of_named : Description → Flat → Option (ℕ × List ℕ)
of_named d f = option_map (λ k. (25, mapped_text k)) (unnamed d f)

abbrev pub of_mapped : Description → Flat → Option (ℕ × List ℕ)
of_mapped d f = option_map (λ e. (26, event_text d f e)) (badly_mapped d f)

abbrev pub of_spread : Description → Flat → Option (ℕ × List ℕ)
of_spread d f = option_map (λ r. (27, runnable_text d f r)) (spread d f)

abbrev pub of_direct : Description → Flat → Option (ℕ × List ℕ)
of_direct d f = option_map (λ e. (28, event_text d f e)) (not_direct d f)

-- the least of rules 25 to 28 that is broken, with its first place
abbrev pub of_events : Description → Flat → Option (ℕ × List ℕ)
of_events d f = option_or (of_named d f) (option_or (of_mapped d f) (option_or (of_spread d f) (of_direct d f)))

-- rule 29, at the mapping
abbrev pub IsOfTasks : Description → Flat → Option (ℕ × List ℕ) → Type 0
IsOfTasks d f None = ReachesItself d f → ⊥
IsOfTasks d f (Some x) = (x ≡ (29, mapping_text)) × ReachesItself d f

abbrev pub IsAfter : Option (ℕ × List ℕ) → (Option (ℕ × List ℕ) → Type 0) → Option (ℕ × List ℕ) → Type 0
IsAfter None later refused = later refused
IsAfter (Some x) later refused = refused ≡ Some x

-- The refusal: the least of rules 25 to 29 that is broken, with its first place.
abbrev pub IsRefusal : Description → Flat → Option (ℕ × List ℕ) → Type 0
IsRefusal d f = IsAfter (of_events d f) (IsOfTasks d f)

-- an answer tells the refusal; want of memory may come at any time
abbrev pub Tells : {U : Type 0} → (Option (ℕ × List ℕ) → Type 0) → Result U Refused → Type 0
Tells is_refusal (Ok u) = is_refusal None
Tells is_refusal (Err (Rule r)) = is_refusal (Some (r.rule, r.place))
Tells is_refusal (Err Memory) = Unit
