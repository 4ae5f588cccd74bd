-- The text of a plan, part by part.
use Rattle.std.proofs.Common.{◌≡◌, ℕ, ◌+◌, List, [], ◌∷◌, ◌++◌, map, filter, Bool, true, false, cond, refl, sym, ap, ◌∙◌, append_assoc}
use Rattle.std.specs.List.{concat, flat_map}
use Rattle.std.proofs.lemmas.List.Folds.{concat-append}
use Rattle.plan_definitions.specs.Common.{Description, Task, Flat, from}
use Rattle.bus_semantics.specs.declared.plan.BusPlan.{BusPlan}
use Rattle.bus_semantics.specs.declared.plan.EventPlan.{EventPlan}
use Rattle.bus_semantics.specs.Spelling.{Letters}
use Rattle.plan_text.specs.Lines.{direct_events, direct_line, event_line, instance_line, invokes_directly, join_line, machine_line, mapped_in, plan_text, task_line, task_lines}
use Rattle.plan_text.specs.Texts.{direct_text, task_at, tasks_text}

lines_are : {X : Type 0} (f : X → Letters) (xs : List X) → concat (map f xs) ≡ flat_map f xs
lines_are f [] = refl
lines_are f (x ∷ xs) = ap (λ t. f x ++ t) (lines_are f xs)

tasks_from : (d : Description) (n : ℕ) (tasks : List Task) → concat (from n (task_lines d) tasks) ≡ from n (task_at d) tasks
tasks_from d n [] = refl
tasks_from d n (t ∷ tasks) =
    ap (λ x. task_line t ++ x) (concat-append (map (event_line t) (mapped_in d n)) (from (n + 1) (task_lines d) tasks))
    ∙ (λ j. task_line t ++ (lines_are (event_line t) (mapped_in d n) j ++ tasks_from d (n + 1) tasks j))
    ∙ sym (append_assoc (task_line t) (flat_map (event_line t) (mapped_in d n)) (from (n + 1) (task_at d) tasks))

direct_are : (f : Flat) (p : BusPlan) (events : List EventPlan) → concat (map (direct_line f p) (filter (λ e. invokes_directly p e.kind) events)) ≡ flat_map (direct_text f p) events
direct_are f p [] = refl
direct_are f p (e ∷ events) = by (direct_are f p events) (invokes_directly p e.kind)
  where
    by : concat (map (direct_line f p) (filter (λ x. invokes_directly p x.kind) events)) ≡ flat_map (direct_text f p) events
        → (b : Bool) → concat (map (direct_line f p) (cond b (e ∷ filter (λ x. invokes_directly p x.kind) events) (filter (λ x. invokes_directly p x.kind) events)))
        ≡ cond b (direct_line f p e) [] ++ flat_map (direct_text f p) events
    by rest true = ap (λ t. direct_line f p e ++ t) rest
    by rest false = rest

pub whole : (d : Description) (f : Flat) (p : BusPlan)
    → (((flat_map (instance_line d) f.instances ++ flat_map (join_line d f) f.joins) ++ flat_map (machine_line f) p.machines) ++ tasks_text d) ++ flat_map (direct_text f p) p.events ≡ plan_text d f p
whole d f p = sym (
    concat-append (((instances ++ joins) ++ machines) ++ tasks) direct
    ∙ ap (λ t. t ++ concat direct) (concat-append ((instances ++ joins) ++ machines) tasks
    ∙ ap (λ t. t ++ concat tasks) (concat-append (instances ++ joins) machines ∙ ap (λ t. t ++ concat machines) (concat-append instances joins)))
    ∙ (λ j. (((lines_are (instance_line d) f.instances j ++ lines_are (join_line d f) f.joins j) ++ lines_are (machine_line f) p.machines j) ++ tasks_from d 0 d.mapping.tasks j) ++ direct_are f p p.events j))
  where
    instances : List Letters
    instances = map (instance_line d) f.instances

    joins : List Letters
    joins = map (join_line d f) f.joins

    machines : List Letters
    machines = map (machine_line f) p.machines

    tasks : List Letters
    tasks = from 0 (task_lines d) d.mapping.tasks

    direct : List Letters
    direct = map (direct_line f p) (direct_events p)
