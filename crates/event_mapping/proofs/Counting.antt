-- Few things are numbered of a description that lists few, made flat within limits, where its counts do not foretell that its plan is
-- too large.
use Rattle.std.proofs.Common.{◌≡◌, ℕ, ◌+◌, ◌*◌, ◌^◌, ◌<◌, ◌≤◌, List, [], ◌∷◌, length, filter, slice_get, Bool, true, false, cond, ◌||◌, Option, Some, None, is_some, option_map, refl, arith}
use Rattle.bus_semantics.specs.Common.{length-append, length-map, find, option_map_or}
use Rattle.plan_definitions.specs.Common.{Component, Description, End, Flat, Instance, Join, callings, end_of, is_joined, provider_of, same_end, is_mode_port, key_of, of_kind, from, counted}
use Rattle.plan_definitions.specs.Common.{counted_at, numbered, point_of, points, sites, HasFewParts, HasFewThings, has_machine, mode_ports_of}
use Rattle.plan_definitions.specs.declared.part.Part.{Part}
use Rattle.plan_definitions.specs.declared.site.Site.{Site}
use Rattle.plan_definitions.proofs.Apart.{apart_filter}
use Rattle.plan_definitions.proofs.Sites.{sites_apart}
use Rattle.plan_definitions.proofs.Lists.{as_many}
use Rattle.event_mapping.specs.Foretold.{AreShort}
use Rattle.event_mapping.proofs.Alone.{named, named_few}
use Rattle.event_mapping.proofs.ManyLists.{few_lists}
use Rattle.event_mapping.proofs.Foretelling.{elements_listed, machines_listed, servers_listed}

-- ---- what instances have

-- fewer of each than a file has, of at most 1,024
from_few : {X Y : Type 0} (g : ℕ → X → List Y) → ((i : ℕ) (x : X) → length (g i x) < 2 ^ 22) → (i : ℕ) (xs : List X) → length (from i g xs) + length xs ≤ length xs * 4194304
from_few g each i [] = omega arith
from_few g each i (x ∷ xs) = omega (arith, each i x, length-append (g i x) (from (i + 1) g xs), from_few g each (i + 1) xs)

all_few : {X Y : Type 0} (g : ℕ → X → List Y) → ((i : ℕ) (x : X) → length (g i x) < 2 ^ 22) → (xs : List X) → length xs ≤ 1024 → length (from 0 g xs) < 2 ^ 32
all_few g each xs few = omega (arith, few, from_few g each 0 xs)

module _ (d : Description) (few : HasFewParts d) where
  pairs_at : (part : Part) (i : ℕ) (x : Instance) → length (numbered i (counted_at part d x)) < 2 ^ 22
  pairs_at part i x = let below : counted_at part d x < 2 ^ 22 = by (slice_get d.components x.component) refl in omega (arith, as_many {Y = ℕ × ℕ} (λ n. (i, n)) 0 (counted_at part d x), below)
    where
      by : (o : Option Component) → slice_get d.components x.component ≡ o → option_map_or (counted part) o 0 < 2 ^ 22
      by None none = omega arith
      by (Some c) some = (few.components x.component c some).parts part

-- ---- required mode elements with a machine: joins name them

joined_provider : (joins : List Join) (e : End) → is_some (provider_of joins e) ≡ true → is_joined joins e ≡ true
joined_provider [] e h = h
joined_provider (j ∷ joins) e h = by (same_end j.required e) (same_end j.provided e) h (joined_provider joins e)
  where
    by : (r p : Bool) → is_some (option_map (λ (x : Join). x.provided) (cond r (Some j) (find (λ (x : Join). same_end x.required e) joins))) ≡ true → (is_some (provider_of joins e) ≡ true → is_joined joins e ≡ true)
        → ((p || r) || is_joined joins e) ≡ true
    by true true h more = refl
    by true false h more = refl
    by false true h more = refl
    by false false h more = more h

machine_named : (joins : List Join) (s : Site) → has_machine joins s ≡ true → named joins s ≡ true
machine_named joins s h = by (end_of s) h
  where
    by : (o : Option End) → option_map_or (λ e. is_some (provider_of joins e)) o false ≡ true → option_map_or (is_joined joins) o false ≡ true
    by None h = h
    by (Some e) h = joined_provider joins e h

fewer : {X : Type 0} (a b : X → Bool) → ((x : X) → a x ≡ true → b x ≡ true) → (xs : List X) → length (filter a xs) ≤ length (filter b xs)
fewer a b leads [] = omega arith
fewer a b leads (x ∷ xs) = by (a x) refl (b x) refl (fewer a b leads xs)
  where
    by : (p : Bool) → a x ≡ p → (q : Bool) → b x ≡ q → length (filter a xs) ≤ length (filter b xs) → length (cond p (x ∷ filter a xs) (filter a xs)) ≤ length (cond q (x ∷ filter b xs) (filter b xs))
    by true is true also rest = omega (arith, rest)
    by true is false other rest = let no = leads x is in cc
    by false is true also rest = omega (arith, rest)
    by false is false other rest = rest

pub few_mode_ports : (d : Description) (f : Flat) → length (mode_ports_of d f) ≤ length f.joins + length f.joins
few_mode_ports d f =
    let at = of_kind is_mode_port d f in
    let most : length (mode_ports_of d f) ≤ length (filter (named f.joins) at) = fewer (has_machine f.joins) (named f.joins) (machine_named f.joins) at in
    let few : length (filter (named f.joins) at) ≤ length f.joins + length f.joins = named_few f.joins at (apart_filter key_of (λ (s : Site). is_mode_port s.kind) (sites d f) (sites_apart d f)) in
    omega (arith, most, few)

-- ---- the whole

pub few_things : (d : Description) (f : Flat) → HasFewParts d → length f.instances ≤ 1024 → length f.joins ≤ 65536 → AreShort d f → HasFewThings d f
few_things d f few instances joins told = record {
  parts = few;
  instances = omega (arith, instances);
  elements = omega (arith, joins, told.objects, elements_listed d f);
  servers = omega (arith, joins, told.objects, servers_listed d f);
  machines = omega (arith, joins, told.objects, machines_listed d f);
  mode_ports = omega (arith, joins, few_mode_ports d f);
  pairs = λ part. all_few (λ i x. numbered i (counted_at part d x)) (pairs_at d few part) f.instances instances;
  lists = few_lists d f few instances;
  points = let same : length (points d f) ≡ length (callings d f) = length-map (callings d f) (point_of d f) in omega (arith, told.points, same);
}
