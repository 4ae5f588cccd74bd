-- Descriptions whose programs are the same trees, held elsewhere in memory.
use Rattle.std.proofs.Common.{◌≡◌, ℕ, suc, ◌+◌, List, [], ◌∷◌, ◌++◌, map, length, Option, Some, None, option_map, option_and_then, slice_get, refl, sym, ap, ◌∙◌}
use Rattle.bus_semantics.specs.Common.{Global, flat_map, option_map_or, option_or, same_Some, slice_get-map, Program}
use Rattle.std.specs.declared.sync.Arc.{Arc}
use Rattle.plan_definitions.specs.Common.{Component, Runnable, Description, first_of, from}
use Rattle.component_model.specs.Descriptions.{description_of}
use Rattle.component_model.specs.Programs.{ComponentTree, RunnableTree, component_tree}

-- the description with these components
abbrev pub held_as : Description → List Component → Description
held_as d cs = record { types = d.types; components = cs; compositions = d.compositions; root = d.root; mapping = d.mapping }

-- a program as a description holds it
abbrev pub Shared : Type 0
Shared = Arc Program Global

-- a component without its runnables, and a runnable with a program
abbrev pub bare : ComponentTree → Component
bare t = record {
  short_name = t.short_name;
  ports = t.ports;
  behavior = record { exclusive_areas = t.behavior.exclusive_areas; variables = t.behavior.variables; runnables = []; events = t.behavior.events };
}

abbrev pub running : Shared → RunnableTree → Runnable
running p t = record { short_name = t.short_name; can_be_invoked_concurrently = t.can_be_invoked_concurrently; accesses = t.accesses; coherent = t.coherent; program = p }

-- ---- what two functions give that tell nothing but the tree

module _ {A T X : Type 0} (tree : A → T) where
  pub look : (f g : A → X) (z : X) → ((a b : A) → tree a ≡ tree b → f a ≡ g b) → (o p : Option A) → option_map tree o ≡ option_map tree p → option_map_or f o z ≡ option_map_or g p z
  look f g z blind None None e = refl
  look f g z blind None (Some b) e = absurd cc
  look f g z blind (Some a) None e = absurd cc
  look f g z blind (Some a) (Some b) e = blind a b (same_Some (tree a) (tree b) e)

  pub look_on : (f g : A → Option X) → ((a b : A) → tree a ≡ tree b → f a ≡ g b) → (o p : Option A) → option_map tree o ≡ option_map tree p → option_and_then f o ≡ option_and_then g p
  look_on f g blind None None e = refl
  look_on f g blind None (Some b) e = absurd cc
  look_on f g blind (Some a) None e = absurd cc
  look_on f g blind (Some a) (Some b) e = blind a b (same_Some (tree a) (tree b) e)

  pub on_first : (f g : ℕ → A → Option X) → ((n : ℕ) (a b : A) → tree a ≡ tree b → f n a ≡ g n b) → (n : ℕ) (xs ys : List A) → map tree xs ≡ map tree ys → first_of f n xs ≡ first_of g n ys
  on_first f g blind n [] [] e = refl
  on_first f g blind n [] (y ∷ ys) e = absurd cc
  on_first f g blind n (x ∷ xs) [] e = absurd cc
  on_first f g blind n (x ∷ xs) (y ∷ ys) e = let one : tree x ≡ tree y = cc in let others : map tree xs ≡ map tree ys = cc in
      λ i. option_or (blind n x y one i) (on_first f g blind (n + 1) xs ys others i)

  pub on_from : (f g : ℕ → A → List X) → ((n : ℕ) (a b : A) → tree a ≡ tree b → f n a ≡ g n b) → (n : ℕ) (xs ys : List A) → map tree xs ≡ map tree ys → from n f xs ≡ from n g ys
  on_from f g blind n [] [] e = refl
  on_from f g blind n [] (y ∷ ys) e = absurd cc
  on_from f g blind n (x ∷ xs) [] e = absurd cc
  on_from f g blind n (x ∷ xs) (y ∷ ys) e = let one : tree x ≡ tree y = cc in let others : map tree xs ≡ map tree ys = cc in
      λ i. blind n x y one i ++ on_from f g blind (n + 1) xs ys others i

  pub on_each : (f : A → List X) → ((a b : A) → tree a ≡ tree b → f a ≡ f b) → (xs ys : List A) → map tree xs ≡ map tree ys → flat_map f xs ≡ flat_map f ys
  on_each f blind [] [] e = refl
  on_each f blind [] (y ∷ ys) e = absurd cc
  on_each f blind (x ∷ xs) [] e = absurd cc
  on_each f blind (x ∷ xs) (y ∷ ys) e = let one : tree x ≡ tree y = cc in let others : map tree xs ≡ map tree ys = cc in
      λ i. blind x y one i ++ on_each f blind xs ys others i

-- the same where what is found is again known by its tree
pub look_within : {A T B U : Type 0} (tree : A → T) (inner : B → U) (f : A → Option B) → ((a b : A) → tree a ≡ tree b → option_map inner (f a) ≡ option_map inner (f b))
    → (o p : Option A) → option_map tree o ≡ option_map tree p → option_map inner (option_and_then f o) ≡ option_map inner (option_and_then f p)
look_within tree inner f blind None None e = refl
look_within tree inner f blind None (Some b) e = absurd cc
look_within tree inner f blind (Some a) None e = absurd cc
look_within tree inner f blind (Some a) (Some b) e = blind a b (same_Some (tree a) (tree b) e)

pub at_place : {A T : Type 0} (tree : A → T) (xs ys : List A) → map tree xs ≡ map tree ys → (k : ℕ) → option_map tree (slice_get xs k) ≡ option_map tree (slice_get ys k)
at_place tree xs ys same k = sym (slice_get-map tree xs k) ∙ (ap (λ ts. slice_get ts k) same ∙ slice_get-map tree ys k)

pub as_many : {A T : Type 0} (tree : A → T) (xs ys : List A) → map tree xs ≡ map tree ys → length xs ≡ length ys
as_many tree [] [] e = refl
as_many tree [] (y ∷ ys) e = absurd cc
as_many tree (x ∷ xs) [] e = absurd cc
as_many tree (x ∷ xs) (y ∷ ys) e = let others : map tree xs ≡ map tree ys = cc in ap suc (as_many tree xs ys others)

-- ---- two descriptions with the same tree

pub held_is : (d e : Description) → description_of d ≡ description_of e → held_as d e.components ≡ e
held_is d e p = λ i. record { types = (p i).types; components = e.components; compositions = (p i).compositions; root = (p i).root; mapping = (p i).mapping }

pub held_same : (d e : Description) → description_of d ≡ description_of e → map component_tree d.components ≡ map component_tree e.components
held_same d e p = ap (λ t. t.components) p
