-- What a description with no refusal holds.
use Rattle.std.proofs.Common.{◌≡◌, ℕ, List, [], ◌∷◌, Bool, true, false, cond, Option, Some, None, option_map, refl}
use Rattle.std.specs.List.{All, find}
use Rattle.std.proofs.lemmas.List.Elements.{All-nil, All-cons}
use Rattle.serde_json.specs.Data.{Data}
use Rattle.description_places.specs.Catalogs.{catalog_of}
use Rattle.description_places.specs.Distinct.{breaks_distinct}
use Rattle.description_places.specs.References.{breaks_references}
use Rattle.description_shapes.specs.Rules.{visits_of, breaks_shape, breaks_names}
use Rattle.description_places.specs.Rules.{least_of, refusal, refusal_of_names}
use Rattle.description_shapes.specs.Visits.{Visit, first_broken}

some_none : {X : Type 0} {x : X} → ◌≡◌ {A = Option X} (Some x) None → ⊥
some_none e = cc

-- a rule that comes before is unbroken, and so are the later ones
here_unbroken : (rule : ℕ) (place : Option (List ℕ)) (later : Option (ℕ × List ℕ)) → least_of rule place later ≡ None → place ≡ None
here_unbroken rule None later h = refl
here_unbroken rule (Some p) later h = absurd (some_none h)

later_unbroken : (rule : ℕ) (place : Option (List ℕ)) (later : Option (ℕ × List ℕ)) → least_of rule place later ≡ None → later ≡ None
later_unbroken rule None later h = h
later_unbroken rule (Some p) later h = absurd (some_none h)

none_of_map : {X Y : Type 0} (f : X → Y) (o : Option X) → option_map f o ≡ None → o ≡ None
none_of_map f None h = refl
none_of_map f (Some x) h = absurd (some_none h)

-- where none is found, each fails the test
found_here : {X : Type 0} (b : Bool) (x : X) (rest : Option X) → cond b (Some x) rest ≡ None → b ≡ false
found_here true x rest h = absurd (some_none h)
found_here false x rest h = refl

found_later : {X : Type 0} (b : Bool) (x : X) (rest : Option X) → cond b (Some x) rest ≡ None → rest ≡ None
found_later true x rest h = absurd (some_none h)
found_later false x rest h = h

none_found : {X : Type 0} (test : X → Bool) (xs : List X) → find test xs ≡ None → All (λ x. test x ≡ false) xs
none_found test [] h = All-nil (λ x. test x ≡ false)
none_found test (x ∷ xs) h = All-cons (λ x. test x ≡ false) x xs (found_here (test x) x (find test xs) h) (none_found test xs (found_later (test x) x (find test xs) h))

none_broken : (breaks : Visit → Bool) (vs : List Visit) → first_broken breaks vs ≡ None → All (λ v. breaks v ≡ false) vs
none_broken breaks vs h = none_found breaks vs (none_of_map (λ v. v.place) (find breaks vs) h)

pub shapes : (d : Data) → refusal d ≡ None → All (λ v. breaks_shape v ≡ false) (visits_of d)
shapes d h = none_broken breaks_shape (visits_of d) (here_unbroken 2 _ _ h)

pub names : (d : Data) → refusal d ≡ None → All (λ v. breaks_names v ≡ false) (visits_of d)
names d h = none_broken breaks_names (visits_of d) (here_unbroken 3 _ _ (later_unbroken 2 _ _ h))

names_unbroken : (d : Data) → refusal d ≡ None → refusal_of_names d ≡ None
names_unbroken d h = later_unbroken 3 _ _ (later_unbroken 2 _ _ h)

pub references : (d : Data) → refusal d ≡ None → All (λ v. breaks_references (catalog_of d) v ≡ false) (visits_of d)
references d h = none_broken (breaks_references (catalog_of d)) (visits_of d) (here_unbroken 5 _ _ (later_unbroken 4 _ _ (names_unbroken d h)))

pub distinct : (d : Data) → refusal d ≡ None → All (λ v. breaks_distinct (catalog_of d) v ≡ false) (visits_of d)
distinct d h = none_broken (breaks_distinct (catalog_of d)) (visits_of d) (here_unbroken 4 _ _ (names_unbroken d h))
