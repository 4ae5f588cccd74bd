-- One fetch more, and one publication more.
use Rattle.std.proofs.Common.{◌≡◌, ℕ, ◌+◌, ◌<◌, List, [], ◌∷◌, ◌++◌, map, drop, length, get_or, refl, sym, ap, ◌∙◌, append_assoc}
use Rattle.bus_semantics.specs.Common.{drop_more, map-append, Plan, elems_of, Implicit, one, all_of}
use Rattle.implicit_buffers.specs.declared.fetchings.Fetching.{Fetching}
use Rattle.implicit_buffers.specs.Fetchings.{implicit_of, implicits_of}
use Rattle.task_machine.specs.declared.instr.Request.TheVariants as request
use Rattle.task_machine.specs.declared.instr.Taken.TheVariants as taken
use Rattle.task_machine.specs.Instructions.{Instruction, Shared, none_written}
use Rattle.task_generator.specs.Code.{slots_among, fetching_code, publishing_code}
use Rattle.task_generator.specs.Shared.{fixed, called}

module _ (f : List Implicit → List Instruction) (cut : (it : Implicit) (its : List Implicit) → f (it ∷ its) ≡ f (it ∷ []) ++ f its) where
  more : (all : List Fetching) (i : ℕ) (d : Fetching) (old new base : List Shared) → i < length all → new ≡ old ++ map fixed (f (implicit_of (get_or all i d) ∷ []))
      → old ++ map fixed (f (implicits_of (drop i all))) ≡ base → new ++ map fixed (f (implicits_of (drop (i + 1) all))) ≡ base
  more all i d old new base below put so_far =
      let x = implicit_of (get_or all i d) in
      let rest = implicits_of (drop (i + 1) all) in
      ap (λ is. is ++ map fixed (f rest)) put
      ∙ append_assoc old (map fixed (f (x ∷ []))) (map fixed (f rest))
      ∙ ap (λ is. old ++ is) (sym (map-append fixed (f (x ∷ [])) (f rest)))
      ∙ ap (λ is. old ++ map fixed is) (sym (cut x rest))
      ∙ ap (λ (xs : List Fetching). old ++ map fixed (f (implicits_of xs))) (sym (drop_more all i d below))
      ∙ so_far

fetching_cut : (p : Plan) (all : List ℕ) (it : Implicit) (its : List Implicit) → fetching_code p all (it ∷ its) ≡ fetching_code p all (it ∷ []) ++ fetching_code p all its
fetching_cut p all (one x) its = refl
fetching_cut p all (all_of l) its = refl

publishing_cut : (p : Plan) (all : List ℕ) (it : Implicit) (its : List Implicit) → publishing_code p all (it ∷ its) ≡ publishing_code p all (it ∷ []) ++ publishing_code p all its
publishing_cut p all (one x) its = refl
publishing_cut p all (all_of l) its = refl

pub fetches_more : (p : Plan) (elements : List ℕ) (all : List Fetching) (i : ℕ) (d : Fetching) (old new base : List Shared) → i < length all
    → new ≡ old ++ map fixed (fetching_code p elements (implicit_of (get_or all i d) ∷ []))
    → old ++ map fixed (fetching_code p elements (implicits_of (drop i all))) ≡ base → new ++ map fixed (fetching_code p elements (implicits_of (drop (i + 1) all))) ≡ base
fetches_more p elements = more (fetching_code p elements) (fetching_cut p elements)

pub publications_more : (p : Plan) (elements : List ℕ) (all : List Fetching) (i : ℕ) (d : Fetching) (old new base : List Shared) → i < length all
    → new ≡ old ++ map fixed (publishing_code p elements (implicit_of (get_or all i d) ∷ []))
    → old ++ map fixed (publishing_code p elements (implicits_of (drop i all))) ≡ base → new ++ map fixed (publishing_code p elements (implicits_of (drop (i + 1) all))) ≡ base
publications_more p elements = more (publishing_code p elements) (publishing_cut p elements)

-- the two instructions of a list's publication
pub list_put : (p : Plan) (all : List ℕ) (l : ℕ) (passed slots : List ℕ) (old first second : List Shared) → passed ≡ slots_among all (elems_of p l) → slots ≡ slots_among all (elems_of p l)
    → first ≡ old ++ fixed (none_written passed 1) ∷ [] → second ≡ first ++ called (request.PublishAll l slots) 0 taken.Nothing ∷ []
    → second ≡ old ++ map fixed (publishing_code p all (all_of l ∷ []))
list_put p all l passed slots old first second is same put call_put =
    let ask : Shared = called (request.PublishAll l slots) 0 taken.Nothing in
    call_put
    ∙ ap (λ is. is ++ ask ∷ []) put
    ∙ append_assoc old (fixed (none_written passed 1) ∷ []) (ask ∷ [])
    ∙ (λ i. old ++ fixed (none_written (is i) 1) ∷ called (request.PublishAll l (same i)) 0 taken.Nothing ∷ [])

-- the instructions around a program, put one part after the other
pub around_put : (a b c d e : List Shared) (x y z u v : List Instruction) → a ≡ [] → b ≡ a ++ map fixed x → c ≡ b ++ map fixed y → d ≡ c ++ map fixed z → e ≡ (d ++ map fixed u) ++ map fixed v
    → e ≡ map fixed (x ++ y) ++ map fixed (z ++ (u ++ v))
around_put a b c d e x y z u v none first second third rest =
    let all : e ≡ ((((([] ++ map fixed x) ++ map fixed y) ++ map fixed z) ++ map fixed u) ++ map fixed v) = rest ∙ (λ i. ((third ∙ (λ j. (second ∙ (λ k. (first ∙ ap (λ l. l ++ map fixed x) none) k ++ map fixed y)) j ++ map fixed z)) i ++ map fixed u) ++ map fixed v) in
    let flat : ((((([] ++ map fixed x) ++ map fixed y) ++ map fixed z) ++ map fixed u) ++ map fixed v) ≡ map fixed (x ++ y) ++ map fixed (z ++ (u ++ v)) = simp (map-append, append_assoc) in
    all ∙ flat
