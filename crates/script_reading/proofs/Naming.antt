-- What a name finds: the first thing that goes by it.
use Rattle.std.proofs.Common.{◌≡◌, ℕ, zero, suc, ◌+◌, ◌<◌, ◌≤◌, Bool, true, false, cond, List, length, Option, Some, None, inl, inr, refl, ap, ◌∙◌, subst, arith}
use Rattle.bus_semantics.specs.Common.{slice_get, option_map_or, cases_lt, slice_get_within, bytes_eq-Decides, Plan, look, Letters}
use Rattle.script_reading.specs.Common.{Form, Write, Send, Read, Receive, Ask, TakeResult, Switch, SeeMode, elem_offered, first_from, goes_by, how_many, machine_offered, mode_in}
use Rattle.script_reading.specs.Common.{mode_port_offered, number_of, offered, point_offered, IsNamed}

-- ---- the first number of which something holds

pub record IsFirstFrom (test : ℕ → Bool) (left low x : ℕ) : Type 0 where
  pub holds : test x ≡ true
  pub above : low ≤ x
  pub below : x < low + left
  pub first : (y : ℕ) → low ≤ y → y < x → test y ≡ false

-- it holds of none of them but maybe the least
pub but_least : (test : ℕ → Bool) (low top : ℕ) → test low ≡ false → ((y : ℕ) → suc low ≤ y → y < top → test y ≡ false) → (y : ℕ) → low ≤ y → y < top → test y ≡ false
but_least test low top is others y above below =
    elim (cases_lt low y) [ inl more ↦ others y (omega arith) below | inr less ↦ let same : y ≡ low = omega arith in ap test same ∙ is ]

pub first_found : (test : ℕ → Bool) (left low x : ℕ) → first_from test left low ≡ Some x → IsFirstFrom test left low x
first_found test zero low x h = absurd (cc)
first_found test (suc left) low x h = step (test low) refl h (first_found test left (suc low) x)
  where
    step : (b : Bool) → test low ≡ b → cond b (Some low) (first_from test left (suc low)) ≡ Some x → (first_from test left (suc low) ≡ Some x → IsFirstFrom test left (suc low) x) → IsFirstFrom test (suc left) low x
    step true is h ih = let same : low ≡ x = cc in record { holds = subst (λ y. test y ≡ true) same is; above = omega arith; below = omega arith; first = λ y l g. absurd (omega arith) }
    step false is h ih = let f = ih h in let above : suc low ≤ x = f.above in let below : x < suc low + left = f.below in
        record { holds = f.holds; above = omega arith; below = omega arith; first = but_least test low x is f.first }

pub none_found : (test : ℕ → Bool) (left low : ℕ) → first_from test left low ≡ None → (y : ℕ) → low ≤ y → y < low + left → test y ≡ false
none_found test zero low h y above below = absurd (omega arith)
none_found test (suc left) low h y above below = step (test low) refl h (none_found test left (suc low))
  where
    step : (b : Bool) → test low ≡ b → cond b (Some low) (first_from test left (suc low)) ≡ None → (first_from test left (suc low) ≡ None → (y : ℕ) → suc low ≤ y → y < suc low + left → test y ≡ false) → test y ≡ false
    step true is h ih = absurd (cc)
    step false is h ih = but_least test low (low + suc left) is (λ y a b. ih h y a (omega arith)) y above below

pub first_is : (test : ℕ → Bool) (left low x : ℕ) → IsFirstFrom test left low x → first_from test left low ≡ Some x
first_is test zero low x f = let above : low ≤ x = f.above in let below : x < low + 0 = f.below in absurd (omega arith)
first_is test (suc left) low x f = step (test low) refl (first_is test left (suc low) x)
  where
    step : (b : Bool) → test low ≡ b → (IsFirstFrom test left (suc low) x → first_from test left (suc low) ≡ Some x) → cond b (Some low) (first_from test left (suc low)) ≡ Some x
    step true is ih = elim (cases_lt low x) [ inl less ↦ (let no : test low ≡ false = f.first low (omega arith) less in absurd (cc)) | inr same ↦ ap (λ n. Some n) (let above : low ≤ x = f.above in omega arith) ]
    step false is ih = elim (cases_lt low x) [
      | inl less ↦ ih (record { holds = f.holds; above = omega arith; below = (let below : x < low + suc left = f.below in omega arith); first = λ y a b. f.first y (omega arith) b })
      | inr same ↦ (let here : low ≡ x = (let above : low ≤ x = f.above in omega arith) in let yes : test low ≡ true = ap test here ∙ f.holds in absurd (cc))
    ]

-- ---- names

pub goes : (name : Letters) (o : Option Letters) → goes_by name o ≡ true → o ≡ Some name
goes name None h = absurd (cc)
goes name (Some t) h = ap (λ u. Some u) ((bytes_eq-Decides t name).0 h)

pub goes_back : (name : Letters) (o : Option Letters) → o ≡ Some name → goes_by name o ≡ true
goes_back name o e = ap (goes_by name) e ∙ (bytes_eq-Decides name name).1 refl

not_gone : (name : Letters) (o : Option Letters) → goes_by name o ≡ false → o ≡ Some name → ⊥
not_gone name o h e = let yes : goes_by name o ≡ true = goes_back name o e in cc

gone_false : (name : Letters) (o : Option Letters) → (o ≡ Some name → ⊥) → goes_by name o ≡ false
gone_false name o none = step (goes_by name o) refl
  where
    step : (b : Bool) → goes_by name o ≡ b → goes_by name o ≡ false
    step true is = absurd (none (goes name o is))
    step false is = is

-- ---- things of a plan

-- what is looked up is there
pub record IsAt {X : Type 0} (xs : List X) (x : ℕ) (f : X → Option Letters) (name : Letters) : Type 0 where
  pub item : X
  pub at_is : slice_get xs x ≡ Some item
  pub gives : f item ≡ Some name

pub looked_up : {X : Type 0} (xs : List X) (x : ℕ) (f : X → Option Letters) (name : Letters) → look xs x f None ≡ Some name → IsAt xs x f name
looked_up {X} xs x f name h = step (slice_get xs x) refl h
  where
    step : (o : Option X) → slice_get xs x ≡ o → option_map_or f o None ≡ Some name → IsAt xs x f name
    step None is h = absurd (cc)
    step (Some e) is h = record { item = e; at_is = is; gives = h }

looked_within : {X : Type 0} (xs : List X) (x : ℕ) (f : X → Option Letters) (name : Letters) → look xs x f None ≡ Some name → x < length xs
looked_within {X} xs x f name h = let l = looked_up {X = X} xs x f name h in slice_get_within xs x l.item l.at_is

offered_within : (p : Plan) (f : Form) (x : ℕ) (name : Letters) → offered f p x ≡ Some name → x < how_many f p
offered_within p Write x name h = looked_within p.elements x (elem_offered Write) name h
offered_within p Send x name h = looked_within p.elements x (elem_offered Send) name h
offered_within p Read x name h = looked_within p.elements x (elem_offered Read) name h
offered_within p Receive x name h = looked_within p.elements x (elem_offered Receive) name h
offered_within p Ask x name h = looked_within p.points x point_offered name h
offered_within p TakeResult x name h = looked_within p.points x point_offered name h
offered_within p Switch x name h = looked_within p.machines x machine_offered name h
offered_within p SeeMode x name h = looked_within p.mode_ports x mode_port_offered name h

pub is_named : (p : Plan) (f : Form) (name : Letters) (x : ℕ) → number_of f p name ≡ Some x → IsNamed p f name x
is_named p f name x h = let r = first_found (λ y. goes_by name (offered f p y)) (how_many f p) 0 x h in
    record { named = goes name (offered f p x) r.holds; first = λ y less e. not_gone name (offered f p y) (r.first y (omega arith) less) e }

pub named_is : (p : Plan) (f : Form) (name : Letters) (x : ℕ) → IsNamed p f name x → number_of f p name ≡ Some x
named_is p f name x h = first_is (λ y. goes_by name (offered f p y)) (how_many f p) 0 x (record {
  holds = goes_back name (offered f p x) h.named;
  above = omega arith;
  below = let within : x < how_many f p = offered_within p f x name h.named in omega arith;
  first = λ y a less. gone_false name (offered f p y) (h.first y less);
})

pub nothing_named : (p : Plan) (f : Form) (name : Letters) → number_of f p name ≡ None → (x : ℕ) → offered f p x ≡ Some name → ⊥
nothing_named p f name h x e = let within : x < how_many f p = offered_within p f x name e in
    not_gone name (offered f p x) (none_found (λ y. goes_by name (offered f p y)) (how_many f p) 0 h x (omega arith) (omega arith)) e

pub named_nothing : (p : Plan) (f : Form) (name : Letters) → ((x : ℕ) → offered f p x ≡ Some name → ⊥) → number_of f p name ≡ None
named_nothing p f name none = step (number_of f p name) refl
  where
    step : (o : Option ℕ) → number_of f p name ≡ o → number_of f p name ≡ None
    step None is = is
    step (Some x) is = absurd (none x (is_named p f name x is).named)

-- ---- modes

pub mode_found : (modes : List Letters) (name : Letters) (k : ℕ) → mode_in modes name ≡ Some k → slice_get modes k ≡ Some name
mode_found modes name k h = goes name (slice_get modes k) (first_found (λ y. goes_by name (slice_get modes y)) (length modes) 0 k h).holds

pub no_mode_found : (modes : List Letters) (name : Letters) → mode_in modes name ≡ None → (k : ℕ) → slice_get modes k ≡ Some name → ⊥
no_mode_found modes name h k e = let within : k < length modes = slice_get_within modes k name e in
    not_gone name (slice_get modes k) (none_found (λ y. goes_by name (slice_get modes y)) (length modes) 0 h k (omega arith) (omega arith)) e

pub none_before : (modes : List Letters) (name : Letters) (k : ℕ) → mode_in modes name ≡ Some k → (y : ℕ) → y < k → slice_get modes y ≡ Some name → ⊥
none_before modes name k h y less e = not_gone name (slice_get modes y) ((first_found (λ x. goes_by name (slice_get modes x)) (length modes) 0 k h).first y (omega arith) less) e

pub mode_is : (modes : List Letters) (name : Letters) (k : ℕ) → slice_get modes k ≡ Some name → ((y : ℕ) → y < k → slice_get modes y ≡ Some name → ⊥) → mode_in modes name ≡ Some k
mode_is modes name k e none = first_is (λ x. goes_by name (slice_get modes x)) (length modes) 0 k (record {
  holds = goes_back name (slice_get modes k) e;
  above = omega arith;
  below = let within : k < length modes = slice_get_within modes k name e in omega arith;
  first = λ y a less. gone_false name (slice_get modes y) (none y less);
})
