-- The areas that a key has open, one entry further.
use Rattle.std.proofs.Common.{◌≡◌, ℕ, Bool, true, false, not, if◌then◌else◌, refl, sym, ◌∙◌, ap, List, [], ◌∷◌, ◌++◌, Option, Some}
use Rattle.bus_semantics.specs.Common.{false≢true, option_map_or, ActKey, Plan, wanted_by, History, is_of, is_over, runs, next_of_activity, Activation, activation_of, with_deed, MayFollow}
use Rattle.bus_semantics.specs.Common.{IsLegal, IsSound}
use Rattle.bus_laws.specs.Common.{Mapping, Deed, Entry}
use Rattle.bus_semantics.specs.declared.entries.Deed.TheVariants as deed
use Rattle.history_laws.specs.OpenAreas.{open_after, open_areas, are_nested, innermost}
use Rattle.history_laws.specs.Following.{open_areas_more}
use Rattle.history_laws.proofs.Asking.{outside, admission_once, nested, leaves_innermost}
use Rattle.history_laws.specs.Running.{areas_of}
use Rattle.history_laws.proofs.Keys.{mine, itself, Alive, alive, IsTo, others, starts, goes_on, is_to, grown, runs_mine, activation_mine}
use Rattle.history_laws.proofs.GoingOn.{acting}

abbrev areas_in : Bool → Option Activation → List ℕ
areas_in running o = if running then option_map_or (λ (a : Activation). open_areas a.deeds) o [] else []

pub areas_alive : (p : Plan) (k : ActKey) (h : History) → runs k h ≡ true → (a : Alive p k h) → areas_of k h ≡ open_areas a.activation.deeds
areas_alive p k h running a = λ i. areas_in (running i) (a.is i)

pub areas_idle : (k : ActKey) (h : History) → runs k h ≡ false → areas_of k h ≡ []
areas_idle k h idle = λ i. areas_in (idle i) (activation_of k h)

module _ (p : Plan) (m : Mapping) (sound : IsSound p m) (k : ActKey) (h : History) where
  -- a deed that is the last one comes where no area is open
  over_none : (a : Alive p k h) (d : Deed) → is_over d ≡ true → next_of_activity p a.runnable a.activation.event a.activation.start a.activation.deeds ≡ Some (wanted_by a.activation.event d)
      → open_after d (open_areas a.activation.deeds) ≡ []
  over_none a deed.End over next = outside p m k a.runnable a.activation.event (acting p m k h sound a) a.activation.start a.activation.deeds a.followed (wanted_by a.activation.event deed.End) next refl
  over_none a (deed.Admit false) over next = ap open_areas (admission_once p m k a.runnable a.activation.event (acting p m k h sound a) a.activation.start a.activation.deeds a.followed a.activation.event next)
  over_none a (deed.Admit true) over next = absurd (false≢true over)
  over_none a d over next = absurd (false≢true over)

  pub areas_step : (e : Entry) → IsLegal p h → MayFollow p h e → areas_of k (e ∷ h) ≡ (if is_of k e then open_after e.deed (areas_of k h) else areas_of k h)
  areas_step e legal may = by_kind (is_to p k h e may (alive p k h legal))
    where
      by_kind : IsTo p k h e → areas_of k (e ∷ h) ≡ (if is_of k e then open_after e.deed (areas_of k h) else areas_of k h)
      by_kind (others other) = rw other refl
      by_kind (starts event point value is own idle runnable asked) =
          let d = deed.Start event point value in
          let after : areas_of k (e ∷ h) ≡ [] = ap (λ x. areas_of k (x ∷ h)) is ∙ (λ i. areas_in (runs_mine k d h i) (activation_mine k d h i)) in
          let before : (if is_of k e then open_after e.deed (areas_of k h) else areas_of k h) ≡ [] = (λ i. if own i then open_after (is i).deed (areas_of k h) else areas_of k h) ∙ areas_idle k h idle in
          after ∙ sym before
      by_kind (goes_on is own other running a next) =
          let ds = a.activation.deeds in
          let after : areas_of k (e ∷ h) ≡ areas_in (not (is_over e.deed)) (Some (record { event = a.activation.event; start = a.activation.start; deeds = ds ++ e.deed ∷ [] })) =
          ap (λ x. areas_of k (x ∷ h)) is ∙ (λ i. areas_in (runs_mine k e.deed h i) ((activation_mine k e.deed h ∙ ap (with_deed e.deed) a.is ∙ grown e.deed a.activation other) i)) in
          let before : (if is_of k e then open_after e.deed (areas_of k h) else areas_of k h) ≡ open_after e.deed (open_areas ds) = (λ i. if own i then open_after e.deed (areas_alive p k h running a i) else areas_of k h) in
          after ∙ by_over a next (is_over e.deed) refl ∙ sym before
        where
          by_over : (a : Alive p k h) → next_of_activity p a.runnable a.activation.event a.activation.start a.activation.deeds ≡ Some (wanted_by a.activation.event e.deed)
              → (b : Bool) → is_over e.deed ≡ b → (if not b then open_areas (a.activation.deeds ++ e.deed ∷ []) else []) ≡ open_after e.deed (open_areas a.activation.deeds)
          by_over a next true over = sym (over_none a e.deed over next)
          by_over a next false over = open_areas_more a.activation.deeds e.deed

  pub areas_nested : IsLegal p h → are_nested (areas_of k h) ≡ true
  areas_nested legal = by_running (runs k h) refl
    where
      by_running : (b : Bool) → runs k h ≡ b → are_nested (areas_of k h) ≡ true
      by_running false idle = ap are_nested (areas_idle k h idle)
      by_running true running =
          let a = alive p k h legal running in
          ap are_nested (areas_alive p k h running a) ∙ nested p m k a.runnable a.activation.event (acting p m k h sound a) a.activation.start a.activation.deeds a.followed

  -- what a key leaves is its innermost area
  pub leaves_last : (x : ℕ) → IsLegal p h → MayFollow p h (mine k (deed.Leave x)) → innermost (areas_of k h) ≡ Some x
  leaves_last x legal may = by_kind (is_to p k h (mine k (deed.Leave x)) may (alive p k h legal))
    where
      by_kind : IsTo p k h (mine k (deed.Leave x)) → innermost (areas_of k h) ≡ Some x
      by_kind (others other) = absurd (false≢true (sym other ∙ itself k))
      by_kind (starts event point value is own idle runnable asked) = absurd (cc (ap (λ (z : Entry). z.deed) is))
      by_kind (goes_on is own other running a next) =
          ap innermost (areas_alive p k h running a) ∙ leaves_innermost p m k a.runnable a.activation.event (acting p m k h sound a) a.activation.start a.activation.deeds a.followed x next
