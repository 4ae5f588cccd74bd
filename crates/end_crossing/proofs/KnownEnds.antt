-- A group of a side is completed.
use Rattle.std.proofs.Common.{◌≡◌, ℕ, List, Bool, true, false, cond, nat_eq, Some, Vec, ◌⊎◌, ⊎_elim, ◌↔◌, refl, sym, ap, subst, ◌∙◌, true≢false}
use Rattle.std.proofs.lemmas.Bool.{eq-eqb}
use Rattle.std.specs.Global.{Global}
use Rattle.std.specs.HashMap.{HashMap, Updates, get}
use Rattle.description_types.specs.declared.description.Description.{Description}
use Rattle.end_search.specs.declared.gates.Gate.{Gate}
use Rattle.composition_tables.specs.declared.tree.PortEnd.{PortEnd}
use Rattle.end_search.specs.Gates.{gate_ends}
use Rattle.end_search.specs.Sides.{AreOf}
use Rattle.description_types.specs.Members.{Among}
use Rattle.composition_tables.specs.Multi.{under}
use Rattle.composition_tables.proofs.Members.{same_number}

module _ {S : Type 0} (d : Description) (gate : Gate) (interface : ℕ) (ends : Vec PortEnd Global) (old new : HashMap ℕ (Vec PortEnd Global) S) (put : Updates nat_eq old new interface (Some ends)) (are : AreOf d gate interface ends.items) where
  here : (q : ℕ) → nat_eq interface q ≡ true → AreOf d gate q (under (get nat_eq new q))
  here q h = subst (AreOf d gate q) (sym (ap under (put.0 q ∙ ap (λ b. cond b (Some ends) (get nat_eq old q)) h))) (subst (λ i. AreOf d gate i ends.items) (same_number interface q h) are)

  elsewhere : (q : ℕ) → nat_eq interface q ≡ false → under (get nat_eq new q) ≡ under (get nat_eq old q)
  elsewhere q h = ap under (put.0 q ∙ ap (λ b. cond b (Some ends) (get nat_eq old q)) h)

  pub sound_now : ((q : ℕ) (x : PortEnd) → Among x (under (get nat_eq old q)) → Among x (gate_ends d gate) × (x.interface ≡ q)) → (q : ℕ) (x : PortEnd) → Among x (under (get nat_eq new q)) → Among x (gate_ends d gate) × (x.interface ≡ q)
  sound_now sound q x a = by (nat_eq interface q) refl
    where
      by : (b : Bool) → nat_eq interface q ≡ b → Among x (gate_ends d gate) × (x.interface ≡ q)
      by true h = (here q h x).0 a
      by false h = sound q x (subst (Among x) (elsewhere q h) a)

  pub whole_now : ((x : PortEnd) → Among x (gate_ends d gate) → Among x (under (get nat_eq old x.interface))) → (x : PortEnd) → Among x (gate_ends d gate) → Among x (under (get nat_eq new x.interface))
  whole_now whole x a = by (nat_eq interface x.interface) refl
    where
      by : (b : Bool) → nat_eq interface x.interface ≡ b → Among x (under (get nat_eq new x.interface))
      by true h = (here x.interface h x).1 (a, refl)
      by false h = subst (Among x) (sym (elsewhere x.interface h)) (whole x a)

  pub known_now : (keys more : List ℕ) → ((q : ℕ) → Among q keys → AreOf d gate q (under (get nat_eq old q))) → ((q : ℕ) → Among q more ↔ (Among q keys ⊎ (q ≡ interface))) → (q : ℕ) → Among q more → AreOf d gate q (under (get nat_eq new q))
  known_now keys more known noted q a = by (nat_eq interface q) refl
    where
      by : (b : Bool) → nat_eq interface q ≡ b → AreOf d gate q (under (get nat_eq new q))
      by true h = here q h
      by false h = subst (AreOf d gate q) (sym (elsewhere q h)) (⊎_elim (λ k. known q k) (λ e. absurd (true≢false (sym (eq-eqb interface q (sym e)) ∙ h))) ((noted q).0 a))
