-- Equal gates are the same, and what is kept of them.
use Rattle.std.proofs.Common.{◌≡◌, true, ℕ, refl, sym, List, [], Bool, false, cond, ap, Option, Some, None, inl, subst, ◌∙◌}
use Rattle.std.specs.HashMap.{HashMap, Updates, UpdatesBy, get}
use Rattle.description_types.specs.declared.description.Description.{Description}
use Rattle.description_types.specs.declared.interface.InterfaceKind.{InterfaceKind}
use Rattle.description_types.specs.declared.interface.InterfaceKind.TheVariants.{SenderReceiver, ClientServer, ModeSwitch}
use Rattle.end_search.specs.declared.gates.Gate.{Gate}
use Rattle.end_search.specs.declared.sides.Side.{Side}
use Rattle.description_types.specs.Items.{element_names, operation_names, interface_at, ItemsJoin}
use Rattle.end_search.specs.Near.{same_gate}
use Rattle.end_search.proofs.SameGates.{gate_is}
use Rattle.end_search.specs.Sides.{IsSide}
use Rattle.description_types.specs.Members.{Among}
use Rattle.end_search.specs.Sharing.{interface_keys, SharesKey}
use Rattle.composition_tables.proofs.Members.{get_some, map_in}

-- sides are taken and kept
module _ {S : Type 0} (d : Description) (old new : HashMap Gate Side S) (gate : Gate) (sides : (g : Gate) (s : Side) → get same_gate old g ≡ Some s → IsSide d g s) where
  pub sides_less : UpdatesBy same_gate (same_gate gate) old new None → (g : Gate) (s : Side) → get same_gate new g ≡ Some s → IsSide d g s
  sides_less taken g s is = by (same_gate gate g) refl
    where
      by : (b : Bool) → same_gate gate g ≡ b → IsSide d g s
      by true h = let never : None ≡ Some s = sym (taken.0 g ∙ ap (λ b. cond b None (get same_gate old g)) h) ∙ is in cc
      by false h = sides g s (sym (taken.0 g ∙ ap (λ b. cond b None (get same_gate old g)) h) ∙ is)

  pub sides_more : (side : Side) → Updates same_gate old new gate (Some side) → IsSide d gate side → (g : Gate) (s : Side) → get same_gate new g ≡ Some s → IsSide d g s
  sides_more side put here g s is = by (same_gate gate g) refl
    where
      by : (b : Bool) → same_gate gate g ≡ b → IsSide d g s
      by true h =
          let now : Some s ≡ Some side = sym is ∙ put.0 g ∙ ap (λ b. cond b (Some side) (get same_gate old g)) h in
          let same : side ≡ s = cc in
          subst (λ k. IsSide d k s) (gate_is gate g h) (subst (λ t. IsSide d gate t) same here)
      by false h = sides g s (sym (put.0 g ∙ ap (λ b. cond b (Some side) (get same_gate old g)) h) ∙ is)

shares : (x y : Option InterfaceKind) (i j : ℕ) → ItemsJoin x y i j → (key : ℕ × List ℕ) × Among key (interface_keys x) × Among key (interface_keys y)
shares (Some (SenderReceiver xs)) (Some (SenderReceiver ys)) i j h =
    ((0, h.0), map_in (λ (name : List ℕ). (0, name)) h.0 (element_names xs) (get_some (element_names xs) i h.0 h.1), map_in (λ (name : List ℕ). (0, name)) h.0 (element_names ys) (get_some (element_names ys) j h.0 h.2))
shares (Some (ClientServer xs)) (Some (ClientServer ys)) i j h =
    ((1, h.0), map_in (λ (name : List ℕ). (1, name)) h.0 (operation_names xs) (get_some (operation_names xs) i h.0 h.1), map_in (λ (name : List ℕ). (1, name)) h.0 (operation_names ys) (get_some (operation_names ys) j h.0 h.2))
shares (Some (ModeSwitch a)) (Some (ModeSwitch b)) i j h = ((2, []), inl refl, inl refl)
shares None y i j h = absurd h
shares (Some (SenderReceiver xs)) None i j h = absurd h
shares (Some (SenderReceiver xs)) (Some (ClientServer ys)) i j h = absurd h
shares (Some (SenderReceiver xs)) (Some (ModeSwitch b)) i j h = absurd h
shares (Some (ClientServer xs)) None i j h = absurd h
shares (Some (ClientServer xs)) (Some (SenderReceiver ys)) i j h = absurd h
shares (Some (ClientServer xs)) (Some (ModeSwitch b)) i j h = absurd h
shares (Some (ModeSwitch a)) None i j h = absurd h
shares (Some (ModeSwitch a)) (Some (SenderReceiver ys)) i j h = absurd h
shares (Some (ModeSwitch a)) (Some (ClientServer ys)) i j h = absurd h

pub shares_key : (d : Description) (a b i j : ℕ) → ItemsJoin (interface_at d a) (interface_at d b) i j → SharesKey d a b
shares_key d a b i j h = shares (interface_at d a) (interface_at d b) i j h
