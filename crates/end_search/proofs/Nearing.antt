-- What is kept of the ends below ports.
use Rattle.std.proofs.Common.{◌≡◌, ℕ, ◌^◌, ◌<◌, List, [], Result, Ok, Err, OnOk, Bool, true, false, cond, Some, Vec, inl, inr, ⊎_elim, true≢false, refl, sym, ap, subst, ◌∙◌}
use Rattle.std.specs.Global.{Global}
use Rattle.std.specs.HashMap.{HashMap, Updates, get}
use Rattle.description_types.specs.declared.description.Description.{Description}
use Rattle.description_types.specs.declared.description.PrototypeType.TheVariants as type
use Rattle.composition_tables.specs.declared.tree.PortEnd.{PortEnd}
use Rattle.description_types.specs.Growing.{AnyOf}
use Rattle.description_types.specs.Members.{Among}
use Rattle.composition_tables.specs.Multi.{under}
use Rattle.end_search.specs.declared.gates.Gate.{Gate}
use Rattle.end_search.specs.declared.gates.Gate.TheVariants.{Composition}
use Rattle.end_search.specs.declared.seek.Wanted.{Wanted}
use Rattle.end_search.specs.Near.{same_gate, AreKept}
use Rattle.end_search.specs.Wishes.{end_from, IsEnd, Sought}
use Rattle.end_search.proofs.SameGates.{gate_is}
use Rattle.end_search.proofs.Wishing.{moved_there, moved_back}

-- what holds whatever the answer is
pub on_ok : {T E : Type 0} (P : Type 0) (result : Result T E) → P → OnOk result P
on_ok P (Ok x) p = p
on_ok P (Err e) p = tt

pub sought_part : (P : PortEnd → Type 0) (list : List PortEnd) → Sought P list list true
sought_part P list = record { sound = λ x h. inl h; stays = λ x h. h; has = λ none. absurd (true≢false none) }

module _ (d : Description) (w : Wanted) where
  -- one more port is kept
  pub near_more : {S : Type 0} (old new : HashMap Gate (Vec PortEnd Global) S) (gate : Gate) (ends : Vec PortEnd Global)
      → ((g : Gate) (list : Vec PortEnd Global) → get same_gate old g ≡ Some list → AreKept d w g list.items) → Updates same_gate old new gate (Some ends) → AreKept d w gate ends.items
      → (g : Gate) (list : Vec PortEnd Global) → get same_gate new g ≡ Some list → AreKept d w g list.items
  near_more old new gate ends kept put found g list is = by (same_gate gate g) refl
    where
      by : (b : Bool) → same_gate gate g ≡ b → AreKept d w g list.items
      by true h =
          let now : Some list ≡ Some ends = sym is ∙ put.0 g ∙ ap (λ b. cond b (Some ends) (get same_gate old g)) h in
          subst (λ k. AreKept d w k list.items) (gate_is gate g h) (subst (AreKept d w gate) (ap under (sym now)) found)
      by false h = kept g list (sym (put.0 g ∙ ap (λ b. cond b (Some ends) (get same_gate old g)) h) ∙ is)

  -- all that was gathered below a port
  pub gathered : (n depth c port : ℕ) (before after slice : List PortEnd) (is_cut : Bool) → n ≡ depth → before ≡ [] → is_cut ≡ false → slice ≡ after
      → Sought (IsEnd d w n (type.Composition c) 0 port) before after is_cut → AreKept d w (Composition depth c 0 port) slice
  gathered n depth c port before after slice is_cut deep none whole same s x = (
    (λ a. subst (λ m. IsEnd d w m (type.Composition c) 0 port x) deep (⊎_elim (λ o. absurd (subst (Among x) none o)) (λ p. p) (s.sound x (subst (Among x) same a)))),
    (λ e. subst (Among x) (sym same) (s.has whole x (subst (λ m. IsEnd d w m (type.Composition c) 0 port x) (sym deep) e))),
  )

  -- what is kept, with instances numbered from another first one on
  pub kept_moved : (n c first port : ℕ) (near slice before after : List PortEnd) (is_cut : Bool) → first < 2 ^ 32 → slice ≡ near → AreKept d w (Composition n c 0 port) near
      → Sought (AnyOf (λ (y : PortEnd) x. x ≡ end_from first y) slice) before after is_cut → Sought (IsEnd d w n (type.Composition c) first port) before after is_cut
  kept_moved n c first port near slice before after is_cut short same kept m = record {
    sound = λ x h. ⊎_elim (λ o. inl o) (λ a. inr (moved_there d w n (type.Composition c) first port short x a.0 ((kept a.0).0 (subst (Among a.0) same a.1)) a.2)) (m.sound x h);
    stays = m.stays;
    has = λ none x e.
        let r = moved_back d w n (type.Composition c) first port short x e in
        m.has none x (r.0, subst (Among r.0) (sym same) ((kept r.0).1 r.1), r.2);
  }
