-- A return event of a point without a server is never due: no start names such a point, so no activation serves it.
use Rattle.std.proofs.Common.{◌≡◌, ℕ, Bool, true, false, ◌||◌, not, refl, [], ◌∷◌, None, is_some}
use Rattle.bus_semantics.specs.Common.{and_parts, and_right, list_all, Plan, kind_of, server_of, History, Noted, Past, noted, returns_to, is_start_by_return_of, follows_last, is_due}
use Rattle.bus_semantics.specs.Common.{IsLegal, is_proper}
use Rattle.bus_laws.specs.Common.{Returns, Actor}
use Rattle.bus_semantics.specs.declared.entries.Deed.TheVariants as deed
use Rattle.bus_laws.proofs.Local.{proper_legal}
use Rattle.bus_laws.proofs.LocalCalls.{nobody_returns}

module _ (p : Plan) (q : ℕ) (unjoined : server_of p q ≡ None) where
  nothing_follows : (starts : Noted → Bool) (l : Past) → list_all (is_proper p) l ≡ true → follows_last starts (returns_to q) l ≡ false
  nothing_follows starts [] fine = refl
  nothing_follows starts (n ∷ l) fine = let parts = and_parts (is_proper p n) (list_all (is_proper p) l) fine in
      and_right (not (starts n)) (returns_to q n l || follows_last starts (returns_to q) l)
      (λ i. is_some (nobody_returns p q unjoined n.entry.actor n.entry.deed l parts.1 i) || nothing_follows starts l parts.1 i)

pub never_due : (p : Plan) (h : History) (a : Actor) (event point : ℕ) → IsLegal p h → kind_of p event ≡ Returns point → server_of p point ≡ None → is_due p a event (noted h) ≡ false
never_due p h a event q legal kind unjoined = rw kind (nothing_follows p q unjoined (is_start_by_return_of p q) (noted h) (proper_legal p h legal))
