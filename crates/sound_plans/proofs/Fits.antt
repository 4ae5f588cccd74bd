-- Accesses fit: what the port of an access has, by its kind.
use Rattle.std.proofs.Common.{◌≡◌, ℕ, true, false, cond, refl, sym, ap, ◌∙◌, List, Option, Some, None}
use Rattle.bus_semantics.specs.Common.{option_map_or, false≢true, AccessKind}
use Rattle.runnable_lang.specs.declared.program.AccessKind.TheVariants as kind
use Rattle.plan_definitions.specs.Common.{Standard, Queued, TypeTable, Access, Port, PortKind, Provided, Required, names_port, fits, access_fits, item_at}
use Rattle.plan_definitions.specs.declared.item.Item.{Item}
use Rattle.plan_definitions.specs.declared.item.Item.TheVariants.{Data, Operation, Modes}

-- what an access of a kind needs
abbrev pub Needs : AccessKind → PortKind → Item → Type 0
Needs kind.Write side item = (side ≡ Provided) × (item ≡ Data Standard)
Needs kind.Invalidate side item = (side ≡ Provided) × (item ≡ Data Standard)
Needs kind.IWrite side item = (side ≡ Provided) × (item ≡ Data Standard)
Needs kind.Read side item = (side ≡ Required) × (item ≡ Data Standard)
Needs kind.IsUpdated side item = (side ≡ Required) × (item ≡ Data Standard)
Needs kind.IRead side item = (side ≡ Required) × (item ≡ Data Standard)
Needs kind.Send side item = (side ≡ Provided) × (item ≡ Data Queued)
Needs kind.Receive side item = (side ≡ Required) × (item ≡ Data Queued)
Needs kind.Call side item = (side ≡ Required) × (item ≡ Operation)
Needs kind.ACall side item = (side ≡ Required) × (item ≡ Operation)
Needs kind.TakeResult side item = (side ≡ Required) × (item ≡ Operation)
Needs kind.Switch side item = (n : ℕ) × (side ≡ Provided) × (item ≡ Modes n)
Needs kind.Mode side item = (n : ℕ) × (side ≡ Required) × (item ≡ Modes n)
Needs k side item = Unit {0}

needs : (k : AccessKind) (side : PortKind) (item : Item) → fits k side item ≡ true → Needs k side item
needs kind.Write Provided (Data Standard) e = (refl, refl)
needs kind.Write side item e = absurd (false≢true e)
needs kind.Invalidate Provided (Data Standard) e = (refl, refl)
needs kind.Invalidate side item e = absurd (false≢true e)
needs kind.IWrite Provided (Data Standard) e = (refl, refl)
needs kind.IWrite side item e = absurd (false≢true e)
needs kind.Read Required (Data Standard) e = (refl, refl)
needs kind.Read side item e = absurd (false≢true e)
needs kind.IsUpdated Required (Data Standard) e = (refl, refl)
needs kind.IsUpdated side item e = absurd (false≢true e)
needs kind.IRead Required (Data Standard) e = (refl, refl)
needs kind.IRead side item e = absurd (false≢true e)
needs kind.Send Provided (Data Queued) e = (refl, refl)
needs kind.Send side item e = absurd (false≢true e)
needs kind.Receive Required (Data Queued) e = (refl, refl)
needs kind.Receive side item e = absurd (false≢true e)
needs kind.Call Required Operation e = (refl, refl)
needs kind.Call side item e = absurd (false≢true e)
needs kind.ACall Required Operation e = (refl, refl)
needs kind.ACall side item e = absurd (false≢true e)
needs kind.TakeResult Required Operation e = (refl, refl)
needs kind.TakeResult side item e = absurd (false≢true e)
needs kind.Switch Provided (Modes n) e = (n, refl, refl)
needs kind.Switch side item e = absurd (false≢true e)
needs kind.Mode Required (Modes n) e = (n, refl, refl)
needs kind.Mode side item e = absurd (false≢true e)
needs k side item e = tt

pub record Finds (types : TypeTable) (ports : List Port) (k : AccessKind) (port item : ℕ) : Type 0 where
  pub side : PortKind
  pub found : Item
  pub there : item_at types ports port item ≡ Some (side, found)
  pub needed : Needs k side found

-- an access that names a port finds there what it needs
pub finds : (types : TypeTable) (ports : List Port) (a : Access) → access_fits types ports a ≡ true → names_port a.kind ≡ true → Finds types ports a.kind a.port a.item
finds types ports a e named = by (item_at types ports a.port a.item) refl (ap (λ b. cond b (option_map_or (λ (x : PortKind × Item). fits a.kind x.0 x.1) (item_at types ports a.port a.item) false) true) (sym named) ∙ e)
  where
    by : (o : Option (PortKind × Item)) → item_at types ports a.port a.item ≡ o → option_map_or (λ (x : PortKind × Item). fits a.kind x.0 x.1) o false ≡ true → Finds types ports a.kind a.port a.item
    by None there e = absurd (false≢true e)
    by (Some x) there e = record { side = x.0; found = x.1; there = there; needed = needs a.kind x.0 x.1 e }
