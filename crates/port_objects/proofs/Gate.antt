-- The gate of the lead: what leads on touches the object and is proper.
use Rattle.std.proofs.Common.{◌≡◌, ℕ, Bool, true, false, ◌&&◌, if◌then◌else◌, refl, Some, None}
use Rattle.bus_semantics.specs.Common.{and_parts, Plan, Noted, touches, is_proper}
use Rattle.port_objects.specs.Common.{Kept, lead_by_kind, lead}

pub record Passed (p : Plan) (object : ℕ) (before after : Kept) (n : Noted) : Type 0 where
  pub touching : touches p object n ≡ true
  pub proper : is_proper p n ≡ true
  pub leads : lead_by_kind p object before n ≡ Some after

pub passed : (p : Plan) (object : ℕ) (before after : Kept) (n : Noted) → lead p object before n ≡ Some after → Passed p object before after n
unfolding lead
passed p object before after n leads = by_test (touches p object n && is_proper p n) refl leads
  where
    by_test : (b : Bool) → (touches p object n && is_proper p n) ≡ b → (if b then lead_by_kind p object before n else None) ≡ Some after → Passed p object before after n
    by_test true is leads = let parts = and_parts (touches p object n) (is_proper p n) is in record { touching = parts.0; proper = parts.1; leads = leads }
    by_test false is leads = absurd (cc leads)

-- the lead goes by kind for an entry that touches the object and is proper
pub opens : (p : Plan) (object : ℕ) (k : Kept) (n : Noted) → touches p object n ≡ true → is_proper p n ≡ true → lead p object k n ≡ lead_by_kind p object k n
unfolding lead
opens p object k n touching proper = rw (touching, proper) refl

-- what leads nowhere by kind leads nowhere
pub stays_shut : (p : Plan) (object : ℕ) (k : Kept) (n : Noted) → lead_by_kind p object k n ≡ None → lead p object k n ≡ None
unfolding lead
stays_shut p object k n none = by_test (touches p object n && is_proper p n)
  where
    by_test : (b : Bool) → (if b then lead_by_kind p object k n else None) ≡ None
    by_test true = none
    by_test false = refl
