-- Calls, each kept under its name, and one more call beside them.
use Rattle.std.specs.Prelude.{◌≡◌, ℕ, Bool, true, false, List, [], ◌∷◌, ◌++◌, map, Vec}
use Rattle.std.specs.Global.{Global}
use Rattle.std.specs.List.{list_any}
use Rattle.indexmap.specs.IndexMap.{IndexMap, values}
use Rattle.plan_text.specs.declared.calls.Call.{Call}
use Rattle.plan_text.specs.declared.header_listing.Noted.{Noted}
use Rattle.plan_text.specs.declared.header_listing.Noted.TheVariants.{Known, New, Clashing}
use Rattle.plan_text.specs.Calls.{all_seen}
use Rattle.plan_text.specs.Clashes.{HaveNamesOfTheirOwn}
use Rattle.plan_text.specs.Listing.{has_name}
use Rattle.plan_text.specs.Targets.{Target, name_of, same_target}

abbrev pub is_among : List Target → Target → Bool
is_among ts t = list_any (same_target t) ts

abbrev pub kept : {S : Type 0} → IndexMap (Vec ℕ Global) Call S → List Target
kept calls = all_seen (values calls)

pub record AreKept {S : Type 0} (calls : IndexMap (Vec ℕ Global) Call S) : Type 0 where
  pub named : map (λ e. e.0.items) calls.entries ≡ map name_of (kept calls)
  pub own_names : HaveNamesOfTheirOwn (kept calls)

-- what a call is to those before it, and all of them afterwards
abbrev pub Notes : List Target → Target → Noted → List Target → Type 0
Notes before t Known after = (is_among before t ≡ true) × (after ≡ before)
Notes before t New after = (has_name before (name_of t) ≡ false) × (after ≡ before ++ t ∷ [])
Notes before t Clashing after = (has_name before (name_of t) ≡ true) × (is_among before t ≡ false)

abbrev pub is_clashing : Noted → Bool
is_clashing Known = false
is_clashing New = false
is_clashing Clashing = true
