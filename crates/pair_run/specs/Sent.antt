-- Values on their way through queues (SWS_RTE: Rte_Send, Rte_Receive; Software Component Template: types of data elements). Histories
-- stand the newest first, values the oldest first.
use Rattle.std.specs.Prelude.{◌≡◌, ◌⊎◌, ℕ, ℤ, List, [], length, drop, Bool, true, false, ◌&&◌, ◌==◌}
use Rattle.bus_semantics.specs.Common.{list_all, words_of, Plan, look, History, Past, taken_at, accepted_at, is_within}
use Rattle.bus_laws.specs.Common.{ElemPlan, Actor, Env, Deed, Entry}
use Rattle.bus_semantics.specs.declared.entries.Deed.TheVariants as deed

-- as many words as the element has, each within its limits
abbrev pub is_value_of : ElemPlan → List ℤ → Bool
is_value_of e ws = (length ws == e.words) && list_all (is_within e.limits) ws

abbrev pub takes : Plan → (elem : ℕ) → List ℤ → Bool
takes p x ws = look p.elements x (λ (e : ElemPlan). is_value_of e ws) false

-- what the environment sends is a value of the element: a fitting Send has the words of the element, but may pass its limits
abbrev pub keeps_limits : Plan → Actor → Deed → Bool
keeps_limits p Env (deed.Send x value code) = takes p x (words_of value)
keeps_limits p _ _ = true

abbrev pub EnvironmentKeepsLimits : Plan → History → Type 0
EnvironmentKeepsLimits p h = list_all (λ (e : Entry). keeps_limits p e.actor e.deed) h ≡ true

-- what a Receive gives: a value of the element, with 0 RTE_E_OK or 64 RTE_E_LOST_DATA; or none, with 131 RTE_E_NO_DATA or 134
-- RTE_E_UNCONNECTED
pub data IsReceived (p : Plan) (x : ℕ) (code : ℕ) (ws : List ℤ) : Type 0 where
  a_value : (code ≡ 0) ⊎ (code ≡ 64) → takes p x ws ≡ true → IsReceived p x code ws
  nothing : (code ≡ 131) ⊎ (code ≡ 134) → ws ≡ [] → IsReceived p x code ws

-- the values that a queue holds: those that it accepted and that were not taken
abbrev pub waiting_at : Plan → (elem : ℕ) → Past → List (List ℤ)
waiting_at p x l = drop (taken_at x l) (accepted_at p x l)
