-- What stands behind an answer: the Return of the point's own request (SWS_RTE: Rte_Call, Rte_Result). Entries stand the newest first.
use Rattle.std.specs.Prelude.{◌≡◌, ℕ, ℤ, List, ◌∷◌, ◌++◌, Bool, true, not, Some, is_none}
use Rattle.bus_semantics.specs.Common.{list_all, ActKey, Value, words_of, Noted, Past, is_request_at, serves_by}
use Rattle.bus_semantics.specs.declared.entries.Actor.TheVariants.{Act}
use Rattle.bus_semantics.specs.declared.entries.Deed.TheVariants as deed
use Rattle.server_objects.specs.Standing.{last_asked}

-- no request of the point is among these entries
abbrev pub none_asked : (point : ℕ) → Past → Bool
none_asked q l = list_all (λ (n : Noted). not (is_request_at q n.entry.deed)) l

-- nor a start or Return by the key
abbrev pub none_served : ActKey → Past → Bool
none_served k l = list_all (λ (n : Noted). is_none (serves_by (Act k) n)) l

-- an activation was started for the point with the words of its last request, and then returned this code and these words: between the two
-- it neither started nor returned, and since that start the point asked nothing
pub record IsReturnOf (point : ℕ) (code : ℕ) (ws : List ℤ) (l : Past) : Type 0 where
  pub key : ActKey
  pub returning : Noted
  pub starting : Noted
  pub since : Past
  pub between : Past
  pub before : Past
  pub event : ℕ
  pub given : Value
  pub value : Value
  pub whole : l ≡ since ++ returning ∷ (between ++ starting ∷ before)
  pub returned_by : returning.entry.actor ≡ Act key
  pub returned : returning.entry.deed ≡ deed.Return code value
  pub returned_words : words_of value ≡ ws
  pub started_by : starting.entry.actor ≡ Act key
  pub started : starting.entry.deed ≡ deed.Start event (Some point) given
  pub requested : last_asked point before ≡ Some (words_of given)
  pub quiet_since : none_asked point since ≡ true
  pub quiet_between : none_asked point between ≡ true
  pub alone : none_served key between ≡ true
