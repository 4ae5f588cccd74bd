-- What was returned to a request, as a relation above the recursions on calls (SWS_RTE: Rte_Call, Rte_Result). Entries stand the newest
-- first.
use Rattle.std.specs.Prelude.{◌≡◌, ℕ, ℤ, List, ◌∷◌, ◌++◌, true, false, ◌&&◌, ◌||◌, is_some, Some}
use Rattle.bus_semantics.specs.Common.{list_any, ActKey, Value, words_of, Past, Noted, made_by, event_started, is_request_at, takes_reply_at, start_names}
use Rattle.bus_semantics.specs.declared.entries.Actor.TheVariants.{Act}
use Rattle.bus_semantics.specs.declared.entries.Deed.TheVariants as deed

-- A request at the point, a start that names the point after it, and the return of that activation after the start. The request is the
-- point's last one, and no reply was taken of it.
pub record IsAnswered (point code : ℕ) (words : List ℤ) (h : Past) : Type 0 where
  pub later : Past
  pub returned : Noted
  pub between : Past
  pub started : Noted
  pub waiting : Past
  pub ask : Noted
  pub before : Past
  pub whole : h ≡ later ++ returned ∷ (between ++ started ∷ (waiting ++ ask ∷ before))
  pub asks : is_request_at point ask.entry.deed ≡ true
  pub is_last : list_any (λ n. is_request_at point n.entry.deed || takes_reply_at point n.entry.deed) (later ++ returned ∷ (between ++ started ∷ waiting)) ≡ false
  pub key : ActKey
  pub starts : made_by key started.entry.actor ≡ true
  pub names : start_names point started.entry.deed ≡ Some true
  pub same_activation : list_any (λ n. made_by key n.entry.actor && is_some (event_started n.entry.deed)) between ≡ false
  pub value : Value
  pub by : returned.entry.actor ≡ Act key
  pub returns : returned.entry.deed ≡ deed.Return code value
  pub gives : words_of value ≡ words
