-- How many things are numbered; one more thing, before those that an index has, and one more mode, behind those that were looked at.
use Rattle.std.proofs.Common.{◌≡◌, ℕ, suc, ◌+◌, ◌-◌, ◌<◌, ◌^◌, false, cond, List, bytes_eq, length, get_or, Some, Bor, refl, sym, ap, ◌∙◌, arith}
use Rattle.bus_semantics.specs.Common.{slice_get, slice_get_read, Plan, Letters}
use Rattle.indexmap.specs.IndexMap.{IndexMap, get_by}
use Rattle.script_reading.specs.Common.{Form, Write, Send, Read, Receive, Ask, TakeResult, Switch, SeeMode, first_from, goes_by, how_many, offered, IsNoted, IsNumbered}

pub few_numbered : (f : Form) (p : Plan) → IsNumbered p → how_many f p < 2 ^ 32
few_numbered Write p few = few.elements
few_numbered Send p few = few.elements
few_numbered Read p few = few.elements
few_numbered Receive p few = few.elements
few_numbered Ask p few = few.points
few_numbered TakeResult p few = few.points
few_numbered Switch p few = few.machines
few_numbered SeeMode p few = few.mode_ports

pub noted : {S : Type 0} (f : Form) (p : Plan) (count j left : ℕ) (m n : IndexMap (Bor (List ℕ)) ℕ S) → j < count → left ≡ j + 1 → IsNoted (offered f p j) j m n
    → ((q : List ℕ) → get_by (λ k. bytes_eq q k.now) m ≡ first_from (λ x. goes_by q (offered f p x)) (count - left) left)
    → (q : List ℕ) → get_by (λ k. bytes_eq q k.now) n ≡ first_from (λ x. goes_by q (offered f p x)) (count - j) j
noted f p count j left m n h is put before q =
    let after : left ≡ suc j = omega arith in
    let more : count - j ≡ suc (count - left) = omega arith in
    put q
    ∙ ap (λ rest. cond (goes_by q (offered f p j)) (Some j) rest) (before q ∙ ap (λ s. first_from (λ x. goes_by q (offered f p x)) (count - left) s) after)
    ∙ sym (ap (λ k. first_from (λ x. goes_by q (offered f p x)) k j) more)

-- a mode that has another name
pub mode_passed : (modes : List Letters) (name mode : Letters) (k : ℕ) → k < length modes → mode ≡ get_or modes k mode → bytes_eq mode name ≡ false
    → first_from (λ x. goes_by name (slice_get modes x)) (length modes - k) k ≡ first_from (λ x. goes_by name (slice_get modes x)) (length modes - (k + 1)) (k + 1)
mode_passed modes name mode k h is other =
    let here : length modes - k ≡ suc (length modes - (k + 1)) = omega arith in
    let next : suc k ≡ k + 1 = omega arith in
    let place : slice_get modes k ≡ Some mode = slice_get_read modes (length modes) k mode refl h is in
    let passed : goes_by name (slice_get modes k) ≡ false = ap (goes_by name) place ∙ other in
    ap (λ n. first_from (λ x. goes_by name (slice_get modes x)) n k) here
    ∙ ap (λ b. cond b (Some k) (first_from (λ x. goes_by name (slice_get modes x)) (length modes - (k + 1)) (suc k))) passed
    ∙ ap (λ n. first_from (λ x. goes_by name (slice_get modes x)) (length modes - (k + 1)) n) next
