-- What the walks stand for after an entry that is no key's of theirs, or that frees nobody.
use Rattle.std.proofs.Common.{◌≡◌, ℕ, false, ◌&&◌, refl, sym, ◌∙◌, ap, ◌∷◌, Some}
use Rattle.std.specs.Prelude.{option_and_then}
use Rattle.bus_semantics.specs.Common.{ActKey, Plan, History, is_of, is_end, direct_key, asked_last, plain_key}
use Rattle.bus_semantics.specs.declared.entries.Entry.{Entry}
use Rattle.task_machine.specs.declared.instr.TaskSet.{TaskSet}
use Rattle.trace_walks.specs.declared.walk.Walk.{Walk}
use Rattle.trace_walks.specs.declared.walks.Walks.{Walks}
use Rattle.trace_walks.specs.Walking.{WalkStands}
use Rattle.trace_walks.specs.Standing.{WalksStand}
use Rattle.trace_walks.proofs.Going.{passed}
use Rattle.trace_walks.proofs.Freeing.{held_still}

module _ (t : TaskSet) (p : Plan) (h : History) (e : Entry) where
  -- another's entry, which is not the end of the direct activation that the key called
  pub still : (k : ActKey) (w : Walk) → is_of k e ≡ false → ((j : ActKey) → option_and_then (direct_key p) (asked_last k h) ≡ Some j → (is_of j e && is_end e.deed) ≡ false)
      → WalkStands t p k h w → WalkStands t p k (e ∷ h) w
  still k w other none stands = passed t p k h e other w w.held (stands.held ∙ sym (held_still p h k e other none)) stands

  -- an entry of the environment, or of a machine
  pub nobody : ((k : ActKey) → is_of k e ≡ false) → (ws : Walks) → WalksStand t p h ws → WalksStand t p (e ∷ h) ws
  nobody others ws stands = record {
    runnables = stands.runnables;
    points = stands.points;
    plain = λ r w is. still (plain_key r) w (others (plain_key r)) (λ j calls. none j) (stands.plain r w is);
    direct = λ k q w at fit is. still k w (others k) (λ j calls. none j) (stands.direct k q w at fit is);
    idle = stands.idle;
    outside = λ r is. asked r ∙ stands.outside r is;
  }
    where
      none : (j : ActKey) → (is_of j e && is_end e.deed) ≡ false
      none j = ap (λ b. b && is_end e.deed) (others j)

      asked : (r : ℕ) → asked_last (plain_key r) (e ∷ h) ≡ asked_last (plain_key r) h
      asked r = rw (others (plain_key r)) refl
