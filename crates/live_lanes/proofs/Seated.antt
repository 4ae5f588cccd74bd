-- Cores that got their seats, one after the other.
use Rattle.std.proofs.Common.{◌≡◌, refl, sym, ◌∙◌, ap, subst, List, [], ◌∷◌, ◌++◌, map, append_assoc, append-nil, Some}
use Rattle.std.proofs.lemmas.List.{map-append}
use Rattle.core_turn.specs.Cores.{CoreState}
use Rattle.cross_core_table.specs.declared.seats.CoreSeat.{CoreSeat}
use Rattle.live_lanes.specs.declared.lanes.Lane.{Lane}
use Rattle.live_lanes.specs.declared.workers.Worker.{Worker}
use Rattle.live_lanes.specs.declared.workers.Worker.TheVariants.{Core}
use Rattle.live_lanes.specs.Lanes.{core_in, seat_in}
use Rattle.live_lanes.specs.Workers.{AreCores}

-- of all cores and seats these have become lanes, and those are left
pub record Seated (workers : List Worker) (cores : List CoreState) (seats : List CoreSeat) (all : List CoreState) (chairs : List CoreSeat) : Type 0 where
  pub lanes : List Lane
  pub workers_are : workers ≡ map Core lanes
  pub cores_are : map core_in lanes ++ cores ≡ all
  pub seats_are : map seat_in lanes ++ map (λ (s : CoreSeat). Some s) seats ≡ map (λ (s : CoreSeat). Some s) chairs

pub none_seated : (workers : List Worker) (cores : List CoreState) (seats : List CoreSeat) → workers ≡ [] → Seated workers cores seats cores seats
none_seated workers cores seats none = record { lanes = []; workers_are = none; cores_are = refl; seats_are = refl }

pub seated_on : (workers : List Worker) (c : CoreState) (cores now : List CoreState) (s : CoreSeat) (seats left : List CoreSeat) (all : List CoreState) (chairs : List CoreSeat) (l : Lane) → now ≡ c ∷ cores → left ≡ s ∷ seats
    → l.core ≡ c → l.seat ≡ Some s → Seated workers now left all chairs → Seated (workers ++ Core l ∷ []) cores seats all chairs
seated_on workers c cores now s seats left all chairs l taken sat core seat before = record {
  lanes = before.lanes ++ l ∷ [];
  workers_are = ap (λ ws. ws ++ Core l ∷ []) before.workers_are ∙ sym (map-append Core before.lanes (l ∷ []));
  cores_are =
      ap (λ cs. cs ++ cores) (map-append core_in before.lanes (l ∷ [])) ∙ append_assoc (map core_in before.lanes) (l.core ∷ []) cores
      ∙ ap (λ x. map core_in before.lanes ++ x ∷ cores) core ∙ ap (λ cs. map core_in before.lanes ++ cs) (sym taken) ∙ before.cores_are;
  seats_are =
      ap (λ os. os ++ map (λ (x : CoreSeat). Some x) seats) (map-append seat_in before.lanes (l ∷ [])) ∙ append_assoc (map seat_in before.lanes) (l.seat ∷ []) (map (λ (x : CoreSeat). Some x) seats)
      ∙ ap (λ o. map seat_in before.lanes ++ o ∷ map (λ (x : CoreSeat). Some x) seats) seat ∙ ap (λ ss. map seat_in before.lanes ++ map (λ (x : CoreSeat). Some x) ss) (sym sat) ∙ before.seats_are;
}

pub all_seated_in : (workers : List Worker) (all : List CoreState) (chairs : List CoreSeat) (cores : List CoreState) (seats : List CoreSeat) → cores ≡ [] → seats ≡ [] → Seated workers cores seats all chairs → AreCores all chairs workers
all_seated_in workers all chairs cores seats none empty before = record {
  lanes = before.lanes;
  workers_are = before.workers_are;
  cores_are = sym (append-nil (map core_in before.lanes)) ∙ ap (λ cs. map core_in before.lanes ++ cs) (sym none) ∙ before.cores_are;
  seats_are = sym (append-nil (map seat_in before.lanes)) ∙ ap (λ ss. map seat_in before.lanes ++ map (λ (x : CoreSeat). Some x) ss) (sym empty) ∙ before.seats_are;
}
