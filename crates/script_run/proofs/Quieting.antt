-- No legal run stalls.
use Rattle.std.proofs.Common.{[], ◌∷◌, ◌++◌}
use Rattle.bus_semantics.specs.declared.script.Mapping.{Mapping}
use Rattle.bus_semantics.specs.Common.{Plan, History, IsLegal, IsQuiet, IsAtRest, Closing, idle, unsettled, Session, made, run_begins, run_closes, history_of, IsSound}
use Rattle.script_run.specs.Legal.{IsLegalFrom, HoldsFrom}
use Rattle.script_run.specs.Quieting.{IsQuietAt, IdlesAreQuiet}

abbrev pub QuietLaw : Type 0
QuietLaw = (p : Plan) (m : Mapping) (h : History) → IsSound p m → IsLegal p h → IsAtRest p m h → IsQuiet p h

module _ (quiet : QuietLaw) (p : Plan) (m : Mapping) (sound : IsSound p m) (h : History) (legal : IsLegal p h) where
  legal_after : (s : Session) → IsLegalFrom p m h s → IsLegal p (history_of s ++ h)
  legal_after [] runs = legal
  legal_after (made e ∷ s) runs = (legal_after s runs.0, runs.1)
  legal_after (run_begins ∷ s) runs = legal_after s runs
  legal_after (run_closes word ∷ s) runs = legal_after s runs.0

  at_word : (s : Session) (word : Closing) → IsLegalFrom p m h s → HoldsFrom p m h s word → IsQuietAt p (history_of s ++ h) word
  at_word s idle runs holds = quiet p m (history_of s ++ h) sound (legal_after s runs) holds.rest
  at_word s unsettled runs holds = tt

  pub idles_are_quiet : (s : Session) → IsLegalFrom p m h s → IdlesAreQuiet p h s
  idles_are_quiet [] runs = tt
  idles_are_quiet (made e ∷ s) runs = idles_are_quiet s runs.0
  idles_are_quiet (run_begins ∷ s) runs = idles_are_quiet s runs
  idles_are_quiet (run_closes word ∷ s) runs = (idles_are_quiet s runs.0, at_word s word runs.0 runs.2)
