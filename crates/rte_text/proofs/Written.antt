-- What a writer holds while a piece is written in several calls.
use Rattle.std.proofs.Common.{◌≡◌, ◌∙◌, ◌-◌, ℕ, List, ◌++◌, sym, ap, subst, append_assoc, length, take, drop, take-append-drop}
use Rattle.std.specs.Prelude.{Option}
use Rattle.std.proofs.Math.Seq.{take-append_seam}
use Rattle.std.proofs.lemmas.List.{take_rest}
use Rattle.std.specs.Io.KnownBytes.{Appends, Keeps}
use Rattle.std.proofs.KnownBytes.{Appends-trans, Appends-kept}

-- the writer took the piece but for the rest
pub record Written (old now : Option (List ℕ)) (piece rest : List ℕ) : Type 0 where
  pub taken : List ℕ
  pub whole : piece ≡ taken ++ rest
  pub held : Appends old now taken

pub written-more : {old now : Option (List ℕ)} {piece rest : List ℕ} (new : Option (List ℕ)) (count : ℕ)
    → Written old now piece rest → Appends now new (take count rest) → Written old new piece (take (length rest - count) (drop count rest))
written-more {old} {now} {piece} {rest} new count w more = rw (take_rest rest count) (record {
  taken = w.taken ++ take count rest;
  whole = w.whole ∙ ap (λ l. w.taken ++ l) (sym (take-append-drop count rest)) ∙ sym (append_assoc w.taken (take count rest) (drop count rest));
  held = Appends-trans old now new w.taken (take count rest) w.held more;
})

pub written-kept : {old now : Option (List ℕ)} {piece rest : List ℕ} (new : Option (List ℕ)) → Written old now piece rest → Keeps now new → Written old new piece rest
written-kept {old} {now} new w kept = record { taken = w.taken; whole = w.whole; held = Appends-kept old now new w.taken w.held kept }

pub written-prefix : {old now : Option (List ℕ)} {piece rest : List ℕ} → Written old now piece rest → (taken : ℕ) × Appends old now (take taken piece)
written-prefix {old} {now} {piece} {rest} w =
    (length w.taken, subst (Appends old now) (sym (ap (take (length w.taken)) w.whole ∙ take-append_seam w.taken rest)) w.held)
