use Rattle.std.proofs.Common.{◌≡◌, true, sym, ◌∙◌}
use Rattle.std.proofs.lemmas.Bool.{and_parts, and_from}
use Rattle.same_entries.specs.Sames.{same_deed, same_maker}
use Rattle.same_entries.proofs.Same.{same_entry-Decides}
use Rattle.same_entries.proofs.entries.same_entry.Goals as goal

pub returns-then-same_maker : goal.returns-then-same_maker
returns-then-same_maker c =
    let one = c.args.one.now in
    let other = c.args.other.now in
    let decides = same_entry-Decides one other in
    let makers : same_maker one.actor other.actor ≡ true = sym c.same_maker.ensures ∙ c.if-same_maker.true in (
      λ same. decides.0 (and_from (same_maker one.actor other.actor) (same_deed one.deed other.deed) makers (sym c.same_deed.ensures ∙ same)),
      λ equal. c.same_deed.ensures ∙ (and_parts (same_maker one.actor other.actor) (same_deed one.deed other.deed) (decides.1 equal)).1,
    )
