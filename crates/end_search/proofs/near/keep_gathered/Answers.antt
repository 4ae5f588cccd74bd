use Rattle.std.proofs.Common.{◌∙◌, ap, sym}
use Rattle.indexmap.specs.IndexMap.{get}
use Rattle.end_search.specs.Near.{same_gate}
use Rattle.end_search.proofs.near.keep_gathered.Goals as goal

pub returns-then-is_cut : goal.returns-then-is_cut
returns-then-is_cut c = λ d w near found g list is. near g list (ap (λ m. get same_gate m g) (sym c.note_crowded.ensures) ∙ is)

pub returns : goal.returns
returns c = λ d w near found. c.in_ok-keep_ends.ensures d w near (found c.if-is_cut.false)
