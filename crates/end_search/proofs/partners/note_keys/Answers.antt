use Rattle.std.proofs.Common.{inl}
use Rattle.end_search.proofs.Keying.{keys_more}
use Rattle.end_search.proofs.partners.note_keys.Goals as goal

pub loop-place-preserved : goal.loop-place-preserved
loop-place-preserved c = record {
  stays = λ q i h. (c.in_ok-add_under.ensures q i).1 (inl (c.loop-place.invariant.stays q i h));
  has = λ q. keys_more c.args.keys.now c.loop-place.place _ c.args.interface q _ _ c.loop-place-test.true (c.in_ok-add_under.ensures q) (c.loop-place.invariant.has q);
}
