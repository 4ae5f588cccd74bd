use Rattle.std.proofs.Common.{◌≡◌, ◌++◌, map, slice_set, sym, subst}
use Rattle.bus_semantics.specs.Wanted.{wanted_of}
use Rattle.feed_queue.specs.Gifts.{wishes_at}
use Rattle.feed_queue.specs.Heard.{heard_as, wishes_of}
use Rattle.feed_queue.specs.Reading.{given_to}
use Rattle.feed_queue.proofs.Gifts.{found_at, gave}
use Rattle.feed_queue.proofs.giving.give.Goals as goal

pub returns-in_ok-add_gift-clause-given : goal.returns-in_ok-add_gift-clause-given
returns-in_ok-add_gift-clause-given c = λ f _.
    let lists = c.args.lists.now.items in
    subst (λ h. map wanted_of (wishes_at (slice_set lists c.in-Feed.feed c.add_gift.new.list) f) ≡ map wanted_of (wishes_at lists f) ++ given_to f (heard_as h)) (sym c.in-Feed.is)
    (gave lists c.in-Feed.feed c.in-Some.list.now c.add_gift.new.list (wishes_of c.in-Feed.gift) (found_at lists c.in-Feed.feed c.in-Some.list.now c.in-Some.ensures.item.3.0 c.in-Some.ensures.value) c.in_ok-add_gift.ensures f)
