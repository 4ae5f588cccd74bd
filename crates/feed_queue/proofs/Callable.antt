-- What feeds are given may be called.
use Rattle.std.proofs.Common.{◌≡◌, ◌<◌, ℕ, ◌-◌, List, [], ◌∷◌, map, Bool, true, false, ◌==◌, ◌&&◌, nat_le, bytes_eq, codes, replicate, if◌then◌else◌, refl, sym, subst}
use Rattle.bus_semantics.specs.Common.{All, All-nil, Plan, Letters, Wanted, to_tick, wanted_of}
use Rattle.std.proofs.lemmas.List.Elements.{All-append, All-cons, All-replicate}
use Rattle.line_fields.specs.Texts.{lines_of}
use Rattle.script_reading.specs.Common.{ticks, a_run, a_call, Saying, nothing, asks, is_bad, saying, may_call}
use Rattle.script_reading.proofs.Asking.{saying_asks}
use Rattle.feed_queue.specs.declared.feeds.Feeds.{Feeds}
use Rattle.feed_queue.specs.Gifts.{wishes_at}
use Rattle.feed_queue.specs.Given.{may_give}
use Rattle.feed_queue.specs.Stimuli.{silent, stops, unfit, given_by, feed_line, stimulus}
use Rattle.feed_queue.specs.Reading.{AreFeeds, given_to, wishes_for}

abbrev May : Plan → Wanted → Type 0
May p w = may_give p w ≡ true

called : (p : Plan) (w : Wanted) → may_call p w ≡ true → May p w
called p to_tick may = refl
called p w may = may

-- of the feed or not
for_one : (p : Plan) (b : Bool) (ws : List Wanted) → All (May p) ws → All (May p) (if b then ws else [])
for_one p true ws all = all
for_one p false ws all = All-nil (May p)

by_script : (p : Plan) (t : Letters) (f g : ℕ) (s : Saying) → saying p t ≡ s → All (May p) (given_to g (given_by f s))
by_script p t f g nothing is = All-nil (May p)
by_script p t f g (is_bad cause) is = All-nil (May p)
by_script p t f g (asks a_run) is = All-nil (May p)
by_script p t f g (asks (ticks n)) is = for_one p (f == g) (replicate n to_tick) (All-replicate (May p) n to_tick refl)
by_script p t f g (asks (a_call w)) is = for_one p (f == g) (w ∷ []) (All-cons (May p) w [] (called p w (saying_asks p t (a_call w) is).spelling.may) (All-nil (May p)))

by_feed : (p : Plan) (t : Letters) (g : ℕ) → All (May p) (given_to g (feed_line p t))
by_feed p [] g = All-nil (May p)
by_feed p (d ∷ []) g = All-nil (May p)
by_feed p (d ∷ s ∷ t) g = by_test (nat_le 48 d && (nat_le d 51 && (s == 32)))
  where
    by_test : (b : Bool) → All (May p) (given_to g (if b then given_by (d - 48) (saying p t) else unfit 1))
    by_test true = by_script p t (d - 48) g (saying p t) refl
    by_test false = All-nil (May p)

by_line : (p : Plan) (t : Letters) (g : ℕ) → All (May p) (given_to g (stimulus p t))
by_line p [] g = All-nil (May p)
by_line p (c ∷ cs) g = by_test (c == 35) (bytes_eq (c ∷ cs) (codes "stop"))
  where
    by_test : (a b : Bool) → All (May p) (given_to g (if a then silent else (if b then stops else feed_line p (c ∷ cs))))
    by_test true b = All-nil (May p)
    by_test false true = All-nil (May p)
    by_test false false = by_feed p (c ∷ cs) g

by_lines : (p : Plan) (ts : List Letters) (g : ℕ) → All (May p) (wishes_for p g ts)
by_lines p [] g = All-nil (May p)
by_lines p (t ∷ ts) g = All-append (May p) (given_to g (stimulus p t)) (wishes_for p g ts) (by_line p t g) (by_lines p ts g)

pub callable : (p : Plan) (bytes : Letters) (feeds : Feeds) (f : ℕ) → AreFeeds p bytes feeds → f < 4 → All (λ w. may_give p w ≡ true) (map wanted_of (wishes_at feeds.wishes.items f))
callable p bytes feeds f a small = subst (All (May p)) (sym (a.given f small)) (by_lines p (lines_of bytes) f)
