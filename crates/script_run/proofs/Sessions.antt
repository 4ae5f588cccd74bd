-- One more item of a session, or entries of a round: a call, a run mark, a closing word.
use Rattle.std.proofs.Common.{◌≡◌, ◌≢◌, ℕ, suc, ◌+◌, ◌-◌, ◌^◌, ◌<◌, ◌≤◌, ◌==◌, min, true, false, List, [], ◌∷◌, ◌++◌, length, take, drop, replicate, get_or, Option, refl, sym, ap, ◌∙◌}
use Rattle.std.proofs.Common.{subst, append_assoc, append-nil, drop-cons, arith}
use Rattle.bus_semantics.specs.Common.{list_all, le-leb, and_from, take_more, take-append-drop, IsSound, Plan, plan_of, Wanted, wanted_by, History, is_environment, IsLegal, MayFollow}
use Rattle.bus_semantics.specs.Common.{IsIdle, Session, made, run_begins, run_closes, idle, unsettled, history_of, Ordered, a_run, a_call, orders_of, orders_of_line, orders_of_script}
use Rattle.bus_semantics.specs.Common.{is_placed, is_inside, made_in_line, IsLegalRun, entry_text, closing_text, header, item_text, spelling_of}
use Rattle.std.proofs.lemmas.List.{replicate-append-replicate}
use Rattle.rte_text.specs.declared.sink.Put.{Put}
use Rattle.rte_text.specs.declared.sink.Put.TheVariants as putting
use Rattle.rte_text.specs.Sinks.{AppendsWhereTold, AppendsPrefixWhereTold, ToldAfter}
use Rattle.rte_text.specs.Told.{appends_both, appends_none, prefix_after, prefix_whole}
use Rattle.bus_semantics.specs.declared.entries.Actor.TheVariants.{Env}
use Rattle.bus_semantics.specs.declared.entries.Entry.{Entry}
use Rattle.bus_semantics.specs.declared.entries.Stamped.{Stamped}
use Rattle.bus_semantics.specs.declared.script.Line.{Line}
use Rattle.bus_semantics.specs.declared.script.Mapping.{Mapping}
use Rattle.bus_semantics.specs.declared.version.Version.{Version}
use Rattle.core_runtime.specs.After.{after, are_within}
use Rattle.core_runtime.specs.Nodes.{NodeState, IsLawfulNode}
use Rattle.script_run.specs.declared.script.ScriptRun.{ScriptRun}
use Rattle.script_run.specs.declared.script.ScriptRun.TheVariants.{Finished, Failed, Memory}
use Rattle.script_run.specs.declared.laps.Lap.{Lap}
use Rattle.script_run.specs.declared.laps.Lap.TheVariants.{Made, Ended}
use Rattle.script_run.specs.declared.writing.Writing.{Writing}
use Rattle.script_run.specs.Legal.{IsLegalFrom}
use Rattle.script_run.specs.Texts.{behind, entries_text, lines_of}
use Rattle.script_run.specs.Running.{PrintsRun, PrintsBeginning, PrintsLines, PrintsFirstLines}
use Rattle.script_run.specs.Sizes.{is_sized_entry, is_sized_stamped, is_sized_item}
use Rattle.script_run.specs.Standing.{Place, outside, inside, IsAt, StandsIn, IsCut, GoesOn, came_of, Calls, Carries, CarriesLap, LapCloses, word_after, EndsWith}
use Rattle.script_run.proofs.Items.{items_after, sized-items, items_fit, items-onto, history-items, lines-append, lines-items, legal-items, inside-items, placed-items, orders-items, made-items}
use Rattle.script_run.proofs.Quieting.{QuietLaw, idles_are_quiet}

-- what follows of a put of the lines of further items, which the session goes on with where all of them are put
went_on : (w : Writing) (p : Plan) (m : Mapping) (h : History) (orders more : List Ordered) (to : Place) (before now : Option (List ℕ)) (n : NodeState) (put : Put) (s items : Session)
    → orders_of (items ++ s) ≡ orders ++ more
    → is_placed (items ++ s) ≡ true
    → IsAt to (items ++ s)
    → list_all is_sized_item (items ++ s) ≡ true
    → IsLegalFrom p m h (items ++ s)
    → plan_of n.plan ≡ p
    → n.mapping ≡ m
    → IsLawfulNode n (history_of (items ++ s) ++ h)
    → ToldAfter put before now (lines_of w p items)
    → GoesOn w (came_of put) p m h (orders ++ more) to s n before now
went_on w p m h orders more to before now n putting.Done s items did placed at sized legal plan mapping lawful told = record {
  items = items;
  stands = record { did = did; placed = placed; at = at; sized = sized; legal = legal; plan = plan; mapping = mapping; lawful = lawful };
  put = told;
}
went_on w p m h orders more to before now n putting.Failed s items did placed at sized legal plan mapping lawful told = record {
  items = items;
  left = [];
  did = append-nil (orders_of (items ++ s)) ∙ did;
  placed = placed;
  legal = legal;
  put = told;
}

-- ---- calls of the environment

placed_outside : (e : Entry) (s : Session) → is_environment e.actor ≡ true → is_placed s ≡ true → is_inside s ≡ false → is_placed (made e ∷ s) ≡ true
placed_outside e s env placed place = rw (env, placed, place) refl

pub call_made : (w : Writing) (old new : NodeState) (e : Entry) (call : Wanted) (put : Put) (before after : Option (List ℕ)) (q : Plan)
    → e.actor ≡ Env → wanted_by 0 e.deed ≡ call
    → new.plan ≡ old.plan → new.mapping ≡ old.mapping
    → ((h : History) → IsLawfulNode old h → IsLawfulNode new (e ∷ h))
    → q ≡ plan_of new.plan → is_sized_entry e ≡ true → ToldAfter put before after (behind w (entry_text w.version q e))
    → Calls w put call e old new before after
call_made w old new e call put before now q actor wanted plan mapping lawful spelled sized told p m h orders s stands =
    let env : is_environment e.actor ≡ true = rw actor refl in
    let planned : plan_of new.plan ≡ p = ap plan_of plan ∙ stands.plan in
    let later = lawful (history_of s ++ h) stands.lawful in (
      record {
        did = rw (env, wanted) (ap (λ os. os ++ a_call call ∷ []) stands.did);
        placed = placed_outside e s env stands.placed stands.at;
        at = stands.at;
        sized = and_from (is_sized_entry e) (list_all is_sized_item s) sized stands.sized;
        legal = (stands.legal, subst (λ r. MayFollow r (history_of s ++ h) e) planned later.legal.1);
        plan = planned;
        mapping = mapping ∙ stands.mapping;
        lawful = later;
      },
      subst (λ r. ToldAfter put before now (behind w (entry_text w.version r e))) (spelled ∙ planned) told,
    )

-- a call carries it on
pub call_carries : (w : Writing) (old new : NodeState) (e : Entry) (call : Wanted) (put : Put) (before after : Option (List ℕ))
    → Calls w put call e old new before after → Carries w (came_of put) (a_call call ∷ []) outside outside old new before after
call_carries w old new e call put before now f p m h orders s stands =
    let c = f p m h orders s stands in
    went_on w p m h orders (a_call call ∷ []) outside before now new put s (made e ∷ [])
    c.0.did c.0.placed c.0.at c.0.sized c.0.legal c.0.plan c.0.mapping c.0.lawful c.1

-- ---- run lines

pub mark_carries : (w : Writing) (n : NodeState) (put : Put) (before after : Option (List ℕ))
    → ((p : Plan) → ToldAfter put before after (behind w (item_text w.version p run_begins)))
    → Carries w (came_of put) (a_run ∷ []) outside (inside 0) n n before after
mark_carries w n put before now told p m h orders s stands =
    went_on w p m h orders (a_run ∷ []) (inside 0) before now n put s (run_begins ∷ [])
    (ap (λ os. os ++ a_run ∷ []) stands.did) (rw (stands.placed, stands.at) refl) (refl, omega arith) stands.sized stands.legal stands.plan stands.mapping stands.lawful (told p)

pub entries_carry : (w : Writing) (old new : NodeState) (es : List Stamped) (put : Put) (before now : Option (List ℕ)) (q : Plan) (count total : ℕ)
    → new.plan ≡ old.plan → new.mapping ≡ old.mapping
    → are_within es ≡ true → list_all is_sized_stamped es ≡ true → total ≡ min (count + length es) (2 ^ 64 - 1)
    → ((h : History) → IsLawfulNode old h → IsLawfulNode new (after es h))
    → q ≡ plan_of new.plan → ToldAfter put before now (entries_text w q es)
    → Carries w (came_of put) [] (inside count) (inside total) old new before now
entries_carry w old new es put before now q count total plan mapping within sized few lawful spelled told p m h orders s stands =
    let planned : plan_of new.plan ≡ p = ap plan_of plan ∙ stands.plan in
    let past = history-items es s h in
    let later = lawful (history_of s ++ h) stands.lawful in
    let legal = subst (λ r. IsLegal r (after es (history_of s ++ h))) planned later.legal in
    let n = made-items es s within in
    let all : StandsIn p m h (orders ++ []) (inside total) new (items_after es s) = record {
      did = orders-items es s within ∙ stands.did ∙ sym (append-nil orders);
      placed = placed-items es s within stands.placed stands.at.0;
      at = (inside-items es s ∙ stands.at.0, omega (arith, n, few, stands.at.1));
      sized = sized-items es s sized stands.sized;
      legal = legal-items p m h es s stands.legal legal;
      plan = planned;
      mapping = mapping ∙ stands.mapping;
      lawful = subst (λ g. IsLawfulNode new g) (sym past) later;
    } in
    let c = subst (StandsIn p m h (orders ++ []) (inside total) new) (items-onto es [] s) all in
    went_on w p m h orders [] (inside total) before now new put s (items_after es [])
    c.did c.placed c.at c.sized c.legal c.plan c.mapping c.lawful
    (subst (ToldAfter put before now) (sym (lines-items w p es []))
    (subst (λ r. ToldAfter put before now (entries_text w r es)) (spelled ∙ planned) told))

-- after a pass without an entry
pub idle_carries : (w : Writing) (old new : NodeState) (put : Put) (before after : Option (List ℕ)) (count : ℕ)
    → new.plan ≡ old.plan → new.mapping ≡ old.mapping
    → ((h : History) → IsLawfulNode old h → IsLawfulNode new h)
    → ((h : History) → IsLawfulNode old h → IsIdle (plan_of old.plan) old.mapping h)
    → ToldAfter put before after (behind w (closing_text idle))
    → Carries w (came_of put) [] (inside count) outside old new before after
idle_carries w old new put before now count plan mapping lawful rest told p m h orders s stands =
    let all = history_of s ++ h in
    let resting = subst (λ r. IsIdle r m all) stands.plan (subst (λ (r : Mapping). IsIdle (plan_of old.plan) r all) stands.mapping (rest all stands.lawful)) in
    went_on w p m h orders [] outside before now new put s (run_closes idle ∷ [])
    (stands.did ∙ sym (append-nil orders)) (rw (stands.placed, stands.at.0) refl) refl stands.sized (stands.legal, stands.at.0, resting)
    (ap plan_of plan ∙ stands.plan) (mapping ∙ stands.mapping) (lawful all stands.lawful) told

-- where enough entries were made
pub unsettled_carries : (w : Writing) (n : NodeState) (put : Put) (before after : Option (List ℕ)) (count : ℕ)
    → 100000 ≤ count → ToldAfter put before after (behind w (closing_text unsettled))
    → Carries w (came_of put) [] (inside count) outside n n before after
unsettled_carries w n put before now count many told p m h orders s stands =
    let enough : 100000 ≤ made_in_line s = omega (arith, many, stands.at.1) in
    went_on w p m h orders [] outside before now n put s (run_closes unsettled ∷ [])
    (stands.did ∙ sym (append-nil orders)) (rw (stands.placed, stands.at.0) refl) refl stands.sized (stands.legal, stands.at.0, le-leb 100000 (made_in_line s) enough)
    stands.plan stands.mapping stands.lawful told

-- ---- one thing after the other

left_over : (w : Writing) (p : Plan) (m : Mapping) (h : History) (orders more : List Ordered) (from : Place) (n : NodeState) (s : Session) (told : Option (List ℕ))
    → StandsIn p m h orders from n s → IsCut w p m h (orders ++ more) s told told
left_over w p m h orders more from n s told stands = record {
  items = [];
  left = more;
  did = ap (λ os. os ++ more) stands.did;
  placed = stands.placed;
  legal = stands.legal;
  put = prefix_whole told told [] (appends_none told);
}

-- where nothing more was put, and the run is cut off
pub stops : (w : Writing) (answer : ScriptRun) (more : List Ordered) (from to : Place) (old new : NodeState) (told : Option (List ℕ)) → answer ≢ Finished
    → Carries w answer more from to old new told told
stops w Finished more from to old new told cut = absurd (cut refl)
stops w Failed more from to old new told cut = λ p m h orders s stands. left_over w p m h orders more from old s told stands
stops w Memory more from to old new told cut = λ p m h orders s stands. left_over w p m h orders more from old s told stands

-- nothing was done yet
pub none_done : (w : Writing) (place : Place) (n : NodeState) (told : Option (List ℕ)) → Carries w Finished [] place place n n told told
none_done w place n told p m h orders s stands = record {
  items = [];
  stands = subst (λ os. StandsIn p m h os place n s) (sym (append-nil orders)) stands;
  put = appends_none told;
}

-- more lines, of which a prefix was put
cut_onto : (w : Writing) (p : Plan) (m : Mapping) (h : History) (orders : List Ordered) (s items : Session) (before between after : Option (List ℕ))
    → AppendsWhereTold before between (lines_of w p items) → IsCut w p m h orders (items ++ s) between after → IsCut w p m h orders s before after
cut_onto w p m h orders s items before between now put g =
    let all : g.items ++ (items ++ s) ≡ (g.items ++ items) ++ s = sym (append_assoc g.items items s) in
    record {
      items = g.items ++ items;
      left = g.left;
      did = subst (λ (t : Session). orders_of t ++ g.left ≡ orders) all g.did;
      placed = subst (λ (t : Session). is_placed t ≡ true) all g.placed;
      legal = subst (IsLegalFrom p m h) all g.legal;
      put = subst (AppendsPrefixWhereTold before now) (sym (lines-append w p g.items items)) (prefix_after before (lines_of w p items) put g.put);
    }

-- where the session goes on from these items, it goes on from those before them
onto : (w : Writing) (answer : ScriptRun) (p : Plan) (m : Mapping) (h : History) (orders : List Ordered) (to : Place) (s items : Session) (n : NodeState) (before between after : Option (List ℕ))
    → AppendsWhereTold before between (lines_of w p items) → GoesOn w answer p m h orders to (items ++ s) n between after → GoesOn w answer p m h orders to s n before after
onto w Finished p m h orders to s items n before between now put g = record {
  items = g.items ++ items;
  stands = subst (StandsIn p m h orders to n) (sym (append_assoc g.items items s)) g.stands;
  put = subst (AppendsWhereTold before now) (sym (lines-append w p g.items items)) (appends_both before between now (lines_of w p items) (lines_of w p g.items) put g.put);
}
onto w Failed p m h orders to s items n before between now put g = cut_onto w p m h orders s items before between now put g
onto w Memory p m h orders to s items n before between now put g = cut_onto w p m h orders s items before between now put g

-- what was done, and then more
pub carries_then : (w : Writing) (answer : ScriptRun) (first more : List Ordered) (from between to : Place) (a b c : NodeState) (before halfway after : Option (List ℕ))
    → Carries w Finished first from between a b before halfway → Carries w answer more between to b c halfway after → Carries w answer (first ++ more) from to a c before after
carries_then w answer first more from between to a b c before halfway now f g p m h orders s stands =
    let d = f p m h orders s stands in
    subst (λ os. GoesOn w answer p m h os to s c before now) (append_assoc orders first more)
    (onto w answer p m h ((orders ++ first) ++ more) to s d.items c before halfway now d.put (g p m h (orders ++ first) (d.items ++ s) d.stands))

left_more : (w : Writing) (p : Plan) (m : Mapping) (h : History) (orders more : List Ordered) (s : Session) (before after : Option (List ℕ)) → IsCut w p m h orders s before after → IsCut w p m h (orders ++ more) s before after
left_more w p m h orders more s before now c = record {
  items = c.items;
  left = c.left ++ more;
  did = sym (append_assoc (orders_of (c.items ++ s)) c.left more) ∙ ap (λ os. os ++ more) c.did;
  placed = c.placed;
  legal = c.legal;
  put = c.put;
}

-- what a fault cut off has left further orders too, wherever they would lead
pub cut_before : (w : Writing) (answer : ScriptRun) (first left : List Ordered) (from between to : Place) (a b : NodeState) (before after : Option (List ℕ)) → answer ≢ Finished
    → Carries w answer first from between a b before after → Carries w answer (first ++ left) from to a b before after
cut_before w Finished first left from between to a b before now cut f p m h orders s stands = absurd (cut refl)
cut_before w Failed first left from between to a b before now cut f p m h orders s stands =
    subst (λ os. IsCut w p m h os s before now) (append_assoc orders first left) (left_more w p m h (orders ++ first) left s before now (f p m h orders s stands))
cut_before w Memory first left from between to a b before now cut f p m h orders s stands =
    subst (λ os. IsCut w p m h os s before now) (append_assoc orders first left) (left_more w p m h (orders ++ first) left s before now (f p m h orders s stands))

-- entries of a round, and then the pass
pub lap_then : (w : Writing) (lap : Lap) (few count : ℕ) (a b c : NodeState) (before between after : Option (List ℕ))
    → Carries w Finished [] (inside few) (inside count) a b before between → CarriesLap w lap count b c between after → CarriesLap w lap few a c before after
lap_then w (Made more) few count a b c before between now f g = carries_then w Finished [] [] (inside few) (inside count) (inside more) a b c before between now f g
lap_then w (Ended answer) few count a b c before between now f g = carries_then w answer [] [] (inside few) (inside count) outside a b c before between now f g

-- ---- what closes a line

pub idle_closes : (w : Writing) (pass : List Stamped) (put : Put) (before after : Option (List ℕ)) → pass ≡ [] → ToldAfter put before after (behind w (closing_text idle)) → LapCloses w (Ended (came_of put)) pass after
idle_closes w pass putting.Done before now none told = subst (λ es. EndsWith w (word_after es) now) (sym none) (before, told)
idle_closes w pass putting.Failed before now none told = tt

-- a pass that has an entry
pub late_closes : (w : Writing) (lap : Lap) (pass : List Stamped) (told : Option (List ℕ)) → (length pass == 0) ≡ false → ((s : Stamped) (es : List Stamped) → LapCloses w lap (s ∷ es) told) → LapCloses w lap pass told
late_closes w lap [] told some closes = absurd (cc some)
late_closes w lap (s ∷ es) told some closes = closes s es

pub some_entries : (es : List Stamped) → (length es == 0) ≡ false → 0 < length es
some_entries [] some = absurd (cc some)
some_entries (e ∷ es) some = omega arith

-- so many, one, and the rest are all of them
pub all_of : {X : Type 0} → (x : X) (i count : ℕ) → i < count → replicate i x ++ (x ∷ [] ++ replicate (count - suc i) x) ≡ replicate count x
all_of x i count h = let e : i + suc (count - suc i) ≡ count = omega arith in replicate-append-replicate i (suc (count - suc i)) x ∙ ap (λ n. replicate n x) e

-- ---- the lines of a script

orders-append : (a b : List Line) → orders_of_script (a ++ b) ≡ orders_of_script a ++ orders_of_script b
orders-append [] b = refl
orders-append (l ∷ a) b = ap (λ os. orders_of_line l ++ os) (orders-append a b) ∙ sym (append_assoc (orders_of_line l) (orders_of_script a) (orders_of_script b))

-- the lines so far and one more
pub orders-next : (ls : List Line) (i : ℕ) (l : Line) → i < length ls → l ≡ get_or ls i l → orders_of_script (take i ls) ++ orders_of_line l ≡ orders_of_script (take (i + 1) ls)
orders-next ls i l h is = let one : take (i + 1) ls ≡ take i ls ++ l ∷ [] = take_more ls i l h ∙ ap (λ (m : Line). take i ls ++ m ∷ []) (sym is) in
    sym (ap orders_of_script one ∙ orders-append (take i ls) (l ∷ []) ∙ ap (λ os. orders_of_script (take i ls) ++ os) (append-nil (orders_of_line l)))

-- the lines so far, one more, and the rest are all of them
pub orders-whole : (ls : List Line) (i : ℕ) (l : Line) → i < length ls → l ≡ get_or ls i l
    → orders_of_script (take i ls) ++ (orders_of_line l ++ orders_of_script (drop (suc i) ls)) ≡ orders_of_script ls
orders-whole ls i l h is = let rest : drop i ls ≡ l ∷ drop (suc i) ls = drop-cons ls i l h ∙ ap (λ (m : Line). m ∷ drop (suc i) ls) (sym is) in
    sym (ap orders_of_script (sym (take-append-drop i ls) ∙ ap (λ (m : List Line). take i ls ++ m) rest) ∙ orders-append (take i ls) (l ∷ drop (suc i) ls))

-- ---- the whole script

-- a node that is lawful for a history stands after no session
begun : (n : NodeState) (h : History) → IsLawfulNode n h → StandsIn (plan_of n.plan) n.mapping h [] outside n []
begun n h lawful = record { did = refl; placed = refl; at = refl; sized = refl; legal = tt; plan = refl; mapping = refl; lawful = lawful }

-- the header and the lines are the spelling
spelled : (v : Version) (p : Plan) (s : Session) (w : Writing) → w.version ≡ v → w.prefix.now ≡ [] → header v ++ lines_of w p s ≡ spelling_of v p s
spelled v p [] w version plain = append-nil (header v)
spelled v p (i ∷ s) w version plain =
    sym (append_assoc (header v) (lines_of w p s) (behind w (item_text w.version p i)))
    ∙ ap (λ t. t ++ behind w (item_text w.version p i)) (spelled v p s w version plain)
    ∙ ap (λ t. spelling_of v p s ++ (t ++ item_text w.version p i)) plain
    ∙ ap (λ u. spelling_of v p s ++ item_text u p i) version

pub ends : (w : Writing) (answer : ScriptRun) (script : List Line) (old new : NodeState) (before after : Option (List ℕ))
    → Carries w answer (orders_of_script script) outside outside old new before after
    → QuietLaw → IsSound (plan_of old.plan) old.mapping
    → answer ≡ Finished → (h : History) → IsLawfulNode old h → PrintsLines w (plan_of old.plan) old.mapping h script new before after
ends w Finished script old new before now f quiet sound is h lawful =
    let p = plan_of old.plan in
    let d = f p old.mapping h [] [] (begun old h lawful) in
    let s = subst (StandsIn p old.mapping h (orders_of_script script) outside new) (append-nil d.items) d.stands in
    record {
      session = d.items;
      of_script = record { orders = s.did; placed = s.placed; closed = s.at };
      fit = items_fit p old.mapping h d.items s.legal s.sized;
      legal = s.legal;
      quiet = idles_are_quiet quiet p old.mapping sound h lawful.legal d.items s.legal;
      lawful = s.lawful;
      put = d.put;
    }
ends w Failed script old new before now f quiet sound is h lawful = absurd (cc)
ends w Memory script old new before now f quiet sound is h lawful = absurd (cc)

cut_off : (w : Writing) (p : Plan) (m : Mapping) (h : History) (script : List Line) (before now : Option (List ℕ))
    → IsCut w p m h (orders_of_script script) [] before now → PrintsFirstLines w p m h script before now
cut_off w p m h script before now c = record {
  session = c.items;
  of_script = record {
    left = c.left;
    orders = subst (λ (t : Session). orders_of t ++ c.left ≡ orders_of_script script) (append-nil c.items) c.did;
    placed = subst (λ (t : Session). is_placed t ≡ true) (append-nil c.items) c.placed;
  };
  legal = subst (IsLegalFrom p m h) (append-nil c.items) c.legal;
  put = c.put;
}

pub is_cut : (w : Writing) (answer : ScriptRun) (script : List Line) (old new : NodeState) (before after : Option (List ℕ))
    → Carries w answer (orders_of_script script) outside outside old new before after
    → answer ≢ Finished → (h : History) → IsLawfulNode old h → PrintsFirstLines w (plan_of old.plan) old.mapping h script before after
is_cut w Finished script old new before now f cut h lawful = absurd (cut refl)
is_cut w Failed script old new before now f cut h lawful = cut_off w (plan_of old.plan) old.mapping h script before now (f (plan_of old.plan) old.mapping h [] [] (begun old h lawful))
is_cut w Memory script old new before now f cut h lawful = cut_off w (plan_of old.plan) old.mapping h script before now (f (plan_of old.plan) old.mapping h [] [] (begun old h lawful))

-- ---- behind the header

pub prints : (v : Version) (w : Writing) (p : Plan) (m : Mapping) (h : History) (script : List Line) (now : NodeState) (before between after : Option (List ℕ))
    → w.version ≡ v → w.prefix.now ≡ [] → AppendsWhereTold before between (header v)
    → PrintsLines w p m h script now between after → PrintsRun v p m h script now before after
prints v w p m h script node before between now version plain told c = record {
  session = c.session;
  bytes = spelling_of v p c.session;
  of_script = c.of_script;
  fit = c.fit;
  legal = c.legal;
  quiet = c.quiet;
  lawful = c.lawful;
  spelled = refl;
  put = subst (AppendsWhereTold before now) (spelled v p c.session w version plain) (appends_both before between now (header v) (lines_of w p c.session) told c.put);
}

pub prints_first : (v : Version) (w : Writing) (p : Plan) (m : Mapping) (h : History) (script : List Line) (before between after : Option (List ℕ))
    → w.version ≡ v → w.prefix.now ≡ [] → AppendsWhereTold before between (header v)
    → PrintsFirstLines w p m h script between after → PrintsBeginning v p m h script before after
prints_first v w p m h script before between now version plain told c = record {
  session = c.session;
  bytes = spelling_of v p c.session;
  of_script = c.of_script;
  legal = c.legal;
  spelled = refl;
  put = subst (AppendsPrefixWhereTold before now) (spelled v p c.session w version plain) (prefix_after before (header v) told c.put);
}

-- ---- no history

pub run_from_nothing : (p : Plan) (m : Mapping) (s : Session) → IsLegalFrom p m [] s → IsLegalRun p m s
run_from_nothing p m [] legal = tt
run_from_nothing p m (made e ∷ s) legal = (run_from_nothing p m s legal.0, subst (λ g. MayFollow p g e) (append-nil (history_of s)) legal.1)
run_from_nothing p m (run_begins ∷ s) legal = run_from_nothing p m s legal
run_from_nothing p m (run_closes idle ∷ s) legal = (run_from_nothing p m s legal.0, legal.1, subst (IsIdle p m) (append-nil (history_of s)) legal.2)
run_from_nothing p m (run_closes unsettled ∷ s) legal = (run_from_nothing p m s legal.0, legal.1, legal.2)
