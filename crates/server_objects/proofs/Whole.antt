-- What the code of a server needs, and what its calls made, in the words of contracts.
use Rattle.std.proofs.Common.{◌≡◌, ◌<◌, ◌≤◌, ℕ, zero, suc, Bool, true, false, ◌==◌, if◌then◌else◌, refl, sym, ◌∙◌, ap, subst, arith, List, [], ◌∷◌, ◌++◌, length, get_or, set, take, Option, Some, None}
use Rattle.std.specs.Prelude.{All, IfSome, Vec, map, option_and_then, slice_index_or, unwrap_or}
use Rattle.bus_semantics.specs.Common.{Global, option_map_or, eq-eqb, slice_get-get_or, Plan, kind_of, server_of, slice_get, get_or-set_same, Value, same_number}
use Rattle.std.proofs.lemmas.List.Elements.{All-map}
use Rattle.bus_semantics.specs.declared.plan.EventKind.{EventKind}
use Rattle.bus_semantics.specs.declared.plan.EventKind.TheVariants.{Invoked}
use Rattle.object_kinds.specs.Common.{listed_at, given, events_of, place, is_rising}
use Rattle.object_kinds.proofs.Events.{events_all}
use Rattle.server_objects.specs.Layout.{points_of, returns_for, point_in, awaited_by, event_in}
use Rattle.server_objects.specs.Plans.{AreJoined}
use Rattle.server_objects.proofs.Facts.{same_option}
use Rattle.server_objects.proofs.Next.{returning, point_placed}
use Rattle.bus_semantics.specs.declared.entries.Deed.TheVariants as deed
use Rattle.client_server.specs.declared.point.Point.{Point}
use Rattle.client_server.specs.declared.point.Stage.TheVariants.{Returned}
use Rattle.client_server.specs.Kept as calls
use Rattle.client_server.specs.Points.{is_started, new_point}
use Rattle.object_kinds.proofs.Placing.{place_none, place_within}
use Rattle.server_objects.specs.Acting.{Tells, IsAskedAt, ReturnLeads}
use Rattle.server_objects.specs.Kept.{Kept, ServerState, awaiting, awaited_at, has_next, told_where}
use Rattle.server_objects.specs.Leading.{with_served}
use Rattle.server_objects.proofs.Telling.{ask_tells, return_tells}

pub place_inside : (o : Option ℕ) (x : ℕ) (xs : List ℕ) (n : ℕ) → o ≡ place x xs → n ≡ length xs → IfSome o (λ i. i < n)
place_inside None x xs n is long = tt
place_inside (Some i) x xs n is long = let within : i < length xs = place_within x xs i (sym is) in omega arith

pub awaited_found : (k : Kept) (event j i : ℕ) → place event k.returns ≡ Some j → slice_get k.awaited j ≡ Some i → awaited_at k event ≡ Some i
awaited_found k event j i there at = ap (option_and_then (λ n. slice_get k.awaited n)) there ∙ at

-- the events that were told first are at most one
pub few_told : (before now : Bool) (event : ℕ) (woken : List ℕ) → woken ≡ told_where before now (event ∷ []) → length woken ≤ 1
few_told false true event woken is = let long : length woken ≡ 1 = ap length is in omega arith
few_told false false event woken is = let long : length woken ≡ 0 = ap length is in omega arith
few_told true now event woken is = let long : length woken ≡ 0 = ap length is in omega arith

pub few_awaiting : (es awaited : List ℕ) (i : ℕ) → length (awaiting es awaited i) ≤ length es
few_awaiting [] awaited i = omega arith
few_awaiting (e ∷ es) [] i = omega arith
few_awaiting (e ∷ es) (j ∷ awaited) i = by_test (j == i) (few_awaiting es awaited i)
  where
    by_test : (b : Bool) → length (awaiting es awaited i) ≤ length es → length (if b then e ∷ awaiting es awaited i else awaiting es awaited i) ≤ length (e ∷ es)
    by_test true rest = omega arith
    by_test false rest = omega arith

pub asked : (old new : ServerState) (i code : ℕ) (value : Value) (c : calls.Kept) → place old.kept.event old.kept.returns ≡ None → is_rising old.kept.returns ≡ true → code ≡ calls.answer_to_ask i old.kept.served → c ≡ calls.after_ask i value old.kept.served
    → new.kept ≡ with_served old.kept c → new.woken ≡ told_where (has_next old.kept.served) (has_next c) (old.kept.event ∷ []) → new.heard ≡ old.heard → IsAskedAt value old new i code
asked old new i code value c apart up code_is is kept told heard = record {
  heard = heard;
  code_is = code_is;
  kept = whole;
  told = λ q. subst (λ k. Tells old (record { kept = k; woken = new.woken; heard = new.heard }) (deed.Ask q value code)) (sym whole)
      (ask_tells old.kept i value old.woken new.woken old.heard new.heard apart up (told ∙ ap (λ z. told_where (has_next old.kept.served) (has_next z) (old.kept.event ∷ [])) is) q code);
}
  where
    whole : new.kept ≡ with_served old.kept (calls.after_ask i value old.kept.served)
    whole = kept ∙ ap (with_served old.kept) is

pub returned : (old new : ServerState) (i code : ℕ) (value : Value) (c : calls.Kept) → place old.kept.event old.kept.returns ≡ None → is_rising old.kept.returns ≡ true → i < length old.kept.served.points
    → is_started (calls.point_at i old.kept.served).stage ≡ true → c ≡ calls.after_reply i (record { code = code; value = value }) old.kept.served → new.kept ≡ with_served old.kept c
    → new.woken ≡ told_where (has_next old.kept.served) (has_next c) (old.kept.event ∷ []) ++ told_where (calls.point_at i old.kept.served).due true (awaiting old.kept.returns old.kept.awaited i) → new.heard ≡ slice_get old.kept.points i → ReturnLeads code value old new i
returned old new i code value c apart up within started is kept told heard = record {
  heard = heard;
  leads = ap (λ b. given b (calls.after_reply i (record { code = code; value = value }) old.kept.served)) started ∙ ap (λ z. Some z) (sym is ∙ ap (λ (k : Kept). k.served) (sym kept));
  kept = kept ∙ ap (λ (k : Kept). with_served old.kept k.served) (sym kept);
  told = subst (λ k. Tells old (record { kept = k; woken = new.woken; heard = new.heard }) (deed.Return code value)) (sym kept)
      (return_tells old.kept i code value old.woken new.woken old.heard new.heard apart up c points (told ∙ ap (λ b. told_where (has_next old.kept.served) (has_next c) (old.kept.event ∷ []) ++ told_where (calls.point_at i old.kept.served).due b (awaiting old.kept.returns old.kept.awaited i)) (sym due)));
}
  where
    x : Point
    x = record { stage = Returned (record { code = code; value = value }); due = true }

    made : calls.after_reply i (record { code = code; value = value }) old.kept.served ≡ record {
      queue = old.kept.served.queue;
      waiting = old.kept.served.waiting;
      serving = if same_number old.kept.served.serving (Some i) then None else old.kept.served.serving;
      points = set old.kept.served.points i (record { stage = Returned (record { code = code; value = value }); due = true });
    }
    made = rw started refl

    points : c.points ≡ set old.kept.served.points i (record { stage = Returned (record { code = code; value = value }); due = true })
    points = ap (λ (z : calls.Kept). z.points) (is ∙ made)

    due : (calls.point_at i c).due ≡ true
    due = ap (λ (ts : List Point). (get_or ts i new_point).due) points ∙ ap (λ (t : Point). t.due) (get_or-set_same old.kept.served.points i x new_point within)

-- what the list of a place is, where code took it by its index
pub listed_there : (lists : List (Vec ℕ Global)) (i : ℕ) (v : Vec ℕ Global) → i < length lists → v ≡ get_or lists i v → v.items ≡ listed_at lists i
listed_there lists i v within is = sym (ap (λ o. option_map_or (λ (x : Vec ℕ Global). x.items) o []) (slice_get-get_or lists i v within ∙ ap (λ x. Some x) (sym is)))

-- a return event waits for a point of a server of the plan
pub awaited_inside : (p : Plan) (k : EventKind) (o : Option ℕ) (s : ℕ) → ((t : ℕ) → returns_for p t k ≡ same_number o (Some t)) → AreJoined p → o ≡ Some s → s < length p.servers
awaited_inside p k o s waits joined is =
    let of = returning p s k (waits s ∙ ap (λ x. same_number x (Some s)) is ∙ eq-eqb s s refl) in
    joined.within of.point s (same_option (server_of p of.point) (Some s) of.joined)

-- ---- making

pub awaiting_more : (es awaited : List ℕ) (n : ℕ) → n < length es → n < length awaited → (i : ℕ)
    → awaiting (take (suc n) es) (take (suc n) awaited) i ≡ (if get_or awaited n 0 == i then awaiting (take n es) (take n awaited) i ++ get_or es n 0 ∷ [] else awaiting (take n es) (take n awaited) i)
awaiting_more [] awaited n less within i = absurd (omega arith)
awaiting_more (x ∷ es) [] n less within i = absurd (omega arith)
awaiting_more (x ∷ es) (y ∷ awaited) zero less within i = refl
awaiting_more (x ∷ es) (y ∷ awaited) (suc n) less within i =
    ap (λ zs. if y == i then x ∷ zs else zs) (awaiting_more es awaited n (omega arith) (omega arith) i) ∙ pick (y == i) (get_or awaited n 0 == i) (awaiting (take n es) (take n awaited) i)
  where
    pick : (b d : Bool) (more : List ℕ) → (if b then x ∷ (if d then more ++ get_or es n 0 ∷ [] else more) else (if d then more ++ get_or es n 0 ∷ [] else more)) ≡ (if d then (if b then x ∷ more else more) ++ get_or es n 0 ∷ [] else (if b then x ∷ more else more))
    pick true true more = refl
    pick true false more = refl
    pick false true more = refl
    pick false false more = refl

-- the places of the points of all return events
pub all_inside : (p : Plan) (s count : ℕ) (es : List ℕ) → length (points_of p s) ≡ count → All (λ e. returns_for p s (kind_of p e) ≡ true) es → All (λ i. i < count) (map (awaited_by p s) es)
all_inside p s count es long all = All-map (λ i. i < count) (awaited_by p s) es (λ k d within. subst (λ n. awaited_by p s (slice_index_or es k d) < n) long (inside (slice_index_or es k d) (all k d within)))
  where
    inside : (e : ℕ) → returns_for p s (kind_of p e) ≡ true → awaited_by p s e < length (points_of p s)
    inside e waits =
        let of = returning p s (kind_of p e) waits in
        let there = point_placed p of.point s of.joined in
        let same : awaited_by p s e ≡ there.at = ap (λ c. unwrap_or (place (point_in c) (points_of p s)) 0) of.kind ∙ ap (λ o. unwrap_or o 0) there.is in
        subst (λ n. n < length (points_of p s)) (sym same) (place_within of.point (points_of p s) there.at there.is)

-- the server's event is none of the return events
pub no_return_event : (p : Plan) (s : ℕ) → kind_of p (event_in p s) ≡ Invoked s → place (event_in p s) (events_of p (returns_for p s)) ≡ None
no_return_event p s kind = place_none (λ e. returns_for p s (kind_of p e)) (events_of p (returns_for p s)) (event_in p s) (events_all p (returns_for p s)) (ap (returns_for p s) kind)
