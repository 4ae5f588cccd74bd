-- What is kept of calls looks only at the entries that touch the server.
use Rattle.std.proofs.Common.{◌≡◌, ℕ, zero, suc, ◌+◌, ℤ, Bool, true, false, ◌&&◌, ◌||◌, not, ◌==◌, if◌then◌else◌, refl, sym, ◌∙◌, ap, subst, List, [], ◌∷◌, ◌++◌, length, Option, Some, None}
use Rattle.std.specs.Prelude.{filter, nat_lt, nat_le}
use Rattle.bus_semantics.specs.Common.{list_all, slice_get, and_parts, eqb-true, false≢true, same_Some, ActKey, words_of, same_number, Plan, server_of, queue_of, kind_of, runnable_of_event}
use Rattle.bus_semantics.specs.Common.{wanted_by, Past, Noted, needs_event, first_server, server_object, object_of_kind, touches, start_fits, answer_fits, activation_fits, wish_fits, fits}
use Rattle.bus_semantics.specs.Common.{is_request_at, takes_reply_at, is_outstanding, counts_with, requests_of, is_start_of, starts_of, is_queue_full, ask_code, next_request, has_unstarted}
use Rattle.bus_semantics.specs.Common.{starts_its_own, is_proper}
use Rattle.bus_laws.specs.Common.{EventKind, Invoked, Actor, Act, Deed}
use Rattle.bus_semantics.specs.declared.entries.Deed.TheVariants as deed
use Rattle.bus_laws.proofs.Thinning.{noting, differs, if_false, option_same, option_test, thin, count_thin}

-- ---- proper starts

-- a start that names a point is by the event of the point's server
pub record ByServer (p : Plan) (k : EventKind) (q : ℕ) : Type 0 where
  pub server : ℕ
  pub kind : k ≡ Invoked server
  pub joined : server_of p q ≡ Some server

by_server : (p : Plan) (k : EventKind) (q : ℕ) (ws : List ℤ) → start_fits p k (Some q) ws ≡ true → ByServer p k q
by_server p (Invoked s) q ws e = record { server = s; kind = refl; joined = option_same (server_of p q) (Some s) e }
by_server p k q ws e = absurd (false≢true e)

pub answer_part : (p : Plan) (n : Noted) → is_proper p n ≡ true → answer_fits p n.entry.actor n.entry.deed ≡ true
answer_part p n o =
    let wish = (if needs_event n.entry.deed then activation_fits p n.entry.actor else wish_fits p n.entry.actor (wanted_by 0 n.entry.deed)) in
    (and_parts wish (answer_fits p n.entry.actor n.entry.deed) (and_parts (fits p n.entry) (starts_its_own p n.entry.actor n.entry.deed) o).0).1

pub start_named : (p : Plan) (a : Actor) (e q : ℕ) (value : _) (event : Option ℕ) → is_proper p (noting a (deed.Start e (Some q) value) event) ≡ true → ByServer p (kind_of p e) q
start_named p a e q value event o = by_server p (kind_of p e) q (words_of value) (answer_part p (noting a (deed.Start e (Some q) value) event) o)

own_part : (p : Plan) (n : Noted) → is_proper p n ≡ true → starts_its_own p n.entry.actor n.entry.deed ≡ true
own_part p n o = (and_parts (fits p n.entry) (starts_its_own p n.entry.actor n.entry.deed) o).1

-- an activation's start is by an event of its runnable
pub start_owned : (p : Plan) (k : ActKey) (e : ℕ) (point : Option ℕ) (value : _) (event : Option ℕ) → is_proper p (noting (Act k) (deed.Start e point value) event) ≡ true → runnable_of_event p e ≡ Some k.runnable
start_owned p k e point value event o = option_same (runnable_of_event p e) (Some k.runnable) (own_part p (noting (Act k) (deed.Start e point value) event) o)

-- ---- the points of a server

module _ (p : Plan) (s : ℕ) where
  pub at_server : (q : ℕ) → server_of p q ≡ Some s → same_number (server_object p (server_of p q)) (Some (first_server p + s)) ≡ true
  at_server q joined = option_test (server_object p (server_of p q)) (Some (first_server p + s)) (ap (server_object p) joined)

  pub by_invoked : (e : ℕ) → kind_of p e ≡ Invoked s → same_number (object_of_kind p (kind_of p e)) (Some (first_server p + s)) ≡ true
  by_invoked e kind = option_test (object_of_kind p (kind_of p e)) (Some (first_server p + s)) (ap (object_of_kind p) kind)

  -- requests and starts that count, of points of this server
  module _ (counts : ℕ → Bool) (ours : (q : ℕ) → counts q ≡ true → server_of p q ≡ Some s) where
    requests_more : (d : Deed) (a : Actor) (event : Option ℕ) (l h : Past) → requests_of counts l ≡ requests_of counts h → requests_of counts (noting a d event ∷ l) ≡ requests_of counts (noting a d event ∷ h)
    requests_more (deed.Ask q value zero) a event l h same = ap (λ rs. if counts q then rs ++ (q, words_of value) ∷ [] else rs) same
    requests_more (deed.Ask q value (suc code)) a event l h same = same
    requests_more d a event l h same = same

    requests_quiet : (d : Deed) (a : Actor) (event : Option ℕ) (h : Past) → touches p (first_server p + s) (noting a d event) ≡ false → requests_of counts (noting a d event ∷ h) ≡ requests_of counts h
    requests_quiet (deed.Ask q value zero) a event h off =
        if_false (counts q) (requests_of counts h ++ (q, words_of value) ∷ []) (requests_of counts h)
        (differs (same_number (server_object p (server_of p q)) (Some (first_server p + s))) (counts q) (λ c. at_server q (ours q c)) off)
    requests_quiet (deed.Ask q value (suc code)) a event h off = refl
    requests_quiet d a event h off = refl

    pub requests_thin : (h : Past) → list_all (is_proper p) h ≡ true → requests_of counts (filter (touches p (first_server p + s)) h) ≡ requests_of counts h
    requests_thin = thin (touches p (first_server p + s)) (is_proper p) (requests_of counts)
        (λ n h o fine same. requests_more n.entry.deed n.entry.actor n.event (filter (touches p (first_server p + s)) h) h same)
        (λ n h o fine off. requests_quiet n.entry.deed n.entry.actor n.event h off)

    start_quiet : (d : Deed) (a : Actor) (event : Option ℕ) → is_proper p (noting a d event) ≡ true → touches p (first_server p + s) (noting a d event) ≡ false → is_start_of counts d ≡ false
    start_quiet (deed.Start e (Some q) value) a event o off =
        differs (same_number (object_of_kind p (kind_of p e)) (Some (first_server p + s))) (counts q) (λ c.
        let by = start_named p a e q value event o in
        by_invoked e (by.kind ∙ ap Invoked (same_Some by.server s (sym by.joined ∙ ours q c)))) off
    start_quiet (deed.Start e None value) a event o off = refl
    start_quiet d a event o off = refl

    pub starts_thin : (h : Past) → list_all (is_proper p) h ≡ true → starts_of counts (filter (touches p (first_server p + s)) h) ≡ starts_of counts h
    starts_thin = count_thin (touches p (first_server p + s)) (is_proper p) (λ n. is_start_of counts n.entry.deed) (λ n o off. start_quiet n.entry.deed n.entry.actor n.event o off)

    pub unstarted_thin : (h : Past) → list_all (is_proper p) h ≡ true → has_unstarted counts (filter (touches p (first_server p + s)) h) ≡ has_unstarted counts h
    unstarted_thin h fine = λ i. nat_lt (starts_thin h fine i) (length (requests_thin h fine i))

  -- ---- one point

  module _ (q : ℕ) (joined : server_of p q ≡ Some s) where
    same_point : (r : ℕ) → (q == r) ≡ true → same_number (server_object p (server_of p r)) (Some (first_server p + s)) ≡ true
    same_point r same = at_server r (subst (λ z. server_of p z ≡ Some s) (eqb-true q r same) joined)

    pub request_quiet : (d : Deed) (a : Actor) (event : Option ℕ) → touches p (first_server p + s) (noting a d event) ≡ false → is_request_at q d ≡ false
    request_quiet (deed.Ask r value zero) a event off = differs (same_number (server_object p (server_of p r)) (Some (first_server p + s))) (q == r) (same_point r) off
    request_quiet (deed.Ask r value (suc code)) a event off = refl
    request_quiet d a event off = refl

    reply_quiet : (d : Deed) (a : Actor) (event : Option ℕ) → touches p (first_server p + s) (noting a d event) ≡ false → takes_reply_at q d ≡ false
    reply_quiet (deed.Answer r code value) a event off = differs (same_number (server_object p (server_of p r)) (Some (first_server p + s))) (q == r) (same_point r) off
    reply_quiet (deed.TakeResult r code value) a event off = ap (λ b. b && nat_lt code 64) (differs (same_number (server_object p (server_of p r)) (Some (first_server p + s))) (q == r) (same_point r) off)
    reply_quiet d a event off = refl

    pub outstanding_thin : (h : Past) → list_all (is_proper p) h ≡ true → is_outstanding q (filter (touches p (first_server p + s)) h) ≡ is_outstanding q h
    outstanding_thin = thin (touches p (first_server p + s)) (is_proper p) (is_outstanding q)
        (λ n h o fine same. ap (λ b. is_request_at q n.entry.deed || (not (takes_reply_at q n.entry.deed) && b)) same)
        (λ n h o fine off. λ i. request_quiet n.entry.deed n.entry.actor n.event off i || (not (reply_quiet n.entry.deed n.entry.actor n.event off i) && is_outstanding q h))

    -- which points count with this one
    counted : (t : Option ℕ) → queue_of p s ≡ t → (r : ℕ) → counts_with p q r ≡ true → server_of p r ≡ Some s
    counted None is r c = let same : (q == r) ≡ true = rw (joined, is) at c in subst (λ z. server_of p z ≡ Some s) (eqb-true q r same) joined
    counted (Some most) is r c = let same : same_number (server_of p r) (Some s) ≡ true = rw (joined, is) at c in option_same (server_of p r) (Some s) same

    counts_ours : (r : ℕ) → counts_with p q r ≡ true → server_of p r ≡ Some s
    counts_ours = counted (queue_of p s) refl

    full_thin : (h : Past) → list_all (is_proper p) h ≡ true → is_queue_full p q s (filter (touches p (first_server p + s)) h) ≡ is_queue_full p q s h
    full_thin h fine = by_queue (queue_of p s) refl
      where
        by_queue : (t : Option ℕ) → queue_of p s ≡ t → is_queue_full p q s (filter (touches p (first_server p + s)) h) ≡ is_queue_full p q s h
        by_queue None is = rw is refl
        by_queue (Some most) is = rw is (λ i. nat_le (starts_thin (counts_with p q) counts_ours h fine i + most) (length (requests_thin (counts_with p q) counts_ours h fine i)))

    pub next_thin : (h : Past) → list_all (is_proper p) h ≡ true → next_request p q (filter (touches p (first_server p + s)) h) ≡ next_request p q h
    next_thin h fine = λ i. slice_get (requests_thin (counts_with p q) counts_ours h fine i) (starts_thin (counts_with p q) counts_ours h fine i)

    pub ask_thin : (h : Past) → list_all (is_proper p) h ≡ true → ask_code p q (filter (touches p (first_server p + s)) h) ≡ ask_code p q h
    ask_thin h fine = rw joined (λ i. if outstanding_thin h fine i || full_thin h fine i then 130 else 0)
