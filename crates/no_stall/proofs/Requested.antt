-- A server's start that is due, of a key that does not run, may follow.
use Rattle.std.proofs.Common.{◌≡◌, ℕ, ℤ, Bool, true, false, ◌==◌, refl, sym, ◌∙◌, ap, subst, List, is_none, Some, None}
use Rattle.bus_semantics.specs.Common.{slice_get, and_from, eqb-true, eq-eqb, ActKey, words_of, same_words, same_number, Plan, server_of, queue_of, kind_of, to_start, History, runs, noted}
use Rattle.bus_semantics.specs.Common.{key_fits, start_fits, counts_with, requests_of, starts_of, next_request, is_request, starts_request, has_unstarted, is_due, caller_has_asked}
use Rattle.bus_semantics.specs.Common.{plain_key, IsStuck, IsSound}
use Rattle.bus_laws.specs.Common.{ServerPlan, Mapping, Act}
use Rattle.bus_laws.proofs.Thinning.{option_same, option_test, same_list}
use Rattle.history_laws.proofs.Requests.{Made, request_made, Unstarted, unstarted}
use Rattle.no_stall.proofs.Keys.{Served, served, queue_at, directly, plain_fits, IsDirect, direct_fits}
use Rattle.no_stall.proofs.Starting.{start_follows}

module _ (p : Plan) (m : Mapping) (sound : IsSound p m) (h : History) where
  -- ---- a server with a queue

  module _ (s : ℕ) (v : ServerPlan) (most : ℕ) (there : slice_get p.servers s ≡ Some v) (queue : v.queue ≡ Some most) where
    of_server : Served p s v
    of_server = served p m sound s v there

    queued : queue_of p s ≡ Some most
    queued = queue_at p m sound s v there ∙ queue

    abbrev joined : ℕ → Bool
    joined q = same_number (server_of p q) (Some s)

    counts : (q : ℕ) → server_of p q ≡ Some s → counts_with p q ≡ joined
    counts q is = λ i. λ r. each r i
      where
        each : (r : ℕ) → counts_with p q r ≡ same_number (server_of p r) (Some s)
        each r = rw (is, queued) refl

    pub queued_starts : runs (plain_key v.runnable) h ≡ false → has_unstarted joined (noted h) ≡ true → IsStuck p h (Act (plain_key v.runnable), to_start v.event) → ⊥
    queued_starts off more stuck = start_follows p h (plain_key v.runnable) v.event (Some request.0) made.value fit of_server.runs off refl start_fit named due stuck
      where
        first : Unstarted joined (noted h)
        first = unstarted joined (noted h) more

        request : ℕ × List ℤ
        request = (first.request.0, first.request.1)

        made : Made joined first.request
        made = request_made joined (noted h) (starts_of joined (noted h)) first.request first.is

        at_server : server_of p first.request.0 ≡ Some s
        at_server = option_same (server_of p first.request.0) (Some s) made.passes

        fit : key_fits p (plain_key v.runnable) ≡ true
        fit = plain_fits p m sound v.runnable of_server.exists (directly p m sound v.runnable s None of_server.back ∙ ap is_none queued)

        start_fit : start_fits p (kind_of p v.event) (Some first.request.0) (words_of made.value) ≡ true
        start_fit = rw of_server.kind made.passes

        next : next_request p first.request.0 (noted h) ≡ Some first.request
        next = ap (λ (f : ℕ → Bool). slice_get (requests_of f (noted h)) (starts_of f (noted h))) (counts first.request.0 at_server) ∙ first.is

        named : starts_request p (Act (plain_key v.runnable)) (Some first.request.0) (words_of made.value) (noted h) ≡ true
        named = ap (is_request first.request.0 (words_of made.value)) next
            ∙ and_from (first.request.0 == first.request.0) (same_words first.request.1 (words_of made.value)) (eq-eqb first.request.0 first.request.0 refl) (same_list first.request.1 (words_of made.value) (sym made.words))

        due : is_due p (Act (plain_key v.runnable)) v.event (noted h) ≡ true
        due = rw of_server.kind more

  -- ---- a direct server

  module _ (q : ℕ) (d : ActKey) (of : IsDirect p q d) where
    abbrev here : ℕ → Bool
    here r = q == r

    abbrev key : ActKey
    key = record { runnable = of.plan.runnable; point = Some q }

    serves : Served p of.server of.plan
    serves = served p m sound of.server of.plan of.found

    direct_counts : counts_with p q ≡ here
    direct_counts = λ i. λ r. each r i
      where
        no_queue : queue_of p of.server ≡ None
        no_queue = queue_at p m sound of.server of.plan of.found ∙ of.queue

        at : server_of p q ≡ Some of.server
        at = of.joined

        each : (r : ℕ) → counts_with p q r ≡ (q == r)
        each r = rw (at, no_queue) refl

    pub direct_starts : runs d h ≡ false → has_unstarted here (noted h) ≡ true → caller_has_asked p h d ≡ true → IsStuck p h (Act d, to_start of.plan.event) → ⊥
    direct_starts off more asked stuck = start_follows p h key of.plan.event (Some q) made.value fit serves.runs off_key asked_key start_fit named due stuck_key
      where
        first : Unstarted here (noted h)
        first = unstarted here (noted h) more

        made : Made here first.request
        made = request_made here (noted h) (starts_of here (noted h)) first.request first.is

        fit : key_fits p key ≡ true
        fit = subst (λ (k : ActKey). key_fits p k ≡ true) (sym of.is) (direct_fits p m sound q d of)

        off_key : runs key h ≡ false
        off_key = subst (λ (k : ActKey). runs k h ≡ false) (sym of.is) off

        asked_key : caller_has_asked p h key ≡ true
        asked_key = subst (λ (k : ActKey). caller_has_asked p h k ≡ true) (sym of.is) asked

        stuck_key : IsStuck p h (Act key, to_start of.plan.event)
        stuck_key = subst (λ (k : ActKey). IsStuck p h (Act k, to_start of.plan.event)) (sym of.is) stuck

        start_fit : start_fits p (kind_of p of.plan.event) (Some q) (words_of made.value) ≡ true
        start_fit = let kind = serves.kind in rw kind (option_test (server_of p q) (Some of.server) of.joined)

        next : next_request p q (noted h) ≡ Some first.request
        next = ap (λ (f : ℕ → Bool). slice_get (requests_of f (noted h)) (starts_of f (noted h))) direct_counts ∙ first.is

        named : starts_request p (Act key) (Some q) (words_of made.value) (noted h) ≡ true
        named = and_from (q == q) (is_request q (words_of made.value) (next_request p q (noted h))) (eq-eqb q q refl)
            (ap (is_request q (words_of made.value)) next
            ∙ and_from (first.request.0 == q) (same_words first.request.1 (words_of made.value)) (eq-eqb first.request.0 q (sym (eqb-true q first.request.0 made.passes))) (same_list first.request.1 (words_of made.value) (sym made.words)))

        due : is_due p (Act key) of.plan.event (noted h) ≡ true
        due = let kind = serves.kind in rw kind more
