-- What was returned looks only at the entries that touch the server; and what calls are answered.
use Rattle.std.proofs.Common.{◌≡◌, ℕ, ◌+◌, ℤ, Bool, true, false, if◌then◌else◌, refl, sym, ◌∙◌, ap, subst, List, [], ◌∷◌, Option, Some, None}
use Rattle.bus_semantics.specs.Common.{and_parts, eqb-true, same_Some, list_all, option_or, ActKey, words_of, same_number, same_key, same_key-Decides, Plan, server_of, kind_of, Past, Noted}
use Rattle.bus_semantics.specs.Common.{made_by, first_server, server_object, object_of_kind, served_by, touches, is_request_at, serves, returned_by, returned_to, answer_to, result_of}
use Rattle.bus_semantics.specs.Common.{IsSound, is_proper}
use Rattle.std.specs.Prelude.{filter}
use Rattle.bus_laws.specs.Common.{Invoked, Mapping, Actor, Env, Machine, Act, Deed}
use Rattle.bus_semantics.specs.declared.entries.Deed.TheVariants as deed
use Rattle.bus_laws.proofs.Thinning.{noting, differs, if_false, if_same, option_same, option_test, thin, fine_thin}
use Rattle.bus_laws.proofs.OneEvent.{invoked_serves, serves_invoked}
use Rattle.bus_laws.proofs.LocalServers.{start_named, start_owned, by_invoked, request_quiet, outstanding_thin}

pub key_same : (k j : ActKey) → same_key k j ≡ true → k ≡ j
key_same k j = (same_key-Decides k j).0

pub all_false : (b c : Bool) → (if b then false else if c then false else false) ≡ false
all_false true c = refl
all_false false true = refl
all_false false false = refl

-- an activation serves a point only where its runnable serves the point's server
module _ (p : Plan) (m : Mapping) (sound : IsSound p m) (s q : ℕ) (joined : server_of p q ≡ Some s) (k : ActKey) where
  -- a start by it that names the point
  names_point : (e : ℕ) (point : Option ℕ) (value : _) (event : Option ℕ) → is_proper p (noting (Act k) (deed.Start e point value) event) ≡ true → same_number point (Some q) ≡ true → served_by p (Act k) ≡ Some s
  names_point e None value event o named = absurd (cc named)
  names_point e (Some r) value event o named =
      let by = start_named p (Act k) e r value event o in
      let same : by.server ≡ s = same_Some by.server s (sym by.joined ∙ subst (λ z. server_of p z ≡ Some s) (sym (eqb-true r q named)) joined) in
      invoked_serves p m sound e s k.runnable (by.kind ∙ ap Invoked same) (start_owned p k e (Some r) value event o)

  module _ (away : same_number (served_by p (Act k)) (Some s) ≡ false) where
    unserved_start : (j : ActKey) (e : ℕ) (point : Option ℕ) (value : _) (event : Option ℕ) → is_proper p (noting (Act j) (deed.Start e point value) event) ≡ true
        → (if same_key k j then same_number point (Some q) else false) ≡ false
    unserved_start j e point value event o = by_key (same_key k j) refl
      where
        by_key : (b : Bool) → same_key k j ≡ b → (if b then same_number point (Some q) else false) ≡ false
        by_key false t = refl
        by_key true t = differs (same_number (served_by p (Act k)) (Some s)) (same_number point (Some q))
            (λ named. option_test (served_by p (Act k)) (Some s)
            (names_point e point value event (subst (λ i. is_proper p (noting (Act i) (deed.Start e point value) event) ≡ true) (sym (key_same k j t)) o) named)) away

    unserved_entry : (a : Actor) (d : Deed) (event : Option ℕ) (h : Past) → is_proper p (noting a d event) ≡ true → serves q k h ≡ false → serves q k (noting a d event ∷ h) ≡ false
    unserved_entry (Act j) (deed.Start e point value) event h o before = rw before (unserved_start j e point value event o)
    unserved_entry Env (deed.Start e point value) event h o before = before
    unserved_entry (Machine n) (deed.Start e point value) event h o before = before
    unserved_entry a d event h o before = rw before (all_false (is_request_at q d) (made_by k a))

    unserved : (h : Past) → list_all (is_proper p) h ≡ true → serves q k h ≡ false
    unserved [] fine = refl
    unserved (n ∷ h) fine = let parts = and_parts (is_proper p n) (list_all (is_proper p) h) fine in
        unserved_entry n.entry.actor n.entry.deed n.event h parts.0 (unserved h parts.1)

  module _ (home : served_by p (Act k) ≡ Some s) where
    serves_more : (d : Deed) (a : Actor) (event : Option ℕ) (l h : Past) → serves q k l ≡ serves q k h → serves q k (noting a d event ∷ l) ≡ serves q k (noting a d event ∷ h)
    serves_more (deed.Start e point value) a event l h same = ap (λ b. if made_by k a then same_number point (Some q) else b) same
    serves_more d a event l h same = ap (λ b. if is_request_at q d then false else if made_by k a then b else b) same

    -- a start by it touches the server
    start_touches : (j : ActKey) (e : ℕ) (point : Option ℕ) (value : _) (event : Option ℕ) → is_proper p (noting (Act j) (deed.Start e point value) event) ≡ true → same_key k j ≡ true
        → same_number (object_of_kind p (kind_of p e)) (Some (first_server p + s)) ≡ true
    start_touches j e point value event o t = by_invoked p s e (serves_invoked p m sound e s k.runnable
        (start_owned p k e point value event (subst (λ i. is_proper p (noting (Act i) (deed.Start e point value) event) ≡ true) (sym (key_same k j t)) o)) home)

    serves_quiet : (a : Actor) (d : Deed) (event : Option ℕ) (h : Past) → is_proper p (noting a d event) ≡ true → touches p (first_server p + s) (noting a d event) ≡ false → serves q k (noting a d event ∷ h) ≡ serves q k h
    serves_quiet (Act j) (deed.Start e point value) event h o off = if_false (same_key k j) (same_number point (Some q)) (serves q k h)
        (differs (same_number (object_of_kind p (kind_of p e)) (Some (first_server p + s))) (same_key k j) (start_touches j e point value event o) off)
    serves_quiet Env (deed.Start e point value) event h o off = refl
    serves_quiet (Machine n) (deed.Start e point value) event h o off = refl
    serves_quiet a d event h o off =
        if_false (is_request_at q d) false (if made_by k a then serves q k h else serves q k h) (request_quiet p s q joined d a event off)
        ∙ if_same (made_by k a) (serves q k h)

    serves_thin : (h : Past) → list_all (is_proper p) h ≡ true → serves q k (filter (touches p (first_server p + s)) h) ≡ serves q k h
    serves_thin = thin (touches p (first_server p + s)) (is_proper p) (serves q k)
        (λ n h o fine same. serves_more n.entry.deed n.entry.actor n.event (filter (touches p (first_server p + s)) h) h same)
        (λ n h o fine off. serves_quiet n.entry.actor n.entry.deed n.event h o off)

  served_same : (h : Past) → list_all (is_proper p) h ≡ true → serves q k (filter (touches p (first_server p + s)) h) ≡ serves q k h
  served_same h fine = by_home (same_number (served_by p (Act k)) (Some s)) refl
    where
      by_home : (b : Bool) → same_number (served_by p (Act k)) (Some s) ≡ b → serves q k (filter (touches p (first_server p + s)) h) ≡ serves q k h
      by_home true t = serves_thin (option_same (served_by p (Act k)) (Some s) t) h fine
      by_home false t = unserved t (filter (touches p (first_server p + s)) h) (fine_thin (touches p (first_server p + s)) (is_proper p) h fine) ∙ sym (unserved t h fine)

  -- a return that does not touch the server is by an activation that does not serve the point
  served_quiet : (h : Past) → list_all (is_proper p) h ≡ true → same_number (server_object p (served_by p (Act k))) (Some (first_server p + s)) ≡ false → serves q k h ≡ false
  served_quiet h fine off = unserved (differs (same_number (server_object p (served_by p (Act k))) (Some (first_server p + s))) (same_number (served_by p (Act k)) (Some s))
      (λ t. option_test (server_object p (served_by p (Act k))) (Some (first_server p + s)) (ap (server_object p) (option_same (served_by p (Act k)) (Some s) t))) off) h fine

-- the newer of what an entry returns and what was returned before
pub newer_returned : (q : ℕ) (n : Noted) (h : Past) (r : Option (ℕ × List ℤ)) → returned_by q n.entry.actor n.entry.deed h ≡ r → returned_to q (n ∷ h) ≡ (if is_request_at q n.entry.deed then None else option_or r (returned_to q h))
newer_returned q n h None is = rw is refl
newer_returned q n h (Some r) is = rw is refl

module _ (p : Plan) (m : Mapping) (sound : IsSound p m) (s q : ℕ) (joined : server_of p q ≡ Some s) where
  pub returned_by_thin : (a : Actor) (d : Deed) (h : Past) → list_all (is_proper p) h ≡ true → returned_by q a d (filter (touches p (first_server p + s)) h) ≡ returned_by q a d h
  returned_by_thin (Act k) (deed.Return code value) h fine = ap (λ b. if b then Some (code, words_of value) else None) (served_same p m sound s q joined k h fine)
  returned_by_thin a d h fine = refl

  pub returned_by_quiet : (a : Actor) (d : Deed) (event : Option ℕ) (h : Past) → list_all (is_proper p) h ≡ true → touches p (first_server p + s) (noting a d event) ≡ false → returned_by q a d h ≡ None
  returned_by_quiet (Act k) (deed.Return code value) event h fine off = ap (λ b. if b then Some (code, words_of value) else None) (served_quiet p m sound s q joined k h fine off)
  returned_by_quiet a d event h fine off = refl

  returned_thin : (h : Past) → list_all (is_proper p) h ≡ true → returned_to q (filter (touches p (first_server p + s)) h) ≡ returned_to q h
  returned_thin = thin (touches p (first_server p + s)) (is_proper p) (returned_to q)
      (λ n h o fine same.
      newer_returned q n (filter (touches p (first_server p + s)) h) (returned_by q n.entry.actor n.entry.deed h) (returned_by_thin n.entry.actor n.entry.deed h fine)
      ∙ ap (λ r. if is_request_at q n.entry.deed then None else option_or (returned_by q n.entry.actor n.entry.deed h) r) same
      ∙ sym (newer_returned q n h (returned_by q n.entry.actor n.entry.deed h) refl))
      (λ n h o fine off.
      newer_returned q n h None (returned_by_quiet n.entry.actor n.entry.deed n.event h fine off)
      ∙ if_false (is_request_at q n.entry.deed) None (returned_to q h) (request_quiet p s q joined n.entry.deed n.entry.actor n.event off))

  pub answer_thin : (h : Past) → list_all (is_proper p) h ≡ true → answer_to q (filter (touches p (first_server p + s)) h) ≡ answer_to q h
  answer_thin h fine = λ i. if outstanding_thin p s q joined h fine i then returned_thin h fine i else None

  pub result_thin : (h : Past) → list_all (is_proper p) h ≡ true → result_of p q (filter (touches p (first_server p + s)) h) ≡ result_of p q h
  result_thin h fine = by_answer (answer_to q h) refl (answer_thin h fine)
    where
      by_answer : (r : Option (ℕ × List ℤ)) → answer_to q h ≡ r → answer_to q (filter (touches p (first_server p + s)) h) ≡ answer_to q h → result_of p q (filter (touches p (first_server p + s)) h) ≡ result_of p q h
      by_answer r is same = rw (joined, same) refl
