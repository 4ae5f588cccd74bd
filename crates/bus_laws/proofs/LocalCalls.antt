-- What calls are answered looks only at the entries that touch the server.
use Rattle.std.proofs.Common.{◌≡◌, ℕ, ◌+◌, Bool, true, false, ◌&&◌, ◌==◌, if◌then◌else◌, refl, sym, ◌∙◌, ap, subst, [], ◌∷◌, Option, Some, None}
use Rattle.bus_semantics.specs.Common.{and_parts, eqb-true, same_Some, list_all, ActKey, words_of, same_number, Plan, server_of, Past, made_by, first_server, server_object, object_of_kind}
use Rattle.bus_semantics.specs.Common.{touched_by, touches, is_request_at, is_outstanding, returned_by, returned_to, serves, ask_code, answer_to, result_of, next_request, is_key_point}
use Rattle.bus_semantics.specs.Common.{is_request, is_outcome, is_some_outcome, calls_allow, IsSound, is_proper}
use Rattle.std.specs.Prelude.{filter}
use Rattle.bus_laws.specs.Common.{Mapping, Actor, Env, Machine, Act, Deed}
use Rattle.bus_semantics.specs.declared.entries.Deed.TheVariants as deed
use Rattle.bus_laws.proofs.Thinning.{noting, if_same}
use Rattle.bus_laws.proofs.LocalServers.{start_named, ask_thin, next_thin}
use Rattle.bus_laws.proofs.LocalReturns.{all_false, answer_thin, result_thin, newer_returned}

-- an object of a server is that of one server
pub record OfServer (p : Plan) (server : Option ℕ) (o : ℕ) : Type 0 where
  pub number : ℕ
  pub is : server ≡ Some number
  pub object : first_server p + number ≡ o

pub of_server : (p : Plan) (server : Option ℕ) (o : ℕ) → server_object p server ≡ Some o → OfServer p server o
of_server p None o e = absurd (cc e)
of_server p (Some s) o e = record { number = s; is = refl; object = same_Some (first_server p + s) o e }

pub no_server : (p : Plan) (server : Option ℕ) → server_object p server ≡ None → server ≡ None
no_server p None e = refl
no_server p (Some s) e = absurd (cc e)

module _ (p : Plan) (m : Mapping) (h : Past) (sound : IsSound p m) (fine : list_all (is_proper p) h ≡ true) where
  -- what holds of the entries of its server holds of those of the object
  calls_by : {B : Type 0} (f : Past → B) (server : Option ℕ) (o : ℕ) → server_object p server ≡ Some o
      → ((s : ℕ) → server ≡ Some s → f (filter (touches p (first_server p + s)) h) ≡ f h) → f h ≡ f (filter (touches p o) h)
  calls_by f server o touched same = let of = of_server p server o touched in
      sym (subst (λ k. f (filter (touches p k) h) ≡ f h) of.object (same of.number of.is))

  pub calls_local : (a : Actor) (d : Deed) (event : Option ℕ) (o : ℕ) → is_proper p (noting a d event) ≡ true → touched_by p (noting a d event) ≡ Some o
      → calls_allow p h a d ≡ calls_allow p (filter (touches p o) h) a d
  calls_local a (deed.Start e None value) event o proper touched = refl
  calls_local a (deed.Start e (Some q) value) event o proper touched =
      let by = start_named p a e q value event proper in
      let object : first_server p + by.server ≡ o = same_Some (first_server p + by.server) o (sym (ap (object_of_kind p) by.kind) ∙ touched) in
      let next : next_request p q (filter (touches p o) h) ≡ next_request p q h =
      subst (λ k. next_request p q (filter (touches p k) h) ≡ next_request p q h) object (next_thin p by.server q by.joined h fine) in
      ap (λ r. is_key_point a q && is_request q (words_of value) r) (sym next)
  calls_local a (deed.Ask q value code) event o proper touched =
      calls_by (λ l. code == ask_code p q l) (server_of p q) o touched (λ s is. ap (λ c. code == c) (ask_thin p s q is h fine))
  calls_local a (deed.Answer q code value) event o proper touched =
      calls_by (λ l. is_some_outcome code (words_of value) (answer_to q l)) (server_of p q) o touched
      (λ s is. ap (λ r. is_some_outcome code (words_of value) r) (answer_thin p m sound s q is h fine))
  calls_local a (deed.TakeResult q code value) event o proper touched =
      calls_by (λ l. is_outcome code (words_of value) (result_of p q l)) (server_of p q) o touched
      (λ s is. ap (λ r. is_outcome code (words_of value) r) (result_thin p m sound s q is h fine))
  calls_local a d event o proper touched = refl

-- ---- points without a server

module _ (p : Plan) (q : ℕ) (unjoined : server_of p q ≡ None) where
  -- no activation serves such a point
  unnamed : (a : Actor) (e : ℕ) (point : Option ℕ) (value : _) (event : Option ℕ) → is_proper p (noting a (deed.Start e point value) event) ≡ true → same_number point (Some q) ≡ false
  unnamed a e None value event proper = refl
  unnamed a e (Some r) value event proper = by_test (r == q) refl
    where
      by_test : (b : Bool) → (r == q) ≡ b → (r == q) ≡ false
      by_test false t = t
      by_test true t = let by = start_named p a e r value event proper in absurd (cc (sym by.joined ∙ ap (server_of p) (eqb-true r q t) ∙ unjoined))

  nobody_entry : (k : ActKey) (a : Actor) (d : Deed) (event : Option ℕ) (h : Past) → is_proper p (noting a d event) ≡ true → serves q k h ≡ false → serves q k (noting a d event ∷ h) ≡ false
  nobody_entry k (Act j) (deed.Start e point value) event h proper before = rw before (rw (unnamed (Act j) e point value event proper) (if_same _ false))
  nobody_entry k Env (deed.Start e point value) event h proper before = before
  nobody_entry k (Machine n) (deed.Start e point value) event h proper before = before
  nobody_entry k a d event h proper before = rw before (all_false (is_request_at q d) (made_by k a))

  nobody_serves : (k : ActKey) (h : Past) → list_all (is_proper p) h ≡ true → serves q k h ≡ false
  nobody_serves k [] fine = refl
  nobody_serves k (n ∷ h) fine = let parts = and_parts (is_proper p n) (list_all (is_proper p) h) fine in
      nobody_entry k n.entry.actor n.entry.deed n.event h parts.0 (nobody_serves k h parts.1)

  pub nobody_returns : (a : Actor) (d : Deed) (h : Past) → list_all (is_proper p) h ≡ true → returned_by q a d h ≡ None
  nobody_returns (Act k) (deed.Return code value) h fine = ap (λ b. if b then Some (code, words_of value) else None) (nobody_serves k h fine)
  nobody_returns a d h fine = refl

  never_returned : (h : Past) → list_all (is_proper p) h ≡ true → returned_to q h ≡ None
  never_returned [] fine = refl
  never_returned (n ∷ h) fine = let parts = and_parts (is_proper p n) (list_all (is_proper p) h) fine in
      newer_returned q n h None (nobody_returns n.entry.actor n.entry.deed h parts.1) ∙ rw (never_returned h parts.1) (if_same (is_request_at q n.entry.deed) None)

  never_answered : (h : Past) → list_all (is_proper p) h ≡ true → answer_to q h ≡ None
  never_answered h fine = rw (never_returned h fine) (if_same (is_outstanding q h) None)

pub calls_free : (p : Plan) (a : Actor) (d : Deed) (event : Option ℕ) (h : Past) → list_all (is_proper p) h ≡ true → is_proper p (noting a d event) ≡ true → touched_by p (noting a d event) ≡ None
    → calls_allow p h a d ≡ calls_allow p [] a d
calls_free p a (deed.Start e None value) event h fine proper free = refl
calls_free p a (deed.Start e (Some q) value) event h fine proper free =
    let by = start_named p a e q value event proper in absurd (cc (sym (ap (object_of_kind p) by.kind) ∙ free))
calls_free p a (deed.Ask q value code) event h fine proper free = let none = no_server p (server_of p q) free in rw none refl
calls_free p a (deed.Answer q code value) event h fine proper free =
    ap (λ r. is_some_outcome code (words_of value) r) (never_answered p q (no_server p (server_of p q) free) h fine)
calls_free p a (deed.TakeResult q code value) event h fine proper free = let none = no_server p (server_of p q) free in rw none refl
calls_free p a d event h fine proper free = refl
