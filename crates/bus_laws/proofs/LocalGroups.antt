-- What is kept of data looks only at the entries that touch the object of the group.
use Rattle.std.proofs.Common.{◌≡◌, ℕ, ◌/◌, ◌%◌, ℤ, Bool, true, false, ◌&&◌, ◌||◌, not, ◌==◌, if◌then◌else◌, refl, sym, ◌∙◌, ap, subst, List, [], ◌∷◌, ◌++◌, length, take, drop, Option, Some}
use Rattle.std.proofs.Common.{None, is_some}
use Rattle.bus_semantics.specs.Common.{and_parts, or_left, or_right, eqb-true, list_all, list_any, slice_get, option_or, option_map_or, words_of, same_number, same_words, Plan, group_of}
use Rattle.bus_semantics.specs.Common.{positions, elems_of, words_at, marked, split, home_of, bundle_of, bundle_of_list, Past, Noted, newest, touched_by, touches, is_in_group, last_in}
use Rattle.bus_semantics.specs.Common.{listed_in, moment_of, stored_in, last_stored, value_at, validity, is_invalid, port_read_code, elem_read_code, read_code, update, is_updated, sent_in}
use Rattle.bus_semantics.specs.Common.{is_receive_of, takes_at, taken_at, with_sent, is_room, accepted_at, has_room_at, accepts_next, discards_next, has_lost, sent_to, places_at}
use Rattle.bus_semantics.specs.Common.{is_receiver_in, is_full_in, send_code, received_at, same_bool, is_outcome, unqueued_allows, queued_allows, is_proper, IsSound}
use Rattle.std.specs.Prelude.{filter, option_and_then, option_map, unwrap_or}
use Rattle.bus_laws.specs.Common.{ElemPlan, ElemKind, Unqueued, Queued, Variable, Mapping, Actor, Deed}
use Rattle.bus_semantics.specs.declared.entries.Deed.TheVariants as deed
use Rattle.bus_laws.proofs.Thinning.{noting, clash, differs, none_if, same_test, option_same, option_test, thin, newest_thin, count_thin}
use Rattle.bus_laws.proofs.Bundling.{no_bundle}
use Rattle.bus_laws.proofs.OneBundle.{has, list_home, list_bundled}

-- an entry that touches another object than that of the group stores nothing in the group, and makes it neither valid nor invalid
module _ (p : Plan) (m : Mapping) (sound : IsSound p m) (g o : ℕ) (home : home_of p g ≡ Some o) where
  in_object : (x : ℕ) → is_in_group p g x ≡ true → same_number (bundle_of p x) (Some o) ≡ true
  in_object x same = option_test (bundle_of p x) (Some o) (ap (option_and_then (home_of p)) (option_same (group_of p x) (Some g) same) ∙ home)

  pub elsewhere : (x : ℕ) → same_number (bundle_of p x) (Some o) ≡ false → is_in_group p g x ≡ false
  elsewhere x off = differs (same_number (bundle_of p x) (Some o)) (is_in_group p g x) (in_object x) off

  -- nor is an element of a list of another object in the group
  listed_elsewhere : (l : ℕ) → same_number (bundle_of_list p l) (Some o) ≡ false → (x : ℕ) → has (elems_of p l) x ≡ true → is_in_group p g x ≡ false
  listed_elsewhere l off x there = elsewhere x (ap (λ b. same_number b (Some o)) (list_home p m sound l x there) ∙ off)

  none_in : (xs : List ℕ) (written : ℕ) (ws : List ℤ) → ((x : ℕ) → has xs x ≡ true → is_in_group p g x ≡ false) → last_in p g (split p (marked written xs) ws) ≡ None
  none_in [] written ws away = refl
  none_in (x ∷ xs) written ws away = by_mark (written % 2 == 1) (λ us. none_in xs (written / 2) us (λ y there. away y (or_right (x == y) (has xs y) there)))
    where
      by_mark : (b : Bool) → ((us : List ℤ) → last_in p g (split p (marked (written / 2) xs) us) ≡ None)
          → last_in p g (split p (if b then x ∷ marked (written / 2) xs else marked (written / 2) xs) ws) ≡ None
      by_mark true rest =
          ap (λ (r : Option (List ℤ)). option_or r (if is_in_group p g x then Some (take (words_at p x) ws) else None)) (rest (drop (words_at p x) ws))
          ∙ none_if (is_in_group p g x) (take (words_at p x) ws) (away x (or_left (x == x) (has xs x) (same_test x)))
      by_mark false rest = rest ws

  pub stores_elsewhere : (l written : ℕ) (ws : List ℤ) → same_number (bundle_of_list p l) (Some o) ≡ false → listed_in p g l written ws ≡ None
  stores_elsewhere l written ws off = none_in (elems_of p l) written ws (listed_elsewhere l off)

  stored_silent : (a : Actor) (d : Deed) (event : Option ℕ) → touches p o (noting a d event) ≡ false → stored_in p g d ≡ None
  stored_silent a (deed.Write x value) event off = none_if (is_in_group p g x) (words_of value) (elsewhere x off)
  stored_silent a (deed.Publish x value) event off = none_if (is_in_group p g x) (words_of value) (elsewhere x off)
  stored_silent a (deed.PublishAll l written value) event off = stores_elsewhere l written (words_of value) off
  stored_silent a d event off = refl

  valid_silent : (a : Actor) (d : Deed) (event : Option ℕ) → touches p o (noting a d event) ≡ false → validity p g d ≡ None
  valid_silent a (deed.Write x value) event off = none_if (is_in_group p g x) true (elsewhere x off)
  valid_silent a (deed.Publish x value) event off = none_if (is_in_group p g x) true (elsewhere x off)
  valid_silent a (deed.Invalidate x) event off = none_if (is_in_group p g x) false (elsewhere x off)
  valid_silent a (deed.PublishAll l written value) event off = ap (option_map (λ (ws : List ℤ). true)) (stores_elsewhere l written (words_of value) off)
  valid_silent a d event off = refl

  sent_silent : (a : Actor) (d : Deed) (event : Option ℕ) → touches p o (noting a d event) ≡ false → sent_in p g d ≡ None
  sent_silent a (deed.Send x value code) event off = none_if (is_in_group p g x) (words_of value) (elsewhere x off)
  sent_silent a d event off = refl

  pub stored_quiet : (n : Noted) → touches p o n ≡ false → stored_in p g n.entry.deed ≡ None
  stored_quiet n off = stored_silent n.entry.actor n.entry.deed n.event off

  pub sent_quiet : (n : Noted) → touches p o n ≡ false → sent_in p g n.entry.deed ≡ None
  sent_quiet n off = sent_silent n.entry.actor n.entry.deed n.event off

  pub last_stored_thin : (h : Past) → list_all (is_proper p) h ≡ true → last_stored p g (filter (touches p o) h) ≡ last_stored p g h
  last_stored_thin = newest_thin (touches p o) (is_proper p) (λ n. stored_in p g n.entry.deed) (λ n ok off. stored_quiet n off)

  invalid_thin : (h : Past) → list_all (is_proper p) h ≡ true → is_invalid p g (filter (touches p o) h) ≡ is_invalid p g h
  invalid_thin h fine = ap (λ b. not (unwrap_or b true))
      (newest_thin (touches p o) (is_proper p) (λ n. validity p g n.entry.deed) (λ n ok off. valid_silent n.entry.actor n.entry.deed n.event off) h fine)

-- ---- an element of the group

module _ (p : Plan) (m : Mapping) (sound : IsSound p m) (x : ℕ) (e : ElemPlan) (there : slice_get p.elements x ≡ Some e) (o : ℕ) (home : home_of p e.group ≡ Some o) where
  stands : bundle_of p x ≡ Some o
  stands = ap (λ (s : Option ElemPlan). option_and_then (home_of p) (option_map_or (λ (v : ElemPlan). Some v.group) s None)) there ∙ home

  -- an entry at the element touches its object
  at_element : (y : ℕ) → (x == y) ≡ true → same_number (bundle_of p y) (Some o) ≡ true
  at_element y same = option_test (bundle_of p y) (Some o) (subst (λ z. bundle_of p z ≡ Some o) (eqb-true x y same) stands)

  at_same : (y : ℕ) → (y == x) ≡ true → same_number (bundle_of p y) (Some o) ≡ true
  at_same y same = option_test (bundle_of p y) (Some o) (subst (λ z. bundle_of p z ≡ Some o) (sym (eqb-true y x same)) stands)

  update_silent : (a : Actor) (d : Deed) (event : Option ℕ) → touches p o (noting a d event) ≡ false → update p x e.group d ≡ None
  update_silent a (deed.Write y value) event off = none_if (is_in_group p e.group y) true (elsewhere p m sound e.group o home y off)
  update_silent a (deed.Publish y value) event off = none_if (is_in_group p e.group y) true (elsewhere p m sound e.group o home y off)
  update_silent a (deed.PublishAll l written value) event off = ap (option_map (λ (ws : List ℤ). true)) (stores_elsewhere p m sound e.group o home l written (words_of value) off)
  update_silent a (deed.Read y code value) event off = none_if (y == x) false (differs (same_number (bundle_of p y) (Some o)) (y == x) (at_same y) off)
  update_silent a d event off = refl

  receive_silent : (a : Actor) (d : Deed) (event : Option ℕ) → touches p o (noting a d event) ≡ false → is_receive_of x d ≡ false
  receive_silent a (deed.Receive y code value) event off = differs (same_number (bundle_of p y) (Some o)) (x == y) (at_element y) off
  receive_silent a d event off = refl

  takes_silent : (a : Actor) (d : Deed) (event : Option ℕ) → touches p o (noting a d event) ≡ false → takes_at x d ≡ false
  takes_silent a (deed.Receive y code value) event off =
      ap (λ b. b && ((code == 0) || (code == 64))) (differs (same_number (bundle_of p y) (Some o)) (x == y) (at_element y) off)
  takes_silent a d event off = refl

  updated_thin : (h : Past) → list_all (is_proper p) h ≡ true
      → unwrap_or (newest (λ (n : Noted). update p x e.group n.entry.deed) (filter (touches p o) h)) false ≡ unwrap_or (newest (λ (n : Noted). update p x e.group n.entry.deed) h) false
  updated_thin h fine = ap (λ b. unwrap_or b false)
      (newest_thin (touches p o) (is_proper p) (λ n. update p x e.group n.entry.deed) (λ n ok off. update_silent n.entry.actor n.entry.deed n.event off) h fine)

  taken_thin : (h : Past) → list_all (is_proper p) h ≡ true → taken_at x (filter (touches p o) h) ≡ taken_at x h
  taken_thin = count_thin (touches p o) (is_proper p) (λ n. takes_at x n.entry.deed) (λ n ok off. takes_silent n.entry.actor n.entry.deed n.event off)

  -- a Send to the element is one in its group
  sent_to_group : (d : Deed) → sent_to p x d ≡ sent_in p e.group d
  sent_to_group d = ap (λ (s : Option ElemPlan). option_map_or (λ (v : ElemPlan). sent_in p v.group d) s None) there

  sent_to_quiet : (n : Noted) → touches p o n ≡ false → sent_to p x n.entry.deed ≡ None
  sent_to_quiet n off = sent_to_group n.entry.deed ∙ sent_quiet p m sound e.group o home n off

  accepted_thin : (h : Past) → list_all (is_proper p) h ≡ true → accepted_at p x (filter (touches p o) h) ≡ accepted_at p x h
  accepted_thin = thin (touches p o) (is_proper p) (accepted_at p x)
      (λ n h ok fine same. λ i. with_sent (sent_to p x n.entry.deed) (is_room (length (same i)) (taken_thin h fine i) (places_at p x)) (same i))
      (λ n h ok fine off. ap (λ s. with_sent s (is_room (length (accepted_at p x h)) (taken_at x h) (places_at p x)) (accepted_at p x h)) (sent_to_quiet n off))

  pub room_thin : (h : Past) → list_all (is_proper p) h ≡ true → has_room_at p x (filter (touches p o) h) ≡ has_room_at p x h
  room_thin h fine = λ i. is_room (length (accepted_thin h fine i)) (taken_thin h fine i) (places_at p x)

  -- whether a Send is accepted or discarded goes by the room alone
  accepts_by_room : (l h : Past) → has_room_at p x l ≡ has_room_at p x h → (d : Deed) → accepts_next p x l d ≡ accepts_next p x h d
  accepts_by_room l h same d = ap (λ b. is_some (sent_to p x d) && b) same

  discards_by_room : (l h : Past) → has_room_at p x l ≡ has_room_at p x h → (d : Deed) → discards_next p x l d ≡ discards_next p x h d
  discards_by_room l h same d = ap (λ b. is_some (sent_to p x d) && not b) same

  quiet_discards : (n : Noted) (h : Past) → touches p o n ≡ false → discards_next p x h n.entry.deed ≡ false
  quiet_discards n h off = ap (λ s. is_some s && not (has_room_at p x h)) (sent_to_quiet n off)

  quiet_accepts : (n : Noted) (h : Past) → touches p o n ≡ false → accepts_next p x h n.entry.deed ≡ false
  quiet_accepts n h off = ap (λ s. is_some s && has_room_at p x h) (sent_to_quiet n off)

  lost_thin : (h : Past) → list_all (is_proper p) h ≡ true → has_lost p x (filter (touches p o) h) ≡ has_lost p x h
  lost_thin = thin (touches p o) (is_proper p) (has_lost p x)
      (λ n h ok fine same. λ i. if is_receive_of x n.entry.deed then false
      else (discards_by_room (filter (touches p o) h) h (room_thin h fine) n.entry.deed i || same i))
      (λ n h ok fine off. λ i. if receive_silent n.entry.actor n.entry.deed n.event off i then false
      else (quiet_discards n h off i || has_lost p x h))

  -- ---- what brings data

  pub accepts_thin : (n : Noted) (h : Past) → list_all (is_proper p) h ≡ true
      → (is_some (stored_in p e.group n.entry.deed) || accepts_next p x (filter (touches p o) h) n.entry.deed) ≡ (is_some (stored_in p e.group n.entry.deed) || accepts_next p x h n.entry.deed)
  accepts_thin n h fine = ap (λ b. is_some (stored_in p e.group n.entry.deed) || b)
      (accepts_by_room (filter (touches p o) h) h (room_thin h fine) n.entry.deed)

  pub brings_quiet : (n : Noted) (h : Past) → touches p o n ≡ false → (is_some (stored_in p e.group n.entry.deed) || accepts_next p x h n.entry.deed) ≡ false
  brings_quiet n h off = λ i. is_some (stored_quiet p m sound e.group o home n off i) || quiet_accepts n h off i

  pub received_thin : (h : Past) → list_all (is_proper p) h ≡ true → received_at p x (filter (touches p o) h) ≡ received_at p x h
  received_thin h fine = by_oldest (slice_get (accepted_at p x h) (taken_at x h)) refl (λ i. slice_get (accepted_thin h fine i) (taken_thin h fine i))
    where
      by_oldest : (r : Option (List ℤ)) → slice_get (accepted_at p x h) (taken_at x h) ≡ r → slice_get (accepted_at p x (filter (touches p o) h)) (taken_at x (filter (touches p o) h)) ≡ r
          → received_at p x (filter (touches p o) h) ≡ received_at p x h
      by_oldest None before after = rw (before, after) refl
      by_oldest (Some ws) before after = rw (before, after)
          (ap (λ b. option_map_or (λ (v : ElemPlan). if not v.joined then (134, []) else (if b then 64 else 0, ws)) (slice_get p.elements x) (134, [])) (lost_thin h fine))

  read_thin : (h : Past) → list_all (is_proper p) h ≡ true → port_read_code p e (filter (touches p o) h) ≡ port_read_code p e h
  read_thin h fine = λ i. if not e.joined then 134
      else if invalid_thin p m sound e.group o home h fine i then 1
      else if e.never_received && not (is_some (last_stored_thin p m sound e.group o home h fine i)) then 133
      else 0

  code_thin : (k : ElemKind) → e.kind ≡ k → (h : Past) → list_all (is_proper p) h ≡ true → elem_read_code p e (filter (touches p o) h) ≡ elem_read_code p e h
  code_thin Variable is h fine = rw is refl
  code_thin Unqueued is h fine = rw is (read_thin h fine)
  code_thin Queued is h fine = rw is (read_thin h fine)

  pub read_code_thin : (h : Past) → list_all (is_proper p) h ≡ true → elem_read_code p e (filter (touches p o) h) ≡ elem_read_code p e h
  read_code_thin = code_thin e.kind refl

-- ---- the receivers of a group

in_group : (p : Plan) (m : Mapping) → IsSound p m → (g o y : ℕ) → home_of p g ≡ Some o → (e : ElemPlan) → slice_get p.elements y ≡ Some e → e.group ≡ g → (h : Past) → list_all (is_proper p) h ≡ true
    → has_room_at p y (filter (touches p o) h) ≡ has_room_at p y h
in_group p m sound g o y home e at same h fine = room_thin p m sound y e at o (subst (λ k. home_of p k ≡ Some o) (sym same) home) h fine

full_test : (p : Plan) (m : Mapping) → IsSound p m → (g o y : ℕ) → home_of p g ≡ Some o → (s : Option ElemPlan) → slice_get p.elements y ≡ s → (h : Past) → list_all (is_proper p) h ≡ true
    → option_map_or (λ (e : ElemPlan). is_receiver_in g e && not (has_room_at p y (filter (touches p o) h))) s false ≡ option_map_or (λ (e : ElemPlan). is_receiver_in g e && not (has_room_at p y h)) s false
full_test p m sound g o y home None at h fine = refl
full_test p m sound g o y home (Some e) at h fine = by_test (is_receiver_in g e) refl
  where
    by_test : (b : Bool) → is_receiver_in g e ≡ b → (b && not (has_room_at p y (filter (touches p o) h))) ≡ (b && not (has_room_at p y h))
    by_test true t = ap not (in_group p m sound g o y home e at (eqb-true e.group g (and_parts (e.joined && not e.provided) (e.group == g) t).1) h fine)
    by_test false t = refl

full_thin : (p : Plan) (m : Mapping) → IsSound p m → (g o : ℕ) → home_of p g ≡ Some o → (h : Past) → list_all (is_proper p) h ≡ true → is_full_in p g (filter (touches p o) h) ≡ is_full_in p g h
full_thin p m sound g o home h fine = λ i. list_any (λ y. full_test p m sound g o y home (slice_get p.elements y) refl h fine i) (positions (length p.elements))

-- ---- what is answered

-- values at two moments that are the same one by one
moments_same : (p : Plan) (h l : Past) (xs : List ℕ) → ((x : ℕ) → has xs x ≡ true → value_at p x h ≡ value_at p x l) → moment_of p xs h ≡ moment_of p xs l
moments_same p h l [] same = refl
moments_same p h l (x ∷ xs) same =
    let first : value_at p x h ≡ value_at p x l = same x (or_left (x == x) (has xs x) (same_test x)) in
    let rest : moment_of p xs h ≡ moment_of p xs l = moments_same p h l xs (λ y there. same y (or_right (x == y) (has xs y) there)) in
    λ i. first i ++ rest i

module _ (p : Plan) (m : Mapping) (sound : IsSound p m) (h : Past) (fine : list_all (is_proper p) h ≡ true) where
  -- what is looked up of an element by the entries of its object
  elem_local : {B : Type 0} (f : Past → ElemPlan → B) (otherwise : B) (x o : ℕ) (e : Option ElemPlan) → slice_get p.elements x ≡ e → option_and_then (home_of p) (option_map_or (λ (v : ElemPlan). Some v.group) e None) ≡ Some o
      → ((v : ElemPlan) → slice_get p.elements x ≡ Some v → home_of p v.group ≡ Some o → f h v ≡ f (filter (touches p o) h) v)
      → option_map_or (f h) e otherwise ≡ option_map_or (f (filter (touches p o) h)) e otherwise
  elem_local f otherwise x o None at e same = refl
  elem_local f otherwise x o (Some v) at e same = same v at e

  value_local : (x o : ℕ) → bundle_of p x ≡ Some o → value_at p x h ≡ value_at p x (filter (touches p o) h)
  value_local x o e = elem_local (λ l v. unwrap_or (last_stored p v.group l) (words_of v.init)) [] x o (slice_get p.elements x) refl e
      (λ v at home. ap (λ s. unwrap_or s (words_of v.init)) (sym (last_stored_thin p m sound v.group o home h fine)))

  code_local : (x o : ℕ) → bundle_of p x ≡ Some o → read_code p x h ≡ read_code p x (filter (touches p o) h)
  code_local x o e = elem_local (λ l v. elem_read_code p v l) 0 x o (slice_get p.elements x) refl e (λ v at home. sym (read_code_thin p m sound x v at o home h fine))

  updated_local : (x o : ℕ) → bundle_of p x ≡ Some o → is_updated p x h ≡ is_updated p x (filter (touches p o) h)
  updated_local x o e = elem_local (λ l v. unwrap_or (newest (λ (n : Noted). update p x v.group n.entry.deed) l) false) false x o (slice_get p.elements x) refl e
      (λ v at home. sym (updated_thin p m sound x v at o home h fine))

  send_local : (x o : ℕ) → bundle_of p x ≡ Some o → send_code p x h ≡ send_code p x (filter (touches p o) h)
  send_local x o e = elem_local (λ l v. if is_full_in p v.group l then 130 else 0) 0 x o (slice_get p.elements x) refl e
      (λ v at home. ap (λ b. if b then 130 else 0) (sym (full_thin p m sound v.group o home h fine)))

  receive_local : (x o : ℕ) → bundle_of p x ≡ Some o → received_at p x h ≡ received_at p x (filter (touches p o) h)
  receive_local x o e = by_element (slice_get p.elements x) refl e
    where
      by_element : (s : Option ElemPlan) → slice_get p.elements x ≡ s → option_and_then (home_of p) (option_map_or (λ (v : ElemPlan). Some v.group) s None) ≡ Some o → received_at p x h ≡ received_at p x (filter (touches p o) h)
      by_element None at nowhere = cc
      by_element (Some v) at home = sym (received_thin p m sound x v at o home h fine)

  moment_local : (l o : ℕ) → bundle_of_list p l ≡ Some o → moment_of p (elems_of p l) h ≡ moment_of p (elems_of p l) (filter (touches p o) h)
  moment_local l o e = moments_same p h (filter (touches p o) h) (elems_of p l) (λ x there. value_local x o (list_home p m sound l x there ∙ e))

  pub unqueued_local : (a : Actor) (d : Deed) (event : Option ℕ) (o : ℕ) → touched_by p (noting a d event) ≡ Some o
      → unqueued_allows p h d ≡ unqueued_allows p (filter (touches p o) h) d
  unqueued_local a (deed.Fetch x value) event o e = ap (λ v. same_words (words_of value) v) (value_local x o e)
  unqueued_local a (deed.Read x code value) event o e = λ i. (code == code_local x o e i) && same_words (words_of value) (value_local x o e i)
  unqueued_local a (deed.IsUpdated x updated) event o e = ap (λ b. same_bool updated b) (updated_local x o e)
  unqueued_local a (deed.FetchAll l value) event o e = ap (λ v. same_words (words_of value) v) (moment_local l o e)
  unqueued_local a d event o e = refl

  pub queued_local : (a : Actor) (d : Deed) (event : Option ℕ) (o : ℕ) → touched_by p (noting a d event) ≡ Some o
      → queued_allows p h d ≡ queued_allows p (filter (touches p o) h) d
  queued_local a (deed.Send x value code) event o e = ap (λ c. code == c) (send_local x o e)
  queued_local a (deed.Receive x code value) event o e = ap (λ r. is_outcome code (words_of value) r) (receive_local x o e)
  queued_local a d event o e = refl

-- ---- an element that there is not

nothing_there : {B : Type 0} (p : Plan) (f g : ElemPlan → B) (otherwise : B) (e : Option ElemPlan) → option_map_or (λ (v : ElemPlan). Some v.group) e None ≡ None
    → option_map_or f e otherwise ≡ option_map_or g e otherwise
nothing_there p f g otherwise None nowhere = refl
nothing_there p f g otherwise (Some v) nowhere = cc

module _ (p : Plan) (m : Mapping) (sound : IsSound p m) (h l : Past) where
  missing : (x : ℕ) → bundle_of p x ≡ None → group_of p x ≡ None
  missing x e = no_bundle p sound.bundles sound.groups x e

  pub unqueued_free : (a : Actor) (d : Deed) (event : Option ℕ) → touched_by p (noting a d event) ≡ None → unqueued_allows p h d ≡ unqueued_allows p l d
  unqueued_free a (deed.Fetch x value) event e = ap (λ v. same_words (words_of value) v)
      (nothing_there p (λ v. unwrap_or (last_stored p v.group h) (words_of v.init)) (λ v. unwrap_or (last_stored p v.group l) (words_of v.init)) [] (slice_get p.elements x) (missing x e))
  unqueued_free a (deed.Read x code value) event e = λ i.
      (code == nothing_there p (λ v. elem_read_code p v h) (λ v. elem_read_code p v l) 0 (slice_get p.elements x) (missing x e) i)
      && same_words (words_of value) (nothing_there p (λ v. unwrap_or (last_stored p v.group h) (words_of v.init)) (λ v. unwrap_or (last_stored p v.group l) (words_of v.init)) [] (slice_get p.elements x) (missing x e) i)
  unqueued_free a (deed.IsUpdated x updated) event e = ap (λ b. same_bool updated b)
      (nothing_there p (λ v. unwrap_or (newest (λ (n : Noted). update p x v.group n.entry.deed) h) false) (λ v. unwrap_or (newest (λ (n : Noted). update p x v.group n.entry.deed) l) false) false (slice_get p.elements x) (missing x e))
  unqueued_free a (deed.FetchAll list value) event e = ap (λ v. same_words (words_of value) v)
      (moments_same p h l (elems_of p list) (λ x there. clash (is_some (bundle_of_list p list)) (list_bundled p m sound list x there) (ap is_some e)))
  unqueued_free a d event e = refl

  pub queued_free : (a : Actor) (d : Deed) (event : Option ℕ) → touched_by p (noting a d event) ≡ None → queued_allows p h d ≡ queued_allows p l d
  queued_free a (deed.Send x value code) event e = ap (λ c. code == c)
      (nothing_there p (λ v. if is_full_in p v.group h then 130 else 0) (λ v. if is_full_in p v.group l then 130 else 0) 0 (slice_get p.elements x) (missing x e))
  queued_free a (deed.Receive x code value) event e = ap (λ r. is_outcome code (words_of value) r) (none_received (slice_get p.elements x) refl (missing x e))
    where
      none_received : (s : Option ElemPlan) → slice_get p.elements x ≡ s → option_map_or (λ (v : ElemPlan). Some v.group) s None ≡ None → received_at p x h ≡ received_at p x l
      none_received None at nowhere = rw at refl
      none_received (Some v) at nowhere = cc
  queued_free a d event e = refl
