-- No field of a line of a trace over a sound plan has a space or a newline.
use Rattle.std.proofs.Common.{◌≡◌, ℕ, ℤ, zero, suc, ◌+◌, ◌/◌, ◌%◌, pos, negsuc, Bool, true, false, ◌&&◌, ◌==◌, cond, List, [], ◌∷◌, ◌++◌, nat_lt, codes, decimal, Option, Some, None, refl, arith}
use Rattle.bus_semantics.specs.Common.{digits, list_all, and_from, and_parts, lt-ltb, Step, Value, words_of, elems_of, machine_itself, Plan, Runnable, look, machine_of_port, is_name}
use Rattle.bus_semantics.specs.Common.{is_pair_name, is_path, is_variable, Letters, actor_text, area_name, caller_text, elem_name, event_name, instance_text, key_text, machine_name}
use Rattle.bus_semantics.specs.Common.{machine_text, mask_text, mode_port_name, mode_text, more_words, point_name, point_text, position_of, runnable_text, value_text, words_text}
use Rattle.std.specs.Fmt.{digit_glyph, digits_onto, signed_decimal}
use Rattle.rte_value.specs.declared.kinds.Step.TheVariants as step
use Rattle.bus_laws.specs.Common.{AreaPlan, ElemPlan, EventPlan, MachinePlan, ModePortPlan, PointPlan, Actor, Env, Machine, Act, Deed, Version, One, Two}
use Rattle.bus_semantics.specs.declared.entries.Deed.TheVariants as deed
use Rattle.line_fields.proofs.Joining.{all-append}
use Rattle.trace_reading.proofs.Cutting.{are_visible, is_visible}
use Rattle.trace_reading.proofs.Letters.{name_visible, pair_visible, path_visible}
use Rattle.trace_reading.proofs.Lines.{fields_of, start_fields, step_fields, word_of}
use Rattle.trace_reading.proofs.Naming.{IsNamed, elem_passes}

both : (a b : Letters) → are_visible a ≡ true → are_visible b ≡ true → are_visible (a ++ b) ≡ true
both a b h k = all-append is_visible a b h k

-- ---- numbers

glyph_visible : (d : ℕ) → is_visible (digit_glyph false d) ≡ true
glyph_visible d = step (nat_lt d 10)
  where
    step : (b : Bool) → is_visible (cond b (48 + d) (87 + d)) ≡ true
    step true = lt-ltb 32 (48 + d) (omega arith)
    step false = lt-ltb 32 (87 + d) (omega arith)

digits_visible : (k n : ℕ) (acc : Letters) → are_visible acc ≡ true → are_visible (digits_onto k 10 false n acc) ≡ true
digits_visible zero n acc h = h
digits_visible (suc k) n acc h = step (n / 10 == 0) more (digits_visible k (n / 10) (digit_glyph false (n % 10) ∷ acc) more)
  where
    more : are_visible (digit_glyph false (n % 10) ∷ acc) ≡ true
    more = and_from (is_visible (digit_glyph false (n % 10))) (are_visible acc) (glyph_visible (n % 10)) h

    step : (b : Bool) → are_visible (digit_glyph false (n % 10) ∷ acc) ≡ true → are_visible (digits_onto k 10 false (n / 10) (digit_glyph false (n % 10) ∷ acc)) ≡ true
        → are_visible (cond b (digit_glyph false (n % 10) ∷ acc) (digits_onto k 10 false (n / 10) (digit_glyph false (n % 10) ∷ acc))) ≡ true
    step true last later = last
    step false last later = later

decimal_visible : (n : ℕ) → are_visible (decimal n) ≡ true
unfolding digits
decimal_visible n = digits_visible 64 n [] refl

-- ---- values

signed_visible : (z : ℤ) → are_visible (signed_decimal z) ≡ true
signed_visible (pos n) = decimal_visible n
signed_visible (negsuc n) = decimal_visible (suc n)

more_visible : (xs : List ℤ) → are_visible (more_words xs) ≡ true
more_visible [] = refl
more_visible (x ∷ xs) = both (codes "," ++ signed_decimal x) (more_words xs) (signed_visible x) (more_visible xs)

words_visible : (xs : List ℤ) → are_visible (words_text xs) ≡ true
words_visible [] = refl
words_visible (x ∷ xs) = both (signed_decimal x) (more_words xs) (signed_visible x) (more_visible xs)

value_visible : (v : Value) → are_visible (value_text v) ≡ true
value_visible v = words_visible (words_of v)

-- the digits of a mask
mask_visible : (w : ℕ) (xs : List ℕ) → are_visible (mask_text w xs) ≡ true
mask_visible w [] = refl
mask_visible w (x ∷ xs) = both (cond (w % 2 == 1) (codes "1") (codes "0")) (mask_text (w / 2) xs) (digit (w % 2 == 1)) (mask_visible (w / 2) xs)
  where
    digit : (b : Bool) → are_visible (cond b (codes "1") (codes "0")) ≡ true
    digit true = refl
    digit false = refl

-- ---- names

-- what holds of what is named by each that passes, and of what stands for none
look_holds : {X B : Type 0} (P : B → Type 0) (test : X → Bool) (f : X → B) (otherwise : B) → P otherwise → ((x : X) → test x ≡ true → P (f x))
    → (xs : List X) → list_all test xs ≡ true → (i : ℕ) → P (look xs i f otherwise)
look_holds P test f otherwise o h [] k i = o
look_holds P test f otherwise o h (x ∷ xs) k zero = h x (and_parts (test x) (list_all test xs) k).0
look_holds P test f otherwise o h (x ∷ xs) k (suc i) = look_holds P test f otherwise o h xs (and_parts (test x) (list_all test xs) k).1 i

look_visible : {X : Type 0} (test : X → Bool) (f : X → Letters) → ((x : X) → test x ≡ true → are_visible (f x) ≡ true) → (xs : List X) → list_all test xs ≡ true → (i : ℕ) → are_visible (look xs i f []) ≡ true
look_visible test f h xs k i = look_holds (λ t. are_visible t ≡ true) test f [] refl h xs k i

module _ (p : Plan) (r : IsNamed p) where
  instance_visible : (o : Option ℕ) → are_visible (instance_text p o) ≡ true
  instance_visible None = refl
  instance_visible (Some i) = look_visible is_path (λ (t : Letters). t) path_visible p.names r.paths i

  runnable_visible : (x : ℕ) → are_visible (runnable_text p x) ≡ true
  runnable_visible x = look_visible (λ (v : Runnable). is_name v.name) (λ (v : Runnable). instance_text p (Some v.instance) ++ codes ":" ++ v.name)
      (λ v h. both (instance_text p (Some v.instance) ++ codes ":") v.name (both (instance_text p (Some v.instance)) (codes ":") (instance_visible (Some v.instance)) refl) (name_visible v.name h))
      p.runnables r.runnables x

  caller_visible : (o : Option ℕ) → are_visible (caller_text p o) ≡ true
  caller_visible None = refl
  caller_visible (Some x) = runnable_visible x

  point_visible : (q : ℕ) → are_visible (point_text p q) ≡ true
  point_visible q = look_visible (λ (t : PointPlan). is_pair_name t.name) (λ (t : PointPlan). caller_text p t.runnable ++ codes "." ++ t.name)
      (λ t h. both (caller_text p t.runnable ++ codes ".") t.name (both (caller_text p t.runnable) (codes ".") (caller_visible t.runnable) refl) (pair_visible t.name h))
      p.points r.points q

  abbrev names_machine : MachinePlan → Bool
  names_machine n = is_pair_name n.name && list_all is_name n.modes

  machine_visible : (m : ℕ) → are_visible (machine_text p m) ≡ true
  machine_visible m = look_visible names_machine (λ (n : MachinePlan). instance_text p n.instance ++ codes "." ++ n.name)
      (λ n h. both (instance_text p n.instance ++ codes ".") n.name (both (instance_text p n.instance) (codes ".") (instance_visible n.instance) refl) (pair_visible n.name (and_parts (is_pair_name n.name) (list_all is_name n.modes) h).0))
      p.machines r.machines m

  key_visible : (runnable : ℕ) (point : Option ℕ) → are_visible (key_text p (record { runnable = runnable; point = point })) ≡ true
  key_visible x None = both (runnable_text p x) [] (runnable_visible x) refl
  key_visible x (Some q) = both (runnable_text p x) (codes "@" ++ point_text p q) (runnable_visible x) (point_visible q)

  pub actor_visible : (a : Actor) → are_visible (actor_text p a) ≡ true
  actor_visible Env = refl
  actor_visible (Machine m) = machine_visible m
  actor_visible (Act k) = key_visible k.runnable k.point

  elem_visible : (x : ℕ) → are_visible (elem_name p x) ≡ true
  elem_visible x = look_visible elem_passes (λ (e : ElemPlan). e.name) (λ e h. named e (is_variable e) h) p.elements r.elements x
    where
      named : (e : ElemPlan) (b : Bool) → cond b (is_name e.name) (is_pair_name e.name) ≡ true → are_visible e.name ≡ true
      named e true h = name_visible e.name h
      named e false h = pair_visible e.name h

  call_visible : (q : ℕ) → are_visible (point_name p q) ≡ true
  call_visible q = look_visible (λ (t : PointPlan). is_pair_name t.name) (λ (t : PointPlan). t.name) (λ t h. pair_visible t.name h) p.points r.points q

  area_visible : (x : ℕ) → are_visible (area_name p x) ≡ true
  area_visible x = look_visible (λ (a : AreaPlan). is_name a.name) (λ (a : AreaPlan). a.name) (λ a h. name_visible a.name h) p.areas r.areas x

  group_visible : (m : ℕ) → are_visible (machine_name p m) ≡ true
  group_visible m = look_visible names_machine (λ (n : MachinePlan). n.name) (λ n h. pair_visible n.name (and_parts (is_pair_name n.name) (list_all is_name n.modes) h).0) p.machines r.machines m

  port_visible : (x : ℕ) → are_visible (mode_port_name p x) ≡ true
  port_visible x = look_visible (λ (t : ModePortPlan). is_pair_name t.name) (λ (t : ModePortPlan). t.name) (λ t h. pair_visible t.name h) p.mode_ports r.mode_ports x

  event_visible : (e : ℕ) → are_visible (event_name p e) ≡ true
  event_visible e = look_visible (λ (v : EventPlan). is_name v.name) (λ (v : EventPlan). v.name) (λ v h. name_visible v.name h) p.events r.events e

  modes_named : (i : ℕ) → list_all is_name (look p.machines i (λ (n : MachinePlan). n.modes) []) ≡ true
  modes_named i = look_holds (λ ts. list_all is_name ts ≡ true) names_machine (λ (n : MachinePlan). n.modes) [] refl (λ n h. (and_parts (is_pair_name n.name) (list_all is_name n.modes) h).1) p.machines r.machines i

  mode_visible : (v : Version) (m : Option ℕ) (mode : ℕ) → are_visible (mode_text v p m mode) ≡ true
  mode_visible One m mode = decimal_visible mode
  mode_visible Two None mode = refl
  mode_visible Two (Some i) mode = look_holds (λ t. are_visible t ≡ true) is_name (λ (t : Letters). t) (codes "-") refl name_visible (look p.machines i (λ (n : MachinePlan). n.modes) []) (modes_named i) mode

  -- ---- the fields of a deed

  one : (a : Letters) → are_visible a ≡ true → list_all are_visible (a ∷ []) ≡ true
  one a h = and_from (are_visible a) true h refl

  two : (a b : Letters) → are_visible a ≡ true → are_visible b ≡ true → list_all are_visible (a ∷ b ∷ []) ≡ true
  two a b h k = and_from (are_visible a) (list_all are_visible (b ∷ [])) h (one b k)

  three : (a b c : Letters) → are_visible a ≡ true → are_visible b ≡ true → are_visible c ≡ true → list_all are_visible (a ∷ b ∷ c ∷ []) ≡ true
  three a b c h k l = and_from (are_visible a) (list_all are_visible (b ∷ c ∷ [])) h (two b c k l)

  start_visible : (event : ℕ) (point : Option ℕ) (value : Value) → list_all are_visible (start_fields p event point value) ≡ true
  start_visible event None value = one (event_name p event) (event_visible event)
  start_visible event (Some q) value = and_from (are_visible (event_name p event)) (list_all are_visible (codes "from" ∷ point_text p q ∷ value_text value ∷ [])) (event_visible event)
      (three (codes "from") (point_text p q) (value_text value) refl (point_visible q) (value_visible value))

  step_visible : (v : Version) (a : Actor) (s : Step) → list_all are_visible (step_fields v p a s) ≡ true
  step_visible v a (step.Close mode) = two (codes "close") (mode_text v p (machine_itself a) mode) refl (mode_visible v (machine_itself a) mode)
  step_visible v a step.Exit = refl
  step_visible v a step.Transition = refl
  step_visible v a step.Entry = refl
  step_visible v a step.Stable = refl

  yes_no : (b : Bool) (s t : Letters) → are_visible s ≡ true → are_visible t ≡ true → are_visible (cond b s t) ≡ true
  yes_no true s t h k = h
  yes_no false s t h k = k

  pub fields_visible : (v : Version) (a : Actor) (d : Deed) → list_all are_visible (fields_of v p a d) ≡ true
  fields_visible v a deed.Tick = refl
  fields_visible v a (deed.Start event point value) = start_visible event point value
  fields_visible v a (deed.Admit admitted) = one (cond admitted (codes "yes") (codes "no")) (yes_no admitted (codes "yes") (codes "no") refl refl)
  fields_visible v a (deed.Fetch x value) = two (elem_name p x) (value_text value) (elem_visible x) (value_visible value)
  fields_visible v a (deed.Write x value) = three (elem_name p x) (value_text value) (codes "0") (elem_visible x) (value_visible value) refl
  fields_visible v a (deed.Read x code value) = three (elem_name p x) (decimal code) (value_text value) (elem_visible x) (decimal_visible code) (value_visible value)
  fields_visible v a (deed.Invalidate x) = two (elem_name p x) (codes "0") (elem_visible x) refl
  fields_visible v a (deed.IsUpdated x updated) = two (elem_name p x) (cond updated (codes "1") (codes "0")) (elem_visible x) (yes_no updated (codes "1") (codes "0") refl refl)
  fields_visible v a (deed.Send x value code) = three (elem_name p x) (value_text value) (decimal code) (elem_visible x) (value_visible value) (decimal_visible code)
  fields_visible v a (deed.Receive x code value) = three (elem_name p x) (decimal code) (value_text value) (elem_visible x) (decimal_visible code) (value_visible value)
  fields_visible v a (deed.Ask q value code) = three (point_name p q) (value_text value) (decimal code) (call_visible q) (value_visible value) (decimal_visible code)
  fields_visible v a (deed.Answer q code value) = three (point_name p q) (decimal code) (value_text value) (call_visible q) (decimal_visible code) (value_visible value)
  fields_visible v a (deed.TakeResult q code value) = three (point_name p q) (decimal code) (value_text value) (call_visible q) (decimal_visible code) (value_visible value)
  fields_visible v a (deed.Return code value) = two (decimal code) (value_text value) (decimal_visible code) (value_visible value)
  fields_visible v a (deed.Enter x) = one (area_name p x) (area_visible x)
  fields_visible v a (deed.Leave x) = one (area_name p x) (area_visible x)
  fields_visible v a (deed.Switch m mode code) = three (machine_name p m) (mode_text v p (Some m) mode) (decimal code) (group_visible m) (mode_visible v (Some m) mode) (decimal_visible code)
  fields_visible v a (deed.Mode port mode) = two (mode_port_name p port) (mode_text v p (machine_of_port p port) mode) (port_visible port) (mode_visible v (machine_of_port p port) mode)
  fields_visible v a (deed.Phase s) = step_visible v a s
  fields_visible v a (deed.Publish x value) = two (elem_name p x) (value_text value) (elem_visible x) (value_visible value)
  fields_visible v a (deed.FetchAll l value) = two (decimal (position_of p l)) (value_text value) (decimal_visible (position_of p l)) (value_visible value)
  fields_visible v a (deed.PublishAll l written value) =
      three (decimal (position_of p l)) (mask_text written (elems_of p l)) (value_text value) (decimal_visible (position_of p l)) (mask_visible written (elems_of p l)) (value_visible value)
  fields_visible v a deed.End = refl

  word_visible : (d : Deed) → are_visible (word_of d) ≡ true
  word_visible deed.Tick = refl
  word_visible (deed.Start event point value) = refl
  word_visible (deed.Admit admitted) = refl
  word_visible (deed.Fetch x value) = refl
  word_visible (deed.Write x value) = refl
  word_visible (deed.Read x code value) = refl
  word_visible (deed.Invalidate x) = refl
  word_visible (deed.IsUpdated x updated) = refl
  word_visible (deed.Send x value code) = refl
  word_visible (deed.Receive x code value) = refl
  word_visible (deed.Ask q value code) = refl
  word_visible (deed.Answer q code value) = refl
  word_visible (deed.TakeResult q code value) = refl
  word_visible (deed.Return code value) = refl
  word_visible (deed.Enter x) = refl
  word_visible (deed.Leave x) = refl
  word_visible (deed.Switch m mode code) = refl
  word_visible (deed.Mode port mode) = refl
  word_visible (deed.Phase s) = refl
  word_visible (deed.Publish x value) = refl
  word_visible (deed.FetchAll l value) = refl
  word_visible (deed.PublishAll l written value) = refl
  word_visible deed.End = refl

  pub deed_visible : (v : Version) (a : Actor) (d : Deed) → list_all are_visible (word_of d ∷ fields_of v p a d) ≡ true
  deed_visible v a d = and_from (are_visible (word_of d)) (list_all are_visible (fields_of v p a d)) (word_visible d) (fields_visible v a d)
