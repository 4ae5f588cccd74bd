-- What the comparison of two actors, two deeds and two entries tells.
use Rattle.std.proofs.Common.{◌≡◌, ℕ, Bool, true, ◌&&◌, ◌==◌, Option, Some, None, refl, ap, subst}
use Rattle.std.specs.Bool.{Decides, beq}
use Rattle.std.specs.Cmp.{booleans_Decides}
use Rattle.bus_semantics.specs.Common.{and_parts, and_from, eqb-true, eq-eqb, false≢true, ActKey, Step, Value, same_value-Decides, same_key, same_number, same_words, words_of}
use Rattle.rte_value.specs.declared.kinds.Step.TheVariants as step
use Rattle.bus_semantics.specs.declared.entries.Actor.{Actor}
use Rattle.bus_semantics.specs.declared.entries.Actor.TheVariants.{Env, Machine, Act}
use Rattle.bus_semantics.specs.declared.entries.Deed.{Deed}
use Rattle.bus_semantics.specs.declared.entries.Deed.TheVariants as deed
use Rattle.bus_semantics.specs.declared.entries.Entry.{Entry}
use Rattle.same_entries.specs.Sames.{same_answer, same_answered, same_deed, same_listed, same_maker, same_step}

-- ---- parts

number : (a b : Option ℕ) → same_number a b ≡ true → a ≡ b
number None None e = refl
number (Some a) (Some b) e = ap (λ n. Some n) (eqb-true a b e)
number a b e = absurd (false≢true e)

number_itself : (a : Option ℕ) → same_number a a ≡ true
number_itself None = refl
number_itself (Some a) = eq-eqb a a refl

-- what is compared of a value
abbrev same_value : Value → Value → Bool
same_value v w = same_words (words_of v) (words_of w)

value_itself : (v : Value) → same_value v v ≡ true
value_itself v = (same_value-Decides v v).1 refl

truth_itself : (y : Bool) → beq y y ≡ true
truth_itself y = (booleans_Decides y y).1 refl

one : (a b : ℕ) (f : ℕ → Deed) → (a == b) ≡ true → f a ≡ f b
one a b f e = ap f (eqb-true a b e)

two : (a b m n : ℕ) (f : ℕ → ℕ → Deed) → ((a == b) && (m == n)) ≡ true → f a m ≡ f b n
two a b m n f e =
    let parts = and_parts (a == b) (m == n) e in
    let first : a ≡ b = eqb-true a b parts.0 in
    let second : m ≡ n = eqb-true m n parts.1 in
    λ i. f (first i) (second i)

valued : (a b : ℕ) (v w : Value) (f : ℕ → Value → Deed) → ((a == b) && same_value v w) ≡ true → f a v ≡ f b w
valued a b v w f e =
    let parts = and_parts (a == b) (same_value v w) e in
    let numbers : a ≡ b = eqb-true a b parts.0 in
    let values : v ≡ w = (same_value-Decides v w).0 parts.1 in
    λ i. f (numbers i) (values i)

answered : (a b c d : ℕ) (v w : Value) (f : ℕ → ℕ → Value → Deed) → ((a == b) && same_answer (Some (c, v)) (Some (d, w))) ≡ true → f a c v ≡ f b d w
answered a b c d v w f e =
    let parts = and_parts (a == b) ((c == d) && same_value v w) e in
    let numbers : a ≡ b = eqb-true a b parts.0 in
    let more = and_parts (c == d) (same_value v w) parts.1 in
    let codes : c ≡ d = eqb-true c d more.0 in
    let values : v ≡ w = (same_value-Decides v w).0 more.1 in
    λ i. f (numbers i) (codes i) (values i)

valued_itself : (a : ℕ) (v : Value) → ((a == a) && same_value v v) ≡ true
valued_itself a v = and_from (a == a) (same_value v v) (eq-eqb a a refl) (value_itself v)

answered_itself : (a c : ℕ) (v : Value) → ((a == a) && ((c == c) && same_value v v)) ≡ true
answered_itself a c v = and_from (a == a) ((c == c) && same_value v v) (eq-eqb a a refl) (valued_itself c v)

-- ---- deeds

phase : (s t : Step) → same_step s t ≡ true → s ≡ t
phase (step.Close m) (step.Close n) e = ap (λ k. step.Close k) (eqb-true m n e)
phase step.Exit step.Exit e = refl
phase step.Transition step.Transition e = refl
phase step.Entry step.Entry e = refl
phase step.Stable step.Stable e = refl
phase s t e = absurd (false≢true e)

phase_itself : (s : Step) → same_step s s ≡ true
phase_itself (step.Close m) = eq-eqb m m refl
phase_itself step.Exit = refl
phase_itself step.Transition = refl
phase_itself step.Entry = refl
phase_itself step.Stable = refl

listed_deed : (d f : Deed) → same_listed d f ≡ true → d ≡ f
listed_deed (deed.FetchAll a v) (deed.FetchAll b w) e = valued a b v w (λ n value. deed.FetchAll n value) e
listed_deed (deed.PublishAll a m v) (deed.PublishAll b n w) e =
    let parts = and_parts (a == b) ((m == n) && same_value v w) e in
    let lists : a ≡ b = eqb-true a b parts.0 in
    let more = and_parts (m == n) (same_value v w) parts.1 in
    let marks : m ≡ n = eqb-true m n more.0 in
    let values : v ≡ w = (same_value-Decides v w).0 more.1 in
    λ i. deed.PublishAll (lists i) (marks i) (values i)
listed_deed d f e = absurd (false≢true e)

answered_deed : (d f : Deed) → same_answered d f ≡ true → d ≡ f
answered_deed (deed.Start a q v) (deed.Start b r w) e =
    let parts = and_parts (a == b) (same_number q r && same_value v w) e in
    let more = and_parts (same_number q r) (same_value v w) parts.1 in
    let events : a ≡ b = eqb-true a b parts.0 in
    let points : q ≡ r = number q r more.0 in
    let values : v ≡ w = (same_value-Decides v w).0 more.1 in
    λ i. deed.Start (events i) (points i) (values i)
answered_deed (deed.Read a c v) (deed.Read b d w) e = answered a b c d v w (λ n code value. deed.Read n code value) e
answered_deed (deed.Send a v c) (deed.Send b w d) e = answered a b c d v w (λ n code value. deed.Send n value code) e
answered_deed (deed.Receive a c v) (deed.Receive b d w) e = answered a b c d v w (λ n code value. deed.Receive n code value) e
answered_deed (deed.Ask a v c) (deed.Ask b w d) e = answered a b c d v w (λ n code value. deed.Ask n value code) e
answered_deed (deed.Answer a c v) (deed.Answer b d w) e = answered a b c d v w (λ n code value. deed.Answer n code value) e
answered_deed (deed.TakeResult a c v) (deed.TakeResult b d w) e = answered a b c d v w (λ n code value. deed.TakeResult n code value) e
answered_deed (deed.Return c v) (deed.Return d w) e = valued c d v w (λ code value. deed.Return code value) e
answered_deed d f e = listed_deed d f e

equal_deed : (d f : Deed) → same_deed d f ≡ true → d ≡ f
equal_deed deed.Tick deed.Tick e = refl
equal_deed (deed.Admit y) (deed.Admit z) e = ap (λ b. deed.Admit b) ((booleans_Decides y z).0 e)
equal_deed (deed.Fetch a v) (deed.Fetch b w) e = valued a b v w (λ n value. deed.Fetch n value) e
equal_deed (deed.Write a v) (deed.Write b w) e = valued a b v w (λ n value. deed.Write n value) e
equal_deed (deed.Invalidate a) (deed.Invalidate b) e = one a b (λ n. deed.Invalidate n) e
equal_deed (deed.IsUpdated a y) (deed.IsUpdated b z) e =
    let parts = and_parts (a == b) (beq y z) e in
    let elems : a ≡ b = eqb-true a b parts.0 in
    let truths : y ≡ z = (booleans_Decides y z).0 parts.1 in
    λ i. deed.IsUpdated (elems i) (truths i)
equal_deed (deed.Enter a) (deed.Enter b) e = one a b (λ n. deed.Enter n) e
equal_deed (deed.Leave a) (deed.Leave b) e = one a b (λ n. deed.Leave n) e
equal_deed (deed.Switch a m c) (deed.Switch b n d) e =
    let parts = and_parts (a == b) ((m == n) && (c == d)) e in
    let machines : a ≡ b = eqb-true a b parts.0 in
    let more = and_parts (m == n) (c == d) parts.1 in
    let modes : m ≡ n = eqb-true m n more.0 in
    let codes : c ≡ d = eqb-true c d more.1 in
    λ i. deed.Switch (machines i) (modes i) (codes i)
equal_deed (deed.Mode a m) (deed.Mode b n) e = two a b m n (λ port mode. deed.Mode port mode) e
equal_deed (deed.Phase s) (deed.Phase t) e = ap (λ s. deed.Phase s) (phase s t e)
equal_deed (deed.Publish a v) (deed.Publish b w) e = valued a b v w (λ n value. deed.Publish n value) e
equal_deed deed.End deed.End e = refl
equal_deed d f e = answered_deed d f e

deed_itself : (d : Deed) → same_deed d d ≡ true
deed_itself deed.Tick = refl
deed_itself (deed.Start a q v) =
    and_from (a == a) (same_number q q && same_value v v) (eq-eqb a a refl) (and_from (same_number q q) (same_value v v) (number_itself q) (value_itself v))
deed_itself (deed.Admit y) = truth_itself y
deed_itself (deed.Fetch a v) = valued_itself a v
deed_itself (deed.Write a v) = valued_itself a v
deed_itself (deed.Read a c v) = answered_itself a c v
deed_itself (deed.Invalidate a) = eq-eqb a a refl
deed_itself (deed.IsUpdated a y) = and_from (a == a) (beq y y) (eq-eqb a a refl) (truth_itself y)
deed_itself (deed.Send a v c) = answered_itself a c v
deed_itself (deed.Receive a c v) = answered_itself a c v
deed_itself (deed.Ask a v c) = answered_itself a c v
deed_itself (deed.Answer a c v) = answered_itself a c v
deed_itself (deed.TakeResult a c v) = answered_itself a c v
deed_itself (deed.Return c v) = valued_itself c v
deed_itself (deed.Enter a) = eq-eqb a a refl
deed_itself (deed.Leave a) = eq-eqb a a refl
deed_itself (deed.Switch a m c) = and_from (a == a) ((m == m) && (c == c)) (eq-eqb a a refl) (and_from (m == m) (c == c) (eq-eqb m m refl) (eq-eqb c c refl))
deed_itself (deed.Mode a m) = and_from (a == a) (m == m) (eq-eqb a a refl) (eq-eqb m m refl)
deed_itself (deed.Phase s) = phase_itself s
deed_itself (deed.Publish a v) = valued_itself a v
deed_itself (deed.FetchAll a v) = valued_itself a v
deed_itself (deed.PublishAll a m v) = answered_itself a m v
deed_itself deed.End = refl

-- ---- actors

key : (j k : ActKey) → same_key j k ≡ true → j ≡ k
key j k e =
    let two = and_parts (j.runnable == k.runnable) (same_number j.point k.point) e in
    let runnables = eqb-true j.runnable k.runnable two.0 in
    let points = number j.point k.point two.1 in
    λ i. record { runnable = runnables i; point = points i }

equal_maker : (a b : Actor) → same_maker a b ≡ true → a ≡ b
equal_maker Env Env e = refl
equal_maker (Machine m) (Machine n) e = ap (λ k. Machine k) (eqb-true m n e)
equal_maker (Act j) (Act k) e = ap (λ k. Act k) (key j k e)
equal_maker a b e = absurd (false≢true e)

maker_itself : (a : Actor) → same_maker a a ≡ true
maker_itself Env = refl
maker_itself (Machine m) = eq-eqb m m refl
maker_itself (Act k) = and_from (k.runnable == k.runnable) (same_number k.point k.point) (eq-eqb k.runnable k.runnable refl) (number_itself k.point)

-- ---- entries

pub same_entry-Decides : (a b : Entry) → Decides (same_maker a.actor b.actor && same_deed a.deed b.deed) (a ≡ b)
same_entry-Decides a b = (equal, λ e. subst (λ x. (same_maker a.actor x.actor && same_deed a.deed x.deed) ≡ true) e itself)
  where
    equal : (same_maker a.actor b.actor && same_deed a.deed b.deed) ≡ true → a ≡ b
    equal e =
        let parts = and_parts (same_maker a.actor b.actor) (same_deed a.deed b.deed) e in
        let actors = equal_maker a.actor b.actor parts.0 in
        let deeds = equal_deed a.deed b.deed parts.1 in
        λ i. record { actor = actors i; deed = deeds i }

    itself : (same_maker a.actor a.actor && same_deed a.deed a.deed) ≡ true
    itself = and_from (same_maker a.actor a.actor) (same_deed a.deed a.deed) (maker_itself a.actor) (deed_itself a.deed)
