-- What the comparison of two wishes tells.
use Rattle.std.proofs.Common.{◌≡◌, ℕ, ℤ, true, ◌&&◌, ◌==◌, List, refl, ◌∙◌, ap, subst}
use Rattle.std.specs.Bool.{Decides}
use Rattle.bus_semantics.specs.Common.{and_parts, and_from, eqb-true, eq-eqb, false≢true, same_words-Decides, same_words, Wanted, to_tick, to_start, to_admit, to_fetch, to_write, to_read}
use Rattle.bus_semantics.specs.Common.{to_invalidate, to_see_updated, to_send, to_receive, to_ask, to_hear, to_take_result, to_return, to_enter, to_leave, to_switch, to_see_mode, to_move_on}
use Rattle.bus_semantics.specs.Common.{to_publish, to_fetch_all, to_publish_all, to_end, same_wanted}

same_value : (a b : ℕ) (v w : List ℤ) (f : ℕ → List ℤ → Wanted) → ((a == b) && same_words v w) ≡ true → f a v ≡ f b w
same_value a b v w f e =
    let parts = and_parts (a == b) (same_words v w) e in
    let numbers : a ≡ b = eqb-true a b parts.0 in
    let words : v ≡ w = (same_words-Decides v w).0 parts.1 in
    λ i. f (numbers i) (words i)

same_one : (a b : ℕ) (f : ℕ → Wanted) → (a == b) ≡ true → f a ≡ f b
same_one a b f e = ap f (eqb-true a b e)

pub same_wish : (v w : Wanted) → same_wanted v w ≡ true → v ≡ w
same_wish to_tick to_tick e = refl
same_wish (to_start a) (to_start b) e = same_one a b to_start e
same_wish (to_admit a) (to_admit b) e = same_one a b to_admit e
same_wish (to_fetch a) (to_fetch b) e = same_one a b to_fetch e
same_wish (to_write a v) (to_write b w) e = same_value a b v w to_write e
same_wish (to_read a) (to_read b) e = same_one a b to_read e
same_wish (to_invalidate a) (to_invalidate b) e = same_one a b to_invalidate e
same_wish (to_see_updated a) (to_see_updated b) e = same_one a b to_see_updated e
same_wish (to_send a v) (to_send b w) e = same_value a b v w to_send e
same_wish (to_receive a) (to_receive b) e = same_one a b to_receive e
same_wish (to_ask a v) (to_ask b w) e = same_value a b v w to_ask e
same_wish (to_hear a) (to_hear b) e = same_one a b to_hear e
same_wish (to_take_result a) (to_take_result b) e = same_one a b to_take_result e
same_wish (to_return a v) (to_return b w) e = same_value a b v w to_return e
same_wish (to_enter a) (to_enter b) e = same_one a b to_enter e
same_wish (to_leave a) (to_leave b) e = same_one a b to_leave e
same_wish (to_switch a m) (to_switch b n) e =
    let parts = and_parts (a == b) (m == n) e in
    let machines : a ≡ b = eqb-true a b parts.0 in
    let modes : m ≡ n = eqb-true m n parts.1 in
    λ i. to_switch (machines i) (modes i)
same_wish (to_see_mode a) (to_see_mode b) e = same_one a b to_see_mode e
same_wish to_move_on to_move_on e = refl
same_wish (to_publish a v) (to_publish b w) e = same_value a b v w to_publish e
same_wish (to_fetch_all a) (to_fetch_all b) e = same_one a b to_fetch_all e
same_wish (to_publish_all a m v) (to_publish_all b n w) e =
    let parts = and_parts (a == b) ((m == n) && same_words v w) e in
    let lists : a ≡ b = eqb-true a b parts.0 in
    let rest : to_publish_all b m v ≡ to_publish_all b n w = same_value m n v w (to_publish_all b) parts.1 in
    ap (λ l. to_publish_all l m v) lists ∙ rest
same_wish (to_end a) (to_end b) e = same_one a b to_end e
same_wish v w e = absurd (false≢true e)

words_same : (a : ℕ) (v : List ℤ) → ((a == a) && same_words v v) ≡ true
words_same a v = and_from (a == a) (same_words v v) (eq-eqb a a refl) ((same_words-Decides v v).1 refl)

pub wish_itself : (w : Wanted) → same_wanted w w ≡ true
wish_itself to_tick = refl
wish_itself (to_start a) = eq-eqb a a refl
wish_itself (to_admit a) = eq-eqb a a refl
wish_itself (to_fetch a) = eq-eqb a a refl
wish_itself (to_write a v) = words_same a v
wish_itself (to_read a) = eq-eqb a a refl
wish_itself (to_invalidate a) = eq-eqb a a refl
wish_itself (to_see_updated a) = eq-eqb a a refl
wish_itself (to_send a v) = words_same a v
wish_itself (to_receive a) = eq-eqb a a refl
wish_itself (to_ask a v) = words_same a v
wish_itself (to_hear a) = eq-eqb a a refl
wish_itself (to_take_result a) = eq-eqb a a refl
wish_itself (to_return a v) = words_same a v
wish_itself (to_enter a) = eq-eqb a a refl
wish_itself (to_leave a) = eq-eqb a a refl
wish_itself (to_switch a b) = and_from (a == a) (b == b) (eq-eqb a a refl) (eq-eqb b b refl)
wish_itself (to_see_mode a) = eq-eqb a a refl
wish_itself to_move_on = refl
wish_itself (to_publish a v) = words_same a v
wish_itself (to_fetch_all a) = eq-eqb a a refl
wish_itself (to_publish_all a m v) = and_from (a == a) ((m == m) && same_words v v) (eq-eqb a a refl) (words_same m v)
wish_itself (to_end a) = eq-eqb a a refl

pub same_wanted-Decides : (v w : Wanted) → Decides (same_wanted v w) (v ≡ w)
same_wanted-Decides v w = (same_wish v w, λ e. subst (λ u. same_wanted v u ≡ true) e (wish_itself v))
