-- Where two nodes stand on the way.
use Rattle.std.proofs.Common.{◌≡◌, ◌<◌, ℕ, ℤ, true, List, ◌++◌, length, Option, Some, sym, ap, ◌∙◌, subst, arith}
use Rattle.bus_semantics.specs.Common.{slice_get, slice_get_within, wish_fits, Plan, plan_of, to_receive, to_send}
use Rattle.bus_semantics.specs.declared.entries.Actor.TheVariants.{Env}
use Rattle.pair_run.specs.Common.{takes, Finished, Joint, links_of, CarryBoth, Stand}
use Rattle.core_runtime.specs.Nodes.{NodeState}
use Rattle.signal_link.specs.declared.link_elem.LinkElem.{LinkElem}
use Rattle.signal_link.specs.Links as link
use Rattle.signal_link.specs.Unframing.{IsGood, Kept, fresh}
use Rattle.pair_run.proofs.Linking.{is_link_of, link_takes, links_are_few, links_are_of_words, receives, sends}

-- what goes on goes on to where both stand
pub stand_on : (kind : Joint → Type 0) (a b x y : NodeState) (before now : Option (List ℕ)) → Stand a x → CarryBoth kind Finished a b x y before now → Stand b y
stand_on kind a b x y before now s f =
    let d = f s.p s.m s.q s.n s.joint s.stand in
    record { p = s.p; m = s.m; q = s.q; n = s.n; joint = d.items ++ s.joint; stand = d.stand }

pub few_between : (a x : NodeState) → Stand a x → length (links_of (plan_of a.plan) (plan_of x.plan)) < 65537
few_between a x s =
    let few = links_are_few s.p s.q s.m s.stand.sound_one in
    let all = subst (λ (p : Plan). length (links_of p s.q) < 65537) (sym s.stand.on_one.1.plan) (let n : length (links_of s.p s.q) < 65537 = omega (arith, few) in n) in
    subst (λ (q : Plan). length (links_of (plan_of a.plan) q) < 65537) (sym s.stand.on_two.1.plan) all

pub word_limits : (a x : NodeState) → Stand a x → link.AreOfWords (links_of (plan_of a.plan) (plan_of x.plan))
word_limits a x s =
    subst (λ (q : Plan). link.AreOfWords (links_of (plan_of a.plan) q)) (sym s.stand.on_two.1.plan)
    (subst (λ (p : Plan). link.AreOfWords (links_of p s.q)) (sym s.stand.on_one.1.plan) (links_are_of_words s.p s.q s.m s.stand.sound_one))

-- a value of the first node's element makes a good frame
pub good_value : (a x : NodeState) (k : ℕ) (l : LinkElem) (ws : List ℤ) → Stand a x → slice_get (links_of (plan_of a.plan) (plan_of x.plan)) k ≡ Some l
    → takes (plan_of a.plan) l.out_elem ws ≡ true → IsGood (links_of (plan_of a.plan) (plan_of x.plan)) k ws
good_value a x k l ws s at takes =
    let few = few_between a x s in
    let within = slice_get_within (links_of (plan_of a.plan) (plan_of x.plan)) k l at in
    let is = is_link_of (plan_of a.plan) (plan_of x.plan) k l at in
    record { link = l; linked = at; numbered = omega (arith, few, within); taken = link_takes (plan_of a.plan) (plan_of x.plan) l ws is takes }

-- and the second node's environment may send it
pub may_send : (p q : Plan) (k : ℕ) (l : LinkElem) (ws : List ℤ) → slice_get (links_of p q) k ≡ Some l → takes p l.out_elem ws ≡ true → wish_fits q Env (to_send l.in_elem ws) ≡ true
may_send p q k l ws at takes =
    let is = is_link_of p q k l at in
    sends p q l ws is (link_takes p q l ws is takes)

-- ---- what the unframer has are the links

pub in_links : (p q : Plan) (u : Kept) (k : ℕ) (l : LinkElem) → u ≡ fresh (links_of p q) → slice_get u.links k ≡ Some l → slice_get (links_of p q) k ≡ Some l
in_links p q u k l is at = sym (ap (λ (v : Kept). slice_get v.links k) is) ∙ at

pub may_receive : (p q : Plan) (u : Kept) (k : ℕ) (l : LinkElem) → u ≡ fresh (links_of p q) → slice_get u.links k ≡ Some l → wish_fits p Env (to_receive l.out_elem) ≡ true
may_receive p q u k l is at = receives p q l (is_link_of p q k l (in_links p q u k l is at))
