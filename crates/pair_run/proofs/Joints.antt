-- Joint sessions, one behind the other: what is of each side, and their lines.
use Rattle.std.proofs.Common.{◌≡◌, Bool, true, false, cond, [], ◌∷◌, ◌++◌, refl, sym, ap, ◌∙◌, append_assoc, append-nil}
use Rattle.bus_semantics.specs.declared.version.Version.TheVariants as version
use Rattle.bus_semantics.specs.Common.{Plan, Session, item_text}
use Rattle.script_run.specs.declared.writing.Writing.{Writing}
use Rattle.script_run.specs.Texts.{lines_of}
use Rattle.pair_run.specs.Common.{Then, Joint, Side, one, two, side_of, all_on, prefix_of, joint_lines, Writes}
use Rattle.pair_run.specs.Joint.{same_side, plan_at}

pub side-append : (k : Side) (a b : Joint) → side_of k (a ++ b) ≡ side_of k a ++ side_of k b
side-append k [] b = refl
side-append k (i ∷ a) b = step (same_side k i.0) (side-append k a b)
  where
    step : (c : Bool) → side_of k (a ++ b) ≡ side_of k a ++ side_of k b
        → cond c (i.1 ∷ side_of k (a ++ b)) (side_of k (a ++ b)) ≡ cond c (i.1 ∷ side_of k a) (side_of k a) ++ side_of k b
    step true ih = ap (λ (s : Session). i.1 ∷ s) ih
    step false ih = ih

pub one-of_one : (s : Session) → side_of one (all_on one s) ≡ s
one-of_one [] = refl
one-of_one (i ∷ s) = ap (λ (t : Session). i ∷ t) (one-of_one s)

pub two-of_two : (s : Session) → side_of two (all_on two s) ≡ s
two-of_two [] = refl
two-of_two (i ∷ s) = ap (λ (t : Session). i ∷ t) (two-of_two s)

pub two-of_one : (s : Session) → side_of two (all_on one s) ≡ []
two-of_one [] = refl
two-of_one (i ∷ s) = two-of_one s

pub one-of_two : (s : Session) → side_of one (all_on two s) ≡ []
one-of_two [] = refl
one-of_two (i ∷ s) = one-of_two s

pub all-append : (k : Side) (a b : Session) → all_on k (a ++ b) ≡ all_on k a ++ all_on k b
all-append k [] b = refl
all-append k (i ∷ a) b = ap (λ (j : Joint). (k, i) ∷ j) (all-append k a b)

-- what is of a side behind what was before
pub one-behind : (s : Session) (j : Joint) → side_of one (all_on one s ++ j) ≡ s ++ side_of one j
one-behind s j = side-append one (all_on one s) j ∙ ap (λ (t : Session). t ++ side_of one j) (one-of_one s)

pub two-behind : (s : Session) (j : Joint) → side_of two (all_on two s ++ j) ≡ s ++ side_of two j
two-behind s j = side-append two (all_on two s) j ∙ ap (λ (t : Session). t ++ side_of two j) (two-of_two s)

pub two-beside : (s : Session) (j : Joint) → side_of two (all_on one s ++ j) ≡ side_of two j
two-beside s j = side-append two (all_on one s) j ∙ ap (λ (t : Session). t ++ side_of two j) (two-of_one s)

pub one-beside : (s : Session) (j : Joint) → side_of one (all_on two s ++ j) ≡ side_of one j
one-beside s j = side-append one (all_on two s) j ∙ ap (λ (t : Session). t ++ side_of one j) (one-of_two s)

-- ---- lines

pub lines-append : (p q : Plan) (newer older : Joint) → joint_lines p q (newer ++ older) ≡ joint_lines p q older ++ joint_lines p q newer
lines-append p q [] older = sym (append-nil (joint_lines p q older))
lines-append p q (i ∷ newer) older =
    ap (λ t. t ++ (prefix_of i.0 ++ item_text version.Two (plan_at i.0 p q) i.1)) (lines-append p q newer older)
    ∙ append_assoc (joint_lines p q older) (joint_lines p q newer) (prefix_of i.0 ++ item_text version.Two (plan_at i.0 p q) i.1)

pub lines-all : (k : Side) (w : Writing) (p q : Plan) (s : Session) → Writes k w → joint_lines p q (all_on k s) ≡ lines_of w (plan_at k p q) s
lines-all k w p q [] is = refl
lines-all k w p q (i ∷ s) is =
    ap (λ t. t ++ (prefix_of k ++ item_text version.Two (plan_at k p q) i)) (lines-all k w p q s is)
    ∙ ap (λ t. lines_of w (plan_at k p q) s ++ (t ++ item_text version.Two (plan_at k p q) i)) (sym is.behind)
    ∙ ap (λ v. lines_of w (plan_at k p q) s ++ (w.prefix.now ++ item_text v (plan_at k p q) i)) (sym is.spelt)

-- ---- one after the other

pub then_both : (A B : Joint → Type 0) (first rest : Joint) → A first → B rest → Then A B (rest ++ first)
then_both A B first rest a b = record { first = first; rest = rest; is = refl; before = a; after = b }

-- in either way
pub then_onto : (A B C : Joint → Type 0) (j : Joint) → Then A (Then B C) j → Then (Then A B) C j
then_onto A B C j t = record {
  first = t.after.first ++ t.first;
  rest = t.after.rest;
  is = t.is ∙ ap (λ (r : Joint). r ++ t.first) t.after.is ∙ append_assoc t.after.rest t.after.first t.first;
  before = then_both A B t.first t.after.first t.before t.after.before;
  after = t.after.after;
}
