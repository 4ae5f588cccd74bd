-- The text of a pair's run, behind its headers.
use Rattle.std.proofs.Common.{◌≡◌, ◌≢◌, ℕ, true, List, [], Option, refl, sym, subst, append-nil}
use Rattle.bus_semantics.specs.Common.{All, list_all, Plan, plan_of, item_fits, IsLegalRun, Ordered, Session, history_of, IsSound}
use Rattle.rte_text.specs.Sinks.{AppendsWhereTold, AppendsPrefixWhereTold}
use Rattle.rte_text.specs.Told.{appends_both, prefix_after, prefix_first}
use Rattle.bus_laws.specs.Common.{Line, Mapping}
use Rattle.core_runtime.specs.Nodes.{NodeState, IsLawfulNode}
use Rattle.script_run.specs.Quieting.{IdlesAreQuiet}
use Rattle.script_run.specs.Standing.{StandsIn, outside}
use Rattle.script_run.proofs.Items.{items_fit}
use Rattle.script_run.proofs.Quieting.{QuietLaw, idles_are_quiet}
use Rattle.script_run.proofs.Sessions.{run_from_nothing}
use Rattle.signal_link.specs.declared.link_elem.LinkElem.{LinkElem}
use Rattle.pair_run.specs.Common.{PairRun, Finished, Failed, LinkFailed, Memory, Follows, Joint, one, two, side_of, joint_lines, IsPairLine, CarryBoth, CutsBoth, Stand, StandBoth}
use Rattle.pair_run.specs.Joint.{headers}
use Rattle.pair_run.specs.Running.{PrintsBegunPair, PrintsPair}
use Rattle.pair_run.proofs.Completing.{follows_may}

-- nothing has happened to either
stands_first : (a : NodeState) → IsLawfulNode a [] → StandsIn (plan_of a.plan) a.mapping [] [] outside a []
stands_first a lawful = record { did = refl; placed = refl; at = refl; sized = refl; legal = tt; plan = refl; mapping = refl; lawful = lawful }

pub begun : (a x : NodeState) → IsSound (plan_of a.plan) a.mapping → IsSound (plan_of x.plan) x.mapping → IsLawfulNode a [] → IsLawfulNode x []
    → StandBoth (plan_of a.plan) a.mapping (plan_of x.plan) x.mapping a x []
begun a x sound other lawful also = record {
  sound_one = sound;
  sound_two = other;
  on_one = ([], stands_first a lawful);
  on_two = ([], stands_first x also);
  limits = refl;
}

pub stand_begun : (a x : NodeState) → IsSound (plan_of a.plan) a.mapping → IsSound (plan_of x.plan) x.mapping → IsLawfulNode a [] → IsLawfulNode x [] → Stand a x
stand_begun a x sound other lawful also = record {
  p = plan_of a.plan;
  m = a.mapping;
  q = plan_of x.plan;
  n = x.mapping;
  joint = [];
  stand = begun a x sound other lawful also;
}

-- what one side did, from nothing
record IsOneSide (p : Plan) (m : Mapping) (node : NodeState) (s : Session) : Type 0 where
  fit : list_all (item_fits p) s ≡ true
  legal : IsLegalRun p m s
  quiet : IdlesAreQuiet p [] s
  lawful : IsLawfulNode node (history_of s)

side_is : QuietLaw → (p : Plan) (m : Mapping) (orders : List Ordered) (node : NodeState) (s : Session) → IsSound p m → StandsIn p m [] orders outside node s → IsOneSide p m node s
side_is quiet p m orders node s sound stands = record {
  fit = items_fit p m [] s stands.legal stands.sized;
  legal = run_from_nothing p m s stands.legal;
  quiet = idles_are_quiet quiet p m sound [] tt s stands.legal;
  lawful = subst (IsLawfulNode node) (append-nil (history_of s)) stands.lawful;
}

module _ (links : List LinkElem) (script : List Line) (a b x y : NodeState) (before between now : Option (List ℕ))
    (sound : IsSound (plan_of a.plan) a.mapping) (other : IsSound (plan_of x.plan) x.mapping) (lawful : IsLawfulNode a []) (also : IsLawfulNode x [])
    (put : AppendsWhereTold before between headers) where
  abbrev p : Plan
  p = plan_of a.plan

  abbrev q : Plan
  q = plan_of x.plan

  pub prints : QuietLaw → CarryBoth (Follows links script) Finished a b x y between now → PrintsPair p a.mapping q x.mapping links script b y before now
  prints quiet f =
      let d = f p a.mapping q x.mapping [] (begun a x sound other lawful also) in
      let stand = subst (StandBoth p a.mapping q x.mapping b y) (append-nil d.items) d.stand in
      let first = side_is quiet p a.mapping stand.on_one.0 b (side_of one d.items) sound stand.on_one.1 in
      let second = side_is quiet q x.mapping stand.on_two.0 y (side_of two d.items) other stand.on_two.1 in
      record {
        joint = d.items;
        run = record { follows = d.is; first = first.legal; second = second.legal };
        fit_one = first.fit;
        fit_two = second.fit;
        quiet_one = first.quiet;
        quiet_two = second.quiet;
        lawful_one = first.lawful;
        lawful_two = second.lawful;
        put = appends_both before between now headers (joint_lines p q d.items) put d.put;
      }

  cut_off : CutsBoth (Follows links script) p a.mapping q x.mapping [] between now → PrintsBegunPair p a.mapping q x.mapping links script before now
  cut_off c = record {
    joint = c.items;
    run = record {
      later = c.later;
      follows = c.is;
      first = subst (λ (j : Joint). IsLegalRun p a.mapping (side_of one j)) (append-nil c.items) c.legal_one;
      second = subst (λ (j : Joint). IsLegalRun q x.mapping (side_of two j)) (append-nil c.items) c.legal_two;
    };
    put = prefix_after before headers put c.put;
  }

  pub prints_begun : (answer : PairRun) → answer ≢ Finished → CarryBoth (Follows links script) answer a b x y between now → PrintsBegunPair p a.mapping q x.mapping links script before now
  prints_begun Finished cut f = absurd (cut refl)
  prints_begun Failed cut f = cut_off (f p a.mapping q x.mapping [] (begun a x sound other lawful also))
  prints_begun LinkFailed cut f = cut_off (f p a.mapping q x.mapping [] (begun a x sound other lawful also))
  prints_begun Memory cut f = cut_off (f p a.mapping q x.mapping [] (begun a x sound other lawful also))

-- the headers were cut off
pub prints_headers : (p : Plan) (m : Mapping) (q : Plan) (n : Mapping) (links : List LinkElem) (script : List Line) (before now : Option (List ℕ))
    → All (IsPairLine p links) script → AppendsPrefixWhereTold before now headers → PrintsBegunPair p m q n links script before now
prints_headers p m q n links script before now all put =
    let may = follows_may links p script (λ k d h. (all k d h).carriable) in
    record {
      joint = [];
      run = record { later = may.0; follows = subst (Follows links script) (sym (append-nil may.0)) may.1; first = tt; second = tt };
      put = prefix_first [] put;
    }
