-- One call after the other.
use Rattle.std.proofs.Common.{◌≡◌, ℕ, ◌+◌, ◌<◌, List, [], ◌∷◌, ◌++◌, length, get_or, drop, false, cond, Some, sym, ap, ◌∙◌, subst, true≢false, append_assoc}
use Rattle.std.proofs.lemmas.List.{at_drop_more}
use Rattle.plan_text.specs.declared.calls.Call.{Call}
use Rattle.plan_text.specs.declared.header_listing.Noted.{Noted}
use Rattle.plan_text.specs.declared.header_listing.Noted.TheVariants.{Known, New, Clashing}
use Rattle.plan_text.specs.Calls.{all_seen, seen}
use Rattle.plan_text.specs.Listing.{each_once, first_clash, has_name}
use Rattle.plan_text.specs.Noting.{Notes, is_clashing}
use Rattle.plan_text.specs.Targets.{Target, name_of}
use Rattle.plan_text.proofs.Names.{new_is_not_among}
use Rattle.plan_text.proofs.Unseen.{none_seen, unseen, unseen_known, unseen_new}

-- of all calls those before are kept, and these are left; no two names before clash
pub record Walks (before left all : List Target) : Type 0 where
  pub whole : before ++ unseen before left ≡ all
  pub clash : first_clash before (unseen before left) ≡ first_clash [] all

-- where nothing is kept, and where nothing is left
walk_begun : (ts : List Target) → Walks [] ts (each_once ts)
walk_begun ts = record { whole = none_seen ts; clash = ap (first_clash []) (none_seen ts) }

pub walk_from : (before ts : List Target) → before ≡ [] → Walks before ts (each_once ts)
walk_from before ts none = subst (λ us. Walks us ts (each_once ts)) (sym none) (walk_begun ts)

known_on : (before : List Target) (t : Target) (left all : List Target) → unseen before (t ∷ left) ≡ unseen before left → Walks before (t ∷ left) all → Walks before left all
known_on before t left all same walks = record {
  whole = ap (λ us. before ++ us) (sym same) ∙ walks.whole;
  clash = ap (first_clash before) (sym same) ∙ walks.clash;
}

new_on : (before : List Target) (t : Target) (left all : List Target) → has_name before (name_of t) ≡ false → unseen before (t ∷ left) ≡ t ∷ unseen (before ++ t ∷ []) left → Walks before (t ∷ left) all → Walks (before ++ t ∷ []) left all
new_on before t left all none same walks = record {
  whole = append_assoc before (t ∷ []) (unseen (before ++ t ∷ []) left) ∙ ap (λ us. before ++ us) (sym same) ∙ walks.whole;
  clash = ap (λ b. cond b (Some (name_of t)) (first_clash (before ++ t ∷ []) (unseen (before ++ t ∷ []) left))) (sym none) ∙ ap (first_clash before) (sym same) ∙ walks.clash;
}

-- a call that does not clash
pub walk_on : (before after : List Target) (t : Target) (noted : Noted) (left all : List Target) → Notes before t noted after → is_clashing noted ≡ false → Walks before (t ∷ left) all → Walks after left all
walk_on before after t Known left all notes fine walks = subst (λ ts. Walks ts left all) (sym notes.1) (known_on before t left all (unseen_known before t left notes.0) walks)
walk_on before after t New left all notes fine walks = subst (λ ts. Walks ts left all) (sym notes.1) (new_on before t left all notes.0 (unseen_new before t left (new_is_not_among before t notes.0)) walks)
walk_on before after t Clashing left all notes fine walks = absurd (true≢false fine)

-- the calls that are left of a list of them
pub left_more : (calls : List Call) (i : ℕ) (d : Call) (before all : List Target) → i < length calls → Walks before (all_seen (drop i calls)) all → Walks before (seen (get_or calls i d) ∷ all_seen (drop (i + 1) calls)) all
left_more calls i d before all within walks = subst (λ ts. Walks before ts all) (at_drop_more all_seen calls i d within) walks
