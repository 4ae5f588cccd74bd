-- A turn over a plain bench, whose entry is written into the node's list.
use Rattle.std.proofs.Common.{◌≡◌, ◌<◌, ℕ, refl, sym, ◌∙◌, ap, subst, List, [], ◌∷◌, ◌++◌, set, Some, None}
use Rattle.bus_semantics.specs.Common.{same_Some, slice_get, Plan, History}
use Rattle.bus_semantics.specs.declared.entries.Stamped.{Stamped}
use Rattle.bus_semantics.specs.declared.script.Mapping.{Mapping}
use Rattle.port_objects.specs.Common.{Plain, written_last, Told}
use Rattle.task_machine.specs.declared.instr.TaskSet.{TaskSet}
use Rattle.core_turn.specs.Cores.{CoreState}
use Rattle.core_turn.specs.Lawful.{IsLawful}
use Rattle.core_turn.specs.Ready.{IsReady}
use Rattle.core_turn.specs.Turning.{StepsApart, NothingFound}
use Rattle.core_lanes.specs.Rooms.{HasRoom}
use Rattle.core_runtime.specs.Turns.{Makes, Rests}
use Rattle.core_lanes.specs.Taking.{IsSameCore}
use Rattle.core_lanes.proofs.Parts.{own_within}
use Rattle.core_lanes.proofs.MergedTurns.{same_ready}
use Rattle.core_runtime.proofs.Going.{same_lawful}

-- what a plain bench tells
abbrev pub told_by : Plain → Told
told_by b = record { room = b.room; next = Some b.next; objects = Some b.objects; work = None }

-- the entry that was written down last
pub last_is : ((before : List Stamped) (s : Stamped) → written_last (before ++ s ∷ []) ≡ Some s) → (xs old : List Stamped) (s made : Stamped) → xs ≡ old ++ s ∷ [] → written_last xs ≡ Some made → made ≡ s
last_is law xs old s made is last = same_Some _ _ (sym last ∙ ap written_last is ∙ law old s)

-- a core that stepped has the room that it had
pub room_kept : (old new : CoreState) → new.trace ≡ old.trace → new.room ≡ old.room → HasRoom old → HasRoom new
room_kept old new trace room had = record { trace = trace ∙ had.trace; room = subst (λ n. 0 < n) (sym room) had.room }

module _ (p : Plan) (t : TaskSet) (old : CoreState) (before now : Plain) (entries : List Stamped) where
  -- the law of turns, at these
  abbrev pub KeepsLaw : (turned : CoreState) → Stamped → Type 0
  KeepsLaw turned s = (m : Mapping) (cores : List CoreState) (i : ℕ) (h : History) → IsLawful p m t cores before.objects h → slice_get cores i ≡ Some old → IsReady p m t turned
      → IsLawful p m t (set cores i turned) now.objects (s.entry ∷ h)

  pub makes : (turned new : CoreState) (s : Stamped) (all : List Stamped) → StepsApart p t old turned (told_by before) (told_by now) s → IsSameCore turned new → new.first ≡ turned.first → all ≡ entries ++ s ∷ []
      → ((m : Mapping) → IsReady p m t old → IsReady p m t turned) → KeepsLaw turned s → Makes p t old new before now entries all
  makes turned new s all steps same first added ready law = record {
    made = s;
    added = added;
    within = own_within p steps.slot s.entry.actor steps.step.own;
    stamp = steps.next.0;
    next = same_Some _ _ steps.next.1;
    room = steps.bench_room;
    order = record { at = steps.at; slot = steps.slot; there = steps.there; order = steps.order; first = first ∙ steps.first };
    ready = λ m is. same_ready p t turned new same m (ready m is);
    goes = λ m cores i found is h lawful. same_lawful p m t turned new same cores i old found now.objects (s.entry ∷ h) (law m cores i h lawful found (ready m is));
  }

  -- a plain bench counts no looks
  pub rests : (new : CoreState) (all : List Stamped) → all ≡ entries → NothingFound p t 0 old new (told_by before) (told_by now) → Rests p t old new before now entries all
  rests new all same nothing = record {
    none = record {
      same = new;
      before = told_by before;
      now = told_by now;
      told = refl;
      nothing = record { same = nothing.same; room = nothing.room; next = nothing.next; work = nothing.work; objects = nothing.objects };
    };
    same = same;
    core = nothing.same;
    objects = same_Some _ _ nothing.objects.1;
    next = same_Some _ _ nothing.next;
    room = nothing.room;
  }
