-- What a line of a trace of some version is read as: an item that fits and has this text. Codes are bytes, masks have 16 bits, words
-- 64, and positions in the lists of a plan 32.
use Rattle.std.specs.Prelude.{◌≡◌, ℕ, pos, negsuc, Bool, true, ◌&&◌, nat_lt, int_le, Option, Some, None}
use Rattle.std.specs.List.{list_all}
use Rattle.rte_value.specs.declared.kinds.Step.TheVariants as step
use Rattle.rte_value.specs.declared.value.Value.{Value}
use Rattle.rte_value.specs.Values.{words_of}
use Rattle.bus_semantics.specs.declared.entries.Actor.{Actor}
use Rattle.bus_semantics.specs.declared.entries.Actor.TheVariants.{Env, Machine, Act}
use Rattle.bus_semantics.specs.declared.entries.Deed.{Deed}
use Rattle.bus_semantics.specs.declared.entries.Deed.TheVariants as deed
use Rattle.bus_semantics.specs.declared.version.Version.{Version}
use Rattle.bus_semantics.specs.Plan.{Plan}
use Rattle.bus_semantics.specs.Fitting.{fits}
use Rattle.bus_semantics.specs.Run.{Item, made, run_begins, run_closes}
use Rattle.bus_semantics.specs.Spelling.{Letters, item_text}

abbrev pub is_byte : ℕ → Bool
is_byte code = nat_lt code 256

abbrev pub are_words : Value → Bool
are_words v = list_all (λ x. int_le (negsuc 9223372036854775807) x && int_le x (pos 9223372036854775807)) (words_of v)

-- a position in a list of the plan
abbrev pub is_index : ℕ → Bool
is_index n = nat_lt n 4294967296

abbrev pub is_point : Option ℕ → Bool
is_point None = true
is_point (Some q) = is_index q

abbrev pub is_sized : Deed → Bool
is_sized deed.Tick = true
is_sized (deed.Start event point value) = is_index event && (is_point point && are_words value)
is_sized (deed.Admit admitted) = true
is_sized (deed.Fetch x value) = is_index x && are_words value
is_sized (deed.Write x value) = is_index x && are_words value
is_sized (deed.Read x code value) = is_index x && (is_byte code && are_words value)
is_sized (deed.Invalidate x) = is_index x
is_sized (deed.IsUpdated x updated) = is_index x
is_sized (deed.Send x value code) = is_index x && (is_byte code && are_words value)
is_sized (deed.Receive x code value) = is_index x && (is_byte code && are_words value)
is_sized (deed.Ask q value code) = is_index q && (is_byte code && are_words value)
is_sized (deed.Answer q code value) = is_index q && (is_byte code && are_words value)
is_sized (deed.TakeResult q code value) = is_index q && (is_byte code && are_words value)
is_sized (deed.Return code value) = is_byte code && are_words value
is_sized (deed.Enter x) = is_index x
is_sized (deed.Leave x) = is_index x
is_sized (deed.Switch m mode code) = is_index m && (is_index mode && is_byte code)
is_sized (deed.Mode port mode) = is_index port && is_index mode
is_sized (deed.Phase (step.Close mode)) = is_index mode
is_sized (deed.Phase s) = true
is_sized (deed.Publish x value) = is_index x && are_words value
is_sized (deed.FetchAll l value) = is_index l && are_words value
is_sized (deed.PublishAll l written value) = is_index l && (nat_lt written 65536 && are_words value)
is_sized deed.End = true

abbrev pub is_sized_actor : Actor → Bool
is_sized_actor Env = true
is_sized_actor (Machine m) = is_index m
is_sized_actor (Act k) = is_index k.runnable && is_point k.point

abbrev pub item_fits : Plan → Item → Bool
item_fits p (made e) = fits p e && (is_sized_actor e.actor && is_sized e.deed)
item_fits p run_begins = true
item_fits p (run_closes closing) = true

-- the line, its newline included, spells the item
pub record IsReadingOf (v : Version) (p : Plan) (line : Letters) (i : Item) : Type 0 where
  pub fit : item_fits p i ≡ true
  pub text : line ≡ item_text v p i
