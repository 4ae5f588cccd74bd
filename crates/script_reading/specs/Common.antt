-- The names that proofs and the crates above cite, passed on from one place. Declares nothing.
pub use Rattle.script_reading.specs.Forms.{Phrase, behind, is_phrase, phrase_in, phrase_text, third_fits, to_call, to_run, to_wait}
pub use Rattle.script_reading.specs.Index.{IsNoted}
pub use Rattle.script_reading.specs.Limits.{are_too_many, runs_in, runs_said, ticks_in, ticks_said}
pub use Rattle.script_reading.specs.Meaning.{Asked, Saying, a_call, a_run, asked_of, asks, call_at, call_with, is_bad, meaning, meaning_in, named_call, no_such, not_of_type, nothing, saying}
pub use Rattle.script_reading.specs.Meaning.{switch_call, ticks}
pub use Rattle.script_reading.specs.Numbers.{IsNumbered}
pub use Rattle.script_reading.specs.Offers.{elem_offered, first_from, goes_by, how_many, is_for, machine_offered, mode_in, mode_of, mode_port_offered, named_if, number_of, offered}
pub use Rattle.script_reading.specs.Offers.{point_offered, takes}
pub use Rattle.script_reading.specs.Reading.{IfBadLine, IsScript, IsScriptBy, asked_by, asked_in, bad_or, cause_of, first_bad, least_cause, passes}
pub use Rattle.script_reading.specs.Reserved.{saying_around}
pub use Rattle.script_reading.specs.Sentences.{AsksOfFirst, HasForm, IsFirst, IsFirstMode, IsNamed, may_ask, may_call, mode_name, pass_limit, text_of}
pub use Rattle.script_reading.specs.declared.forms.Form.{Form}
pub use Rattle.script_reading.specs.declared.forms.Form.TheVariants.{Ask, Read, Receive, SeeMode, Send, Switch, TakeResult, Write}
