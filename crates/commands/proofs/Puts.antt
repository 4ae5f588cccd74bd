-- A put is whole, or cut by a fault; and a status that a verdict has is none of the others.
use Rattle.std.proofs.Common.{◌≡◌, ℕ, Option, inl, inr}
use Rattle.std.specs.Prelude.{◌⊎◌}
use Rattle.rte_text.specs.Counts.{Rose}
use Rattle.rte_text.specs.declared.sink.Put.{Put}
use Rattle.rte_text.specs.declared.sink.Put.TheVariants as put
use Rattle.rte_text.specs.Sinks.{AppendsWhereTold, AppendsPrefixWhereTold, SinkFaultsAfter, ToldAfter}
use Rattle.commands.specs.declared.status.Status.{Status}
use Rattle.commands.specs.declared.status.Status.TheVariants as status
use Rattle.commands.specs.declared.stop.Finding.TheVariants as finding
use Rattle.commands.specs.Commands.{Bytes}
use Rattle.commands.specs.Texts.{answer_after, IsPut}
use Rattle.commands.specs.Verdicts.{Verdict, done, refused, status_of}

-- the whole text was put
pub record IsWhole (text : Bytes) (wanted answer : Status) (before after : Option Bytes) (f g : ℕ) : Type 0 where
  pub status_is : answer ≡ wanted
  pub told : AppendsWhereTold before after text
  pub faults : g ≡ f

-- a fault cut it
pub record IsCut (text : Bytes) (answer : Status) (before after : Option Bytes) (f g : ℕ) : Type 0 where
  pub status_is : answer ≡ status.NotWritten
  pub told : AppendsPrefixWhereTold before after text
  pub rose : Rose f g

pub whole_or_cut : (text : Bytes) (wanted answer : Status) (before after : Option Bytes) (f g : ℕ) → IsPut text wanted answer before after f g
    → IsWhole text wanted answer before after f g ⊎ IsCut text answer before after f g
whole_or_cut text wanted answer before after f g x = by x.answered x.status_is x.told x.faults
  where
    by : (p : Put) → answer ≡ answer_after p wanted → ToldAfter p before after text → SinkFaultsAfter p f g → IsWhole text wanted answer before after f g ⊎ IsCut text answer before after f g
    by put.Done e told faults = inl (record { status_is = e; told = told; faults = faults })
    by put.Failed e told faults = inr (record { status_is = e; told = told; rose = faults })

pub record IsNoOther (s : Status) : Type 0 where
  pub words : s ≡ status.Words → ⊥
  pub unread : s ≡ status.NotRead → ⊥
  pub unwritten : s ≡ status.NotWritten → ⊥
  pub memory : s ≡ status.Memory → ⊥

pub no_other : (v : Verdict) → IsNoOther (status_of v)
no_other done = record { words = λ e. cc; unread = λ e. cc; unwritten = λ e. cc; memory = λ e. cc }
no_other (refused (finding.Refused refusal)) = record { words = λ e. cc; unread = λ e. cc; unwritten = λ e. cc; memory = λ e. cc }
no_other (refused (finding.Script line cause)) = record { words = λ e. cc; unread = λ e. cc; unwritten = λ e. cc; memory = λ e. cc }
no_other (refused (finding.Trace checked)) = record { words = λ e. cc; unread = λ e. cc; unwritten = λ e. cc; memory = λ e. cc }
no_other (refused finding.NoComponent) = record { words = λ e. cc; unread = λ e. cc; unwritten = λ e. cc; memory = λ e. cc }
no_other (refused (finding.Clash name)) = record { words = λ e. cc; unread = λ e. cc; unwritten = λ e. cc; memory = λ e. cc }
no_other (refused (finding.RefusedOf refusal which)) = record { words = λ e. cc; unread = λ e. cc; unwritten = λ e. cc; memory = λ e. cc }
no_other (refused finding.NoLink) = record { words = λ e. cc; unread = λ e. cc; unwritten = λ e. cc; memory = λ e. cc }
no_other (refused finding.TooManyCores) = record { words = λ e. cc; unread = λ e. cc; unwritten = λ e. cc; memory = λ e. cc }
