-- A journal that is given line by line. Read it from the end: `IsReported`, then `IsGiven`.
use Rattle.std.specs.Prelude.{◌≡◌, ℕ, List, [], ◌∷◌, ◌++◌, Bool, true, false, Some}
use Rattle.command_ends.specs.Statuses.{IsFinished}
use Rattle.command_ends.specs.declared.status.Status.{Status}
use Rattle.run_scripts.specs.Report.{report}
use Rattle.hub_run.specs.HubScript.{hub_script}
use Rattle.embed_hub.specs.Embedded.{IsStepped, text_of}
use Rattle.embed_hub.specs.declared.embedded.EmbeddedHub.{EmbeddedHub}
use Rattle.embed_hub.specs.declared.outcome.HubOutcome.{HubOutcome}
use Rattle.embed_hub.specs.declared.outcome.HubOutcome.TheVariants as outcome

-- the line was taken: it was answered, or it is blank
abbrev pub is_taken : HubOutcome → Bool
is_taken outcome.LineFeed = false
is_taken outcome.Full = false
is_taken outcome.NoMemory = false
is_taken outcome.NoHub = false
is_taken end = true

-- one line was given and taken, with this text, and then the others
pub record IsGivenFirst (before : EmbeddedHub) (line texts : List ℕ) (others : EmbeddedHub → List ℕ → Type 0) : Type 0 where
  pub next : EmbeddedHub
  pub end : HubOutcome
  pub rest : List ℕ
  pub stepped : IsStepped before line end next
  pub taken : is_taken end ≡ true
  pub is_texts : texts ≡ text_of next ++ rest
  pub others_given : others next rest

-- these lines were given one after another, each was taken, and these are their texts, one after another
abbrev pub IsGiven : EmbeddedHub → List (List ℕ) → List ℕ → EmbeddedHub → Type 0
IsGiven before [] texts after = (texts ≡ []) × (after ≡ before)
IsGiven before (line ∷ lines) texts after = IsGivenFirst before line texts (λ next rest. IsGiven next lines rest after)

-- the text is all that the command `hub` writes for the script, and the run came to its end
pub record IsReported (script text : List ℕ) : Type 0 where
  pub status : Status
  pub finished : IsFinished status
  pub is_report : report hub_script script ≡ Some (text, status)
