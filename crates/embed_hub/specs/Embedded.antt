-- What a caller keeps, and what a call makes of it. Read it from the end: `text_of`, `IsShown`, `IsStepped`, then
-- `IsResumed` and `IsOpened`.
use Rattle.std.specs.Prelude.{◌≡◌, ℕ, ◌-◌, ◌^◌, List, [], Bool, true, false, None, Ok, Err}
use Rattle.edit_journal.specs.Pieces.{has_no_end}
use Rattle.lens_forms.specs.Forms.{FormTree}
use Rattle.view_hub.specs.Views.{hub_tree}
use Rattle.hub_run.specs.FoundLenses.{IsRefusalOf}
use Rattle.hub_run.specs.Lenses.{HubRefusal, lenses_of, hub_refusal_line}
use Rattle.hub_run.specs.Runs.{first_state}
use Rattle.hub_run.specs.declared.views.HubRefused.{HubRefused}
use Rattle.embed_hub.specs.Parts.{part_text, IsShow}
use Rattle.embed_hub.specs.Resuming.{AreStateTexts, IsStateFault}
use Rattle.embed_hub.specs.Steps.{hub_state, forms_of, StaysInStep, IsLineStep, IsAsBefore}
use Rattle.embed_hub.specs.declared.embedded.EmbeddedHub.{EmbeddedHub}
use Rattle.embed_hub.specs.declared.embedded.EmbeddedHub.TheVariants as embedded
use Rattle.embed_hub.specs.declared.outcome.HubOutcome.{HubOutcome}
use Rattle.embed_hub.specs.declared.outcome.HubOutcome.TheVariants as outcome
use Rattle.embed_hub.specs.declared.outcome.HubPart.{HubPart}
use Rattle.embed_hub.specs.declared.outcome.HubStateFault.{HubStateFault}
use Rattle.embed_hub.specs.declared.outcome.HubStateFault.TheVariants as fault
use Rattle.embed_hub.specs.declared.running.RunningHub.{RunningHub}

-- ---- opening

-- the lenses are those of the program part, at the first documents and complements, and no item was given
pub record IsStarted (part : List ℕ) (r : RunningHub) : Type 0 where
  pub lenses : lenses_of part ≡ Ok (forms_of r)
  pub first : hub_state r ≡ first_state (forms_of r)
  pub in_step : StaysInStep r.hub
  pub number : r.number ≡ 0
  pub text : r.text.items ≡ []

-- the program part is refused for this cause, and this is the line of its refusal
pub record IsRefusedWith (part : List ℕ) (why : HubRefused) (line : List ℕ) : Type 0 where
  pub refusal : HubRefusal
  pub lenses : lenses_of part ≡ Err refusal
  pub cause : IsRefusalOf why refusal
  pub is_line : line ≡ hub_refusal_line refusal

-- the program part is refused, or memory ran out
abbrev pub IsRefusedPart : List ℕ → EmbeddedHub → Type 0
IsRefusedPart part (embedded.Open r) = ⊥
IsRefusedPart part (embedded.Refused why line) = IsRefusedWith part why line.items
IsRefusedPart part (embedded.StateRefused why) = ⊥
IsRefusedPart part embedded.NoMemory = Unit {0}

-- a hub at its start, or why there is none
abbrev pub IsOpened : List ℕ → EmbeddedHub → Type 0
IsOpened part (embedded.Open r) = IsStarted part r
IsOpened part k = IsRefusedPart part k

-- ---- going on

-- The lenses are those of the program part, and the documents and the complements those of the texts. Each view is
-- consistent with the hub, and no item was given.
pub record IsGoingOn (part : List ℕ) (texts : List (List ℕ)) (r : RunningHub) : Type 0 where
  pub lenses : lenses_of part ≡ Ok (forms_of r)
  pub are : AreStateTexts (forms_of r) texts (hub_tree r.hub.parts)
  pub in_step : StaysInStep r.hub
  pub number : r.number ≡ 0
  pub text : r.text.items ≡ []

-- the program part is accepted, and the fault is so of the texts and is not that memory ran out
pub record IsRefusedState (part : List ℕ) (texts : List (List ℕ)) (why : HubStateFault) : Type 0 where
  pub forms : List FormTree
  pub lenses : lenses_of part ≡ Ok forms
  pub is_fault : IsStateFault forms texts why
  pub known : why ≡ fault.NoMemory → ⊥

-- a hub at the state of these texts, or why there is none
abbrev pub IsResumed : List ℕ → List (List ℕ) → EmbeddedHub → Type 0
IsResumed part texts (embedded.Open r) = IsGoingOn part texts r
IsResumed part texts (embedded.StateRefused why) = IsRefusedState part texts why
IsResumed part texts k = IsRefusedPart part k

-- ---- a line

-- a hub that is held, of which the fact holds
abbrev pub IfOpen : EmbeddedHub → (RunningHub → Type 0) → Type 0
IfOpen (embedded.Open r) P = P r
IfOpen (embedded.Refused why line) P = ⊥
IfOpen (embedded.StateRefused why) P = ⊥
IfOpen embedded.NoMemory P = ⊥

-- a line without an LF: it is blank or an item; or no number is left, or memory ran out
abbrev pub takes_line : RunningHub → List ℕ → HubOutcome → EmbeddedHub → Type 0
takes_line before line outcome.Full after = (before.number ≡ 2 ^ 64 - 1) × (after ≡ embedded.Open before)
takes_line before line outcome.NoMemory after = IfOpen after (IsAsBefore before)
takes_line before line outcome.LineFeed after = ⊥
takes_line before line outcome.NoHub after = ⊥
takes_line before line end after = IfOpen after (IsLineStep before line end)

-- a line with an LF in it is refused, and nothing changes
abbrev pub takes_bytes : Bool → RunningHub → List ℕ → HubOutcome → EmbeddedHub → Type 0
takes_bytes true before line end after = takes_line before line end after
takes_bytes false before line end after = (end ≡ outcome.LineFeed) × (after ≡ embedded.Open before)

-- a line of these bytes, where there is a hub; otherwise nothing changes
abbrev pub IsStepped : EmbeddedHub → List ℕ → HubOutcome → EmbeddedHub → Type 0
IsStepped (embedded.Open r) line end after = takes_bytes (has_no_end line) r line end after
IsStepped k line end after = (end ≡ outcome.NoHub) × (after ≡ k)

-- ---- the state

-- the part is shown; or there is no such view, or memory ran out
abbrev pub shows_part : RunningHub → HubPart → HubOutcome → EmbeddedHub → Type 0
shows_part before part outcome.Done after = IfOpen after (IsShow before part)
shows_part before part outcome.NoView after = (part_text (hub_state before) part ≡ None) × (after ≡ embedded.Open before)
shows_part before part outcome.NoMemory after = after ≡ embedded.Open before
shows_part before part end after = ⊥

-- a part of the state, where there is a hub; otherwise nothing changes
abbrev pub IsShown : EmbeddedHub → HubPart → HubOutcome → EmbeddedHub → Type 0
IsShown (embedded.Open r) part end after = shows_part r part end after
IsShown k part end after = (end ≡ outcome.NoHub) × (after ≡ k)

-- ---- the text that answers the last call

abbrev pub text_of : EmbeddedHub → List ℕ
text_of (embedded.Open r) = r.text.items
text_of (embedded.Refused why line) = line.items
text_of (embedded.StateRefused why) = []
text_of embedded.NoMemory = []
