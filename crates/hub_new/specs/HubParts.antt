-- What the program part of a hub says to a command that makes a store. Read it from the end: `IsAcceptedHub`.
use Rattle.std.specs.Prelude.{ℕ, List}
use Rattle.lens_forms.specs.Forms.{FormTree}
use Rattle.program_terms.specs.Terms.{ProgramTree}
use Rattle.hub_run.specs.Lenses.{HubRefusal, lenses_of, hub_refusal_line}
use Rattle.hub_run.specs.PiecePrograms.{AreViews}
use Rattle.hub_run.specs.Pieces.{pieces}
use Rattle.store_new.specs.Command.{PartMeaning}

-- a program part with the program of each view: their lenses, or why it is refused
abbrev pub view_programs : PartMeaning
view_programs = record {
  Accepted = List FormTree;
  Refusal = HubRefusal;
  accepted = lenses_of;
  refusal_line = hub_refusal_line;
}

-- the pieces of this program part are read as the programs, and their lenses have the forms
abbrev pub IsAcceptedHub : List ℕ → List ProgramTree → List FormTree → Type 0
IsAcceptedHub part programs forms = AreViews (pieces part) programs forms
