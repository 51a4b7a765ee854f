-- What the program of one view more means to a hub. Read it from the end: `view_part`, `IsAcceptedView`, `added_form`.
use Rattle.std.specs.Prelude.{◌≡◌, ℕ, List, length, nat_lt, if◌then◌else◌, Result, Ok, Err}
use Rattle.lens_forms.specs.Forms.{FormTree}
use Rattle.lens_syntax.specs.Programs.{bounded}
use Rattle.program_terms.specs.Terms.{ProgramTree}
use Rattle.hub_run.specs.Lenses.{HubRefusal, too_many_views, form_of_view, first_left, hub_refusal_line}
use Rattle.hub_run.specs.declared.pieces.TheConstants.{MOST_VIEWS}
use Rattle.store_new.specs.Command.{PartMeaning}

-- The lens of this program part, behind these: they are fewer than 64, and the view is one that `hub` accepts behind
-- them.
abbrev pub added_form : List FormTree → List ℕ → Result FormTree HubRefusal
added_form forms part =
    if nat_lt (length forms) MOST_VIEWS then form_of_view (first_left forms) (length forms) part
    else Err too_many_views

-- This program part is read as the program, and its lens has the form, behind these.
pub record IsAcceptedView (forms : List FormTree) (part : List ℕ) (program : ProgramTree)
    (form : FormTree) : Type 0 where
  pub read : bounded part ≡ Ok program
  pub has_lens : added_form forms part ≡ Ok form

-- a program part with one view more, for a hub of these lenses
abbrev pub view_part : List FormTree → PartMeaning
view_part forms = record {
  Accepted = FormTree;
  Refusal = HubRefusal;
  accepted = added_form forms;
  refusal_line = hub_refusal_line;
}
