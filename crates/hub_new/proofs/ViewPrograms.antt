-- The pieces of a program part with their lenses are those of the program part.
use Rattle.std.proofs.Common.{List, ℕ, [], ◌∷◌, ◌++◌, Result, MatchResult, map, sym, subst}
use Rattle.lens_forms.specs.Forms.{form_tree}
use Rattle.program_terms.specs.Views.{program_tree}
use Rattle.hub_run.specs.FoundLenses.{IsRefusedHub}
use Rattle.hub_run.specs.HubHeads.{HasPieces}
use Rattle.hub_run.specs.Lenses.{forms_of, lenses_of}
use Rattle.hub_run.specs.PiecePrograms.{AreViews}
use Rattle.hub_run.specs.declared.pieces.Pieces.{Pieces}
use Rattle.hub_run.specs.declared.views.AcceptedViews.{AcceptedViews}
use Rattle.hub_run.specs.declared.views.HubRefused.{HubRefused}
use Rattle.hub_new.specs.HubParts.{IsAcceptedHub}

-- what is found of some pieces
abbrev Finds : List (List ℕ) → Result AcceptedViews HubRefused → Type 0
Finds ps r = MatchResult r (λ a. AreViews ps (map program_tree a.programs.items) (map form_tree a.lenses.items)) (IsRefusedHub (forms_of ps))

pub part_found : (part : List ℕ) (kept : Pieces) (h : HasPieces kept part) (r : Result AcceptedViews HubRefused) → Finds (h.ended ++ h.begun ∷ []) r
    → MatchResult r (λ a. IsAcceptedHub part (map program_tree a.programs.items) (map form_tree a.lenses.items)) (IsRefusedHub (lenses_of part))
part_found part kept h r found = subst (λ ps. Finds ps r) (sym h.are) found
