use Rattle.std.proofs.Common.{◌≡◌, ◌++◌, ◌∷◌, [], List, ℕ, drop, map}
use Rattle.lens_forms.specs.Forms.{form_tree}
use Rattle.hub_run.specs.HeldPieces.{HoldsEach}
use Rattle.hub_run.specs.Lenses.{forms_from}
use Rattle.program_terms.specs.Views.{program_tree}
use Rattle.hub_run.proofs.FoundForms.{OneLeft}
use Rattle.hub_run.proofs.PiecesRead.{behind}
use Rattle.hub_run.proofs.pieces.Pieces.views.Given as goal

-- behind the views that were found, the pieces that are left give what all pieces give, lenses and programs; the views
-- have one left type
abbrev pub invariant-loop-piece : goal.invariant-loop-piece
invariant-loop-piece l = record {
  goes : (ended : List (List ℕ)) (begun : List ℕ) → HoldsEach l.self.ended.items ended
      → forms_from (drop l.piece-index ended ++ begun ∷ []) (map form_tree l.lenses.items) ≡ forms_from (ended ++ begun ∷ []) [];
  programs : (ended : List (List ℕ)) → HoldsEach l.self.ended.items ended
      → behind (map program_tree l.programs.items) (drop l.piece-index ended) ≡ behind [] ended;
  one_left : OneLeft (map form_tree l.lenses.items);
}
