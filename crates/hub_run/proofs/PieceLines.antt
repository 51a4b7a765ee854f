-- The pieces of a program part that comes line by line.
use Rattle.std.proofs.Common.{◌≡◌, ℕ, List, [], ◌∷◌, ◌++◌, true, cond, sym, ap, ◌∙◌, append_assoc}
use Rattle.edit_journal.specs.Pieces.{has_no_end}
use Rattle.script_input.specs.Lines.{cut}
use Rattle.script_input.proofs.Fronts.{cut_line, up_to_end}
use Rattle.hub_run.specs.Pieces.{is_cut, pieces_from}

pub line_more : (begun text more : List ℕ) → has_no_end text ≡ true
    → pieces_from begun (cut (text ++ 10 ∷ more)) ≡ cond (is_cut text) (begun ∷ pieces_from [] (cut more)) (pieces_from ((begun ++ text) ++ 10 ∷ []) (cut more))
line_more begun text more plain =
    ap (pieces_from begun) (cut_line text more plain)
    ∙ ap (λ l. cond (is_cut l) (begun ∷ pieces_from [] (cut more)) (pieces_from (begun ++ (text ++ 10 ∷ [])) (cut more))) (up_to_end text plain)
    ∙ ap (λ b. cond (is_cut text) (begun ∷ pieces_from [] (cut more)) (pieces_from b (cut more))) (sym (append_assoc begun text (10 ∷ [])))
