use Rattle.std.proofs.Common.{◌≡◌, ℕ, List, [], ◌++◌, true, sym, ◌∙◌}
use Rattle.edit_journal.specs.Lines.{line_of}
use Rattle.edit_journal.specs.Pieces.{last_line, has_no_end}
use Rattle.script_input.specs.Lines.{program_part}
use Rattle.script_input.specs.PartSteps.{IsProgramFront}
use Rattle.script_input.proofs.Outcomes.{if_ok}
use Rattle.hub_run.specs.HeldPieces.{HoldsPieces, HoldsAfter}
use Rattle.hub_run.specs.HubHeads.{HoldsFront, HasPieces}
use Rattle.hub_run.proofs.FrontPieces.{last_added}
use Rattle.hub_run.proofs.head.add_last.Goals as goal

pub returns : goal.returns
returns c =
    let old = c.args.program.now in
    let new = c.add.new.self in
    let line = c.in-Some.line in
    if_ok c.add.result (λ _. (ended : List (List ℕ)) (begun text : List ℕ) → HoldsPieces old ended begun → line ≡ line_of text → HoldsAfter new ended begun text [])
    (λ _. (front rest : List ℕ) → IsProgramFront front → HoldsFront old front → has_no_end rest ≡ true → c.args.last ≡ last_line (line_of rest) → HasPieces new (program_part (front ++ rest)))
    (λ _ adds front rest is holds plain last. last_added old new front rest is plain holds line (sym c.in-Some.is ∙ last) (sym c.is_separator.ensures ∙ c.if-is_separator.false) adds)
    c.add.ensures
