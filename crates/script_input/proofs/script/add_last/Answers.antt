use Rattle.std.proofs.Common.{◌≡◌, ℕ, List, [], ◌++◌, true, sym, ◌∙◌}
use Rattle.edit_journal.specs.Lines.{line_of}
use Rattle.edit_journal.specs.Pieces.{last_line, has_no_end}
use Rattle.script_input.specs.Lines.{program_part}
use Rattle.script_input.specs.Parts.{HoldsPart}
use Rattle.script_input.specs.PartSteps.{IsProgramFront}
use Rattle.script_input.proofs.Outcomes.{if_ok}
use Rattle.script_input.proofs.ProgramTexts.{last_added}
use Rattle.script_input.proofs.script.add_last.Goals as goal

pub returns : goal.returns
returns c =
    let old = c.args.program.now in
    let new = c.add.new.self in
    let line = c.in-Some.line in
    if_ok c.add.result (λ _. (part text : List ℕ) → HoldsPart old part → line ≡ line_of text → HoldsPart new ((part ++ text) ++ []))
    (λ _. (front rest : List ℕ) → IsProgramFront front → HoldsPart old front → has_no_end rest ≡ true → c.args.last ≡ last_line (line_of rest) → HoldsPart new (program_part (front ++ rest)))
    (λ _ adds front rest is holds plain last. last_added old new front rest is plain holds line (sym c.in-Some.is ∙ last) (sym c.is_separator.ensures ∙ c.if-is_separator.false) adds)
    c.add.ensures
