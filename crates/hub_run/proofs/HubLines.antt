-- What a line that was taken does to the pieces of a program part.
use Rattle.std.proofs.Common.{◌≡◌, ℕ, List, [], ◌∷◌, ◌++◌, Bool, true, false, Some, None, sym, ap, ◌∙◌}
use Rattle.edit_journal.specs.Lines.{line_of}
use Rattle.edit_journal.specs.Pieces.{FedLines, take_first}
use Rattle.edit_journal.specs.declared.line.Line.{Line}
use Rattle.script_input.specs.Lines.{is_separator, is_separator_line}
use Rattle.hub_run.specs.HeldPieces.{HoldsPieces, HoldsAfter}
use Rattle.script_input.specs.PartSteps.{IsProgramFront, MovesOn}
use Rattle.hub_run.specs.HubHeads.{HoldsFront, AddsLines}
use Rattle.script_input.specs.Taking.{TakenInput}
use Rattle.hub_run.specs.declared.pieces.Pieces.{Pieces}
use Rattle.script_input.proofs.Fronts.{longer_front, whole_head, separator_line}
use Rattle.script_input.proofs.TakenLines.{IsSplit, splits}
use Rattle.hub_run.proofs.FrontPieces.{front_part, front_line}
use Rattle.script_input.proofs.AddedLines.{joined, same_lines, none_taken}

module _ (bytes : List ℕ) (old new : TakenInput) (program : Pieces) (m : MovesOn bytes old (λ front _. IsProgramFront front × HoldsFront program front)) where
  taken_rest : (line : Line) → (Some line, new.lines) ≡ take_first old.lines → IsSplit m.rest line new.lines
  taken_rest line h = splits m.rest line new.lines (h ∙ ap take_first m.lines)

  moved : (line : Line) (s : IsSplit m.rest line new.lines) → bytes ≡ (m.front ++ (s.text ++ 10 ∷ [])) ++ s.behind
  moved line s = m.same ∙ ap (λ l. m.front ++ l) s.whole ∙ joined m.front s.text s.behind

  plain_line : (line : Line) (b : Bool) → is_separator_line line ≡ b → (s : IsSplit m.rest line new.lines) → is_separator s.text ≡ b
  plain_line line b is s = sym (separator_line s.text) ∙ ap is_separator_line (sym s.is_line) ∙ is

  -- the line is the separator
  pub found : (line : Line) → (Some line, new.lines) ≡ take_first old.lines → is_separator_line line ≡ true → MovesOn bytes new (AddsLines true program)
  found line h is =
      let s = taken_rest line h in
      record {
        front = m.front ++ (s.text ++ 10 ∷ []);
        rest = s.behind;
        same = moved line s;
        lines = s.is_rest;
        holds = (m.front, front_part program m.front m.holds.1, whole_head s.text s.plain_text m.front m.holds.0 (plain_line line true is s));
      }

  -- the line joins the program part
  pub added : (next : Pieces) (line : Line) → (Some line, new.lines) ≡ take_first old.lines → is_separator_line line ≡ false
      → ((ended : List (List ℕ)) (begun text : List ℕ) → HoldsPieces program ended begun → line ≡ line_of text → HoldsAfter next ended begun text (10 ∷ []))
      → MovesOn bytes new (λ front _. IsProgramFront front × HoldsFront next front)
  added next line h is adds =
      let s = taken_rest line h in
      record {
        front = m.front ++ (s.text ++ 10 ∷ []);
        rest = s.behind;
        same = moved line s;
        lines = s.is_rest;
        holds = (
          longer_front s.text s.plain_text m.front m.holds.0 (plain_line line false is s),
          front_line program next m.front s.text m.holds.1 s.plain_text (λ ended begun holds. adds ended begun s.text holds s.is_line),
        );
      }

  -- no ended line is left
  pub all_added : (None, new.lines) ≡ take_first old.lines → MovesOn bytes new (AddsLines false program)
  all_added h =
      let none = none_taken new.lines old.lines h in
      record {
        front = m.front;
        rest = m.rest;
        same = m.same;
        lines = same_lines new.lines old.lines h ∙ m.lines;
        holds = (m.holds.0, m.holds.1, ap (λ (l : FedLines). l.ended) (sym m.lines) ∙ none);
      }
