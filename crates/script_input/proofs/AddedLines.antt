-- What a line that was taken does to the program part.
use Rattle.std.proofs.Common.{◌≡◌, ℕ, List, [], ◌∷◌, ◌++◌, Bool, true, false, Option, Some, None, refl, sym, ap, subst, ◌∙◌, append_assoc}
use Rattle.edit_journal.specs.Lines.{line_of}
use Rattle.edit_journal.specs.Pieces.{FedLines, take_first}
use Rattle.edit_journal.specs.declared.line.Line.{Line}
use Rattle.script_input.specs.Lines.{is_separator, is_separator_line}
use Rattle.script_input.specs.Parts.{HoldsPart}
use Rattle.script_input.specs.PartSteps.{IsProgramFront, MovesOn, AddsLines}
use Rattle.script_input.specs.Taking.{TakenInput}
use Rattle.script_input.specs.declared.script.ProgramText.{ProgramText}
use Rattle.script_input.proofs.Fronts.{longer_front, whole_head, separator_line}
use Rattle.script_input.proofs.TakenLines.{IsSplit, splits}

-- no ended line is left, and the lines stay as they are
pub none_taken : (rest lines : FedLines) → (None, rest) ≡ take_first lines → lines.ended ≡ []
none_taken rest lines h = by_lines lines.ended h where
  by_lines : (ended : List Line) → (None, rest) ≡ take_first (record { ended = ended; begun = lines.begun }) → ended ≡ []
  by_lines [] e = refl
  by_lines (first ∷ ended) e = let never = ap (λ (p : Option Line × FedLines). p.0) e in cc

pub same_lines : (rest lines : FedLines) → (None, rest) ≡ take_first lines → rest ≡ lines
same_lines rest lines h = by_lines lines.ended h where
  by_lines : (ended : List Line) → (None, rest) ≡ take_first (record { ended = ended; begun = lines.begun }) → rest ≡ record { ended = ended; begun = lines.begun }
  by_lines [] e = ap (λ (p : Option Line × FedLines). p.1) e
  by_lines (first ∷ ended) e = let never = ap (λ (p : Option Line × FedLines). p.0) e in cc

-- the bytes up to the line, the line, and what is behind it
pub joined : (front text behind : List ℕ) → front ++ (text ++ 10 ∷ behind) ≡ (front ++ (text ++ 10 ∷ [])) ++ behind
joined front text behind = ap (λ l. front ++ l) (sym (append_assoc text (10 ∷ []) behind)) ∙ sym (append_assoc front (text ++ 10 ∷ []) behind)

module _ (bytes : List ℕ) (old new : TakenInput) (program : ProgramText) (m : MovesOn bytes old (λ front _. IsProgramFront front × HoldsPart program front)) where
  taken_rest : (line : Line) → (Some line, new.lines) ≡ take_first old.lines → IsSplit m.rest line new.lines
  taken_rest line h = splits m.rest line new.lines (h ∙ ap take_first m.lines)

  moved : (line : Line) (s : IsSplit m.rest line new.lines) → bytes ≡ (m.front ++ (s.text ++ 10 ∷ [])) ++ s.behind
  moved line s = m.same ∙ ap (λ l. m.front ++ l) s.whole ∙ joined m.front s.text s.behind

  plain_line : (line : Line) (b : Bool) → is_separator_line line ≡ b → (s : IsSplit m.rest line new.lines) → is_separator s.text ≡ b
  plain_line line b is s = sym (separator_line s.text) ∙ ap is_separator_line (sym s.is_line) ∙ is

  -- the line is the separator
  pub found : (line : Line) → (Some line, new.lines) ≡ take_first old.lines → is_separator_line line ≡ true → MovesOn bytes new (AddsLines true program)
  found line h is =
      let s = taken_rest line h in
      record {
        front = m.front ++ (s.text ++ 10 ∷ []);
        rest = s.behind;
        same = moved line s;
        lines = s.is_rest;
        holds = (m.front, m.holds.1, whole_head s.text s.plain_text m.front m.holds.0 (plain_line line true is s));
      }

  -- the line joins the program part
  pub added : (next : ProgramText) (line : Line) → (Some line, new.lines) ≡ take_first old.lines → is_separator_line line ≡ false
      → ((part text : List ℕ) → HoldsPart program part → line ≡ line_of text → HoldsPart next ((part ++ text) ++ 10 ∷ []))
      → MovesOn bytes new (λ front _. IsProgramFront front × HoldsPart next front)
  added next line h is adds =
      let s = taken_rest line h in
      record {
        front = m.front ++ (s.text ++ 10 ∷ []);
        rest = s.behind;
        same = moved line s;
        lines = s.is_rest;
        holds = (
          longer_front s.text s.plain_text m.front m.holds.0 (plain_line line false is s),
          subst (HoldsPart next) (append_assoc m.front s.text (10 ∷ [])) (adds m.front s.text m.holds.1 s.is_line),
        );
      }

  -- no ended line is left
  pub all_added : (None, new.lines) ≡ take_first old.lines → MovesOn bytes new (AddsLines false program)
  all_added h =
      let none = none_taken new.lines old.lines h in
      record {
        front = m.front;
        rest = m.rest;
        same = m.same;
        lines = same_lines new.lines old.lines h ∙ m.lines;
        holds = (m.holds.0, m.holds.1, ap (λ (l : FedLines). l.ended) (sym m.lines) ∙ none);
      }
