-- The pieces of the front of a program part: none, one line more, and the last line.
use Rattle.std.proofs.Common.{◌≡◌, ℕ, List, [], ◌∷◌, ◌++◌, Bool, true, false, cond, Some, None, refl, sym, ap, subst, ◌∙◌, append-nil, append_assoc}
use Rattle.edit_journal.specs.Lines.{line_of}
use Rattle.edit_journal.specs.Pieces.{last_line, has_no_end}
use Rattle.edit_journal.specs.declared.line.Line.{Line}
use Rattle.script_input.specs.Lines.{cut, program_part, is_separator_line}
use Rattle.script_input.specs.PartSteps.{IsProgramFront}
use Rattle.script_input.proofs.Fronts.{cut_last, up_to_last, separator_line, last_separator, last_in_part}
use Rattle.hub_run.specs.HeldPieces.{HoldsPieces, HoldsIf, HoldsAfter}
use Rattle.hub_run.specs.HubHeads.{HoldsFront, HasPieces}
use Rattle.hub_run.specs.Pieces.{is_cut, pieces, pieces_from}
use Rattle.hub_run.specs.declared.pieces.Pieces.{Pieces}
use Rattle.hub_run.proofs.PieceLines.{line_more}
use Rattle.script_input.proofs.AddedLines.{joined}
use Rattle.script_input.proofs.ProgramTexts.{no_line, same_line}

-- ---- the front

pub front_nothing : (kept : Pieces) → HoldsPieces kept [] [] → HoldsFront kept []
front_nothing kept h = record { ended = []; begun = []; holds = h; goes = λ more. refl }

pub front_part : (kept : Pieces) (front : List ℕ) → HoldsFront kept front → HasPieces kept front
front_part kept front h = record { ended = h.ended; begun = h.begun; holds = h.holds; are = ap pieces (sym (append-nil front)) ∙ h.goes [] }

-- one line more, with its LF
pub front_line : (old new : Pieces) (front text : List ℕ) → HoldsFront old front → has_no_end text ≡ true
    → ((ended : List (List ℕ)) (begun : List ℕ) → HoldsPieces old ended begun → HoldsAfter new ended begun text (10 ∷ [])) → HoldsFront new (front ++ (text ++ 10 ∷ []))
front_line old new front text h plain adds = by_test (is_cut text) refl (adds h.ended h.begun h.holds) where
  goes_on : (more : List ℕ) → pieces ((front ++ (text ++ 10 ∷ [])) ++ more)
      ≡ h.ended ++ cond (is_cut text) (h.begun ∷ pieces_from [] (cut more)) (pieces_from ((h.begun ++ text) ++ 10 ∷ []) (cut more))
  goes_on more = ap pieces (sym (joined front text more)) ∙ h.goes (text ++ 10 ∷ more) ∙ ap (λ ps. h.ended ++ ps) (line_more h.begun text more plain)

  by_test : (b : Bool) → is_cut text ≡ b → HoldsIf b new h.ended h.begun text (10 ∷ []) → HoldsFront new (front ++ (text ++ 10 ∷ []))
  by_test true is held = record {
    ended = h.ended ++ h.begun ∷ [];
    begun = [];
    holds = held;
    goes = λ more. goes_on more ∙ ap (λ b. h.ended ++ cond b (h.begun ∷ pieces_from [] (cut more)) (pieces_from ((h.begun ++ text) ++ 10 ∷ []) (cut more))) is
        ∙ sym (append_assoc h.ended (h.begun ∷ []) (pieces_from [] (cut more)));
  }
  by_test false is held = record {
    ended = h.ended;
    begun = (h.begun ++ text) ++ 10 ∷ [];
    holds = held;
    goes = λ more. goes_on more ∙ ap (λ b. h.ended ++ cond b (h.begun ∷ pieces_from [] (cut more)) (pieces_from ((h.begun ++ text) ++ 10 ∷ []) (cut more))) is;
  }

-- ---- the last line

-- the last line of a program part, which no LF ends, behind a piece that has begun
last_pieces : (begun text : List ℕ) (line : Line) → Some line ≡ last_line (line_of text) → has_no_end text ≡ true
    → pieces_from begun (cut text) ≡ cond (is_cut text) (begun ∷ [] ∷ []) ((begun ++ text) ∷ [])
last_pieces begun [] line e plain = cc
last_pieces begun (byte ∷ text) line e plain =
    ap (pieces_from begun) (cut_last byte text plain)
    ∙ ap (λ l. cond (is_cut l) (begun ∷ [] ∷ []) ((begun ++ (byte ∷ text)) ∷ [])) (up_to_last (byte ∷ text) plain)

module _ (old new : Pieces) (front rest : List ℕ) (is : IsProgramFront front) (plain : has_no_end rest ≡ true) (holds : HoldsFront old front) where
  pub no_last : None ≡ last_line (line_of rest) → HasPieces old (program_part (front ++ rest))
  no_last e =
      let empty = no_line rest e in
      subst (HasPieces old) (sym (ap (λ r. program_part (front ++ r)) empty ∙ is.part [] ∙ append-nil front)) (front_part old front holds)

  pub separator_last : (line : Line) → Some line ≡ last_line (line_of rest) → is_separator_line line ≡ true → HasPieces old (program_part (front ++ rest))
  separator_last line e sep =
      let test = sym (separator_line rest) ∙ ap is_separator_line (sym (same_line line (line_of rest) e)) ∙ sep in
      subst (HasPieces old) (sym (last_separator front rest is plain test)) (front_part old front holds)

  whole : (line : Line) → Some line ≡ last_line (line_of rest) → (b : Bool) → is_cut rest ≡ b → HoldsIf b new holds.ended holds.begun rest [] → HasPieces new (front ++ rest)
  whole line e true cuts held = record {
    ended = holds.ended ++ holds.begun ∷ [];
    begun = [];
    holds = held;
    are = holds.goes rest ∙ ap (λ ps. holds.ended ++ ps) (last_pieces holds.begun rest line e plain)
        ∙ ap (λ b. holds.ended ++ cond b (holds.begun ∷ [] ∷ []) ((holds.begun ++ rest) ∷ [])) cuts ∙ sym (append_assoc holds.ended (holds.begun ∷ []) ([] ∷ []));
  }
  whole line e false cuts held = record {
    ended = holds.ended;
    begun = (holds.begun ++ rest) ++ [];
    holds = held;
    are = holds.goes rest ∙ ap (λ ps. holds.ended ++ ps) (last_pieces holds.begun rest line e plain)
        ∙ ap (λ b. holds.ended ++ cond b (holds.begun ∷ [] ∷ []) ((holds.begun ++ rest) ∷ [])) cuts ∙ ap (λ p. holds.ended ++ p ∷ []) (sym (append-nil (holds.begun ++ rest)));
  }

  pub last_added : (line : Line) → Some line ≡ last_line (line_of rest) → is_separator_line line ≡ false
      → ((ended : List (List ℕ)) (begun text : List ℕ) → HoldsPieces old ended begun → line ≡ line_of text → HoldsAfter new ended begun text []) → HasPieces new (program_part (front ++ rest))
  last_added line e other adds =
      let same = same_line line (line_of rest) e in
      let test = sym (separator_line rest) ∙ ap is_separator_line (sym same) ∙ other in
      subst (HasPieces new) (sym (last_in_part front rest is plain test)) (whole line e (is_cut rest) refl (adds holds.ended holds.begun rest holds.holds same))
