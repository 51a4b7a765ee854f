-- The pieces of a program part whose bytes are at hand: before its first line, one line more, and the last line.
use Rattle.std.proofs.Common.{◌≡◌, ℕ, List, [], ◌∷◌, ◌++◌, Bool, true, false, cond, refl, sym, ap, ◌∙◌, append-nil, append_assoc}
use Rattle.edit_journal.specs.Pieces.{has_no_end}
use Rattle.script_input.specs.Lines.{cut}
use Rattle.script_input.proofs.Fronts.{cut_last, up_to_last}
use Rattle.hub_run.specs.HeldPieces.{HoldsPieces, HoldsIf, HoldsAfter}
use Rattle.hub_run.specs.HubHeads.{HasPieces}
use Rattle.hub_run.specs.Pieces.{is_cut, pieces, pieces_from}
use Rattle.hub_run.specs.declared.pieces.Pieces.{Pieces}
use Rattle.hub_run.proofs.PieceLines.{line_more}
use Rattle.embed_hub.specs.Opening.{HoldsRest}

pub nothing_read : (embedded : Pieces) (part : List ℕ) → HoldsPieces embedded [] [] → HoldsRest embedded part part
nothing_read embedded part h = record { ended = []; begun = []; holds = h; goes = refl }

-- what a line, with what ends it, makes of the pieces that are kept
abbrev pub Adds : Pieces → Pieces → List ℕ → List ℕ → Type 0
Adds old new text end = (ended : List (List ℕ)) (begun : List ℕ) → HoldsPieces old ended begun → HoldsAfter new ended begun text end

-- the pieces behind a line, which may be a cut, and behind the last line
abbrev behind_line : List (List ℕ) → List ℕ → List ℕ → List ℕ → Bool → List (List ℕ)
behind_line ended begun text more b = ended ++ cond b (begun ∷ pieces_from [] (cut more)) (pieces_from ((begun ++ text) ++ 10 ∷ []) (cut more))

abbrev behind_last : List (List ℕ) → List ℕ → List ℕ → Bool → List (List ℕ)
behind_last ended begun text b = ended ++ cond b (begun ∷ [] ∷ []) ((begun ++ text) ∷ [])

-- one line more, with its LF
pub line_added : (old new : Pieces) (part text more : List ℕ) → has_no_end text ≡ true → Adds old new text (10 ∷ []) → HoldsRest old part (text ++ 10 ∷ more) → HoldsRest new part more
line_added old new part text more plain adds h = by_test (is_cut text) refl (adds h.ended h.begun h.holds) where
  goes_on : pieces part ≡ behind_line h.ended h.begun text more (is_cut text)
  goes_on = h.goes ∙ ap (λ ps. h.ended ++ ps) (line_more h.begun text more plain)

  by_test : (b : Bool) → is_cut text ≡ b → HoldsIf b new h.ended h.begun text (10 ∷ []) → HoldsRest new part more
  by_test true is held = record {
    ended = h.ended ++ h.begun ∷ [];
    begun = [];
    holds = held;
    goes = goes_on ∙ ap (behind_line h.ended h.begun text more) is ∙ sym (append_assoc h.ended (h.begun ∷ []) (pieces_from [] (cut more)));
  }
  by_test false is held = record { ended = h.ended; begun = (h.begun ++ text) ++ 10 ∷ []; holds = held; goes = goes_on ∙ ap (behind_line h.ended h.begun text more) is }

-- ---- the end

pub nothing_left : (embedded : Pieces) (part : List ℕ) → HoldsRest embedded part [] → HasPieces embedded part
nothing_left embedded part h = record { ended = h.ended; begun = h.begun; holds = h.holds; are = h.goes }

-- the last line, which no LF ends, behind a piece that has begun
last_pieces : (begun : List ℕ) (byte : ℕ) (text : List ℕ) → has_no_end (byte ∷ text) ≡ true
    → pieces_from begun (cut (byte ∷ text)) ≡ cond (is_cut (byte ∷ text)) (begun ∷ [] ∷ []) ((begun ++ (byte ∷ text)) ∷ [])
last_pieces begun byte text plain =
    ap (pieces_from begun) (cut_last byte text plain)
    ∙ ap (λ l. cond (is_cut l) (begun ∷ [] ∷ []) ((begun ++ (byte ∷ text)) ∷ [])) (up_to_last (byte ∷ text) plain)

pub last_added : (old new : Pieces) (part text : List ℕ) → (text ≡ [] → ⊥) → has_no_end text ≡ true → Adds old new text [] → HoldsRest old part text → HasPieces new part
last_added old new part [] some plain adds h = absurd (some refl)
last_added old new part (byte ∷ rest) some plain adds h = by_test (is_cut (byte ∷ rest)) refl (adds h.ended h.begun h.holds) where
  goes_on : pieces part ≡ behind_last h.ended h.begun (byte ∷ rest) (is_cut (byte ∷ rest))
  goes_on = h.goes ∙ ap (λ ps. h.ended ++ ps) (last_pieces h.begun byte rest plain)

  by_test : (b : Bool) → is_cut (byte ∷ rest) ≡ b → HoldsIf b new h.ended h.begun (byte ∷ rest) [] → HasPieces new part
  by_test true is held = record {
    ended = h.ended ++ h.begun ∷ [];
    begun = [];
    holds = held;
    are = goes_on ∙ ap (behind_last h.ended h.begun (byte ∷ rest)) is ∙ sym (append_assoc h.ended (h.begun ∷ []) ([] ∷ []));
  }
  by_test false is held = record {
    ended = h.ended;
    begun = (h.begun ++ (byte ∷ rest)) ++ [];
    holds = held;
    are = goes_on ∙ ap (behind_last h.ended h.begun (byte ∷ rest)) is ∙ ap (λ p. h.ended ++ p ∷ []) (sym (append-nil (h.begun ++ (byte ∷ rest))));
  }
