-- What taking a line says of the bytes that were fed.
use Rattle.std.proofs.Common.{◌≡◌, ℕ, ◌+◌, List, [], ◌∷◌, ◌++◌, Option, Some, None, true, take, drop, refl, ap, ◌∙◌}
use Rattle.std.specs.List.{position}
use Rattle.std.proofs.lemmas.Option.{same_Some}
use Rattle.edit_journal.specs.Lines.{line_of}
use Rattle.edit_journal.specs.Pieces.{FedLines, nothing_fed, fed, take_first, has_no_end}
use Rattle.edit_journal.specs.declared.line.Line.{Line}
use Rattle.edit_journal.proofs.Feeding.{plain, first_line}
use Rattle.edit_journal.proofs.FirstEnds.{is_end, first_end, no_end}
use Rattle.script_input.proofs.EndedLines.{answer}

-- the bytes are a line, its LF, and what is left
pub record IsSplit (bytes : List ℕ) (line : Line) (rest : FedLines) : Type 0 where
  pub text : List ℕ
  pub behind : List ℕ
  pub whole : bytes ≡ text ++ 10 ∷ behind
  pub plain_text : has_no_end text ≡ true
  pub is_line : line ≡ line_of text
  pub is_rest : rest ≡ fed nothing_fed behind

none_of : (bytes : List ℕ) → None ≡ position is_end bytes → (line : Option Line) (rest : FedLines) → answer line rest ≡ take_first (fed nothing_fed bytes) → line ≡ None
none_of bytes e line rest h = ap (λ (p : Option Line × FedLines). p.0) (h ∙ ap take_first (plain [] [] bytes (no_end bytes e)))

some_of : (bytes : List ℕ) (i : ℕ) → Some i ≡ position is_end bytes → (line : Option Line) (rest : FedLines) → answer line rest ≡ take_first (fed nothing_fed bytes)
    → answer line rest ≡ answer (Some (line_of (take i bytes))) (fed nothing_fed (drop (i + 1) bytes))
some_of bytes i e line rest h =
    let parts = first_end bytes i e in
    h ∙ ap take_first (ap (fed nothing_fed) parts.1 ∙ first_line (take i bytes) (drop (i + 1) bytes) parts.0)

split_at : (bytes : List ℕ) (o : Option ℕ) → o ≡ position is_end bytes → (line : Line) (rest : FedLines) → answer (Some line) rest ≡ take_first (fed nothing_fed bytes) → IsSplit bytes line rest
split_at bytes None e line rest h = let never = none_of bytes e (Some line) rest h in cc
split_at bytes (Some i) e line rest h =
    let parts = first_end bytes i e in
    let same = some_of bytes i e (Some line) rest h in
    record {
      text = take i bytes;
      behind = drop (i + 1) bytes;
      whole = parts.1;
      plain_text = parts.0;
      is_line = same_Some line (line_of (take i bytes)) (ap (λ (p : Option Line × FedLines). p.0) same);
      is_rest = ap (λ (p : Option Line × FedLines). p.1) same;
    }

pub splits : (bytes : List ℕ) (line : Line) (rest : FedLines) → answer (Some line) rest ≡ take_first (fed nothing_fed bytes) → IsSplit bytes line rest
splits bytes line rest h = split_at bytes (position is_end bytes) refl line rest h
