-- A script as it comes: the part that was handled is at the front, and what is still to come may be anything.
use Rattle.std.proofs.Common.{◌≡◌, ◌<◌, ◌≤◌, ℕ, length, arith, List, [], ◌∷◌, ◌++◌, Bool, true, false, cond, Option, Some, None, refl, sym, ap, ◌∙◌, append_assoc, append-nil}
use Rattle.std.specs.Prelude.{◌||◌, bytes_eq, nat_le, codes, option_to_list}
use Rattle.std.specs.List.{concat, onto_first, list_any}
use Rattle.std.proofs.lemmas.Bool.{leb-false}
use Rattle.std.proofs.lemmas.Slice.Eq.{bytes_eq-Decides}
use Rattle.edit_journal.specs.Lines.{line_of}
use Rattle.edit_journal.specs.Pieces.{FedLines, last_line, lines_of, has_no_end}
use Rattle.edit_journal.specs.declared.line.Line.{Line}
use Rattle.edit_journal.specs.declared.line.Line.TheVariants.{Text, TooLong}
use Rattle.edit_journal.proofs.Feeding.{both_plain, plain, first_line, all_lines_given}
use Rattle.edit_journal.specs.declared.line.TheConstants.{MOST_LINE_BYTES}
use Rattle.script_input.specs.Lines.{cut, up_to_line_end, is_separator, lines_before, program_part, is_separator_line, behind_separator, journal}
use Rattle.script_input.specs.Coming.{ended_lines, has_separator, journal_lines}
use Rattle.script_input.specs.Parts.{IsHead}
use Rattle.script_input.specs.PartSteps.{IsProgramFront}

-- ---- a line with its LF

abbrev ended : List ℕ → List ℕ
ended text = text ++ 10 ∷ []

abbrev all_of : FedLines → List Line
all_of lines = lines.ended ++ option_to_list (last_line lines.begun)

pub cut_line : (text rest : List ℕ) → has_no_end text ≡ true → cut (text ++ 10 ∷ rest) ≡ ended text ∷ cut rest
cut_line [] rest h = refl
cut_line (byte ∷ text) rest h =
    let parts = both_plain byte text h in
    rw parts.0 (ap (onto_first byte) (cut_line text rest parts.1))

pub up_to_end : (text : List ℕ) → has_no_end text ≡ true → up_to_line_end (ended text) ≡ text
up_to_end [] h = refl
up_to_end (byte ∷ text) h = let parts = both_plain byte text h in rw parts.0 (ap (λ l. byte ∷ l) (up_to_end text parts.1))

-- the lines of a text that begins with a line and its LF, and of one without an LF
text_line : (text rest : List ℕ) → has_no_end text ≡ true → lines_of (text ++ 10 ∷ rest) ≡ line_of text ∷ lines_of rest
text_line text rest h = sym (all_lines_given (text ++ 10 ∷ rest)) ∙ ap all_of (first_line text rest h) ∙ ap (λ ls. line_of text ∷ ls) (all_lines_given rest)

plain_lines : (text : List ℕ) → has_no_end text ≡ true → lines_of text ≡ option_to_list (last_line (line_of text))
plain_lines text h = sym (all_lines_given text) ∙ ap all_of (plain [] [] text h)

pub ended_line : (text rest : List ℕ) → has_no_end text ≡ true → ended_lines (text ++ 10 ∷ rest) ≡ line_of text ∷ ended_lines rest
ended_line text rest h = ap (λ (l : FedLines). l.ended) (first_line text rest h)

-- ---- a last line without an LF

pub cut_last : (byte : ℕ) (text : List ℕ) → has_no_end (byte ∷ text) ≡ true → cut (byte ∷ text) ≡ (byte ∷ text) ∷ []
cut_last byte [] h = let parts = both_plain byte [] h in rw parts.0 refl
cut_last byte (next ∷ text) h = let parts = both_plain byte (next ∷ text) h in rw parts.0 (ap (onto_first byte) (cut_last next text parts.1))

pub up_to_last : (text : List ℕ) → has_no_end text ≡ true → up_to_line_end text ≡ text
up_to_last [] h = refl
up_to_last (byte ∷ text) h = let parts = both_plain byte text h in rw parts.0 (ap (λ l. byte ∷ l) (up_to_last text parts.1))

-- ---- the separator as a line

few : (text : List ℕ) → is_separator text ≡ true → length text ≤ MOST_LINE_BYTES
few text h = by_test (bytes_eq text (codes "---")) (bytes_eq text (codes "---" ++ 13 ∷ [])) (λ e. (bytes_eq-Decides text (codes "---")).0 e) (λ e. (bytes_eq-Decides text (codes "---" ++ 13 ∷ [])).0 e) h where
  by_test : (a b : Bool) → (a ≡ true → text ≡ codes "---") → (b ≡ true → text ≡ codes "---" ++ 13 ∷ []) → (a || b) ≡ true → length text ≤ MOST_LINE_BYTES
  by_test true b p q e = omega (arith, ap length (p refl))
  by_test false b p q e = omega (arith, ap length (q e))

-- a text is the separator if and only if its line is
pub separator_line : (text : List ℕ) → is_separator_line (line_of text) ≡ is_separator text
separator_line text = by_test (nat_le (length text) MOST_LINE_BYTES) (is_separator text) refl (λ e. leb-false (length text) MOST_LINE_BYTES e) refl where
  by_test : (b c : Bool) → nat_le (length text) MOST_LINE_BYTES ≡ b → (b ≡ false → MOST_LINE_BYTES < length text) → is_separator text ≡ c → is_separator_line (cond b (Text text) TooLong) ≡ is_separator text
  by_test true c e many is = refl
  by_test false true e many is = absurd (omega (arith, many refl, few text is))
  by_test false false e many is = sym is

-- ---- the program part

pub no_front : IsProgramFront []
no_front = record { part = λ more. refl; behind = λ more. refl; ended = λ more. refl; has = λ more. refl }

module _ (text : List ℕ) (plain : has_no_end text ≡ true) where
  before_line : (more : List ℕ) (b : Bool) → is_separator text ≡ b → program_part (text ++ 10 ∷ more) ≡ cond b [] (ended text ++ program_part more)
  before_line more b is =
      ap (λ ls. concat (lines_before ls)) (cut_line text more plain)
      ∙ ap (λ l. concat (cond (is_separator l) [] (ended text ∷ lines_before (cut more)))) (up_to_end text plain)
      ∙ ap (λ s. concat (cond s [] (ended text ∷ lines_before (cut more)))) is
      ∙ by_test b where
        by_test : (b : Bool) → concat (cond b [] (ended text ∷ lines_before (cut more))) ≡ cond b [] (ended text ++ program_part more)
        by_test true = refl
        by_test false = refl

  is_line : (b : Bool) → is_separator text ≡ b → is_separator_line (line_of text) ≡ b
  is_line b is = separator_line text ∙ is

  behind_line : (more : List ℕ) (b : Bool) → is_separator text ≡ b → journal (text ++ 10 ∷ more) ≡ cond b (lines_of more) (journal more)
  behind_line more b is =
      ap behind_separator (text_line text more plain)
      ∙ ap (λ s. cond s (lines_of more) (journal more)) (is_line b is)

  journal_line : (more : List ℕ) (b : Bool) → is_separator text ≡ b → journal_lines (text ++ 10 ∷ more) ≡ cond b (ended_lines more) (journal_lines more)
  journal_line more b is =
      ap behind_separator (ended_line text more plain)
      ∙ ap (λ s. cond s (ended_lines more) (journal_lines more)) (is_line b is)

  has_line : (more : List ℕ) (b : Bool) → is_separator text ≡ b → has_separator (text ++ 10 ∷ more) ≡ (b || has_separator more)
  has_line more b is =
      ap (list_any is_separator_line) (ended_line text more plain)
      ∙ ap (λ s. s || has_separator more) (is_line b is)

  joined : (front more : List ℕ) → (front ++ ended text) ++ more ≡ front ++ (text ++ 10 ∷ more)
  joined front more = append_assoc front (ended text) more ∙ ap (λ l. front ++ l) (append_assoc text (10 ∷ []) more)

  -- a line that is not the separator joins the program part
  pub longer_front : (front : List ℕ) → IsProgramFront front → is_separator text ≡ false → IsProgramFront (front ++ ended text)
  longer_front front h is = record {
    part = λ more. ap program_part (joined front more) ∙ h.part (text ++ 10 ∷ more) ∙ ap (λ l. front ++ l) (before_line more false is) ∙ sym (append_assoc front (ended text) (program_part more));
    behind = λ more. ap journal (joined front more) ∙ h.behind (text ++ 10 ∷ more) ∙ behind_line more false is;
    ended = λ more. ap journal_lines (joined front more) ∙ h.ended (text ++ 10 ∷ more) ∙ journal_line more false is;
    has = λ more. ap has_separator (joined front more) ∙ h.has (text ++ 10 ∷ more) ∙ has_line more false is;
  }

  -- the separator ends the program part
  pub whole_head : (front : List ℕ) → IsProgramFront front → is_separator text ≡ true → IsHead (front ++ ended text) front
  whole_head front h is = record {
    is_part = λ more. ap program_part (joined front more) ∙ h.part (text ++ 10 ∷ more) ∙ ap (λ l. front ++ l) (before_line more true is) ∙ append-nil front;
    behind = λ more. ap journal (joined front more) ∙ h.behind (text ++ 10 ∷ more) ∙ behind_line more true is;
    ended = λ more. ap journal_lines (joined front more) ∙ h.ended (text ++ 10 ∷ more) ∙ journal_line more true is;
    has = λ more. ap has_separator (joined front more) ∙ h.has (text ++ 10 ∷ more) ∙ has_line more true is;
  }

-- ---- the end of the input

-- the last line goes to the program part, unless it is the separator; nothing is behind it
last_part : (text : List ℕ) → has_no_end text ≡ true → (b : Bool) → is_separator text ≡ b → program_part text ≡ cond b [] text
last_part [] h true is = refl
last_part [] h false is = refl
last_part (byte ∷ text) h b is =
    ap (λ ls. concat (lines_before ls)) (cut_last byte text h)
    ∙ ap (λ l. concat (cond (is_separator l) [] ((byte ∷ text) ∷ []))) (up_to_last (byte ∷ text) h)
    ∙ ap (λ s. concat (cond s [] ((byte ∷ text) ∷ []))) is
    ∙ by_test b where
      by_test : (b : Bool) → concat (cond b [] ((byte ∷ text) ∷ [])) ≡ cond b [] (byte ∷ text)
      by_test true = refl
      by_test false = append-nil (byte ∷ text)

pub last_separator : (front text : List ℕ) → IsProgramFront front → has_no_end text ≡ true → is_separator text ≡ true → program_part (front ++ text) ≡ front
last_separator front text h plain is = h.part text ∙ ap (λ l. front ++ l) (last_part text plain true is) ∙ append-nil front

pub last_in_part : (front text : List ℕ) → IsProgramFront front → has_no_end text ≡ true → is_separator text ≡ false → program_part (front ++ text) ≡ front ++ text
last_in_part front text h plain is = h.part text ∙ ap (λ l. front ++ l) (last_part text plain false is)

no_lines_behind : (text : List ℕ) → has_no_end text ≡ true → journal text ≡ []
no_lines_behind text h = ap behind_separator (plain_lines text h) ∙ by_last (last_line (line_of text)) where
  by_last : (last : Option Line) → behind_separator (option_to_list last) ≡ []
  by_last None = refl
  by_last (Some line) = by_test (is_separator_line line) where
    by_test : (b : Bool) → cond {A = List Line} b [] [] ≡ []
    by_test true = refl
    by_test false = refl

pub none_behind : (front text : List ℕ) → IsProgramFront front → has_no_end text ≡ true → journal (front ++ text) ≡ []
none_behind front text h plain = h.behind text ∙ no_lines_behind text plain
