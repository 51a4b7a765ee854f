-- What is added to the text of a program part.
use Rattle.std.proofs.Common.{◌≡◌, ℕ, ◌<◌, ◌≤◌, List, [], ◌∷◌, ◌++◌, length, Bool, true, false, cond, Some, None, refl, sym, ap, subst, ◌∙◌, append-nil, arith, length-append}
use Rattle.std.specs.Prelude.{nat_le}
use Rattle.std.proofs.lemmas.Bool.{leb-false}
use Rattle.edit_journal.specs.Lines.{line_of}
use Rattle.edit_journal.specs.Pieces.{last_line, has_no_end}
use Rattle.edit_journal.specs.declared.line.Line.{Line}
use Rattle.edit_journal.specs.declared.line.Line.TheVariants.{Text, TooLong}
use Rattle.edit_journal.specs.declared.line.TheConstants.{MOST_LINE_BYTES}
use Rattle.script_input.specs.Lines.{program_part, is_separator_line}
use Rattle.script_input.specs.Parts.{HoldsText, HoldsPart}
use Rattle.script_input.specs.PartSteps.{IsProgramFront}
use Rattle.script_input.specs.declared.script.ProgramText.{ProgramText}
use Rattle.lens_syntax.specs.declared.reading.TheConstants.{MOST_PROGRAM_BYTES}
use Rattle.script_input.proofs.Fronts.{separator_line, last_separator, last_in_part}

-- a part that is too long remains so
pub still_long : (b : Bool) (text part bytes end : List ℕ) → b ≡ true → HoldsText b text part → HoldsText b text ((part ++ bytes) ++ end)
still_long true text part bytes end is h = omega (arith, h, length-append (part ++ bytes) end, length-append part bytes)
still_long false text part bytes end is h = cc

pub added : (b long : Bool) (text new part bytes end : List ℕ) → b ≡ false → HoldsText b text part → new ≡ (text ++ bytes) ++ end
    → (long ≡ true → MOST_PROGRAM_BYTES < length new) → (long ≡ false → length new ≤ MOST_PROGRAM_BYTES) → HoldsText long new ((part ++ bytes) ++ end)
added true long text new part bytes end is h e over within = cc
added false true text new part bytes end is h e over within =
    omega (arith, over refl, ap length e, ap length h.0, length-append (text ++ bytes) end, length-append (part ++ bytes) end, length-append text bytes, length-append part bytes)
added false false text new part bytes end is h e over within =
    let same : new ≡ (part ++ bytes) ++ end = e ∙ ap (λ t. (t ++ bytes) ++ end) h.0 in
    (same, subst (λ t. length t ≤ MOST_PROGRAM_BYTES) same (within refl))

-- a line that is too long has more bytes than a program part may have
pub long_line : (text : List ℕ) → TooLong ≡ line_of text → MOST_LINE_BYTES < length text
long_line text e = by_test (nat_le (length text) MOST_LINE_BYTES) (λ f. leb-false (length text) MOST_LINE_BYTES f) e where
  by_test : (b : Bool) → (b ≡ false → MOST_LINE_BYTES < length text) → TooLong ≡ cond b (Text text) TooLong → MOST_LINE_BYTES < length text
  by_test true f e = cc
  by_test false f e = f refl

-- ---- the last line

pub same_line : (line next : Line) → Some line ≡ last_line next → line ≡ next
same_line line (Text []) e = cc
same_line line (Text (byte ∷ bytes)) e = cc
same_line line TooLong e = cc

pub no_line : (text : List ℕ) → None ≡ last_line (line_of text) → text ≡ []
no_line [] e = refl
no_line (byte ∷ text) e = by_test (nat_le (length (byte ∷ text)) MOST_LINE_BYTES) e where
  by_test : (b : Bool) → None ≡ last_line (cond b (Text (byte ∷ text)) TooLong) → byte ∷ text ≡ []
  by_test true e = cc
  by_test false e = cc

module _ (old new : ProgramText) (front rest : List ℕ) (is : IsProgramFront front) (plain : has_no_end rest ≡ true) (holds : HoldsPart old front) where
  pub no_last : None ≡ last_line (line_of rest) → HoldsPart old (program_part (front ++ rest))
  no_last e =
      let empty = no_line rest e in
      subst (HoldsPart old) (sym (ap (λ r. program_part (front ++ r)) empty ∙ is.part [] ∙ append-nil front)) holds

  pub separator_last : (line : Line) → Some line ≡ last_line (line_of rest) → is_separator_line line ≡ true → HoldsPart old (program_part (front ++ rest))
  separator_last line e sep =
      let test = sym (separator_line rest) ∙ ap is_separator_line (sym (same_line line (line_of rest) e)) ∙ sep in
      subst (HoldsPart old) (sym (last_separator front rest is plain test)) holds

  pub last_added : (line : Line) → Some line ≡ last_line (line_of rest) → is_separator_line line ≡ false
      → ((part text : List ℕ) → HoldsPart old part → line ≡ line_of text → HoldsPart new ((part ++ text) ++ [])) → HoldsPart new (program_part (front ++ rest))
  last_added line e other adds =
      let same = same_line line (line_of rest) e in
      let test = sym (separator_line rest) ∙ ap is_separator_line (sym same) ∙ other in
      subst (HoldsPart new) (append-nil (front ++ rest) ∙ sym (last_in_part front rest is plain test)) (adds front rest holds same)
