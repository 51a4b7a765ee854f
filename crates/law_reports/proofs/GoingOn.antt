-- A script that goes on: what is known of it at some bytes stays so, whatever follows.
use Rattle.std.proofs.Common.{◌≡◌, ℕ, List, [], ◌∷◌, ◌++◌, Bool, true, false, refl, sym, ap, subst, ◌∙◌, append_assoc, append-nil}
use Rattle.std.specs.Prelude.{◌==◌, option_to_list}
use Rattle.std.specs.List.{list_any}
use Rattle.std.proofs.lemmas.Bool.{eqb-true}
use Rattle.edit_journal.specs.Pieces.{FedLines, nothing_fed, fed, last_line, lines_of, has_no_end}
use Rattle.edit_journal.proofs.Feeding.{joins, plain, in_front, all_lines_given, plain_more}
use Rattle.script_input.specs.Lines.{is_separator, is_separator_line, program_part, journal}
use Rattle.script_input.specs.Coming.{ended_lines, has_separator, journal_lines}
use Rattle.script_input.specs.Parts.{IsHead}
use Rattle.script_input.specs.PartSteps.{IsProgramFront}
use Rattle.script_input.proofs.Fronts.{no_front, longer_front, whole_head}
use Rattle.law_reports.specs.Beginnings.{BeginsWith}
use Rattle.script_input.proofs.TakenParts.{none_behind}

-- ---- lines that have ended are the first ones

goes_on : (bytes more : List ℕ) → BeginsWith (lines_of (bytes ++ more)) (ended_lines bytes)
goes_on bytes more =
    let before = fed nothing_fed bytes in
    let after = fed (record { ended = []; begun = before.begun }) more in
    let last = option_to_list (last_line after.begun) in
    let same : fed nothing_fed (bytes ++ more) ≡ record { ended = before.ended ++ after.ended; begun = after.begun } =
    sym (joins nothing_fed bytes more)
    ∙ ap (λ l. fed (record { ended = l; begun = before.begun }) more) (sym (append-nil before.ended))
    ∙ in_front before.ended [] before.begun more in
    record {
      rest = after.ended ++ last;
      is = sym (all_lines_given (bytes ++ more)) ∙ ap (λ (l : FedLines). l.ended ++ option_to_list (last_line l.begun)) same
          ∙ append_assoc before.ended after.ended last;
    }

-- ---- where the separator is

-- the bytes are ended lines up to the separator, with this program part, and a rest
record HasHead (bytes : List ℕ) : Type 0 where
  front : List ℕ
  rest : List ℕ
  part : List ℕ
  same : bytes ≡ front ++ rest
  head : IsHead front part

joined : (front text bytes : List ℕ) → (front ++ (text ++ 10 ∷ [])) ++ bytes ≡ front ++ (text ++ 10 ∷ bytes)
joined front text bytes = append_assoc front (text ++ 10 ∷ []) bytes ∙ ap (λ l. front ++ l) (append_assoc text (10 ∷ []) bytes)

-- without an LF no line has ended
none_ended : (text : List ℕ) → has_no_end text ≡ true → has_separator text ≡ false
none_ended text h = ap (λ (l : FedLines). list_any is_separator_line l.ended) (plain [] [] text h)

-- at the LF of a line: the separator's, or another line of the program part
at_line : (front text bytes : List ℕ) (b : Bool) → is_separator text ≡ b → IsProgramFront front → has_no_end text ≡ true → has_separator (text ++ 10 ∷ bytes) ≡ true
    → (IsProgramFront (front ++ (text ++ 10 ∷ [])) → has_separator bytes ≡ true → HasHead ((front ++ (text ++ 10 ∷ [])) ++ bytes))
    → HasHead (front ++ (text ++ 10 ∷ bytes))
at_line front text bytes true e is plain has next = record {
  front = front ++ (text ++ 10 ∷ []);
  rest = bytes;
  part = front;
  same = sym (joined front text bytes);
  head = whole_head text plain front is e;
}
at_line front text bytes false e is plain has next =
    let longer = longer_front text plain front is e in
    let behind : has_separator bytes ≡ true =
    sym (longer.has bytes) ∙ ap has_separator (joined front text bytes) ∙ is.has (text ++ 10 ∷ bytes) ∙ has in
    subst HasHead (joined front text bytes) (next longer behind)

at_byte : (front text : List ℕ) (byte : ℕ) (bytes : List ℕ) (b : Bool) → byte == 10 ≡ b → IsProgramFront front → has_no_end text ≡ true → has_separator (text ++ byte ∷ bytes) ≡ true
    → ((front' text' : List ℕ) → IsProgramFront front' → has_no_end text' ≡ true → has_separator (text' ++ bytes) ≡ true → HasHead (front' ++ (text' ++ bytes)))
    → HasHead (front ++ (text ++ byte ∷ bytes))
at_byte front text byte bytes true e is plain has next =
    let ten : byte ≡ 10 = eqb-true byte 10 e in
    subst (λ k. HasHead (front ++ (text ++ k ∷ bytes))) (sym ten)
    (at_line front text bytes (is_separator text) refl is plain (subst (λ k. has_separator (text ++ k ∷ bytes) ≡ true) ten has)
    (λ longer behind. next (front ++ (text ++ 10 ∷ [])) [] longer refl behind))
at_byte front text byte bytes false e is plain has next =
    let longer : (text ++ byte ∷ []) ++ bytes ≡ text ++ byte ∷ bytes = append_assoc text (byte ∷ []) bytes in
    subst (λ l. HasHead (front ++ l)) longer (next front (text ++ byte ∷ []) is (plain_more text byte plain e) (ap has_separator longer ∙ has))

-- the front is ended lines without a separator, and the text is the line that is begun behind them
find_head : (bytes front text : List ℕ) → IsProgramFront front → has_no_end text ≡ true → has_separator (text ++ bytes) ≡ true → HasHead (front ++ (text ++ bytes))
find_head [] front text is plain has =
    let bad : false ≡ true = sym (none_ended text plain) ∙ ap has_separator (sym (append-nil text)) ∙ has in
    let never : ⊥ = cc in
    absurd never
find_head (byte ∷ bytes) front text is plain has =
    at_byte front text byte bytes (byte == 10) refl is plain has (λ front' text' is' plain' has'. find_head bytes front' text' is' plain' has')

head_of : (bytes : List ℕ) → has_separator bytes ≡ true → HasHead bytes
head_of bytes has = find_head bytes [] [] no_front refl has

-- ---- once the separator has come

-- the program part of a head, whatever follows
part_of : (bytes more : List ℕ) (h : HasHead bytes) → program_part (bytes ++ more) ≡ h.part
part_of bytes more h = ap (λ l. program_part (l ++ more)) h.same ∙ ap program_part (append_assoc h.front h.rest more) ∙ h.head.is_part (h.rest ++ more)

pub part_stays : (bytes more : List ℕ) → has_separator bytes ≡ true → program_part (bytes ++ more) ≡ program_part bytes
part_stays bytes more has =
    let h = head_of bytes has in
    part_of bytes more h ∙ sym (ap program_part (sym (append-nil bytes)) ∙ part_of bytes [] h)

behind_head : (bytes more : List ℕ) → HasHead bytes → BeginsWith (journal (bytes ++ more)) (journal_lines bytes)
behind_head bytes more h =
    let on = goes_on h.rest more in
    record {
      rest = on.rest;
      is = ap (λ l. journal (l ++ more)) h.same ∙ ap journal (append_assoc h.front h.rest more) ∙ h.head.behind (h.rest ++ more)
          ∙ on.is ∙ ap (λ l. l ++ on.rest) (sym (ap journal_lines h.same ∙ h.head.ended h.rest));
    }

-- ---- before it has come

pub no_journal : (bytes : List ℕ) → has_separator bytes ≡ false → journal_lines bytes ≡ []
no_journal bytes h = none_behind (ended_lines bytes) h

pub lines_first : (bytes more : List ℕ) → BeginsWith (journal (bytes ++ more)) (journal_lines bytes)
lines_first bytes more = by_test (has_separator bytes) refl where
  by_test : (b : Bool) → has_separator bytes ≡ b → BeginsWith (journal (bytes ++ more)) (journal_lines bytes)
  by_test true e = behind_head bytes more (head_of bytes e)
  by_test false e = record { rest = journal (bytes ++ more); is = ap (λ l. l ++ journal (bytes ++ more)) (sym (no_journal bytes e)) }
