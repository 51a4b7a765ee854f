-- How many `ok` lines the answers of a run have: as many as payloads are kept.
use Rattle.std.proofs.Common.{◌≡◌, ℕ, ◌+◌, ◌-◌, ◌<◌, ◌≤◌, List, [], ◌∷◌, ◌++◌, length, take, Bool, true, false, not, ◌&&◌, cond, Option, Some, None, refl, sym, ap, ap₂, subst, ◌∙◌, append_assoc, append-nil, arith, length-append}
use Rattle.std.specs.Prelude.{◌==◌, nat_lt, filter, is_some, option_to_list, drop}
use Rattle.std.specs.List.{onto_first, concat}
use Rattle.std.proofs.lemmas.List.{take-append-le, take-append-drop, length-drop}
use Rattle.std.proofs.lemmas.Bool.{ltb-true, ltb-false}
use Rattle.edit_journal.specs.Pieces.{has_no_end}
use Rattle.edit_journal.proofs.Feeding.{both_plain}
use Rattle.script_input.proofs.Fronts.{cut_last}
use Rattle.store_run.specs.Effects.{IsProperFront}
use Rattle.store_run.specs.OkLines.{begins_ok, is_ok_line, ok_lines, IsLine, IsOtherLine, AllOther}
use Rattle.script_input.specs.Lines.{cut}
use Rattle.store_run.specs.StoreRuns.{AreAnswers, text_of, kept_of}
use Rattle.store_run.specs.declared.session.StoredAnswer.{StoredAnswer}
use Rattle.texts.proofs.Tests.{and_false}
use Rattle.std.proofs.Math.Seq.{take-append-add}

-- ---- lines

-- a line with its LF is cut off
cut_line : (text rest : List ℕ) → has_no_end text ≡ true → cut ((text ++ 10 ∷ []) ++ rest) ≡ (text ++ 10 ∷ []) ∷ cut rest
cut_line [] rest plain = refl
cut_line (byte ∷ bytes) rest plain =
    let parts = both_plain byte bytes plain in
    ap (λ b. cond b ((byte ∷ []) ∷ cut ((bytes ++ 10 ∷ []) ++ rest)) (onto_first byte (cut ((bytes ++ 10 ∷ []) ++ rest)))) parts.0
    ∙ ap (onto_first byte) (cut_line bytes rest parts.1)

has_end : (text : List ℕ) → has_no_end (text ++ 10 ∷ []) ≡ false
has_end [] = refl
has_end (byte ∷ bytes) = ap (λ b. not (byte == 10) && b) (has_end bytes) ∙ and_false (not (byte == 10))

abbrev bit : Bool → ℕ
bit true = 1
bit false = 0

one_more : (line : List ℕ) (lines : List (List ℕ)) (b c : Bool) → c ≡ false → length (cond (b && not c) (line ∷ lines) lines) ≡ bit b + length lines
one_more line lines b true e = cc
one_more line lines true false e = omega arith
one_more line lines false false e = omega arith

none_more : (line : List ℕ) (b c : Bool) → c ≡ true → length (cond (b && not c) (line ∷ []) []) ≡ 0
none_more line b false e = cc
none_more line true true e = refl
none_more line false true e = refl

-- a line counts where it begins with `ok `
count_line : (line rest : List ℕ) → IsLine line → ok_lines (line ++ rest) ≡ bit (begins_ok line) + ok_lines rest
count_line line rest h =
    ap (λ (x : List ℕ). ok_lines (x ++ rest)) h.whole
    ∙ ap (λ (x : List (List ℕ)). length (filter is_ok_line x)) (cut_line h.text rest h.plain)
    ∙ one_more (h.text ++ 10 ∷ []) (filter is_ok_line (cut rest)) (begins_ok (h.text ++ 10 ∷ [])) (has_no_end (h.text ++ 10 ∷ [])) (has_end h.text)
    ∙ ap (λ (x : List ℕ). bit (begins_ok x) + ok_lines rest) (sym h.whole)

-- what is begun does not count
pub count_plain : (bytes : List ℕ) → has_no_end bytes ≡ true → ok_lines bytes ≡ 0
count_plain [] plain = refl
count_plain (byte ∷ bytes) plain =
    ap (λ (x : List (List ℕ)). length (filter is_ok_line x)) (cut_last byte bytes plain)
    ∙ none_more (byte ∷ bytes) (begins_ok (byte ∷ bytes)) (has_no_end (byte ∷ bytes)) plain

-- ---- a prefix of a line

front_plain : (text front rest : List ℕ) → text ++ 10 ∷ [] ≡ front ++ rest → 0 < length rest → has_no_end text ≡ true → has_no_end front ≡ true
front_plain text [] rest e some plain = refl
front_plain [] (byte ∷ front) rest e some plain = absurd (omega (arith, some, ap length e, length-append front rest))
front_plain (first ∷ text) (byte ∷ front) rest e some plain =
    let parts = both_plain first text plain in
    let same : first ≡ byte = cc in
    let more : text ++ 10 ∷ [] ≡ front ++ rest = cc in
    ap₂ (λ b c. not b && c) (ap (λ n. n == 10) (sym same) ∙ parts.0) (front_plain text front rest more some parts.1)

pub line_front : (line front : List ℕ) → IsLine line → IsProperFront front line → has_no_end front ≡ true
line_front line front h f = front_plain h.text front f.rest (sym h.whole ∙ f.parts) f.some h.plain

-- ---- answers

length_kept : (payload : Option (List ℕ)) → length (option_to_list payload) ≡ bit (is_some payload)
length_kept None = refl
length_kept (Some payload) = refl

pub few_kept : (payload : Option (List ℕ)) → length (option_to_list payload) ≤ 1
few_kept None = omega arith
few_kept (Some payload) = omega arith

module _ {State : Type 0} where
  -- the answers of some steps have as many `ok` lines as there are payloads
  pub count_answers : (steps : List (State × StoredAnswer)) (rest : List ℕ) → AreAnswers steps → ok_lines (text_of steps ++ rest) ≡ length (kept_of steps) + ok_lines rest
  count_answers [] rest are = omega arith
  count_answers (s ∷ steps) rest are =
      let line = ap ok_lines (append_assoc s.1.line (text_of steps) rest) ∙ count_line s.1.line (text_of steps ++ rest) are.0.is_line in
      let more = count_answers steps rest are.1 in
      let ok : bit (begins_ok s.1.line) ≡ bit (is_some s.1.payload) = ap bit are.0.ok in
      omega (arith, line, more, ok, length_kept s.1.payload, length-append (option_to_list s.1.payload) (kept_of steps))

  pub count_all : (steps : List (State × StoredAnswer)) → AreAnswers steps → ok_lines (text_of steps) ≡ length (kept_of steps)
  count_all steps are =
      let h = ap ok_lines (sym (append-nil (text_of steps))) ∙ count_answers steps [] are in
      let none : ok_lines [] ≡ 0 = refl in
      omega (arith, h, none)

  -- of an answer that was begun no LF was given, and there is at most one payload
  pub begun_front : (begun : List (State × StoredAnswer)) (front : List ℕ) → length begun ≤ 1 → AreAnswers begun → IsProperFront front (text_of begun) → has_no_end front ≡ true
  begun_front [] front few are f = absurd (omega (arith, f.some, ap length f.parts, length-append front f.rest))
  begun_front (s ∷ []) front few are f = line_front s.1.line front are.0.is_line (subst (IsProperFront front) (append-nil s.1.line) f)
  begun_front (s ∷ s' ∷ more) front few are f = absurd (omega (arith, few))

  pub begun_kept : (begun : List (State × StoredAnswer)) → length begun ≤ 1 → length (kept_of begun) ≤ 1
  begun_kept [] few = omega arith
  begun_kept (s ∷ []) few = omega (arith, few_kept s.1.payload, length-append (option_to_list s.1.payload) [])
  begun_kept (s ∷ s' ∷ more) few = absurd (omega (arith, few))

-- ---- other lines

-- a prefix of a line and of what follows it, which has no `ok` line
other_step : (line rest : List ℕ) (n : ℕ) → IsOtherLine line → ((m : ℕ) → m < length rest → ok_lines (take m rest) ≡ 0) → n < length (line ++ rest) → ok_lines (take n (line ++ rest)) ≡ 0
other_step line rest n other more less = by_test (nat_lt n (length line)) (λ e. ltb-true n (length line) e) (λ e. ltb-false n (length line) e) where
  inside : n < length line → ok_lines (take n (line ++ rest)) ≡ 0
  inside h =
      let front : IsProperFront (take n line) line = record { rest = drop n line; parts = sym (take-append-drop n line); some = omega (arith, h, length-drop n line) } in
      ap ok_lines (take-append-le n line rest (omega (arith, h))) ∙ count_plain (take n line) (line_front line (take n line) other.is_line front)

  behind : (m : ℕ) → n ≡ length line + m → ok_lines (take n (line ++ rest)) ≡ 0
  behind m e =
      let less' : m < length rest = omega (arith, e, less, length-append line rest) in
      ap (λ k. ok_lines (take k (line ++ rest))) e
      ∙ ap ok_lines (take-append-add line rest m)
      ∙ count_line line (take m rest) other.is_line
      ∙ ap₂ (λ b k. bit b + k) other.other (more m less')

  by_test : (b : Bool) → (b ≡ true → n < length line) → (b ≡ false → length line ≤ n) → ok_lines (take n (line ++ rest)) ≡ 0
  by_test true h k = inside (h refl)
  by_test false h k = let least = k refl in behind (n - length line) (omega (arith, least))

-- a prefix of lines that do not begin with `ok ` has no `ok` line
pub other_front : (lines : List (List ℕ)) → AllOther lines → (n : ℕ) → n < length (concat lines) → ok_lines (take n (concat lines)) ≡ 0
other_front [] all n less = absurd (omega (arith, less))
other_front (line ∷ lines) all n less = other_step line (concat lines) n all.0 (other_front lines all.1) less

pub other_none : (lines : List (List ℕ)) → AllOther lines → ok_lines (concat lines) ≡ 0
other_none [] all = refl
other_none (line ∷ lines) all = count_line line (concat lines) all.0.is_line ∙ ap₂ (λ b k. bit b + k) all.0.other (other_none lines all.1)
