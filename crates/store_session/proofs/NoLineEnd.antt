-- Texts in which no byte is a line feed.
use Rattle.std.proofs.Common.{◌≡◌, ◌⊎◌, inl, inr, ℕ, suc, ◌+◌, ◌/◌, ◌%◌, ◌≤◌, List, [], ◌∷◌, ◌++◌, Bool, true, false, ◌||◌, cond, refl, arith}
use Rattle.std.specs.Prelude.{◌==◌, nat_lt, decimal, pos, negsuc}
use Rattle.std.specs.Char.{digit_char}
use Rattle.std.proofs.lemmas.Bool.{eqb-true, ltb-false}
use Rattle.json.specs.Print.{escape_letter, escape_byte, escape, quoted}
use Rattle.serde_json.specs.Data.{Num, unsigned, negative, float, Data, null, boolean, number, string, array, object, Items, no_items, item, Members, no_members, member}
use Rattle.serde_json.specs.Written.{number_text, compact_text, items_text, members_text, comma_if}
use Rattle.edit_journal.specs.Pieces.{has_no_end}
use Rattle.store_session.proofs.Decimals.{decimal_plain, cons_plain, no_ten}
use Rattle.edit_journal.proofs.LinesHeld.{plain_both}

-- ---- numbers

number_plain : (n : Num) → has_no_end (number_text n) ≡ true
number_plain (unsigned n) = decimal_plain n
number_plain (negative (pos n)) = decimal_plain n
number_plain (negative (negsuc n)) = cons_plain 45 (decimal (suc n)) refl (decimal_plain (suc n))
number_plain (float x) = refl

-- ---- strings

either_of : (p q : Bool) → (p || q) ≡ true → (p ≡ true) ⊎ (q ≡ true)
either_of true q h = inl refl
either_of false q h = inr h

letter_plain : (x : ℕ) → escape_letter x == 10 ≡ false
letter_plain x = by_test ((x == 34) || (x == 92)) kept (x == 8) (x == 12) (x == 10) (x == 13) (x == 9) where
  kept : ((x == 34) || (x == 92)) ≡ true → x == 10 ≡ false
  kept h = elim (either_of (x == 34) (x == 92) h) [
    | inl e ↦ let same = eqb-true x 34 e in no_ten x (omega (arith, same))
    | inr e ↦ let same = eqb-true x 92 e in no_ten x (omega (arith, same))
  ]

  by_test : (q : Bool) → (q ≡ true → x == 10 ≡ false) → (b c d e f : Bool) → (cond q x (cond b 98 (cond c 102 (cond d 110 (cond e 114 (cond f 116 0)))))) == 10 ≡ false
  by_test true h b c d e f = h refl
  by_test false h true c d e f = refl
  by_test false h false true d e f = refl
  by_test false h false false true e f = refl
  by_test false h false false false true f = refl
  by_test false h false false false false true = refl
  by_test false h false false false false false = refl

char_plain : (d : ℕ) → digit_char d == 10 ≡ false
char_plain d = by_test (nat_lt d 10) where
  by_test : (b : Bool) → (cond b (48 + d) (87 + d)) == 10 ≡ false
  by_test true = no_ten (48 + d) (omega arith)
  by_test false = no_ten (87 + d) (omega arith)

escaped_plain : (x : ℕ) → has_no_end (escape_byte x) ≡ true
unfolding escape_byte
escaped_plain x = by_test (nat_lt 0 (escape_letter x)) (nat_lt x 32) (λ e. ltb-false x 32 e) where
  by_test : (b c : Bool) → (c ≡ false → 32 ≤ x)
      → has_no_end (cond b (92 ∷ escape_letter x ∷ []) (cond c (92 ∷ 117 ∷ 48 ∷ 48 ∷ digit_char (x / 16) ∷ digit_char (x % 16) ∷ []) (x ∷ []))) ≡ true
  by_test true c h = cons_plain (escape_letter x) [] (letter_plain x) refl
  by_test false true h = cons_plain (digit_char (x / 16)) (digit_char (x % 16) ∷ []) (char_plain (x / 16)) (cons_plain (digit_char (x % 16)) [] (char_plain (x % 16)) refl)
  by_test false false h = let least = h refl in cons_plain x [] (no_ten x (omega (arith, least))) refl

escape_plain : (xs : List ℕ) → has_no_end (escape xs) ≡ true
escape_plain [] = refl
escape_plain (x ∷ xs) = plain_both (escape_byte x) (escape xs) (escaped_plain x) (escape_plain xs)

quoted_plain : (s : List ℕ) → has_no_end (quoted s) ≡ true
quoted_plain s = cons_plain 34 (escape s ++ 34 ∷ []) refl (plain_both (escape s) (34 ∷ []) (escape_plain s) refl)

-- ---- trees

comma_plain : (later : Bool) → has_no_end (comma_if later) ≡ true
comma_plain true = refl
comma_plain false = refl

mutual
  pub text_plain : (d : Data) → has_no_end (compact_text d) ≡ true
  text_plain null = refl
  text_plain (boolean true) = refl
  text_plain (boolean false) = refl
  text_plain (number n) = number_plain n
  text_plain (string s) = quoted_plain s
  text_plain (array ds) = cons_plain 91 (items_text false ds) refl (items_plain false ds)
  text_plain (object ms) = cons_plain 123 (members_text false ms) refl (members_plain false ms)

  items_plain : (later : Bool) (ds : Items) → has_no_end (items_text later ds) ≡ true
  items_plain later no_items = refl
  items_plain later (item d ds) = plain_both (comma_if later) (compact_text d ++ items_text true ds) (comma_plain later) (plain_both (compact_text d) (items_text true ds) (text_plain d) (items_plain true ds))

  members_plain : (later : Bool) (ms : Members) → has_no_end (members_text later ms) ≡ true
  members_plain later no_members = refl
  members_plain later (member k d ms) =
      plain_both (comma_if later) (quoted k ++ 58 ∷ (compact_text d ++ members_text true ms)) (comma_plain later)
      (plain_both (quoted k) (58 ∷ (compact_text d ++ members_text true ms)) (quoted_plain k)
      (cons_plain 58 (compact_text d ++ members_text true ms) refl (plain_both (compact_text d) (members_text true ms) (text_plain d) (members_plain true ms))))
