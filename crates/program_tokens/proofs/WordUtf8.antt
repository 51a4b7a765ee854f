-- Words are ASCII, and so valid UTF-8.
use Rattle.std.proofs.Common.{◌≡◌, ℕ, suc, ◌+◌, ◌<◌, Bool, true, false, cond, List, [], ◌∷◌, take, arith, refl}
use Rattle.std.proofs.lemmas.Bool.Decides.{nat_tests}
use Rattle.std.proofs.lemmas.Str.{IsUtf8-from_ascii}
use Rattle.std.proofs.lemmas.Str.Ascii.{IsAscii-nil, IsAscii-cons}
use Rattle.std.specs.Str.{IsAscii, IsUtf8}
use Rattle.std.specs.List.{list_all, prefix_len}
use Rattle.texts.proofs.Conjunction.{split}
use Rattle.program_tokens.specs.Words.{in_word, begins_word}

byte_ascii : (b : ℕ) → in_word b ≡ true → b < 128
unfolding in_word begins_word
byte_ascii b h = grind (arith, nat_tests)

suc_of : (n : ℕ) → 1 + n ≡ suc n
suc_of n = omega arith

word_ascii : (bs : List ℕ) → list_all in_word bs ≡ true → IsAscii bs
word_ascii [] h = IsAscii-nil
word_ascii (b ∷ bs) h = let p = split (in_word b) (list_all in_word bs) h in IsAscii-cons b bs (byte_ascii b p.0) (word_ascii bs p.1)

pub word_utf8 : (bs : List ℕ) → list_all in_word bs ≡ true → IsUtf8 bs
word_utf8 bs h = IsUtf8-from_ascii bs (word_ascii bs h)

begins_in : (b : ℕ) → begins_word b ≡ true → in_word b ≡ true
unfolding in_word
begins_in b h = rw h refl

pub word_goes_on : (b : ℕ) (bs : List ℕ) → begins_word b ≡ true → list_all in_word bs ≡ true → list_all in_word (b ∷ bs) ≡ true
word_goes_on b bs h k = rw (begins_in b h) k

one_more : (q : ℕ → Bool) (b : ℕ) (bs : List ℕ) (n : ℕ) (v : Bool) → q b ≡ v → list_all q (take n bs) ≡ true → list_all q (take (cond v (1 + n) 0) (b ∷ bs)) ≡ true
one_more q b bs n true e h = rw (suc_of n) (rw e h)
one_more q b bs n false e h = refl

pub run_all : (q : ℕ → Bool) (bs : List ℕ) → list_all q (take (prefix_len q bs) bs) ≡ true
run_all q [] = refl
run_all q (b ∷ bs) = one_more q b bs (prefix_len q bs) (q b) refl (run_all q bs)
