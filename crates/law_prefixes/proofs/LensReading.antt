-- Lenses, read beside the machine.
use Rattle.std.proofs.Common.{◌≡◌, ℕ, zero, suc, false, List, [], ◌∷◌, ◌++◌, Some, refl}
use Rattle.program_tokens.specs.declared.keyword.Keyword.{Keyword}
use Rattle.program_tokens.specs.declared.keyword.Keyword.TheVariants as words
use Rattle.program_tokens.specs.declared.mark.Mark.{Mark}
use Rattle.program_tokens.specs.declared.mark.Mark.TheVariants.{Equals, OpenBrace, CloseBrace, Less, Greater, OpenBracket, CloseBracket, OpenParen, CloseParen, Colon, Comma, Tilde}
use Rattle.program_tokens.specs.declared.token.Token.{Token}
use Rattle.program_tokens.specs.declared.token.Token.TheVariants as tokens
use Rattle.program_tokens.specs.declared.token.PlacedToken.{PlacedToken}
use Rattle.program_tokens.specs.Tokens.{placed}
use Rattle.program_terms.specs.Terms.{TypeTree, term_fields_of, LensTree, id_of, bij_of, disc_of, then_of, rec_lens, alt_lens, each_of, keyed_each, tree_each, part_of, inv_of, named_lens, RowTree, row_both, row_left, row_right, term_rows_of, term_arms_of, initial_left}
use Rattle.program_grammar.specs.declared.mention.Mention.{Mention}
use Rattle.program_grammar.specs.declared.mention.Sort.TheVariants as sorts
use Rattle.program_grammar.specs.Grammar.{Symbol, mark, a_string, rule, perhaps, repeated, field, type, lens, row, other_pairs, declared_string, rows, other_rows, other_arms, other_fields, a_field, an_arm, a_pair}
use Rattle.program_grammar.specs.Mentions.{Point, mention}
use Rattle.program_grammar.specs.Reading.{Read, is_mark, next_word, mark_at, string_at, field_at, closed_at, perhaps_at, initial_at, typed_at, type_at, pair_at, bij_at, arm_at, left_row_at, right_row_at, both_row_at, row_by, row_at, then_at, disc_at, part_at, word_lens, rec_at, alt_at, mark_lens, begun_lens, lens_from, lens_step, lens_at}
use Rattle.law_prefixes.proofs.Machine.{take_one}
use Rattle.law_prefixes.proofs.MachineSteps.{Takes, Reads, takes_ok, takes_then, takes_mapped, takes_none, none_as, takes_first, takes_not, takes_as}
use Rattle.law_prefixes.proofs.TokenReading.{mark_takes, string_takes, field_takes}
use Rattle.law_prefixes.proofs.ListReading.{Opens, closed_takes, perhaps_takes}
use Rattle.law_prefixes.proofs.TypeReading.{typed_takes, initial_string, fields_take, type_takes}

pair_takes : Reads (List ℕ × List ℕ) a_pair pair_at
unfolding pair_at
pair_takes s p =
    takes_then (string_at p) _ (string_takes (mark Equals ∷ a_string ∷ s) p) (λ a _.
    takes_then (mark_at Equals a.1) _ (mark_takes Equals (a_string ∷ s) a.1) (λ rest _.
    takes_then (string_at rest) _ (string_takes s rest) (λ b _. takes_ok s ((a.0, b.0), b.1))))

bij_takes : Reads LensTree (mark OpenBracket ∷ a_pair ++ repeated other_pairs ∷ mark CloseBracket ∷ perhaps declared_string ∷ []) bij_at
unfolding bij_at
bij_takes s p =
    takes_then (mark_at OpenBracket p) _ (mark_takes OpenBracket (a_pair ++ (repeated other_pairs ∷ mark CloseBracket ∷ perhaps declared_string ∷ s)) p) (λ rest _.
    takes_then (closed_at pair_at CloseBracket rest) _ (closed_takes pair_at other_pairs a_pair CloseBracket refl pair_takes (perhaps declared_string ∷ s) rest) (λ ps _.
    takes_mapped (initial_at string_at (initial_left ps.0) ps.1) (bij_of ps.0) (initial_string (initial_left ps.0) s ps.1)))

-- field "~" field ":" and a lens
arm_takes : (n : ℕ) (inner : Point → Read LensTree) → Reads LensTree (rule (lens n) ∷ []) inner → Reads (List ℕ × List ℕ × LensTree) (an_arm n) (arm_at inner)
unfolding arm_at
arm_takes n inner h s p =
    takes_then (field_at p) _ (field_takes (mark Tilde ∷ rule field ∷ mark Colon ∷ rule (lens n) ∷ s) p) (λ a _.
    takes_then (mark_at Tilde a.1) _ (mark_takes Tilde (rule field ∷ mark Colon ∷ rule (lens n) ∷ s) a.1) (λ rest _.
    takes_then (field_at rest) _ (field_takes (mark Colon ∷ rule (lens n) ∷ s) rest) (λ b _.
    takes_then (mark_at Colon b.1) _ (mark_takes Colon (rule (lens n) ∷ s) b.1) (λ rest _.
    takes_then (inner rest) _ (h s rest) (λ l _. takes_ok s ((a.0, b.0, l.0), l.1))))))

-- rows, by their first word

both_row_takes : (n : ℕ) (inner : Point → Read LensTree) → Reads LensTree (rule (lens n) ∷ []) inner → Reads RowTree (an_arm n) (both_row_at inner)
unfolding both_row_at
both_row_takes n inner h s p = takes_mapped (arm_at inner p) (λ a. row_both a.0 a.1 a.2) (arm_takes n inner h s p)

left_row_takes : (n : ℕ) (ty : Point → Read TypeTree) → Reads TypeTree (rule (type n) ∷ []) ty → Reads RowTree (a_field n) (left_row_at ty)
unfolding left_row_at
left_row_takes n ty g s p = takes_mapped (typed_at ty p) (λ f. row_left f.0 f.1) (typed_takes ty (rule (type n)) g s p)

right_row_takes : (n : ℕ) (ty : Point → Read TypeTree) → Reads TypeTree (rule (type n) ∷ []) ty → Reads RowTree (a_field n) (right_row_at ty)
unfolding right_row_at
right_row_takes n ty g s p = takes_mapped (typed_at ty p) (λ f. row_right f.0 f.1) (typed_takes ty (rule (type n)) g s p)

row_word_takes : (n : ℕ) (ty : Point → Read TypeTree) (inner : Point → Read LensTree) → Reads TypeTree (rule (type n) ∷ []) ty → Reads LensTree (rule (lens n) ∷ []) inner
    → (s : List Symbol) (k : Keyword) (at : ℕ) (ms : List Mention) (ts : List PlacedToken)
    → Takes (RowTree × Point) (λ x. x.1.1) (rule (row n) ∷ s) s (placed (tokens.Keyword k) at ∷ ts) (row_by ty inner (Some k) ms (placed (tokens.Keyword k) at ∷ ts))
unfolding take_one
row_word_takes n ty inner g h s words.Left at ms ts = takes_first (tokens.Keyword words.Left) at ts (a_field n ++ s) refl (left_row_takes n ty g s (ms, ts))
row_word_takes n ty inner g h s words.Right at ms ts = takes_first (tokens.Keyword words.Right) at ts (a_field n ++ s) refl (right_row_takes n ty g s (ms, ts))
row_word_takes n ty inner g h s k at ms ts = takes_as (an_arm n ++ s) (tokens.Keyword k) at ts refl (both_row_takes n inner h s (ms, placed (tokens.Keyword k) at ∷ ts))

row_token_takes : (n : ℕ) (ty : Point → Read TypeTree) (inner : Point → Read LensTree) → Reads TypeTree (rule (type n) ∷ []) ty → Reads LensTree (rule (lens n) ∷ []) inner
    → (s : List Symbol) (k : Token) (at : ℕ) (ms : List Mention) (ts : List PlacedToken)
    → Takes (RowTree × Point) (λ x. x.1.1) (rule (row n) ∷ s) s (placed k at ∷ ts) (row_by ty inner (next_word (placed k at ∷ ts)) ms (placed k at ∷ ts))
unfolding take_one
row_token_takes n ty inner g h s (tokens.Keyword k) at ms ts = row_word_takes n ty inner g h s k at ms ts
row_token_takes n ty inner g h s k at ms ts = takes_as (an_arm n ++ s) k at ts refl (both_row_takes n inner h s (ms, placed k at ∷ ts))

row_after : (n : ℕ) (ty : Point → Read TypeTree) (inner : Point → Read LensTree) → Reads TypeTree (rule (type n) ∷ []) ty → Reads LensTree (rule (lens n) ∷ []) inner
    → (s : List Symbol) (ms : List Mention) (ts : List PlacedToken) → Takes (RowTree × Point) (λ x. x.1.1) (rule (row n) ∷ s) s ts (row_by ty inner (next_word ts) ms ts)
row_after n ty inner g h s ms [] = none_as (rule (row n) ∷ s) (an_arm n ++ s) (both_row_takes n inner h s (ms, []))
row_after n ty inner g h s ms (t ∷ ts) = row_token_takes n ty inner g h s t.token t.at ms ts

row_takes : (n : ℕ) (ty : Point → Read TypeTree) (inner : Point → Read LensTree) → Reads TypeTree (rule (type n) ∷ []) ty → Reads LensTree (rule (lens n) ∷ []) inner → Reads RowTree (rule (row n) ∷ []) (row_at ty inner)
unfolding row_at
row_takes n ty inner g h s p = row_after n ty inner g h s p.0 p.1

-- rows that may be missing in braces
rows_shut : (n : ℕ) (s : List Symbol) → take_one (perhaps (rows n) ∷ mark CloseBrace ∷ s) (tokens.Mark CloseBrace) ≡ take_one (mark CloseBrace ∷ s) (tokens.Mark CloseBrace)
unfolding take_one
rows_shut n s = refl

rows_opened_by : (n : ℕ) (s : List Symbol) (k : Keyword) → take_one (perhaps (rows n) ∷ mark CloseBrace ∷ s) (tokens.Keyword k) ≡ take_one (rule (row n) ∷ repeated (other_rows n) ∷ mark CloseBrace ∷ s) (tokens.Keyword k)
unfolding take_one
rows_opened_by n s words.Left = refl
rows_opened_by n s words.Right = refl
rows_opened_by n s k = refl

rows_opened : (n : ℕ) (s : List Symbol) (k : Token) → is_mark CloseBrace k ≡ false → take_one (perhaps (rows n) ∷ mark CloseBrace ∷ s) k ≡ take_one (rule (row n) ∷ repeated (other_rows n) ∷ mark CloseBrace ∷ s) k
unfolding take_one
rows_opened n s (tokens.Name k) h = refl
rows_opened n s (tokens.Text k) h = refl
rows_opened n s (tokens.Number k) h = refl
rows_opened n s (tokens.Keyword k) h = rows_opened_by n s k
rows_opened n s (tokens.Mark k) h = rw h refl
rows_opened n s tokens.Bad h = refl
rows_opened n s tokens.End h = refl

rows_open : (n : ℕ) → Opens (rows n) (other_rows n) (rule (row n) ∷ []) CloseBrace
rows_open n = record { shut = rows_shut n; opened = rows_opened n }

rec_takes : (n : ℕ) (ty : Point → Read TypeTree) (inner : Point → Read LensTree) → Reads TypeTree (rule (type n) ∷ []) ty → Reads LensTree (rule (lens n) ∷ []) inner
    → Reads LensTree (perhaps (rows n) ∷ mark CloseBrace ∷ []) (rec_at ty inner)
unfolding rec_at
rec_takes n ty inner g h s p =
    takes_mapped (perhaps_at (row_at ty inner) CloseBrace p) (λ rs. rec_lens (term_rows_of rs))
    (perhaps_takes (row_at ty inner) (rows n) (other_rows n) (rule (row n) ∷ []) CloseBrace refl (rows_open n) (row_takes n ty inner g h) s p)

alt_takes : (n : ℕ) (inner : Point → Read LensTree) → Reads LensTree (rule (lens n) ∷ []) inner → Reads LensTree (an_arm n ++ repeated (other_arms n) ∷ mark Greater ∷ []) (alt_at inner)
unfolding alt_at
alt_takes n inner h s p =
    takes_mapped (closed_at (arm_at inner) Greater p) (λ rs. alt_lens (term_arms_of rs))
    (closed_takes (arm_at inner) (other_arms n) (an_arm n) Greater refl (arm_takes n inner h) s p)

-- behind a word

then_takes : (n : ℕ) (inner : Point → Read LensTree) → Reads LensTree (rule (lens n) ∷ []) inner
    → Reads LensTree (mark OpenParen ∷ rule (lens n) ∷ mark Comma ∷ rule (lens n) ∷ mark CloseParen ∷ []) (then_at inner)
unfolding then_at
then_takes n inner h s p =
    takes_then (mark_at OpenParen p) _ (mark_takes OpenParen (rule (lens n) ∷ mark Comma ∷ rule (lens n) ∷ mark CloseParen ∷ s) p) (λ rest _.
    takes_then (inner rest) _ (h (mark Comma ∷ rule (lens n) ∷ mark CloseParen ∷ s) rest) (λ a _.
    takes_then (mark_at Comma a.1) _ (mark_takes Comma (rule (lens n) ∷ mark CloseParen ∷ s) a.1) (λ rest _.
    takes_then (inner rest) _ (h (mark CloseParen ∷ s) rest) (λ b _.
    takes_then (mark_at CloseParen b.1) _ (mark_takes CloseParen s b.1) (λ rest _. takes_ok s (then_of a.0 b.0, rest))))))

disc_takes : (n : ℕ) (ty : Point → Read TypeTree) → Reads TypeTree (rule (type n) ∷ []) ty → Reads LensTree (rule (type n) ∷ rule (type n) ∷ []) (disc_at ty)
unfolding disc_at
disc_takes n ty g s p =
    takes_then (ty p) _ (g (rule (type n) ∷ s) p) (λ a _.
    takes_then (ty a.1) _ (g s a.1) (λ b _. takes_ok s (disc_of a.0 b.0, b.1)))

part_takes : (n : ℕ) (ty : Point → Read TypeTree) → Reads TypeTree (rule (type n) ∷ []) ty → Reads LensTree (mark Less ∷ a_field n ++ repeated (other_fields n) ∷ mark Greater ∷ []) (part_at ty)
unfolding part_at
part_takes n ty g s p =
    takes_then (mark_at Less p) _ (mark_takes Less (a_field n ++ (repeated (other_fields n) ∷ mark Greater ∷ s)) p) (λ rest _.
    takes_mapped (closed_at (typed_at ty) Greater rest) (λ fs. part_of (term_fields_of fs)) (fields_take n ty Greater g s rest))

-- Lenses that begin with a token. What is behind it takes the symbols of the alternative behind theirs.

abbrev Begun : ℕ → Token → ℕ → List PlacedToken → List Symbol → Read LensTree → Type 0
Begun n k at ts s r = Takes (LensTree × Point) (λ x. x.1.1) (rule (lens (suc n)) ∷ s) s (placed k at ∷ ts) r

word_takes : (n : ℕ) (ty : Point → Read TypeTree) (inner : Point → Read LensTree) → Reads TypeTree (rule (type n) ∷ []) ty → Reads LensTree (rule (lens n) ∷ []) inner
    → (s : List Symbol) (k : Keyword) (at : ℕ) (ms : List Mention) (ts : List PlacedToken) → Begun n (tokens.Keyword k) at ts s (word_lens ty inner k at (ms, ts))
unfolding word_lens take_one
word_takes n ty inner g h s words.Id at ms ts = takes_first (tokens.Keyword words.Id) at ts (rule (type n) ∷ s) refl (takes_mapped (ty (ms, ts)) id_of (g s (ms, ts)))
word_takes n ty inner g h s words.Bij at ms ts = takes_first (tokens.Keyword words.Bij) at ts (mark OpenBracket ∷ a_pair ++ (repeated other_pairs ∷ mark CloseBracket ∷ perhaps declared_string ∷ s)) refl (bij_takes s (ms, ts))
word_takes n ty inner g h s words.Disc at ms ts = takes_first (tokens.Keyword words.Disc) at ts (rule (type n) ∷ rule (type n) ∷ s) refl (disc_takes n ty g s (ms, ts))
word_takes n ty inner g h s words.Then at ms ts = takes_first (tokens.Keyword words.Then) at ts (mark OpenParen ∷ rule (lens n) ∷ mark Comma ∷ rule (lens n) ∷ mark CloseParen ∷ s) refl (then_takes n inner h s (ms, ts))
word_takes n ty inner g h s words.Each at ms ts = takes_first (tokens.Keyword words.Each) at ts (rule (lens n) ∷ s) refl (takes_mapped (inner (ms, ts)) each_of (h s (ms, ts)))
word_takes n ty inner g h s words.Keyed at ms ts = takes_first (tokens.Keyword words.Keyed) at ts (rule (lens n) ∷ s) refl (takes_mapped (inner (ms, ts)) keyed_each (h s (ms, ts)))
word_takes n ty inner g h s words.Tree at ms ts = takes_first (tokens.Keyword words.Tree) at ts (rule (lens n) ∷ s) refl (takes_mapped (inner (ms, ts)) tree_each (h s (ms, ts)))
word_takes n ty inner g h s words.Part at ms ts = takes_first (tokens.Keyword words.Part) at ts (mark Less ∷ a_field n ++ (repeated (other_fields n) ∷ mark Greater ∷ s)) refl (part_takes n ty g s (ms, ts))
word_takes n ty inner g h s words.Inv at ms ts = takes_first (tokens.Keyword words.Inv) at ts (rule (lens n) ∷ s) refl (takes_mapped (inner (ms, ts)) inv_of (h s (ms, ts)))
word_takes n ty inner g h s k at ms ts = takes_not (tokens.Keyword k) at ts refl

marked_takes : (n : ℕ) (ty : Point → Read TypeTree) (inner : Point → Read LensTree) → Reads TypeTree (rule (type n) ∷ []) ty → Reads LensTree (rule (lens n) ∷ []) inner
    → (s : List Symbol) (m : Mark) (at : ℕ) (ms : List Mention) (ts : List PlacedToken) → Begun n (tokens.Mark m) at ts s (mark_lens ty inner m at (ms, ts))
unfolding mark_lens take_one
marked_takes n ty inner g h s OpenBrace at ms ts = takes_first (tokens.Mark OpenBrace) at ts (perhaps (rows n) ∷ mark CloseBrace ∷ s) refl (rec_takes n ty inner g h s (ms, ts))
marked_takes n ty inner g h s Less at ms ts = takes_first (tokens.Mark Less) at ts (an_arm n ++ (repeated (other_arms n) ∷ mark Greater ∷ s)) refl (alt_takes n inner h s (ms, ts))
marked_takes n ty inner g h s m at ms ts = takes_not (tokens.Mark m) at ts refl

begun_takes : (n : ℕ) (ty : Point → Read TypeTree) (inner : Point → Read LensTree) → Reads TypeTree (rule (type n) ∷ []) ty → Reads LensTree (rule (lens n) ∷ []) inner
    → (s : List Symbol) (k : Token) (at : ℕ) (ms : List Mention) (ts : List PlacedToken) → Begun n k at ts s (begun_lens ty inner k at (ms, ts))
unfolding begun_lens take_one
begun_takes n ty inner g h s (tokens.Keyword k) at ms ts = word_takes n ty inner g h s k at ms ts
begun_takes n ty inner g h s (tokens.Name k) at ms ts = takes_first (tokens.Name k) at ts s refl (takes_ok s (named_lens k, (ms ++ mention sorts.Lens k at ∷ [], ts)))
begun_takes n ty inner g h s (tokens.Mark k) at ms ts = marked_takes n ty inner g h s k at ms ts
begun_takes n ty inner g h s (tokens.Text k) at ms ts = takes_not (tokens.Text k) at ts refl
begun_takes n ty inner g h s (tokens.Number k) at ms ts = takes_not (tokens.Number k) at ts refl
begun_takes n ty inner g h s tokens.Bad at ms ts = takes_not tokens.Bad at ts refl
begun_takes n ty inner g h s tokens.End at ms ts = takes_not tokens.End at ts refl

from_takes : (n : ℕ) (ty : Point → Read TypeTree) (inner : Point → Read LensTree) → Reads TypeTree (rule (type n) ∷ []) ty → Reads LensTree (rule (lens n) ∷ []) inner
    → (s : List Symbol) (ms : List Mention) (ts : List PlacedToken) → Takes (LensTree × Point) (λ x. x.1.1) (rule (lens (suc n)) ∷ s) s ts (lens_from ty inner ms ts)
from_takes n ty inner g h s ms [] = takes_none (rule (lens (suc n)) ∷ s) s
from_takes n ty inner g h s ms (t ∷ ts) = begun_takes n ty inner g h s t.token t.at ms ts

no_room : (s : List Symbol) (ms : List Mention) (ts : List PlacedToken) → Takes (LensTree × Point) (λ x. x.1.1) (rule (lens zero) ∷ s) s ts (lens_at zero (ms, ts))
unfolding lens_at take_one
no_room s ms [] = takes_none (rule (lens zero) ∷ s) s
no_room s ms (t ∷ ts) = takes_not t.token t.at ts refl

-- a lens, however many types and lenses may be nested
pub lens_takes : (room : ℕ) → Reads LensTree (rule (lens room) ∷ []) (lens_at room)
unfolding lens_at lens_step
lens_takes zero s p = no_room s p.0 p.1
lens_takes (suc room) s p = from_takes room (type_at room) (lens_at room) (type_takes room) (lens_takes room) s p.0 p.1
