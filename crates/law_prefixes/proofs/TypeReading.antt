-- Types, read beside the machine.
use Rattle.std.proofs.Common.{◌≡◌, ℕ, zero, suc, false, List, [], ◌∷◌, ◌++◌, refl}
use Rattle.program_tokens.specs.declared.keyword.Keyword.{Keyword}
use Rattle.program_tokens.specs.declared.keyword.Keyword.TheVariants as words
use Rattle.program_tokens.specs.declared.mark.Mark.{Mark}
use Rattle.program_tokens.specs.declared.mark.Mark.TheVariants.{OpenBrace, CloseBrace, Less, Greater, OpenBracket, CloseBracket, Colon}
use Rattle.program_tokens.specs.declared.token.Token.{Token}
use Rattle.program_tokens.specs.declared.token.Token.TheVariants as tokens
use Rattle.program_tokens.specs.declared.token.PlacedToken.{PlacedToken}
use Rattle.program_tokens.specs.Tokens.{placed}
use Rattle.program_terms.specs.Terms.{TypeTree, unit, bool, int, text, enum_of, record_of, one_of, list, keyed, tree, named, term_fields_of, initial_number, initial_text, initial_member}
use Rattle.program_grammar.specs.declared.mention.Mention.{Mention}
use Rattle.program_grammar.specs.declared.mention.Sort.TheVariants as sorts
use Rattle.program_grammar.specs.Grammar.{Symbol, mark, a_string, a_number, rule, perhaps, repeated, field, type, other_members, declared_number, declared_string, fields, other_fields, a_field}
use Rattle.program_grammar.specs.Mentions.{Point, mention}
use Rattle.program_grammar.specs.Reading.{Read, is_mark, mark_at, string_at, number_at, field_at, closed_at, perhaps_at, initial_at, typed_at, enum_at, record_at, one_of_at, word_type, mark_type, begun_type, type_from, type_step, type_at}
use Rattle.law_prefixes.proofs.Machine.{take_one}
use Rattle.law_prefixes.proofs.MachineSteps.{Takes, Reads, takes_ok, takes_then, takes_mapped, takes_none, takes_first, takes_not}
use Rattle.law_prefixes.proofs.TokenReading.{mark_takes, string_takes, number_takes, field_takes}
use Rattle.law_prefixes.proofs.ListReading.{Opens, closed_takes, perhaps_takes, initial_takes}

-- a field, a colon and what is inside
pub typed_takes : {A : Type 0} (inner : Point → Read A) (x : Symbol) → Reads A (x ∷ []) inner → Reads (List ℕ × A) (rule field ∷ mark Colon ∷ x ∷ []) (typed_at inner)
unfolding typed_at
typed_takes inner x h s p =
    takes_then (field_at p) _ (field_takes (mark Colon ∷ x ∷ s) p) (λ f _.
    takes_then (mark_at Colon f.1) _ (mark_takes Colon (x ∷ s) f.1) (λ rest _.
    takes_then (inner rest) _ (h s rest) (λ t _. takes_ok s ((f.0, t.0), t.1))))

pub initial_string : (left_out : List ℕ) → Reads (List ℕ) (perhaps declared_string ∷ []) (initial_at string_at left_out)
initial_string left_out = initial_takes string_at left_out declared_string a_string refl string_takes

enum_takes : Reads TypeTree (mark OpenBracket ∷ a_string ∷ repeated other_members ∷ mark CloseBracket ∷ perhaps declared_string ∷ []) enum_at
unfolding enum_at
enum_takes s p =
    takes_then (mark_at OpenBracket p) _ (mark_takes OpenBracket (a_string ∷ repeated other_members ∷ mark CloseBracket ∷ perhaps declared_string ∷ s) p) (λ rest _.
    takes_then (closed_at string_at CloseBracket rest) _ (closed_takes string_at other_members (a_string ∷ []) CloseBracket refl string_takes (perhaps declared_string ∷ s) rest) (λ ms _.
    takes_mapped (initial_at string_at (initial_member ms.0) ms.1) (enum_of ms.0) (initial_string (initial_member ms.0) s ms.1)))

-- fields that may be missing in braces
fields_shut : (n : ℕ) (s : List Symbol) → take_one (perhaps (fields n) ∷ mark CloseBrace ∷ s) (tokens.Mark CloseBrace) ≡ take_one (mark CloseBrace ∷ s) (tokens.Mark CloseBrace)
unfolding take_one
fields_shut n s = refl

fields_opened : (n : ℕ) (s : List Symbol) (k : Token) → is_mark CloseBrace k ≡ false → take_one (perhaps (fields n) ∷ mark CloseBrace ∷ s) k ≡ take_one (a_field n ++ (repeated (other_fields n) ∷ mark CloseBrace ∷ s)) k
unfolding take_one
fields_opened n s (tokens.Name k) h = refl
fields_opened n s (tokens.Text k) h = refl
fields_opened n s (tokens.Number k) h = refl
fields_opened n s (tokens.Keyword k) h = refl
fields_opened n s (tokens.Mark k) h = rw h refl
fields_opened n s tokens.Bad h = refl
fields_opened n s tokens.End h = refl

fields_open : (n : ℕ) → Opens (fields n) (other_fields n) (a_field n) CloseBrace
fields_open n = record { shut = fields_shut n; opened = fields_opened n }

-- fields, and the mark after them
pub fields_take : (n : ℕ) (inner : Point → Read TypeTree) (close : Mark) → Reads TypeTree (rule (type n) ∷ []) inner
    → (s : List Symbol) (p : Point) → Takes (List (List ℕ × TypeTree) × Point) (λ x. x.1.1) (a_field n ++ (repeated (other_fields n) ∷ mark close ∷ s)) s p.1 (closed_at (typed_at inner) close p)
fields_take n inner close h s p = closed_takes (typed_at inner) (other_fields n) (a_field n) close refl (typed_takes inner (rule (type n)) h) s p

record_takes : (n : ℕ) (inner : Point → Read TypeTree) → Reads TypeTree (rule (type n) ∷ []) inner → Reads TypeTree (perhaps (fields n) ∷ mark CloseBrace ∷ []) (record_at inner)
unfolding record_at
record_takes n inner h s p =
    takes_mapped (perhaps_at (typed_at inner) CloseBrace p) (λ fs. record_of (term_fields_of fs))
    (perhaps_takes (typed_at inner) (fields n) (other_fields n) (a_field n) CloseBrace refl (fields_open n) (typed_takes inner (rule (type n)) h) s p)

one_of_takes : (n : ℕ) (inner : Point → Read TypeTree) → Reads TypeTree (rule (type n) ∷ []) inner → Reads TypeTree (rule field ∷ mark Colon ∷ rule (type n) ∷ repeated (other_fields n) ∷ mark Greater ∷ []) (one_of_at inner)
unfolding one_of_at
one_of_takes n inner h s p = takes_mapped (closed_at (typed_at inner) Greater p) (λ fs. one_of (term_fields_of fs)) (fields_take n inner Greater h s p)

-- Types that begin with a token. What is behind it takes the symbols of the alternative behind theirs.

abbrev Begun : ℕ → Token → ℕ → List PlacedToken → List Symbol → Read TypeTree → Type 0
Begun n k at ts s r = Takes (TypeTree × Point) (λ x. x.1.1) (rule (type (suc n)) ∷ s) s (placed k at ∷ ts) r

word_takes : (n : ℕ) (inner : Point → Read TypeTree) → Reads TypeTree (rule (type n) ∷ []) inner
    → (s : List Symbol) (k : Keyword) (at : ℕ) (ms : List Mention) (ts : List PlacedToken) → Begun n (tokens.Keyword k) at ts s (word_type inner k at (ms, ts))
unfolding word_type take_one
word_takes n inner h s words.Unit at ms ts = takes_first (tokens.Keyword words.Unit) at ts s refl (takes_ok s (unit, (ms, ts)))
word_takes n inner h s words.Bool at ms ts = takes_first (tokens.Keyword words.Bool) at ts s refl (takes_ok s (bool, (ms, ts)))
word_takes n inner h s words.Int at ms ts = takes_first (tokens.Keyword words.Int) at ts (perhaps declared_number ∷ s) refl (takes_mapped (initial_at number_at initial_number (ms, ts)) int (initial_takes number_at initial_number declared_number a_number refl number_takes s (ms, ts)))
word_takes n inner h s words.Text at ms ts = takes_first (tokens.Keyword words.Text) at ts (perhaps declared_string ∷ s) refl (takes_mapped (initial_at string_at initial_text (ms, ts)) text (initial_string initial_text s (ms, ts)))
word_takes n inner h s words.Enum at ms ts = takes_first (tokens.Keyword words.Enum) at ts (mark OpenBracket ∷ a_string ∷ repeated other_members ∷ mark CloseBracket ∷ perhaps declared_string ∷ s) refl (enum_takes s (ms, ts))
word_takes n inner h s words.List at ms ts = takes_first (tokens.Keyword words.List) at ts (rule (type n) ∷ s) refl (takes_mapped (inner (ms, ts)) list (h s (ms, ts)))
word_takes n inner h s words.Keyed at ms ts = takes_first (tokens.Keyword words.Keyed) at ts (rule (type n) ∷ s) refl (takes_mapped (inner (ms, ts)) keyed (h s (ms, ts)))
word_takes n inner h s words.Tree at ms ts = takes_first (tokens.Keyword words.Tree) at ts (rule (type n) ∷ s) refl (takes_mapped (inner (ms, ts)) tree (h s (ms, ts)))
word_takes n inner h s k at ms ts = takes_not (tokens.Keyword k) at ts refl

marked_takes : (n : ℕ) (inner : Point → Read TypeTree) → Reads TypeTree (rule (type n) ∷ []) inner
    → (s : List Symbol) (m : Mark) (at : ℕ) (ms : List Mention) (ts : List PlacedToken) → Begun n (tokens.Mark m) at ts s (mark_type inner m at (ms, ts))
unfolding mark_type take_one
marked_takes n inner h s OpenBrace at ms ts = takes_first (tokens.Mark OpenBrace) at ts (perhaps (fields n) ∷ mark CloseBrace ∷ s) refl (record_takes n inner h s (ms, ts))
marked_takes n inner h s Less at ms ts = takes_first (tokens.Mark Less) at ts (a_field n ++ (repeated (other_fields n) ∷ mark Greater ∷ s)) refl (one_of_takes n inner h s (ms, ts))
marked_takes n inner h s m at ms ts = takes_not (tokens.Mark m) at ts refl

begun_takes : (n : ℕ) (inner : Point → Read TypeTree) → Reads TypeTree (rule (type n) ∷ []) inner
    → (s : List Symbol) (k : Token) (at : ℕ) (ms : List Mention) (ts : List PlacedToken) → Begun n k at ts s (begun_type inner k at (ms, ts))
unfolding begun_type take_one
begun_takes n inner h s (tokens.Keyword k) at ms ts = word_takes n inner h s k at ms ts
begun_takes n inner h s (tokens.Name k) at ms ts = takes_first (tokens.Name k) at ts s refl (takes_ok s (named k, (ms ++ mention sorts.Type k at ∷ [], ts)))
begun_takes n inner h s (tokens.Mark k) at ms ts = marked_takes n inner h s k at ms ts
begun_takes n inner h s (tokens.Text k) at ms ts = takes_not (tokens.Text k) at ts refl
begun_takes n inner h s (tokens.Number k) at ms ts = takes_not (tokens.Number k) at ts refl
begun_takes n inner h s tokens.Bad at ms ts = takes_not tokens.Bad at ts refl
begun_takes n inner h s tokens.End at ms ts = takes_not tokens.End at ts refl

from_takes : (n : ℕ) (inner : Point → Read TypeTree) → Reads TypeTree (rule (type n) ∷ []) inner
    → (s : List Symbol) (ms : List Mention) (ts : List PlacedToken) → Takes (TypeTree × Point) (λ x. x.1.1) (rule (type (suc n)) ∷ s) s ts (type_from inner ms ts)
from_takes n inner h s ms [] = takes_none (rule (type (suc n)) ∷ s) s
from_takes n inner h s ms (t ∷ ts) = begun_takes n inner h s t.token t.at ms ts

no_room : (s : List Symbol) (ms : List Mention) (ts : List PlacedToken) → Takes (TypeTree × Point) (λ x. x.1.1) (rule (type zero) ∷ s) s ts (type_at zero (ms, ts))
unfolding type_at take_one
no_room s ms [] = takes_none (rule (type zero) ∷ s) s
no_room s ms (t ∷ ts) = takes_not t.token t.at ts refl

-- a type, however many may be nested
pub type_takes : (room : ℕ) → Reads TypeTree (rule (type room) ∷ []) (type_at room)
unfolding type_at type_step
type_takes zero s p = no_room s p.0 p.1
type_takes (suc room) s p = from_takes room (type_at room) (type_takes room) s p.0 p.1
