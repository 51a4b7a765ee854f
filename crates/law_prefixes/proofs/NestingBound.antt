-- In a prefix that the numbered grammar has, each type and each lens is inside fewer than 100 others, however the plain grammar derives it.
use Rattle.std.proofs.Common.{◌≡◌, ℕ, zero, suc, ◌-◌, ◌<◌, true, false, List, [], ◌∷◌, ◌++◌, Option, Some, None, refl, sym, ap, subst, ◌∙◌, eqb, arith, inl, inr}
use Rattle.std.specs.Option.{option_or}
use Rattle.std.proofs.lemmas.Bool.{eq-eqb}
use lib.IntN.{ℤ}
use Rattle.program_tokens.specs.declared.keyword.Keyword.{Keyword}
use Rattle.program_tokens.specs.declared.keyword.Keyword.TheVariants as words
use Rattle.program_tokens.specs.declared.mark.Mark.{Mark}
use Rattle.program_tokens.specs.declared.token.Token.{Token}
use Rattle.program_tokens.specs.declared.token.Token.TheVariants as tokens
use Rattle.program_tokens.specs.Words.{mark_byte}
use Rattle.program_grammar.specs.Grammar.{Rule, program, type, lens, Part, definitions, other_members, other_pairs, declared_number, declared_string, fields, other_fields, rows, other_rows, other_arms, Symbol, mark, word, a_name, a_string, a_number, the_end, rule, perhaps, repeated, contents, alternatives, IsAmong}
use Rattle.program_grammar.specs.PlainGrammar.{PlainRule, PlainPart, PlainSymbol, IsPlainPrefix, inside_rule, inside_part, first_depth, other_depths, depths_before, IsAllowed, IsNestedBelow}
use Rattle.program_grammar.specs.PlainGrammar as plain
use Rattle.law_prefixes.proofs.Machine.{code, take_inside, take_one, goes}
use Rattle.law_prefixes.proofs.MachineCompleteness.{Closes, Follows, FollowsRule, Fine, Each, ◌also◌, each, fine_rule, fine_part, fine_again, Lifts, lifts_rule, lifts_part, passed_by, absent_passes, or_none}
use Rattle.law_prefixes.proofs.InitialValues.{IsNotInitial, NoEquals, not_declared}
use Rattle.law_prefixes.proofs.MachineSteps.{either_way}
use Rattle.program_grammar.specs.Reading.{is_mark}
use Rattle.program_tokens.specs.declared.mark.Mark.TheVariants.{Equals}
use Rattle.law_prefixes.proofs.NumberedSymbols.{number_rule, number_part, number, number_all, numbered, numbered_before, numbered_alternative, numbered_content}

-- ---- what the first symbol takes

-- a symbol that is a token's, or a field or a row, which begin with a token
abbrev Starts : PlainSymbol → Type 0
Starts (plain.mark m) = Unit {0}
Starts (plain.word k) = Unit {0}
Starts plain.a_name = Unit {0}
Starts plain.a_string = Unit {0}
Starts plain.a_number = Unit {0}
Starts plain.the_end = Unit {0}
Starts (plain.rule plain.program) = ⊥
Starts (plain.rule plain.field) = Unit {0}
Starts (plain.rule plain.type) = ⊥
Starts (plain.rule plain.lens) = ⊥
Starts (plain.rule plain.row) = Unit {0}
Starts (plain.perhaps p) = ⊥
Starts (plain.repeated p) = ⊥

abbrev AllStart : List PlainSymbol → Type 0
AllStart [] = ⊥
AllStart (x ∷ a) = Starts x

-- the machine takes the token with these symbols
abbrev Takes : List Symbol → Token → Type 0
Takes s t = (q : List Symbol) × (take_one s t ≡ Some q)

-- the machine takes the first token with the first symbol, whatever its number and whatever follows
abbrev TakesFirst : List PlainSymbol → List Token → Type 0
TakesFirst [] ts = Unit {0}
TakesFirst (x ∷ s) [] = Unit {0}
TakesFirst (x ∷ s) (t ∷ ts) = Starts x → (n : ℕ) (behind : List Symbol) → Takes (number n x ∷ behind) t

takes_mark : (m : Mark) (s : List Symbol) → take_one (mark m ∷ s) (tokens.Mark m) ≡ Some s
unfolding take_one
takes_mark m s = rw (eq-eqb (mark_byte m) (mark_byte m) refl) refl

takes_word : (k : Keyword) (s : List Symbol) → take_one (word k ∷ s) (tokens.Keyword k) ≡ Some s
unfolding take_one
takes_word k s = rw (eq-eqb (code k) (code k) refl) refl

takes_name : (n : List ℕ) (s : List Symbol) → take_one (a_name ∷ s) (tokens.Name n) ≡ Some s
unfolding take_one
takes_name n s = refl

takes_string : (n : List ℕ) (s : List Symbol) → take_one (a_string ∷ s) (tokens.Text n) ≡ Some s
unfolding take_one
takes_string n s = refl

takes_number : (z : ℤ) (s : List Symbol) → take_one (a_number ∷ s) (tokens.Number z) ≡ Some s
unfolding take_one
takes_number z s = refl

takes_end : (s : List Symbol) → take_one (the_end ∷ s) tokens.End ≡ Some s
unfolding take_one
takes_end s = refl

-- an alternative that takes the token: so does the rule
rule_takes : (r : Rule) (a behind : List Symbol) (t : Token) (q : List Symbol) → IsAmong a (alternatives r) → take_one (a ++ behind) t ≡ Some q → take_one (rule r ∷ behind) t ≡ Some q
unfolding take_one
rule_takes r a behind t q k e = (each (Lifts (alternatives r) behind t) (alternatives r) (lifts_rule r behind t) a k).lifted q e

perhaps_takes : (p : Part) (a behind : List Symbol) (t : Token) (q : List Symbol) → IsAmong a (contents p) → take_one (a ++ behind) t ≡ Some q → take_one (perhaps p ∷ behind) t ≡ Some q
unfolding take_one
perhaps_takes p a behind t q k e = ap (λ o. option_or o (take_one behind t)) ((each (Lifts (contents p) behind t) (contents p) (lifts_part p behind t) a k).lifted q e)

repeated_takes : (p : Part) (a behind : List Symbol) (t : Token) (q : List Symbol) → IsAmong a (contents p) → take_one (a ++ (repeated p ∷ behind)) t ≡ Some q → take_one (repeated p ∷ behind) t ≡ Some q
unfolding take_one
repeated_takes p a behind t q k e =
    ap (λ o. option_or o (take_one behind t)) ((each (Lifts (contents p) (repeated p ∷ behind) t) (contents p) (lifts_part p (repeated p ∷ behind) t) a k).lifted q e)

ended_takes : (p : Part) (behind : List Symbol) (t : Token) (q : List Symbol) → Closes behind → take_one behind t ≡ Some q → take_one (repeated p ∷ behind) t ≡ Some q
unfolding take_one
ended_takes p behind t q c e = ap (λ o. option_or o (take_one behind t)) (passed_by p (repeated p ∷ behind) behind q t c e) ∙ e

-- so takes what begins with such a symbol
all_take : (a s : List PlainSymbol) (t : Token) (ts : List Token) → AllStart a → TakesFirst (a ++ s) (t ∷ ts) → (n : ℕ) (behind : List Symbol) → Takes (number_all n a ++ behind) t
all_take [] s t ts b h n behind = absurd b
all_take (x ∷ a) s t ts b h n behind = h b n (number_all n a ++ behind)

row_starts : Each AllStart (plain.alternatives plain.row)
row_starts = tt also tt also tt also tt

field_starts : Each AllStart (plain.alternatives plain.field)
field_starts = tt also tt also tt

type_starts : Each AllStart (plain.alternatives plain.type)
type_starts = tt also tt also tt also tt also tt also tt also tt also tt also tt also tt also tt also tt

lens_starts : Each AllStart (plain.alternatives plain.lens)
lens_starts = tt also tt also tt also tt also tt also tt also tt also tt also tt also tt also tt also tt also tt

part_starts : (p : PlainPart) → Each AllStart (plain.contents p)
part_starts plain.definitions = tt also tt also tt
part_starts plain.other_members = tt also tt
part_starts plain.other_pairs = tt also tt
part_starts plain.declared_number = tt also tt
part_starts plain.declared_string = tt also tt
part_starts plain.fields = tt also tt
part_starts plain.other_fields = tt also tt
part_starts plain.rows = tt also tt
part_starts plain.other_rows = tt also tt
part_starts plain.other_arms = tt also tt

-- an alternative of a field or of a row takes the token: so does the rule, whatever its number
lifted : (r : PlainRule) (a s : List PlainSymbol) (t : Token) (ts : List Token) → ((n : ℕ) → IsAllowed 100 r n) → Each AllStart (plain.alternatives r) → IsAmong a (plain.alternatives r) → TakesFirst (a ++ s) (t ∷ ts)
    → (n : ℕ) (behind : List Symbol) → Takes (number n (plain.rule r) ∷ behind) t
lifted r a s t ts allowed starts k h n behind =
    let found = all_take a s t ts (each AllStart (plain.alternatives r) starts a k) h (inside_rule r n) behind in
    (found.0, rule_takes (number_rule n r) (number_all (inside_rule r n) a) behind t found.0 (numbered_alternative r n a (allowed n) k) found.1)

rule_first : (r : PlainRule) (a s : List PlainSymbol) (t : Token) (ts : List Token) → IsAmong a (plain.alternatives r) → TakesFirst (a ++ s) (t ∷ ts) → TakesFirst (plain.rule r ∷ s) (t ∷ ts)
rule_first plain.program a s t ts k h = λ b n behind. absurd b
rule_first plain.field a s t ts k h = λ b n behind. lifted plain.field a s t ts (λ n. tt) field_starts k h n behind
rule_first plain.type a s t ts k h = λ b n behind. absurd b
rule_first plain.lens a s t ts k h = λ b n behind. absurd b
rule_first plain.row a s t ts k h = λ b n behind. lifted plain.row a s t ts (λ n. tt) row_starts k h n behind

nothing_first : (s : List PlainSymbol) → TakesFirst s []
nothing_first [] = tt
nothing_first (x ∷ s) = tt

takes_first : {s : List PlainSymbol} {ts : List Token} → IsPlainPrefix s ts → TakesFirst s ts
takes_first (plain.no_tokens s) = nothing_first s
takes_first (plain.mark_first m s ts h) = λ b n behind. (behind, takes_mark m behind)
takes_first (plain.word_first k s ts h) = λ b n behind. (behind, takes_word k behind)
takes_first (plain.name_first m s ts h) = λ b n behind. (behind, takes_name m behind)
takes_first (plain.string_first m s ts h) = λ b n behind. (behind, takes_string m behind)
takes_first (plain.number_first z s ts h) = λ b n behind. (behind, takes_number z behind)
takes_first (plain.end_first s ts h) = λ b n behind. (behind, takes_end behind)
takes_first (plain.rule_replaced r a s t ts k h) = rule_first r a s t ts k (takes_first h)
takes_first (plain.option_present p a s t ts k h) = λ b n behind. absurd b
takes_first (plain.option_absent p s t ts h) = λ b n behind. absurd b
takes_first (plain.repeated_once_more p a s t ts k h) = λ b n behind. absurd b
takes_first (plain.repeated_no_more p s t ts h) = λ b n behind. absurd b

-- what closes takes the token
closes_starts : (n : ℕ) (x : PlainSymbol) (behind : List Symbol) → Closes (number n x ∷ behind) → Starts x
closes_starts n (plain.mark m) behind c = tt
closes_starts n (plain.word k) behind c = tt
closes_starts n plain.a_name behind c = absurd c
closes_starts n plain.a_string behind c = absurd c
closes_starts n plain.a_number behind c = absurd c
closes_starts n plain.the_end behind c = absurd c
closes_starts n (plain.rule r) behind c = absurd c
closes_starts n (plain.perhaps p) behind c = absurd c
closes_starts n (plain.repeated p) behind c = absurd c

closing_takes : (s : List PlainSymbol) (t : Token) (ts : List Token) (ns : List ℕ) → Closes (numbered ns s) → TakesFirst s (t ∷ ts) → Takes (numbered ns s) t
closing_takes [] t ts ns c h = absurd c
closing_takes (x ∷ s) t ts ns c h = h (closes_starts (first_depth ns) x (numbered (other_depths ns) s) c) (first_depth ns) (numbered (other_depths ns) s)

-- ---- where the machine goes on, it goes on with what the plain grammar has

goes_as : (a b : List Symbol) (t : Token) (ts : List Token) (q : List Symbol) → take_one a t ≡ Some q → take_one b t ≡ Some q → goes a (t ∷ ts) ≡ true → goes b (t ∷ ts) ≡ true
unfolding goes
goes_as a b t ts q e f h = rw (f, goes) (rw (e, goes) at h)

goes_on : (a q : List Symbol) (t : Token) (ts : List Token) → take_one a t ≡ Some q → goes a (t ∷ ts) ≡ true → goes q ts ≡ true
unfolding goes
goes_on a q t ts e h = rw (e, goes) at h

abbrev absent : Option (List Symbol)
absent = None

stops : (a : List Symbol) (t : Token) (ts : List Token) → take_one a t ≡ absent → goes a (t ∷ ts) ≡ true → ⊥
unfolding goes
stops a t ts e h = let no : false ≡ true = rw (e, goes) at h in absurd cc

type_stops : (behind : List Symbol) (t : Token) → take_one (rule (type 0) ∷ behind) t ≡ absent
unfolding take_one
type_stops behind t = refl

lens_stops : (behind : List Symbol) (t : Token) → take_one (rule (lens 0) ∷ behind) t ≡ absent
unfolding take_one
lens_stops behind t = refl

below : (n k : ℕ) → 100 - n ≡ suc k → n < 100
below n k e = omega (arith, e)

-- a type or a lens that the machine goes on with is inside fewer than 100 others
type_allowed : (n : ℕ) (behind : List Symbol) (t : Token) (ts : List Token) → goes (rule (type (100 - n)) ∷ behind) (t ∷ ts) ≡ true → n < 100
type_allowed n behind t ts h = by (100 - n) refl h
  where
    by : (k : ℕ) → 100 - n ≡ k → goes (rule (type k) ∷ behind) (t ∷ ts) ≡ true → n < 100
    by zero e g = absurd (stops (rule (type 0) ∷ behind) t ts (type_stops behind t) g)
    by (suc k) e g = below n k e

lens_allowed : (n : ℕ) (behind : List Symbol) (t : Token) (ts : List Token) → goes (rule (lens (100 - n)) ∷ behind) (t ∷ ts) ≡ true → n < 100
lens_allowed n behind t ts h = by (100 - n) refl h
  where
    by : (k : ℕ) → 100 - n ≡ k → goes (rule (lens k) ∷ behind) (t ∷ ts) ≡ true → n < 100
    by zero e g = absurd (stops (rule (lens 0) ∷ behind) t ts (lens_stops behind t) g)
    by (suc k) e g = below n k e

allowed : (r : PlainRule) (n : ℕ) (behind : List Symbol) (t : Token) (ts : List Token) → goes (rule (number_rule n r) ∷ behind) (t ∷ ts) ≡ true → IsAllowed 100 r n
allowed plain.program n behind t ts h = tt
allowed plain.field n behind t ts h = tt
allowed plain.type n behind t ts h = type_allowed n behind t ts h
allowed plain.lens n behind t ts h = lens_allowed n behind t ts h
allowed plain.row n behind t ts h = tt

program_as : (behind : List Symbol) (t : Token) → take_one (rule program ∷ behind) t ≡ take_one (repeated definitions ∷ word words.Main ∷ rule (lens 100) ∷ behind) t
unfolding take_one
program_as behind t = or_none (take_inside (repeated definitions ∷ word words.Main ∷ rule (lens 100) ∷ behind) t)

goes_same : (a b : List Symbol) (t : Token) (ts : List Token) → take_one a t ≡ take_one b t → goes a (t ∷ ts) ≡ true → goes b (t ∷ ts) ≡ true
unfolding goes
goes_same a b t ts e h = rw (sym e, goes) h

started : (r : PlainRule) → Each AllStart (plain.alternatives r) → (n : ℕ) (a s : List PlainSymbol) (t : Token) (ts : List Token) (behind : List Symbol) → IsAllowed 100 r n → IsAmong a (plain.alternatives r)
    → TakesFirst (a ++ s) (t ∷ ts) → goes (rule (number_rule n r) ∷ behind) (t ∷ ts) ≡ true → goes (number_all (inside_rule r n) a ++ behind) (t ∷ ts) ≡ true
started r starts n a s t ts behind b k h g =
    let inner = number_all (inside_rule r n) a in
    let found = all_take a s t ts (each AllStart (plain.alternatives r) starts a k) h (inside_rule r n) behind in
    goes_as (rule (number_rule n r) ∷ behind) (inner ++ behind) t ts found.0 (rule_takes (number_rule n r) inner behind t found.0 (numbered_alternative r n a b k) found.1) found.1 g

-- behind a rule the machine goes on with the alternative
alternative_goes : (r : PlainRule) (n : ℕ) (a s : List PlainSymbol) (t : Token) (ts : List Token) (behind : List Symbol) → IsAllowed 100 r n → IsAmong a (plain.alternatives r) → TakesFirst (a ++ s) (t ∷ ts)
    → goes (rule (number_rule n r) ∷ behind) (t ∷ ts) ≡ true → goes (number_all (inside_rule r n) a ++ behind) (t ∷ ts) ≡ true
alternative_goes plain.program n a s t ts behind b (inl e) h g =
    subst (λ (x : List PlainSymbol). goes (number_all 0 x ++ behind) (t ∷ ts) ≡ true) (sym e)
    (goes_same (rule program ∷ behind) (number_all 0 (plain.repeated plain.definitions ∷ plain.word words.Main ∷ plain.rule plain.lens ∷ []) ++ behind) t ts (program_as behind t) g)
alternative_goes plain.program n a s t ts behind b (inr k) h g = absurd k
alternative_goes plain.field n a s t ts behind b k h g = started plain.field field_starts n a s t ts behind b k h g
alternative_goes plain.type n a s t ts behind b k h g = started plain.type type_starts n a s t ts behind b k h g
alternative_goes plain.lens n a s t ts behind b k h g = started plain.lens lens_starts n a s t ts behind b k h g
alternative_goes plain.row n a s t ts behind b k h g = started plain.row row_starts n a s t ts behind b k h g

-- ---- an initial value that is missing: plain symbols before which it may stand begin with no `=`

abbrev BeginsEquals : List Token → Type 0
BeginsEquals [] = ⊥
BeginsEquals (t ∷ ts) = is_mark Equals t ≡ true

-- whatever the depths, and whatever follows
abbrev NeverEquals : List PlainSymbol → Type 0
NeverEquals a = (s : List PlainSymbol) (ns : List ℕ) → NoEquals (numbered ns (a ++ s))

rule_never : (r : PlainRule) → Each NeverEquals (plain.alternatives r)
rule_never plain.program = (λ s ns. (tt, tt)) also tt
rule_never plain.field = (λ s ns. tt) also (λ s ns. tt) also tt
rule_never plain.type =
    (λ s ns. tt) also (λ s ns. tt) also (λ s ns. tt) also (λ s ns. tt) also (λ s ns. tt) also (λ s ns. refl) also (λ s ns. refl)
    also (λ s ns. tt) also (λ s ns. tt) also (λ s ns. tt) also (λ s ns. tt) also tt
rule_never plain.lens =
    (λ s ns. tt) also (λ s ns. tt) also (λ s ns. tt) also (λ s ns. tt) also (λ s ns. refl) also (λ s ns. refl)
    also (λ s ns. tt) also (λ s ns. tt) also (λ s ns. tt) also (λ s ns. tt) also (λ s ns. tt) also (λ s ns. tt) also tt
rule_never plain.row = (λ s ns. tt) also (λ s ns. tt) also (λ s ns. tt) also tt

part_never : (p : PlainPart) (n : ℕ) → IsNotInitial (number_part n p) → Each NeverEquals (plain.contents p)
part_never plain.definitions n h = (λ s ns. tt) also (λ s ns. tt) also tt
part_never plain.other_members n h = (λ s ns. refl) also tt
part_never plain.other_pairs n h = (λ s ns. refl) also tt
part_never plain.declared_number n h = absurd h
part_never plain.declared_string n h = absurd h
part_never plain.fields n h = (λ s ns. tt) also tt
part_never plain.other_fields n h = (λ s ns. refl) also tt
part_never plain.rows n h = (λ s ns. tt) also tt
part_never plain.other_rows n h = (λ s ns. refl) also tt
part_never plain.other_arms n h = (λ s ns. refl) also tt

differs : (m : Mark) → eqb (mark_byte m) 61 ≡ false → eqb (mark_byte m) 61 ≡ true → ⊥
differs m h k = absurd cc

no_equals_first : {s : List PlainSymbol} {ts : List Token} → IsPlainPrefix s ts → (ns : List ℕ) → NoEquals (numbered ns s) → BeginsEquals ts → ⊥
no_equals_first (plain.no_tokens s) ns n b = absurd b
no_equals_first (plain.mark_first m s ts h) ns n b = differs m n b
no_equals_first (plain.word_first k s ts h) ns n b = absurd cc
no_equals_first (plain.name_first m s ts h) ns n b = absurd cc
no_equals_first (plain.string_first m s ts h) ns n b = absurd cc
no_equals_first (plain.number_first z s ts h) ns n b = absurd cc
no_equals_first (plain.end_first s ts h) ns n b = absurd cc
no_equals_first (plain.rule_replaced r a s t ts k h) ns n b = no_equals_first h [] (each NeverEquals (plain.alternatives r) (rule_never r) a k s []) b
no_equals_first (plain.option_present p a s t ts k h) ns n b = absurd n
no_equals_first (plain.option_absent p s t ts h) ns n b = absurd n
no_equals_first (plain.repeated_once_more p a s t ts k h) ns n b =
    no_equals_first h [] (each NeverEquals (plain.contents p) (part_never p (first_depth ns) n.0) a k (plain.repeated p ∷ s) []) b
no_equals_first (plain.repeated_no_more p s t ts h) ns n b = no_equals_first h (other_depths ns) n.1 b

not_equals : (s : List PlainSymbol) (t : Token) (ts : List Token) (ns : List ℕ) → NoEquals (numbered ns s) → IsPlainPrefix s (t ∷ ts) → is_mark Equals t ≡ false
not_equals s t ts ns n h =
    elim (either_way (is_mark Equals t)) [
      | inl it_is ↦ absurd (no_equals_first h ns n it_is)
      | inr not_it ↦ not_it
    ]

closing_goes : (p : PlainPart) (n : ℕ) (s : List PlainSymbol) (t : Token) (ts : List Token) (ns : List ℕ) → Closes (numbered ns s)
    → ((q : List Symbol) → take_one (numbered ns s) t ≡ Some q → take_one (perhaps (number_part n p) ∷ numbered ns s) t ≡ Some q)
    → IsPlainPrefix s (t ∷ ts) → goes (perhaps (number_part n p) ∷ numbered ns s) (t ∷ ts) ≡ true → goes (numbered ns s) (t ∷ ts) ≡ true
closing_goes p n s t ts ns c passes h g =
    let found = closing_takes s t ts ns c (takes_first h) in
    goes_as (perhaps (number_part n p) ∷ numbered ns s) (numbered ns s) t ts found.0 (passes found.0 found.1) found.1 g

-- where a part is missing, the machine goes on with what follows
absent_goes : (p : PlainPart) (n : ℕ) (s : List PlainSymbol) (t : Token) (ts : List Token) (ns : List ℕ) → Follows (number_part n p) (numbered ns s) → IsPlainPrefix s (t ∷ ts)
    → goes (perhaps (number_part n p) ∷ numbered ns s) (t ∷ ts) ≡ true → goes (numbered ns s) (t ∷ ts) ≡ true
absent_goes plain.declared_number n s t ts ns c h g =
    goes_same (perhaps declared_number ∷ numbered ns s) (numbered ns s) t ts (not_declared declared_number (a_number ∷ []) (numbered ns s) t refl (not_equals s t ts ns c h)) g
absent_goes plain.declared_string n s t ts ns c h g =
    goes_same (perhaps declared_string ∷ numbered ns s) (numbered ns s) t ts (not_declared declared_string (a_string ∷ []) (numbered ns s) t refl (not_equals s t ts ns c h)) g
absent_goes plain.definitions n s t ts ns c h g = closing_goes plain.definitions n s t ts ns c (λ q e. absent_passes definitions (numbered ns s) q t c e) h g
absent_goes plain.other_members n s t ts ns c h g = closing_goes plain.other_members n s t ts ns c (λ q e. absent_passes other_members (numbered ns s) q t c e) h g
absent_goes plain.other_pairs n s t ts ns c h g = closing_goes plain.other_pairs n s t ts ns c (λ q e. absent_passes other_pairs (numbered ns s) q t c e) h g
absent_goes plain.fields n s t ts ns c h g = closing_goes plain.fields n s t ts ns c (λ q e. absent_passes (fields (100 - n)) (numbered ns s) q t c e) h g
absent_goes plain.other_fields n s t ts ns c h g = closing_goes plain.other_fields n s t ts ns c (λ q e. absent_passes (other_fields (100 - n)) (numbered ns s) q t c e) h g
absent_goes plain.rows n s t ts ns c h g = closing_goes plain.rows n s t ts ns c (λ q e. absent_passes (rows (100 - n)) (numbered ns s) q t c e) h g
absent_goes plain.other_rows n s t ts ns c h g = closing_goes plain.other_rows n s t ts ns c (λ q e. absent_passes (other_rows (100 - n)) (numbered ns s) q t c e) h g
absent_goes plain.other_arms n s t ts ns c h g = closing_goes plain.other_arms n s t ts ns c (λ q e. absent_passes (other_arms (100 - n)) (numbered ns s) q t c e) h g

fine_alternative : (r : PlainRule) (n : ℕ) (a : List PlainSymbol) (behind : List Symbol) → IsAllowed 100 r n → IsAmong a (plain.alternatives r) → FollowsRule (number_rule n r) behind → Fine behind → Fine (number_all (inside_rule r n) a ++ behind)
fine_alternative r n a behind b k e f =
    each (λ x. Fine (x ++ behind)) (alternatives (number_rule n r)) (fine_rule (number_rule n r) behind e f) (number_all (inside_rule r n) a) (numbered_alternative r n a b k)

-- ---- the bound

pub nested_below : {s : List PlainSymbol} {ts : List Token} (d : IsPlainPrefix s ts) (ns : List ℕ) → Fine (numbered ns s) → goes (numbered ns s) ts ≡ true → IsNestedBelow 100 ns d
nested_below (plain.no_tokens s) ns f g = tt
nested_below (plain.mark_first m s ts h) ns f g =
    let behind = numbered (other_depths ns) s in
    nested_below h (other_depths ns) f (goes_on (mark m ∷ behind) behind (tokens.Mark m) ts (takes_mark m behind) g)
nested_below (plain.word_first k s ts h) ns f g =
    let behind = numbered (other_depths ns) s in
    nested_below h (other_depths ns) f (goes_on (word k ∷ behind) behind (tokens.Keyword k) ts (takes_word k behind) g)
nested_below (plain.name_first n s ts h) ns f g =
    let behind = numbered (other_depths ns) s in
    nested_below h (other_depths ns) f (goes_on (a_name ∷ behind) behind (tokens.Name n) ts (takes_name n behind) g)
nested_below (plain.string_first n s ts h) ns f g =
    let behind = numbered (other_depths ns) s in
    nested_below h (other_depths ns) f (goes_on (a_string ∷ behind) behind (tokens.Text n) ts (takes_string n behind) g)
nested_below (plain.number_first z s ts h) ns f g =
    let behind = numbered (other_depths ns) s in
    nested_below h (other_depths ns) f (goes_on (a_number ∷ behind) behind (tokens.Number z) ts (takes_number z behind) g)
nested_below (plain.end_first s ts h) ns f g =
    let behind = numbered (other_depths ns) s in
    nested_below h (other_depths ns) f (goes_on (the_end ∷ behind) behind tokens.End ts (takes_end behind) g)
nested_below (plain.rule_replaced r a s t ts k h) ns f g =
    let n = first_depth ns in
    let inner = inside_rule r n in
    let behind = numbered (other_depths ns) s in
    let same = sym (numbered_before inner a (other_depths ns) s) in
    let b = allowed r n behind t ts g in (
      b,
      nested_below h (depths_before inner a (other_depths ns))
          (subst Fine same (fine_alternative r n a behind b k f.0 f.1))
          (subst (λ q. goes q (t ∷ ts) ≡ true) same (alternative_goes r n a s t ts behind b k (takes_first h) g)),
    )
nested_below (plain.option_present p a s t ts k h) ns f g =
    let n = first_depth ns in
    let inner = inside_part p n in
    let behind = numbered (other_depths ns) s in
    let same = sym (numbered_before inner a (other_depths ns) s) in
    let among = numbered_content p n a k in
    let found = all_take a s t ts (each AllStart (plain.contents p) (part_starts p) a k) (takes_first h) inner behind in
    nested_below h (depths_before inner a (other_depths ns))
    (subst Fine same (each (λ x. Fine (x ++ behind)) (contents (number_part n p)) (fine_part (number_part n p) behind f.0 f.1) (number_all inner a) among))
    (subst (λ q. goes q (t ∷ ts) ≡ true) same
    (goes_as (perhaps (number_part n p) ∷ behind) (number_all inner a ++ behind) t ts found.0 (perhaps_takes (number_part n p) (number_all inner a) behind t found.0 among found.1) found.1 g))
nested_below (plain.option_absent p s t ts h) ns f g = nested_below h (other_depths ns) f.1 (absent_goes p (first_depth ns) s t ts (other_depths ns) f.0 h g)
nested_below (plain.repeated_once_more p a s t ts k h) ns f g =
    let n = first_depth ns in
    let inner = inside_part p n in
    let behind = numbered (other_depths ns) s in
    let same = sym (numbered_before inner a (n ∷ other_depths ns) (plain.repeated p ∷ s)) in
    let among = numbered_content p n a k in
    let found = all_take a (plain.repeated p ∷ s) t ts (each AllStart (plain.contents p) (part_starts p) a k) (takes_first h) inner (repeated (number_part n p) ∷ behind) in
    nested_below h (depths_before inner a (n ∷ other_depths ns))
    (subst Fine same (each (λ x. Fine (x ++ (repeated (number_part n p) ∷ behind))) (contents (number_part n p)) (fine_again (number_part n p) behind f) (number_all inner a) among))
    (subst (λ q. goes q (t ∷ ts) ≡ true) same
    (goes_as (repeated (number_part n p) ∷ behind) (number_all inner a ++ (repeated (number_part n p) ∷ behind)) t ts found.0
    (repeated_takes (number_part n p) (number_all inner a) behind t found.0 among found.1) found.1 g))
nested_below (plain.repeated_no_more p s t ts h) ns f g =
    let behind = numbered (other_depths ns) s in
    let found = closing_takes s t ts (other_depths ns) f.1 (takes_first h) in
    nested_below h (other_depths ns) f.2
    (goes_as (repeated (number_part (first_depth ns) p) ∷ behind) behind t ts found.0 (ended_takes (number_part (first_depth ns) p) behind t found.0 f.1 found.1) found.1 g)
