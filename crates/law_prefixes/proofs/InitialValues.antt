-- What may follow a type or a lens never begins with `=`. So the next token alone says whether an initial value is there.
use Rattle.std.proofs.Common.{◌≡◌, ℕ, zero, suc, true, false, cond, List, [], ◌∷◌, ◌++◌, Some, None, refl, sym, ap, ◌∙◌, eqb, arith, inl, inr}
use Rattle.std.specs.Option.{option_or}
use Rattle.std.proofs.lemmas.Bool.Decides.{nat_tests}
use Rattle.program_tokens.specs.declared.mark.Mark.TheVariants.{Equals}
use Rattle.program_tokens.specs.declared.token.Token.{Token}
use Rattle.program_tokens.specs.declared.token.Token.TheVariants as tokens
use Rattle.program_tokens.specs.Words.{mark_byte}
use Rattle.program_grammar.specs.Grammar.{Rule, program, field, type, lens, row, Part, definitions, other_members, other_pairs, declared_number, declared_string, fields, other_fields, rows, other_rows, other_arms, Symbol, mark, word, a_name, a_string, a_number, the_end, rule, perhaps, repeated, contents}
use Rattle.program_grammar.specs.Reading.{is_mark}
use Rattle.law_prefixes.proofs.Machine.{first_of, take_inside, take_one}
use Rattle.law_prefixes.proofs.MachineSteps.{either_way}
use Rattle.program_grammar.proofs.MarkTokens.{mark_is}
use Rattle.law_prefixes.proofs.SymbolTokens.{absent, nothing_there}

-- a part that may come again begins with no `=`
abbrev pub IsNotInitial : Part → Type 0
IsNotInitial definitions = Unit {0}
IsNotInitial other_members = Unit {0}
IsNotInitial other_pairs = Unit {0}
IsNotInitial declared_number = ⊥
IsNotInitial declared_string = ⊥
IsNotInitial (fields n) = Unit {0}
IsNotInitial (other_fields n) = Unit {0}
IsNotInitial (rows n) = Unit {0}
IsNotInitial (other_rows n) = Unit {0}
IsNotInitial (other_arms n) = Unit {0}

-- the symbols begin with no `=`, nor with a part that may be missing
abbrev pub NoEquals : List Symbol → Type 0
NoEquals [] = Unit {0}
NoEquals (mark m ∷ s) = eqb (mark_byte m) 61 ≡ false
NoEquals (word k ∷ s) = Unit {0}
NoEquals (a_name ∷ s) = Unit {0}
NoEquals (a_string ∷ s) = Unit {0}
NoEquals (a_number ∷ s) = Unit {0}
NoEquals (the_end ∷ s) = Unit {0}
NoEquals (rule r ∷ s) = Unit {0}
NoEquals (perhaps p ∷ s) = ⊥
NoEquals (repeated p ∷ s) = IsNotInitial p × NoEquals s

-- ---- the machine does not take `=` there

rule_refuses : (r : Rule) (s : List Symbol) → take_one (rule r ∷ s) (tokens.Mark Equals) ≡ absent
unfolding take_one
rule_refuses program s = refl
rule_refuses field s = refl
rule_refuses (type zero) s = refl
rule_refuses (type (suc n)) s = refl
rule_refuses (lens zero) s = refl
rule_refuses (lens (suc n)) s = refl
rule_refuses (row n) s = refl

part_refuses : (p : Part) (s : List Symbol) → IsNotInitial p → first_of (λ a. take_inside (a ++ s) (tokens.Mark Equals)) (contents p) ≡ absent
part_refuses definitions s h = refl
part_refuses other_members s h = refl
part_refuses other_pairs s h = refl
part_refuses declared_number s h = absurd h
part_refuses declared_string s h = absurd h
part_refuses (fields n) s h = refl
part_refuses (other_fields n) s h = refl
part_refuses (rows n) s h = refl
part_refuses (other_rows n) s h = refl
part_refuses (other_arms n) s h = refl

byte_differs : (b : ℕ) → eqb b 61 ≡ false → eqb 61 b ≡ false
byte_differs b h = grind (arith, nat_tests)

pub refuses_equals : (s : List Symbol) → NoEquals s → take_one s (tokens.Mark Equals) ≡ absent
unfolding take_one
refuses_equals [] h = refl
refuses_equals (mark m ∷ s) h = rw (byte_differs (mark_byte m) h) refl
refuses_equals (word k ∷ s) h = refl
refuses_equals (a_name ∷ s) h = refl
refuses_equals (a_string ∷ s) h = refl
refuses_equals (a_number ∷ s) h = refl
refuses_equals (the_end ∷ s) h = refl
refuses_equals (rule r ∷ s) h = rule_refuses r s
refuses_equals (perhaps p ∷ s) h = absurd h
refuses_equals (repeated p ∷ s) h = ap (λ o. option_or o (take_one s (tokens.Mark Equals))) (part_refuses p (repeated p ∷ s) h.0) ∙ refuses_equals s h.1

-- ---- an initial value is there, or it is not

-- the part is `=` and these symbols
abbrev pub Declares : Part → List Symbol → Type 0
Declares p e = contents p ≡ (mark Equals ∷ e) ∷ []

pub equals_or : (p : Part) (e s : List Symbol) (k : Token) → Declares p e → take_one (perhaps p ∷ s) k ≡ cond (is_mark Equals k) (Some (e ++ s)) (take_one s k)
unfolding take_one
equals_or p e s k h =
    ap (λ c. option_or (first_of (λ a. take_inside (a ++ s) k) c) (take_one s k)) h
    ∙ elim (is_mark Equals k) as (λ b. option_or (option_or (cond b (Some (e ++ s)) None) None) (take_one s k) ≡ cond b (Some (e ++ s)) (take_one s k)) [ true ↦ refl | false ↦ refl ]

-- before a token other than `=` it is not there
pub not_declared : (p : Part) (e s : List Symbol) (k : Token) → Declares p e → is_mark Equals k ≡ false → take_one (perhaps p ∷ s) k ≡ take_one s k
not_declared p e s k h other = equals_or p e s k h ∙ rw other refl

-- and no other token is taken where one may follow
pub takes_no_equals : (s q : List Symbol) (t : Token) → NoEquals s → take_one s t ≡ Some q → is_mark Equals t ≡ false
takes_no_equals s q t n e =
    elim (either_way (is_mark Equals t)) [
      | inl it_is ↦ absurd (nothing_there q (sym (refuses_equals s n) ∙ ap (take_one s) (sym (mark_is Equals t it_is)) ∙ e))
      | inr not_it ↦ not_it
    ]
