-- The machine goes on with every viable prefix.
use Rattle.std.proofs.Common.{◌≡◌, ℕ, zero, suc, true, false, List, [], ◌∷◌, ◌++◌, Option, Some, None, refl, sym, ap, subst, ◌∙◌, eqb, inl, inr}
use Rattle.std.specs.Option.{option_or}
use Rattle.std.proofs.lemmas.Bool.{eq-eqb}
use lib.IntN.{ℤ}
use Rattle.program_tokens.specs.declared.keyword.Keyword.{Keyword}
use Rattle.program_tokens.specs.declared.keyword.Keyword.TheVariants as words
use Rattle.program_tokens.specs.declared.mark.Mark.{Mark}
use Rattle.program_tokens.specs.declared.mark.Mark.TheVariants.{OpenBrace, Less}
use Rattle.program_tokens.specs.declared.token.Token.{Token}
use Rattle.program_tokens.specs.declared.token.Token.TheVariants as tokens
use Rattle.program_tokens.specs.Words.{mark_byte}
use Rattle.program_grammar.specs.Grammar.{Rule, program, field, type, lens, row, Part, definitions, other_members, other_pairs, declared_number, declared_string, fields, other_fields, rows, other_rows, other_arms, Symbol, mark, word, a_name, a_string, a_number, the_end, rule, perhaps, repeated, an_arm, contents, alternatives, IsAmong, IsViablePrefix, no_tokens, mark_first, word_first, name_first, string_first, number_first, end_first, rule_replaced, option_present, option_absent, repeated_once_more, repeated_no_more}
use Rattle.program_grammar.specs.Reading.{is_mark}
use Rattle.law_prefixes.proofs.Machine.{is_name, is_string, is_word, code, first_of, take_inside, take_one, goes}
use Rattle.program_grammar.proofs.MarkTokens.{mark_is}
use Rattle.law_prefixes.proofs.InitialValues.{NoEquals, not_declared, takes_no_equals}
use Rattle.law_prefixes.proofs.SymbolTokens.{nothing_there, word_is, chosen, name_is, string_is}

-- Fine symbols: what follows a part begins with `main` or with a mark other than a comma and `=`, what follows an initial value begins
-- with no `=`, and no part that may come again ends in another. So the next token alone says whether a part is there.

abbrev pub Closes : List Symbol → Type 0
Closes [] = ⊥
Closes (mark m ∷ s) = (eqb (mark_byte m) 44 ≡ false) × (eqb (mark_byte m) 61 ≡ false)
Closes (word k ∷ s) = k ≡ words.Main
Closes (a_name ∷ s) = ⊥
Closes (a_string ∷ s) = ⊥
Closes (a_number ∷ s) = ⊥
Closes (the_end ∷ s) = ⊥
Closes (rule r ∷ s) = ⊥
Closes (perhaps p ∷ s) = ⊥
Closes (repeated p ∷ s) = ⊥

abbrev EndsPlain : Part → Type 0
EndsPlain definitions = Unit {0}
EndsPlain other_members = Unit {0}
EndsPlain other_pairs = Unit {0}
EndsPlain declared_number = ⊥
EndsPlain declared_string = ⊥
EndsPlain (fields n) = ⊥
EndsPlain (other_fields n) = Unit {0}
EndsPlain (rows n) = ⊥
EndsPlain (other_rows n) = Unit {0}
EndsPlain (other_arms n) = Unit {0}

-- what may follow a part that may be missing
abbrev pub Follows : Part → List Symbol → Type 0
Follows definitions s = Closes s
Follows other_members s = Closes s
Follows other_pairs s = Closes s
Follows declared_number s = NoEquals s
Follows declared_string s = NoEquals s
Follows (fields n) s = Closes s
Follows (other_fields n) s = Closes s
Follows (rows n) s = Closes s
Follows (other_rows n) s = Closes s
Follows (other_arms n) s = Closes s

-- what may follow a rule: all but a field can end in an initial value
abbrev pub FollowsRule : Rule → List Symbol → Type 0
FollowsRule program s = NoEquals s
FollowsRule field s = Unit {0}
FollowsRule (type n) s = NoEquals s
FollowsRule (lens n) s = NoEquals s
FollowsRule (row n) s = NoEquals s

abbrev pub Fine : List Symbol → Type 0
Fine [] = Unit {0}
Fine (mark m ∷ s) = Fine s
Fine (word k ∷ s) = Fine s
Fine (a_name ∷ s) = Fine s
Fine (a_string ∷ s) = Fine s
Fine (a_number ∷ s) = Fine s
Fine (the_end ∷ s) = Fine s
Fine (rule r ∷ s) = FollowsRule r s × Fine s
Fine (perhaps p ∷ s) = Follows p s × Fine s
Fine (repeated p ∷ s) = EndsPlain p × Closes s × Fine s

-- a fact of each of some lists of symbols

abbrev pub Each : {A : Type 0} → (A → Type 0) → List A → Type 0
Each P [] = Unit {0}
Each P (b ∷ bs) = P b × Each P bs

infixr 4 ◌also◌
abbrev pub ◌also◌ : {A B : Type 0} → A → B → A × B
a also b = (a, b)

pub each : {A : Type 0} (P : A → Type 0) (all : List A) → Each P all → (a : A) → IsAmong a all → P a
each P [] h a k = absurd k
each P (b ∷ bs) h a (inl e) = subst P (sym e) h.0
each P (b ∷ bs) h a (inr k) = each P bs h.1 a k

closes_no_equals : (s : List Symbol) → Closes s → NoEquals s
closes_no_equals [] c = absurd c
closes_no_equals (mark m ∷ s) c = c.1
closes_no_equals (word k ∷ s) c = tt
closes_no_equals (a_name ∷ s) c = absurd c
closes_no_equals (a_string ∷ s) c = absurd c
closes_no_equals (a_number ∷ s) c = absurd c
closes_no_equals (the_end ∷ s) c = absurd c
closes_no_equals (rule r ∷ s) c = absurd c
closes_no_equals (perhaps p ∷ s) c = absurd c
closes_no_equals (repeated p ∷ s) c = absurd c

pub fine_rule : (r : Rule) (s : List Symbol) → FollowsRule r s → Fine s → Each (λ a. Fine (a ++ s)) (alternatives r)
fine_rule program s e f = (tt, refl, (e, f)) also tt
fine_rule field s e f = f also f also tt
fine_rule (type zero) s e f = tt
fine_rule (type (suc n)) s e f =
    f also f also (e, f) also (e, f) also (tt, (refl, refl), (e, f)) also ((refl, refl), f) also (tt, ((tt, refl), (tt, (refl, refl), f))) also (e, f) also (e, f) also (e, f) also f also tt
fine_rule (lens zero) s e f = tt
fine_rule (lens (suc n)) s e f =
    (e, f) also (tt, (e, f)) also (tt, (refl, refl), (e, f)) also (refl, (refl, f)) also ((refl, refl), f) also (tt, (tt, ((tt, refl), (tt, (refl, refl), f))))
    also (e, f) also (e, f) also (e, f) also (tt, ((tt, refl), (tt, (refl, refl), f))) also (e, f) also f also tt
fine_rule (row n) s e f = (tt, (tt, (e, f))) also (tt, (e, f)) also (tt, (e, f)) also tt

pub fine_part : (p : Part) (s : List Symbol) → Follows p s → Fine s → Each (λ a. Fine (a ++ s)) (contents p)
fine_part definitions s c f = (refl, f) also (refl, f) also tt
fine_part other_members s c f = f also tt
fine_part other_pairs s c f = f also tt
fine_part declared_number s c f = f also tt
fine_part declared_string s c f = f also tt
fine_part (fields n) s c f = (tt, ((tt, closes_no_equals s c), (tt, c, f))) also tt
fine_part (other_fields n) s c f = (tt, (closes_no_equals s c, f)) also tt
fine_part (rows n) s c f = ((tt, closes_no_equals s c), (tt, c, f)) also tt
fine_part (other_rows n) s c f = (closes_no_equals s c, f) also tt
fine_part (other_arms n) s c f = (tt, (tt, (closes_no_equals s c, f))) also tt

pub fine_again : (p : Part) (s : List Symbol) → Fine (repeated p ∷ s) → Each (λ a. Fine (a ++ (repeated p ∷ s))) (contents p)
fine_again definitions s f = (refl, f) also (refl, f) also tt
fine_again other_members s f = f also tt
fine_again other_pairs s f = f also tt
fine_again declared_number s f = absurd f.0
fine_again declared_string s f = absurd f.0
fine_again (fields n) s f = absurd f.0
fine_again (other_fields n) s f = (tt, ((tt, closes_no_equals s f.1), f)) also tt
fine_again (rows n) s f = absurd f.0
fine_again (other_rows n) s f = ((tt, closes_no_equals s f.1), f) also tt
fine_again (other_arms n) s f = (tt, (tt, ((tt, closes_no_equals s f.1), f))) also tt

-- What one of some lists of symbols takes, the machine takes where it has the choice of all.

pub record Lifts (all : List (List Symbol)) (s : List Symbol) (t : Token) (a : List Symbol) : Type 0 where
  pub lifted : (q : List Symbol) → take_one (a ++ s) t ≡ Some q → first_of (λ b. take_inside (b ++ s) t) all ≡ Some q

by_word : (all : List (List Symbol)) (k : Keyword) (b s : List Symbol) (t : Token) → first_of (λ a. take_inside (a ++ s) (tokens.Keyword k)) all ≡ Some (b ++ s) → Lifts all s t (word k ∷ b)
unfolding take_one
by_word all k b s t h = record {
  lifted = λ q e.
      let c = chosen (is_word k t) (b ++ s) q e in
      subst (λ x. first_of (λ a. take_inside (a ++ s) x) all ≡ Some q) (sym (word_is k t c.0)) (h ∙ ap Some c.1);
}

by_mark : (all : List (List Symbol)) (m : Mark) (b s : List Symbol) (t : Token) → first_of (λ a. take_inside (a ++ s) (tokens.Mark m)) all ≡ Some (b ++ s) → Lifts all s t (mark m ∷ b)
unfolding take_one
by_mark all m b s t h = record {
  lifted = λ q e.
      let c = chosen (is_mark m t) (b ++ s) q e in
      subst (λ x. first_of (λ a. take_inside (a ++ s) x) all ≡ Some q) (sym (mark_is m t c.0)) (h ∙ ap Some c.1);
}

by_name : (all : List (List Symbol)) (s : List Symbol) (t : Token) → ((n : List ℕ) → first_of (λ a. take_inside (a ++ s) (tokens.Name n)) all ≡ Some s) → Lifts all s t (a_name ∷ [])
unfolding take_one
by_name all s t h = record {
  lifted = λ q e.
      let c = chosen (is_name t) s q e in
      let n = name_is t c.0 in
      subst (λ x. first_of (λ a. take_inside (a ++ s) x) all ≡ Some q) (sym n.1) (h n.0 ∙ ap Some c.1);
}

by_string : (all : List (List Symbol)) (s : List Symbol) (t : Token) → ((n : List ℕ) → first_of (λ a. take_inside (a ++ s) (tokens.Text n)) all ≡ Some s) → Lifts all s t (a_string ∷ [])
unfolding take_one
by_string all s t h = record {
  lifted = λ q e.
      let c = chosen (is_string t) s q e in
      let n = string_is t c.0 in
      subst (λ x. first_of (λ a. take_inside (a ++ s) x) all ≡ Some q) (sym n.1) (h n.0 ∙ ap Some c.1);
}

pub or_none : (o : Option (List Symbol)) → option_or o None ≡ o
or_none (Some a) = refl
or_none None = refl

alone : (a s : List Symbol) (t : Token) → take_inside (a ++ s) t ≡ take_one (a ++ s) t → Lifts (a ∷ []) s t a
alone a s t h = record { lifted = λ q e. or_none (take_inside (a ++ s) t) ∙ h ∙ e }

arm_lifted : (n : ℕ) (s : List Symbol) (t : Token) (q : List Symbol) → take_one (an_arm n ++ s) t ≡ Some q → first_of (λ b. take_inside (b ++ s) t) (alternatives (row n)) ≡ Some q
unfolding take_one
arm_lifted n s (tokens.Name c) q e = e
arm_lifted n s (tokens.Text c) q e = e
arm_lifted n s (tokens.Number c) q e = absurd (nothing_there q e)
arm_lifted n s (tokens.Keyword c) q e = absurd (nothing_there q e)
arm_lifted n s (tokens.Mark c) q e = absurd (nothing_there q e)
arm_lifted n s tokens.Bad q e = absurd (nothing_there q e)
arm_lifted n s tokens.End q e = absurd (nothing_there q e)

lifts_type : (n : ℕ) (s : List Symbol) (t : Token) → Each (Lifts (alternatives (type (suc n))) s t) (alternatives (type (suc n)))
lifts_type n s t =
    let all = alternatives (type (suc n)) in
    by_word all words.Unit _ s t refl
    also by_word all words.Bool _ s t refl
    also by_word all words.Int _ s t refl
    also by_word all words.Text _ s t refl
    also by_word all words.Enum _ s t refl
    also by_mark all OpenBrace _ s t refl
    also by_mark all Less _ s t refl
    also by_word all words.List _ s t refl
    also by_word all words.Keyed _ s t refl
    also by_word all words.Tree _ s t refl
    also by_name all s t (λ _. refl)
    also tt

lifts_lens : (n : ℕ) (s : List Symbol) (t : Token) → Each (Lifts (alternatives (lens (suc n))) s t) (alternatives (lens (suc n)))
lifts_lens n s t =
    let all = alternatives (lens (suc n)) in
    by_word all words.Id _ s t refl
    also by_word all words.Disc _ s t refl
    also by_word all words.Bij _ s t refl
    also by_word all words.Then _ s t refl
    also by_mark all OpenBrace _ s t refl
    also by_mark all Less _ s t refl
    also by_word all words.Each _ s t refl
    also by_word all words.Keyed _ s t refl
    also by_word all words.Tree _ s t refl
    also by_word all words.Part _ s t refl
    also by_word all words.Inv _ s t refl
    also by_name all s t (λ _. refl)
    also tt

pub lifts_rule : (r : Rule) (s : List Symbol) (t : Token) → Each (Lifts (alternatives r) s t) (alternatives r)
unfolding take_one
lifts_rule program s t = alone _ s t refl also tt
lifts_rule field s t = by_name (alternatives field) s t (λ _. refl) also by_string (alternatives field) s t (λ _. refl) also tt
lifts_rule (type zero) s t = tt
lifts_rule (type (suc n)) s t = lifts_type n s t
lifts_rule (lens zero) s t = tt
lifts_rule (lens (suc n)) s t = lifts_lens n s t
lifts_rule (row n) s t =
    let all = alternatives (row n) in
    record { lifted = arm_lifted n s t } also by_word all words.Left _ s t refl also by_word all words.Right _ s t refl also tt

pub lifts_part : (p : Part) (s : List Symbol) (t : Token) → Each (Lifts (contents p) s t) (contents p)
unfolding take_one
lifts_part definitions s t =
    let all = contents definitions in
    by_word all words.Type _ s t refl also by_word all words.Lens _ s t refl also tt
lifts_part other_members s t = alone _ s t refl also tt
lifts_part other_pairs s t = alone _ s t refl also tt
lifts_part declared_number s t = alone _ s t refl also tt
lifts_part declared_string s t = alone _ s t refl also tt
lifts_part (fields n) s t = alone _ s t refl also tt
lifts_part (other_fields n) s t = alone _ s t refl also tt
lifts_part (rows n) s t = alone _ s t refl also tt
lifts_part (other_rows n) s t = alone _ s t refl also tt
lifts_part (other_arms n) s t = alone _ s t refl also tt

-- A part is not there where the next token is one that closes.

mark_shuts : (p : Part) (s : List Symbol) (m : Mark) → eqb (mark_byte m) 44 ≡ false → eqb (mark_byte m) 61 ≡ false → first_of (λ a. take_inside (a ++ s) (tokens.Mark m)) (contents p) ≡ None
mark_shuts definitions s m h k = refl
mark_shuts other_members s m h k = rw h refl
mark_shuts other_pairs s m h k = rw h refl
mark_shuts declared_number s m h k = rw k refl
mark_shuts declared_string s m h k = rw k refl
mark_shuts (fields n) s m h k = refl
mark_shuts (other_fields n) s m h k = rw h refl
mark_shuts (rows n) s m h k = refl
mark_shuts (other_rows n) s m h k = rw h refl
mark_shuts (other_arms n) s m h k = rw h refl

main_shuts : (p : Part) (s : List Symbol) → first_of (λ a. take_inside (a ++ s) (tokens.Keyword words.Main)) (contents p) ≡ None
main_shuts definitions s = refl
main_shuts other_members s = refl
main_shuts other_pairs s = refl
main_shuts declared_number s = refl
main_shuts declared_string s = refl
main_shuts (fields n) s = refl
main_shuts (other_fields n) s = refl
main_shuts (rows n) s = refl
main_shuts (other_rows n) s = refl
main_shuts (other_arms n) s = refl

pub passed_by : (p : Part) (behind s q : List Symbol) (t : Token) → Closes s → take_one s t ≡ Some q → first_of (λ a. take_inside (a ++ behind) t) (contents p) ≡ None
unfolding take_one
passed_by p behind [] q t c e = absurd c
passed_by p behind (mark m ∷ s) q t c e = subst (λ x. first_of (λ a. take_inside (a ++ behind) x) (contents p) ≡ None) (sym (mark_is m t (chosen (is_mark m t) s q e).0)) (mark_shuts p behind m c.0 c.1)
passed_by p behind (word k ∷ s) q t c e = subst (λ x. first_of (λ a. take_inside (a ++ behind) x) (contents p) ≡ None) (sym (word_is k t (chosen (is_word k t) s q e).0 ∙ ap tokens.Keyword c)) (main_shuts p behind)
passed_by p behind (a_name ∷ s) q t c e = absurd c
passed_by p behind (a_string ∷ s) q t c e = absurd c
passed_by p behind (a_number ∷ s) q t c e = absurd c
passed_by p behind (the_end ∷ s) q t c e = absurd c
passed_by p behind (rule r ∷ s) q t c e = absurd c
passed_by p behind (perhaps r ∷ s) q t c e = absurd c
passed_by p behind (repeated r ∷ s) q t c e = absurd c

-- what may follow a part that is missing takes no token with which the part begins
pub absent_passes : (p : Part) (s q : List Symbol) (t : Token) → Follows p s → take_one s t ≡ Some q → take_one (perhaps p ∷ s) t ≡ Some q
unfolding take_one
absent_passes definitions s q t c e = ap (λ o. option_or o (take_one s t)) (passed_by definitions s s q t c e) ∙ e
absent_passes other_members s q t c e = ap (λ o. option_or o (take_one s t)) (passed_by other_members s s q t c e) ∙ e
absent_passes other_pairs s q t c e = ap (λ o. option_or o (take_one s t)) (passed_by other_pairs s s q t c e) ∙ e
absent_passes declared_number s q t c e = not_declared declared_number (a_number ∷ []) s t refl (takes_no_equals s q t c e) ∙ e
absent_passes declared_string s q t c e = not_declared declared_string (a_string ∷ []) s t refl (takes_no_equals s q t c e) ∙ e
absent_passes (fields n) s q t c e = ap (λ o. option_or o (take_one s t)) (passed_by (fields n) s s q t c e) ∙ e
absent_passes (other_fields n) s q t c e = ap (λ o. option_or o (take_one s t)) (passed_by (other_fields n) s s q t c e) ∙ e
absent_passes (rows n) s q t c e = ap (λ o. option_or o (take_one s t)) (passed_by (rows n) s s q t c e) ∙ e
absent_passes (other_rows n) s q t c e = ap (λ o. option_or o (take_one s t)) (passed_by (other_rows n) s s q t c e) ∙ e
absent_passes (other_arms n) s q t c e = ap (λ o. option_or o (take_one s t)) (passed_by (other_arms n) s s q t c e) ∙ e

-- The machine goes on, symbol by symbol.

pub goes_nothing : (s : List Symbol) → goes s [] ≡ true
unfolding goes
goes_nothing s = refl

-- where some symbols go on, so do others that take the same tokens or more
goes_by : (a b : List Symbol) (t : Token) (ts : List Token) → ((q : List Symbol) → take_one a t ≡ Some q → take_one b t ≡ Some q) → goes a (t ∷ ts) ≡ true → goes b (t ∷ ts) ≡ true
unfolding goes
goes_by a b t ts h =
    elim (take_one a t) as (λ o. ((q : List Symbol) → o ≡ Some q → take_one b t ≡ Some q) → (elim o [ Some r ↦ goes r ts | None ↦ false ]) ≡ true → (elim (take_one b t) [ Some r ↦ goes r ts | None ↦ false ]) ≡ true) [
      | Some r ↦ λ k g. rw (k r refl, goes) g
      | None ↦ λ k g. absurd cc
    ] h

goes_first : (s q : List Symbol) (t : Token) (ts : List Token) → take_one s t ≡ Some q → goes q ts ≡ true → goes s (t ∷ ts) ≡ true
unfolding goes
goes_first s q t ts h g = rw (h, goes) g

goes_mark : (m : Mark) (s : List Symbol) (ts : List Token) → goes s ts ≡ true → goes (mark m ∷ s) (tokens.Mark m ∷ ts) ≡ true
unfolding take_one
goes_mark m s ts g = goes_first (mark m ∷ s) s (tokens.Mark m) ts (rw (eq-eqb (mark_byte m) (mark_byte m) refl) refl) g

goes_word : (k : Keyword) (s : List Symbol) (ts : List Token) → goes s ts ≡ true → goes (word k ∷ s) (tokens.Keyword k ∷ ts) ≡ true
unfolding take_one
goes_word k s ts g = goes_first (word k ∷ s) s (tokens.Keyword k) ts (rw (eq-eqb (code k) (code k) refl) refl) g

goes_name : (n : List ℕ) (s : List Symbol) (ts : List Token) → goes s ts ≡ true → goes (a_name ∷ s) (tokens.Name n ∷ ts) ≡ true
unfolding take_one
goes_name n s ts g = goes_first (a_name ∷ s) s (tokens.Name n) ts refl g

goes_string : (n : List ℕ) (s : List Symbol) (ts : List Token) → goes s ts ≡ true → goes (a_string ∷ s) (tokens.Text n ∷ ts) ≡ true
unfolding take_one
goes_string n s ts g = goes_first (a_string ∷ s) s (tokens.Text n) ts refl g

goes_number : (z : ℤ) (s : List Symbol) (ts : List Token) → goes s ts ≡ true → goes (a_number ∷ s) (tokens.Number z ∷ ts) ≡ true
unfolding take_one
goes_number z s ts g = goes_first (a_number ∷ s) s (tokens.Number z) ts refl g

goes_end : (s : List Symbol) (ts : List Token) → goes s ts ≡ true → goes (the_end ∷ s) (tokens.End ∷ ts) ≡ true
unfolding take_one
goes_end s ts g = goes_first (the_end ∷ s) s tokens.End ts refl g

goes_rule : (r : Rule) (a s : List Symbol) (ts : List Token) → IsAmong a (alternatives r) → goes (a ++ s) ts ≡ true → goes (rule r ∷ s) ts ≡ true
unfolding take_one
goes_rule r a s [] k g = goes_nothing (rule r ∷ s)
goes_rule r a s (t ∷ ts) k g = goes_by (a ++ s) (rule r ∷ s) t ts ((each (Lifts (alternatives r) s t) (alternatives r) (lifts_rule r s t) a k).lifted) g

goes_there : (p : Part) (a s : List Symbol) (ts : List Token) → IsAmong a (contents p) → goes (a ++ s) ts ≡ true → goes (perhaps p ∷ s) ts ≡ true
unfolding take_one
goes_there p a s [] k g = goes_nothing (perhaps p ∷ s)
goes_there p a s (t ∷ ts) k g =
    goes_by (a ++ s) (perhaps p ∷ s) t ts (λ q e. ap (λ o. option_or o (take_one s t)) ((each (Lifts (contents p) s t) (contents p) (lifts_part p s t) a k).lifted q e)) g

goes_again : (p : Part) (a s : List Symbol) (ts : List Token) → IsAmong a (contents p) → goes (a ++ (repeated p ∷ s)) ts ≡ true → goes (repeated p ∷ s) ts ≡ true
unfolding take_one
goes_again p a s [] k g = goes_nothing (repeated p ∷ s)
goes_again p a s (t ∷ ts) k g =
    goes_by (a ++ (repeated p ∷ s)) (repeated p ∷ s) t ts (λ q e. ap (λ o. option_or o (take_one s t)) ((each (Lifts (contents p) (repeated p ∷ s) t) (contents p) (lifts_part p (repeated p ∷ s) t) a k).lifted q e)) g

goes_past : (p : Part) (s : List Symbol) (ts : List Token) → Follows p s → goes s ts ≡ true → goes (perhaps p ∷ s) ts ≡ true
unfolding take_one
goes_past p s [] c g = goes_nothing (perhaps p ∷ s)
goes_past p s (t ∷ ts) c g = goes_by s (perhaps p ∷ s) t ts (λ q e. absent_passes p s q t c e) g

goes_out : (p : Part) (s : List Symbol) (ts : List Token) → Closes s → goes s ts ≡ true → goes (repeated p ∷ s) ts ≡ true
unfolding take_one
goes_out p s [] c g = goes_nothing (repeated p ∷ s)
goes_out p s (t ∷ ts) c g = goes_by s (repeated p ∷ s) t ts (λ q e. ap (λ o. option_or o (take_one s t)) (passed_by p (repeated p ∷ s) s q t c e) ∙ e) g

pub viable_goes : {s : List Symbol} {ts : List Token} → IsViablePrefix s ts → Fine s → goes s ts ≡ true
viable_goes (no_tokens s) f = goes_nothing s
viable_goes (mark_first m s ts h) f = goes_mark m s ts (viable_goes h f)
viable_goes (word_first k s ts h) f = goes_word k s ts (viable_goes h f)
viable_goes (name_first n s ts h) f = goes_name n s ts (viable_goes h f)
viable_goes (string_first n s ts h) f = goes_string n s ts (viable_goes h f)
viable_goes (number_first z s ts h) f = goes_number z s ts (viable_goes h f)
viable_goes (end_first s ts h) f = goes_end s ts (viable_goes h f)
viable_goes (rule_replaced r a s ts k h) f = goes_rule r a s ts k (viable_goes h (each (λ a. Fine (a ++ s)) (alternatives r) (fine_rule r s f.0 f.1) a k))
viable_goes (option_present p a s ts k h) f = goes_there p a s ts k (viable_goes h (each (λ a. Fine (a ++ s)) (contents p) (fine_part p s f.0 f.1) a k))
viable_goes (option_absent p s ts h) f = goes_past p s ts f.0 (viable_goes h f.1)
viable_goes (repeated_once_more p a s ts k h) f = goes_again p a s ts k (viable_goes h (each (λ a. Fine (a ++ (repeated p ∷ s))) (contents p) (fine_again p s f) a k))
viable_goes (repeated_no_more p s ts h) f = goes_out p s ts f.1 (viable_goes h f.2)
