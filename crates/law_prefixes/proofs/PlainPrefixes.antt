-- A viable prefix of the numbered grammar is a prefix of the plain one: the numbers are left out.
use Rattle.std.proofs.Common.{◌≡◌, zero, suc, List, [], ◌∷◌, ◌++◌, map, refl, ap, subst, inl, inr}
use Rattle.program_tokens.specs.declared.token.Token.{Token}
use Rattle.program_grammar.specs.Grammar.{Rule, program, field, type, lens, row, Part, definitions, other_members, other_pairs, declared_number, declared_string, fields, other_fields, rows, other_rows, other_arms, Symbol, mark, word, a_name, a_string, a_number, the_end, rule, perhaps, repeated, contents, alternatives, IsAmong, IsViablePrefix, no_tokens, mark_first, word_first, name_first, string_first, number_first, end_first, rule_replaced, option_present, option_absent, repeated_once_more, repeated_no_more}
use Rattle.program_grammar.specs.PlainGrammar.{PlainRule, PlainPart, PlainSymbol, IsPlainPrefix}
use Rattle.program_grammar.specs.PlainGrammar as plain

-- ---- symbols without their numbers

abbrev pub plain_rule : Rule → PlainRule
plain_rule program = plain.program
plain_rule field = plain.field
plain_rule (type n) = plain.type
plain_rule (lens n) = plain.lens
plain_rule (row n) = plain.row

abbrev pub plain_part : Part → PlainPart
plain_part definitions = plain.definitions
plain_part other_members = plain.other_members
plain_part other_pairs = plain.other_pairs
plain_part declared_number = plain.declared_number
plain_part declared_string = plain.declared_string
plain_part (fields n) = plain.fields
plain_part (other_fields n) = plain.other_fields
plain_part (rows n) = plain.rows
plain_part (other_rows n) = plain.other_rows
plain_part (other_arms n) = plain.other_arms

abbrev pub plain_symbol : Symbol → PlainSymbol
plain_symbol (mark m) = plain.mark m
plain_symbol (word k) = plain.word k
plain_symbol a_name = plain.a_name
plain_symbol a_string = plain.a_string
plain_symbol a_number = plain.a_number
plain_symbol the_end = plain.the_end
plain_symbol (rule r) = plain.rule (plain_rule r)
plain_symbol (perhaps p) = plain.perhaps (plain_part p)
plain_symbol (repeated p) = plain.repeated (plain_part p)

abbrev pub plain_symbols : List Symbol → List PlainSymbol
plain_symbols [] = []
plain_symbols (x ∷ s) = plain_symbol x ∷ plain_symbols s

plain_append : (a s : List Symbol) → plain_symbols (a ++ s) ≡ plain_symbols a ++ plain_symbols s
plain_append [] s = refl
plain_append (x ∷ a) s = ap (λ r. plain_symbol x ∷ r) (plain_append a s)

-- ---- productions

pub among_mapped : {A B : Type 0} (f : A → B) (a : A) (all : List A) → IsAmong a all → IsAmong (f a) (map f all)
among_mapped f a [] k = absurd k
among_mapped f a (b ∷ all) (inl e) = inl (ap f e)
among_mapped f a (b ∷ all) (inr k) = inr (among_mapped f a all k)

-- an alternative without its numbers is one of the plain rule
plain_alternative : (r : Rule) (a : List Symbol) → IsAmong a (alternatives r) → IsAmong (plain_symbols a) (plain.alternatives (plain_rule r))
plain_alternative program a k = among_mapped plain_symbols a (alternatives program) k
plain_alternative field a k = among_mapped plain_symbols a (alternatives field) k
plain_alternative (type zero) a k = absurd k
plain_alternative (type (suc n)) a k = among_mapped plain_symbols a (alternatives (type (suc n))) k
plain_alternative (lens zero) a k = absurd k
plain_alternative (lens (suc n)) a k = among_mapped plain_symbols a (alternatives (lens (suc n))) k
plain_alternative (row n) a k = among_mapped plain_symbols a (alternatives (row n)) k

plain_content : (p : Part) (a : List Symbol) → IsAmong a (contents p) → IsAmong (plain_symbols a) (plain.contents (plain_part p))
plain_content definitions a k = among_mapped plain_symbols a (contents definitions) k
plain_content other_members a k = among_mapped plain_symbols a (contents other_members) k
plain_content other_pairs a k = among_mapped plain_symbols a (contents other_pairs) k
plain_content declared_number a k = among_mapped plain_symbols a (contents declared_number) k
plain_content declared_string a k = among_mapped plain_symbols a (contents declared_string) k
plain_content (fields n) a k = among_mapped plain_symbols a (contents (fields n)) k
plain_content (other_fields n) a k = among_mapped plain_symbols a (contents (other_fields n)) k
plain_content (rows n) a k = among_mapped plain_symbols a (contents (rows n)) k
plain_content (other_rows n) a k = among_mapped plain_symbols a (contents (other_rows n)) k
plain_content (other_arms n) a k = among_mapped plain_symbols a (contents (other_arms n)) k

-- ---- prefixes

-- what is replaced, where a token is left
replaced : (x : PlainSymbol) (a s : List Symbol) (ts : List Token)
    → ((t : Token) (us : List Token) → IsPlainPrefix (plain_symbols a ++ plain_symbols s) (t ∷ us) → IsPlainPrefix (x ∷ plain_symbols s) (t ∷ us))
    → IsPlainPrefix (plain_symbols (a ++ s)) ts → IsPlainPrefix (x ∷ plain_symbols s) ts
replaced x a s [] f h = plain.no_tokens (x ∷ plain_symbols s)
replaced x a s (t ∷ ts) f h = f t ts (subst (λ q. IsPlainPrefix q (t ∷ ts)) (plain_append a s) h)

again : (p : Part) (a s : List Symbol) (ts : List Token) → IsAmong a (contents p) → IsPlainPrefix (plain_symbols (a ++ (repeated p ∷ s))) ts → IsPlainPrefix (plain_symbols (repeated p ∷ s)) ts
again p a s [] k h = plain.no_tokens (plain_symbols (repeated p ∷ s))
again p a s (t ∷ ts) k h =
    plain.repeated_once_more (plain_part p) (plain_symbols a) (plain_symbols s) t ts (plain_content p a k) (subst (λ q. IsPlainPrefix q (t ∷ ts)) (plain_append a (repeated p ∷ s)) h)

skipped : (x : PlainSymbol) (s : List PlainSymbol) (ts : List Token) → ((t : Token) (us : List Token) → IsPlainPrefix s (t ∷ us) → IsPlainPrefix (x ∷ s) (t ∷ us)) → IsPlainPrefix s ts → IsPlainPrefix (x ∷ s) ts
skipped x s [] f h = plain.no_tokens (x ∷ s)
skipped x s (t ∷ ts) f h = f t ts h

pub plain_prefix : {s : List Symbol} {ts : List Token} → IsViablePrefix s ts → IsPlainPrefix (plain_symbols s) ts
plain_prefix (no_tokens s) = plain.no_tokens (plain_symbols s)
plain_prefix (mark_first m s ts h) = plain.mark_first m (plain_symbols s) ts (plain_prefix h)
plain_prefix (word_first k s ts h) = plain.word_first k (plain_symbols s) ts (plain_prefix h)
plain_prefix (name_first n s ts h) = plain.name_first n (plain_symbols s) ts (plain_prefix h)
plain_prefix (string_first n s ts h) = plain.string_first n (plain_symbols s) ts (plain_prefix h)
plain_prefix (number_first z s ts h) = plain.number_first z (plain_symbols s) ts (plain_prefix h)
plain_prefix (end_first s ts h) = plain.end_first (plain_symbols s) ts (plain_prefix h)
plain_prefix (rule_replaced r a s ts k h) =
    replaced (plain.rule (plain_rule r)) a s ts (λ t us. plain.rule_replaced (plain_rule r) (plain_symbols a) (plain_symbols s) t us (plain_alternative r a k)) (plain_prefix h)
plain_prefix (option_present p a s ts k h) =
    replaced (plain.perhaps (plain_part p)) a s ts (λ t us. plain.option_present (plain_part p) (plain_symbols a) (plain_symbols s) t us (plain_content p a k)) (plain_prefix h)
plain_prefix (option_absent p s ts h) = skipped (plain.perhaps (plain_part p)) (plain_symbols s) ts (plain.option_absent (plain_part p) (plain_symbols s)) (plain_prefix h)
plain_prefix (repeated_once_more p a s ts k h) = again p a s ts k (plain_prefix h)
plain_prefix (repeated_no_more p s ts h) = skipped (plain.repeated (plain_part p)) (plain_symbols s) ts (plain.repeated_no_more (plain_part p) (plain_symbols s)) (plain_prefix h)
