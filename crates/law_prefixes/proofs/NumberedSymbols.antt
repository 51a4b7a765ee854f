-- Plain symbols with their numbers: a symbol inside n types and lenses has the number 100 - n.
use Rattle.std.proofs.Common.{◌≡◌, ℕ, suc, ◌-◌, ◌<◌, List, [], ◌∷◌, ◌++◌, map, refl, sym, ap, subst, arith}
use Rattle.program_tokens.specs.declared.token.Token.{Token}
use Rattle.program_grammar.specs.Grammar.{Rule, program, field, type, lens, row, Part, definitions, other_members, other_pairs, declared_number, declared_string, fields, other_fields, rows, other_rows, other_arms, Symbol, mark, word, a_name, a_string, a_number, the_end, rule, perhaps, repeated, contents, alternatives, IsAmong, IsViablePrefix, no_tokens, mark_first, word_first, name_first, string_first, number_first, end_first, rule_replaced, option_present, option_absent, repeated_once_more, repeated_no_more}
use Rattle.program_grammar.specs.PlainGrammar.{PlainRule, PlainPart, PlainSymbol, IsPlainPrefix, inside_rule, inside_part, first_depth, other_depths, depths_before, IsAllowed, IsNestedBelow}
use Rattle.program_grammar.specs.PlainGrammar as plain
use Rattle.law_prefixes.proofs.PlainPrefixes.{among_mapped}

abbrev pub number_rule : ℕ → PlainRule → Rule
number_rule n plain.program = program
number_rule n plain.field = field
number_rule n plain.type = type (100 - n)
number_rule n plain.lens = lens (100 - n)
number_rule n plain.row = row (100 - n)

abbrev pub number_part : ℕ → PlainPart → Part
number_part n plain.definitions = definitions
number_part n plain.other_members = other_members
number_part n plain.other_pairs = other_pairs
number_part n plain.declared_number = declared_number
number_part n plain.declared_string = declared_string
number_part n plain.fields = fields (100 - n)
number_part n plain.other_fields = other_fields (100 - n)
number_part n plain.rows = rows (100 - n)
number_part n plain.other_rows = other_rows (100 - n)
number_part n plain.other_arms = other_arms (100 - n)

abbrev pub number : ℕ → PlainSymbol → Symbol
number n (plain.mark m) = mark m
number n (plain.word k) = word k
number n plain.a_name = a_name
number n plain.a_string = a_string
number n plain.a_number = a_number
number n plain.the_end = the_end
number n (plain.rule r) = rule (number_rule n r)
number n (plain.perhaps p) = perhaps (number_part n p)
number n (plain.repeated p) = repeated (number_part n p)

-- symbols that are all inside n
abbrev pub number_all : ℕ → List PlainSymbol → List Symbol
number_all n [] = []
number_all n (x ∷ a) = number n x ∷ number_all n a

-- symbols by their depths
abbrev pub numbered : List ℕ → List PlainSymbol → List Symbol
numbered ns [] = []
numbered ns (x ∷ s) = number (first_depth ns) x ∷ numbered (other_depths ns) s

pub numbered_before : (n : ℕ) (a : List PlainSymbol) (ns : List ℕ) (s : List PlainSymbol) → numbered (depths_before n a ns) (a ++ s) ≡ number_all n a ++ numbered ns s
numbered_before n [] ns s = refl
numbered_before n (x ∷ a) ns s = ap (λ r. number n x ∷ r) (numbered_before n a ns s)

-- ---- productions

one_less : (n : ℕ) → n < 100 → 100 - n ≡ suc (100 - suc n)
one_less n h = omega arith

pub numbered_alternatives : (r : PlainRule) (n : ℕ) → IsAllowed 100 r n → alternatives (number_rule n r) ≡ map (number_all (inside_rule r n)) (plain.alternatives r)
numbered_alternatives plain.program n h = refl
numbered_alternatives plain.field n h = refl
numbered_alternatives plain.type n h = ap (λ k. alternatives (type k)) (one_less n h)
numbered_alternatives plain.lens n h = ap (λ k. alternatives (lens k)) (one_less n h)
numbered_alternatives plain.row n h = refl

pub numbered_contents : (p : PlainPart) (n : ℕ) → contents (number_part n p) ≡ map (number_all (inside_part p n)) (plain.contents p)
numbered_contents plain.definitions n = refl
numbered_contents plain.other_members n = refl
numbered_contents plain.other_pairs n = refl
numbered_contents plain.declared_number n = refl
numbered_contents plain.declared_string n = refl
numbered_contents plain.fields n = refl
numbered_contents plain.other_fields n = refl
numbered_contents plain.rows n = refl
numbered_contents plain.other_rows n = refl
numbered_contents plain.other_arms n = refl

pub numbered_alternative : (r : PlainRule) (n : ℕ) (a : List PlainSymbol) → IsAllowed 100 r n → IsAmong a (plain.alternatives r) → IsAmong (number_all (inside_rule r n) a) (alternatives (number_rule n r))
numbered_alternative r n a h k =
    subst (IsAmong (number_all (inside_rule r n) a)) (sym (numbered_alternatives r n h)) (among_mapped (number_all (inside_rule r n)) a (plain.alternatives r) k)

pub numbered_content : (p : PlainPart) (n : ℕ) (a : List PlainSymbol) → IsAmong a (plain.contents p) → IsAmong (number_all (inside_part p n) a) (contents (number_part n p))
numbered_content p n a k =
    subst (IsAmong (number_all (inside_part p n) a)) (sym (numbered_contents p n)) (among_mapped (number_all (inside_part p n)) a (plain.contents p) k)

-- ---- a plain prefix nested below 100 is a viable prefix

pub viable : {s : List PlainSymbol} {ts : List Token} (d : IsPlainPrefix s ts) (ns : List ℕ) → IsNestedBelow 100 ns d → IsViablePrefix (numbered ns s) ts
viable (plain.no_tokens s) ns b = no_tokens (numbered ns s)
viable (plain.mark_first m s ts h) ns b = mark_first m (numbered (other_depths ns) s) ts (viable h (other_depths ns) b)
viable (plain.word_first k s ts h) ns b = word_first k (numbered (other_depths ns) s) ts (viable h (other_depths ns) b)
viable (plain.name_first n s ts h) ns b = name_first n (numbered (other_depths ns) s) ts (viable h (other_depths ns) b)
viable (plain.string_first n s ts h) ns b = string_first n (numbered (other_depths ns) s) ts (viable h (other_depths ns) b)
viable (plain.number_first z s ts h) ns b = number_first z (numbered (other_depths ns) s) ts (viable h (other_depths ns) b)
viable (plain.end_first s ts h) ns b = end_first (numbered (other_depths ns) s) ts (viable h (other_depths ns) b)
viable (plain.rule_replaced r a s t ts k h) ns b =
    let n = first_depth ns in
    let inner = inside_rule r n in
    rule_replaced (number_rule n r) (number_all inner a) (numbered (other_depths ns) s) (t ∷ ts) (numbered_alternative r n a b.0 k)
    (subst (λ q. IsViablePrefix q (t ∷ ts)) (numbered_before inner a (other_depths ns) s) (viable h (depths_before inner a (other_depths ns)) b.1))
viable (plain.option_present p a s t ts k h) ns b =
    let n = first_depth ns in
    let inner = inside_part p n in
    option_present (number_part n p) (number_all inner a) (numbered (other_depths ns) s) (t ∷ ts) (numbered_content p n a k)
    (subst (λ q. IsViablePrefix q (t ∷ ts)) (numbered_before inner a (other_depths ns) s) (viable h (depths_before inner a (other_depths ns)) b))
viable (plain.option_absent p s t ts h) ns b = option_absent (number_part (first_depth ns) p) (numbered (other_depths ns) s) (t ∷ ts) (viable h (other_depths ns) b)
viable (plain.repeated_once_more p a s t ts k h) ns b =
    let n = first_depth ns in
    let inner = inside_part p n in
    repeated_once_more (number_part n p) (number_all inner a) (numbered (other_depths ns) s) (t ∷ ts) (numbered_content p n a k)
    (subst (λ q. IsViablePrefix q (t ∷ ts)) (numbered_before inner a (n ∷ other_depths ns) (plain.repeated p ∷ s)) (viable h (depths_before inner a (n ∷ other_depths ns)) b))
viable (plain.repeated_no_more p s t ts h) ns b = repeated_no_more (number_part (first_depth ns) p) (numbered (other_depths ns) s) (t ∷ ts) (viable h (other_depths ns) b)
