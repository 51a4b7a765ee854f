-- The plain grammar on a small text: `main each l`, in which the lens `l` is inside one other.
use Rattle.std.proofs.Common.{List, [], ◌∷◌, refl, arith, inl, inr}
use Rattle.program_tokens.specs.declared.keyword.Keyword.TheVariants as words
use Rattle.program_tokens.specs.declared.token.Token.{Token}
use Rattle.program_tokens.specs.declared.token.Token.TheVariants as tokens
use Rattle.program_grammar.specs.PlainGrammar.{PlainSymbol, program, lens, definitions, word, a_name, the_end, rule, repeated, plain_program_and_end, IsPlainPrefix, no_tokens, word_first, name_first, end_first, rule_replaced, repeated_no_more, IsNestedBelow}

abbrev behind_main : List PlainSymbol
behind_main = the_end ∷ []

abbrev name_and_end : List Token
name_and_end = tokens.Name [] ∷ tokens.End ∷ []

abbrev each_and_name : List Token
each_and_name = tokens.Keyword words.Each ∷ name_and_end

abbrev text : List Token
text = tokens.Keyword words.Main ∷ each_and_name

-- the lens `l`, and the end
abbrev inner : IsPlainPrefix (rule lens ∷ behind_main) name_and_end
inner =
    rule_replaced lens (a_name ∷ []) behind_main (tokens.Name []) (tokens.End ∷ [])
    (inr (inr (inr (inr (inr (inr (inr (inr (inr (inr (inr (inl refl))))))))))))
    (name_first [] behind_main (tokens.End ∷ []) (end_first [] [] (no_tokens [])))

-- the lens `each l`, and the end
abbrev outer : IsPlainPrefix (rule lens ∷ behind_main) each_and_name
outer =
    rule_replaced lens (word words.Each ∷ rule lens ∷ []) behind_main (tokens.Keyword words.Each) name_and_end
    (inr (inr (inr (inr (inr (inr (inl refl)))))))
    (word_first words.Each (rule lens ∷ behind_main) name_and_end inner)

abbrev derived : IsPlainPrefix plain_program_and_end text
derived =
    rule_replaced program (repeated definitions ∷ word words.Main ∷ rule lens ∷ []) behind_main (tokens.Keyword words.Main) each_and_name (inl refl)
    (repeated_no_more definitions (word words.Main ∷ rule lens ∷ behind_main) (tokens.Keyword words.Main) each_and_name
    (word_first words.Main (rule lens ∷ behind_main) each_and_name outer))

-- `each l` is inside nothing, and `l` is inside one lens
below_two : IsNestedBelow 2 [] derived
below_two = (tt, (omega arith, (omega arith, tt)))

not_below_one : IsNestedBelow 1 [] derived → ⊥
not_below_one h = absurd (omega (arith, h.1.1.0))
