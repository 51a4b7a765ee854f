-- Where the machine goes on, the tokens are a viable prefix.
use Rattle.std.proofs.Common.{◌≡◌, true, false, List, [], ◌∷◌, ◌++◌, Option, Some, None, refl, sym, subst, ◌⊎◌, inl, inr}
use Rattle.std.specs.Option.{option_or}
use Rattle.program_tokens.specs.declared.token.Token.{Token}
use Rattle.program_grammar.specs.Grammar.{mark, word, a_name, a_string, a_number, the_end, rule, perhaps, repeated, Symbol, contents, alternatives, IsAmong, IsViablePrefix, no_tokens, mark_first, word_first, name_first, string_first, number_first, end_first, rule_replaced, option_present, option_absent, repeated_once_more, repeated_no_more}
use Rattle.program_grammar.specs.Reading.{is_mark, is_end}
use Rattle.law_prefixes.proofs.Machine.{is_name, is_string, is_number, is_word, first_of, step, no_step, take_inside, take_one, goes}
use Rattle.program_grammar.proofs.MarkTokens.{mark_is}
use Rattle.law_prefixes.proofs.SymbolTokens.{nothing_there, word_is, chosen, name_is, string_is, number_is, end_is}

-- Every token that the machine takes is one that the symbols may begin with.
abbrev Sound : (List Symbol → Token → Option (List Symbol)) → Type 0
Sound f = (s : List Symbol) (t : Token) (q : List Symbol) (ts : List Token) → f s t ≡ Some q → IsViablePrefix q ts → IsViablePrefix s (t ∷ ts)

or_either : (o other : Option (List Symbol)) (q : List Symbol) → option_or o other ≡ Some q → (o ≡ Some q) ⊎ (other ≡ Some q)
or_either (Some a) other q e = inl e
or_either None other q e = inr e

-- what was first is one of them
found_among : (f : List Symbol → Option (List Symbol)) (all : List (List Symbol)) (q : List Symbol) → first_of f all ≡ Some q → (a : List Symbol) × IsAmong a all × (f a ≡ Some q)
found_among f [] q e = absurd (nothing_there q e)
found_among f (a ∷ others) q e =
    elim (or_either (f a) (first_of f others) q e) [
      | inl here ↦ (a, inl refl, here)
      | inr later ↦ let found = found_among f others q later in (found.0, inr found.1, found.2)
    ]

sound_step : (f : List Symbol → Token → Option (List Symbol)) → Sound f → Sound (step f)
sound_step f h [] t q ts e g = absurd (nothing_there q e)
sound_step f h (mark m ∷ s) t q ts e g =
    let c = chosen (is_mark m t) s q e in
    subst (λ k. IsViablePrefix (mark m ∷ s) (k ∷ ts)) (sym (mark_is m t c.0)) (mark_first m s ts (subst (λ x. IsViablePrefix x ts) (sym c.1) g))
sound_step f h (word k ∷ s) t q ts e g =
    let c = chosen (is_word k t) s q e in
    subst (λ x. IsViablePrefix (word k ∷ s) (x ∷ ts)) (sym (word_is k t c.0)) (word_first k s ts (subst (λ x. IsViablePrefix x ts) (sym c.1) g))
sound_step f h (a_name ∷ s) t q ts e g =
    let c = chosen (is_name t) s q e in
    let n = name_is t c.0 in
    subst (λ x. IsViablePrefix (a_name ∷ s) (x ∷ ts)) (sym n.1) (name_first n.0 s ts (subst (λ x. IsViablePrefix x ts) (sym c.1) g))
sound_step f h (a_string ∷ s) t q ts e g =
    let c = chosen (is_string t) s q e in
    let n = string_is t c.0 in
    subst (λ x. IsViablePrefix (a_string ∷ s) (x ∷ ts)) (sym n.1) (string_first n.0 s ts (subst (λ x. IsViablePrefix x ts) (sym c.1) g))
sound_step f h (a_number ∷ s) t q ts e g =
    let c = chosen (is_number t) s q e in
    let z = number_is t c.0 in
    subst (λ x. IsViablePrefix (a_number ∷ s) (x ∷ ts)) (sym z.1) (number_first z.0 s ts (subst (λ x. IsViablePrefix x ts) (sym c.1) g))
sound_step f h (the_end ∷ s) t q ts e g =
    let c = chosen (is_end t) s q e in
    subst (λ x. IsViablePrefix (the_end ∷ s) (x ∷ ts)) (sym (end_is t c.0)) (end_first s ts (subst (λ x. IsViablePrefix x ts) (sym c.1) g))
sound_step f h (rule r ∷ s) t q ts e g =
    let one = found_among (λ a. f (a ++ s) t) (alternatives r) q e in
    rule_replaced r one.0 s (t ∷ ts) one.1 (h (one.0 ++ s) t q ts one.2 g)
sound_step f h (perhaps p ∷ s) t q ts e g =
    elim (or_either (first_of (λ a. f (a ++ s) t) (contents p)) (step f s t) q e) [
      | inl here ↦
          let one = found_among (λ a. f (a ++ s) t) (contents p) q here in
          option_present p one.0 s (t ∷ ts) one.1 (h (one.0 ++ s) t q ts one.2 g)
      | inr past ↦ option_absent p s (t ∷ ts) (sound_step f h s t q ts past g)
    ]
sound_step f h (repeated p ∷ s) t q ts e g =
    elim (or_either (first_of (λ a. f (a ++ (repeated p ∷ s)) t) (contents p)) (step f s t) q e) [
      | inl here ↦
          let one = found_among (λ a. f (a ++ (repeated p ∷ s)) t) (contents p) q here in
          repeated_once_more p one.0 s (t ∷ ts) one.1 (h (one.0 ++ (repeated p ∷ s)) t q ts one.2 g)
      | inr past ↦ repeated_no_more p s (t ∷ ts) (sound_step f h s t q ts past g)
    ]

sound_nothing : Sound no_step
sound_nothing s t q ts e g = absurd (nothing_there q e)

sound : Sound take_one
unfolding take_one
sound = sound_step take_inside (sound_step (step (step no_step)) (sound_step (step no_step) (sound_step no_step sound_nothing)))

pub goes_viable : (s : List Symbol) (ts : List Token) → goes s ts ≡ true → IsViablePrefix s ts
unfolding goes
goes_viable s [] h = no_tokens s
goes_viable s (t ∷ ts) h =
    elim (take_one s t) as (λ o. take_one s t ≡ o → (elim o [ Some r ↦ goes r ts | None ↦ false ]) ≡ true → IsViablePrefix s (t ∷ ts)) [
      | Some r ↦ λ e g. sound s t r ts e (goes_viable r ts g)
      | None ↦ λ e g. absurd cc
    ] refl h
