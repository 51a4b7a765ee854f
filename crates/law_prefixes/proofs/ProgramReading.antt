-- Programs, read beside the machine.
use Rattle.std.proofs.Common.{◌≡◌, ℕ, zero, suc, ◌-◌, List, [], ◌∷◌, length, drop, Option, Some, None, Result, Ok, Err, refl, subst, ◌∙◌}
use Rattle.std.specs.Option.{option_or}
use Rattle.program_tokens.specs.declared.keyword.Keyword.{Keyword}
use Rattle.program_tokens.specs.declared.keyword.Keyword.TheVariants as words
use Rattle.program_tokens.specs.declared.mark.Mark.TheVariants.{Equals, Semicolon}
use Rattle.program_tokens.specs.declared.token.Token.{Token}
use Rattle.program_tokens.specs.declared.token.Token.TheVariants as tokens
use Rattle.program_tokens.specs.declared.token.PlacedToken.{PlacedToken}
use Rattle.program_tokens.specs.Tokens.{placed}
use Rattle.program_terms.specs.Terms.{DefTree, type_def, lens_def}
use Rattle.program_grammar.specs.declared.mention.Mention.{Mention}
use Rattle.program_grammar.specs.Grammar.{Symbol, mark, word, a_name, the_end, rule, repeated, type, lens, definitions, program_and_end}
use Rattle.program_grammar.specs.Mentions.{Point, NotedDefinition, NotedProgram}
use Rattle.program_grammar.specs.Reading.{Read, ◌>>=◌, mark_at, token_value, name_in, name_from, name_at, type_at, lens_at, type_term_at, lens_term_at, definition_at, definitions_at, main_at, none_left, end_at, program_at}
use Rattle.law_prefixes.proofs.Machine.{take_one, stop}
use Rattle.law_prefixes.proofs.MachineSteps.{through, Takes, Reads, takes_ok, takes_then, takes_mapped, takes_none, takes_first, takes_not, takes_as, stop_nothing}
use Rattle.law_prefixes.proofs.TokenReading.{mark_takes}
use Rattle.program_grammar.proofs.RestOfTokens.{drop_to_rest}
use Rattle.law_prefixes.proofs.ListReading.{done_takes}
use Rattle.law_prefixes.proofs.TypeReading.{type_takes}
use Rattle.law_prefixes.proofs.LensReading.{lens_takes}

name_token : (s : List Symbol) (k : Token) (at : ℕ) (ms : List Mention) (ts : List PlacedToken) → Takes ((List ℕ × ℕ) × Point) (λ x. x.1.1) (a_name ∷ s) s (placed k at ∷ ts) (token_value (name_in k at) at ms ts)
unfolding take_one
name_token s (tokens.Name n) at ms ts = takes_first (tokens.Name n) at ts s refl (takes_ok s ((n, at), (ms, ts)))
name_token s k at ms ts = takes_not k at ts refl

name_after : (s : List Symbol) (ms : List Mention) (ts : List PlacedToken) → Takes ((List ℕ × ℕ) × Point) (λ x. x.1.1) (a_name ∷ s) s ts (name_from ms ts)
name_after s ms [] = takes_none (a_name ∷ s) s
name_after s ms (t ∷ ts) = name_token s t.token t.at ms ts

name_takes : Reads (List ℕ × ℕ) (a_name ∷ []) name_at
unfolding name_at
name_takes s p = name_after s p.0 p.1

type_term_takes : Reads DefTree (rule (type 100) ∷ []) type_term_at
unfolding type_term_at
type_term_takes s p = takes_mapped (type_at 100 p) type_def (type_takes 100 s p)

lens_term_takes : Reads DefTree (rule (lens 100) ∷ []) lens_term_at
unfolding lens_term_at
lens_term_takes s p = takes_mapped (lens_at 100 p) lens_def (lens_takes 100 s p)

-- a definition behind its first word
definition_takes : (e : Symbol) (term : Point → Read DefTree) → Reads DefTree (e ∷ []) term
    → (s : List Symbol) (ts : List PlacedToken) → Takes (NotedDefinition × List PlacedToken) (λ x. x.1) (a_name ∷ mark Equals ∷ e ∷ mark Semicolon ∷ s) s ts (definition_at term ts)
unfolding definition_at
definition_takes e term h s ts =
    takes_then (name_at ([], ts)) _ (name_takes (mark Equals ∷ e ∷ mark Semicolon ∷ s) ([], ts)) (λ n _.
    takes_then (mark_at Equals n.1) _ (mark_takes Equals (e ∷ mark Semicolon ∷ s) n.1) (λ rest _.
    takes_then (term rest) _ (h (mark Semicolon ∷ s) rest) (λ d _.
    takes_then (mark_at Semicolon d.1) _ (mark_takes Semicolon s d.1) (λ rest _.
    takes_ok s (record { name = n.0.0; at = n.0.1; def = d.0; mentions = rest.0 }, rest.1)))))

abbrev Definitions : List Symbol → ℕ → List PlacedToken → Type 0
Definitions s skip ts = Takes (List NotedDefinition × List PlacedToken) (λ x. x.1) (repeated definitions ∷ s) s (drop skip ts) (definitions_at skip ts)

-- a definition and those behind it
more_take : (e : Symbol) (term : Point → Read DefTree) → Reads DefTree (e ∷ []) term → (s : List Symbol) (k : Token) (at : ℕ) (ts : List PlacedToken)
    → take_one (repeated definitions ∷ s) k ≡ Some (a_name ∷ mark Equals ∷ e ∷ mark Semicolon ∷ repeated definitions ∷ s) → ((skip : ℕ) → Definitions s skip ts)
    → Takes (List NotedDefinition × List PlacedToken) (λ x. x.1) (repeated definitions ∷ s) s (placed k at ∷ ts) (definition_at term ts >>= λ d. definitions_at (length ts - length d.1) ts >>= λ ds. Ok (d.0 ∷ ds.0, ds.1))
more_take e term h s k at ts first others =
    let one = definition_takes e term h (repeated definitions ∷ s) ts in
    takes_first k at ts (a_name ∷ mark Equals ∷ e ∷ mark Semicolon ∷ repeated definitions ∷ s) first (takes_then (definition_at term ts) _ one (λ d e.
    takes_then (definitions_at (length ts - length d.1) ts) _
    (subst (λ rest. Takes (List NotedDefinition × List PlacedToken) (λ x. x.1) (repeated definitions ∷ s) s rest (definitions_at (length ts - length d.1) ts)) (drop_to_rest ts d.1 (one.leaves d e)) (others (length ts - length d.1)))
    (λ ds _. takes_ok s (d.0 ∷ ds.0, ds.1))))

definitions_by_word : (s : List Symbol) (k : Keyword) (at : ℕ) (ts : List PlacedToken) → ((skip : ℕ) → Definitions s skip ts) → Definitions s 0 (placed (tokens.Keyword k) at ∷ ts)
unfolding definitions_at take_one
definitions_by_word s words.Type at ts others = more_take (rule (type 100)) type_term_at type_term_takes s (tokens.Keyword words.Type) at ts refl others
definitions_by_word s words.Lens at ts others = more_take (rule (lens 100)) lens_term_at lens_term_takes s (tokens.Keyword words.Lens) at ts refl others
definitions_by_word s k at ts others = takes_as s (tokens.Keyword k) at ts refl (takes_ok s ([], placed (tokens.Keyword k) at ∷ ts))

definitions_by : (s : List Symbol) (k : Token) (at : ℕ) (ts : List PlacedToken) → ((skip : ℕ) → Definitions s skip ts) → Definitions s 0 (placed k at ∷ ts)
unfolding definitions_at take_one
definitions_by s (tokens.Keyword k) at ts others = definitions_by_word s k at ts others
definitions_by s k at ts others = takes_as s k at ts refl (takes_ok s ([], placed k at ∷ ts))

definitions_take : (s : List Symbol) (skip : ℕ) (ts : List PlacedToken) → Definitions s skip ts
unfolding definitions_at
definitions_take s zero [] = done_takes (repeated definitions ∷ s) s ([], []) refl
definitions_take s (suc skip) [] = done_takes (repeated definitions ∷ s) s ([], []) refl
definitions_take s (suc skip) (t ∷ ts) = definitions_take s skip ts
definitions_take s zero (t ∷ ts) = definitions_by s t.token t.at ts (λ skip. definitions_take s skip ts)

main_by_word : (s : List Symbol) (k : Keyword) (at : ℕ) (ts : List PlacedToken) → Takes (List PlacedToken) (λ x. x) (word words.Main ∷ s) s (placed (tokens.Keyword k) at ∷ ts) (main_at (placed (tokens.Keyword k) at ∷ ts))
unfolding main_at take_one
main_by_word s words.Main at ts = takes_first (tokens.Keyword words.Main) at ts s refl (takes_ok s ts)
main_by_word s k at ts = takes_not (tokens.Keyword k) at ts refl

main_by : (s : List Symbol) (k : Token) (at : ℕ) (ts : List PlacedToken) → Takes (List PlacedToken) (λ x. x) (word words.Main ∷ s) s (placed k at ∷ ts) (main_at (placed k at ∷ ts))
unfolding main_at take_one
main_by s (tokens.Keyword k) at ts = main_by_word s k at ts
main_by s k at ts = takes_not k at ts refl

main_takes : (s : List Symbol) (ts : List PlacedToken) → Takes (List PlacedToken) (λ x. x) (word words.Main ∷ s) s ts (main_at ts)
unfolding main_at
main_takes s [] = takes_none (word words.Main ∷ s) s
main_takes s (t ∷ ts) = main_by s t.token t.at ts

-- nothing may stand behind the end
none_take : (ts : List PlacedToken) → Takes (List PlacedToken) (λ x. []) [] [] ts (none_left ts)
unfolding take_one
none_take [] = takes_ok [] []
none_take (t ∷ ts) = takes_not t.token t.at ts refl

end_by : (k : Token) (at : ℕ) (ts : List PlacedToken) → Takes (List PlacedToken) (λ x. []) (the_end ∷ []) [] (placed k at ∷ ts) (end_at (placed k at ∷ ts))
unfolding end_at take_one
end_by tokens.End at ts = takes_first tokens.End at ts [] refl (none_take ts)
end_by k at ts = takes_not k at ts refl

end_takes : (ts : List PlacedToken) → Takes (List PlacedToken) (λ x. []) (the_end ∷ []) [] ts (end_at ts)
unfolding end_at
end_takes [] = takes_none (the_end ∷ []) []
end_takes (t ∷ ts) = end_by t.token t.at ts

or_none : (o : Option (List Symbol)) → option_or o None ≡ o
or_none (Some a) = refl
or_none None = refl

-- a program has one alternative
abbrev all_of : List Symbol
all_of = repeated definitions ∷ word words.Main ∷ rule (lens 100) ∷ the_end ∷ []

program_by : (k : Token) → take_one program_and_end k ≡ take_one all_of k
unfolding take_one
program_by k = or_none _

program_takes : (ts : List PlacedToken) → Takes NotedProgram (λ x. []) all_of [] ts (program_at ts)
unfolding program_at
program_takes ts =
    takes_then (definitions_at 0 ts) _ (definitions_take (word words.Main ∷ rule (lens 100) ∷ the_end ∷ []) 0 ts) (λ ds _.
    takes_then (main_at ds.1) _ (main_takes (rule (lens 100) ∷ the_end ∷ []) ds.1) (λ rest _.
    takes_then (lens_at 100 ([], rest)) _ (lens_takes 100 (the_end ∷ []) ([], rest)) (λ l _.
    takes_then (end_at l.1.1) _ (end_takes l.1.1) (λ u _.
    takes_ok [] (record { definitions = ds.0; main = l.0; mentions = l.1.0 })))))

-- what was wrong
abbrev pub fault : {A : Type 0} → Result A (Option ℕ) → Option ℕ
fault (Ok x) = None
fault (Err e) = e

stop_whole : (ts : List PlacedToken) → stop program_and_end ts ≡ stop all_of ts
unfolding stop
stop_whole [] = refl
stop_whole (t ∷ ts) = rw (program_by t.token, stop) refl

stop_at_fault : (r : Result NotedProgram (Option ℕ)) → through r (λ x. stop [] []) ≡ fault r
stop_at_fault (Ok x) = stop_nothing []
stop_at_fault (Err e) = refl

-- The machine stops where reading a program fails.
pub program_stops : (ts : List PlacedToken) → stop program_and_end ts ≡ fault (program_at ts)
program_stops ts = stop_whole ts ∙ (program_takes ts).stops ∙ stop_at_fault (program_at ts)
