-- The result from a program that was read and from its names that were checked.
use Rattle.std.proofs.Common.{◌≡◌, ℕ, List, [], ◌++◌, map, Option, Some, None, Result, Ok, Err, refl, sym, ap, subst, ◌∙◌}
use Rattle.std.proofs.lemmas.List.{append-nil}
use Rattle.program_tokens.specs.declared.token.PlacedToken.{PlacedToken}
use Rattle.program_terms.specs.Terms.{DefTree, ProgramTree}
use Rattle.program_terms.specs.Views.{program_tree}
use Rattle.program_terms.specs.declared.program.Program.{Program}
use Rattle.program_grammar.specs.declared.mention.Mention.{Mention}
use Rattle.program_grammar.specs.declared.mention.NameFault.{NameFault}
use Rattle.program_grammar.specs.Mentions.{NotedDefinition, NotedProgram, definition_without_notes, without_notes}
use Rattle.program_grammar.specs.Reading.{program_at}
use Rattle.program_reader.specs.declared.fault.ProgramReadFault.{ProgramReadFault}
use Rattle.program_reader.specs.Known.{first_unknown_among, first_fault_among, or_fault}
use Rattle.program_reader.specs.Causes.{ReadCause, name_cause, if_no_fault, program_or_cause, program_of, IsTokenRefusal, IsResult}
use Rattle.program_reader.proofs.FirstFault.{first_fault_same}

none_found : (fault : Option NameFault) → Ok tt ≡ or_fault fault → fault ≡ None
none_found None e = refl
none_found (Some fault) e = absurd cc

-- once no definition is left and the names of the main lens are known
pub all_added : (definitions : List NotedDefinition) (mentions : List Mention) (known : List (List ℕ × DefTree)) (left : List NotedDefinition) → left ≡ []
    → first_fault_among known left mentions ≡ first_fault_among [] definitions mentions
    → known ++ map definition_without_notes left ≡ map definition_without_notes definitions
    → Ok tt ≡ or_fault (first_unknown_among known mentions)
    → if_no_fault (first_fault_among [] definitions mentions) (map definition_without_notes definitions) ≡ Ok known
all_added definitions mentions known left none fault whole known_names =
    let no_fault : first_fault_among [] definitions mentions ≡ None = sym fault ∙ ap (λ ds. first_fault_among known ds mentions) none ∙ none_found (first_unknown_among known mentions) known_names in
    let all : known ≡ map definition_without_notes definitions = sym (append-nil known) ∙ ap (λ ds. known ++ map definition_without_notes ds) (sym none) ∙ whole in
    ap (λ fault. if_no_fault fault (map definition_without_notes definitions)) no_fault ∙ ap (λ (ds : List (List ℕ × DefTree)). Ok ds) (sym all)

-- a program of definitions without a fault, and of definitions with one
pub with_main : (fault : Option NameFault) (p : NotedProgram) (known : List (List ℕ × DefTree)) (result : ProgramTree)
    → if_no_fault fault (map definition_without_notes p.definitions) ≡ Ok known → result ≡ record { definitions = known; main = p.main }
    → if_no_fault fault (without_notes p) ≡ Ok result
with_main None p known result e is =
    let all : map definition_without_notes p.definitions ≡ known = cc in
    ap (λ (ds : List (List ℕ × DefTree)). Ok (record { definitions = ds; main = p.main })) all ∙ ap (λ (tree : ProgramTree). Ok tree) (sym is)
with_main (Some fault) p known result e is = absurd cc

pub still_refused : {A B : Type 0} (cause : Option ReadCause) (fault : Option NameFault) (x : A) (y : B) → IsTokenRefusal cause (if_no_fault fault x) → IsTokenRefusal cause (if_no_fault fault y)
still_refused None fault x y h = tt
still_refused (Some cause) None x y h = absurd cc
still_refused {B = B} (Some cause) (Some fault) x y h = let same : name_cause fault ≡ cause = cc in ap (λ (c : ReadCause). Err c) same

-- the result for tokens that are read as this program
pub read_so : (tokens : List PlacedToken) (p : NotedProgram) (result : Result Program ProgramReadFault) → program_at tokens ≡ Ok p
    → IsResult program_tree result (if_no_fault (first_fault_among [] p.definitions p.mentions) (without_notes p)) → IsResult program_tree result (program_of tokens)
read_so tokens p result read h =
    subst (λ (r : Result NotedProgram (Option ℕ)). IsResult program_tree result (program_or_cause r)) (sym read)
    (subst (λ (fault : Option NameFault). IsResult program_tree result (if_no_fault fault (without_notes p))) (first_fault_same p) h)
