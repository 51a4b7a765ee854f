-- Unknown and repeated names. The definitions before one are a list of names, each with what it is defined as.
-- Read it from the end: `first_fault`, then `first_after` and `first_unknown`.
use Rattle.std.specs.Prelude.{ℕ, Bool, true, false, ◌&&◌, List, [], ◌∷◌, ◌++◌, Option, Some, None, bytes_eq}
use Rattle.std.specs.Prelude.{if◌then◌else◌}
use Rattle.std.specs.Option.{option_or}
use Rattle.std.specs.List.{list_any}
use Rattle.program_terms.specs.Terms.{DefTree, type_def, lens_def, is_defined}
use Rattle.program_grammar.specs.declared.mention.Sort.{Sort}
use Rattle.program_grammar.specs.declared.mention.Sort.TheVariants as sorts
use Rattle.program_grammar.specs.declared.mention.Mention.{Mention}
use Rattle.program_grammar.specs.declared.mention.NameFault.{NameFault}
use Rattle.program_grammar.specs.declared.mention.NameFault.TheVariants.{Unknown, Repeated}
use Rattle.program_grammar.specs.Mentions.{NotedDefinition, NotedProgram, definition_without_notes}

-- the definition is of this sort
abbrev pub is_of : Sort → DefTree → Bool
is_of sorts.Type (type_def t) = true
is_of sorts.Type (lens_def l) = false
is_of sorts.Lens (type_def t) = false
is_of sorts.Lens (lens_def l) = true

-- one of the definitions of the wanted sort has the name that is mentioned
abbrev pub is_known : Mention → List (List ℕ × DefTree) → Bool
is_known m earlier = list_any (λ d. is_of m.sort d.1 && bytes_eq m.name d.0) earlier

-- the first name mentioned that no earlier definition of the wanted sort has
abbrev pub first_unknown : List (List ℕ × DefTree) → List Mention → Option NameFault
first_unknown earlier [] = None
first_unknown earlier (m ∷ ms) = if is_known m earlier then first_unknown earlier ms else Some (Unknown m.at)

-- The first fault of the definitions behind the earlier ones, and of the names that the main lens mentions, in written
-- order: a defined name that an earlier definition of either sort has, or a name mentioned that is unknown there. A
-- definition is not in scope in its own body.
abbrev pub first_after : List (List ℕ × DefTree) → List NotedDefinition → List Mention → Option NameFault
first_after earlier [] main = first_unknown earlier main
first_after earlier (d ∷ ds) main =
    if is_defined d.name earlier then Some (Repeated d.at)
    else option_or (first_unknown earlier d.mentions) (first_after (earlier ++ definition_without_notes d ∷ []) ds main)

-- the first fault of a program
abbrev pub first_fault : NotedProgram → Option NameFault
first_fault p = first_after [] p.definitions p.mentions
