-- Unknown and repeated names, computed from the definitions alone, as the code finds them. Read it from the end:
-- `first_fault_among`, then `definition_fault`.
use Rattle.std.specs.Prelude.{ℕ, Bool, false, List, [], ◌∷◌, ◌++◌, Option, Some, None, Result, Ok, Err, if◌then◌else◌}
use Rattle.std.specs.Option.{option_or}
use Rattle.program_terms.specs.Terms.{DefTree, def_named, is_defined}
use Rattle.program_grammar.specs.declared.mention.Sort.{Sort}
use Rattle.program_grammar.specs.declared.mention.Mention.{Mention}
use Rattle.program_grammar.specs.declared.mention.NameFault.{NameFault}
use Rattle.program_grammar.specs.declared.mention.NameFault.TheVariants.{Unknown, Repeated}
use Rattle.program_grammar.specs.Mentions.{NotedDefinition, definition_without_notes}
use Rattle.program_grammar.specs.Names.{is_of}

-- a definition was found, and it is of this sort
abbrev pub is_wanted : Sort → Option DefTree → Bool
is_wanted sort (Some d) = is_of sort d
is_wanted sort None = false

-- the definition that has the name that is mentioned is of the wanted sort
abbrev pub is_known_among : List (List ℕ × DefTree) → Mention → Bool
is_known_among earlier m = is_wanted m.sort (def_named m.name earlier)

-- the first name mentioned that is not known
abbrev pub first_unknown_among : List (List ℕ × DefTree) → List Mention → Option NameFault
first_unknown_among earlier [] = None
first_unknown_among earlier (m ∷ ms) = if is_known_among earlier m then first_unknown_among earlier ms
    else Some (Unknown m.at)

-- the first fault of a definition: its own name comes before those that it mentions
abbrev pub definition_fault : List (List ℕ × DefTree) → NotedDefinition → Option NameFault
definition_fault earlier d = if is_defined d.name earlier then Some (Repeated d.at)
    else first_unknown_among earlier d.mentions

-- the first fault of definitions behind the earlier ones, and of the names that the main lens mentions
abbrev pub first_fault_among : List (List ℕ × DefTree) → List NotedDefinition → List Mention → Option NameFault
first_fault_among earlier [] main = first_unknown_among earlier main
first_fault_among earlier (d ∷ ds) main =
    option_or (definition_fault earlier d) (first_fault_among (earlier ++ definition_without_notes d ∷ []) ds main)

-- a fault as an error
abbrev pub or_fault : Option NameFault → Result (Unit {0}) NameFault
or_fault None = Ok tt
or_fault (Some fault) = Err fault
