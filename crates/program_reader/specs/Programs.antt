-- Programs before their names are checked, as contracts see them. The main definition is `program_with_notes`.
use Rattle.std.specs.Prelude.{ℕ, List, [], Option, Result, Ok, map}
use Rattle.program_tokens.specs.declared.token.PlacedToken.{PlacedToken}
use Rattle.program_terms.specs.Terms.{DefTree}
use Rattle.program_terms.specs.Views.{def_tree, lens_tree}
use Rattle.program_grammar.specs.declared.mention.Sort.{Sort}
use Rattle.program_grammar.specs.declared.mention.Sort.TheVariants as sorts
use Rattle.program_grammar.specs.Mentions.{Point, NotedDefinition, NotedProgram}
use Rattle.program_grammar.specs.Reading.{Read, ◌>>=◌, type_term_at, lens_term_at}
use Rattle.program_reader.specs.declared.programs.ReadDefinition.{ReadDefinition}
use Rattle.program_reader.specs.declared.programs.ReadProgram.{ReadProgram}

-- a definition with its notes
abbrev pub definition_with_notes : ReadDefinition → NotedDefinition
definition_with_notes d = record { name = d.name; at = d.at; def = def_tree d.def; mentions = d.mentions.items }

-- a program with its notes
abbrev pub program_with_notes : ReadProgram → NotedProgram
program_with_notes p = record {
  definitions = map definition_with_notes p.definitions.items;
  main = lens_tree p.main;
  mentions = p.mentions.items;
}

-- what a name of this sort is defined as
abbrev pub term_at : Sort → Point → Read DefTree
term_at sorts.Type = type_term_at
term_at sorts.Lens = lens_term_at

-- what was read, and the point behind it, since when no name is mentioned
abbrev pub with_no_mentions : {A : Type 0} → Result (A × List PlacedToken) (Option ℕ) → Read A
with_no_mentions read = read >>= λ x. Ok (x.0, ([], x.1))
