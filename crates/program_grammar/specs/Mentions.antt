-- What a text says besides its terms: the names that are mentioned, with their offsets.
-- The main definitions are `Point` and `NotedProgram`; `without_notes`, at the end, is the program itself.
use Rattle.std.specs.Prelude.{ℕ, List, map}
use Rattle.program_tokens.specs.declared.token.PlacedToken.{PlacedToken}
use Rattle.program_terms.specs.Terms.{DefTree, LensTree, ProgramTree}
use Rattle.program_grammar.specs.declared.mention.Sort.{Sort}
use Rattle.program_grammar.specs.declared.mention.Mention.{Mention}

abbrev pub mention : Sort → List ℕ → ℕ → Mention
mention sort name at = record { sort = sort; name = name; at = at }

-- A point of a text: the names mentioned since its definition began, and the tokens that are left.
abbrev pub Point : Type 0
Point = List Mention × List PlacedToken

-- a definition: its name, the offset of the name, what it is defined as, and the names that it mentions, in written
-- order
pub record NotedDefinition : Type 0 where
  pub name : List ℕ
  pub at : ℕ
  pub def : DefTree
  pub mentions : List Mention

-- a program with these notes: its definitions in written order, its main lens, and the names that this one mentions
pub record NotedProgram : Type 0 where
  pub definitions : List NotedDefinition
  pub main : LensTree
  pub mentions : List Mention

-- the program without its notes
abbrev pub definition_without_notes : NotedDefinition → List ℕ × DefTree
definition_without_notes d = (d.name, d.def)

abbrev pub without_notes : NotedProgram → ProgramTree
without_notes p = record { definitions = map definition_without_notes p.definitions; main = p.main }
