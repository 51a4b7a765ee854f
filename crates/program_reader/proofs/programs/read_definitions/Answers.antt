use Rattle.std.proofs.Common.{◌≡◌, ◌++◌, ◌∷◌, [], drop, map}
use Rattle.std.proofs.lemmas.Result.{err_from_is_err_and}
use Rattle.std.proofs.lemmas.List.{map_push}
use Rattle.program_grammar.specs.Reading.{definition_at}
use Rattle.program_reader.specs.Programs.{definition_with_notes, term_at}
use Rattle.program_reader.proofs.DefinitionLoop.{no_mentions_ok, goes_on, breaks, is_done, shorter}
use Rattle.program_reader.proofs.programs.read_definitions.Goals as goal

pub returns-in_err-definition : goal.returns-in_err-definition
returns-in_err-definition c =
    let p = err_from_is_err_and c.from_residual.result c.from_residual.ensures.1 in
    rw (p.1, p.2) (breaks c.in-Some.sort (map definition_with_notes c.definitions.definitions.items) c.definitions.reader.1 c.args.reader.now.1 c.in_err-definition.field-0.0 c.in-Some.ensures (rw c.skip.ensures at c.in_err-definition.ensures) c.definitions.invariant.so_far)

pub definitions-smaller : goal.definitions-smaller
definitions-smaller c =
    shorter c.in-Some.sort c.definitions.reader.1 (definition_with_notes c.in_ok-definition.definition) c.read_definition.new.reader c.in-Some.ensures (rw c.skip.ensures at c.in_ok-definition.ensures)

pub definitions-preserved : goal.definitions-preserved
definitions-preserved c =
    let d = definition_with_notes c.in_ok-definition.definition in
    let found = rw c.skip.ensures at c.in_ok-definition.ensures in
    let e : map definition_with_notes c.push_back.new.self.items ≡ map definition_with_notes c.definitions.definitions.items ++ d ∷ [] = rw c.in_ok-push_back.ensures.items (map_push definition_with_notes c.definitions.definitions.items c.in_ok-definition.definition) in
    record {
      fresh = (no_mentions_ok (definition_at (term_at c.in-Some.sort) (drop 1 c.definitions.reader.1)) d c.read_definition.new.reader found).1;
      so_far = rw e (goes_on c.in-Some.sort (map definition_with_notes c.definitions.definitions.items) c.definitions.reader.1 c.args.reader.now.1 d c.read_definition.new.reader c.in-Some.ensures found c.definitions.invariant.so_far);
    }

pub returns : goal.returns
returns c =
    is_done (map definition_with_notes c.definitions.definitions.items) c.definitions.reader c.args.reader.now.1 c.in_default.ensures c.definitions.invariant.fresh c.definitions.invariant.so_far
