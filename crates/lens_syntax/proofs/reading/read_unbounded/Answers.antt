use Rattle.std.proofs.Common.{Ok, Err}
use Rattle.program_terms.specs.Views.{program_tree}
use Rattle.program_reader.specs.Causes.{not_a_program, unknown_name, repeated_name}
use Rattle.lens_syntax.proofs.GrammarAnswers.{tokens_tell, never_ended}
use Rattle.lens_syntax.proofs.reading.read_unbounded.Goals as goal

pub unreachable-requires : goal.unreachable-requires
unreachable-requires c =
    let ended = rw c.in-Err-Ended.field-0-is at c.in-Err-Ended.ensures in
    never_ended c.args.text.now c.in_ok-tokens.tokens c.in_ok-tokens.ensures ended

pub returns-in-Ok-clause-tells : goal.returns-in-Ok-clause-tells
returns-in-Ok-clause-tells c = tokens_tell c.args.text.now c.in_ok-tokens.tokens (Ok (program_tree c.in-Ok.program)) c.in_ok-tokens.ensures c.in-Ok.ensures

pub returns-in-Err-NotAProgram-clause-tells : goal.returns-in-Err-NotAProgram-clause-tells
returns-in-Err-NotAProgram-clause-tells c =
    let found = rw c.in-Err-NotAProgram.field-0-is at c.in-Err-NotAProgram.ensures in
    tokens_tell c.args.text.now c.in_ok-tokens.tokens (Err (not_a_program c.in-Err-NotAProgram.at)) c.in_ok-tokens.ensures found

pub returns-in-Err-UnknownName-clause-tells : goal.returns-in-Err-UnknownName-clause-tells
returns-in-Err-UnknownName-clause-tells c =
    let found = rw c.in-Err-UnknownName.field-0-is at c.in-Err-UnknownName.ensures in
    tokens_tell c.args.text.now c.in_ok-tokens.tokens (Err (unknown_name c.in-Err-UnknownName.at)) c.in_ok-tokens.ensures found

pub returns-in-Err-RepeatedName-clause-tells : goal.returns-in-Err-RepeatedName-clause-tells
returns-in-Err-RepeatedName-clause-tells c =
    let found = rw c.in-Err-RepeatedName.field-0-is at c.in-Err-RepeatedName.ensures in
    tokens_tell c.args.text.now c.in_ok-tokens.tokens (Err (repeated_name c.in-Err-RepeatedName.at)) c.in_ok-tokens.ensures found
