use Rattle.std.proofs.Common.{◌∙◌}
use Rattle.clap.specs.Matches.{found_of}
use Rattle.clap.specs.Simple.{subcommand_rows_of}
use Rattle.clap.specs.declared.parser.matches.ArgMatches.TheViews.{out-ArgMatches}
use Rattle.command_words.proofs.SubcommandRows.{matches_of, gen_matches, undo_matches, name_of_rows}
use Rattle.command_words.proofs.reader.order_of_match.Goals as goal

pub returns-then-words-eq3 : goal.returns-then-words-eq3
returns-then-words-eq3 c =
    c.undo_of_match.ensures ∙ undo_matches c.args.words c.in_ok-name.name.now (found_of c.in_ok-name.inner.now) c.if-words-eq3.true
    ∙ matches_of c.args.words c.args.word.now c.in_ok-name.name.now (subcommand_rows_of c.args.matches.now) (found_of c.in_ok-name.inner.now) (c.in_ok-name.ensures.name ∙ name_of_rows (out-ArgMatches c.args.matches.now).subcommand) c.in_ok-name.ensures.rows c.if-ne.ensures

pub returns : goal.returns
returns c =
    c.gen_of_match.ensures ∙ gen_matches c.args.words c.in_ok-name.name.now (found_of c.in_ok-name.inner.now) c.if-words-eq2.false c.if-words-eq3.false
    ∙ matches_of c.args.words c.args.word.now c.in_ok-name.name.now (subcommand_rows_of c.args.matches.now) (found_of c.in_ok-name.inner.now) (c.in_ok-name.ensures.name ∙ name_of_rows (out-ArgMatches c.args.matches.now).subcommand) c.in_ok-name.ensures.rows c.if-ne.ensures
