use Rattle.std.proofs.Common.{◌≡◌, ◌∙◌, map, string_bytes, length, ap, subst}
use Rattle.clap.specs.Simple.{HasMatchesOf}
use Rattle.clap.specs.Takes.{takes}
use Rattle.command_words.specs.Matches.{order_of_match}
use Rattle.command_words.proofs.ClapMatches.{simple}
use Rattle.command_words.proofs.reader.read_by_clap.Goals as goal

pub returns-in-Ok-clause-order : goal.returns-in-Ok-clause-order
returns-in-Ok-clause-order c =
    let found = subst (λ a. HasMatchesOf a (map string_bytes c.args.words.now) c.in-Ok.matches) c.in_ok-command_line.ensures c.in-Ok.ensures.matches in
    c.order_of_match.ensures ∙ ap (order_of_match (length c.args.words.now) c.args.word.now) (found simple).1

pub returns : goal.returns
returns c = record {
  order = tt;
  usage = λ is took. c.in_default.not-OutOfMemory (c.kind.ensures ∙ c.in-Err.ensures.passes (ap (λ a. takes a (map string_bytes c.args.words.now)) c.in_ok-command_line.ensures ∙ took));
}
