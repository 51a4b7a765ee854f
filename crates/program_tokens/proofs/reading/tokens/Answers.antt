use Rattle.std.proofs.Common.{◌∙◌, subst}
use Rattle.program_tokens.specs.Tokens.{tokens_of}
use Rattle.program_tokens.proofs.PieceTokens.{Stands, stands, gap_within, token_within, after_gap, after_token, after_bad, after_all}
use Rattle.program_tokens.proofs.reading.tokens.Goals as goal

pub loop-at-preserved-in-Gap : goal.loop-at-preserved-in-Gap
loop-at-preserved-in-Gap c =
    let text = c.args.text.now in
    let found : Stands text c.loop-at.at c.in_ok-others.field-0 = stands text c.loop-at.at c.in_ok-others.field-0 c.loop-at-test.true c.in_ok-others.ensures.piece c.in_ok-others.ensures.within in
    let here = subst (Stands text c.loop-at.at) c.in-Gap.is found in
    record {
      inside = gap_within text c.loop-at.at c.in-Gap.others here;
      whole = after_gap c.loop-at.read (tokens_of text) text c.loop-at.at c.in-Gap.others here c.loop-at.invariant.whole;
    }

pub loop-at-preserved : goal.loop-at-preserved
loop-at-preserved c =
    let text = c.args.text.now in
    let found : Stands text c.loop-at.at c.in_ok-others.field-0 = stands text c.loop-at.at c.in_ok-others.field-0 c.loop-at-test.true c.in_ok-others.ensures.piece c.in_ok-others.ensures.within in
    let here = subst (Stands text c.loop-at.at) c.in-Token.is found in
    record {
      inside = token_within text c.loop-at.at c.in-Token.others c.in-Token.token here;
      whole = rw c.in_ok-push-in-Token.ensures.ok (after_token c.loop-at.read (tokens_of text) text c.loop-at.at c.in-Token.others c.in-Token.token here c.loop-at.invariant.whole);
    }

pub returns-in-Bad : goal.returns-in-Bad
returns-in-Bad c =
    let text = c.args.text.now in
    let found : Stands text c.loop-at.at c.in_ok-others.field-0 = stands text c.loop-at.at c.in_ok-others.field-0 c.loop-at-test.true c.in_ok-others.ensures.piece c.in_ok-others.ensures.within in
    c.in_ok-push-in-Bad.ensures.ok ∙ after_bad c.loop-at.read (tokens_of text) text c.loop-at.at (subst (Stands text c.loop-at.at) c.in-Bad.is found) c.loop-at.invariant.whole

pub returns : goal.returns
returns c =
    let text = c.args.text.now in
    c.in_ok-push.ensures.ok ∙ after_all c.loop-at.read (tokens_of text) text c.loop-at.at c.loop-at-test.false c.loop-at.invariant.inside c.loop-at.invariant.whole
