use Rattle.std.proofs.Common.{◌<◌, length, refl, rules}
use Rattle.embed_session.proofs.CutTexts.{onto_nothing}
use Rattle.embed_session.proofs.records.take_last.Goals as goal

pub returns-in_ok-push : goal.returns-in_ok-push
returns-in_ok-push c =
    let some : 0 < length c.args.begun.items = search rules in
    rw (c.in_ok-push.ensures.items, c.from_vec.ensures, onto_nothing c.args.begun.items some) refl
