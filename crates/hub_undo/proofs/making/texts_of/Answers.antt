use Rattle.std.proofs.Common.{ap}
use Rattle.view_hub.specs.Views.{hub_carried_tree, hub_tree}
use Rattle.hub_run.specs.RunStates.{forms_of_lenses}
use Rattle.hub_undo.proofs.Makings.{texts_same}
use Rattle.hub_undo.proofs.making.texts_of.Goals as goal

pub returns : goal.returns
returns c =
    let old = c.args.hub.now in
    let new = c.words_of.new.hub in
    let forms = ap forms_of_lenses c.in_ok-words.ensures.lenses in
    λ r is.
    let words = c.in_ok-words.ensures.words r is in
    texts_same (forms_of_lenses old.lenses) (forms_of_lenses new.lenses) (hub_tree old.parts) (hub_tree new.parts) r (hub_carried_tree c.in_ok-words.words) c.in_ok-payload.payload c.in_ok-lines.lines
    forms c.in_ok-words.ensures.parts words.0 words.1 c.in_ok-payload.ensures.text c.in_ok-payload.ensures.reads_back c.in_ok-payload.ensures.ints c.in_ok-lines.ensures
