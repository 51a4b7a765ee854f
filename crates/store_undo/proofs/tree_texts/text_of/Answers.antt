use Rattle.std.specs.Prelude.{string_bytes}
use Rattle.serde_json.specs.View.{view}
use Rattle.store_undo.proofs.TreeTexts.{written}
use Rattle.store_undo.proofs.tree_texts.text_of.Goals as goal

pub returns : goal.returns
returns c =
    let made = c.in_ok-text.ensures in
    written (view c.args.tree.now) (string_bytes c.in_ok-text.text) c.requires.whole c.requires.low (made.text c.requires.whole) made.order (made.reads_back c.requires.low)
