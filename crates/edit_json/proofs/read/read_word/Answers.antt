use Rattle.std.proofs.Common.{◌≡◌, Some, None, true, sym, ap, ◌∙◌}
use Rattle.serde_json.specs.View.{view}
use Rattle.edit_module.specs.Views.{word_tree}
use Rattle.edit_json.specs.WordJson.{tree_of_word, word_of_tree, counts_fit}
use Rattle.edit_json.proofs.WritingReadsBack.{again}
use Rattle.edit_json.proofs.ReadingHasTree.{takes}
use Rattle.edit_json.proofs.Reading.{given_some, refused_none}
use Rattle.edit_json.proofs.read.read_word.Goals as goal

pub returns-clause-fits : goal.returns-clause-fits
returns-clause-fits c = given_some word_tree (λ w. counts_fit w ≡ true) c.read.result _ (λ w h. (takes (view c.args.tree.now) w h).1) c.read.ensures

pub returns-clause-tree : goal.returns-clause-tree
returns-clause-tree c = given_some word_tree (λ w. tree_of_word w ≡ view c.args.tree.now) c.read.result _ (λ w h. (takes (view c.args.tree.now) w h).0) c.read.ensures

pub returns-clause-refused : goal.returns-clause-refused
returns-clause-refused c = λ refused w counts numbers is.
    let none = refused_none word_tree c.read.result (word_of_tree (view c.args.tree.now)) refused c.read.ensures in
    let bad : Some w ≡ None = sym (again w counts numbers) ∙ ap word_of_tree is ∙ none in
    cc
