use Rattle.std.proofs.Common.{◌≡◌, map}
use Rattle.std.proofs.lemmas.Result.{IfOk-weaker}
use Rattle.law_images.specs.Patterns.{pattern_tree, patterns_tree, patterns_from}
use Rattle.lens_check.specs.PartLists.{trees_in, trees_of}
use Rattle.lens_check.proofs.PartRecords.{shared_is}
use Rattle.lens_check.proofs.image_part_left.shared_list.Goals as goal

pub returns : goal.returns
returns c =
    IfOk-weaker c.from_vec.result (λ ps. patterns_tree ps ≡ patterns_from (map pattern_tree c.args.list.items)) (λ ps. trees_of ps ≡ trees_in c.args.list)
    (λ ps e. shared_is ps c.args.list e) c.from_vec.ensures
