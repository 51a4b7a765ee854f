use Rattle.lens_check.proofs.PartContents.{content_put}
use Rattle.lens_check.proofs.image_part_left.push_content.Goals as goal

pub returns : goal.returns
returns c =
    content_put c.args.lists.now.items c.args.tag c.args.content c.index_mut.result.now c.push.new.list c.requires c.index_mut.ensures.value c.in_ok-push.ensures
