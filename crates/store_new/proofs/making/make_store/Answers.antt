use Rattle.store_new.proofs.Appending.{first_ends}
use Rattle.store_new.proofs.making.make_store.Goals as goal

pub fill_log-requires-clause-ends_there : goal.fill_log-requires-clause-ends_there
fill_log-requires-clause-ends_there g c =
    let disk = g.D.Disk in
    first_ends (disk.content c.args.disk.now) (disk.content c.create_log.new.disk) c.in-Ok.ensures.was_empty c.in-Ok.ensures.rest
