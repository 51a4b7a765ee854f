use Rattle.tag_seq.specs.Trees.{tags}
use Rattle.tag_seq.proofs.Ranks.{place_found}
use Rattle.tag_seq.proofs.seq.TagSeq.select.Goals as goal

pub returns-clause-found : goal.returns-clause-found
returns-clause-found g c = rw (c.select.ensures.place, ← c.self.view_is) (place_found c.args.tag c.args.k (tags c.self.inside.root))
