use Rattle.tag_seq.proofs.node.making.+repeat.Given as goal

abbrev pub decreases-repeat : goal.decreases-repeat
decreases-repeat l = l.count
