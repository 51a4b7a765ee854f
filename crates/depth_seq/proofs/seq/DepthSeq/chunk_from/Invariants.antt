use Rattle.depth_seq.proofs.seq.DepthSeq.chunk_from.Given as goal

abbrev pub ghosts-chunk_of : goal.ghosts-chunk_of
ghosts-chunk_of a = record { name = a.blank.name; parts = a.blank.parts }
