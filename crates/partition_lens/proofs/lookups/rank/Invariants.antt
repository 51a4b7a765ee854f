use Rattle.partition_lens.proofs.lookups.rank.Given as goal

abbrev pub ghosts-counted_rank : goal.ghosts-counted_rank
ghosts-counted_rank a = record { name = a.blank.name; parts = a.blank.parts }
