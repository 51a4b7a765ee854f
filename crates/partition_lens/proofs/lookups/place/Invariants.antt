use Rattle.partition_lens.proofs.lookups.place.Given as goal

abbrev pub ghosts-counted_place : goal.ghosts-counted_place
ghosts-counted_place a = record { name = a.blank.name; parts = a.blank.parts }
