use Rattle.lens_check.proofs.image_part_tags.rank.Given as goal

abbrev pub ghosts-counted_rank : goal.ghosts-counted_rank
ghosts-counted_rank a = record { name = a.blank.name; parts = a.blank.parts }
