use Rattle.case_tags.proofs.main.Given as goal

abbrev pub ghosts-differences : goal.ghosts-differences
ghosts-differences a = record { name = a.blank.name; parts = a.blank.parts }
