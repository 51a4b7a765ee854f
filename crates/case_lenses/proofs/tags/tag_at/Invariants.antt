use Rattle.case_lenses.proofs.tags.tag_at.Given as goal

abbrev pub ghosts-counted_tag_at : goal.ghosts-counted_tag_at
ghosts-counted_tag_at a = record { name = a.blank.name; parts = a.blank.parts }
