-- The definitions, tried on small journals.
use Rattle.std.proofs.Common.{◌≡◌, pos, Some, refl}
use Rattle.run_gen.specs.Journal.{next_seed, drawn_from, summary_of}

first_seed : next_seed 0 ≡ 1442695040888963407
first_seed = refl

first_drawn : drawn_from 1442695040888963407 ≡ 167951807
first_drawn = refl

second_seed : next_seed 1442695040888963407 ≡ 1876011003808476466
second_seed = refl

second_drawn : drawn_from 1876011003808476466 ≡ 218396424
second_drawn = refl

-- the first entry always inserts an item on the left, which is a text
one_entry : summary_of 1 18446744073709551615 ≡ Some (record { accepted = 1; refused = 0; names = 1; nums = 0; sum = pos 0 })
one_entry = refl

-- the second entry from the seed 0 inserts a number
two_entries : summary_of 2 0 ≡ Some (record { accepted = 2; refused = 0; names = 1; nums = 1; sum = pos 0 })
two_entries = refl
