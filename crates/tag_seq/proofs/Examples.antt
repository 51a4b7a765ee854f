-- The definitions on worked examples.
use Rattle.std.specs.Prelude.{◌≡◌, ℕ, List, [], ◌∷◌, Some, None, refl, true, false}
use Rattle.tag_seq.specs.Tags.{count, rank, place, are_below, moved}
use Rattle.tag_seq.specs.Numbers.{number, merged, reduced}

abbrev example : List ℕ
example = 7 ∷ 8 ∷ 7 ∷ 7 ∷ []

two_before_the_third_place : rank 7 3 example ≡ 2
two_before_the_third_place = refl

its_own_place_is_not_counted : rank 7 0 example ≡ 0
its_own_place_is_not_counted = refl

second_occurrence : place 7 1 example ≡ Some 2
second_occurrence = refl

no_fourth_occurrence : place 7 3 example ≡ None
no_fourth_occurrence = refl

the_bound_is_not_below_itself : are_below 8 example ≡ false
the_bound_is_not_below_itself = refl

all_below_nine : are_below 9 example ≡ true
all_below_nine = refl

-- the place that it is put at counts in what is left
moved_to_the_end : moved 1 3 example ≡ 7 ∷ 7 ∷ 7 ∷ 8 ∷ []
moved_to_the_end = refl

one_pair_for_a_tag_of_both : merged ((3, 1) ∷ (5, 2) ∷ []) ((4, 1) ∷ (5, 3) ∷ []) ≡ (3, 1) ∷ (4, 1) ∷ (5, 5) ∷ []
one_pair_for_a_tag_of_both = refl

no_pair_for_none : reduced ((3, 1) ∷ (5, 2) ∷ []) ((5, 2) ∷ []) ≡ (3, 1) ∷ []
no_pair_for_none = refl

absent_is_zero : number 4 ((3, 1) ∷ (5, 2) ∷ []) ≡ 0
absent_is_zero = refl
