-- Three and four words name the command of their words.
use Rattle.std.proofs.Common.{◌≡◌, ℕ, List, [], ◌∷◌, length, get_or, map, ap, ap₂, ◌∙◌, arith}
use Rattle.std.specs.Prelude.{String, string_bytes}
use Rattle.std.specs.declared.alloc.Global.{Global}
use Rattle.editstore_main.specs.StoreOrders.{store_order_of, two_words, three_words}

pub order_of_three : (xs : List (String Global)) (x y : String Global) (w k : List ℕ) → length xs ≡ 3 → x ≡ get_or xs 1 x → y ≡ get_or xs 2 y → w ≡ string_bytes x → k ≡ string_bytes y
    → two_words w k ≡ store_order_of (map string_bytes xs)
order_of_three [] x y w k three first second is also = absurd (omega (arith, three))
order_of_three (m ∷ []) x y w k three first second is also = absurd (omega (arith, three))
order_of_three (m ∷ v ∷ []) x y w k three first second is also = absurd (omega (arith, three))
order_of_three (m ∷ v ∷ z ∷ []) x y w k three first second is also = ap₂ two_words (is ∙ ap string_bytes first) (also ∙ ap string_bytes second)
order_of_three (m ∷ v ∷ z ∷ u ∷ xs) x y w k three first second is also = absurd (omega (arith, three))

pub order_of_four : (xs : List (String Global)) (x y z : String Global) (w k n : List ℕ) → length xs ≡ 4 → x ≡ get_or xs 1 x → y ≡ get_or xs 2 y → z ≡ get_or xs 3 z
    → w ≡ string_bytes x → k ≡ string_bytes y → n ≡ string_bytes z → three_words w k n ≡ store_order_of (map string_bytes xs)
order_of_four [] x y z w k n four first second third is also last = absurd (omega (arith, four))
order_of_four (m ∷ []) x y z w k n four first second third is also last = absurd (omega (arith, four))
order_of_four (m ∷ a ∷ []) x y z w k n four first second third is also last = absurd (omega (arith, four))
order_of_four (m ∷ a ∷ b ∷ []) x y z w k n four first second third is also last = absurd (omega (arith, four))
order_of_four (m ∷ a ∷ b ∷ c ∷ []) x y z w k n four first second third is also last =
    ap₂ (λ s t. three_words s t n) (is ∙ ap string_bytes first) (also ∙ ap string_bytes second) ∙ ap (three_words (string_bytes a) (string_bytes b)) (last ∙ ap string_bytes third)
order_of_four (m ∷ a ∷ b ∷ c ∷ d ∷ xs) x y z w k n four first second third is also last = absurd (omega (arith, four))
