-- What clap finds in two, three and four words is the command that they name.
use Rattle.std.proofs.Common.{◌≡◌, ℕ, List, [], ◌∷◌, true, false, ◌<◌, Option, None, String, Global, map, length, get_or, string_bytes, refl, sym, ap, ◌∙◌, arith}
use Rattle.std.proofs.lemmas.List.{length-map, get_or-map}
use Rattle.clap.specs.Walk.{Text}
use Rattle.clap.specs.Simple.{subcommand_of}
use Rattle.clap.specs.Takes.{takes}
use Rattle.command_words.specs.CommandLine.{editlens_app}
use Rattle.command_words.specs.Orders.{order_of}
use Rattle.command_words.specs.Matches.{order_of_match, begins_with_hyphen}
use Rattle.command_words.specs.declared.orders.Order.{Order}
use Rattle.command_words.proofs.ClapMatches.{two_found, two_refused, three_found, three_refused, four_found, four_refused, plain_word}

abbrev pub texts_of : List (String Global) → List Text
texts_of xs = map string_bytes xs

pub order_of_two : (xs : List (String Global)) (x : String Global) (w : Text) (o : Option Order) → length xs ≡ 2 → x ≡ get_or xs 1 x → w ≡ string_bytes x → o ≡ order_of_match (length xs) w (subcommand_of editlens_app (texts_of xs)) → order_of (texts_of xs) ≡ o
order_of_two [] x w o two ix iw h = absurd (omega (arith, two))
order_of_two (m ∷ []) x w o two ix iw h = absurd (omega (arith, two))
order_of_two (m ∷ v ∷ []) x w o two ix iw h =
    sym (h ∙ ap (λ u. order_of_match 2 u (subcommand_of editlens_app (string_bytes m ∷ string_bytes v ∷ []))) (iw ∙ ap string_bytes ix) ∙ two_found (string_bytes m) (string_bytes v))
order_of_two (m ∷ v ∷ y ∷ xs) x w o two ix iw h = absurd (omega (arith, two))

pub order_of_three : (xs : List (String Global)) (x a : String Global) (w : Text) (o : Option Order) → length xs ≡ 3 → x ≡ get_or xs 1 x → a ≡ get_or xs 2 a → w ≡ string_bytes x → begins_with_hyphen (string_bytes a) ≡ false → o ≡ order_of_match (length xs) w (subcommand_of editlens_app (texts_of xs)) → order_of (texts_of xs) ≡ o
order_of_three [] x a w o three ix ia iw pa h = absurd (omega (arith, three))
order_of_three (m ∷ []) x a w o three ix ia iw pa h = absurd (omega (arith, three))
order_of_three (m ∷ v ∷ []) x a w o three ix ia iw pa h = absurd (omega (arith, three))
order_of_three (m ∷ v ∷ y ∷ []) x a w o three ix ia iw pa h =
    let plain = plain_word (string_bytes y) (ap (λ s. begins_with_hyphen (string_bytes s)) (sym ia) ∙ pa) in
    sym (h ∙ ap (λ u. order_of_match 3 u (subcommand_of editlens_app (string_bytes m ∷ string_bytes v ∷ string_bytes y ∷ []))) (iw ∙ ap string_bytes ix)
    ∙ three_found (string_bytes m) (string_bytes v) (string_bytes y) plain _ refl)
order_of_three (m ∷ v ∷ y ∷ z ∷ xs) x a w o three ix ia iw pa h = absurd (omega (arith, three))

pub order_of_four : (xs : List (String Global)) (x a b : String Global) (w : Text) (o : Option Order) → length xs ≡ 4 → x ≡ get_or xs 1 x → a ≡ get_or xs 2 a → b ≡ get_or xs 3 b → w ≡ string_bytes x → begins_with_hyphen (string_bytes a) ≡ false → begins_with_hyphen (string_bytes b) ≡ false → o ≡ order_of_match (length xs) w (subcommand_of editlens_app (texts_of xs)) → order_of (texts_of xs) ≡ o
order_of_four [] x a b w o four ix ia ib iw pa pb h = absurd (omega (arith, four))
order_of_four (m ∷ []) x a b w o four ix ia ib iw pa pb h = absurd (omega (arith, four))
order_of_four (m ∷ v ∷ []) x a b w o four ix ia ib iw pa pb h = absurd (omega (arith, four))
order_of_four (m ∷ v ∷ y ∷ []) x a b w o four ix ia ib iw pa pb h = absurd (omega (arith, four))
order_of_four (m ∷ v ∷ y ∷ z ∷ []) x a b w o four ix ia ib iw pa pb h =
    let plain_a = plain_word (string_bytes y) (ap (λ s. begins_with_hyphen (string_bytes s)) (sym ia) ∙ pa) in
    let plain_b = plain_word (string_bytes z) (ap (λ s. begins_with_hyphen (string_bytes s)) (sym ib) ∙ pb) in
    sym (h ∙ ap (λ u. order_of_match 4 u (subcommand_of editlens_app (string_bytes m ∷ string_bytes v ∷ string_bytes y ∷ string_bytes z ∷ []))) (iw ∙ ap string_bytes ix)
    ∙ four_found (string_bytes m) (string_bytes v) (string_bytes y) (string_bytes z) plain_a plain_b _ refl)
order_of_four (m ∷ v ∷ y ∷ z ∷ u ∷ xs) x a b w o four ix ia ib iw pa pb h = absurd (omega (arith, four))

pub none_of_two : (xs : List (String Global)) → length xs ≡ 2 → (takes editlens_app (texts_of xs) ≡ true → ⊥) → order_of (texts_of xs) ≡ None
none_of_two xs two never = two_refused (texts_of xs) (simp length-map two) never

get_text : (xs : List (String Global)) (i : ℕ) (a : String Global) → i < length xs → a ≡ get_or xs i a → string_bytes a ≡ get_or (texts_of xs) i (string_bytes a)
get_text xs i a within is = ap string_bytes is ∙ sym (get_or-map string_bytes xs i a (string_bytes a) within)

pub none_of_three : (xs : List (String Global)) (a : String Global) → length xs ≡ 3 → a ≡ get_or xs 2 a → begins_with_hyphen (string_bytes a) ≡ false → (takes editlens_app (texts_of xs) ≡ true → ⊥) → order_of (texts_of xs) ≡ None
none_of_three xs a three ia pa never =
    three_refused (texts_of xs) (string_bytes a) (simp length-map three) (get_text xs 2 a (omega (arith, three)) ia) pa never

pub none_of_four : (xs : List (String Global)) (a b : String Global) → length xs ≡ 4 → a ≡ get_or xs 2 a → b ≡ get_or xs 3 b → begins_with_hyphen (string_bytes a) ≡ false → begins_with_hyphen (string_bytes b) ≡ false → (takes editlens_app (texts_of xs) ≡ true → ⊥) → order_of (texts_of xs) ≡ None
none_of_four xs a b four ia ib pa pb never =
    four_refused (texts_of xs) (string_bytes a) (string_bytes b) (simp length-map four) (get_text xs 2 a (omega (arith, four)) ia) (get_text xs 3 b (omega (arith, four)) ib) pa pb never
