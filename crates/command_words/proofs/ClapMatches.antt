-- What clap makes of two and of four words.
use Rattle.std.proofs.Common.{◌≡◌, ℕ, List, [], ◌∷◌, Bool, true, false, Option, Some, None, codes, length, option_map, cond, bytes_eq, refl, sym, ap, ◌∙◌, subst, arith, get_or}
use Rattle.clap.specs.Lexer.{long_of, short_of}
use Rattle.clap.specs.Walk.{Text, Row, first_of}
use Rattle.clap.specs.Simple.{is_simple, subcommand_of}
use Rattle.clap.specs.Takes.{takes}
use Rattle.clap.proofs.OnLiterals.{clap_on_literals}
use Rattle.command_words.specs.CommandLine.{editlens_app}
use Rattle.std.proofs.lemmas.Slice.Eq.{bytes_eq-Decides}
use Rattle.command_words.specs.Orders.{plain_order, undo_order, gen_order, order_of}
use Rattle.command_words.specs.Matches.{gen_of_values, undo_of_value, order_of_match, begins_with_hyphen}
use Rattle.command_words.specs.declared.orders.Order.{Order}
use Rattle.texts.proofs.Tests.{bytes_eq-is}

-- the word does not begin with a hyphen, so clap reads it as a value
pub record IsPlainWord (w : Text) : Type 0 where
  pub dashes : bytes_eq w (45 ∷ 45 ∷ []) ≡ false
  pub long : long_of w ≡ None
  pub short : short_of w ≡ None

pub plain_word : (w : Text) → begins_with_hyphen w ≡ false → IsPlainWord w
plain_word [] h = record { dashes = refl; long = refl; short = refl }
plain_word (x ∷ xs) h = record { dashes = rw h refl; long = rw h refl; short = rw h refl }

pub simple : is_simple editlens_app ≡ true
simple = refl

none_unless : (o : Option Order) (t : Bool) → ((x : Order) → o ≡ Some x → t ≡ true) → (t ≡ true → ⊥) → o ≡ None
none_unless None t h never = refl
none_unless (Some x) t h never = absurd (never (h x refl))

-- ---- two words

-- clap takes the words, and finds the command of one word
record IsTaken (n w : Text) : Type 0 where
  taken : takes editlens_app (n ∷ w ∷ []) ≡ true
  entered : subcommand_of editlens_app (n ∷ w ∷ []) ≡ Some (w, [])

run_taken : (n : Text) → IsTaken n (codes "run")
unfolding clap_on_literals
run_taken n = record { taken = refl; entered = refl }

check_taken : (n : Text) → IsTaken n (codes "check")
unfolding clap_on_literals
check_taken n = record { taken = refl; entered = refl }

hub_taken : (n : Text) → IsTaken n (codes "hub")
unfolding clap_on_literals
hub_taken n = record { taken = refl; entered = refl }

link_taken : (n : Text) → IsTaken n (codes "link")
unfolding clap_on_literals
link_taken n = record { taken = refl; entered = refl }

init_taken : (n : Text) → IsTaken n (codes "init")
unfolding clap_on_literals
init_taken n = record { taken = refl; entered = refl }

apply_taken : (n : Text) → IsTaken n (codes "apply")
unfolding clap_on_literals
apply_taken n = record { taken = refl; entered = refl }

show_taken : (n : Text) → IsTaken n (codes "show")
unfolding clap_on_literals
show_taken n = record { taken = refl; entered = refl }

verify_taken : (n : Text) → IsTaken n (codes "verify")
unfolding clap_on_literals
verify_taken n = record { taken = refl; entered = refl }

pack_taken : (n : Text) → IsTaken n (codes "pack")
unfolding clap_on_literals
pack_taken n = record { taken = refl; entered = refl }

import_taken : (n : Text) → IsTaken n (codes "import")
unfolding clap_on_literals
import_taken n = record { taken = refl; entered = refl }

-- what holds of this text, and of each other one, holds of all
one_or_other : (P : Text → Type 0) (s w : Text) → P s → (bytes_eq w s ≡ false → P w) → P w
one_or_other P s w this other = by (bytes_eq w s) refl
  where
    by : (b : Bool) → bytes_eq w s ≡ b → P w
    by true is = subst P (sym (bytes_eq-is w s is)) this
    by false is = other is

-- what holds of each command of one word, and of each text that is none, holds of all texts
each_plain : (n : Text) (P : Text → Type 0) → ((w : Text) → IsTaken n w → P w) → (w : Text) → (plain_order w ≡ None → P w) → P w
each_plain n P command w none =
    one_or_other P (codes "run") w (command (codes "run") (run_taken n)) (λ h1.
    one_or_other P (codes "check") w (command (codes "check") (check_taken n)) (λ h2.
    one_or_other P (codes "hub") w (command (codes "hub") (hub_taken n)) (λ h3.
    one_or_other P (codes "link") w (command (codes "link") (link_taken n)) (λ h4.
    one_or_other P (codes "init") w (command (codes "init") (init_taken n)) (λ h5.
    one_or_other P (codes "apply") w (command (codes "apply") (apply_taken n)) (λ h6.
    one_or_other P (codes "show") w (command (codes "show") (show_taken n)) (λ h7.
    one_or_other P (codes "verify") w (command (codes "verify") (verify_taken n)) (λ h8.
    one_or_other P (codes "pack") w (command (codes "pack") (pack_taken n)) (λ h9.
    one_or_other P (codes "import") w (command (codes "import") (import_taken n)) (λ h10.
    none (rw (h1, h2, h3, h4, h5, h6, h7, h8, h9, h10) refl)))))))))))

-- if the second word is not a command of one word, no subcommand gives a command
other_two : (w : Text) (o : Option (Text × List Row)) → plain_order w ≡ None → order_of_match 2 w o ≡ None
other_two w None none = refl
other_two w (Some p) none = by (bytes_eq p.0 w) refl
  where
    by : (b : Bool) → bytes_eq p.0 w ≡ b → cond b (plain_order p.0) None ≡ None
    by true is = ap plain_order (bytes_eq-is p.0 w is) ∙ none
    by false is = refl

command_found : (n w : Text) → IsTaken n w → order_of_match 2 w (subcommand_of editlens_app (n ∷ w ∷ [])) ≡ plain_order w
command_found n w t = ap (order_of_match 2 w) t.entered ∙ ap (λ b. cond b (plain_order w) None) ((bytes_eq-Decides w w).1 refl)

pub two_found : (n w : Text) → order_of_match 2 w (subcommand_of editlens_app (n ∷ w ∷ [])) ≡ plain_order w
two_found n w =
    each_plain n (λ v. order_of_match 2 v (subcommand_of editlens_app (n ∷ v ∷ [])) ≡ plain_order v) (command_found n) w
    (λ none. other_two w _ none ∙ sym none)

taken_by : (n w : Text) (o : Order) → plain_order w ≡ Some o → takes editlens_app (n ∷ w ∷ []) ≡ true
taken_by n w o =
    each_plain n (λ v. plain_order v ≡ Some o → takes editlens_app (n ∷ v ∷ []) ≡ true) (λ v t h. t.taken) w
    (λ none h. cc)

pub two_refused : (ws : List Text) → length ws ≡ 2 → (takes editlens_app ws ≡ true → ⊥) → order_of ws ≡ None
two_refused [] two never = absurd (omega (arith, two))
two_refused (n ∷ []) two never = absurd (omega (arith, two))
two_refused (n ∷ v ∷ []) two never = none_unless (plain_order v) _ (λ x h. taken_by n v x h) never
two_refused (n ∷ v ∷ x ∷ ws) two never = absurd (omega (arith, two))

-- ---- three words

abbrev three_order : Text → Text → Option Order
three_order w a = cond (bytes_eq w (codes "undo")) (undo_order a) None

undo_taken : (n a : Text) → IsPlainWord a → takes editlens_app (n ∷ codes "undo" ∷ a ∷ []) ≡ true
unfolding clap_on_literals
undo_taken n a p = rw (p.dashes, p.long, p.short) refl

undo_entered : (n a : Text) → IsPlainWord a → option_map {U = Text × Option Text} (λ p. (p.0, first_of (codes "count") p.1)) (subcommand_of editlens_app (n ∷ codes "undo" ∷ a ∷ [])) ≡ Some (codes "undo", Some a)
unfolding clap_on_literals
undo_entered n a p = rw (p.dashes, p.long, p.short) refl

-- if the second word is not this one, no subcommand gives a command of it
other_three : (w : Text) (o : Option (Text × List Row)) → bytes_eq w (codes "undo") ≡ false → order_of_match 3 w o ≡ None
other_three w None apart = refl
other_three w (Some p) apart = by (bytes_eq p.0 w) refl
  where
    by : (b : Bool) → bytes_eq p.0 w ≡ b → cond b (cond (bytes_eq p.0 (codes "undo")) (undo_of_value (first_of (codes "count") p.1)) None) None ≡ None
    by true is = ap (λ c. cond c (undo_of_value (first_of (codes "count") p.1)) None) (ap (λ v. bytes_eq v (codes "undo")) (bytes_eq-is p.0 w is) ∙ apart)
    by false is = refl

-- a subcommand `undo` with a value gives the command of this value
undo_at : (o : Option (Text × List Row)) (a : Text) → option_map {U = Text × Option Text} (λ p. (p.0, first_of (codes "count") p.1)) o ≡ Some (codes "undo", Some a) → order_of_match 3 (codes "undo") o ≡ undo_order a
undo_at None a h = cc
undo_at (Some p) a h =
    let e : (p.0, first_of (codes "count") p.1) ≡ (codes "undo", Some a) = cc in
    let name = ap (λ (q : Text × Option Text). q.0) e in
    let count = ap (λ (q : Text × Option Text). q.1) e in
    rw (name, count) refl

pub three_found : (n w a : Text) → IsPlainWord a → (r : Bool) → bytes_eq w (codes "undo") ≡ r → order_of_match 3 w (subcommand_of editlens_app (n ∷ w ∷ a ∷ [])) ≡ three_order w a
three_found n w a p true undo = subst (λ v. order_of_match 3 v (subcommand_of editlens_app (n ∷ v ∷ a ∷ [])) ≡ three_order v a) (sym (bytes_eq-is w (codes "undo") undo)) (undo_at _ a (undo_entered n a p))
three_found n w a p false undo = other_three w _ undo ∙ rw undo refl

three_taken : (n w a : Text) → IsPlainWord a → (o : Order) (r : Bool) → bytes_eq w (codes "undo") ≡ r → three_order w a ≡ Some o → takes editlens_app (n ∷ w ∷ a ∷ []) ≡ true
three_taken n w a p o true undo h = ap (λ v. takes editlens_app (n ∷ v ∷ a ∷ [])) (bytes_eq-is w (codes "undo") undo) ∙ undo_taken n a p
three_taken n w a p o false undo h = let none : three_order w a ≡ None = rw undo refl in cc

pub three_refused : (ws : List Text) (a : Text) → length ws ≡ 3 → a ≡ get_or ws 2 a → begins_with_hyphen a ≡ false → (takes editlens_app ws ≡ true → ⊥) → order_of ws ≡ None
three_refused [] a three ia pa never = absurd (omega (arith, three))
three_refused (n ∷ []) a three ia pa never = absurd (omega (arith, three))
three_refused (n ∷ v ∷ []) a three ia pa never = absurd (omega (arith, three))
three_refused (n ∷ v ∷ x ∷ []) a three ia pa never = none_unless (three_order v x) _ (λ o h. three_taken n v x (plain_word x (ap begins_with_hyphen (sym ia) ∙ pa)) o _ refl h) never
three_refused (n ∷ v ∷ x ∷ y ∷ ws) a three ia pa never = absurd (omega (arith, three))

-- ---- four words

abbrev GenRow : Type 0
GenRow = Text × Option Text × Option Text

gen_taken : (n a b : Text) → IsPlainWord a → IsPlainWord b → takes editlens_app (n ∷ codes "gen" ∷ a ∷ b ∷ []) ≡ true
unfolding clap_on_literals
gen_taken n a b p q = rw (p.dashes, p.long, p.short, q.dashes, q.long, q.short) refl

gen_entered : (n a b : Text) → IsPlainWord a → IsPlainWord b → option_map {U = GenRow} (λ p. (p.0, first_of (codes "count") p.1, first_of (codes "seed") p.1)) (subcommand_of editlens_app (n ∷ codes "gen" ∷ a ∷ b ∷ [])) ≡ Some (codes "gen", Some a, Some b)
unfolding clap_on_literals
gen_entered n a b p q = rw (p.dashes, p.long, p.short, q.dashes, q.long, q.short) refl

abbrev four_order : Text → Text → Text → Option Order
four_order w a b = cond (bytes_eq w (codes "gen")) (gen_order a b) None

other_four : (w : Text) (o : Option (Text × List Row)) → bytes_eq w (codes "gen") ≡ false → order_of_match 4 w o ≡ None
other_four w None apart = refl
other_four w (Some p) apart = by (bytes_eq p.0 w) refl
  where
    by : (b : Bool) → bytes_eq p.0 w ≡ b → cond b (cond (bytes_eq p.0 (codes "gen")) (gen_of_values (first_of (codes "count") p.1) (first_of (codes "seed") p.1)) None) None ≡ None
    by true is = ap (λ c. cond c (gen_of_values (first_of (codes "count") p.1) (first_of (codes "seed") p.1)) None) (ap (λ v. bytes_eq v (codes "gen")) (bytes_eq-is p.0 w is) ∙ apart)
    by false is = refl

-- a subcommand `gen` with two values gives the command of these values
gen_at : (o : Option (Text × List Row)) (a b : Text) → option_map {U = GenRow} (λ p. (p.0, first_of (codes "count") p.1, first_of (codes "seed") p.1)) o ≡ Some (codes "gen", Some a, Some b) → order_of_match 4 (codes "gen") o ≡ gen_order a b
gen_at None a b h = cc
gen_at (Some p) a b h =
    let e : (p.0, first_of (codes "count") p.1, first_of (codes "seed") p.1) ≡ (codes "gen", Some a, Some b) = cc in
    let name = ap (λ (q : GenRow). q.0) e in
    let count = ap (λ (q : GenRow). q.1) e in
    let seed = ap (λ (q : GenRow). q.2) e in
    rw (name, count, seed) refl

pub four_found : (n w a b : Text) → IsPlainWord a → IsPlainWord b → (r : Bool) → bytes_eq w (codes "gen") ≡ r → order_of_match 4 w (subcommand_of editlens_app (n ∷ w ∷ a ∷ b ∷ [])) ≡ four_order w a b
four_found n w a b p q true gen = subst (λ v. order_of_match 4 v (subcommand_of editlens_app (n ∷ v ∷ a ∷ b ∷ [])) ≡ four_order v a b) (sym (bytes_eq-is w (codes "gen") gen)) (gen_at _ a b (gen_entered n a b p q))
four_found n w a b p q false gen = other_four w _ gen ∙ rw gen refl

four_taken : (n w a b : Text) → IsPlainWord a → IsPlainWord b → (o : Order) (r : Bool) → bytes_eq w (codes "gen") ≡ r → four_order w a b ≡ Some o → takes editlens_app (n ∷ w ∷ a ∷ b ∷ []) ≡ true
four_taken n w a b p q o true gen h = ap (λ v. takes editlens_app (n ∷ v ∷ a ∷ b ∷ [])) (bytes_eq-is w (codes "gen") gen) ∙ gen_taken n a b p q
four_taken n w a b p q o false gen h = let none : four_order w a b ≡ None = rw gen refl in cc

pub four_refused : (ws : List Text) (a b : Text) → length ws ≡ 4 → a ≡ get_or ws 2 a → b ≡ get_or ws 3 b → begins_with_hyphen a ≡ false → begins_with_hyphen b ≡ false → (takes editlens_app ws ≡ true → ⊥) → order_of ws ≡ None
four_refused [] a b four ia ib pa pb never = absurd (omega (arith, four))
four_refused (n ∷ []) a b four ia ib pa pb never = absurd (omega (arith, four))
four_refused (n ∷ v ∷ []) a b four ia ib pa pb never = absurd (omega (arith, four))
four_refused (n ∷ v ∷ x ∷ []) a b four ia ib pa pb never = absurd (omega (arith, four))
four_refused (n ∷ v ∷ x ∷ y ∷ []) a b four ia ib pa pb never = none_unless (four_order v x y) _ (λ o h. four_taken n v x y (plain_word x (ap begins_with_hyphen (sym ia) ∙ pa)) (plain_word y (ap begins_with_hyphen (sym ib) ∙ pb)) o _ refl h) never
four_refused (n ∷ v ∷ x ∷ y ∷ z ∷ ws) a b four ia ib pa pb never = absurd (omega (arith, four))
