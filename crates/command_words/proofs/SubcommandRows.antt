-- What clap stores of a subcommand, as order_of_match reads it.
use Rattle.std.proofs.Common.{◌≡◌, ℕ, List, false, not, true≢false, Option, Some, None, codes, option_map, cond, bytes_eq, refl, ne_eqb}
use Rattle.std.specs.Prelude.{Box}
use Rattle.std.specs.Box.{box_value}
use Rattle.clap.specs.Walk.{Text, Row, rows_of}
use Rattle.clap.specs.Simple.{subcommand_rows}
use Rattle.clap.specs.Matches.{first_value}
use Rattle.clap.specs.declared.parser.matches.Found.{Found}
use Rattle.clap.specs.declared.parser.matches.ArgMatches.TheViews.{out-SubCommand}
use Rattle.clap.specs.declared.parser.matches.SubCommand.{SubCommand}
use Rattle.clap.proofs.WalkLemmas.{first_value-rows}
use Rattle.command_words.specs.Matches.{gen_of_values, undo_of_value, order_of_rows, order_of_match}
use Rattle.texts.proofs.Tests.{true_by_not}

pub name_of_rows : {Z : Type 0} (o : Option (Box SubCommand Z)) → option_map (λ b. (out-SubCommand (box_value b)).name.now) o ≡ option_map (λ p. p.0) (subcommand_rows o)
name_of_rows None = refl
name_of_rows (Some b) = refl

pair_of : (o : Option (Text × List Row)) (a : Text) (b : List Row) → Some a ≡ option_map (λ p. p.0) o → Some b ≡ option_map (λ p. p.1) o → o ≡ Some (a, b)
pair_of None a b h k = cc
pair_of (Some p) a b h k = let e : a ≡ p.0 = cc in let f : b ≡ p.1 = cc in rw (e, f) refl

-- the rows of the command with this name, where it is the second of n words
pub matches_of : (n : ℕ) (word name : Text) (o : Option (Text × List Row)) (f : Found) → Some name ≡ option_map (λ p. p.0) o → Some (rows_of f) ≡ option_map (λ p. p.1) o → false ≡ not (bytes_eq name word)
    → order_of_rows n name (rows_of f) ≡ order_of_match n word o
matches_of n word name o f named rows same =
    rw (pair_of o name (rows_of f) named rows, true_by_not (bytes_eq name word) same) refl

pub gen_matches : (n : ℕ) (name : Text) (f : Found) → (n ≡ 2 → ⊥) → (n ≡ 3 → ⊥)
    → cond (bytes_eq name (codes "gen")) (gen_of_values (first_value f (codes "count")) (first_value f (codes "seed"))) None ≡ order_of_rows n name (rows_of f)
gen_matches n name f two three = rw (ne_eqb n 2 two, ne_eqb n 3 three, first_value-rows f (codes "count"), first_value-rows f (codes "seed")) refl

pub undo_matches : (n : ℕ) (name : Text) (f : Found) → n ≡ 3
    → cond (bytes_eq name (codes "undo")) (undo_of_value (first_value f (codes "count"))) None ≡ order_of_rows n name (rows_of f)
undo_matches n name f three = rw (three, first_value-rows f (codes "count")) refl
