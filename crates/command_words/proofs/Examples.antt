-- The definitions on words that are written out.
use Rattle.std.proofs.Common.{◌≡◌, [], ◌∷◌, Some, None, codes, refl}
use Rattle.command_words.specs.Orders.{order_of}
use Rattle.command_words.specs.declared.orders.Order.TheVariants.{Run, Check, Pack, Gen, Undo}

run_alone : order_of (codes "editlens" ∷ codes "run" ∷ []) ≡ Some Run
run_alone = refl

any_name : order_of ([] ∷ codes "check" ∷ []) ≡ Some Check
any_name = refl

a_store : order_of (codes "editlens" ∷ codes "pack" ∷ []) ≡ Some Pack
a_store = refl

undo_ten : order_of (codes "editlens" ∷ codes "undo" ∷ codes "010" ∷ []) ≡ Some (Undo 10)
undo_ten = refl

undo_none : order_of (codes "editlens" ∷ codes "undo" ∷ codes "0" ∷ []) ≡ None
undo_none = refl

undo_alone : order_of (codes "editlens" ∷ codes "undo" ∷ []) ≡ None
undo_alone = refl

leading_zeros : order_of (codes "editlens" ∷ codes "gen" ∷ codes "002" ∷ codes "0" ∷ []) ≡ Some (Gen 2 0)
leading_zeros = refl

greatest_seed : order_of (codes "editlens" ∷ codes "gen" ∷ codes "1" ∷ codes "18446744073709551615" ∷ []) ≡ Some (Gen 1 18446744073709551615)
greatest_seed = refl

seed_too_great : order_of (codes "editlens" ∷ codes "gen" ∷ codes "1" ∷ codes "18446744073709551616" ∷ []) ≡ None
seed_too_great = refl

count_too_small : order_of (codes "editlens" ∷ codes "gen" ∷ codes "0" ∷ codes "0" ∷ []) ≡ None
count_too_small = refl

count_too_great : order_of (codes "editlens" ∷ codes "gen" ∷ codes "10001" ∷ codes "0" ∷ []) ≡ None
count_too_great = refl

digits_too_many : order_of (codes "editlens" ∷ codes "gen" ∷ codes "000000000000000000001" ∷ codes "0" ∷ []) ≡ None
digits_too_many = refl

seed_missing : order_of (codes "editlens" ∷ codes "gen" ∷ codes "1" ∷ []) ≡ None
seed_missing = refl

no_help : order_of (codes "editlens" ∷ codes "help" ∷ []) ≡ None
no_help = refl

no_words : order_of [] ≡ None
no_words = refl
