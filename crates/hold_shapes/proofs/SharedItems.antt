-- The items and the parts of lists that share.
use Rattle.std.proofs.Common.{◌≡◌, ℕ, ◌+◌, ◌-◌, ◌≤◌, ◌<◌, List, ◌++◌, length, take, drop, get_or, Some, sym, arith}
use Rattle.std.specs.Prelude.{slice_get}
use Rattle.std.proofs.lemmas.List.{length-append, length-take, length-drop, take_rest}
use Rattle.std.proofs.lemmas.Option.{get_or_from_slice_get}
use Rattle.shared_lists.proofs.SplicedLists.{one_more}

pub item-at : {X : Type 0} (xs : List X) (i : ℕ) (x d : X) → slice_get xs i ≡ Some x → x ≡ get_or xs i d
item-at xs i x d e = sym (get_or_from_slice_get xs i x d e)

pub take-end : {X : Type 0} (xs : List X) (i : ℕ) → take (length xs - i) (drop i xs) ≡ drop i xs
take-end xs i = take_rest xs i

pub part-end : (from to : ℕ) → from ≤ to → from + (to - from) ≡ to
part-end from to h = omega arith

pub ruleset item_rules = (item-at)

pub ruleset part_rules = (take-end, part-end, one_more, length-append, length-take, length-drop)
