-- Lists of names in which none comes twice.
use Rattle.std.proofs.Common.{◌≡◌, ℕ, true, List, [], ◌∷◌}
use Rattle.std.specs.Prelude.{not}
use Rattle.texts.specs.Keys.{has_name}
use Rattle.texts.proofs.Conjunction.{second}
use Rattle.doc_values.specs.Types.{are_distinct, are_choices}

pub are_distinct-rest : (n : List ℕ) (ns : List (List ℕ)) → are_distinct (n ∷ ns) ≡ true → are_distinct ns ≡ true
are_distinct-rest n ns h = second (not (has_name n ns)) (are_distinct ns) h

pub are_choices-distinct : (ns : List (List ℕ)) → are_choices ns ≡ true → are_distinct ns ≡ true
are_choices-distinct [] h = cc
are_choices-distinct (n ∷ ns) h = h
