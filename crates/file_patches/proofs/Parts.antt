-- Places that begin alike.
use Rattle.std.proofs.Common.{◌≡◌, ℕ, ◌<◌, ◌≤◌, false, List, [], ◌∷◌, length, drop, length-drop, refl, ap, ◌∙◌, arith}
use Rattle.std.proofs.lemmas.List.{drop_all}
use Rattle.file_patches.specs.Patching.{begins_with}

none_begins : (fs : List (List ℕ)) → 0 < length fs → begins_with fs [] ≡ false
none_begins [] h = absurd (omega (arith, h))
none_begins (f ∷ fs) h = refl

pub begins_ended : (fs ps : List (List ℕ)) (i : ℕ) → i < length fs → length ps ≤ i → begins_with (drop i fs) (drop i ps) ≡ false
begins_ended fs ps i h g =
    ap (begins_with (drop i fs)) (drop_all i ps g) ∙ none_begins (drop i fs) (omega (arith, length-drop i fs, h))
