-- The missing complements of the arms of alternatives, as a list.
use Rattle.std.proofs.Common.{◌≡◌, ℕ, ◌≤◌, List, [], ◌∷◌, length, map, take, refl, ap, ◌∙◌}
use Rattle.std.proofs.lemmas.List.{take_all}
use Rattle.lens_forms.specs.Forms.{form_arms_of, arm_tree, form_tree}
use Rattle.lens_forms.specs.declared.form.Form.{Form}
use Rattle.lens_core.specs.Complements.{CompTree, more_comps, comps_of, missing}
use Rattle.lens_branch.specs.AlternativeSteps.{arm_starts}

-- that of one arm
abbrev pub start_of : List ℕ × List ℕ × Form → CompTree
start_of a = missing (form_tree a.2)

pub starts_are : (arms : List (List ℕ × List ℕ × Form)) → comps_of (map start_of arms) ≡ arm_starts (form_arms_of (map arm_tree arms))
starts_are [] = refl
starts_are (a ∷ arms) = ap (more_comps (start_of a)) (starts_are arms)

-- once every arm is done
pub starts_done : (cs : List CompTree) (arms : List (List ℕ × List ℕ × Form)) (i : ℕ) → length arms ≤ i → cs ≡ map start_of (take i arms)
    → comps_of cs ≡ arm_starts (form_arms_of (map arm_tree arms))
starts_done cs arms i h e = ap comps_of (e ∙ ap (map start_of) (take_all i arms h)) ∙ starts_are arms
