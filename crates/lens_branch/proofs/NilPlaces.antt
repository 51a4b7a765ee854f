-- The complement that keeps nothing, put where it was already.
use Rattle.std.proofs.Common.{◌≡◌, ℕ, sym, ap, ◌∙◌}
use Rattle.std.specs.Prelude.{slice_set}
use Rattle.std.proofs.lemmas.List.{set-get_or}
use Rattle.lens_core.specs.Complements.{CompTree, CompTrees, nil, comps_of, comp_list}
use Rattle.lens_core.specs.Translation.{comp_at, put_comp}
use Rattle.lens_core.proofs.ComplementTrees.{comps_of-comp_list}

pub put_nil : (cs : CompTrees) (i : ℕ) (old new : CompTree) → old ≡ comp_at cs i → old ≡ nil → new ≡ nil → cs ≡ put_comp cs i new
put_nil cs i old new here is also =
    sym (ap (λ c. comps_of (slice_set (comp_list cs) i c)) (also ∙ sym is ∙ here) ∙ ap comps_of (set-get_or (comp_list cs) i nil) ∙ comps_of-comp_list cs)
