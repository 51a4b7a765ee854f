use Rattle.std.proofs.Common.{◌≡◌, refl, ap, ◌∙◌, rules}
use Rattle.lens_core.specs.Complements.{comp_tree, comps_tree, rec_comp}
use Rattle.lens_core.specs.declared.comp.Comp.{Rec, the_lemmas as comp_lemmas}
use Rattle.lens_branch.proofs.NilPlaces.{put_nil}
use Rattle.lens_branch.proofs.record.with_comp.Goals as goal

pub returns-then-are_nil : goal.returns-then-are_nil
returns-then-are_nil c =
    let nils = c.if-are_nil.ensures refl in
    let tree : comp_tree (Rec c.in_ok-copy.copy) ≡ rec_comp (comps_tree c.in_ok-copy.copy) = search (rules, comp_lemmas) in
    let same = put_nil (comps_tree c.args.comps.now) c.args.place (comp_tree c.get.result.now) (comp_tree c.args.comp) c.get.ensures nils.0 nils.1 in
    tree ∙ ap rec_comp (c.in_ok-copy.ensures ∙ same)
