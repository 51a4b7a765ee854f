use Rattle.std.proofs.Common.{◌≡◌, IsTrue, sym, ap, subst, ◌∙◌}
use Rattle.serde_json.specs.View.{view}
use Rattle.lens_forms.specs.Forms.{FormTree, form_tree}
use Rattle.lens_forms.specs.Typing.{is_typed}
use Rattle.lens_core.specs.Complements.{CompTree, comp_tree, Fits}
use Rattle.complement_file.specs.ComplementJson.{tree_of_complement}
use Rattle.complement_file.specs.Reading.{Finds, IsComplement}
use Rattle.complement_file.proofs.Found.{found_is, refused_none}
use Rattle.complement_file.proofs.TreesDiffer.{apart}
use Rattle.complement_file.proofs.read.read_comp.Goals as goal

pub returns-clause-fits : goal.returns-clause-fits
returns-clause-fits c =
    let l = form_tree c.args.typed.now in
    let tree = view c.args.tree.now in
    let found = subst (λ (m : FormTree). Finds (IsComplement m tree) comp_tree c.read.result) (ap form_tree c.form.ensures.is) c.read.ensures in
    found_is comp_tree (IsComplement l tree) (Fits l) c.read.result (λ x h. h.0) found

pub returns-clause-tree : goal.returns-clause-tree
returns-clause-tree c =
    let l = form_tree c.args.typed.now in
    let tree = view c.args.tree.now in
    let found = subst (λ (m : FormTree). Finds (IsComplement m tree) comp_tree c.read.result) (ap form_tree c.form.ensures.is) c.read.ensures in
    found_is comp_tree (IsComplement l tree) (λ x. tree_of_complement l x ≡ tree) c.read.result (λ x h. h.1) found

pub returns-clause-refused : goal.returns-clause-refused
returns-clause-refused c = λ refused x fits is.
    let tree = view c.args.tree.now in
    let found = subst (λ (m : FormTree). Finds (IsComplement m tree) comp_tree c.read.result) (ap form_tree c.form.ensures.is) c.read.ensures in
    refused_none comp_tree (IsComplement (form_tree c.args.typed.now) tree) c.read.result refused found x (fits, is)

pub returns-clause-only : goal.returns-clause-only
returns-clause-only c =
    let l = form_tree c.args.typed.now in
    let tree = view c.args.tree.now in
    let found = subst (λ (m : FormTree). Finds (IsComplement m tree) comp_tree c.read.result) (ap form_tree c.form.ensures.is) c.read.ensures in
    let typed = subst (λ (m : FormTree). IsTrue (is_typed m)) (ap form_tree c.form.ensures.is) c.form.ensures.tested in
    found_is comp_tree (IsComplement l tree) (λ x. (y : CompTree) → Fits l y → tree_of_complement l y ≡ tree → x ≡ y) c.read.result
    (λ x h y fits is. apart l typed x y h.0 fits (h.1 ∙ sym is)) found
