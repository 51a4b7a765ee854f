use Rattle.std.proofs.Common.{List, codes, sym, subst}
use Rattle.std.proofs.lemmas.Result.{err_from_is_err_and}
use Rattle.serde_json.specs.View.{view, items_view}
use Rattle.serde_json.specs.declared.value.Value.{Value}
use Rattle.complement_file.specs.Reading.{HasArray}
use Rattle.complement_file.proofs.Found.{refused_with}
use Rattle.complement_file.proofs.ReadForms.{no_tags, tags_refused}
use Rattle.complement_file.proofs.numbers.read_tags.Goals as goal

pub returns-in_default : goal.returns-in_default
returns-in_default c = no_tags _ _ c.in_default.ensures

pub returns-in_err-numbers : goal.returns-in_err-numbers
returns-in_err-numbers c =
    let p = err_from_is_err_and c.from_residual.result c.from_residual.ensures.1 in
    let tree = view c.args.tree.now in
    let is = subst (λ (vs : List Value). HasArray (codes "tags") tree (items_view vs)) (sym c.deref.ensures.value) c.in-Some.ensures in
    rw (p.1, p.2) (refused_with c.in_err-numbers.field-0.0 _ _ (tags_refused _ _ _ is) c.in_err-numbers.ensures)
