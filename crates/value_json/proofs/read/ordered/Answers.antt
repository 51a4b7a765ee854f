use Rattle.std.proofs.Common.{◌≡◌, Some, ap, sym, ◌∙◌, length}
use Rattle.doc_values.specs.Documents.{docs_tree, doc_list}
use Rattle.hold_shapes.specs.Trees.{is_valid}
use Rattle.value_json.proofs.DocumentOf.{ordered_is}
use Rattle.value_json.proofs.Levels.{doc_tree-Hold}
use Rattle.value_json.proofs.read.ordered.Goals as goal

pub returns-in-Some : goal.returns-in-Some
returns-in-Some c =
    let depths = c.args.depths.items in
    let docs = docs_tree c.args.docs in
    let many : length depths ≡ length (doc_list docs) = sym c.args.depths.ok.0 ∙ sym c.len.ensures ∙ c.if-len.false ∙ c.len-2.ensures in
    ordered_is depths c.in-Some.nodes docs (sym (ap is_valid c.in_ok-from_vec.ensures) ∙ c.in-Some.ensures.0) many (c.in-Some.ensures.1 ∙ c.in_ok-from_vec.ensures)
    ∙ ap Some (sym (doc_tree-Hold _ c.args.docs))
