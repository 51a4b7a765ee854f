use Rattle.std.proofs.Common.{◌≡◌, ℕ, All, length, ap, subst, ◌∙◌}
use Rattle.std.proofs.lemmas.List.{length-map}
use Rattle.hold_shapes.specs.Gather.{IsBelow}
use Rattle.doc_values.specs.Documents.{doc_list, doc_tree, docs_tree, docs_of}
use Rattle.doc_values.proofs.Lists.{docs_tree-out, trees_of}
use Rattle.doc_values.proofs.doc.Docs.gathered.Goals as goal

pub gather-requires : goal.gather-requires
gather-requires c =
    let old = c.in_ok-old.old in
    let same : length (doc_list (docs_tree c.args.self.now)) ≡ length old = ap length (trees_of c.args.self.now old c.in_ok-old.ensures) ∙ length-map old doc_tree in
    subst (λ (n : ℕ). All (IsBelow n) c.args.from.now) same c.requires

pub returns : goal.returns
returns c =
    let trees = trees_of c.args.self.now c.in_ok-old.old c.in_ok-old.ensures in
    docs_tree-out _ ∙ ap docs_of (rw trees c.in_ok-new.ensures)
