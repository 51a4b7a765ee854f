use Rattle.std.proofs.Common.{◌≡◌, map, drop}
use Rattle.doc_values.specs.Documents.{docs_of}
use Rattle.doc_values.specs.Layouts.{items_in}
use Rattle.doc_values.specs.Typing.{has_fields, has_each}
use Rattle.doc_values.specs.Types.{field_tree}
use Rattle.doc_values.specs.Documents.{doc_tree}
use Rattle.doc_values.specs.Types.{ty_tree, type_fields_of}
use Rattle.doc_values.proofs.typing.+fits.Given as goal

abbrev pub invariant-fit_fields-loop-i : goal.invariant-fit_fields-loop-i
invariant-fit_fields-loop-i l =
    has_fields (type_fields_of (map field_tree (drop l.i l.fields.items.items))) (docs_of (map doc_tree (drop l.i (items_in l.docs.layout))))
    ≡ has_fields (type_fields_of (map field_tree l.fields.items.items)) (docs_of (map doc_tree (items_in l.docs.layout)))

abbrev pub invariant-fit_each-loop-i : goal.invariant-fit_each-loop-i
invariant-fit_each-loop-i l =
    has_each (ty_tree l.ty) (docs_of (map doc_tree (drop l.i (items_in l.docs.layout))))
    ≡ has_each (ty_tree l.ty) (docs_of (map doc_tree (items_in l.docs.layout)))
