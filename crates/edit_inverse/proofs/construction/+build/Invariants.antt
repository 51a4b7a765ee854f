use Rattle.std.proofs.Common.{◌≡◌, ℕ, ◌+◌, ◌*◌, ◌<◌, map, drop, length, get_or}
use Rattle.hold_shapes.proofs.ValidDepths.{GoesOn}
use Rattle.doc_values.specs.Documents.{docs_tree}
use Rattle.doc_values.specs.Types.{ty_tree, fields_tree, names_of, height, highest}
use Rattle.edit_module.specs.Words.{word_of, joined}
use Rattle.edit_module.specs.Views.{primitive_tree}
use Rattle.edit_inverse.specs.Construct.{construct_each, construct_fields, modify_each, at_each, put_each, graft_each, grow}
use Rattle.edit_inverse.specs.Paths.{paths, paths_after}
use Rattle.edit_inverse.proofs.Building.{fields_of}
use Rattle.edit_inverse.proofs.construction.+build.Given as goal

abbrev pub decreases-build : goal.decreases-build
decreases-build l = 4 * height (ty_tree l.ty.now)

abbrev pub decreases-of_record : goal.decreases-of_record
decreases-of_record l = 4 * highest (fields_tree l.fields.now) + 1

abbrev pub decreases-of_list : goal.decreases-of_list
decreases-of_list l = 4 * height (ty_tree l.inner.now) + 2

abbrev pub decreases-with_items : goal.decreases-with_items
decreases-with_items l = 4 * height (ty_tree l.inner.now) + 1

abbrev pub invariant-of_record-loop-i : goal.invariant-of_record-loop-i
invariant-of_record-loop-i l =
    joined (word_of (map primitive_tree l.out.items)) (at_each (drop l.i (names_of (fields_of l.field-items))) (drop l.i (construct_fields (fields_of l.field-items) (docs_tree l.docs))))
    ≡ at_each (names_of (fields_of l.field-items)) (construct_fields (fields_of l.field-items) (docs_tree l.docs))

abbrev pub invariant-with_items-loop-i : goal.invariant-with_items-loop-i
invariant-with_items-loop-i l =
    joined (word_of (map primitive_tree l.out.items)) (modify_each l.i (drop l.i (construct_each (ty_tree l.inner) (docs_tree l.docs))))
    ≡ joined (word_of (map primitive_tree l.fn.before.items)) (modify_each l.from (drop l.from (construct_each (ty_tree l.inner) (docs_tree l.docs))))

abbrev pub decreases-of_tag : goal.decreases-of_tag
decreases-of_tag l = 4 * highest (fields_tree l.tags.now) + 1

abbrev pub decreases-of_keyed : goal.decreases-of_keyed
decreases-of_keyed l = 4 * height (ty_tree l.inner.now) + 1

abbrev pub decreases-of_tree : goal.decreases-of_tree
decreases-of_tree l = 4 * height (ty_tree l.inner.now) + 1

abbrev pub invariant-of_keyed-loop-i : goal.invariant-of_keyed-loop-i
invariant-of_keyed-loop-i l =
    joined (word_of (map primitive_tree l.out.items)) (put_each (drop l.i l.keys) (drop l.i (construct_each (ty_tree l.inner) (docs_tree l.docs))))
    ≡ put_each l.keys (construct_each (ty_tree l.inner) (docs_tree l.docs))

abbrev pub invariant-of_tree-loop-i : goal.invariant-of_tree-loop-i
invariant-of_tree-loop-i l = record {
  left :
      joined (word_of (map primitive_tree l.out.items)) (graft_each (paths_after l.path.items (drop l.i l.depths)) (drop l.i (construct_each (ty_tree l.inner) (docs_tree l.docs))))
      ≡ grow (paths l.depths) (construct_each (ty_tree l.inner) (docs_tree l.docs));
  goes : GoesOn (length l.path.items) (drop l.i l.depths);
  low : (k : ℕ) → get_or l.path.items k 0 < l.i;
}
