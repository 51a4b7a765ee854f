use Rattle.std.proofs.Common.{◌≡◌, ℕ, ◌+◌, ◌*◌, ◌<◌, ◌≤◌, map, drop, length, get_or}
use Rattle.hold_shapes.proofs.ValidDepths.{GoesOn}
use Rattle.doc_values.specs.Documents.{docs_tree, docs_of, doc_list}
use Rattle.doc_values.specs.Types.{ty_tree, fields_tree, names_of, height, highest}
use Rattle.edit_module.specs.Words.{word_of, joined}
use Rattle.edit_module.specs.Views.{primitive_tree}
use Rattle.edit_inverse.specs.Construct.{construct_each, modify_each, at_each, graft_each, grow}
use Rattle.edit_inverse.specs.Paths.{paths, paths_after}
use Rattle.edit_inverse.proofs.Building.{fields_of}
use Rattle.edit_between.specs.Between.{between_fields, between_items, between_keys, modify_nodes, with_root}
use Rattle.edit_between.proofs.building.+build.Given as goal

abbrev pub decreases-build : goal.decreases-build
decreases-build l = 4 * height (ty_tree l.ty.now)

abbrev pub decreases-of_record : goal.decreases-of_record
decreases-of_record l = 4 * highest (fields_tree l.fields.now) + 1

abbrev pub decreases-of_tag : goal.decreases-of_tag
decreases-of_tag l = 4 * highest (fields_tree l.tags.now) + 1

abbrev pub decreases-of_list : goal.decreases-of_list
decreases-of_list l = 4 * height (ty_tree l.inner.now) + 3

abbrev pub decreases-with_items : goal.decreases-with_items
decreases-with_items l = 4 * height (ty_tree l.inner.now) + 2

abbrev pub decreases-of_item : goal.decreases-of_item
decreases-of_item l = 4 * height (ty_tree l.inner.now) + 1

abbrev pub decreases-of_keyed : goal.decreases-of_keyed
decreases-of_keyed l = 4 * height (ty_tree l.inner.now) + 3

abbrev pub decreases-with_keys : goal.decreases-with_keys
decreases-with_keys l = 4 * height (ty_tree l.inner.now) + 2

abbrev pub decreases-push_entry : goal.decreases-push_entry
decreases-push_entry l = 4 * height (ty_tree l.inner.now) + 1

abbrev pub decreases-of_tree : goal.decreases-of_tree
decreases-of_tree l = 4 * height (ty_tree l.inner.now) + 3

abbrev pub decreases-with_nodes : goal.decreases-with_nodes
decreases-with_nodes l = 4 * height (ty_tree l.inner.now) + 2

abbrev pub decreases-with_new_nodes : goal.decreases-with_new_nodes
decreases-with_new_nodes l = 4 * height (ty_tree l.inner.now) + 2

abbrev pub invariant-of_record-loop-i : goal.invariant-of_record-loop-i
invariant-of_record-loop-i l =
    joined (word_of (map primitive_tree l.out.items)) (at_each (drop l.i (names_of (fields_of l.field-items))) (drop l.i (between_fields (fields_of l.field-items) (docs_tree l.olds) (docs_tree l.news))))
    ≡ at_each (names_of (fields_of l.field-items)) (between_fields (fields_of l.field-items) (docs_tree l.olds) (docs_tree l.news))

abbrev pub invariant-with_items-loop-i : goal.invariant-with_items-loop-i
invariant-with_items-loop-i l =
    joined (word_of (map primitive_tree l.out.items)) (modify_each l.i (drop l.i (between_items (ty_tree l.inner) (docs_tree l.olds) (docs_tree l.news))))
    ≡ joined (word_of (map primitive_tree l.fn.before.items)) (modify_each 0 (between_items (ty_tree l.inner) (docs_tree l.olds) (docs_tree l.news)))

abbrev pub invariant-with_keys-loop-i : goal.invariant-with_keys-loop-i
invariant-with_keys-loop-i l = record {
  left :
      joined (word_of (map primitive_tree l.out.items))
      (between_keys (ty_tree l.inner) (drop l.at l.old_keys) (drop l.at (doc_list (docs_tree l.olds))) (drop l.i l.keys) (docs_of (drop l.i (doc_list (docs_tree l.news)))))
      ≡ between_keys (ty_tree l.inner) l.old_keys (doc_list (docs_tree l.olds)) l.keys (docs_tree l.news);
  within : l.at ≤ length l.old_keys;
}

abbrev pub invariant-with_nodes-loop-i : goal.invariant-with_nodes-loop-i
invariant-with_nodes-loop-i l = record {
  left :
      joined (word_of (map primitive_tree l.out.items)) (modify_nodes (paths_after l.path.items (drop l.i l.depths)) (drop l.i (between_items (ty_tree l.inner) (docs_tree l.olds) (docs_tree l.news))))
      ≡ modify_nodes (paths l.depths) (between_items (ty_tree l.inner) (docs_tree l.olds) (docs_tree l.news));
  goes : GoesOn (length l.path.items) (drop l.i l.depths);
  low : (k : ℕ) → get_or l.path.items k 0 < l.i;
}

abbrev pub invariant-with_new_nodes-loop-i : goal.invariant-with_new_nodes-loop-i
invariant-with_new_nodes-loop-i l = record {
  left :
      joined (word_of (map primitive_tree l.out.items)) (graft_each (paths_after l.path.items (drop l.i l.depths)) (drop l.i (construct_each (ty_tree l.inner) (docs_tree l.news))))
      ≡ joined (word_of (map primitive_tree l.fn.before.items))
      (grow (paths l.depths) (with_root (between_items (ty_tree l.inner) (docs_tree l.olds) (docs_tree l.news)) (construct_each (ty_tree l.inner) (docs_tree l.news))));
  goes : GoesOn (length l.path.items) (drop l.i l.depths);
  low : (k : ℕ) → get_or l.path.items k 0 < l.i;
}
