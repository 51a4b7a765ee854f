use Rattle.std.proofs.Common.{◌≡◌, ℕ, ◌<◌, drop, map, get_or, length}
use Rattle.std.specs.Prelude.{slice_range}
use Rattle.hold_shapes.proofs.ValidDepths.{GoesOn}
use Rattle.doc_values.specs.Documents.{docs_tree}
use Rattle.doc_values.specs.Types.{ty_tree}
use Rattle.edit_module.specs.Views.{primitive_tree}
use Rattle.edit_module.specs.Words.{word_of, joined}
use Rattle.edit_inverse.specs.Construct.{construct_each, graft_each}
use Rattle.edit_inverse.specs.Paths.{paths_after}
use Rattle.edit_inverse.proofs.old_shapes.grown.Given as goal

abbrev pub invariant-loop-i : goal.invariant-loop-i
invariant-loop-i l = record {
  left :
      joined (word_of (map primitive_tree l.out.items)) (graft_each (paths_after l.path.items (slice_range l.depths l.i l.to)) (slice_range (construct_each (ty_tree l.inner) (docs_tree l.docs)) l.i l.to))
      ≡ graft_each (paths_after l.fn.before.items (slice_range l.depths l.from l.to)) (slice_range (construct_each (ty_tree l.inner) (docs_tree l.docs)) l.from l.to);
  goes : GoesOn (length l.path.items) (drop l.i l.depths);
  low : (k : ℕ) → get_or l.path.items k 0 < l.i;
}
