use Rattle.std.proofs.Common.{◌≡◌, drop, length}
use Rattle.edit_module.specs.Views.{word_trees, entry_trees}
use Rattle.edit_session.specs.Step.{IsInStep, step_each}
use Rattle.edit_session.specs.Views.{triple_tree}
use Rattle.edit_session.proofs.Groups.{remaining}
use Rattle.edit_session.proofs.group.next_all.Given as goal

-- the entries that are left make, behind the words carried so far, what all make of the first triple
abbrev pub invariant-loop-part : goal.invariant-loop-part
invariant-loop-part g l =
    let lens = l.lens in
    let of = g.L.EditLens in
    record {
      consistent : IsInStep (of.holds lens) (triple_tree l.current);
      words : length l.words.items ≡ l.part;
      left : remaining (of.left_type lens) (of.right_type lens) (of.carried lens) (word_trees l.words.items) (triple_tree l.current) (entry_trees (drop l.part l.entries))
          ≡ step_each (of.left_type lens) (of.right_type lens) (of.carried lens) (triple_tree l.triple) (entry_trees l.entries);
    }
