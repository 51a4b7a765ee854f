use Rattle.std.proofs.Common.{Some, length, ap, sym, ◌∙◌, arith}
use Rattle.std.proofs.lemmas.List.{map-append}
use Rattle.edit_module.specs.Views.{entry_tree, entry_trees}
use Rattle.json_tokens.specs.TreesAt.{read_items_at}
use Rattle.json_tokens.proofs.ReadParts.{read_shorter}
use Rattle.edit_tokens.specs.Changes.{entry_in, entries_in}
use Rattle.edit_tokens.proofs.ReadingChanges.{onto_entries, next_entry, entries_end}
use Rattle.edit_tokens.proofs.changes.take_entries.Goals as goal

pub loop-alloc-smaller : goal.loop-alloc-smaller
loop-alloc-smaller c =
    let less = read_shorter entry_in 125 c.take_end_array.new.self c.take_entry.new.reader (entry_tree c.in_ok-entry.entry) c.in_ok-entry.ensures in
    omega (arith, less, ap length c.loop-alloc-test.ensures.1)

pub loop-alloc-preserved : goal.loop-alloc-preserved
loop-alloc-preserved c =
    let es = entry_trees c.loop-alloc.entries.items in
    c.loop-alloc.invariant ∙ ap (λ ts. onto_entries es (read_items_at entries_in 125 ts)) (sym c.loop-alloc-test.ensures.1)
    ∙ next_entry 125 es (entry_tree c.in_ok-entry.entry) c.take_end_array.new.self c.take_entry.new.reader c.in_ok-entry.ensures
    ∙ ap (λ fs. onto_entries fs (read_items_at entries_in 125 c.take_entry.new.reader)) (sym (ap entry_trees c.in-Ok.ensures.items ∙ map-append entry_tree c.loop-alloc.entries.items _))

pub returns : goal.returns
returns c =
    let es = entry_trees c.loop-alloc.entries.items in
    c.loop-alloc.invariant ∙ entries_end 125 es c.loop-alloc.reader c.take_end_array.new.self c.loop-alloc-test.ensures ∙ ap (λ fs. Some (entry_trees fs, c.take_end_array.new.self)) (sym c.from_vec.ensures)
