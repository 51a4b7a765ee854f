-- Two entries never have the same tree, nor do two changes.
use Rattle.std.proofs.Common.{◌≡◌, List, [], ◌∷◌, Option, Some, None, refl, sym, ap, ap₂, ◌∙◌}
use Rattle.std.proofs.lemmas.Option.{same_Some}
use Rattle.serde_json.specs.Data.{Data, null, array, object, Items, no_items, item, member}
use Rattle.edit_module.specs.Words.{WordTree}
use Rattle.edit_module.specs.Changes.{ChangeTree, one, group}
use Rattle.texts.specs.declared.side.Side.{Side}
use Rattle.edit_json.specs.WordJson.{tree_of_word}
use Rattle.edit_json.proofs.TreesDiffer.{words_differ}
use Rattle.edit_journal.specs.EntryJson.{tree_of_entry, items_of_entries, tree_of_change, parts_of}
use Rattle.edit_journal.proofs.Entries.{parts_read_back}

abbrev entry : Side → WordTree → Side × WordTree
entry side w = (side, w)

abbrev parts : Side × WordTree → Side × Data
parts e = (e.0, tree_of_word e.1)

pub entries_differ : (e f : Side × WordTree) → tree_of_entry e ≡ tree_of_entry f → e ≡ f
entries_differ e f same =
    let both = same_Some (parts e) (parts f) (sym (parts_read_back e) ∙ ap parts_of same ∙ parts_read_back f) in
    ap₂ entry (ap (λ (p : Side × Data). p.0) both) (words_differ e.1 f.1 (ap (λ (p : Side × Data). p.1) both))

-- ---- changes, by ways back that ask nothing of a tree

abbrev first_item : Items → Data
first_item no_items = null
first_item (item d ds) = d

abbrev other_items : Items → Items
other_items no_items = no_items
other_items (item d ds) = ds

items_differ : (es fs : List (Side × WordTree)) → items_of_entries es ≡ items_of_entries fs → es ≡ fs
items_differ [] [] same = refl
items_differ [] (f ∷ fs) same = cc
items_differ (e ∷ es) [] same = cc
items_differ (e ∷ es) (f ∷ fs) same = ap₂ (λ (x : Side × WordTree) (xs : List (Side × WordTree)). x ∷ xs) (entries_differ e f (ap first_item same)) (items_differ es fs (ap other_items same))

-- the items of the array that is the first member of an object
abbrev group_back : Data → Option Items
group_back (object (member k (array ds) ms)) = Some ds
group_back _ = None

-- whether an object has a second member
abbrev has_second : Data → Option Data
has_second (object (member k d (member l e ms))) = Some e
has_second _ = None

pub changes_differ : (a b : ChangeTree) → tree_of_change a ≡ tree_of_change b → a ≡ b
changes_differ (one e) (one f) same = ap one (entries_differ e f same)
changes_differ (one e) (group fs) same = let second = ap has_second same in cc
changes_differ (group es) (one f) same = let second = ap has_second same in cc
changes_differ (group es) (group fs) same = ap group (items_differ es fs (same_Some (items_of_entries es) (items_of_entries fs) (ap group_back same)))
