-- The definitions on small cases: hubs of one number, whose views are the number itself.
use Rattle.std.proofs.Common.{◌≡◌, ℕ, pos, true, [], ◌∷◌, codes, Some, None, Ok, Err, refl}
use Rattle.serde_json.specs.Data.{Data, null, string, array, object, no_items, item, no_members, member}
use Rattle.value_json.specs.Numbers.{count_tree, int_tree}
use Rattle.doc_values.specs.Documents.{int}
use Rattle.doc_values.specs.Types.{ty_int, ty_bool}
use Rattle.edit_module.specs.declared.atom.Atom.TheVariants.{Number, Truth}
use Rattle.edit_module.specs.Words.{set, add, WordTree, no_primitives, more_primitives}
use Rattle.edit_json.specs.WordJson.{primitive_of}
use Rattle.edit_journal.specs.EntryJson.{not_an_entry, not_an_edit}
use Rattle.lens_forms.specs.Forms.{FormTree, form_id}
use Rattle.lens_core.specs.Complements.{nil}
use Rattle.view_hub.specs.Hubs.{ViewTree, at_hub, at_view}
use Rattle.value_json.specs.SmallTrees.{one_member}
use Rattle.store_records.specs.declared.record_fault.RecordFault.TheVariants.{BadRecord, NotConsistent}
use Rattle.hub_records.specs.HubChanges.{one, group, tree_of_hub_change, hub_change_of_tree}
use Rattle.hub_records.specs.HubRecords.{change_record, add_record, snapshot_record, tree_of_programs, tree_of_added, tree_of_hub_snapshot, programs_of, hub_record_of}
use Rattle.hub_records.specs.HubStands.{HubStanding, hub_after_record, after_add, hub_at_start}

abbrev number : FormTree
number = form_id (ty_int (pos 0))

abbrev shown : ℕ → ViewTree
shown n = record { comp = nil; doc = int (pos n) }

-- a hub of this number with two views, after so many changes
abbrev two_views : ℕ → ℕ → HubStanding
two_views n count = record { forms = number ∷ number ∷ []; hub = record { hub = int (pos n); views = shown n ∷ shown n ∷ [] }; count = count }

abbrev five : WordTree
five = more_primitives (set (Number (pos 5))) no_primitives

abbrev more : WordTree
more = more_primitives (add (pos 1)) no_primitives

abbrev bad : WordTree
bad = more_primitives (set (Truth true)) no_primitives

-- ---- what stands

starts : hub_at_start (number ∷ number ∷ []) ≡ two_views 0 0
starts = refl

-- an edit of the hub is carried to both views, and one of a view to the hub and the other view
edit_of_hub : hub_after_record 2 (two_views 0 0) (Some (change_record (one (at_hub, five)))) ≡ Ok (two_views 5 1)
edit_of_hub = refl

edit_of_view : hub_after_record 3 (two_views 5 1) (Some (change_record (one (at_view 1, more)))) ≡ Ok (two_views 6 2)
edit_of_view = refl

-- a view that does not exist
edit_of_none : hub_after_record 3 (two_views 5 1) (Some (change_record (one (at_view 2, more)))) ≡ Err (BadRecord 3)
edit_of_none = refl

-- a group counts one; its second edit starts from what the first one left
group_accepted : hub_after_record 2 (two_views 0 0) (Some (change_record (group ((at_hub, five) ∷ (at_view 0, more) ∷ [])))) ≡ Ok (two_views 6 1)
group_accepted = refl

-- the second edit is refused, and so is the group
group_refused : hub_after_record 2 (two_views 0 0) (Some (change_record (group ((at_hub, five) ∷ (at_view 0, bad) ∷ [])))) ≡ Err (BadRecord 2)
group_refused = refl

no_edits : hub_after_record 2 (two_views 5 1) (Some (change_record (group []))) ≡ Ok (two_views 5 2)
no_edits = refl

-- a view more begins as what its lens makes of the hub's document, and does not count
view_added : after_add 4 (two_views 5 1) (Some number)
    ≡ Ok (record { forms = number ∷ number ∷ number ∷ []; hub = record { hub = int (pos 5); views = shown 5 ∷ shown 5 ∷ shown 5 ∷ [] }; count = 1 })
view_added = refl

-- a lens of another left type, and a program that is refused
other_type : after_add 4 (two_views 5 1) (Some (form_id ty_bool)) ≡ Err (BadRecord 4)
other_type = refl

no_lens : after_add 4 (two_views 5 1) None ≡ Err (BadRecord 4)
no_lens = refl

abbrev view_text : ℕ → Data
view_text n = object (member (codes "complement") null (member (codes "view") (int_tree (pos n)) no_members))

-- a snapshot takes the place of the hub, and keeps the count
snapshot_taken : hub_after_record 5 (two_views 0 3) (Some (snapshot_record (int_tree (pos 7), item (view_text 7) (item (view_text 7) no_items)))) ≡ Ok (two_views 7 3)
snapshot_taken = refl

-- one view is not consistent with the hub
snapshot_apart : hub_after_record 5 (two_views 0 3) (Some (snapshot_record (int_tree (pos 7), item (view_text 7) (item (view_text 8) no_items)))) ≡ Err (NotConsistent 5)
snapshot_apart = refl

-- a view is missing
snapshot_short : hub_after_record 5 (two_views 0 3) (Some (snapshot_record (int_tree (pos 7), item (view_text 7) no_items))) ≡ Err (BadRecord 5)
snapshot_short = refl

-- ---- records

first_record : programs_of (tree_of_programs (codes "main id int" ∷ codes "main id int" ∷ [])) ≡ Some (item (string (codes "main id int")) (item (string (codes "main id int")) no_items))
first_record = refl

-- of another version
other_version : programs_of (object (member (codes "hub") (array no_items) (member (codes "version") (count_tree 2) no_members))) ≡ None
other_version = refl

edit_record : hub_record_of (tree_of_hub_change (one (at_view 3, five))) ≡ Some (change_record (one (at_view 3, five)))
unfolding primitive_of
edit_record = refl

group_record : hub_record_of (tree_of_hub_change (group ((at_hub, five) ∷ (at_view 0, more) ∷ []))) ≡ Some (change_record (group ((at_hub, five) ∷ (at_view 0, more) ∷ [])))
unfolding primitive_of
group_record = refl

view_record : hub_record_of (tree_of_added (codes "main id int")) ≡ Some (add_record (codes "main id int"))
view_record = refl

hub_record : hub_record_of (tree_of_hub_snapshot (number ∷ []) (record { hub = int (pos 7); views = shown 7 ∷ [] }))
    ≡ Some (snapshot_record (int_tree (pos 7), item (view_text 7) no_items))
hub_record = refl

no_record : hub_record_of (one_member (codes "snapshot") null) ≡ None
no_record = refl

-- the form of each edit of a group comes first
bad_form : hub_change_of_tree (one_member (codes "group") (array (item (object (member (codes "at") (string (codes "hub")) (member (codes "edit") null no_members))) (item null no_items)))) ≡ Err not_an_entry
bad_form = refl

bad_word : hub_change_of_tree (one_member (codes "group") (array (item (object (member (codes "at") (string (codes "hub")) (member (codes "edit") null no_members))) no_items))) ≡ Err not_an_edit
unfolding primitive_of
bad_word = refl
