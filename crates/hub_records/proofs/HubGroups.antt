-- The change that a tree is, and the tree of a change, by its edits.
use Rattle.std.proofs.Common.{◌≡◌, Bool, true, false, List, [], ◌∷◌, ◌++◌, cond, Option, Some, None, Result, Ok, Err, IfOk, refl, subst}
use Rattle.serde_json.specs.Data.{Data, Items, no_items, item}
use Rattle.texts.proofs.Conjunction.{both}
use Rattle.edit_module.specs.Words.{WordTree}
use Rattle.edit_json.specs.WordJson.{counts_fit}
use Rattle.edit_journal.specs.EntryJson.{LineFault, not_an_entry, group_items, tree_of_text}
use Rattle.edit_journal.specs.Reading.{Gives}
use Rattle.edit_journal.specs.declared.fault.EntryFault.{EntryFault}
use Rattle.edit_journal.specs.declared.line.Line.{Line}
use Rattle.edit_journal.specs.declared.line.Line.TheVariants.{Text, TooLong}
use Rattle.view_hub.specs.Hubs.{Place}
use Rattle.hub_run.specs.EditJson.{edit_of_tree}
use Rattle.hub_run.proofs.EditTrees.{writes_back}
use Rattle.hub_records.specs.HubChanges.{HubChangeTree, one, group, edits_of, all_counts_fit, are_edits, edit_in_front, edits_of_items, hub_group_of_items, as_hub_change, hub_change_of_parts, hub_change_if_json, hub_change_of_line}
use Rattle.hub_records.specs.Views.{hub_change_tree}
use Rattle.hub_records.specs.declared.change.HubChange.{HubChange}

-- these edits, and behind them the others
abbrev pub behind : List (Place × WordTree) → Result (List (Place × WordTree)) LineFault → Result (List (Place × WordTree)) LineFault
behind es (Ok others) = Ok (es ++ others)
behind es (Err fault) = Err fault

-- ---- from a tree to its change: the counts in it fit

in_front_is : (r : Result (Place × WordTree) LineFault) (o : Result (List (Place × WordTree)) LineFault) (all : List (Place × WordTree)) → edit_in_front r o ≡ Ok all
    → (e : Place × WordTree) × (es : List (Place × WordTree)) × (r ≡ Ok e) × (o ≡ Ok es) × (e ∷ es ≡ all)
in_front_is (Ok e) (Ok es) all h = (e, es, refl, refl, let same : e ∷ es ≡ all = cc in same)
in_front_is (Ok e) (Err fault) all h = cc
in_front_is (Err fault) o all h = cc

items_fit : (ds : Items) (es : List (Place × WordTree)) → edits_of_items ds ≡ Ok es → all_counts_fit es ≡ true
items_fit no_items es h = let none : [] ≡ es = cc in subst (λ es. all_counts_fit es ≡ true) none refl
items_fit (item d ds) es h =
    let p = in_front_is (edit_of_tree d) (edits_of_items ds) es h in
    subst (λ es. all_counts_fit es ≡ true) p.4 (both (counts_fit p.0.1) (all_counts_fit p.1) (writes_back d p.0 p.2).0 (items_fit ds p.1 p.3))

group_fits : (ds : Items) (es : List (Place × WordTree)) → hub_group_of_items ds ≡ Ok es → all_counts_fit es ≡ true
group_fits ds es h = by_test (are_edits ds) h where
  by_test : (b : Bool) → cond b (edits_of_items ds) (Err not_an_entry) ≡ Ok es → all_counts_fit es ≡ true
  by_test true h = items_fit ds es h
  by_test false h = cc

as_change_is : {X : Type 0} (change : X → HubChangeTree) (r : Result X LineFault) (c : HubChangeTree) → as_hub_change change r ≡ Ok c → (x : X) × (r ≡ Ok x) × (change x ≡ c)
as_change_is change (Ok x) c h = (x, refl, let same : change x ≡ c = cc in same)
as_change_is change (Err fault) c h = cc

abbrev pub CountsFit : HubChangeTree → Type 0
CountsFit change = all_counts_fit (edits_of change) ≡ true

tree_fits : (d : Data) (o : Option Items) (change : HubChangeTree) → hub_change_of_parts o d ≡ Ok change → CountsFit change
tree_fits d (Some ds) change h =
    let p = as_change_is group (hub_group_of_items ds) change h in
    subst CountsFit p.2 (group_fits ds p.0 p.1)
tree_fits d None change h =
    let p = as_change_is one (edit_of_tree d) change h in
    subst CountsFit p.2 (both (counts_fit p.0.1) true (writes_back d p.0 p.1).0 refl)

json_fits : (o : Option Data) (change : HubChangeTree) → hub_change_if_json o ≡ Ok change → CountsFit change
json_fits (Some d) change h = tree_fits d (group_items d) change h
json_fits None change h = cc

pub line_fits : (line : Line) (change : HubChangeTree) → hub_change_of_line line ≡ Ok change → CountsFit change
line_fits (Text bytes) change h = json_fits (tree_of_text bytes) change h
line_fits TooLong change h = cc

pub line_counts : (r : Result HubChange EntryFault) (line : Line) → Gives hub_change_tree r (hub_change_of_line line) → IfOk r (λ change. CountsFit (hub_change_tree change))
line_counts (Ok change) line h = line_fits line (hub_change_tree change) h
line_counts (Err fault) line h = tt
