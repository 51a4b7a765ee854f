-- The edit that a tree and a line are, and the tree of an edit.
use Rattle.std.proofs.Common.{◌≡◌, ℕ, Bool, true, false, ◌&&◌, cond, codes, bytes_eq, Option, Some, None, option_map, Result, Ok, Err, IfOk, refl, sym, ap, ap₂, ◌∙◌}
use Rattle.std.specs.Prelude.{IfErr, ◌≢◌}
use Rattle.serde_json.specs.Data.{Data, string, object, no_members, member}
use Rattle.texts.proofs.Conjunction.{first as left, second as right}
use Rattle.value_json.specs.Numbers.{count_of, count_tree}
use Rattle.value_json.proofs.Facts.{if_then}
use Rattle.value_json.proofs.ReadingHasTree.{count_takes}
use Rattle.edit_module.specs.Words.{WordTree}
use Rattle.edit_module.specs.Views.{word_tree}
use Rattle.edit_module.specs.declared.word.Word.{Word}
use Rattle.edit_json.specs.WordJson.{tree_of_word, word_of_tree, counts_fit, numbers_fit}
use Rattle.edit_json.proofs.WritingReadsBack.{again as word_reads}
use Rattle.edit_json.proofs.ReadingHasTree.{takes as word_writes_back}
use Rattle.edit_journal.specs.EntryJson.{LineFault, tree_of_text, tree_of_line}
use Rattle.edit_journal.specs.Reading.{Gives}
use Rattle.edit_journal.specs.declared.fault.EntryFault.{EntryFault}
use Rattle.edit_journal.specs.declared.fault.EntryFault.TheVariants.{LineTooLong, NotJson, NotAnEntry, NotAnEdit, NoMemory}
use Rattle.edit_journal.specs.declared.line.Line.{Line}
use Rattle.edit_journal.specs.declared.line.Line.TheVariants.{Text, TooLong}
use Rattle.view_hub.specs.Hubs.{Place, at_hub, at_view}
use Rattle.view_hub.specs.declared.side.HubSide.{HubSide}
use Rattle.hub_run.specs.EditJson.{tree_of_hub_place, tree_of_edit, hub_place_fits, is_hub, place_of_tree, hub_edit_parts, edit_with, edit_of_hub_parts, edit_of_tree, edit_if_json, edit_of_line}
use Rattle.view_hub.specs.Views.{edit_tree}
use Rattle.texts.proofs.Tests.{bytes_eq-is}

-- ---- places

place_reads_back : (p : Place) → hub_place_fits p ≡ true → place_of_tree (tree_of_hub_place p) ≡ Some p
place_reads_back at_hub fits = refl
place_reads_back (at_view k) fits = rw fits refl

hub_is : (d : Data) → is_hub d ≡ true → string (codes "hub") ≡ d
hub_is (string s) h = ap string (sym (bytes_eq-is s (codes "hub") h))
hub_is d h = cc

view_is : (d : Data) (o : Option ℕ) (p : Place) → ((k : ℕ) → o ≡ Some k → count_tree k ≡ d) → option_map at_view o ≡ Some p → tree_of_hub_place p ≡ d
view_is d None p takes h = cc
view_is d (Some k) p takes h = let same : at_view k ≡ p = cc in ap tree_of_hub_place (sym same) ∙ takes k refl

place_writes_back : (d : Data) (p : Place) → place_of_tree d ≡ Some p → tree_of_hub_place p ≡ d
place_writes_back d p h = by_test (is_hub d) refl h where
  by_test : (b : Bool) → b ≡ is_hub d → cond b (Some at_hub) (option_map at_view (count_of d)) ≡ Some p → tree_of_hub_place p ≡ d
  by_test true is h = let same : at_hub ≡ p = cc in ap tree_of_hub_place (sym same) ∙ hub_is d (sym is)
  by_test false is h = view_is d (count_of d) p (count_takes d) h

-- ---- the parts of a tree

pub parts_read_back : (e : Place × WordTree) → hub_place_fits e.0 ≡ true → hub_edit_parts (tree_of_edit e) ≡ Some (e.0, tree_of_word e.1)
parts_read_back e fits = ap (option_map (λ place. (place, tree_of_word e.1))) (place_reads_back e.0 fits)

-- the tree of a place and of the tree of an edit
abbrev of_parts : Place × Data → Data
of_parts p = object (member (codes "at") (tree_of_hub_place p.0) (member (codes "edit") p.1 no_members))

place_some : (at d : Data) (p : Place × Data) (o : Option Place) → ((place : Place) → o ≡ Some place → tree_of_hub_place place ≡ at) → option_map (λ place. (place, d)) o ≡ Some p → (tree_of_hub_place p.0 ≡ at) × (p.1 ≡ d)
place_some at d p None writes_back h = cc
place_some at d p (Some place) writes_back h =
    let first : p.0 ≡ place = cc in
    let second : p.1 ≡ d = cc in
    (ap tree_of_hub_place first ∙ writes_back place refl, second)

parts_write_back : (d : Data) (p : Place × Data) → hub_edit_parts d ≡ Some p → of_parts p ≡ d
parts_write_back (object (member k at (member l edit no_members))) p h =
    let named = if_then (bytes_eq k (codes "at") && bytes_eq l (codes "edit")) (option_map (λ place. (place, edit)) (place_of_tree at)) p h in
    let first = bytes_eq-is k (codes "at") (left (bytes_eq k (codes "at")) (bytes_eq l (codes "edit")) named.0) in
    let second = bytes_eq-is l (codes "edit") (right (bytes_eq k (codes "at")) (bytes_eq l (codes "edit")) named.0) in
    let inner = place_some at edit p (place_of_tree at) (place_writes_back at) named.1 in
    rw (first, second, inner.0, inner.1) refl
parts_write_back d p h = cc

-- ---- edits

pub reads_back : (e : Place × WordTree) → hub_place_fits e.0 ≡ true → counts_fit e.1 ≡ true → numbers_fit e.1 ≡ true → edit_of_tree (tree_of_edit e) ≡ Ok e
reads_back e fits counts numbers = ap edit_of_hub_parts (parts_read_back e fits) ∙ ap (edit_with e.0) (word_reads e.1 counts numbers)

with_writes_back : (place : Place) (o : Option WordTree) (e : Place × WordTree) → edit_with place o ≡ Ok e → (place ≡ e.0) × (o ≡ Some e.1)
with_writes_back place None e h = cc
with_writes_back place (Some w) e h =
    let first : place ≡ e.0 = cc in
    let second : w ≡ e.1 = cc in
    (first, ap Some second)

parts_of_edit : (o : Option (Place × Data)) (e : Place × WordTree) → edit_of_hub_parts o ≡ Ok e → (p : Place × Data) × (o ≡ Some p) × (p.0 ≡ e.0) × (word_of_tree p.1 ≡ Some e.1)
parts_of_edit None e h = cc
parts_of_edit (Some p) e h = let t = with_writes_back p.0 (word_of_tree p.1) e h in (p, refl, t.0, t.1)

pub writes_back : (d : Data) (e : Place × WordTree) → edit_of_tree d ≡ Ok e → (counts_fit e.1 ≡ true) × (numbers_fit e.1 ≡ true) × (tree_of_edit e ≡ d)
writes_back d e h =
    let p = parts_of_edit (hub_edit_parts d) e h in
    let w = word_writes_back p.0.1 e.1 p.3 in
    let whole : tree_of_edit e ≡ of_parts p.0 = ap₂ (λ t q. object (member (codes "at") (tree_of_hub_place q) (member (codes "edit") t no_members))) w.0 (sym p.2) in
    (w.1, w.2, whole ∙ parts_write_back d p.0 p.1)

-- ---- lines

if_json_tree : (o : Option Data) (e : Place × WordTree) → edit_if_json o ≡ Ok e → (counts_fit e.1 ≡ true) × (o ≡ Some (tree_of_edit e))
if_json_tree None e h = cc
if_json_tree (Some d) e h = let w = writes_back d e h in (w.0, ap Some (sym w.2))

line_tree : (line : Line) (e : Place × WordTree) → edit_of_line line ≡ Ok e → (counts_fit e.1 ≡ true) × (tree_of_line line ≡ Some (tree_of_edit e))
line_tree (Text bytes) e h = if_json_tree (tree_of_text bytes) e h
line_tree TooLong e h = cc

line_reads_back : (line : Line) (e : Place × WordTree) → hub_place_fits e.0 ≡ true → counts_fit e.1 ≡ true → numbers_fit e.1 ≡ true → tree_of_line line ≡ Some (tree_of_edit e) → edit_of_line line ≡ Ok e
line_reads_back (Text bytes) e fits counts numbers h = ap edit_if_json h ∙ reads_back e fits counts numbers
line_reads_back TooLong e fits counts numbers h = cc

-- ---- what is given, and what is refused

-- a definition that gives an edit does not refuse
no_refusal : (answer : Result (Place × WordTree) LineFault) (e : Place × WordTree) (fault : EntryFault) → fault ≢ NoMemory → Gives edit_tree (Err fault) answer → answer ≡ Ok e → ⊥
no_refusal answer e NoMemory not_memory gives ok = not_memory refl
no_refusal answer e LineTooLong not_memory gives ok = cc
no_refusal answer e NotJson not_memory gives ok = cc
no_refusal answer e NotAnEntry not_memory gives ok = cc
no_refusal answer e NotAnEdit not_memory gives ok = cc

pub line_counts : (r : Result (HubSide × Word) EntryFault) (line : Line) → Gives edit_tree r (edit_of_line line) → IfOk r (λ e. counts_fit (word_tree e.1) ≡ true)
line_counts (Ok e) line h = (line_tree line (edit_tree e) h).0
line_counts (Err fault) line h = tt

pub line_given : (r : Result (HubSide × Word) EntryFault) (line : Line) → Gives edit_tree r (edit_of_line line) → IfOk r (λ e. tree_of_line line ≡ Some (tree_of_edit (edit_tree e)))
line_given (Ok e) line h = (line_tree line (edit_tree e) h).1
line_given (Err fault) line h = tt

pub line_refused : (r : Result (HubSide × Word) EntryFault) (line : Line) → Gives edit_tree r (edit_of_line line)
    → IfErr r (λ fault. fault ≢ NoMemory → (e : Place × WordTree) → hub_place_fits e.0 ≡ true → counts_fit e.1 ≡ true → numbers_fit e.1 ≡ true → tree_of_line line ≡ Some (tree_of_edit e) → ⊥)
line_refused (Ok e) line h = tt
line_refused (Err fault) line h = λ not_memory e fits counts numbers tree. no_refusal (edit_of_line line) e fault not_memory h (line_reads_back line e fits counts numbers tree)
