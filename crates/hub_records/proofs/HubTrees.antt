-- The trees of a hub's records: no float, how deep they nest, and how a loop puts them together.
use Rattle.std.proofs.Common.{◌≡◌, ℕ, ◌+◌, ◌*◌, ◌<◌, ◌≤◌, add-one, false, List, [], ◌∷◌, ◌++◌, map, take, length, get_or, refl, ap, ◌∙◌, arith}
use Rattle.std.proofs.Math.Seq.{take-suc}
use Rattle.std.proofs.lemmas.Bool.{or_from}
use Rattle.std.proofs.lemmas.List.{take_all, map-append}
use Rattle.serde_json.specs.Data.{Data, string, item, depth, items_depth}
use Rattle.serde_json.specs.Read.{max_depth}
use Rattle.serde_json.specs.View.{items_of}
use Rattle.serde_json.specs.Written.{has_float, items_have_float}
use Rattle.value_json.proofs.TreeDepths as documents
use Rattle.edit_module.specs.Words.{WordTree}
use Rattle.edit_json.proofs.TreeDepths.{shallow as word_shallow}
use Rattle.edit_module.specs.Depths.{word_depth}
use Rattle.complement_file.proofs.Floats as complements
use Rattle.store_records.proofs.ComplementDepths.{low}
use Rattle.lens_forms.specs.Forms.{FormTree, left_type, right_type}
use Rattle.lens_forms.specs.declared.limits.TheConstants.{GREATEST_HEIGHT}
use Rattle.program_terms.specs.Views.{program_tree}
use Rattle.program_terms.specs.declared.program.Program.{Program}
use Rattle.program_writing.specs.Canonical.{canonical}
use Rattle.view_hub.specs.Hubs.{ViewTree, HubTree, Place, at_hub, at_view}
use Rattle.hub_run.specs.EditJson.{tree_of_hub_place, tree_of_edit}
use Rattle.hub_records.specs.HubRecords.{items_of_texts, tree_of_programs, items_of_views, tree_of_hub, tree_of_hub_snapshot}
use Rattle.hub_records.specs.LowForms.{AllLow}
use Rattle.hub_records.specs.Views.{canonical_texts}

-- ---- texts of programs

abbrev pub text_tree : Program → Data
text_tree p = string (canonical (program_tree p))

all_texts : (ps : List Program) → items_of (map text_tree ps) ≡ items_of_texts (canonical_texts ps)
all_texts [] = refl
all_texts (p ∷ ps) = ap (item (text_tree p)) (all_texts ps)

pub push_text : (ps : List Program) (i : ℕ) (p : Program) (xs : List Data) (x : Data) → i < length ps → p ≡ get_or ps i p → xs ≡ map text_tree (take i ps) → x ≡ text_tree p
    → xs ++ x ∷ [] ≡ map text_tree (take (i + 1) ps)
push_text ps i p xs x within is so_far here =
    rw (so_far, here, add-one, take-suc ps i p within, map-append) (ap (λ y. map text_tree (take i ps) ++ text_tree y ∷ []) is)

pub texts_written : (ps : List Program) (i : ℕ) → length ps ≤ i → items_of (map text_tree (take i ps)) ≡ items_of_texts (canonical_texts ps)
texts_written ps i past = ap (λ xs. items_of (map text_tree xs)) (take_all i ps past) ∙ all_texts ps

texts_whole : (ts : List (List ℕ)) → items_have_float (items_of_texts ts) ≡ false
texts_whole [] = refl
texts_whole (t ∷ ts) = texts_whole ts

pub programs_whole : (ts : List (List ℕ)) → has_float (tree_of_programs ts) ≡ false
programs_whole ts = or_from _ _ (texts_whole ts) refl

texts_flat : (ts : List (List ℕ)) → items_depth (items_of_texts ts) ≡ 0
texts_flat [] = refl
texts_flat (t ∷ ts) = omega (arith, texts_flat ts)

pub programs_low : (ts : List (List ℕ)) → depth (tree_of_programs ts) ≤ max_depth
programs_low ts = omega (arith, texts_flat ts)

-- ---- edits

place_flat : (p : Place) → depth (tree_of_hub_place p) ≡ 0
place_flat at_hub = refl
place_flat (at_view k) = refl

pub edit_shallow : (e : Place × WordTree) → depth (tree_of_edit e) ≤ 3 * word_depth e.1 + 2
edit_shallow e = omega (arith, word_shallow e.1, place_flat e.0)

-- ---- snapshots

views_whole : (ls : List FormTree) (vs : List ViewTree) → items_have_float (items_of_views ls vs) ≡ false
views_whole (l ∷ ls) (v ∷ vs) = or_from _ _ (or_from _ _ (complements.whole l v.comp) (or_from _ _ (documents.whole (right_type l) v.doc) refl)) (views_whole ls vs)
views_whole [] vs = refl
views_whole (l ∷ ls) [] = refl

hub_whole : (ls : List FormTree) (h : HubTree) → has_float (tree_of_hub ls h) ≡ false
hub_whole [] h = refl
hub_whole (l ∷ ls) h = or_from _ _ (documents.whole (left_type l) h.hub) (or_from _ _ (views_whole (l ∷ ls) h.views) refl)

pub snapshot_whole : (ls : List FormTree) (h : HubTree) → has_float (tree_of_hub_snapshot ls h) ≡ false
snapshot_whole ls h = or_from _ _ (hub_whole ls h) refl

views_low : (ls : List FormTree) (vs : List ViewTree) → AllLow ls → items_depth (items_of_views ls vs) ≤ 3 * GREATEST_HEIGHT + 1
views_low (l ∷ ls) (v ∷ vs) all =
    let form = all.0.form in
    let type = all.0.right in
    omega (arith, low l v.comp, documents.shallow (right_type l) v.doc, form, type, views_low ls vs all.1)
views_low [] vs all = omega arith
views_low (l ∷ ls) [] all = omega arith

pub snapshot_low : (ls : List FormTree) (h : HubTree) → AllLow ls → depth (tree_of_hub_snapshot ls h) ≤ max_depth
snapshot_low [] h all = omega arith
snapshot_low (l ∷ ls) h all =
    let type = all.0.left in
    omega (arith, documents.shallow (left_type l) h.hub, type, views_low (l ∷ ls) h.views all)
