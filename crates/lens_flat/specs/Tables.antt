-- Tables of nodes: the form of each node, and what holds of a table.
-- In order: `form_at`, `AreSound`, `IsCompiled`; then what the calls that compile and that translate say.
use Rattle.std.specs.Prelude.{◌≡◌, ℕ, ◌<◌, ◌≤◌, IsTrue, List, [], ◌∷◌, ◌++◌, length, slice_get, slice_index_or, Option}
use Rattle.std.specs.Prelude.{Some, option_map}
use Rattle.doc_values.specs.Types.{no_fields, fields_tree}
use Rattle.lens_forms.specs.Forms.{FormTree, form_then, form_rec, form_alt, form_part, form_inv, form_row_list}
use Rattle.lens_forms.specs.Forms.{form_tree}
use Rattle.lens_forms.specs.Forms.{rows_tree, arms_tree}
use Rattle.lens_core.specs.Complements.{comp_tree, comps_tree, missing}
use Rattle.lens_core.specs.Leaves.{is_leaf}
use Rattle.lens_branch.specs.AlternativeSteps.{arm_lens, arm_starts}
use Rattle.lens_branch.specs.RecordSteps.{row_lens}
use Rattle.lens_steps.specs.Kinds.{mapped}
use Rattle.lens_steps.specs.Ready.{IsReady}
use Rattle.lens_flat.specs.declared.node.Node.{Node}
use Rattle.lens_flat.specs.declared.node.Node.TheVariants.{Leaf, Then, Record, Alternatives, Held, Partition, Inverse}
use Rattle.lens_flat.specs.declared.node.Entry.{Entry}

-- ---- the form of a node

-- the form of a node, from the forms of the nodes by their numbers
abbrev pub node_form : (ℕ → FormTree) → Node → FormTree
node_form forms (Leaf form) = form_tree form
node_form forms (Then first second) = form_then (forms first) (forms second)
node_form forms (Record rows inside) = form_rec (rows_tree rows)
node_form forms (Alternatives arms starts inside) = form_alt (arms_tree arms)
node_form forms (Held kind inside) = mapped kind (forms inside)
node_form forms (Partition tags) = form_part (fields_tree tags)
node_form forms (Inverse inside) = form_inv (forms inside)

-- the form of a number in a list; past its end a form that is not typed
abbrev pub form_in : List FormTree → ℕ → FormTree
form_in forms n = slice_index_or forms n (form_part no_fields)

-- the forms of the nodes, one after the other, behind those that are done
abbrev pub forms_behind : List FormTree → List Entry → List FormTree
forms_behind done [] = done
forms_behind done (e ∷ es) = forms_behind (done ++ node_form (form_in done) e.node ∷ []) es

-- the form of the node of a number
unfoldable pub form_at : List Entry → ℕ → FormTree
form_at table n = form_in (forms_behind [] table) n

-- ---- what holds of a table

-- the nodes of these numbers are before the bound, and their forms are those that a form has inside
pub record AreLenses (forms : ℕ → FormTree) (bound : ℕ) (lens : ℕ → Option FormTree) (inside : List ℕ) : Type 0 where
  pub below : (i k : ℕ) → slice_get inside i ≡ Some k → k < bound
  pub found : (i : ℕ) → lens i ≡ option_map forms (slice_get inside i)

-- what holds of a node with a number: the lenses inside are nodes before it
abbrev pub IsNode : (ℕ → FormTree) → ℕ → Node → Type 0
IsNode forms n (Leaf form) = IsTrue (is_leaf (form_tree form))
IsNode forms n (Then first second) = (first < n) × (second < n)
IsNode forms n (Record rows inside) = AreLenses forms n (row_lens (form_row_list (rows_tree rows))) inside.items
IsNode forms n (Alternatives arms starts inside) =
    (comps_tree starts ≡ arm_starts (arms_tree arms)) × AreLenses forms n (arm_lens (arms_tree arms)) inside.items
IsNode forms n (Held kind inside) = inside < n
IsNode forms n (Partition tags) = Unit {0}
IsNode forms n (Inverse inside) = inside < n

-- the entry of a number has a node with this form, and its missing complement
pub record IsEntry (table : List Entry) (n : ℕ) (e : Entry) : Type 0 where
  pub inside : IsNode (form_at table) n e.node
  pub form_is : form_at table n ≡ node_form (form_at table) e.node
  pub start : comp_tree e.missing ≡ missing (form_at table n)

abbrev pub AreSound : List Entry → Type 0
AreSound table = (n : ℕ) (e : Entry) → slice_get table n ≡ Some e → IsEntry table n e

-- the node of the number, in a sound table, has this form
pub record IsCompiled (table : List Entry) (n : ℕ) (form : FormTree) : Type 0 where
  pub sound : AreSound table
  pub within : n < length table
  pub form_is : form_at table n ≡ form

-- ---- what the calls that compile say

-- the table is sound, and its earlier nodes have the forms that they had
pub record Grows (old new : List Entry) : Type 0 where
  pub sound : AreSound new
  pub longer : length old ≤ length new
  pub same : (n : ℕ) → n < length old → form_at new n ≡ form_at old n

-- the table has a node for a form, with this number
pub record Adds (old new : List Entry) (form : FormTree) (n : ℕ) : Type 0 where
  pub grows : Grows old new
  pub within : n < length new
  pub form_is : form_at new n ≡ form

-- the table has the nodes for the lenses inside a node, which may be added next
pub record Readies (old new : List Entry) (form : FormTree) (node : Node) : Type 0 where
  pub grows : Grows old new
  pub inside : IsNode (form_at new) (length new) node
  pub form_is : node_form (form_at new) node ≡ form

-- the table has nodes for lenses inside, with these numbers
pub record AddsLenses (old new : List Entry) (lens : ℕ → Option FormTree) (inside : List ℕ) : Type 0 where
  pub grows : Grows old new
  pub lenses : AreLenses (form_at new) (length new) lens inside

-- ---- what the calls that translate ask

-- the node of the number is there, and its form is ready for a run
pub record IsReadyAt (table : List Entry) (n : ℕ) : Type 0 where
  pub sound : AreSound table
  pub within : n < length table
  pub ready : IsReady (form_at table n)

-- the number is that of this node, which is ready for a run
pub record IsAt (table : List Entry) (n : ℕ) (node : Node) : Type 0 where
  pub here : IsReadyAt table n
  pub inside : IsNode (form_at table) n node
  pub form_is : form_at table n ≡ node_form (form_at table) node
