-- The texts of trees, and that the text of a snapshot is read back.
use Rattle.std.proofs.Common.{◌≡◌, ℕ, suc, ◌≤◌, max, List, [], ◌++◌, false, Some, option_and_then, String, Global, codes, refl, sym, ap, ap₂, ◌∙◌, arith, append_assoc, append-nil}
use Rattle.std.specs.Prelude.{string_bytes}
use Rattle.json.specs.Token.{Token}
use Rattle.json.specs.Lex.{tokens}
use Rattle.json.specs.Json as json
use Rattle.json.specs.Print.{escape_byte}
use Rattle.json.specs.Tree.{json_tokens, HasNumbers}
use Rattle.json.specs.Tree as tree
use Rattle.json.proofs.Numbered.{ArePrintableOrBad-tokens, value-HasNumbers}
use Rattle.json.proofs.Printed.Tokens.{tokens-print}
use Rattle.json.proofs.Printed.Trees.{value-json_tokens, ArePrintable-json_tokens}
use Rattle.serde_json.specs.Data.{Data, null, boolean, number, string, array, object, Items, no_items, item, Members, no_members, member, depth, items_depth, members_depth}
use Rattle.serde_json.specs.Read.{read, of_json, max_depth}
use Rattle.serde_json.specs.Written.{outline, items_outline, members_outline, has_float, compact_text, IsInOrder}
use Rattle.serde_json.proofs.Texts.{tokens_from_order, print-outline}
use Rattle.edit_journal.specs.EntryJson.{tree_of_text}
use Rattle.edit_session.specs.Step.{TripleTree}
use Rattle.complement_file.specs.ComplementJson.{tree_of_complement}
use Rattle.value_json.specs.DocumentJson.{tree_of_document}
use Rattle.run_answers.specs.Answers.{state_lines}
use Rattle.lens_forms.specs.Forms.{FormTree, left_type, right_type}
use Rattle.value_json.specs.SmallTrees.{one_member}
use Rattle.store_records.proofs.PayloadTrees.{string_read}
use Rattle.store_session.specs.StoredStates.{HasSnapshot, snapshot_text, state_with}
use Rattle.store_undo.specs.TreeTexts.{IsTreeText, AreTreeTexts}
use Rattle.store_undo.specs.declared.tree_texts.TreeTexts.{TreeTexts}

-- ---- the outline of a tree nests as deep as the tree

mutual
  outline_depth : (d : Data) → tree.depth (outline d) ≡ depth d
  outline_depth null = refl
  outline_depth (boolean b) = refl
  outline_depth (number n) = refl
  outline_depth (string s) = refl
  outline_depth (array ds) = ap suc (items_outline_depth ds)
  outline_depth (object ms) = ap suc (members_outline_depth ms)

  items_outline_depth : (ds : Items) → tree.items_depth (items_outline ds) ≡ items_depth ds
  items_outline_depth no_items = refl
  items_outline_depth (item d ds) = ap₂ max (outline_depth d) (items_outline_depth ds)

  members_outline_depth : (ms : Members) → tree.members_depth (members_outline ms) ≡ members_depth ms
  members_outline_depth no_members = refl
  members_outline_depth (member k d ms) = ap₂ max (outline_depth d) (members_outline_depth ms)

-- ---- the text of a tree

-- the tokens of a tree that is low enough are read as its outline
outline_read : (d : Data) (ts : List Token) → ts ≡ json_tokens (outline d) → depth d ≤ max_depth → json.value max_depth ts ≡ Some (outline d, [])
outline_read d ts is low =
    ap (json.value max_depth) (is ∙ sym (append-nil (json_tokens (outline d))))
    ∙ value-json_tokens (outline d) max_depth [] (omega (arith, outline_depth d, low))

read_as : (d : Data) (text : List ℕ) → tokens text ≡ json_tokens (outline d) → depth d ≤ max_depth → read text ≡ of_json (outline d)
read_as d text is low = ap (λ o. option_and_then of_json (option_and_then (λ p. json.if_last p.0 p.1) o)) (outline_read d (tokens text) is low)

-- what was written for a tree is its text
pub written : (d : Data) (text : List ℕ) → has_float d ≡ false → depth d ≤ max_depth → text ≡ compact_text d → IsInOrder text d → read text ≡ Some d → IsTreeText d text
written d text whole low is order back =
    let same = tokens_from_order text d order whole in
    record {
      text_is = is;
      numbers = value-HasNumbers max_depth (tokens text) [] (outline d) (ArePrintableOrBad-tokens text) (outline_read d (tokens text) same low);
      back = sym (read_as d text same low) ∙ back;
    }

-- the text of a tree is read back
text_read : (d : Data) → HasNumbers (outline d) → of_json (outline d) ≡ Some d → depth d ≤ max_depth → read (compact_text d) ≡ Some d
text_read d numbers back low =
    let same : tokens (compact_text d) ≡ json_tokens (outline d) =
    ap tokens (sym (print-outline d)) ∙ tokens-print (json_tokens (outline d)) (ArePrintable-json_tokens (outline d) numbers) in
    read_as d (compact_text d) same low ∙ back

-- ---- the text of a snapshot

-- the tree of a snapshot of these trees
abbrev snapshot_tree : Data → Data → Data → Data
snapshot_tree c x y = one_member (codes "snapshot") (object (member (codes "complement") c (member (codes "left") x (member (codes "right") y no_members))))

-- what stands around the three texts
abbrev pub around : List ℕ → List ℕ → List ℕ → List ℕ
around c x y = codes "{\"snapshot\":{\"complement\":" ++ (c ++ (codes ",\"left\":" ++ (x ++ (codes ",\"right\":" ++ (y ++ codes "}}")))))

snapshot_written : (c x y : Data) → compact_text (snapshot_tree c x y) ≡ around (compact_text c) (compact_text x) (compact_text y)
unfolding escape_byte
snapshot_written c x y = simp append_assoc

snapshot_back : (c x y : Data) → of_json (outline c) ≡ Some c → of_json (outline x) ≡ Some x → of_json (outline y) ≡ Some y → of_json (outline (snapshot_tree c x y)) ≡ Some (snapshot_tree c x y)
snapshot_back c x y left comp right = rw (left, comp, right) refl

-- the three texts with what stands around them are the snapshot of the triple
pub around_is : (l : FormTree) (t : TripleTree) (made : TreeTexts) → AreTreeTexts l t made
    → around (string_bytes made.comp) (string_bytes made.left) (string_bytes made.right) ≡ snapshot_text (state_with l t)
around_is l t made h =
    rw (h.comp.text_is, h.left.text_is, h.right.text_is)
    (sym (snapshot_written (tree_of_complement l t.comp) (tree_of_document (left_type l) t.left) (tree_of_document (right_type l) t.right)))

-- and it is read back
pub has_snapshot : (l : FormTree) (t : TripleTree) (made : TreeTexts) (s : String Global) → AreTreeTexts l t made → string_bytes s ≡ snapshot_text (state_with l t) → HasSnapshot (state_with l t)
has_snapshot l t made s h is =
    let c = tree_of_complement l t.comp in
    let x = tree_of_document (left_type l) t.left in
    let y = tree_of_document (right_type l) t.right in
    let d = snapshot_tree c x y in
    let numbers : HasNumbers (outline d) = ((h.comp.numbers, (h.left.numbers, (h.right.numbers, tt))), tt) in
    let back = snapshot_back c x y h.comp.back h.left.back h.right.back in
    record {
      reads = ap tree_of_text (sym is) ∙ string_read s d (ap read is ∙ text_read d numbers back h.low);
      consistent = h.consistent;
      left_whole = h.left_whole;
      right_whole = h.right_whole;
    }

-- ---- the state lines

-- each of the three texts between its label and a line feed
pub state_written : (l : FormTree) (t : TripleTree) (made : TreeTexts) → AreTreeTexts l t made
    → ((codes "left " ++ (string_bytes made.left ++ codes "\n")) ++ (codes "right " ++ (string_bytes made.right ++ codes "\n"))) ++ (codes "complement " ++ (string_bytes made.comp ++ codes "\n")) ≡ state_lines l t
state_written l t made h = rw (h.left.text_is, h.right.text_is, h.comp.text_is) refl
