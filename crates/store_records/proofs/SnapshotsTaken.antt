-- Payloads that are read from tokens: the first one, and snapshots. What each part gives the whole.
use Rattle.std.proofs.Common.{◌≡◌, ℕ, ◌-◌, ◌<◌, true, List, [], ◌∷◌, Option, Some, None, option_map, option_and_then, codes, refl, sym, ap, subst, ◌∙◌, arith}
use Rattle.std.specs.Str.{IsUtf8}
use Rattle.json.specs.Token.{Token, begin_object}
use Rattle.json.specs.Lex.{tokens}
use Rattle.json.specs.Json as json
use Rattle.json.specs.Json.{read_key, parse_map}
use Rattle.serde_json.specs.Data.{Data, string, object, Members, no_members, member}
use Rattle.serde_json.specs.Find.{as_str}
use Rattle.serde_json.specs.Read.{of_json, read}
use Rattle.doc_values.specs.Documents.{doc_tree}
use Rattle.doc_values.specs.Types.{TyTree}
use Rattle.value_json.specs.Numbers.{count_of}
use Rattle.value_json.specs.DocumentJson.{document_of}
use Rattle.edit_journal.specs.EntryJson.{tree_of_text}
use Rattle.edit_journal.proofs.Texts.{text_read}
use Rattle.edit_session.specs.declared.triple.Triple.{Triple}
use Rattle.json_tokens.specs.TreesAt.{tree_at, members_at, read_at}
use Rattle.json_tokens.proofs.Conversions.{found}
use Rattle.json_tokens.proofs.TreesAt.{object_at, end_of_members, more_members}
use Rattle.json_tokens.proofs.ReadParts.{read_of, one_member_read, two_members_read}
use Rattle.lens_core.specs.Complements.{CompTree, comp_tree}
use Rattle.lens_forms.specs.Forms.{FormTree, left_type, right_type}
use Rattle.lens_forms.specs.Typing.{is_typed}
use Rattle.complement_file.specs.Reading.{IsComplement}
use Rattle.complement_file.specs.Taken.{TakesComp}
use Rattle.store_records.specs.RecordJson.{snapshot_record, opening_of, three_parts, record_of}
use Rattle.store_records.specs.SnapshotsTaken.{TakesParts, TakesSnapshot}
use Rattle.store_records.specs.StoredComplements.{complement_of}
use Rattle.store_records.proofs.ComplementsAreRead.{read_back}

-- ---- a payload

pub payload_read : {X : Type 0} (f : Data → Option X) (text : List ℕ) (x : X) → IsUtf8 text → read_at f 127 (tokens text) ≡ Some (x, []) → option_and_then f (tree_of_text text) ≡ Some x
payload_read f text x utf8 h =
    let p = found f (tree_at 127 (tokens text)) x [] h in
    let j = found of_json (json.value 127 (tokens text)) p.0 [] p.1 in
    let tree : read text ≡ Some p.0 = ap (λ o. option_and_then of_json (option_and_then (λ q. json.if_last q.0 q.1) o)) j.1 ∙ j.2 in
    ap (option_and_then f) (text_read text p.0 (utf8, tree)) ∙ p.2

-- ---- the first record

pub alone_read : (t0 t1 t2 t3 : List Token) (text : List ℕ) → read_key t0 ≡ Some (Some (codes "program"), t1) → tree_at 126 t1 ≡ Some (string text, t2) → read_key t2 ≡ Some (None, t3)
    → read_at opening_of 127 (begin_object ∷ t0) ≡ Some ((text, 1), t3)
alone_read t0 t1 t2 t3 text key e end =
    one_member_read as_str opening_of 127 (codes "program") t0 t1 t2 t3 text (text, 1) (omega arith) key (read_of as_str 126 t1 (string text) t2 text e refl) end
    (λ d h. ap (option_map (λ s. (s, 1))) h)

pub with_version_read : (t0 t1 t2 t3 t4 t5 : List Token) (text : List ℕ) → read_key t0 ≡ Some (Some (codes "program"), t1) → tree_at 126 t1 ≡ Some (string text, t2)
    → read_key t2 ≡ Some (Some (codes "version"), t3) → read_at count_of 126 t3 ≡ Some (2, t4) → read_key t4 ≡ Some (None, t5) → read_at opening_of 127 (begin_object ∷ t0) ≡ Some ((text, 2), t5)
with_version_read t0 t1 t2 t3 t4 t5 text key e other version end =
    two_members_read as_str count_of opening_of 127 (codes "program") (codes "version") t0 t1 t2 t3 t4 t5 text 2 (text, 2) (omega arith) key
    (read_of as_str 126 t1 (string text) t2 text e refl) other version end
    (λ d c h k. rw (k, h) refl)

-- ---- snapshots

complement_taken : (l : FormTree) (t : Data) (c : CompTree) → is_typed l ≡ true → IsComplement l t c → complement_of l t ≡ Some c
complement_taken l t c typed h = ap (complement_of l) (sym h.1) ∙ read_back l typed c h.0

abbrev three : Data → Data → Data → Members
three c x y = member (codes "complement") c (member (codes "left") x (member (codes "right") y no_members))

three_at : (t0 t1 t2 t3 t4 t5 t6 t7 : List Token) (c x y : Data) → read_key t0 ≡ Some (Some (codes "complement"), t1) → tree_at 125 t1 ≡ Some (c, t2) → read_key t2 ≡ Some (Some (codes "left"), t3)
    → tree_at 125 t3 ≡ Some (x, t4) → read_key t4 ≡ Some (Some (codes "right"), t5) → tree_at 125 t5 ≡ Some (y, t6) → read_key t6 ≡ Some (None, t7)
    → read_at three_parts 126 (begin_object ∷ t0) ≡ Some ((c, x, y), t7)
three_at t0 t1 t2 t3 t4 t5 t6 t7 c x y first comp second left third right end =
    let members : members_at 125 no_members t0 ≡ Some (three c x y, t7) = more_members 125 no_members (codes "complement") t0 t1 c t2 first comp
    ∙ (more_members 125 (member (codes "complement") c no_members) (codes "left") t2 t3 x t4 second left
    ∙ (more_members 125 (member (codes "complement") c (member (codes "left") x no_members)) (codes "right") t4 t5 y t6 third right ∙ end_of_members 125 (three c x y) t6 t7 end)) in
    read_of three_parts 126 (begin_object ∷ t0) (object (three c x y)) t7 (c, x, y) (object_at 126 t0 (omega arith) ∙ ap (parse_map object) members) refl

pub parts_taken : (l : FormTree) (near far : TyTree) (t : Triple) (ts t0 t1 t2 t3 t4 t5 t6 t7 : List Token) → is_typed l ≡ true → near ≡ left_type l → far ≡ right_type l → ts ≡ begin_object ∷ t0
    → read_key t0 ≡ Some (Some (codes "complement"), t1) → TakesComp l 125 t1 (comp_tree t.comp) t2 → read_key t2 ≡ Some (Some (codes "left"), t3)
    → read_at (document_of near) 125 t3 ≡ Some (doc_tree t.left, t4) → read_key t4 ≡ Some (Some (codes "right"), t5) → read_at (document_of far) 125 t5 ≡ Some (doc_tree t.right, t6)
    → read_key t6 ≡ Some (None, t7) → TakesParts l 126 ts t t7
parts_taken l near far t ts t0 t1 t2 t3 t4 t5 t6 t7 typed is_left is_right opens first comp second left third right end =
    let x = found (document_of near) (tree_at 125 t3) (doc_tree t.left) t4 left in
    let y = found (document_of far) (tree_at 125 t5) (doc_tree t.right) t6 right in (
      (comp.0, x.0, y.0),
      ap (read_at three_parts 126) opens ∙ three_at t0 t1 t2 t3 t4 t5 t6 t7 comp.0 x.0 y.0 first comp.1 second x.1 third y.1 end,
      record {
        left = subst (λ ty. document_of ty x.0 ≡ Some (doc_tree t.left)) is_left x.2;
        comp = complement_taken l comp.0 (comp_tree t.comp) typed comp.2;
        right = subst (λ ty. document_of ty y.0 ≡ Some (doc_tree t.right)) is_right y.2;
      },
    )

pub snapshot_taken : (l : FormTree) (t : Triple) (ts t0 t1 t2 t3 : List Token) → ts ≡ begin_object ∷ t0 → read_key t0 ≡ Some (Some (codes "snapshot"), t1) → TakesParts l 126 t1 t t2
    → read_key t2 ≡ Some (None, t3) → TakesSnapshot l 127 ts t t3
snapshot_taken l t ts t0 t1 t2 t3 opens key h end = (
  h.0,
  ap (read_at record_of 127) opens
      ∙ one_member_read three_parts record_of 127 (codes "snapshot") t0 t1 t2 t3 h.0 (snapshot_record h.0) (omega arith) key h.1 end (λ d e. ap (option_map snapshot_record) e),
  h.2,
)
