use Rattle.std.proofs.Common.{◌≡◌, Vec, Global, ℕ, ℤ, List, [], ◌∷◌, Option, Some, Result, Ok, map, sym, ap, subst, ◌∙◌, rules}
use Rattle.std.proofs.lemmas.List.{map-append}
use Rattle.std.proofs.lemmas.Result.{err_from_is_err_and}
use Rattle.json.specs.Json.{Json}
use Rattle.json.specs.Strict.{keys}
use Rattle.hold_shapes.specs.declared.shape.Shape.TheVariants.{Keyed as KeyedOf}
use Rattle.doc_values.specs.Documents.{DocTree, hold, doc_tree, docs_tree}
use Rattle.doc_values.specs.declared.doc.Doc.{Doc}
use Rattle.file_trees.specs.FileTrees.{file_tree, members_view}
use Rattle.file_forms.specs.declared.literal.Literal.{Literal}
use Rattle.file_forms.specs.Orders.{by_name}
use Rattle.file_forms.specs.Forms.{FileFormTree, as_int, as_text, as_enum, as_words, as_number, form_names, file_form_tree, forms_view}
use Rattle.file_forms.specs.declared.form.FileForm.{FileForm, Int, Text, Enum, Words, Number, the_lemmas}
use Rattle.file_forms.proofs.FormParts.{form-Object}
use Rattle.file_values.specs.Reading.{Misfit, Reads, slot_of, lent_members, fault_view, map_ok, inside, known_members, members_reading, map_reading, reading}
use Rattle.file_values.specs.declared.misfit.FileStep.TheVariants.{Member}
use Rattle.file_values.specs.declared.misfit.ReadFault.{ReadFault}
use Rattle.file_values.proofs.ReadLoops.{after, before_all, strangers_refused, next_member, member_refused, members_done, fails_with}
use Rattle.file_values.proofs.read.+read.Goals as goal

-- ---- by the kind of form

form-Int : (z : ℤ) → file_form_tree (Int z) ≡ as_int z
form-Int z = search (rules, the_lemmas)

form-Text : (s : List ℕ) → file_form_tree (Text s) ≡ as_text s
form-Text s = search (rules, the_lemmas)

form-Enum : (ms : List (List ℕ)) (n : List ℕ) → file_form_tree (Enum ms n) ≡ as_enum ms n
form-Enum ms n = search (rules, the_lemmas)

form-Words : (ws : Vec (List ℕ × Literal) Global) (n : List ℕ) → file_form_tree (Words ws n) ≡ as_words ws.items n
form-Words ws n = search (rules, the_lemmas)

form-Number : (s : List ℕ) → file_form_tree (Number s) ≡ as_number s
form-Number s = search (rules, the_lemmas)

by_form : (r : Result Doc ReadFault) (form : FileForm) (f : FileFormTree) (s : Option Json) → file_form_tree form ≡ f → Reads doc_tree r (reading f s) → Reads doc_tree r (reading (file_form_tree form) s)
by_form r form f s is h = subst (λ (g : FileFormTree). Reads doc_tree r (reading g s)) (sym is) h

pub read-returns-in-Int : goal.read-returns-in-Int
read-returns-in-Int t c =
    let z = c.in-Int.field-0 in
    by_form c.read_int.result c.args.form.now (as_int z) (slot_of c.args.slot) (ap file_form_tree c.in-Int.is ∙ form-Int z) (c.read_int.ensures z)

pub read-returns-in-Text : goal.read-returns-in-Text
read-returns-in-Text t c =
    let s = c.in-Text.field-0 in
    by_form c.read_text.result c.args.form.now (as_text s) (slot_of c.args.slot) (ap file_form_tree c.in-Text.is ∙ form-Text s) (c.read_text.ensures s)

pub read-returns-in-Enum : goal.read-returns-in-Enum
read-returns-in-Enum t c =
    let ms = c.in-Enum.members in
    let n = c.in-Enum.field-1 in
    by_form c.read_pick.result c.args.form.now (as_enum ms n) (slot_of c.args.slot) (ap file_form_tree c.in-Enum.is ∙ form-Enum ms n) (c.read_pick.ensures n)

pub read-returns-in-Words : goal.read-returns-in-Words
read-returns-in-Words t c =
    let ws = c.in-Words.words in
    let n = c.in-Words.field-1 in
    let same = ap (λ x. as_words x n) (sym c.as_slice.ensures.value) in
    by_form c.read_word.result c.args.form.now (as_words c.as_slice.result.now n) (slot_of c.args.slot) (ap file_form_tree c.in-Words.is ∙ form-Words ws n ∙ same) (c.read_word.ensures n)

pub read-returns-in-Number : goal.read-returns-in-Number
read-returns-in-Number t c =
    let s = c.in-Number.field-0 in
    by_form c.read_number.result c.args.form.now (as_number s) (slot_of c.args.slot) (ap file_form_tree c.in-Number.is ∙ form-Number s) (c.read_number.ensures s)

pub read-returns-in_err-members-in-Object : goal.read-returns-in_err-members-in-Object
read-returns-in_err-members-in-Object t c =
    let s = slot_of c.args.slot in
    let fields = c.in-Object.fields in
    let p = err_from_is_err_and c.from_residual-in_err-members-in-Object.result c.from_residual-in_err-members-in-Object.ensures.1 in
    rw (p.1, p.2)
    (fails_with (fault_view c.in_err-members-in-Object.field-0.0) (known_members (form_names (forms_view c.as_slice-in-Object.result.now)) s) (reading (file_form_tree c.args.form.now) s)
    (λ m h. ap (λ f. reading f s) (ap file_form_tree c.in-Object.is ∙ form-Object fields) ∙ strangers_refused fields.items c.as_slice-in-Object.result.now s m c.as_slice-in-Object.ensures.value h)
    c.in_err-members-in-Object.ensures)

-- ---- loops

pub read_fields-loop-field-init : goal.read_fields-loop-field-init
read_fields-loop-field-init t c = before_all _ _ (ap (map doc_tree) c.in_ok-docs.ensures.items)

pub read_items-loop-i-init : goal.read_items-loop-i-init
read_items-loop-i-init t c = before_all _ _ (ap (map doc_tree) c.in_ok-docs.ensures.items)

pub read_map-loop-name-init : goal.read_map-loop-name-init
read_map-loop-name-init t c =
    let read = λ (j : Json). reading (file_form_tree c.args.inner.now.value) (Some j) in
    let cs = map doc_tree c.in_ok-docs.docs.items in
    let all = ap lent_members (c.into_iter-name-iterator.ensures.into_iter_gives ∙ c.iter-name-items.ensures.rest) ∙ c.in_ok-ordered.ensures.members in
    before_all cs (members_reading read (by_name (members_view c.args.members.now))) (ap (map doc_tree) c.in_ok-docs.ensures.items)
    ∙ ap (λ ms. after cs (members_reading read ms)) (sym all)

pub read_map-returns-in_err-in_member : goal.read_map-returns-in_err-in_member
read_map-returns-in_err-in_member t c =
    let l = c.loop-name in
    let read = λ (j : Json). reading (file_form_tree c.args.inner.now.value) (Some j) in
    let outcome = reading (file_form_tree c.deref.result.now) (Some (file_tree c.in-Some.content.now.now)) in
    let members = members_view c.args.members.now in
    let cs = map doc_tree l.docs.items in
    let k = c.in-Some.name.now.now in
    let j = file_tree c.in-Some.content.now.now in
    let same : c.args.inner.now.value ≡ c.deref.result.now = search rules in
    let left = ap (λ ms. after cs (members_reading read (lent_members ms))) c.in-Some.ensures.steps in
    let p = err_from_is_err_and c.from_residual-in_err-in_member.result c.from_residual-in_err-in_member.ensures.1 in
    rw (p.1, p.2)
    (fails_with (fault_view c.in_err-in_member.field-0.0) (inside (Member k) outcome) (map_reading read members)
    (λ m h. ap (map_ok (hold (KeyedOf (keys (by_name members)))))
    (l.invariant ∙ left ∙ member_refused read k j (lent_members c.next.new.self) cs m (ap (λ f. inside (Member k) (reading (file_form_tree f) (Some j))) same ∙ h)))
    (c.in_err-in_member.ensures outcome c.read-doc.ensures))

pub read_map-loop-name-preserved : goal.read_map-loop-name-preserved
read_map-loop-name-preserved t c =
    let l = c.loop-name in
    let read = λ (j : Json). reading (file_form_tree c.args.inner.now.value) (Some j) in
    let cs = map doc_tree l.docs.items in
    let k = c.in-Some.name.now.now in
    let j = file_tree c.in-Some.content.now.now in
    let rest = lent_members c.next.new.self in
    let doc = c.in_ok-in_member.field-0 in
    let same : c.args.inner.now.value ≡ c.deref.result.now = search rules in
    let left = ap (λ ms. after cs (members_reading read (lent_members ms))) c.in-Some.ensures.steps in
    let one = ap (λ f. inside (Member k) (reading (file_form_tree f) (Some j))) same ∙ c.in_ok-in_member.ensures (reading (file_form_tree c.deref.result.now) (Some j)) c.read-doc.ensures in
    let more = ap (map doc_tree) c.in_ok-push.ensures.items ∙ map-append doc_tree l.docs.items (doc ∷ []) in
    l.invariant ∙ left ∙ next_member read k j rest cs (doc_tree doc) one ∙ ap (λ xs. after xs (members_reading read rest)) (sym more)

pub read_map-returns : goal.read_map-returns
read_map-returns t c =
    let l = c.loop-name in
    let read = λ (j : Json). reading (file_form_tree c.args.inner.now.value) (Some j) in
    let members = members_view c.args.members.now in
    let cs = map doc_tree l.docs.items in
    let docs = docs_tree c.in_ok-from_vec.field-0 in
    let last = ap (λ ms. after cs (members_reading read (lent_members ms))) c.in-None.ensures.steps.0 in
    let all : members_reading read (by_name members) ≡ Ok docs = l.invariant ∙ last ∙ members_done read cs ∙ ap (λ ds. Ok ds) (sym c.in_ok-from_vec.ensures) in
    let whole = ap (map_ok (hold (KeyedOf (keys (by_name members))))) all in
    let named = ap (λ ms. map_ok (hold (KeyedOf (keys ms))) (Ok docs)) c.in_ok-ordered.ensures.members in
    subst (λ (o : Result DocTree Misfit). Reads doc_tree c.keyed.result o) (named ∙ sym whole) c.keyed.ensures
