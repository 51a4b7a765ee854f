-- The laws of a partition, from both sides.
use Rattle.std.proofs.Common.{◌≡◌, ℕ, ◌<◌, true, List, [], length, map, Some, option_map, Ok, refl, ap, sym, ◌∙◌, subst, arith}
use Rattle.std.proofs.lemmas.Bool.{eqb-true}
use Rattle.hold_shapes.specs.declared.shape.Shape.{Shape}
use Rattle.hold_shapes.specs.declared.shape.Shape.TheVariants.{List as ListOf, Keyed as KeyedOf, Tree as TreeOf}
use Rattle.hold_shapes.specs.Plans.{list_of}
use Rattle.texts.specs.declared.side.Side.{Side}
use Rattle.texts.specs.declared.side.Side.TheVariants.{Left, Right}
use Rattle.texts.proofs.Conjunction.{first}
use Rattle.doc_values.specs.Documents.{DocTree, rec, hold, DocTrees, docs_of, doc_list}
use Rattle.doc_values.specs.Types.{ty_rec, ty_alt, ty_list, FieldTrees, no_fields, more_fields, names_of, is_well_formed, are_well_formed, are_distinct, are_choices}
use Rattle.doc_values.specs.Typing.{has, has_each, is_list_of}
use Rattle.doc_values.specs.Initial.{initial, initial_fields}
use Rattle.edit_module.specs.Words.{PrimitiveTree, WordTree}
use Rattle.edit_module.specs.Action.{act_primitive}
use Rattle.lens_forms.specs.Forms.{form_part, left_type, right_type, sorted, lists_of}
use Rattle.lens_forms.specs.Typing.{is_typed}
use Rattle.lens_forms.proofs.TypingLaws.{left_formed, right_formed}
use Rattle.lens_core.specs.Sides.{type_on}
use Rattle.lens_core.specs.Complements.{CompTree, tags_comp, missing}
use Rattle.lens_core.specs.Tags.{tag_count, tag_name}
use Rattle.tag_seq.specs.Tags.{are_below}
use Rattle.lens_core.specs.Consistency.{IsConsistent, AreTyped, HasTheirContents, item_tag, list_doc}
use Rattle.lens_core.specs.Translation.{translate_one, part_one}
use Rattle.lens_core.specs.Laws.{IsRelated, Carries, Laws}
use Rattle.doc_values.proofs.InitialTypes.{has_initial}
use Rattle.doc_values.proofs.Lists.{doc_list-docs_of, docs_of-doc_list}
use Rattle.doc_values.proofs.DistinctNames.{are_choices-distinct}
use Rattle.edit_module.proofs.ActionKeepsTypes.{has_primitive, has_act}
use Rattle.lens_core.proofs.RecordFields.{content-initial}
use Rattle.lens_core.proofs.ItemLists.{Item, tags_of}
use Rattle.lens_core.proofs.RightLists.{right_lists, IsPartition, HasLists, item_docs, lists_by_tag, right_type_is, type_by_name, items_of, tags_of_items, theirs_are_lists, lists_are_theirs}
use Rattle.partition_lens.proofs.FromLeft.{left_step}
use Rattle.partition_lens.proofs.RightWords.{record_step}

-- ---- a consistent triple, by its items

record IsByItems (fs : FieldTrees) (x : DocTree) (c : CompTree) (y : DocTree) : Type 0 where
  items : List Item
  fields : DocTrees
  left : x ≡ list_doc (item_docs fs items)
  tags : c ≡ tags_comp (tags_of items)
  right : y ≡ rec fields
  lists : HasLists fs fields (lists_by_tag items)
  low : are_below (tag_count fs) (tags_of items) ≡ true
  left_has : has (ty_list (ty_alt fs)) (list_doc (item_docs fs items)) ≡ true

list_shape : (s : Shape) (n : ℕ) → is_list_of s n ≡ true → s ≡ list_of n
list_shape (ListOf s) n e = ap list_of (eqb-true s.count n e)
list_shape (KeyedOf names) n e = cc
list_shape (TreeOf depths) n e = cc

by_items : (fs : FieldTrees) → IsPartition fs → (s : Shape) (xs : DocTrees) (ts : List ℕ) (ys : DocTrees) → AreTyped (form_part fs) (hold s xs) (tags_comp ts) (rec ys)
    → map (item_tag fs) (doc_list xs) ≡ map Some ts → HasTheirContents fs (right_lists fs) ys (doc_list xs) → IsByItems fs (hold s xs) (tags_comp ts) (rec ys)
by_items fs p s xs ts ys typed tags theirs =
    let i = items_of fs (doc_list xs) ts tags in
    let shape_is = list_shape s (length (doc_list xs)) (first (is_list_of s (length (doc_list xs))) (has_each (ty_alt fs) xs) typed.left_has) in
    let whole : hold s xs ≡ list_doc (item_docs fs i.items) = ap (λ z. hold z xs) shape_is ∙ (ap (hold (list_of (length (doc_list xs)))) (sym (docs_of-doc_list xs)) ∙ ap list_doc i.left) in
    let low : are_below (tag_count fs) (tags_of i.items) ≡ true = subst (λ z. are_below (tag_count fs) z ≡ true) i.tags typed.comp_fits in
    record {
      items = i.items;
      fields = ys;
      left = whole;
      tags = ap tags_comp i.tags;
      right = refl;
      lists = theirs_are_lists fs ys i.items p.apart low typed.right_has (subst (λ z. HasTheirContents fs (right_lists fs) ys z) i.left theirs);
      low = low;
      left_has = subst (λ z. has (ty_list (ty_alt fs)) z ≡ true) whole typed.left_has;
    }

triple_items : (fs : FieldTrees) → IsPartition fs → (x : DocTree) (c : CompTree) (y : DocTree) → IsConsistent (form_part fs) x c y → IsByItems fs x c y
triple_items fs p (hold s xs) (tags_comp ts) (rec ys) k = by_items fs p s xs ts ys k.0 k.1.0 k.1.1
triple_items fs p x c y k = absurd k.1

-- and back
items_consistent : (fs : FieldTrees) → IsPartition fs → (items : List Item) (ys : DocTrees) → has (ty_list (ty_alt fs)) (list_doc (item_docs fs items)) ≡ true → HasLists fs ys (lists_by_tag items)
    → are_below (tag_count fs) (tags_of items) ≡ true → IsConsistent (form_part fs) (list_doc (item_docs fs items)) (tags_comp (tags_of items)) (rec ys)
items_consistent fs p items ys h lists low =
    let docs : item_docs fs items ≡ doc_list (docs_of (item_docs fs items)) = sym (doc_list-docs_of (item_docs fs items)) in (
      record { left_has = h; comp_fits = low; right_has = lists.typed },
      (
        subst (λ z. map (item_tag fs) z ≡ map Some (tags_of items)) docs (tags_of_items fs items p.apart low),
        subst (λ z. HasTheirContents fs (right_lists fs) ys z) docs (lists_are_theirs fs ys items p.apart low lists),
      ),
    )

-- ---- the step

translated : (fs : FieldTrees) (s : Side) (q : PrimitiveTree) (ts next : List ℕ) (w : WordTree) → are_below (tag_count fs) ts ≡ true → part_one s fs ts q ≡ Some (w, next)
    → translate_one (form_part fs) s (tags_comp ts) q ≡ Some (w, tags_comp next)
translated fs s q ts next w low e = rw (low, e) refl

from_left : (fs : FieldTrees) → IsPartition fs → 0 < tag_count fs → (q : PrimitiveTree) (items : List Item) (ys : DocTrees) (x : DocTree) → has (ty_list (ty_alt fs)) (list_doc (item_docs fs items)) ≡ true
    → HasLists fs ys (lists_by_tag items) → are_below (tag_count fs) (tags_of items) ≡ true → act_primitive (ty_list (ty_alt fs)) q (list_doc (item_docs fs items)) ≡ Ok x
    → Carries (form_part fs) Left x (rec ys) (translate_one (form_part fs) Left (tags_comp (tags_of items)) q)
from_left fs p some q items ys x h lists low e =
    let r = left_step fs p some items q x low e in
    let zs = r.turns ys lists in
    let has_x = has_primitive (ty_list (ty_alt fs)) q (list_doc (item_docs fs items)) x p.left_sound h e in
    record {
      word = r.word;
      comp = tags_comp (tags_of r.items);
      document = rec zs.0;
      carried = translated fs Left q (tags_of items) (tags_of r.items) r.word low r.carried;
      acts = zs.1;
      consistent = subst (λ z. IsConsistent (form_part fs) z (tags_comp (tags_of r.items)) (rec zs.0)) (sym r.left)
          (items_consistent fs p r.items zs.0 (subst (λ z. has (ty_list (ty_alt fs)) z ≡ true) r.left has_x) zs.2 r.low);
    }

from_right : (fs : FieldTrees) → IsPartition fs → 0 < tag_count fs → (q : PrimitiveTree) (items : List Item) (ys : DocTrees) (y : DocTree) → has (ty_list (ty_alt fs)) (list_doc (item_docs fs items)) ≡ true
    → HasLists fs ys (lists_by_tag items) → are_below (tag_count fs) (tags_of items) ≡ true → act_primitive (ty_rec (right_lists fs)) q (rec ys) ≡ Ok y
    → Carries (form_part fs) Right y (list_doc (item_docs fs items)) (translate_one (form_part fs) Right (tags_comp (tags_of items)) q)
from_right fs p some q items ys y h lists low e =
    let r = record_step fs p some items ys q y low lists e in
    let has_new = has_act (ty_list (ty_alt fs)) r.word (list_doc (item_docs fs items)) (list_doc (item_docs fs r.items)) p.left_sound h r.turns in
    record {
      word = r.word;
      comp = tags_comp (tags_of r.items);
      document = list_doc (item_docs fs r.items);
      carried = translated fs Right q (tags_of items) (tags_of r.items) r.word low r.carried;
      acts = r.turns;
      consistent = subst (λ z. IsConsistent (form_part fs) (list_doc (item_docs fs r.items)) (tags_comp (tags_of r.items)) z) (sym r.right)
          (items_consistent fs p r.items r.fields has_new r.lists r.low);
    }

carries_at : (fs : FieldTrees) (s : Side) (q : PrimitiveTree) (x : DocTree) (c d : CompTree) (y z : DocTree) → c ≡ d → y ≡ z
    → Carries (form_part fs) s x z (translate_one (form_part fs) s d q) → Carries (form_part fs) s x y (translate_one (form_part fs) s c q)
carries_at fs s q x c d y z e f h =
    subst (λ u. Carries (form_part fs) s x y (translate_one (form_part fs) s u q)) (sym e) (subst (λ u. Carries (form_part fs) s x u (translate_one (form_part fs) s d q)) (sym f) h)

partition_step : (fs : FieldTrees) → IsPartition fs → 0 < tag_count fs → (s : Side) (q : PrimitiveTree) (x : DocTree) (c : CompTree) (y x' : DocTree)
    → IsRelated (form_part fs) s x c y → act_primitive (type_on s (form_part fs)) q x ≡ Ok x' → Carries (form_part fs) s x' y (translate_one (form_part fs) s c q)
partition_step fs p some Left q x c y x' k e =
    let i = triple_items fs p x c y k in
    carries_at fs Left q x' c (tags_comp (tags_of i.items)) y (rec i.fields) i.tags i.right
    (from_left fs p some q i.items i.fields x' i.left_has i.lists i.low (subst (λ z. act_primitive (ty_list (ty_alt fs)) q z ≡ Ok x') i.left e))
partition_step fs p some Right q y c x y' k e =
    let i = triple_items fs p x c y k in
    carries_at fs Right q y' c (tags_comp (tags_of i.items)) x (list_doc (item_docs fs i.items)) i.tags i.left
    (from_right fs p some q i.items i.fields y' i.left_has i.lists i.low (subst (λ z. act_primitive (ty_rec (right_lists fs)) q z ≡ Ok y') i.right e))

-- ---- the law

some_tag : (fs : FieldTrees) → is_well_formed (ty_alt fs) ≡ true → 0 < tag_count fs
some_tag no_fields h = cc
some_tag (more_fields n t fs) h = omega arith

partition_starts : (fs : FieldTrees) → IsPartition fs → IsConsistent (form_part fs) (initial (left_type (form_part fs))) (missing (form_part fs)) (initial (right_type (form_part fs)))
partition_starts fs p = items_consistent fs p [] (initial_fields (right_lists fs)) refl (record {
  typed = has_initial (ty_rec (right_lists fs)) p.right_sound;
  each = λ k h. content-initial (right_lists fs) (tag_name fs k) ∙ (ap (option_map initial) (right_type_is fs (tag_name fs k))
      ∙ ap (λ z. option_map initial (option_map ty_list z)) (type_by_name fs k p.apart h));
}) refl

partition_sound : (fs : FieldTrees) → IsPartition fs → (s : Side) → is_well_formed (type_on s (form_part fs)) ≡ true
partition_sound fs p Left = p.left_sound
partition_sound fs p Right = p.right_sound

partition_laws : (fs : FieldTrees) → are_distinct (names_of fs) ≡ true → is_well_formed (ty_alt fs) ≡ true → is_well_formed (ty_rec (sorted (lists_of fs))) ≡ true → Laws (form_part fs)
partition_laws fs apart left_sound right_sound =
    let p : IsPartition fs = record { apart = apart; left_sound = left_sound; right_sound = right_sound } in
    record {
      sound = partition_sound fs p;
      starts = partition_starts fs p;
      step = partition_step fs p (some_tag fs left_sound);
    }

pub typed_partition_laws : (fs : FieldTrees) → is_typed (form_part fs) ≡ true → Laws (form_part fs)
typed_partition_laws fs h =
    let apart = are_choices-distinct (names_of fs) (first (are_choices (names_of fs)) (are_well_formed fs) h) in
    partition_laws fs apart (left_formed (form_part fs) h) (right_formed (form_part fs) h)
