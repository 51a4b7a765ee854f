-- Two documents of one type never have the same tree.
use Rattle.std.proofs.Common.{◌≡◌, ℕ, ℤ, pos, negsuc, true, false, ◌&&◌, List, [], ◌∷◌, length, Option, Some, None, refl, sym, ap, ap₂, subst, ◌∙◌, arith}
use Rattle.std.specs.Prelude.{nat_eq}
use Rattle.texts.specs.Keys.{is_rising}
use Rattle.hold_shapes.specs.Trees.{is_valid}
use Rattle.hold_shapes.specs.declared.shape.Shape.TheVariants.{List as ListOf, Keyed as KeyedOf, Tree as TreeOf}
use Rattle.serde_json.specs.Data.{Data, null, object, no_members, member}
use Rattle.serde_json.specs.Find.{of_integer}
use Rattle.doc_values.specs.Types.{TyTree, ty_unit, ty_bool, ty_int, ty_text, ty_enum, ty_rec, ty_alt, ty_list, ty_keyed, ty_ordered, FieldTrees, no_fields, more_fields}
use Rattle.doc_values.specs.Documents.{DocTree, unit, truth, int, text, pick, rec, alt, hold, DocTrees, no_docs, more_docs, doc_list}
use Rattle.doc_values.specs.Typing.{lookup_type, has, has_fields, has_each}
use Rattle.value_json.specs.Numbers.{count_items}
use Rattle.value_json.specs.DocumentJson.{tree_of_document, field_members, key_members, content_items, member_names}
use Rattle.texts.proofs.Conjunction.{first as left, second as right}
use Rattle.value_json.proofs.WritingReadsBack.{names_again}
use Rattle.std.proofs.lemmas.Bool.{eqb-true}

int_apart : (y z : ℤ) → of_integer y ≡ of_integer z → y ≡ z
int_apart (pos m) (pos n) q = cc
int_apart (pos m) (negsuc n) q = cc
int_apart (negsuc m) (pos n) q = cc
int_apart (negsuc m) (negsuc n) q = cc

pub counts_apart : (ms ns : List ℕ) → count_items ms ≡ count_items ns → ms ≡ ns
counts_apart [] [] q = refl
counts_apart [] (n ∷ ns) q = cc
counts_apart (m ∷ ms) [] q = cc
counts_apart (m ∷ ms) (n ∷ ns) q =
    let first : m ≡ n = cc in
    let rest : count_items ms ≡ count_items ns = cc in
    ap₂ (λ k ks. k ∷ ks) first (counts_apart ms ns rest)

-- the contents of one tag
abbrev Apart : TyTree → DocTree → DocTree → Type 0
Apart t d e = has t d ≡ true → has t e ≡ true → tree_of_document t d ≡ tree_of_document t e → d ≡ e

content_apart : (o : Option TyTree) (d e : DocTree) → ((t : TyTree) → Apart t d e) → (elim o [ None ↦ false | Some t ↦ has t d ]) ≡ true → (elim o [ None ↦ false | Some t ↦ has t e ]) ≡ true
    → (let x : Data = elim o [ None ↦ null | Some t ↦ tree_of_document t d ] in let y : Data = elim o [ None ↦ null | Some t ↦ tree_of_document t e ] in x ≡ y) → d ≡ e
content_apart None d e apart h k q = cc
content_apart (Some t) d e apart h k q = apart t h k q

only_content : (n : List ℕ) (x y : Data) → object (member n x no_members) ≡ object (member n y no_members) → x ≡ y
only_content n x y q = cc

tag_apart : (fs : FieldTrees) (n m : List ℕ) (d e : DocTree) → ((t : TyTree) → Apart t d e) → n ≡ m → has (ty_alt fs) (alt n d) ≡ true → has (ty_alt fs) (alt m e) ≡ true
    → tree_of_document (ty_alt fs) (alt n d) ≡ tree_of_document (ty_alt fs) (alt m e) → alt n d ≡ alt m e
tag_apart fs n m d e apart name h k q =
    let typed = subst (λ x. has (ty_alt fs) (alt x e) ≡ true) (sym name) k in
    let same = subst (λ x. tree_of_document (ty_alt fs) (alt n d) ≡ tree_of_document (ty_alt fs) (alt x e)) (sym name) q in
    ap₂ alt name (content_apart (lookup_type fs n) d e apart h typed (only_content n _ _ same))

list_same : (m n : ℕ) (ds es : DocTrees) → m ≡ length (doc_list ds) → n ≡ length (doc_list es) → ds ≡ es → hold (ListOf (record { count = m })) ds ≡ hold (ListOf (record { count = n })) es
list_same m n ds es h k q = ap₂ (λ c xs. hold (ListOf (record { count = c })) xs) (h ∙ ap (λ xs. length (doc_list xs)) q ∙ sym k) q

mutual
  pub apart : (t : TyTree) (d e : DocTree) → has t d ≡ true → has t e ≡ true → tree_of_document t d ≡ tree_of_document t e → d ≡ e
  apart ty_unit unit unit h k q = refl
  apart ty_bool (truth b) (truth c) h k q = cc
  apart (ty_int i) (int y) (int z) h k q = let same : of_integer y ≡ of_integer z = cc in ap int (int_apart y z same)
  apart (ty_text i) (text r) (text s) h k q = cc
  apart (ty_enum ms i) (pick m) (pick n) h k q = cc
  apart (ty_rec fs) (rec ds) (rec es) h k q = let same : field_members fs ds ≡ field_members fs es = cc in ap rec (fields_apart fs ds es h k same)
  apart (ty_alt fs) (alt n d) (alt m e) h k q = let name : n ≡ m = cc in tag_apart fs n m d e (λ t. apart t d e) name h k q
  apart (ty_list t) (hold (ListOf r) ds) (hold (ListOf s) es) h k q =
      let same : content_items t ds ≡ content_items t es = cc in
      let m = length (doc_list ds) in
      let n = length (doc_list es) in
      list_same r.count s.count ds es (eqb-true r.count m (left (nat_eq r.count m) (has_each t ds) h)) (eqb-true s.count n (left (nat_eq s.count n) (has_each t es) k))
      (items_apart t ds es (right (nat_eq r.count m) (has_each t ds) h) (right (nat_eq s.count n) (has_each t es) k) same)
  apart (ty_keyed t) (hold (KeyedOf js) ds) (hold (KeyedOf ks) es) h k q =
      let same : key_members t js ds ≡ key_members t ks es = cc in
      let m = length (doc_list ds) in
      let n = length (doc_list es) in
      let first = eqb-true (length js) m (right (is_rising js) (nat_eq (length js) m) (left (is_rising js && nat_eq (length js) m) (has_each t ds) h)) in
      let second = eqb-true (length ks) n (right (is_rising ks) (nat_eq (length ks) n) (left (is_rising ks && nat_eq (length ks) n) (has_each t es) k)) in
      let names = sym (names_again t js ds first) ∙ ap member_names same ∙ names_again t ks es second in
      ap₂ (λ x y. hold (KeyedOf x) y) names
      (members_apart t js ks ds es first second (right (is_rising js && nat_eq (length js) m) (has_each t ds) h) (right (is_rising ks && nat_eq (length ks) n) (has_each t es) k) same)
  apart (ty_ordered t) (hold (TreeOf r) ds) (hold (TreeOf s) es) h k q =
      let numbers : count_items r ≡ count_items s = cc in
      let same : content_items t ds ≡ content_items t es = cc in
      let m = length (doc_list ds) in
      let n = length (doc_list es) in
      ap₂ (λ x y. hold (TreeOf x) y) (counts_apart r s numbers)
      (items_apart t ds es (right (is_valid r && nat_eq (length r) m) (has_each t ds) h) (right (is_valid s && nat_eq (length s) n) (has_each t es) k) same)
  apart t d e h k q = cc

  fields_apart : (fs : FieldTrees) (ds es : DocTrees) → has_fields fs ds ≡ true → has_fields fs es ≡ true → field_members fs ds ≡ field_members fs es → ds ≡ es
  fields_apart no_fields no_docs no_docs h k q = refl
  fields_apart (more_fields n t fs) (more_docs d ds) (more_docs e es) h k q =
      let first : tree_of_document t d ≡ tree_of_document t e = cc in
      let rest : field_members fs ds ≡ field_members fs es = cc in
      ap₂ more_docs
      (apart t d e (left (has t d) (has_fields fs ds) h) (left (has t e) (has_fields fs es) k) first)
      (fields_apart fs ds es (right (has t d) (has_fields fs ds) h) (right (has t e) (has_fields fs es) k) rest)
  fields_apart fs ds es h k q = cc

  members_apart : (t : TyTree) (js ks : List (List ℕ)) (ds es : DocTrees) → length js ≡ length (doc_list ds) → length ks ≡ length (doc_list es) → has_each t ds ≡ true → has_each t es ≡ true → key_members t js ds ≡ key_members t ks es → ds ≡ es
  members_apart t [] [] no_docs no_docs a b h k q = refl
  members_apart t (i ∷ js) (j ∷ ks) (more_docs d ds) (more_docs e es) a b h k q =
      let first : tree_of_document t d ≡ tree_of_document t e = cc in
      let rest : key_members t js ds ≡ key_members t ks es = cc in
      ap₂ more_docs
      (apart t d e (left (has t d) (has_each t ds) h) (left (has t e) (has_each t es) k) first)
      (members_apart t js ks ds es (omega arith) (omega arith) (right (has t d) (has_each t ds) h) (right (has t e) (has_each t es) k) rest)
  members_apart t [] [] (more_docs d ds) es a b h k q = absurd (omega arith)
  members_apart t [] [] no_docs (more_docs e es) a b h k q = absurd (omega arith)
  members_apart t [] (j ∷ ks) (more_docs d ds) es a b h k q = absurd (omega arith)
  members_apart t [] (j ∷ ks) no_docs no_docs a b h k q = absurd (omega arith)
  members_apart t [] (j ∷ ks) no_docs (more_docs e es) a b h k q = cc
  members_apart t (i ∷ js) ks no_docs es a b h k q = absurd (omega arith)
  members_apart t (i ∷ js) [] (more_docs d ds) no_docs a b h k q = cc
  members_apart t (i ∷ js) [] (more_docs d ds) (more_docs e es) a b h k q = absurd (omega arith)
  members_apart t (i ∷ js) (j ∷ ks) (more_docs d ds) no_docs a b h k q = absurd (omega arith)

  items_apart : (t : TyTree) (ds es : DocTrees) → has_each t ds ≡ true → has_each t es ≡ true → content_items t ds ≡ content_items t es → ds ≡ es
  items_apart t no_docs no_docs h k q = refl
  items_apart t no_docs (more_docs e es) h k q = cc
  items_apart t (more_docs d ds) no_docs h k q = cc
  items_apart t (more_docs d ds) (more_docs e es) h k q =
      let first : tree_of_document t d ≡ tree_of_document t e = cc in
      let rest : content_items t ds ≡ content_items t es = cc in
      ap₂ more_docs
      (apart t d e (left (has t d) (has_each t ds) h) (left (has t e) (has_each t es) k) first)
      (items_apart t ds es (right (has t d) (has_each t ds) h) (right (has t e) (has_each t es) k) rest)
