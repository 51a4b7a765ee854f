-- Contents one after another: items, and members with keys.
use Rattle.std.proofs.Common.{◌≡◌, ℕ, suc, Bool, true, false, cond, bytes_eq, List, [], ◌∷◌, length, Option, Some, None, option_map, option_and_then, refl, subst, ap, ap₂, ◌∙◌}
use Rattle.std.specs.Option.{option_flatten}
use Rattle.json.specs.Json.{Json, Items, no_items, item, Members, no_members, member}
use Rattle.json.specs.Strict.{keys}
use Rattle.texts.specs.Keys.{is_before, all_after}
use Rattle.texts.proofs.KeyOrder.{bytes_eq-refl, before-differs}
use Rattle.texts.proofs.Tests.{bytes_eq-is}
use Rattle.texts.proofs.Conjunction.{both}
use Rattle.doc_values.specs.Types.{TyTree}
use Rattle.doc_values.specs.Documents.{DocTree, alt, DocTrees, no_docs, more_docs, doc_list}
use Rattle.doc_values.specs.Typing.{has, has_each}
use Rattle.file_forms.specs.Orders.{sorted, sorted_items}
use Rattle.file_forms.specs.FileValues.{head_slot, after_head, with_slot, items_read, members_read, only_read, items_written, members_written}
use Rattle.file_forms.proofs.Facts.{some_is, bind_some, map_some, flatten_some}
use Rattle.file_forms.proofs.Sorting.{each_sorted}

-- a way to write contents, and a way to read them
module _ (write : DocTree → Option (Option Json)) (read : Json → Option DocTree) where
  -- ---- what is written is read

  module _ (again : (d : DocTree) (j : Json) → write d ≡ Some (Some j) → read j ≡ Some d) where
    pub items_again : (ds : DocTrees) (js : Items) → items_written write ds ≡ Some js → items_read read js ≡ Some ds
    items_again no_docs js h = subst (λ x. items_read read x ≡ Some no_docs) (some_is _ _ h) refl
    items_again (more_docs d ds) js h =
        let b = bind_some (λ j. option_map (item j) (items_written write ds)) (option_flatten (write d)) js h in
        let m = map_some (item b.0) (items_written write ds) js b.2 in
        let one = again d b.0 (flatten_some (write d) b.0 b.1) in
        subst (λ x. items_read read x ≡ Some (more_docs d ds)) m.2
        (ap (option_and_then (λ e. option_map (more_docs e) (items_read read m.0))) one ∙ ap (option_map (more_docs d)) (items_again ds m.0 m.1))

    pub members_again : (ks : List (List ℕ)) (ds : DocTrees) (ms : Members) → members_written write ks ds ≡ Some ms → members_read read ms ≡ Some ds
    members_again [] no_docs ms h = subst (λ x. members_read read x ≡ Some no_docs) (some_is _ _ h) refl
    members_again [] (more_docs d ds) ms h = cc
    members_again (k ∷ ks) no_docs ms h = cc
    members_again (k ∷ ks) (more_docs d ds) ms h =
        let b = bind_some (λ j. option_map (member k j) (members_written write ks ds)) (option_flatten (write d)) ms h in
        let m = map_some (member k b.0) (members_written write ks ds) ms b.2 in
        let one = again d b.0 (flatten_some (write d) b.0 b.1) in
        subst (λ x. members_read read x ≡ Some (more_docs d ds)) m.2
        (ap (option_and_then (λ e. option_map (more_docs e) (members_read read m.0))) one ∙ ap (option_map (more_docs d)) (members_again ks ds m.0 m.1))

  -- ---- what is read is written

  module _ (found : (j : Json) (d : DocTree) → read j ≡ Some d → write d ≡ Some (Some (sorted j))) where
    pub items_found : (js : Items) (ds : DocTrees) → items_read read js ≡ Some ds → items_written write ds ≡ Some (sorted_items js)
    items_found no_items ds h = subst (λ x. items_written write x ≡ Some no_items) (some_is _ _ h) refl
    items_found (item j js) ds h =
        let b = bind_some (λ d. option_map (more_docs d) (items_read read js)) (read j) ds h in
        let m = map_some (more_docs b.0) (items_read read js) ds b.2 in
        subst (λ x. items_written write x ≡ Some (item (sorted j) (sorted_items js))) m.2
        (ap (λ s. option_and_then (λ i. option_map (item i) (items_written write m.0)) (option_flatten s)) (found j b.0 b.1)
        ∙ ap (option_map (item (sorted j))) (items_found js m.0 m.1))

    pub members_found : (ms : Members) (ds : DocTrees) → members_read read ms ≡ Some ds → members_written write (keys ms) ds ≡ Some (each_sorted ms)
    members_found no_members ds h = subst (λ x. members_written write [] x ≡ Some no_members) (some_is _ _ h) refl
    members_found (member k j ms) ds h =
        let b = bind_some (λ d. option_map (more_docs d) (members_read read ms)) (read j) ds h in
        let m = map_some (more_docs b.0) (members_read read ms) ds b.2 in
        subst (λ x. members_written write (k ∷ keys ms) x ≡ Some (member k (sorted j) (each_sorted ms))) m.2
        (ap (λ s. option_and_then (λ i. option_map (member k i) (members_written write (keys ms) m.0)) (option_flatten s)) (found j b.0 b.1)
        ∙ ap (option_map (member k (sorted j))) (members_found ms m.0 m.1))

  -- ---- what is written has a type

  module _ (t : TyTree) (typed : (d : DocTree) (s : Option Json) → write d ≡ Some s → has t d ≡ true) where
    pub items_typed : (ds : DocTrees) (js : Items) → items_written write ds ≡ Some js → has_each t ds ≡ true
    items_typed no_docs js h = refl
    items_typed (more_docs d ds) js h =
        let b = bind_some (λ j. option_map (item j) (items_written write ds)) (option_flatten (write d)) js h in
        let m = map_some (item b.0) (items_written write ds) js b.2 in
        both (has t d) (has_each t ds) (typed d (Some b.0) (flatten_some (write d) b.0 b.1)) (items_typed ds m.0 m.1)

    pub members_typed : (ks : List (List ℕ)) (ds : DocTrees) (ms : Members) → members_written write ks ds ≡ Some ms → has_each t ds ≡ true
    members_typed [] no_docs ms h = refl
    members_typed [] (more_docs d ds) ms h = cc
    members_typed (k ∷ ks) no_docs ms h = cc
    members_typed (k ∷ ks) (more_docs d ds) ms h =
        let b = bind_some (λ j. option_map (member k j) (members_written write ks ds)) (option_flatten (write d)) ms h in
        let m = map_some (member k b.0) (members_written write ks ds) ms b.2 in
        both (has t d) (has_each t ds) (typed d (Some b.0) (flatten_some (write d) b.0 b.1)) (members_typed ks ds m.0 m.1)

  -- ---- keys

  pub keys_written : (ks : List (List ℕ)) (ds : DocTrees) (ms : Members) → members_written write ks ds ≡ Some ms → keys ms ≡ ks
  keys_written [] no_docs ms h = subst (λ x. keys x ≡ []) (some_is _ _ h) refl
  keys_written [] (more_docs d ds) ms h = cc
  keys_written (k ∷ ks) no_docs ms h = cc
  keys_written (k ∷ ks) (more_docs d ds) ms h =
      let b = bind_some (λ j. option_map (member k j) (members_written write ks ds)) (option_flatten (write d)) ms h in
      let m = map_some (member k b.0) (members_written write ks ds) ms b.2 in
      subst (λ x. keys x ≡ k ∷ ks) m.2 (ap (λ ns. k ∷ ns) (keys_written ks ds m.0 m.1))

  pub many_written : (ks : List (List ℕ)) (ds : DocTrees) (ms : Members) → members_written write ks ds ≡ Some ms → length ks ≡ length (doc_list ds)
  many_written [] no_docs ms h = refl
  many_written [] (more_docs d ds) ms h = cc
  many_written (k ∷ ks) no_docs ms h = cc
  many_written (k ∷ ks) (more_docs d ds) ms h =
      let b = bind_some (λ j. option_map (member k j) (members_written write ks ds)) (option_flatten (write d)) ms h in
      let m = map_some (member k b.0) (members_written write ks ds) ms b.2 in
      ap suc (many_written ks ds m.0 m.1)

-- ---- contents that are sorted are read alike

module _ (read : Json → Option DocTree) (alike : (j : Json) → read j ≡ read (sorted j)) where
  pub items_alike : (js : Items) → items_read read js ≡ items_read read (sorted_items js)
  items_alike no_items = refl
  items_alike (item j js) = ap₂ (λ x y. option_and_then (λ d. option_map (more_docs d) y) x) (alike j) (items_alike js)

  pub members_alike : (ms : Members) → members_read read ms ≡ members_read read (each_sorted ms)
  members_alike no_members = refl
  members_alike (member k j ms) = ap₂ (λ x y. option_and_then (λ d. option_map (more_docs d) y) x) (alike j) (members_alike ms)

-- ---- one member

-- what an object with one member was read from
pub record IsOnly (read : List ℕ → Json → Option DocTree) (ms : Members) (v : DocTree) : Type 0 where
  pub tag : List ℕ
  pub tree : Json
  pub content : DocTree
  pub members : ms ≡ member tag tree no_members
  pub read_it : read tag tree ≡ Some content
  pub is : alt tag content ≡ v

pub only_found : (read : List ℕ → Json → Option DocTree) (ms : Members) (v : DocTree) → only_read read ms ≡ Some v → IsOnly read ms v
only_found read no_members v h = cc
only_found read (member k j no_members) v h =
    let m = map_some (alt k) (read k j) v h in
    record { tag = k; tree = j; content = m.0; members = refl; read_it = m.1; is = m.2 }
only_found read (member k j (member l i ms)) v h = cc

pub only_alike : (read : List ℕ → Json → Option DocTree) → ((k : List ℕ) (j : Json) → read k j ≡ read k (sorted j)) → (ms : Members) → only_read read ms ≡ only_read read (each_sorted ms)
only_alike read alike no_members = refl
only_alike read alike (member k j no_members) = ap (option_map (alt k)) (alike k j)
only_alike read alike (member k j (member l i ms)) = refl

-- ---- the first member, and the others

differs : (n k : List ℕ) (j : Json) (ms : Members) → is_before n k ≡ true → (head_slot n (member k j ms) ≡ None) × (after_head n (member k j ms) ≡ member k j ms)
differs n k j ms h =
    (ap (λ b. cond b (Some j) None) (before-differs n k h), ap (λ b. cond b ms (member k j ms)) (before-differs n k h))

pub head_with : (n : List ℕ) (s : Option Json) (ms : Members) → all_after n (keys ms) ≡ true → head_slot n (with_slot n s ms) ≡ s
head_with n (Some j) ms h = ap (λ b. cond b (Some j) None) (bytes_eq-refl n)
head_with n None no_members h = refl
head_with n None (member k j ms) h = (differs n k j ms h).0

pub after_with : (n : List ℕ) (s : Option Json) (ms : Members) → all_after n (keys ms) ≡ true → after_head n (with_slot n s ms) ≡ ms
after_with n (Some j) ms h = ap (λ b. cond b ms (member n j ms)) (bytes_eq-refl n)
after_with n None no_members h = refl
after_with n None (member k j ms) h = (differs n k j ms h).1

head_back_by : (b : Bool) (n k : List ℕ) (j : Json) (ms : Members) → bytes_eq n k ≡ b
    → with_slot n (option_map sorted (cond b (Some j) None)) (each_sorted (cond b ms (member k j ms))) ≡ member k (sorted j) (each_sorted ms)
head_back_by true n k j ms e = ap (λ x. member x (sorted j) (each_sorted ms)) (bytes_eq-is n k e)
head_back_by false n k j ms e = refl

pub head_back : (n : List ℕ) (ms : Members) → with_slot n (option_map sorted (head_slot n ms)) (each_sorted (after_head n ms)) ≡ each_sorted ms
head_back n no_members = refl
head_back n (member k j ms) = head_back_by (bytes_eq n k) n k j ms refl

head_each_by : (b : Bool) (j : Json) → cond b (Some (sorted j)) None ≡ option_map sorted (cond b (Some j) None)
head_each_by true j = refl
head_each_by false j = refl

pub head_each : (n : List ℕ) (ms : Members) → head_slot n (each_sorted ms) ≡ option_map sorted (head_slot n ms)
head_each n no_members = refl
head_each n (member k j ms) = head_each_by (bytes_eq n k) j

after_each_by : (b : Bool) (k : List ℕ) (j : Json) (ms : Members) → cond b (each_sorted ms) (member k (sorted j) (each_sorted ms)) ≡ each_sorted (cond b ms (member k j ms))
after_each_by true k j ms = refl
after_each_by false k j ms = refl

pub after_each : (n : List ℕ) (ms : Members) → after_head n (each_sorted ms) ≡ each_sorted (after_head n ms)
after_each n no_members = refl
after_each n (member k j ms) = after_each_by (bytes_eq n k) k j ms
