-- Members that come with rising names: each is put behind those that were found before.
use Rattle.std.proofs.Common.{◌≡◌, ℕ, ◌-◌, ◌<◌, Bool, true, false, ◌&&◌, List, [], ◌∷◌, ◌++◌, Option, Some, None, option_map, option_and_then, refl, sym, ap, ◌∙◌, arith, append-nil, cond, subst, ◌==◌, ne_eqb, suc, ◌+◌, ◌≤◌, add-one, map, drop, length, get_or}
use Rattle.std.proofs.Math.Seq.{drop-cons}
use Rattle.std.proofs.lemmas.List.{append_assoc, drop_all, length-append, get_or_push}
use Rattle.std.specs.declared.cmp.Ordering.TheVariants.{Greater}
use Rattle.std.specs.Ordering.{nat_cmp, ordering_reverse, match_ordering}
use Rattle.std.specs.Cmp.Lexicographic.{slice_cmp}
use Rattle.std.proofs.lemmas.Cmp.{nat_list_cmp_total}
use Rattle.json.specs.Token.{Token}
use Rattle.json.specs.Json.{read_key, parse_map}
use Rattle.serde_json.specs.Data.{Data, object, Members, no_members, member, put}
use Rattle.serde_json.specs.Read.{converted}
use Rattle.texts.specs.Keys.{is_before}
use Rattle.texts.proofs.Conjunction.{both, first, second}
use Rattle.texts.proofs.KeyOrder.{is_less, before-trans, bytes_eq-refl}
use Rattle.doc_values.specs.Documents.{DocTree, DocTrees, more_docs, docs_of}
use Rattle.doc_values.specs.Types.{TyTree, FieldTrees, no_fields, more_fields, type_fields_of, field_tree, ty_tree}
use Rattle.doc_values.specs.declared.ty.Ty.{Ty}
use Rattle.json_tokens.specs.TreesAt.{tree_at, members_at, read_at}
use Rattle.json_tokens.proofs.Conversions.{found, with_rest}
use Rattle.json_tokens.proofs.TreesAt.{object_at, end_of_members, more_members}
use Rattle.json_tokens.proofs.ReadParts.{read_of}
use Rattle.value_json.specs.DocumentJson.{document_of, field_documents, member_documents, member_names}
use Rattle.value_json.proofs.ReadLoops.{then_docs, then_docs-nil, one_more}
use Rattle.doc_tokens.specs.MembersAt.{read_members_at, follows, last_of, entry_documents}

-- members, and those behind them
abbrev pub append : Members → Members → Members
append no_members ns = ns
append (member k d ms) ns = member k d (append ms ns)

pub append-none : (ms : Members) → append ms no_members ≡ ms
append-none no_members = refl
append-none (member k d ms) = ap (member k d) (append-none ms)

pub append-append : (ms ns os : Members) → append (append ms ns) os ≡ append ms (append ns os)
append-append no_members ns os = refl
append-append (member k d ms) ns os = ap (member k d) (append-append ms ns os)

-- every name is before this one
abbrev pub all_before : List ℕ → Members → Bool
all_before k no_members = true
all_before k (member l d ms) = is_before l k && all_before k ms

all_before-append : (k n : List ℕ) (d : Data) (ms : Members) → all_before k ms ≡ true → is_before n k ≡ true → all_before k (append ms (member n d no_members)) ≡ true
all_before-append k n d no_members h b = both (is_before n k) true b refl
all_before-append k n d (member l e ms) h b =
    both (is_before l k) (all_before k (append ms (member n d no_members))) (first (is_before l k) (all_before k ms) h) (all_before-append k n d ms (second (is_before l k) (all_before k ms) h) b)

greater : (k l : List ℕ) → is_before l k ≡ true → slice_cmp nat_cmp k l ≡ Greater
greater k l h = nat_list_cmp_total.antisymm k l ∙ ap ordering_reverse (is_less (slice_cmp nat_cmp l k) h)

pub put_last : (k : List ℕ) (d : Data) (ms : Members) → all_before k ms ≡ true → put k d ms ≡ append ms (member k d no_members)
put_last k d no_members h = refl
put_last k d (member l e ms) h =
    ap (λ o. match_ordering o (member k d (member l e ms)) (member l d ms) (member l e (put k d ms))) (greater k l (first (is_before l k) (all_before k ms) h))
    ∙ ap (member l e) (put_last k d ms (second (is_before l k) (all_before k ms) h))

follows-trans : (last : Option (List ℕ)) (n k : List ℕ) → follows last n ≡ true → is_before n k ≡ true → follows last k ≡ true
follows-trans None n k h b = refl
follows-trans (Some l) n k h b = before-trans l n k h b

then_none : (o : Option DocTrees) → option_map (then_docs []) o ≡ o
then_none None = refl
then_none (Some ds) = refl

-- ---- one member more

module _ (depth : ℕ) (first_tokens : List Token) where
  -- the members so far: they are found before the tokens that are left, and every name that follows the last one comes
  -- behind them
  pub record Found (now : List Token) (last : Option (List ℕ)) (before : Members) : Type 0 where
    pub found : members_at depth no_members first_tokens ≡ members_at depth before now
    pub low : (k : List ℕ) → follows last k ≡ true → all_before k before ≡ true

  pub found_more : (now mid r : List Token) (last : Option (List ℕ)) (before : Members) (n : List ℕ) (d : Data) → Found now last before → follows last n ≡ true → read_key now ≡ Some (Some n, mid)
      → tree_at depth mid ≡ Some (d, r) → Found r (Some n) (append before (member n d no_members))
  found_more now mid r last before n d s behind key e = record {
    found = s.found ∙ more_members depth before n now mid d r key e ∙ ap (λ ms. members_at depth ms r) (put_last n d before (s.low n behind));
    low = λ k b. all_before-append k n d before (s.low k (follows-trans last n k behind b)) b;
  }

  pub found_end : {X : Type 0} (g : Members → Option X) (now r : List Token) (last : Option (List ℕ)) (before : Members) (x : X) → Found now last before → read_key now ≡ Some (None, r) → g (append before no_members) ≡ Some x
      → read_members_at g depth first_tokens ≡ Some (x, r)
  found_end g now r last before x s end e =
      ap (converted g) (s.found ∙ end_of_members depth before now r end) ∙ ap (with_rest r) (ap g (sym (append-none before)) ∙ e)

-- ---- the fields of a record

pub record FieldsSoFar (all left : FieldTrees) (depth : ℕ) (first_tokens now : List Token) (cs : List DocTree) (last : Option (List ℕ)) : Type 0 where
  pub before : Members
  pub members : Found depth first_tokens now last before
  pub docs : (rest : Members) → field_documents all (append before rest) ≡ option_map (then_docs cs) (field_documents left rest)

pub no_field_yet : (all : FieldTrees) (depth : ℕ) (first_tokens : List Token) → FieldsSoFar all all depth first_tokens first_tokens [] None
no_field_yet all depth ts = record { before = no_members; members = record { found = refl; low = λ k b. refl }; docs = λ rest. sym (then_none (field_documents all rest)) }

same_name : (n : List ℕ) (t : TyTree) (d : Data) (left : FieldTrees) (rest : Members) → field_documents (more_fields n t left) (member n d rest) ≡ option_and_then (λ x. option_map (more_docs x) (field_documents left rest)) (document_of t d)
same_name n t d left rest = ap (λ b. cond b (option_and_then (λ x. option_map (more_docs x) (field_documents left rest)) (document_of t d)) None) (bytes_eq-refl n)

pub one_field_more : (all left : FieldTrees) (depth : ℕ) (ts now mid r : List Token) (cs : List DocTree) (last : Option (List ℕ)) (n : List ℕ) (t : TyTree) (c : DocTree)
    → FieldsSoFar all (more_fields n t left) depth ts now cs last → follows last n ≡ true → read_key now ≡ Some (Some n, mid) → read_at (document_of t) depth mid ≡ Some (c, r)
    → FieldsSoFar all left depth ts r (cs ++ c ∷ []) (Some n)
one_field_more all left depth ts now mid r cs last n t c s behind key e =
    let p = found (document_of t) (tree_at depth mid) c r e in
    record {
      before = append s.before (member n p.0 no_members);
      members = found_more depth ts now mid r last s.before n p.0 s.members behind key p.1;
      docs = λ rest. ap (field_documents all) (append-append s.before (member n p.0 no_members) rest) ∙ s.docs (member n p.0 rest)
          ∙ ap (option_map (then_docs cs)) (same_name n t p.0 left rest) ∙ one_more cs c (document_of t p.0) (field_documents left rest) p.2;
    }

pub all_fields : (all : FieldTrees) (depth : ℕ) (ts now r : List Token) (cs : List DocTree) (last : Option (List ℕ)) → FieldsSoFar all no_fields depth ts now cs last → read_key now ≡ Some (None, r)
    → read_members_at (field_documents all) depth ts ≡ Some (docs_of cs, r)
all_fields all depth ts now r cs last s end =
    found_end depth ts (field_documents all) now r last s.before (docs_of cs) s.members end (s.docs no_members ∙ ap Some (then_docs-nil cs))

-- ---- the entries of a keyed map

pub record EntriesSoFar (t : TyTree) (depth : ℕ) (first_tokens now : List Token) (ns : List (List ℕ)) (cs : List DocTree) (last : Option (List ℕ)) : Type 0 where
  pub before : Members
  pub members : Found depth first_tokens now last before
  pub names : (rest : Members) → member_names (append before rest) ≡ ns ++ member_names rest
  pub docs : (rest : Members) → member_documents t (append before rest) ≡ option_map (then_docs cs) (member_documents t rest)

pub no_entry_yet : (t : TyTree) (depth : ℕ) (ts : List Token) → EntriesSoFar t depth ts ts [] [] None
no_entry_yet t depth ts = record {
  before = no_members;
  members = record { found = refl; low = λ k b. refl };
  names = λ rest. refl;
  docs = λ rest. sym (then_none (member_documents t rest));
}

pub one_entry_more : (t : TyTree) (depth : ℕ) (ts now mid r : List Token) (ns : List (List ℕ)) (cs : List DocTree) (last : Option (List ℕ)) (n : List ℕ) (c : DocTree) → EntriesSoFar t depth ts now ns cs last
    → follows last n ≡ true → read_key now ≡ Some (Some n, mid) → read_at (document_of t) depth mid ≡ Some (c, r) → EntriesSoFar t depth ts r (ns ++ n ∷ []) (cs ++ c ∷ []) (Some n)
one_entry_more t depth ts now mid r ns cs last n c s behind key e =
    let p = found (document_of t) (tree_at depth mid) c r e in
    record {
      before = append s.before (member n p.0 no_members);
      members = found_more depth ts now mid r last s.before n p.0 s.members behind key p.1;
      names = λ rest. ap member_names (append-append s.before (member n p.0 no_members) rest) ∙ s.names (member n p.0 rest) ∙ sym (append_assoc ns (n ∷ []) (member_names rest));
      docs = λ rest. ap (member_documents t) (append-append s.before (member n p.0 no_members) rest) ∙ s.docs (member n p.0 rest) ∙ one_more cs c (document_of t p.0) (member_documents t rest) p.2;
    }

pub all_entries : (t : TyTree) (depth : ℕ) (ts now r : List Token) (ns : List (List ℕ)) (cs : List DocTree) (last : Option (List ℕ)) → EntriesSoFar t depth ts now ns cs last → read_key now ≡ Some (None, r)
    → read_members_at (entry_documents t) depth ts ≡ Some ((ns, docs_of cs), r)
all_entries t depth ts now r ns cs last s end =
    found_end depth ts (entry_documents t) now r last s.before (ns, docs_of cs) s.members end
    (ap (λ o. option_map (λ ds. (member_names (append s.before no_members), ds)) o) (s.docs no_members ∙ ap Some (then_docs-nil cs)) ∙ ap (λ ms. Some (ms, docs_of cs)) (s.names no_members ∙ append-nil ns))

-- ---- the whole object

pub object_read : {Y Z : Type 0} (g : Members → Option Y) (h : Data → Option Z) (depth : ℕ) (ts r : List Token) (y : Y) (z : Z) → 0 < depth → read_members_at g (depth - 1) ts ≡ Some (y, r)
    → ((ms : Members) → g ms ≡ Some y → h (object ms) ≡ Some z) → read_at h depth (Token.begin_object ∷ ts) ≡ Some (z, r)
object_read g h depth ts r y z some e gives =
    let p = found g (members_at (depth - 1) no_members ts) y r e in
    read_of h depth (Token.begin_object ∷ ts) (object p.0) r z (object_at depth ts some ∙ ap (parse_map object) p.1) (gives p.0 p.2)

pub last_of-append : (ns : List (List ℕ)) (n : List ℕ) → last_of (ns ++ n ∷ []) ≡ Some n
last_of-append ns n =
    let long : length (ns ++ n ∷ []) ≡ length ns + 1 = length-append ns (n ∷ []) in
    let some : (length (ns ++ n ∷ []) == 0) ≡ false = ne_eqb (length (ns ++ n ∷ [])) 0 (λ z. omega (arith, long)) in
    rw some (ap (λ i. Some (get_or (ns ++ n ∷ []) i [])) (let e : length (ns ++ n ∷ []) - 1 ≡ length ns = omega (arith, long) in e) ∙ ap Some (get_or_push ns n [] (length ns) refl))

-- ---- by the places of fields

pub fields_begin : (all left : FieldTrees) (depth : ℕ) (ts : List Token) (cs : List DocTree) → left ≡ all → cs ≡ [] → FieldsSoFar all left depth ts ts cs None
fields_begin all left depth ts cs same none =
    subst (λ fs. FieldsSoFar all fs depth ts ts cs None) (sym same) (subst (λ ds. FieldsSoFar all all depth ts ts ds None) (sym none) (no_field_yet all depth ts))

left_fields : (items : List (List ℕ × Ty)) (i : ℕ) (f : List ℕ × Ty) → i < length items → f ≡ get_or items i f → drop i items ≡ f ∷ drop (i + 1) items
left_fields items i f within is = rw (add-one, drop-cons items i f within) (ap (λ x. x ∷ drop (suc i) items) (sym is))

pub next_field : (all : FieldTrees) (items : List (List ℕ × Ty)) (i : ℕ) (f : List ℕ × Ty) (depth : ℕ) (ts now mid r : List Token) (cs : List DocTree) (last : Option (List ℕ)) (c : DocTree)
    → i < length items → f ≡ get_or items i f → FieldsSoFar all (type_fields_of (map field_tree (drop i items))) depth ts now cs last → follows last f.0 ≡ true
    → read_key now ≡ Some (Some f.0, mid) → read_at (document_of (ty_tree f.1)) depth mid ≡ Some (c, r)
    → FieldsSoFar all (type_fields_of (map field_tree (drop (i + 1) items))) depth ts r (cs ++ c ∷ []) (Some f.0)
next_field all items i f depth ts now mid r cs last c within is s behind key e =
    one_field_more all (type_fields_of (map field_tree (drop (i + 1) items))) depth ts now mid r cs last f.0 (ty_tree f.1) c
    (subst (λ xs. FieldsSoFar all (type_fields_of (map field_tree xs)) depth ts now cs last) (left_fields items i f within is) s) behind key e

pub fields_end : (all : FieldTrees) (items : List (List ℕ × Ty)) (i depth : ℕ) (ts now r : List Token) (cs : List DocTree) (last : Option (List ℕ)) → length items ≤ i
    → FieldsSoFar all (type_fields_of (map field_tree (drop i items))) depth ts now cs last → read_key now ≡ Some (None, r) → read_members_at (field_documents all) depth ts ≡ Some (docs_of cs, r)
fields_end all items i depth ts now r cs last past s end =
    all_fields all depth ts now r cs last (subst (λ xs. FieldsSoFar all (type_fields_of (map field_tree xs)) depth ts now cs last) (drop_all i items past) s) end

pub entries_begin : (t : TyTree) (depth : ℕ) (ts : List Token) (ns : List (List ℕ)) (cs : List DocTree) → ns ≡ [] → cs ≡ [] → EntriesSoFar t depth ts ts ns cs (last_of ns)
entries_begin t depth ts ns cs no_names none =
    subst (λ ms. EntriesSoFar t depth ts ts ms cs (last_of ms)) (sym no_names) (subst (λ ds. EntriesSoFar t depth ts ts [] ds None) (sym none) (no_entry_yet t depth ts))
