-- Complements that are taken from tokens: what each part gives the whole, and loops that take one after another.
use Rattle.std.proofs.Common.{◌≡◌, ℕ, ◌+◌, ◌-◌, ◌<◌, ◌≤◌, ◌&&◌, true, List, [], ◌∷◌, ◌++◌, map, length, get_or, codes, Option, Some, None, IsTrue, refl, sym, ap, ap₂, subst, ◌∙◌, arith, append-nil, IfSome}
use Rattle.std.proofs.lemmas.List.{append_assoc, drop_all}
use Rattle.json.specs.Token.{Token, begin_array, begin_object}
use Rattle.json.specs.Json as json
use Rattle.json.specs.Json.{after_end_array, read_key, parse_map}
use Rattle.json.proofs.Grammar.{value_is}
use Rattle.serde_json.specs.Read.{of_json, converted}
use Rattle.serde_json.specs.Data.{Data, null, string, array, object, Items, no_items, item, Members, no_members, member}
use Rattle.texts.specs.Keys.{is_rising}
use Rattle.texts.proofs.Conjunction.{both, first, second}
use Rattle.hold_shapes.specs.Trees.{is_valid}
use Rattle.hold_shapes.specs.declared.shape.Shape.TheVariants.{List as ListOf, Keyed as KeyedOf, Tree as TreeOf}
use Rattle.tag_seq.specs.Tags.{are_below}
use Rattle.doc_values.specs.Types.{FieldTrees, ty_tree, is_well_formed}
use Rattle.doc_values.specs.declared.ty.Ty.{Ty}
use Rattle.value_json.specs.Numbers.{counts_of}
use Rattle.value_json.specs.SmallTrees.{one_member, array_of_two}
use Rattle.value_json.specs.DocumentJson.{member_names}
use Rattle.lens_forms.specs.Forms.{FormTree, form_tree, form_then, form_rec, form_alt, form_each, form_keyed, form_ordered, form_part, RowTrees, no_rows, row_tree, form_rows_of, ArmTrees}
use Rattle.lens_forms.specs.Typing.{is_typed, are_typed_rows}
use Rattle.lens_forms.specs.declared.form.Form.{Form}
use Rattle.lens_forms.specs.declared.form.FormRow.{FormRow}
use Rattle.lens_forms.specs.declared.form.FormRow.TheVariants.{Both, OnlyLeft, OnlyRight}
use Rattle.lens_forms.proofs.TreesOfRows.{rows_from, next_both, next_left, next_right}
use Rattle.lens_core.specs.Tags.{tag_count}
use Rattle.lens_core.specs.Complements.{CompTree, then_comp, rec_comp, alt_comp, hold_comp, tags_comp, CompTrees, no_comps, more_comps, comps_of, comp_count}
use Rattle.json_tokens.specs.TreesAt.{tree_at, items_at, members_at, read_items_at}
use Rattle.json_tokens.proofs.Conversions.{found}
use Rattle.json_tokens.proofs.TreesAt.{shorter, array_at, end_of_items, more_items, object_at, end_of_members, more_members}
use Rattle.json_tokens.proofs.ReadParts.{array_of_two_at}
use Rattle.doc_tokens.specs.MembersAt.{follows}
use Rattle.doc_tokens.proofs.RisingMembers.{append, append-none, append-append, Found, found_more}
use Rattle.complement_file.specs.ComplementJson.{arm_with}
use Rattle.complement_file.specs.Reading.{ArePlaces, IsTag, nodes_tree, member_contents}
use Rattle.complement_file.specs.Taken.{TakesComp, TakesPlaces, TakesRows, TakesTags, TakesContents}
use Rattle.complement_file.proofs.ReadSoFar.{then_comps}
use Rattle.complement_file.proofs.ReadForms.{pair_found, rec_found, tagged_found, list_found, keyed_found, nodes_found, tags_found}

-- ---- objects with one member

one_member_at : (depth : ℕ) (k : List ℕ) (t0 t1 t2 t3 : List Token) (d : Data) → 0 < depth → read_key t0 ≡ Some (Some k, t1) → tree_at (depth - 1) t1 ≡ Some (d, t2) → read_key t2 ≡ Some (None, t3)
    → tree_at depth (begin_object ∷ t0) ≡ Some (one_member k d, t3)
one_member_at depth k t0 t1 t2 t3 d some key e end =
    object_at depth t0 some ∙ ap (parse_map object) (more_members (depth - 1) no_members k t0 t1 d t2 key e ∙ end_of_members (depth - 1) (member k d no_members) t2 t3 end)

module _ (depth : ℕ) (some : 1 < depth) where
  lower : depth - 2 ≡ depth - 1 - 1
  lower = omega (arith, some)

  -- an array as the content of the one member
  array_in : (k : List ℕ) (t0 t1 t2 t3 : List Token) (ds : Items) → read_key t0 ≡ Some (Some k, begin_array ∷ t1) → items_at (depth - 2) t1 ≡ Some (ds, t2) → read_key t2 ≡ Some (None, t3)
      → tree_at depth (begin_object ∷ t0) ≡ Some (one_member k (array ds), t3)
  array_in k t0 t1 t2 t3 ds key e end =
      one_member_at depth k t0 (begin_array ∷ t1) t2 t3 (array ds) (omega (arith, some)) key
      (array_at (depth - 1) t1 (omega (arith, some)) ∙ ap (parse_map array) (subst (λ n. items_at n t1 ≡ Some (ds, t2)) lower e)) end

  object_in : (k : List ℕ) (t0 t1 t2 t3 : List Token) (ms : Members) → read_key t0 ≡ Some (Some k, begin_object ∷ t1) → members_at (depth - 2) no_members t1 ≡ Some (ms, t2) → read_key t2 ≡ Some (None, t3)
      → tree_at depth (begin_object ∷ t0) ≡ Some (one_member k (object ms), t3)
  object_in k t0 t1 t2 t3 ms key e end =
      one_member_at depth k t0 (begin_object ∷ t1) t2 t3 (object ms) (omega (arith, some)) key
      (object_at (depth - 1) t1 (omega (arith, some)) ∙ ap (parse_map object) (subst (λ n. members_at n no_members t1 ≡ Some (ms, t2)) lower e)) end

  -- two values in an array as that content
  pair_in : (k : List ℕ) (t0 t1 t2 t3 t4 t5 : List Token) (d e : Data) → read_key t0 ≡ Some (Some k, begin_array ∷ t1) → tree_at (depth - 2) t1 ≡ Some (d, t2) → tree_at (depth - 2) t2 ≡ Some (e, t3)
      → after_end_array t3 ≡ Some t4 → read_key t4 ≡ Some (None, t5) → tree_at depth (begin_object ∷ t0) ≡ Some (one_member k (array_of_two d e), t5)
  pair_in k t0 t1 t2 t3 t4 t5 d e key one other end last =
      one_member_at depth k t0 (begin_array ∷ t1) t4 t5 (array_of_two d e) (omega (arith, some)) key
      (array_of_two_at (depth - 1) t1 t2 t3 t4 d e (omega (arith, some)) (subst (λ n. tree_at n t1 ≡ Some (d, t2)) lower one) (subst (λ n. tree_at n t2 ≡ Some (e, t3)) lower other) end) last

  pub pair_taken : (l m : FormTree) (t0 t1 t2 t3 t4 t5 : List Token) (a b : CompTree) → read_key t0 ≡ Some (Some (codes "then"), begin_array ∷ t1) → TakesComp l (depth - 2) t1 a t2 → TakesComp m (depth - 2) t2 b t3
      → after_end_array t3 ≡ Some t4 → read_key t4 ≡ Some (None, t5) → TakesComp (form_then l m) depth (begin_object ∷ t0) (then_comp a b) t5
  pair_taken l m t0 t1 t2 t3 t4 t5 a b key p q end last =
      let tree = one_member (codes "then") (array_of_two p.0 q.0) in
      (tree, pair_in (codes "then") t0 t1 t2 t3 t4 t5 p.0 q.0 key p.1 q.1 end last, pair_found l m tree p.0 q.0 a b refl p.2 q.2)

  pub record_taken : (rows : RowTrees) (t0 t1 t2 t3 : List Token) (cs : CompTrees) → read_key t0 ≡ Some (Some (codes "rec"), begin_array ∷ t1) → TakesRows rows (depth - 2) t1 cs t2 → read_key t2 ≡ Some (None, t3)
      → TakesComp (form_rec rows) depth (begin_object ∷ t0) (rec_comp cs) t3
  record_taken rows t0 t1 t2 t3 cs key p last =
      let tree = one_member (codes "rec") (array p.0) in
      (tree, array_in (codes "rec") t0 t1 t2 t3 p.0 key p.1 last, rec_found rows tree p.0 cs refl p.2)

  pub tagged_taken : (arms : ArmTrees) (t0 t1 t2 t3 t4 t5 : List Token) (s : List ℕ) (l : FormTree) (c : CompTree) → read_key t0 ≡ Some (Some (codes "alt"), begin_array ∷ t1)
      → tree_at (depth - 2) t1 ≡ Some (string s, t2) → arm_with arms s ≡ Some l → TakesComp l (depth - 2) t2 c t3 → after_end_array t3 ≡ Some t4 → read_key t4 ≡ Some (None, t5)
      → TakesComp (form_alt arms) depth (begin_object ∷ t0) (alt_comp s c) t5
  tagged_taken arms t0 t1 t2 t3 t4 t5 s l c key tag arm p end last =
      let tree = one_member (codes "alt") (array_of_two (string s) p.0) in
      (tree, pair_in (codes "alt") t0 t1 t2 t3 t4 t5 (string s) p.0 key tag p.1 end last, tagged_found arms tree (string s) p.0 s s l c refl refl arm p.2 refl)

  pub list_taken : (l : FormTree) (t0 t1 t2 t3 : List Token) (cs : CompTrees) (n : ℕ) → read_key t0 ≡ Some (Some (codes "list"), begin_array ∷ t1) → TakesPlaces l (depth - 2) t1 cs t2 → read_key t2 ≡ Some (None, t3)
      → n ≡ comp_count cs → TakesComp (form_each l) depth (begin_object ∷ t0) (hold_comp (ListOf (record { count = n })) cs) t3
  list_taken l t0 t1 t2 t3 cs n key p last many =
      let tree = one_member (codes "list") (array p.0) in
      (tree, array_in (codes "list") t0 t1 t2 t3 p.0 key p.1 last, list_found l tree p.0 cs n refl p.2 many)

  pub keyed_taken : (l : FormTree) (t0 t1 t2 t3 : List Token) (names keys : List (List ℕ)) (cs : CompTrees) → read_key t0 ≡ Some (Some (codes "keyed"), begin_object ∷ t1) → TakesContents l (depth - 2) t1 names cs t2
      → read_key t2 ≡ Some (None, t3) → is_rising keys ≡ true → keys ≡ names → TakesComp (form_keyed l) depth (begin_object ∷ t0) (hold_comp (KeyedOf keys) cs) t3
  keyed_taken l t0 t1 t2 t3 names keys cs key p last rising same =
      let tree = one_member (codes "keyed") (object p.0) in
      (tree, object_in (codes "keyed") t0 t1 t2 t3 p.0 key p.1 last, keyed_found l tree p.0 keys cs refl p.3 rising (same ∙ p.2))

  pub tags_taken : (fs : FieldTrees) (t0 t1 t2 t3 : List Token) (ks : List ℕ) → read_key t0 ≡ Some (Some (codes "tags"), begin_array ∷ t1) → TakesTags fs (depth - 2) t1 ks t2 → read_key t2 ≡ Some (None, t3)
      → TakesComp (form_part fs) depth (begin_object ∷ t0) (tags_comp ks) t3
  tags_taken fs t0 t1 t2 t3 ks key p last =
      let tree = one_member (codes "tags") (array p.0) in
      (tree, array_in (codes "tags") t0 t1 t2 t3 p.0 key p.1 last, tags_found fs tree p.0 ks refl p.2)

pub nodes_taken : (depth : ℕ) (l : FormTree) (t0 t1 t2 t3 t4 t5 t6 t7 : List Token) (depths nodes : List ℕ) (cs : CompTrees) → 2 < depth → read_key t0 ≡ Some (Some (codes "tree"), begin_object ∷ t1)
    → read_key t1 ≡ Some (Some (codes "depths"), begin_array ∷ t2) → read_items_at counts_of (depth - 3) t2 ≡ Some (depths, t3) → read_key t3 ≡ Some (Some (codes "items"), begin_array ∷ t4)
    → TakesPlaces l (depth - 3) t4 cs t5 → read_key t5 ≡ Some (None, t6) → read_key t6 ≡ Some (None, t7) → nodes ≡ depths → is_valid nodes ≡ true → length depths ≡ comp_count cs
    → TakesComp (form_ordered l) depth (begin_object ∷ t0) (hold_comp (TreeOf nodes) cs) t7
nodes_taken depth l t0 t1 t2 t3 t4 t5 t6 t7 depths nodes cs some key key_of_depths numbers key_of_items p end last same valid many =
    let n = found counts_of (items_at (depth - 3) t2) depths t3 numbers in
    let tree = nodes_tree n.0 p.0 in
    let low : depth - 3 ≡ depth - 2 - 1 = omega (arith, some) in
    let deep : 0 < depth - 2 = omega (arith, some) in
    let of_depths : tree_at (depth - 2) (begin_array ∷ t2) ≡ Some (array n.0, t3) = array_at (depth - 2) t2 deep ∙ ap (parse_map array) (subst (λ m. items_at m t2 ≡ Some (n.0, t3)) low n.1) in
    let of_items : tree_at (depth - 2) (begin_array ∷ t4) ≡ Some (array p.0, t5) = array_at (depth - 2) t4 deep ∙ ap (parse_map array) (subst (λ m. items_at m t4 ≡ Some (p.0, t5)) low p.1) in
    let members : members_at (depth - 2) no_members t1 ≡ Some (member (codes "depths") (array n.0) (member (codes "items") (array p.0) no_members), t6) =
    more_members (depth - 2) no_members (codes "depths") t1 (begin_array ∷ t2) (array n.0) t3 key_of_depths of_depths
    ∙ (more_members (depth - 2) (member (codes "depths") (array n.0) no_members) (codes "items") t3 (begin_array ∷ t4) (array p.0) t5 key_of_items of_items
    ∙ end_of_members (depth - 2) (member (codes "depths") (array n.0) (member (codes "items") (array p.0) no_members)) t5 t6 end) in (
      tree,
      object_in depth (omega (arith, some)) (codes "tree") t0 t1 t6 t7 (member (codes "depths") (array n.0) (member (codes "items") (array p.0) no_members)) key members last,
      nodes_found l tree n.0 p.0 depths nodes cs refl n.2 same valid many p.2,
    )

-- ---- one complement after another

then_one_more : (cs : List CompTree) (c : CompTree) (ds : CompTrees) → then_comps (cs ++ c ∷ []) ds ≡ then_comps cs (more_comps c ds)
then_one_more [] c ds = refl
then_one_more (x ∷ cs) c ds = ap (more_comps x) (then_one_more cs c ds)

then_none : (cs : List CompTree) → then_comps cs no_comps ≡ comps_of cs
then_none [] = refl
then_none (x ∷ cs) = ap (more_comps x) (then_none cs)

-- with what was taken, what is taken from now on is taken from the first token on
abbrev pub PlacesSoFar : FormTree → ℕ → List Token → List Token → List CompTree → Type 0
PlacesSoFar l depth first_tokens now cs = (rest : CompTrees) → (new : List Token) → TakesPlaces l depth now rest new → TakesPlaces l depth first_tokens (then_comps cs rest) new

pub next_place : (l : FormTree) (depth : ℕ) (ts now mid : List Token) (cs : List CompTree) (c : CompTree) → PlacesSoFar l depth ts now cs → TakesComp l depth now c mid → PlacesSoFar l depth ts mid (cs ++ c ∷ [])
next_place l depth ts now mid cs c s p rest new h =
    subst (λ x. TakesPlaces l depth ts x new) (sym (then_one_more cs c rest))
    (s (more_comps c rest) new (item p.0 h.0, more_items depth now p.0 mid p.1 ∙ ap (parse_map (item p.0)) h.1, ((p.2.0, h.2.0), ap₂ item p.2.1 h.2.1)))

pub places_end : (l : FormTree) (depth : ℕ) (ts now new : List Token) (cs : List CompTree) → PlacesSoFar l depth ts now cs → after_end_array now ≡ Some new → TakesPlaces l depth ts (comps_of cs) new
places_end l depth ts now new cs s end = subst (λ x. TakesPlaces l depth ts x new) (then_none cs) (s no_comps new (no_items, end_of_items depth now new end, (tt, refl)))

-- ---- the paired rows

pub record RowsSoFar (rows : List FormRow) (i depth : ℕ) (first_tokens now : List Token) (cs : List CompTree) : Type 0 where
  pub taken : (rest : CompTrees) → (new : List Token) → TakesRows (rows_from rows i) depth now rest new → TakesRows (form_rows_of (map row_tree rows)) depth first_tokens (then_comps cs rest) new
  pub typed : are_typed_rows (rows_from rows i) ≡ true

pub no_row_yet : (rows : List FormRow) (depth : ℕ) (ts : List Token) → are_typed_rows (form_rows_of (map row_tree rows)) ≡ true → RowsSoFar rows 0 depth ts ts []
no_row_yet rows depth ts typed = record { taken = λ rest new h. h; typed = typed }

module _ (rows : List FormRow) (i depth : ℕ) (ts now : List Token) (cs : List CompTree) (r : FormRow) (h : i < length rows) (is : r ≡ get_or rows i r) (so_far : RowsSoFar rows i depth ts now cs) where
  module _ (a b : List ℕ) (l : Form) (row : r ≡ Both a b l) where
    both_typed : (is_typed (form_tree l) && are_typed_rows (rows_from rows (i + 1))) ≡ true
    both_typed = subst (λ rs. are_typed_rows rs ≡ true) (next_both rows i r a b l h is row) so_far.typed

    pub row_is_typed : IsTrue (is_typed (form_tree l))
    row_is_typed = first (is_typed (form_tree l)) _ both_typed

    pub row_taken : (c : CompTree) (mid : List Token) → TakesComp (form_tree l) depth now c mid → RowsSoFar rows (i + 1) depth ts mid (cs ++ c ∷ [])
    row_taken c mid p = record {
      taken = λ rest new g.
          subst (λ x. TakesRows (form_rows_of (map row_tree rows)) depth ts x new) (sym (then_one_more cs c rest))
          (so_far.taken (more_comps c rest) new
          (subst (λ rs. TakesRows rs depth now (more_comps c rest) new) (sym (next_both rows i r a b l h is row))
          (item p.0 g.0, more_items depth now p.0 mid p.1 ∙ ap (parse_map (item p.0)) g.1, ((p.2.0, g.2.0), ap₂ item p.2.1 g.2.1))));
      typed = second (is_typed (form_tree l)) _ both_typed;
    }

  pub skip_left : (a : List ℕ) (t : Ty) → r ≡ OnlyLeft a t → RowsSoFar rows (i + 1) depth ts now cs
  skip_left a t row =
      let e = next_left rows i r a t h is row in
      record {
        taken = λ rest new g. so_far.taken rest new (subst (λ rs. TakesRows rs depth now rest new) (sym e) g);
        typed = second (is_well_formed (ty_tree t)) _ (subst (λ rs. are_typed_rows rs ≡ true) e so_far.typed);
      }

  pub skip_right : (b : List ℕ) (t : Ty) → r ≡ OnlyRight b t → RowsSoFar rows (i + 1) depth ts now cs
  skip_right b t row =
      let e = next_right rows i r b t h is row in
      record {
        taken = λ rest new g. so_far.taken rest new (subst (λ rs. TakesRows rs depth now rest new) (sym e) g);
        typed = second (is_well_formed (ty_tree t)) _ (subst (λ rs. are_typed_rows rs ≡ true) e so_far.typed);
      }

pub rows_end : (rows : List FormRow) (i depth : ℕ) (ts now new : List Token) (cs : List CompTree) → length rows ≤ i → RowsSoFar rows i depth ts now cs → after_end_array now ≡ Some new
    → TakesRows (form_rows_of (map row_tree rows)) depth ts (comps_of cs) new
rows_end rows i depth ts now new cs past s end =
    let none : rows_from rows i ≡ no_rows = ap (λ rs. form_rows_of (map row_tree rs)) (drop_all i rows past) in
    subst (λ x. TakesRows (form_rows_of (map row_tree rows)) depth ts x new) (then_none cs)
    (s.taken no_comps new (subst (λ rs. TakesRows rs depth now no_comps new) (sym none) (no_items, end_of_items depth now new end, (tt, refl))))

-- ---- the contents of an object

pub record ContentsSoFar (l : FormTree) (depth : ℕ) (first_tokens now : List Token) (ns : List (List ℕ)) (cs : List CompTree) (last : Option (List ℕ)) : Type 0 where
  pub before : Members
  pub members : Found depth first_tokens now last before
  pub names : (rest : Members) → member_names (append before rest) ≡ ns ++ member_names rest
  pub contents : (rest : Members) (es : CompTrees) → ArePlaces l (member_contents rest) es → ArePlaces l (member_contents (append before rest)) (then_comps cs es)

pub no_content_yet : (l : FormTree) (depth : ℕ) (ts : List Token) → ContentsSoFar l depth ts ts [] [] None
no_content_yet l depth ts = record { before = no_members; members = record { found = refl; low = λ k b. refl }; names = λ rest. refl; contents = λ rest es h. h }

pub one_content_more : (l : FormTree) (depth : ℕ) (ts now mid r : List Token) (ns : List (List ℕ)) (cs : List CompTree) (last : Option (List ℕ)) (n : List ℕ) (c : CompTree)
    → ContentsSoFar l depth ts now ns cs last → follows last n ≡ true → read_key now ≡ Some (Some n, mid) → TakesComp l depth mid c r → ContentsSoFar l depth ts r (ns ++ n ∷ []) (cs ++ c ∷ []) (Some n)
one_content_more l depth ts now mid r ns cs last n c s behind key p = record {
  before = append s.before (member n p.0 no_members);
  members = found_more depth ts now mid r last s.before n p.0 s.members behind key p.1;
  names = λ rest. ap member_names (append-append s.before (member n p.0 no_members) rest) ∙ s.names (member n p.0 rest) ∙ sym (append_assoc ns (n ∷ []) (member_names rest));
  contents = λ rest es h.
      subst (λ x. ArePlaces l (member_contents (append (append s.before (member n p.0 no_members)) rest)) x) (sym (then_one_more cs c es))
      (subst (λ ms. ArePlaces l (member_contents ms) (then_comps cs (more_comps c es))) (sym (append-append s.before (member n p.0 no_members) rest))
      (s.contents (member n p.0 rest) (more_comps c es) ((p.2.0, h.0), ap₂ item p.2.1 h.1)));
}

pub contents_end : (l : FormTree) (depth : ℕ) (ts now r : List Token) (ns : List (List ℕ)) (cs : List CompTree) (last : Option (List ℕ)) → ContentsSoFar l depth ts now ns cs last → read_key now ≡ Some (None, r)
    → TakesContents l depth ts ns (comps_of cs) r
contents_end l depth ts now r ns cs last s end = (
  s.before,
  s.members.found ∙ end_of_members depth s.before now r end,
  sym (append-nil ns) ∙ sym (s.names no_members) ∙ ap member_names (append-none s.before),
  subst (λ x. ArePlaces l (member_contents s.before) x) (then_none cs)
      (subst (λ ms. ArePlaces l (member_contents ms) (then_comps cs no_comps)) (append-none s.before) (s.contents no_members no_comps (tt, refl))),
)

-- ---- tags

abbrev pub TagsSoFar : FieldTrees → ℕ → List Token → List Token → List ℕ → Type 0
TagsSoFar fs depth first_tokens now ks = (rest : List ℕ) → (new : List Token) → TakesTags fs depth now rest new → TakesTags fs depth first_tokens (ks ++ rest) new

pub next_tag_taken : (fs : FieldTrees) (depth : ℕ) (ts now mid : List Token) (ks : List ℕ) (s : List ℕ) (k : ℕ) → TagsSoFar fs depth ts now ks → tree_at depth now ≡ Some (string s, mid) → IsTag fs (string s) k
    → TagsSoFar fs depth ts mid (ks ++ k ∷ [])
next_tag_taken fs depth ts now mid ks s k so_far e is rest new h =
    subst (λ x. TakesTags fs depth ts x new) (sym (append_assoc ks (k ∷ []) rest))
    (so_far (k ∷ rest) new (item (string s) h.0, more_items depth now (string s) mid e ∙ ap (parse_map (item (string s))) h.1, (both _ (are_below (tag_count fs) rest) is.0 h.2.0, ap₂ item is.1 h.2.1)))

pub tags_end : (fs : FieldTrees) (depth : ℕ) (ts now new : List Token) (ks : List ℕ) → TagsSoFar fs depth ts now ks → after_end_array now ≡ Some new → TakesTags fs depth ts ks new
tags_end fs depth ts now new ks s end = subst (λ x. TakesTags fs depth ts x new) (append-nil ks) (s [] new (no_items, end_of_items depth now new end, (refl, refl)))

-- ---- values without parts

pub if_some : {A : Type 0} {P Q : A → Type 0} (o : Option A) → ((a : A) → P a → Q a) → IfSome o P → IfSome o Q
if_some None f h = h
if_some (Some a) f h = f a h

pub null_at : (depth : ℕ) (ts : List Token) → tree_at depth (Token.null ∷ ts) ≡ Some (null, ts)
null_at depth ts = ap (converted of_json) (value_is depth (Token.null ∷ ts))

pub tree_shorter : (depth : ℕ) (ts r : List Token) (d : Data) → tree_at depth ts ≡ Some (d, r) → length r < length ts
tree_shorter depth ts r d e = let j = found of_json (json.value depth ts) d r e in shorter depth ts j.0 r j.1
