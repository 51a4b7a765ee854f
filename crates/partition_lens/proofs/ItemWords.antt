-- Partition from the left: a word inside one item, of stays and switches.
use Rattle.std.proofs.Common.{◌≡◌, ℕ, suc, ◌+◌, ◌-◌, ◌<◌, Bool, true, false, List, [], ◌∷◌, ◌++◌, length, set, Option, Some, None, option_map, Ok, refl, ap, sym, ◌∙◌, subst, arith, length-append}
use Rattle.std.specs.Prelude.{nat_eq, bytes_eq, if◌then◌else◌, cond}
use Rattle.std.proofs.lemmas.Bool.{eqb-true}
use Rattle.std.proofs.lemmas.List.{append-nil, map-append}
use Rattle.hold_shapes.specs.declared.edit.Place.TheVariants.{Index}
use Rattle.hold_shapes.specs.declared.edit.ShapeEdit.TheVariants.{Ins, Del}
use Rattle.edit_module.specs.declared.fault.Cause.TheVariants.{Tag}
use Rattle.doc_values.specs.Documents.{DocTree, alt}
use Rattle.doc_values.specs.Types.{TyTree, ty_alt, ty_list, FieldTrees}
use Rattle.doc_values.specs.Typing.{lookup_field, lookup_type}
use Rattle.doc_values.specs.Initial.{initial}
use Rattle.edit_module.specs.Words.{PrimitiveTree, set as set_to, add, splice, at, stay, switch, modify, shape, WordTree, no_primitives, more_primitives, joined}
use Rattle.edit_module.specs.Action.{act, act_primitive, map_ok, if_present, inner}
use Rattle.edit_module.proofs.ActionKeepsTypes.{present_ok}
use Rattle.lens_core.specs.Emitted.{at_word, mod_word, shape_word, one_by_one}
use Rattle.lens_core.specs.Tags.{tag_count, tag_number, tag_name}
use Rattle.lens_core.specs.Consistency.{list_doc}
use Rattle.tag_seq.specs.Tags.{count, rank}
use Rattle.lens_core.specs.Partition.{Parted, mv, part_item}
use Rattle.lens_core.proofs.Results.{after_ok, tag_ok, content_ok}
use Rattle.lens_core.proofs.ItemLists.{Item, tag_of, tags_of, contents_at, contents-append, length-contents, contents-here, contents-off, rank-part, tag-part}
use Rattle.partition_lens.proofs.ListEdits.{edit_turns, mod_turns, mv_turns, remove_turns}
use Rattle.lens_core.proofs.RightLists.{tag_type, IsPartition, found_by_name, type_by_name, tag_found, TurnsLists, one_list_turns, lists_joined, lists_same, item_doc, lists_by_tag, Turns}
use Rattle.texts.proofs.Tests.{bytes_eq-is, nat_eq-refl}
use Rattle.edit_module.proofs.JoinedWords.{acts_joined}

-- the step of an item: its new tag and content, and the word that turns the lists on the right
pub record ItemStep (fs : FieldTrees) (us : List Item) (old : Item) (ws : List Item) (o : Option Parted) (d : DocTree) : Type 0 where
  pub new : Item
  pub is : d ≡ item_doc fs new
  pub word : WordTree
  pub carried : o ≡ Some (word, tags_of (us ++ new ∷ ws))
  pub turns : TurnsLists fs word (lists_by_tag (us ++ old ∷ ws)) (lists_by_tag (us ++ new ∷ ws))
  pub low : new.0 < tag_count fs

-- ---- what acted

type_same : (t u : TyTree) → Some t ≡ Some u → t ≡ u
type_same t u e = cc

-- ---- Stay

stay_turns : (fs : FieldTrees) → IsPartition fs → (us : List Item) (t : ℕ) (v v' : DocTree) (ws : List Item) (u : WordTree) → t < tag_count fs → act (tag_type fs t) u v ≡ Ok v'
    → TurnsLists fs (at_word (tag_name fs t) (mod_word (Index (rank t (length us) (tags_of (us ++ (t, v) ∷ ws)))) u)) (lists_by_tag (us ++ (t, v) ∷ ws)) (lists_by_tag (us ++ (t, v') ∷ ws))
stay_turns fs p us t v v' ws u low e =
    one_list_turns fs p t (mod_word (Index (rank t (length us) (tags_of (us ++ (t, v) ∷ ws)))) u) (lists_by_tag (us ++ (t, v) ∷ ws)) (lists_by_tag (us ++ (t, v') ∷ ws)) low
    (rw (rank-part t us ((t, v) ∷ ws), contents-here t v us ws, contents-here t v' us ws) (mod_turns (tag_type fs t) u (contents_at t us) v v' (contents_at t ws) e))
    (λ l f. contents-off l t v' us ws f ∙ sym (contents-off l t v us ws f))

same_tags : (us : List Item) (t : ℕ) (v v' : DocTree) (ws : List Item) → tags_of (us ++ (t, v) ∷ ws) ≡ tags_of (us ++ (t, v') ∷ ws)
same_tags us t v v' ws = map-append tag_of us ((t, v) ∷ ws) ∙ sym (map-append tag_of us ((t, v') ∷ ws))

number_by_name : (fs : FieldTrees) (t : ℕ) → IsPartition fs → t < tag_count fs → tag_number fs (tag_name fs t) ≡ Some t
number_by_name fs t p low = ap (option_map (λ (f : ℕ × TyTree). f.0)) (found_by_name fs t p.apart low)

stay_step : (fs : FieldTrees) → IsPartition fs → (us : List Item) (t : ℕ) (v : DocTree) (ws : List Item) (n : List ℕ) (u : WordTree) (d : DocTree) → t < tag_count fs
    → act_primitive (ty_alt fs) (stay n u) (alt (tag_name fs t) v) ≡ Ok d → ItemStep fs us (t, v) ws (part_item fs (length us) (tags_of (us ++ (t, v) ∷ ws)) (stay n u)) d
stay_step fs p us t v ws n u d low e =
    let a = tag_ok (bytes_eq n (tag_name fs t)) (if_present (lookup_type fs (tag_name fs t)) Tag (λ ty. map_ok (alt (tag_name fs t)) (inner (act ty u v)))) d e in
    let b = present_ok (lookup_type fs (tag_name fs t)) Tag (λ ty. map_ok (alt (tag_name fs t)) (inner (act ty u v))) d a.1 in
    let c = content_ok (tag_name fs t) (act b.0 u v) d b.2 in
    let typed : b.0 ≡ tag_type fs t = type_same b.0 (tag_type fs t) (sym b.1 ∙ type_by_name fs t p.apart low) in
    let named : tag_name fs t ≡ n = sym (bytes_eq-is n (tag_name fs t) a.0) in
    let word = λ (m : List ℕ). at_word m (mod_word (Index (rank t (length us) (tags_of (us ++ (t, v) ∷ ws)))) u) in
    record {
      new = (t, c.0);
      is = c.2;
      word = word (tag_name fs t);
      carried = subst (λ m. part_item fs (length us) (tags_of (us ++ (t, v) ∷ ws)) (stay m u) ≡ Some (word (tag_name fs t), tags_of (us ++ (t, c.0) ∷ ws))) named
          (rw (number_by_name fs t p low, tag-part t v us ws, nat_eq-refl t, same_tags us t v c.0 ws) refl);
      turns = stay_turns fs p us t v c.0 ws u low (subst (λ ty. act ty u v ≡ Ok c.0) typed c.1);
      low = low;
    }

-- ---- Switch

-- the content leaves the list of its tag
leave_turns : (fs : FieldTrees) → IsPartition fs → (us : List Item) (t : ℕ) (v : DocTree) (ws : List Item) → t < tag_count fs
    → TurnsLists fs (at_word (tag_name fs t) (joined (mv (rank t (length us) (tags_of (us ++ (t, v) ∷ ws))) (count t (tags_of (us ++ (t, v) ∷ ws)) - 1)) (shape_word (Del 1))))
    (lists_by_tag (us ++ (t, v) ∷ ws)) (lists_by_tag (us ++ ws))
leave_turns fs p us t v ws low =
    let ps = us ++ (t, v) ∷ ws in
    let many : count t (tags_of ps) ≡ length (contents_at t us) + suc (length (contents_at t ws)) =
    sym (length-contents t ps) ∙ (ap length (contents-here t v us ws) ∙ length-append (contents_at t us) (v ∷ contents_at t ws)) in
    let few = length-append (contents_at t us) (contents_at t ws) in
    let last : count t (tags_of ps) - 1 ≡ length (contents_at t us ++ contents_at t ws) = omega arith in
    one_list_turns fs p t (joined (mv (rank t (length us) (tags_of ps)) (count t (tags_of ps) - 1)) (shape_word (Del 1))) (lists_by_tag ps) (lists_by_tag (us ++ ws)) low
    (rw (rank-part t us ((t, v) ∷ ws), contents-here t v us ws, contents-append t us ws) (remove_turns (tag_type fs t) (contents_at t us) (contents_at t ws) v (count t (tags_of ps) - 1) last))
    (λ l f. sym (contents-off l t v us ws f))

-- one comes into the list of a tag, at its place
come_turns : (fs : FieldTrees) → IsPartition fs → (us : List Item) (t : ℕ) (v : DocTree) (ws : List Item) (u : WordTree) (m s : ℕ) → t < tag_count fs → act (tag_type fs t) u (initial (tag_type fs t)) ≡ Ok v
    → m ≡ length (contents_at t (us ++ ws)) → s ≡ length (contents_at t us)
    → TurnsLists fs (at_word (tag_name fs t) (joined (shape_word (Ins 1)) (joined (mv m s) (mod_word (Index s) u)))) (lists_by_tag (us ++ ws)) (lists_by_tag (us ++ (t, v) ∷ ws))
come_turns fs p us t v ws u m s low e f g =
    let ty = tag_type fs t in
    let cu = contents_at t us in
    let cw = contents_at t ws in
    let fresh = initial ty in
    let one : Turns ty (shape_word (Ins 1)) (cu ++ cw) ((cu ++ cw) ++ fresh ∷ []) = edit_turns ty (Ins 1) (cu ++ cw) refl in
    let m_is : m ≡ length (cu ++ cw) = f ∙ ap length (contents-append t us ws) in
    let two : Turns ty (mv m s) ((cu ++ cw) ++ fresh ∷ []) (cu ++ fresh ∷ cw) =
    ap (λ z. act (ty_list ty) (mv z s) (list_doc ((cu ++ cw) ++ fresh ∷ []))) m_is
    ∙ (ap (λ z. act (ty_list ty) (mv (length (cu ++ cw)) z) (list_doc ((cu ++ cw) ++ fresh ∷ []))) g ∙ mv_turns ty (cu ++ cw) [] cu cw fresh (append-nil (cu ++ cw))) in
    let three : Turns ty (mod_word (Index s) u) (cu ++ fresh ∷ cw) (cu ++ v ∷ cw) =
    ap (λ z. act (ty_list ty) (mod_word (Index z) u) (list_doc (cu ++ fresh ∷ cw))) g ∙ mod_turns ty u cu fresh v cw e in
    let later = acts_joined (ty_list ty) (mv m s) (mod_word (Index s) u) (list_doc ((cu ++ cw) ++ fresh ∷ [])) (list_doc (cu ++ fresh ∷ cw)) (list_doc (cu ++ v ∷ cw)) two three in
    let all : Turns ty (joined (shape_word (Ins 1)) (joined (mv m s) (mod_word (Index s) u))) (cu ++ cw) (cu ++ v ∷ cw) =
    acts_joined (ty_list ty) (shape_word (Ins 1)) (joined (mv m s) (mod_word (Index s) u)) (list_doc (cu ++ cw)) (list_doc ((cu ++ cw) ++ fresh ∷ [])) (list_doc (cu ++ v ∷ cw)) one later in
    one_list_turns fs p t (joined (shape_word (Ins 1)) (joined (mv m s) (mod_word (Index s) u))) (lists_by_tag (us ++ ws)) (lists_by_tag (us ++ (t, v) ∷ ws)) low
    (subst (λ z. Turns ty (joined (shape_word (Ins 1)) (joined (mv m s) (mod_word (Index s) u))) z (contents_at t (us ++ (t, v) ∷ ws))) (sym (contents-append t us ws))
    (subst (λ z. Turns ty (joined (shape_word (Ins 1)) (joined (mv m s) (mod_word (Index s) u))) (cu ++ cw) z) (sym (contents-here t v us ws)) all))
    (λ l q. contents-off l t v us ws q)

-- how many have the tag of the new content when the old one has left
count_left : (us : List Item) (t s : ℕ) (v : DocTree) (ws : List Item)
    → (if nat_eq t s then count s (tags_of (us ++ (t, v) ∷ ws)) - 1 else count s (tags_of (us ++ (t, v) ∷ ws))) ≡ length (contents_at s (us ++ ws))
count_left us t s v ws = go (nat_eq t s) refl
  where
    many : count t (tags_of (us ++ (t, v) ∷ ws)) ≡ suc (length (contents_at t (us ++ ws)))
    many =
        let a = length-append (contents_at t us) (v ∷ contents_at t ws) in
        let b = length-append (contents_at t us) (contents_at t ws) in
        let c = ap length (contents-append t us ws) in
        sym (length-contents t (us ++ (t, v) ∷ ws)) ∙ (ap length (contents-here t v us ws) ∙ omega arith)

    go : (b : Bool) → nat_eq t s ≡ b → cond b (count s (tags_of (us ++ (t, v) ∷ ws)) - 1) (count s (tags_of (us ++ (t, v) ∷ ws))) ≡ length (contents_at s (us ++ ws))
    go true e =
        let same : t ≡ s = eqb-true t s e in
        let n = many in
        let less : count t (tags_of (us ++ (t, v) ∷ ws)) - 1 ≡ length (contents_at t (us ++ ws)) = omega arith in
        subst (λ z. count z (tags_of (us ++ (t, v) ∷ ws)) - 1 ≡ length (contents_at z (us ++ ws))) same less
    go false e = sym (length-contents s (us ++ (t, v) ∷ ws)) ∙ ap length (contents-off s t v us ws e)

switched_tags : (us : List Item) (t s : ℕ) (v v' : DocTree) (ws : List Item) → set (tags_of (us ++ (t, v) ∷ ws)) (length us) s ≡ tags_of (us ++ (s, v') ∷ ws)
switched_tags [] t s v v' ws = refl
switched_tags (u ∷ us) t s v v' ws = ap (λ z. u.0 ∷ z) (switched_tags us t s v v' ws)

switch_step : (fs : FieldTrees) → IsPartition fs → (us : List Item) (t : ℕ) (v : DocTree) (ws : List Item) (a b : List ℕ) (u : WordTree) (d : DocTree) → t < tag_count fs
    → act_primitive (ty_alt fs) (switch a b u) (alt (tag_name fs t) v) ≡ Ok d → ItemStep fs us (t, v) ws (part_item fs (length us) (tags_of (us ++ (t, v) ∷ ws)) (switch a b u)) d
switch_step fs p us t v ws a b u d low e =
    let ts = tags_of (us ++ (t, v) ∷ ws) in
    let i = tag_ok (bytes_eq a (tag_name fs t)) (if_present (lookup_type fs b) Tag (λ ty. map_ok (alt b) (inner (act ty u (initial ty))))) d e in
    let j = present_ok (lookup_type fs b) Tag (λ ty. map_ok (alt b) (inner (act ty u (initial ty)))) d i.1 in
    let k = content_ok b (act j.0 u (initial j.0)) d j.2 in
    let tag = typed_tag b j.0 j.1 in
    let named : tag_name fs t ≡ a = sym (bytes_eq-is a (tag_name fs t) i.0) in
    let s = tag.0 in
    let gone = joined (mv (rank t (length us) ts) (count t ts - 1)) (shape_word (Del 1)) in
    let m = (if nat_eq t s then count s ts - 1 else count s ts) in
    let come = joined (shape_word (Ins 1)) (joined (mv m (rank s (length us) ts)) (mod_word (Index (rank s (length us) ts)) u)) in
    let first_turns = leave_turns fs p us t v ws low in
    let second_turns = come_turns fs p us s k.0 ws u m (rank s (length us) ts) tag.4 (subst (λ ty. act ty u (initial ty) ≡ Ok k.0) (sym tag.3) k.1) (count_left us t s v ws) (rank-part s us ((t, v) ∷ ws)) in
    record {
      new = (s, k.0);
      is = k.2 ∙ ap (λ z. alt z k.0) (sym tag.2);
      word = joined (at_word (tag_name fs t) gone) (at_word (tag_name fs s) come);
      carried = subst (λ z. part_item fs (length us) ts (switch z b u) ≡ Some (joined (at_word (tag_name fs t) gone) (at_word (tag_name fs s) come), tags_of (us ++ (s, k.0) ∷ ws))) named
          (subst (λ z. part_item fs (length us) ts (switch (tag_name fs t) z u) ≡ Some (joined (at_word (tag_name fs t) gone) (at_word (tag_name fs s) come), tags_of (us ++ (s, k.0) ∷ ws))) tag.2
          (rw (number_by_name fs t p low, number_by_name fs s p tag.4, tag-part t v us ws, nat_eq-refl t, switched_tags us t s v k.0 ws) refl));
      turns = lists_joined fs (at_word (tag_name fs t) gone) (at_word (tag_name fs s) come) (lists_by_tag (us ++ (t, v) ∷ ws)) (lists_by_tag (us ++ ws)) (lists_by_tag (us ++ (s, k.0) ∷ ws)) first_turns second_turns;
      low = tag.4;
    }
  where
    typed_tag : (n : List ℕ) (ty : TyTree) → lookup_type fs n ≡ Some ty → (s : ℕ) × (lookup_field fs n ≡ Some (s, ty)) × (tag_name fs s ≡ n) × (tag_type fs s ≡ ty) × (s < tag_count fs)
    typed_tag n ty e = go (lookup_field fs n) refl e
      where
        go : (o : Option (ℕ × TyTree)) → lookup_field fs n ≡ o → option_map (λ (f : ℕ × TyTree). f.1) o ≡ Some ty
            → (s : ℕ) × (lookup_field fs n ≡ Some (s, ty)) × (tag_name fs s ≡ n) × (tag_type fs s ≡ ty) × (s < tag_count fs)
        go None f h = cc
        go (Some r) f h =
            let is : r.1 ≡ ty = cc in
            let found = tag_found fs n r f in
            (r.0, f ∙ ap (λ z. Some (r.0, z)) is, found.named, found.typed ∙ is, found.low)

-- ---- a whole word

one_step : (fs : FieldTrees) → IsPartition fs → (us : List Item) (t : ℕ) (v : DocTree) (ws : List Item) (q : PrimitiveTree) (d : DocTree) → t < tag_count fs
    → act_primitive (ty_alt fs) q (alt (tag_name fs t) v) ≡ Ok d → ItemStep fs us (t, v) ws (part_item fs (length us) (tags_of (us ++ (t, v) ∷ ws)) q) d
one_step fs p us t v ws (stay n u) d low e = stay_step fs p us t v ws n u d low e
one_step fs p us t v ws (switch a b u) d low e = switch_step fs p us t v ws a b u d low e
one_step fs p us t v ws (set_to a) d low e = cc
one_step fs p us t v ws (add n) d low e = cc
one_step fs p us t v ws (splice i k s) d low e = cc
one_step fs p us t v ws (at f u) d low e = cc
one_step fs p us t v ws (modify q u) d low e = cc
one_step fs p us t v ws (shape a) d low e = cc

more_steps : (fs : FieldTrees) (us : List Item) (old : Item) (ws : List Item) (q : PrimitiveTree) (w : WordTree) (x d : DocTree)
    → (i : ItemStep fs us old ws (part_item fs (length us) (tags_of (us ++ old ∷ ws)) q) x) → ItemStep fs us i.new ws (one_by_one (part_item fs (length us)) (tags_of (us ++ i.new ∷ ws)) w) d
    → ItemStep fs us old ws (one_by_one (part_item fs (length us)) (tags_of (us ++ old ∷ ws)) (more_primitives q w)) d
more_steps fs us old ws q w x d i k = record {
  new = k.new;
  is = k.is;
  word = joined i.word k.word;
  carried = rw i.carried (rw k.carried refl);
  turns = lists_joined fs i.word k.word (lists_by_tag (us ++ old ∷ ws)) (lists_by_tag (us ++ i.new ∷ ws)) (lists_by_tag (us ++ k.new ∷ ws)) i.turns k.turns;
  low = k.low;
}

pub item_steps : (fs : FieldTrees) → IsPartition fs → (w : WordTree) (us : List Item) (old : Item) (ws : List Item) (d : DocTree) → old.0 < tag_count fs
    → act (ty_alt fs) w (item_doc fs old) ≡ Ok d → ItemStep fs us old ws (one_by_one (part_item fs (length us)) (tags_of (us ++ old ∷ ws)) w) d
item_steps fs p no_primitives us old ws d low e = record {
  new = old;
  is = let same : item_doc fs old ≡ d = cc in sym same;
  word = no_primitives;
  carried = refl;
  turns = lists_same fs (lists_by_tag (us ++ old ∷ ws)) (lists_by_tag (us ++ old ∷ ws)) (λ l b. refl);
  low = low;
}
item_steps fs p (more_primitives q w) us old ws d low e =
    let a = after_ok (act_primitive (ty_alt fs) q (item_doc fs old)) (λ x. act (ty_alt fs) w x) d e in
    let i = one_step fs p us old.0 old.1 ws q a.0 low a.1 in
    more_steps fs us old ws q w a.0 d i (item_steps fs p w us i.new ws d i.low (subst (λ z. act (ty_alt fs) w z ≡ Ok d) i.is a.2))
