-- Translation: the word of the other side, and the next complement, to which an edit of one side is translated.
-- `translate_one`, near the end, has the lines of each form; `translate` is that of a whole word.
use Rattle.std.specs.Prelude.{◌≡◌, ℕ, nat_eq, bytes_eq, if◌then◌else◌, List, [], ◌∷◌, map, slice_index_or, slice_set}
use Rattle.std.specs.Prelude.{Option, None, Some, option_map, option_and_then, Ok, Err}
use Rattle.hold_shapes.specs.declared.shape.Shape.{Shape}
use Rattle.hold_shapes.specs.declared.shape.Shape.TheVariants.{List as ListOf, Keyed as KeyedOf, Tree as TreeOf}
use Rattle.hold_shapes.specs.declared.edit.ShapeEdit.{ShapeEdit}
use Rattle.hold_shapes.specs.Shapes.{size_of, place_of}
use Rattle.hold_shapes.specs.Plans.{plan, Planned}
use Rattle.hold_shapes.specs.Gather.{content_at}
use Rattle.texts.specs.declared.side.Side.{Side}
use Rattle.texts.specs.declared.side.Side.TheVariants.{Left, Right}
use Rattle.edit_module.specs.declared.atom.Atom.TheVariants.{Letters}
use Rattle.edit_module.specs.Words.{PrimitiveTree, set, at, stay, switch, modify, shape, WordTree, no_primitives}
use Rattle.doc_values.specs.Types.{FieldTrees}
use Rattle.lens_forms.specs.Forms.{FormTree, form_id, form_bij, form_disc, form_then, form_rec, form_alt, form_each}
use Rattle.lens_forms.specs.Forms.{form_keyed, form_ordered, form_part, form_inv, RowTrees, no_rows, both, only_left}
use Rattle.lens_forms.specs.Forms.{only_right, ArmTrees, no_arms, more_arms, paired_rows}
use Rattle.lens_core.specs.Complements.{CompTree, nil, then_comp, rec_comp, alt_comp, hold_comp, tags_comp, CompTrees}
use Rattle.lens_core.specs.Complements.{no_comps, more_comps, comps_of, comp_list, comp_count, missing, comp_tree}
use Rattle.lens_core.specs.Tags.{tag_count}
use Rattle.tag_seq.specs.Tags.{are_below}
use Rattle.texts.specs.Sides.{other}
use Rattle.lens_core.specs.Sides.{near, far}
use Rattle.lens_core.specs.Emitted.{one, at_word, stay_word, mod_word, switch_word, shape_word, one_by_one}
use Rattle.edit_module.specs.Views.{word_tree}
use Rattle.lens_core.specs.declared.carry.Carried.{Carried}
use Rattle.lens_core.specs.declared.carry.CarryFault.{CarryFault}
use Rattle.lens_core.specs.declared.carry.CarryFault.TheVariants.{Unfit, NoMemory}
use Rattle.lens_core.specs.Partition.{Parted, part_left, part_right}

-- a word and the complement after it
abbrev pub Translated : Type 0
Translated = WordTree × CompTree

-- ---- lenses that keep nothing

-- a word, at the complement that keeps nothing
abbrev pub at_nil : CompTree → Option WordTree → Option Translated
at_nil nil word = option_map (λ w. (w, nil)) word
at_nil _ word = None

-- the partner of a member of the edited side
abbrev pub partner : Side → List (List ℕ × List ℕ) → List ℕ → Option (List ℕ)
partner side [] m = None
partner side (p ∷ ps) m = if bytes_eq (near side p.0 p.1) m then Some (far side p.0 p.1) else partner side ps m

-- Set of a near member gives Set of its partner.
abbrev pub set_partner : Side → List (List ℕ × List ℕ) → PrimitiveTree → Option WordTree
set_partner side ps (set (Letters m)) = option_map (λ n. one (set (Letters n))) (partner side ps m)
set_partner side ps _ = None

-- ---- composition

-- the middle word is translated by the second lens with its complement
abbrev pub onward : (CompTree → WordTree → Option Translated) → CompTree → (CompTree → CompTree → CompTree) → Translated
    → Option Translated
onward second d pair r = option_map (λ q. (q.0, pair r.1 q.1)) (second d r.0)

-- ---- record

-- what was translated in a row, as a part of its record: At of the far field, and the row's complement before those of
-- later rows
abbrev pub in_row : List ℕ → CompTrees → Translated → WordTree × CompTrees
in_row f cs r = (at_word f r.0, more_comps r.1 cs)

-- the complement of a row that is passed over stays
abbrev pub past_row : CompTree → WordTree × CompTrees → WordTree × CompTrees
past_row c r = (r.0, more_comps c r.1)

abbrev pub in_record : WordTree × CompTrees → Translated
in_record r = (r.0, rec_comp r.1)

-- ---- alternatives

-- the far tag of the arm with this left tag, where the near tag is the arm's
abbrev pub far_tag : ArmTrees → Side → List ℕ → List ℕ → Option (List ℕ)
far_tag no_arms side t m = None
far_tag (more_arms a b l arms) side t m =
    if bytes_eq a t
    then (if bytes_eq (near side a b) m then Some (far side a b) else None)
    else far_tag arms side t m

-- what was translated in an arm: Stay of its far tag
abbrev pub in_arm : List ℕ → List ℕ → Translated → Translated
in_arm left_tag far_name r = (stay_word far_name r.0, alt_comp left_tag r.1)

-- Switch from a far tag to the far tag of the arm
abbrev pub to_arm : List ℕ → List ℕ → List ℕ → Translated → Translated
to_arm from left_tag far_name r = (switch_word from far_name r.0, alt_comp left_tag r.1)

-- ---- containers

-- the complement at a place, and the complements with another one there
abbrev pub comp_at : CompTrees → ℕ → CompTree
comp_at cs i = slice_index_or (comp_list cs) i nil

abbrev pub put_comp : CompTrees → ℕ → CompTree → CompTrees
put_comp cs i c = comps_of (slice_set (comp_list cs) i c)

-- the complements gathered by a plan; a fresh place has the inner lens's missing one
abbrev pub gathered_comps : CompTrees → CompTree → Planned → ShapeEdit → Option Translated
gathered_comps cs start (Ok p) e =
    Some (shape_word e, hold_comp p.0 (comps_of (map (content_at (comp_list cs) start) p.1)))
gathered_comps cs start (Err cause) e = None

-- Mod of a place: the inner word is translated with the complement there. A shape edit: the same edit, by its plan.
abbrev pub held_row : (CompTree → WordTree → Option Translated) → CompTree → Shape → CompTrees → PrimitiveTree
    → Option Translated
held_row inner start s cs (modify at_place u) =
    option_and_then (λ i. option_map (λ r. (mod_word at_place r.0, hold_comp s (put_comp cs i r.1)))
    (inner (comp_at cs i) u)) (place_of s at_place)
held_row inner start s cs (shape e) = gathered_comps cs start (plan s e) e
held_row inner start s cs _ = None

-- these lines, where there is one complement for each place
abbrev pub translate_held : (CompTree → WordTree → Option Translated) → CompTree → Shape → CompTrees → PrimitiveTree
    → Option Translated
translate_held inner start s cs p = if nat_eq (comp_count cs) (size_of s) then held_row inner start s cs p else None

-- ---- partition

abbrev pub tagged : Parted → Translated
tagged r = (r.0, tags_comp r.1)

abbrev pub part_one : Side → FieldTrees → List ℕ → PrimitiveTree → Option Parted
part_one Left fs ts p = part_left fs ts p
part_one Right fs ts p = part_right fs ts p

-- ---- one primitive

-- One primitive of a side. None where the complement does not have the outermost form of the lens's complements, and
-- where the primitive fits no line.
abbrev mutual
  pub translate_one : FormTree → Side → CompTree → PrimitiveTree → Option Translated
  -- the identity passes on its primitive as it is
  translate_one (form_id t) side c p = at_nil c (Some (one p))
  -- a disconnection translates everything to the empty word
  translate_one (form_disc t u) side c p = at_nil c (Some no_primitives)
  translate_one (form_bij ps n) side c p = at_nil c (set_partner side ps p)
  -- an inverse turns the sides
  translate_one (form_inv l) side c p = translate_one l (other side) c p
  -- a composition: through its first lens and then through its second, from the right the other way round
  translate_one (form_then l k) Left (then_comp c d) p =
      option_and_then (onward (one_by_one (translate_one k Left)) d (λ c' d'. then_comp c' d'))
      (translate_one l Left c p)
  translate_one (form_then l k) Right (then_comp c d) p =
      option_and_then (onward (one_by_one (translate_one l Right)) c (λ d' c'. then_comp c' d'))
      (translate_one k Right d p)
  translate_one (form_then l k) side _ p = None
  -- a record: At of a field
  translate_one (form_rec rows) side (rec_comp cs) (at f u) =
      if nat_eq (comp_count cs) (paired_rows rows) then option_map in_record (translate_at rows side f u cs) else None
  translate_one (form_rec rows) side _ _ = None
  -- alternatives: Stay at the arm of the complement, Switch from it to an arm, whose missing complement is taken
  translate_one (form_alt arms) side (alt_comp t c) (stay m u) = translate_stay arms side t c m u
  translate_one (form_alt arms) side (alt_comp t c) (switch m n u) =
      option_and_then (λ from. translate_switch arms side from n u) (far_tag arms side t m)
  translate_one (form_alt arms) side _ _ = None
  -- a list, a keyed map, an ordered tree: the complement is of the same kind of shape
  translate_one (form_each l) side (hold_comp (ListOf s) cs) p =
      translate_held (one_by_one (translate_one l side)) (missing l) (ListOf s) cs p
  translate_one (form_each l) side _ p = None
  translate_one (form_keyed l) side (hold_comp (KeyedOf names) cs) p =
      translate_held (one_by_one (translate_one l side)) (missing l) (KeyedOf names) cs p
  translate_one (form_keyed l) side _ p = None
  translate_one (form_ordered l) side (hold_comp (TreeOf depths) cs) p =
      translate_held (one_by_one (translate_one l side)) (missing l) (TreeOf depths) cs p
  translate_one (form_ordered l) side _ p = None
  -- a partition: every number of the complement is that of a tag
  translate_one (form_part fs) side (tags_comp ts) p =
      if are_below (tag_count fs) ts then option_map tagged (part_one side fs ts p) else None
  translate_one (form_part fs) side _ p = None

  -- A word in a field: in a paired row whose near field it is, the word is translated there; in a field of the near
  -- side alone it is translated to the empty word, and the complements stay. None where there is no such row.
  pub translate_at : RowTrees → Side → List ℕ → WordTree → CompTrees → Option (WordTree × CompTrees)
  translate_at no_rows side f u cs = None
  translate_at (both a b l rows) side f u no_comps = None
  translate_at (both a b l rows) side f u (more_comps c cs) =
      if bytes_eq (near side a b) f
      then option_map (in_row (far side a b) cs) (one_by_one (translate_one l side) c u)
      else option_map (past_row c) (translate_at rows side f u cs)
  translate_at (only_left a t rows) Left f u cs = if bytes_eq a f then Some (no_primitives, cs)
      else translate_at rows Left f u cs
  translate_at (only_left a t rows) Right f u cs = translate_at rows Right f u cs
  translate_at (only_right b t rows) Left f u cs = translate_at rows Left f u cs
  translate_at (only_right b t rows) Right f u cs = if bytes_eq b f then Some (no_primitives, cs)
      else translate_at rows Right f u cs

  -- a word in the content of the arm with the left tag t, where m is the arm's near tag
  pub translate_stay : ArmTrees → Side → List ℕ → CompTree → List ℕ → WordTree → Option Translated
  translate_stay no_arms side t c m u = None
  translate_stay (more_arms a b l arms) side t c m u =
      if bytes_eq a t
      then (if bytes_eq (near side a b) m
      then option_map (in_arm a (far side a b)) (one_by_one (translate_one l side) c u) else None)
      else translate_stay arms side t c m u

  -- a word in the initial content of the arm with the near tag n, from its missing complement
  pub translate_switch : ArmTrees → Side → List ℕ → List ℕ → WordTree → Option Translated
  translate_switch no_arms side from n u = None
  translate_switch (more_arms a b l arms) side from n u =
      if bytes_eq (near side a b) n
      then option_map (to_arm from a (far side a b)) (one_by_one (translate_one l side) (missing l) u)
      else translate_switch arms side from n u

-- ---- a whole word

-- the primitives of a word one after another, with the complement that the one before left
abbrev pub translate : FormTree → Side → CompTree → WordTree → Option Translated
translate form side c w = one_by_one (translate_one form side) c w

-- ---- how contracts see a `Carried`

-- the word and the complement of a `Carried`
abbrev pub carried_tree : Carried → Translated
carried_tree r = (word_tree r.word, comp_tree r.comp)

-- why nothing was translated: Unfit where the translation has no value; running out of memory says nothing
abbrev pub IsCarryFault : Option Translated → CarryFault → Type 0
IsCarryFault translated Unfit = translated ≡ None
IsCarryFault translated NoMemory = Unit {0}
