-- A translation that goes round that of the lens inside: what its steps give, the whole gives.
use Rattle.std.proofs.Common.{◌≡◌, ℕ, List, Option, Some, option_map, sym, ap, ◌∙◌}
use Rattle.std.specs.Prelude.{option_and_then}
use Rattle.texts.specs.declared.side.Side.{Side}
use Rattle.edit_module.specs.Words.{PrimitiveTree, WordTree}
use Rattle.edit_module.specs.Views.{word_tree}
use Rattle.edit_module.specs.declared.word.Word.{Word}
use Rattle.lens_forms.specs.Forms.{RowTrees, form_rec, ArmTrees, form_alt}
use Rattle.lens_core.specs.Beginnings.{Beginning, finished, inside, begun_tree, carried_on, IsBeginFault, IsInside}
use Rattle.lens_core.specs.Complements.{CompTree, CompTrees, rec_comp, alt_comp, comp_tree}
use Rattle.lens_core.specs.Translation.{Translated, translate_one, carried_tree, IsCarryFault}
use Rattle.lens_core.specs.declared.carry.Begun.{Begun}
use Rattle.lens_core.specs.declared.carry.Begun.TheVariants.{Done, Inner}
use Rattle.lens_core.specs.declared.carry.Carried.{Carried}
use Rattle.lens_core.specs.declared.comp.Comp.{Comp}
use Rattle.lens_core.specs.declared.carry.CarryFault.{CarryFault}
use Rattle.lens_core.specs.declared.carry.CarryFault.TheVariants.{Unfit, NoMemory}
use Rattle.lens_branch.specs.AlternativeSteps.{begin_alternatives, finish_alternatives, arm_translation, HasBegun}
use Rattle.lens_branch.specs.RecordSteps.{begin_record, finish_record, row_translation}
use Rattle.lens_branch.proofs.AlternativeRounds.{alternatives_go_round}
use Rattle.lens_branch.proofs.RecordRounds.{record_round}
use Rattle.lens_steps.specs.Ready.{IsReady}
use Rattle.lens_steps.proofs.ReadyForms.{left_apart, right_apart}

-- the whole is its beginning, the translation inside, and its finish
abbrev pub GoesRound : (ℕ → CompTree → WordTree → Option Translated) → (Translated → Translated) → Option Translated → Option Beginning → Type 0
GoesRound inner finish whole begun = whole ≡ option_and_then (carried_on inner finish) begun

pub round_done : (inner : ℕ → CompTree → WordTree → Option Translated) (finish : Translated → Translated) (whole : Option Translated) (begun : Option Beginning) (r : Translated)
    → GoesRound inner finish whole begun → begun ≡ Some (finished r) → whole ≡ Some r
round_done inner finish whole begun r h e = h ∙ ap (option_and_then (carried_on inner finish)) e

pub round_inside : (inner : ℕ → CompTree → WordTree → Option Translated) (finish : Translated → Translated) (whole : Option Translated) (begun : Option Beginning)
    (i : ℕ) (c : CompTree) (w : WordTree) (r q : Translated)
    → GoesRound inner finish whole begun → begun ≡ Some (inside i c w) → inner i c w ≡ Some r → q ≡ finish r → whole ≡ Some q
round_inside inner finish whole begun i c w r q h e f g = h ∙ (ap (option_and_then (carried_on inner finish)) e ∙ (ap (option_map finish) f ∙ ap Some (sym g)))

pub round_not_begun : (inner : ℕ → CompTree → WordTree → Option Translated) (finish : Translated → Translated) (whole : Option Translated) (begun : Option Beginning) (fault : CarryFault)
    → GoesRound inner finish whole begun → IsBeginFault begun fault → IsCarryFault whole fault
round_not_begun inner finish whole begun Unfit h e = h ∙ ap (option_and_then (carried_on inner finish)) e
round_not_begun inner finish whole begun NoMemory h e = tt

pub round_not_inside : (inner : ℕ → CompTree → WordTree → Option Translated) (finish : Translated → Translated) (whole : Option Translated) (begun : Option Beginning)
    (i : ℕ) (c : CompTree) (w : WordTree) (fault : CarryFault)
    → GoesRound inner finish whole begun → begun ≡ Some (inside i c w) → IsCarryFault (inner i c w) fault → IsCarryFault whole fault
round_not_inside inner finish whole begun i c w Unfit h e f = h ∙ (ap (option_and_then (carried_on inner finish)) e ∙ ap (option_map finish) f)
round_not_inside inner finish whole begun i c w NoMemory h e f = tt

-- what the code's beginning is
pub begun_inside : (o : Option Beginning) (b : Begun) (i : ℕ) (c : Comp) (w : Word) → o ≡ Some (begun_tree b) → b ≡ Inner i c w → o ≡ Some (inside i (comp_tree c) (word_tree w))
begun_inside o b i c w e is = e ∙ ap (λ z. Some (begun_tree z)) is

pub begun_done : (o : Option Beginning) (b : Begun) (r : Carried) → o ≡ Some (begun_tree b) → b ≡ Done r → o ≡ Some (finished (carried_tree r))
begun_done o b r e is = e ∙ ap (λ z. Some (begun_tree z)) is

-- a lens inside is needed
pub needs_inside : (begun : Option Beginning) (i : ℕ) (c : CompTree) (w : WordTree) → begun ≡ Some (inside i c w) → IsInside begun
needs_inside begun i c w e = rw e tt

-- ---- records

pub record_done : (rows : RowTrees) (side : Side) (c : CompTree) (cs : CompTrees) (p : PrimitiveTree) (r : Translated) → c ≡ rec_comp cs
    → begin_record rows side cs p ≡ Some (finished r) → translate_one (form_rec rows) side c p ≡ Some r
record_done rows side c cs p r is e = rw is (round_done _ _ _ _ r (record_round rows side cs p) e)

pub record_inside : (rows : RowTrees) (side : Side) (c : CompTree) (cs : CompTrees) (p : PrimitiveTree) (i : ℕ) (d : CompTree) (w : WordTree) (r q : Translated) → c ≡ rec_comp cs
    → begin_record rows side cs p ≡ Some (inside i d w) → row_translation rows side i d w ≡ Some r → q ≡ finish_record rows side cs p r → translate_one (form_rec rows) side c p ≡ Some q
record_inside rows side c cs p i d w r q is e f g = rw is (round_inside _ _ _ _ i d w r q (record_round rows side cs p) e f g)

pub record_not_begun : (rows : RowTrees) (side : Side) (c : CompTree) (cs : CompTrees) (p : PrimitiveTree) (fault : CarryFault) → c ≡ rec_comp cs
    → IsBeginFault (begin_record rows side cs p) fault → IsCarryFault (translate_one (form_rec rows) side c p) fault
record_not_begun rows side c cs p fault is e = rw is (round_not_begun _ _ _ _ fault (record_round rows side cs p) e)

pub record_not_inside : (rows : RowTrees) (side : Side) (c : CompTree) (cs : CompTrees) (p : PrimitiveTree) (i : ℕ) (d : CompTree) (w : WordTree) (fault : CarryFault) → c ≡ rec_comp cs
    → begin_record rows side cs p ≡ Some (inside i d w) → IsCarryFault (row_translation rows side i d w) fault → IsCarryFault (translate_one (form_rec rows) side c p) fault
record_not_inside rows side c cs p i d w fault is e f = rw is (round_not_inside _ _ _ _ i d w fault (record_round rows side cs p) e f)

-- ---- alternatives

round_of : (arms : ArmTrees) (side : Side) (t : List ℕ) (c : CompTree) (p : PrimitiveTree) → IsReady (form_alt arms)
    → GoesRound (arm_translation arms side) (finish_alternatives arms side p) (translate_one (form_alt arms) side (alt_comp t c) p) (begin_alternatives arms side t c p)
round_of arms side t c p h = alternatives_go_round arms side (left_apart arms h) (right_apart arms h) t c p

pub alternative_inside : (arms : ArmTrees) (side : Side) (e : CompTree) (t : List ℕ) (c : CompTree) (p : PrimitiveTree) (i : ℕ) (d : CompTree) (w : WordTree) (r q : Translated)
    → IsReady (form_alt arms) → e ≡ alt_comp t c
    → begin_alternatives arms side t c p ≡ Some (inside i d w) → arm_translation arms side i d w ≡ Some r → q ≡ finish_alternatives arms side p r → translate_one (form_alt arms) side e p ≡ Some q
alternative_inside arms side e t c p i d w r q h is b f g = rw is (round_inside _ _ _ _ i d w r q (round_of arms side t c p h) b f g)

pub alternative_not_begun : (arms : ArmTrees) (side : Side) (e : CompTree) (t : List ℕ) (c : CompTree) (p : PrimitiveTree) (fault : CarryFault) → IsReady (form_alt arms) → e ≡ alt_comp t c
    → IsBeginFault (begin_alternatives arms side t c p) fault → IsCarryFault (translate_one (form_alt arms) side e p) fault
alternative_not_begun arms side e t c p fault h is b = rw is (round_not_begun _ _ _ _ fault (round_of arms side t c p h) b)

pub alternative_not_inside : (arms : ArmTrees) (side : Side) (e : CompTree) (t : List ℕ) (c : CompTree) (p : PrimitiveTree) (i : ℕ) (d : CompTree) (w : WordTree) (fault : CarryFault)
    → IsReady (form_alt arms) → e ≡ alt_comp t c
    → begin_alternatives arms side t c p ≡ Some (inside i d w) → IsCarryFault (arm_translation arms side i d w) fault → IsCarryFault (translate_one (form_alt arms) side e p) fault
alternative_not_inside arms side e t c p i d w fault h is b f = rw is (round_not_inside _ _ _ _ i d w fault (round_of arms side t c p h) b f)

-- after a beginning inside some arm
pub has_begun : (arms : ArmTrees) (side : Side) (t : List ℕ) (c : CompTree) (p : PrimitiveTree) (i : ℕ) (d : CompTree) (w : WordTree)
    → begin_alternatives arms side t c p ≡ Some (inside i d w) → HasBegun arms side p
has_begun arms side t c p i d w e = (t, c, needs_inside _ i d w e)
