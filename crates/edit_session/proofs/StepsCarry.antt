-- A step from a triple that is in step: the translation has a value, the carried word acts on the document of the other side, and
-- the new triple is in step.
use Rattle.std.proofs.Common.{◌≡◌, List, [], ◌∷◌, Option, Some, None, Result, Ok, Err, IsTrue, refl, ap, sym, subst}
use Rattle.std.specs.Prelude.{option_map, option_and_then}
use Rattle.texts.specs.declared.side.Side.{Side}
use Rattle.texts.specs.declared.side.Side.TheVariants.{Left, Right}
use Rattle.texts.specs.Sides.{other}
use Rattle.doc_values.specs.Documents.{DocTree}
use Rattle.doc_values.specs.Types.{TyTree, is_well_formed}
use Rattle.doc_values.specs.Typing.{has}
use Rattle.edit_module.specs.Words.{WordTree}
use Rattle.edit_module.specs.Action.{act, Why}
use Rattle.lens_core.specs.Complements.{CompTree}
use Rattle.lens_core.specs.Sides.{near}
use Rattle.lens_core.specs.Translation.{Translated}
use Rattle.lens_core.specs.Laws.{SeenFrom, IsCarried, TypesAreWellFormed, TogetherAreTyped, WordsCarry}
use Rattle.edit_session.specs.declared.fault.StepFault.TheVariants.{NoApply, NoMemory}
use Rattle.edit_session.specs.declared.fault.GroupFault.{GroupFault}
use Rattle.edit_session.specs.declared.fault.GroupFault.TheVariants as of_groups
use Rattle.edit_session.specs.Step.{TripleTree, IsInStep, ApplyInTurn, Stepped, AllStepped, WhyPart, with_first, after_first, document_on, triple_from, after_carrying, after_action, step, step_each}
use Rattle.edit_session.specs.Views.{IsGroupFault}
use Rattle.texts.proofs.Tests.{same_value}

only_ok : {X Y : Type 0} {a : Result X Y} {x y : X} → a ≡ Ok x → a ≡ Ok y → x ≡ y
only_ok p q = cc

apart : {X Y : Type 0} {a b : Result X Y} {x : X} {y : Y} → a ≡ b → a ≡ Ok x → b ≡ Err y → ⊥
apart e p q = cc

-- the triple of a side's document, a complement and the other document is in step where the three are, seen from that side
pub from_seen : (holds : DocTree → CompTree → DocTree → Type 0) (side : Side) (x : DocTree) (c : CompTree) (y : DocTree)
    → SeenFrom side holds x c y → IsInStep holds (triple_from side x c y)
from_seen holds Left x c y h = h
from_seen holds Right x c y h = h

-- the type of a side is well formed, and the document of a side has it
pub side_is_well_formed : (left right : TyTree) → TypesAreWellFormed left right → (side : Side) → IsTrue (is_well_formed (near side left right))
side_is_well_formed left right h Left = h.0
side_is_well_formed left right h Right = h.1

pub side_is_typed : (holds : DocTree → CompTree → DocTree → Type 0) (left right : TyTree) → TogetherAreTyped holds left right
    → (side : Side) (t : TripleTree) → IsInStep holds t → IsTrue (has (near side left right) (document_on side t))
side_is_typed holds left right typed Left t h = (typed t.left t.comp t.right h).0
side_is_typed holds left right typed Right t h = (typed t.left t.comp t.right h).1

module _ (holds : DocTree → CompTree → DocTree → Type 0) (left right : TyTree) (carried : Side → CompTree → WordTree → Option Translated)
    (from_left : WordsCarry holds left right Left (carried Left)) (from_right : WordsCarry holds right left Right (carried Right)) where
  -- an edit that acts on the document of its side is carried
  pub carries : (side : Side) (t : TripleTree) (w : WordTree) (x : DocTree) → IsInStep holds t
      → act (near side left right) w (document_on side t) ≡ Ok x
      → IsCarried holds (near (other side) left right) side x (document_on (other side) t) (carried side t.comp w)
  carries Left t w x h is = from_left w t.left t.comp t.right x h is
  carries Right t w x h is = from_right w t.right t.comp t.left x h is

  -- so it is not carried to nothing
  pub never_unfit : (side : Side) (t : TripleTree) (w : WordTree) (x : DocTree) → IsInStep holds t
      → act (near side left right) w (document_on side t) ≡ Ok x → carried side t.comp w ≡ None → ⊥
  never_unfit side t w x h is none = let some = (carries side t w x h is).carried in cc

  -- and the word that it is carried to acts on the other document
  pub never_refused : (side : Side) (t : TripleTree) (w : WordTree) (x : DocTree) (r : Translated) (why : Why) → IsInStep holds t
      → act (near side left right) w (document_on side t) ≡ Ok x → carried side t.comp w ≡ Some r
      → act (near (other side) left right) r.0 (document_on (other side) t) ≡ Err why → ⊥
  never_refused side t w x r why h is some refused =
      let k = carries side t w x h is in
      apart (ap (λ (p : Translated). act (near (other side) left right) p.0 (document_on (other side) t)) (same_value k.carried some)) k.acts refused

  -- and the new triple is in step
  pub next_in_step : (side : Side) (t : TripleTree) (w : WordTree) (x : DocTree) (r : Translated) (y : DocTree) → IsInStep holds t
      → act (near side left right) w (document_on side t) ≡ Ok x → carried side t.comp w ≡ Some r
      → act (near (other side) left right) r.0 (document_on (other side) t) ≡ Ok y → IsInStep holds (triple_from side x r.1 y)
  next_in_step side t w x r y h is some acts =
      let k = carries side t w x h is in
      let same_word = same_value k.carried some in
      let same_document = only_ok k.acts (subst (λ (p : Translated). act (near (other side) left right) p.0 (document_on (other side) t) ≡ Ok y) (sym same_word) acts) in
      let comp_is : k.comp ≡ r.1 = ap (λ (p : Translated). p.1) same_word in
      from_seen holds side x r.1 y (subst (λ c. SeenFrom side holds x c y) comp_is (subst (λ d. SeenFrom side holds x k.comp d) same_document k.consistent))

-- where a word applies to the document of its side, the step is not refused with a number and a cause
carrying_is_no_refusal : (side : Side) (x : DocTree) (r : Translated) (answer : Result DocTree Why) (why : Why)
    → after_carrying side x r answer ≡ Some (Err why) → ⊥
carrying_is_no_refusal side x r (Ok y) why e = cc
carrying_is_no_refusal side x r (Err other_why) why e = cc

carried_is_no_refusal : (side : Side) (x : DocTree) (f : Translated → Result DocTree Why) (o : Option Translated) (why : Why)
    → option_and_then (λ r. after_carrying side x r (f r)) o ≡ Some (Err why) → ⊥
carried_is_no_refusal side x f None why e = cc
carried_is_no_refusal side x f (Some r) why e = carrying_is_no_refusal side x r (f r) why e

-- where each entry of a group applies in its turn, the group is not refused with numbers and a cause
with_first_refused : (w : WordTree) (o : Option AllStepped) (why : WhyPart) → option_map (with_first w) o ≡ Some (Err why) → (first : WhyPart) × (o ≡ Some (Err first))
with_first_refused w None why e = cc
with_first_refused w (Some (Ok s)) why e = cc
with_first_refused w (Some (Err first)) why e = (first, refl)

first_refused : (o : Option Stepped) (others : TripleTree → Option AllStepped) (why : WhyPart)
    → ((first : Why) → o ≡ Some (Err first) → ⊥) → ((s : TripleTree × WordTree) → o ≡ Some (Ok s) → (first : WhyPart) → others s.0 ≡ Some (Err first) → ⊥)
    → option_and_then (after_first others) o ≡ Some (Err why) → ⊥
first_refused None others why never go_on e = cc
first_refused (Some (Ok s)) others why never go_on e = let first = with_first_refused s.1 (others s.0) why e in go_on s refl first.0 first.1
first_refused (Some (Err cause)) others why never go_on e = never cause refl

in_turn_is_no_refusal : (left right : TyTree) (carried : Side → CompTree → WordTree → Option Translated) (es : List (Side × WordTree)) (t : TripleTree) (why : WhyPart)
    → ApplyInTurn left right carried t es → step_each left right carried t es ≡ Some (Err why) → ⊥
in_turn_is_no_refusal left right carried [] t why h e = cc
in_turn_is_no_refusal left right carried (e ∷ es) t why h refused =
    first_refused (step left right carried t e) (λ next. step_each left right carried next es) why
    (λ cause is. carried_is_no_refusal e.0 h.0 (λ r. act (near (other e.0) left right) r.0 (document_on (other e.0) t)) (carried e.0 t.comp e.1) cause
    (subst (λ a. after_action left right carried t e.0 e.1 a ≡ Some (Err cause)) h.1 is))
    (λ s is first others. in_turn_is_no_refusal left right carried es s.0 first (h.2 s is) others)
    refused

pub each_no_memory : (left right : TyTree) (carried : Side → CompTree → WordTree → Option Translated) (t : TripleTree) (es : List (Side × WordTree)) (fault : GroupFault)
    → IsGroupFault (step_each left right carried t es) fault → ApplyInTurn left right carried t es → fault ≡ of_groups.NoMemory
each_no_memory left right carried t es (of_groups.NoApply part at cause) refused h = absurd (in_turn_is_no_refusal left right carried es t (part, (at, cause)) h refused)
each_no_memory left right carried t es of_groups.NoMemory refused h = refl
