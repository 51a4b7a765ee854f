-- How alternatives translate one primitive: Stay begins and finishes in the arm of the complement, Switch in another
-- arm. In order: `begin_alternatives`, `finish_alternatives`; what is behind them is for the proofs.
use Rattle.std.specs.Prelude.{ℕ, ◌+◌, bytes_eq, if◌then◌else◌, List, Option, None, Some, option_map, option_and_then}
use Rattle.std.specs.Prelude.{slice_get}
use Rattle.texts.specs.declared.side.Side.{Side}
use Rattle.texts.specs.declared.side.Side.TheVariants.{Left}
use Rattle.edit_module.specs.Words.{PrimitiveTree, stay, switch, WordTree}
use Rattle.lens_forms.specs.Forms.{FormTree, ArmTrees, no_arms, more_arms, form_arm_list, form_tree}
use Rattle.lens_core.specs.Complements.{CompTree, alt_comp, CompTrees, no_comps, more_comps, missing}
use Rattle.lens_core.specs.Emitted.{stay_word, switch_word}
use Rattle.lens_core.specs.Sides.{near, far}
use Rattle.lens_core.specs.Translation.{Translated, translate}
use Rattle.lens_branch.specs.declared.alternatives.FoundArm.{FoundArm}
use Rattle.lens_core.specs.Beginnings.{Beginning, inside, IsInside}

-- ---- the arm of a tag

-- an arm among arms: its number from 0, its two tags, and its lens
pub record ArmAt : Type 0 where
  pub number : ℕ
  pub left_tag : List ℕ
  pub right_tag : List ℕ
  pub lens : FormTree

-- the same arm behind another one
abbrev pub next_arm : ArmAt → ArmAt
next_arm q = record { number = q.number + 1; left_tag = q.left_tag; right_tag = q.right_tag; lens = q.lens }

-- the tag of the edited side, and that of the other side
abbrev pub near_tag : Side → ArmAt → List ℕ
near_tag side q = near side q.left_tag q.right_tag

abbrev pub far_tag_of : Side → ArmAt → List ℕ
far_tag_of side q = far side q.left_tag q.right_tag

-- the first arm with this tag on this side
abbrev pub arm_of : ArmTrees → Side → List ℕ → Option ArmAt
arm_of no_arms side n = None
arm_of (more_arms a b l arms) side n =
    if bytes_eq (near side a b) n then Some (record { number = 0; left_tag = a; right_tag = b; lens = l })
    else option_map next_arm (arm_of arms side n)

-- the arm, where this is its near tag
abbrev pub if_near : Side → List ℕ → ArmAt → Option ArmAt
if_near side m q = if bytes_eq (near_tag side q) m then Some q else None

-- the arm of a complement, by its left tag, where m is its near tag
abbrev pub current_arm : ArmTrees → Side → List ℕ → List ℕ → Option ArmAt
current_arm arms side t m = option_and_then (if_near side m) (arm_of arms Left t)

-- ---- beginning and finish

-- the lens of an arm translates the word, from the complement that is there
abbrev pub begin_here : CompTree → WordTree → ArmAt → Beginning
begin_here c u q = inside q.number c u

-- the lens of an arm translates the word, from its missing complement
abbrev pub begin_anew : WordTree → ArmAt → Beginning
begin_anew u q = inside q.number (missing q.lens) u

-- the beginning in alternatives with the complement of the left tag t and c
abbrev pub begin_alternatives : ArmTrees → Side → List ℕ → CompTree → PrimitiveTree → Option Beginning
begin_alternatives arms side t c (stay m u) = option_map (begin_here c u) (current_arm arms side t m)
begin_alternatives arms side t c (switch m n u) =
    option_and_then (λ _. option_map (begin_anew u) (arm_of arms side n)) (current_arm arms side t m)
begin_alternatives arms side t c _ = None

-- the beginning needs the missing complements of the arms: for Switch alone
abbrev pub NeedsStarts : PrimitiveTree → Type 0
NeedsStarts (switch m n u) = Unit {0}
NeedsStarts _ = ⊥

-- Stay of the far tag of the arm
abbrev pub finish_stay : Side → Translated → Option ArmAt → Translated
finish_stay side r None = r
finish_stay side r (Some q) = (stay_word (far_tag_of side q) r.0, alt_comp q.left_tag r.1)

-- Switch from the far tag of the first arm to that of the second
abbrev pub finish_switch : Side → Translated → Option ArmAt → Option ArmAt → Translated
finish_switch side r (Some from) (Some to) =
    (switch_word (far_tag_of side from) (far_tag_of side to) r.0, alt_comp to.left_tag r.1)
finish_switch side r _ _ = r

-- the finish in alternatives, from what the lens inside translated; only after a beginning that needs it
abbrev pub finish_alternatives : ArmTrees → Side → PrimitiveTree → Translated → Translated
finish_alternatives arms side (stay m u) r = finish_stay side r (arm_of arms side m)
finish_alternatives arms side (switch m n u) r = finish_switch side r (arm_of arms side m) (arm_of arms side n)
finish_alternatives arms side _ r = r

-- some complement of some arm has a beginning with this primitive, in a lens inside
abbrev pub HasBegun : ArmTrees → Side → PrimitiveTree → Type 0
HasBegun arms side p = (t : List ℕ) × (c : CompTree) × IsInside (begin_alternatives arms side t c p)

-- ---- the lens inside

-- the missing complement of each arm
abbrev pub arm_starts : ArmTrees → CompTrees
arm_starts no_arms = no_comps
arm_starts (more_arms a b l arms) = more_comps (missing l) (arm_starts arms)

-- the lens of an arm
abbrev pub lens_of : List ℕ × List ℕ × FormTree → FormTree
lens_of a = a.2

-- the lens of the arm of a number
abbrev pub arm_lens : ArmTrees → ℕ → Option FormTree
arm_lens arms i = option_map lens_of (slice_get (form_arm_list arms) i)

-- the translation by the lens of an arm
abbrev pub arm_translation : ArmTrees → Side → ℕ → CompTree → WordTree → Option Translated
arm_translation arms side i c w = option_and_then (λ l. translate l side c w) (arm_lens arms i)

-- ---- how contracts see a `FoundArm`

abbrev pub arm_seen : FoundArm → ArmAt
arm_seen q = record { number = q.number; left_tag = q.arm.now.0; right_tag = q.arm.now.1; lens = form_tree q.arm.now.2 }
