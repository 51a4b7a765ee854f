-- What edits make of the contents of lists, and what a carried edit keeps: `Carries`, `CarriesBy`.
use Rattle.std.specs.Prelude.{◌≡◌, ℕ, List, [], ◌∷◌, length, map, Bool, Option, Some, None, Result}
use Rattle.std.specs.Prelude.{Ok, Err, option_and_then, IsTrue}
use Rattle.hold_shapes.specs.declared.edit.ShapeEdit.{ShapeEdit}
use Rattle.hold_shapes.specs.declared.edit.ShapeEdit.TheVariants.{MoveItem}
use Rattle.hold_shapes.specs.Gather.{content_at}
use Rattle.hold_shapes.specs.Plans.{Planned, plan_list}
use Rattle.bridge_links.specs.declared.link.Link.{Link}
use Rattle.bridge_links.specs.Links.{link_at}
use Rattle.bridge_links.specs.Spans.{Spans}
use Rattle.bridge_lists.specs.Carried.{Carried, far_place}

-- the contents after a plan, fresh ones with the content a
abbrev pub contents_of : {A : Type 0} → A → List A → Planned → Option (List A)
contents_of a xs (Ok p) = Some (map (content_at xs a) p.1)
contents_of a xs (Err cause) = None

-- the contents after an edit, if it has a plan
abbrev pub edited : {A : Type 0} → A → ShapeEdit → List A → Option (List A)
edited a e xs = contents_of a xs (plan_list (length xs) e)

-- the contents after edits, one after another, if each has a plan
abbrev pub all_edited : {A : Type 0} → A → List ShapeEdit → List A → Option (List A)
all_edited a [] xs = Some xs
all_edited a (e ∷ es) xs = option_and_then (all_edited a es) (edited a e xs)

-- the edit moves an item that the far list of m items does not have
abbrev pub MovesLost : ℕ → List Link → ShapeEdit → Type 0
MovesLost m ls (MoveItem i j) = far_place m (link_at ls i) ≡ None
MovesLost m ls _ = ⊥

-- The near list has the new contents `near`; the edits have plans for the far list t, one after another, and the links
-- lead from the new near list to the new far one; b is what a fresh far place has.
pub record Carries {A B : Type 0} (r : A → B → Type 0) (q : Carried) (found : Option (List A)) (b : B) (t : List B) :
    Type 0 where
  pub near : List A
  pub far : List B
  pub near_is : found ≡ Some near
  pub far_is : all_edited b q.0 t ≡ Some far
  pub spans : Spans r q.1 near far
  pub size : length far ≡ q.2

-- the same, for contents that are numbers and a test of two of them
abbrev pub CarriesBy : (ℕ → ℕ → Bool) → Carried → Option (List ℕ) → ℕ → List ℕ → Type 0
CarriesBy r q found b t = Carries (λ x y. IsTrue (r x y)) q found b t
