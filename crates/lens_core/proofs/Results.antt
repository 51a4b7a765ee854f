-- What an answer that is there says of what it was made of.
use Rattle.std.proofs.Common.{◌≡◌, ℕ, Option, None, Some, Result, Ok, Err, refl, Bool, true, false, List}
use Rattle.std.specs.Prelude.{if◌then◌else◌, cond}
use Rattle.hold_shapes.specs.declared.shape.Shape.{Shape}
use Rattle.hold_shapes.specs.declared.edit.Place.{Place as PlaceOf}
use Rattle.hold_shapes.specs.Shapes.{place_of}
use Rattle.doc_values.specs.Documents.{DocTree, hold, DocTrees, alt}
use Rattle.doc_values.specs.Types.{TyTree}
use Rattle.edit_module.specs.Words.{WordTree}
use Rattle.edit_module.specs.declared.fault.Cause.TheVariants.{Place, Tag}
use Rattle.edit_module.specs.Action.{Why, act, inner, map_ok, if_present, act_at_place, put_result_at, put_at, doc_at}
pub use Rattle.edit_module.proofs.ActionKeepsTypes.{after_ok}
use Rattle.lens_core.specs.Beginnings.{Beginning, IsInside}
use Rattle.edit_module.specs.declared.fault.Cause.{Cause}

-- a value of a container after an edit at a place: the place is there, and its content was acted on
pub acted_at : (t : TyTree) (w : WordTree) (s : Shape) (ds : DocTrees) (q : PlaceOf) (x' : DocTree) → act_at_place (λ v. act t w v) s ds q ≡ Ok x'
    → (i : ℕ) × (v : DocTree) × (place_of s q ≡ Some i) × (act t w (doc_at ds i) ≡ Ok v) × (x' ≡ hold s (put_at ds i v))
acted_at t w s ds q x' e = at_found (place_of s q) refl e
  where
    put_ok : (i : ℕ) → place_of s q ≡ Some i → (r : Result DocTree Why) → act t w (doc_at ds i) ≡ r → map_ok (hold s) (map_ok (put_at ds i) (inner r)) ≡ Ok x'
        → (i : ℕ) × (v : DocTree) × (place_of s q ≡ Some i) × (act t w (doc_at ds i) ≡ Ok v) × (x' ≡ hold s (put_at ds i v))
    put_ok i f (Ok v) a h = (i, v, f, a, cc)
    put_ok i f (Err why) a h = cc

    at_found : (o : Option ℕ) → place_of s q ≡ o → if_present o Place (λ i. map_ok (hold s) (put_result_at ds i (act t w (doc_at ds i)))) ≡ Ok x'
        → (i : ℕ) × (v : DocTree) × (place_of s q ≡ Some i) × (act t w (doc_at ds i) ≡ Ok v) × (x' ≡ hold s (put_at ds i v))
    at_found None f h = cc
    at_found (Some i) f h = put_ok i f (act t w (doc_at ds i)) refl h

-- a lens inside is needed where a test holds: it holds, and one is needed
pub inside_if : (b : Bool) (o : Option Beginning) → IsInside (if b then o else None) → (b ≡ true) × IsInside o
inside_if true o h = (refl, h)
inside_if false o h = absurd h

-- ---- alternatives

pub tag_ok : (b : Bool) (r : Result DocTree Cause) (x' : DocTree) → cond b r (Err Tag) ≡ Ok x' → (b ≡ true) × (r ≡ Ok x')
tag_ok true r x' h = (refl, h)
tag_ok false r x' h = cc

pub content_ok : (i : List ℕ) (r : Result DocTree Why) (x' : DocTree) → map_ok (alt i) (inner r) ≡ Ok x' → (v : DocTree) × (r ≡ Ok v) × (x' ≡ alt i v)
content_ok i (Ok v) x' h = (v, refl, cc)
content_ok i (Err why) x' h = cc
