-- Lemmas on names that differ, and on names among others.
use Rattle.std.proofs.Common.{◌≡◌, ◌||◌, ℕ, Bool, true, false, List, refl, subst, inl, inr}
use Rattle.std.specs.Prelude.{bytes_eq}
use Rattle.texts.specs.Keys.{has_name}
use Rattle.lens_forms.specs.Forms.{ArmTrees, no_arms, more_arms}
use Rattle.lens_forms.specs.Typing.{left_arms}
use Rattle.lens_core.specs.Complements.{CompTree, FitsArm}
use Rattle.texts.proofs.Tests.{or_second, bytes_eq-is}
use Rattle.texts.proofs.KeyOrder.{bytes_eq-refl}

pub or_left : (a b : Bool) → (a || b) ≡ false → a ≡ false
or_left true b h = h
or_left false b h = refl

-- a name among others is none that is not among them
pub not_that : (n k : List ℕ) (ks : List (List ℕ)) → has_name k ks ≡ false → has_name n ks ≡ true → bytes_eq n k ≡ false
not_that n k ks h e = go (bytes_eq n k) refl
  where
    go : (b : Bool) → bytes_eq n k ≡ b → b ≡ false
    go false q = refl
    go true q = let z = subst (λ m. has_name m ks ≡ true) (bytes_eq-is n k q) e in cc

-- the tag of a complement that fits some arm is among the left tags
pub fits_among : (arms : ArmTrees) (t : List ℕ) (c : CompTree) → FitsArm arms t c → has_name t (left_arms arms) ≡ true
fits_among no_arms t c f = absurd f
fits_among (more_arms a b l arms) t c (inl f) = rw (f.0, bytes_eq-refl a) refl
fits_among (more_arms a b l arms) t c (inr f) = or_second (bytes_eq t a) (has_name t (left_arms arms)) (fits_among arms t c f)
