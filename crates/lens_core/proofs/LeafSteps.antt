-- What the code reads of words of one primitive, and of the pairs of a bijection.
use Rattle.std.proofs.Common.{◌≡◌, ℕ, ◌+◌, ◌<◌, ◌≤◌, true, false, List, length, drop, drop-cons, get_or, add-one, None, Some, refl, sym}
use Rattle.std.specs.Prelude.{bytes_eq}
use Rattle.std.proofs.lemmas.List.{drop_all}
use Rattle.texts.specs.declared.side.Side.{Side}
use Rattle.edit_module.proofs.Words.{word_tree-out}
use Rattle.lens_core.specs.Sides.{near, far}
use Rattle.lens_core.specs.Translation.{partner}

pub ruleset word_rules = (word_tree-out)

-- ---- the pairs one after the other

-- a pair that has the member ends the search
pub partner_here : (side : Side) (ps : List (List ℕ × List ℕ)) (i : ℕ) (p : List ℕ × List ℕ) (m : List ℕ) → i < length ps → p ≡ get_or ps i p
    → bytes_eq (near side p.0 p.1) m ≡ true → partner side (drop i ps) m ≡ Some (far side p.0 p.1)
partner_here side ps i p m h is e = rw (drop-cons ps i p h, sym is, e) refl

-- any other pair is passed over
pub partner_next : (side : Side) (ps : List (List ℕ × List ℕ)) (i : ℕ) (p : List ℕ × List ℕ) (m : List ℕ) → i < length ps → p ≡ get_or ps i p
    → bytes_eq (near side p.0 p.1) m ≡ false → partner side (drop i ps) m ≡ partner side (drop (i + 1) ps) m
partner_next side ps i p m h is e = rw (drop-cons ps i p h, sym is, e, add-one) refl

-- after the last pair there is none
pub partner_all : (side : Side) (ps : List (List ℕ × List ℕ)) (i : ℕ) (m : List ℕ) → length ps ≤ i → partner side (drop i ps) m ≡ None
partner_all side ps i m h = rw (drop_all i ps h) refl

pub ruleset partner_rules = (partner_here, partner_next, partner_all)
