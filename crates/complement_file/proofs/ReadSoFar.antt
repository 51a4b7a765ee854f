-- Reading one thing after another: what has been read, and what is left of what is to be read.
use Rattle.std.proofs.Common.{◌≡◌, List, [], ◌∷◌, ◌++◌, append-nil, append_assoc, ℕ, refl, sym, ap, subst}
use Rattle.lens_core.specs.Complements.{CompTree, CompTrees, no_comps, more_comps, comps_of}

-- What is as wanted for the rest is as wanted for the whole, with what has been read before it; and where something is as wanted for the
-- whole, something is for the rest.
pub record ReadSoFar (Y : Type 0) (Whole Rest : Y → Type 0) (join : Y → Y) : Type 0 where
  pub up : (y : Y) → Rest y → Whole (join y)
  pub down : (y : Y) → Whole y → (z : Y) × Rest z

-- nothing can be as wanted, since nothing can be for the rest
pub none_left : (Y : Type 0) (Whole Rest : Y → Type 0) (join : Y → Y) → ReadSoFar Y Whole Rest join → ((y : Y) → Rest y → ⊥) → (y : Y) → Whole y → ⊥
none_left Y Whole Rest join r none y h = let p = r.down y h in none p.0 p.1

-- ---- complements

-- the complements, and then those
abbrev pub then_comps : List CompTree → CompTrees → CompTrees
then_comps [] ds = ds
then_comps (c ∷ cs) ds = more_comps c (then_comps cs ds)

then_comps-append : (cs : List CompTree) (c : CompTree) (ds : CompTrees) → then_comps (cs ++ c ∷ []) ds ≡ then_comps cs (more_comps c ds)
then_comps-append [] c ds = refl
then_comps-append (x ∷ cs) c ds = ap (more_comps x) (then_comps-append cs c ds)

then_comps-nil : (cs : List CompTree) → then_comps cs no_comps ≡ comps_of cs
then_comps-nil [] = refl
then_comps-nil (x ∷ cs) = ap (more_comps x) (then_comps-nil cs)

abbrev pub CompsRead : (CompTrees → Type 0) → (CompTrees → Type 0) → List CompTree → Type 0
CompsRead Whole Rest cs = ReadSoFar CompTrees Whole Rest (then_comps cs)

pub no_comps_yet : (Whole : CompTrees → Type 0) → CompsRead Whole Whole []
no_comps_yet Whole = record { up = λ ds h. h; down = λ ds h. (ds, h) }

pub next_comp : (Whole Rest Later : CompTrees → Type 0) (cs : List CompTree) (c : CompTree) → CompsRead Whole Rest cs
    → ((ds : CompTrees) → Later ds → Rest (more_comps c ds)) → ((ds : CompTrees) → Rest ds → (es : CompTrees) × Later es) → CompsRead Whole Later (cs ++ c ∷ [])
next_comp Whole Rest Later cs c r into out = record {
  up = λ ds h. subst Whole (sym (then_comps-append cs c ds)) (r.up (more_comps c ds) (into ds h));
  down = λ ds h. let p = r.down ds h in out p.0 p.1;
}

pub all_comps : (Whole Rest : CompTrees → Type 0) (cs : List CompTree) → CompsRead Whole Rest cs → Rest no_comps → Whole (comps_of cs)
all_comps Whole Rest cs r h = subst Whole (then_comps-nil cs) (r.up no_comps h)

-- ---- numbers

abbrev pub NumbersRead : (List ℕ → Type 0) → (List ℕ → Type 0) → List ℕ → Type 0
NumbersRead Whole Rest ks = ReadSoFar (List ℕ) Whole Rest (λ js. ks ++ js)

pub next_number : (Whole Rest Later : List ℕ → Type 0) (ks : List ℕ) (k : ℕ) → NumbersRead Whole Rest ks
    → ((js : List ℕ) → Later js → Rest (k ∷ js)) → ((js : List ℕ) → Rest js → (is : List ℕ) × Later is) → NumbersRead Whole Later (ks ++ k ∷ [])
next_number Whole Rest Later ks k r into out = record {
  up = λ js h. subst Whole (sym (append_assoc ks (k ∷ []) js)) (r.up (k ∷ js) (into js h));
  down = λ js h. let p = r.down js h in out p.0 p.1;
}

pub all_numbers : (Whole Rest : List ℕ → Type 0) (ks : List ℕ) → NumbersRead Whole Rest ks → Rest [] → Whole ks
all_numbers Whole Rest ks r h = subst Whole (append-nil ks) (r.up [] h)
