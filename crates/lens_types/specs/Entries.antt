-- For the helpers of the checker: its entries, the definitions that they stand for, and what a look-up gives.
use Rattle.std.specs.Prelude.{◌≡◌, ◌≤◌, ℕ, ◌+◌, Bool, true, ◌&&◌, nat_eq, nat_le, List, [], ◌∷◌, ◌++◌, length, take}
use Rattle.std.specs.Prelude.{Some}
use Rattle.doc_values.specs.Types.{height}
use Rattle.program_terms.specs.Terms as Term
use Rattle.program_terms.specs.Views.{type_tree, lens_tree}
use Rattle.lens_forms.specs.Measures.{type_parts, form_parts, form_height}
use Rattle.lens_types.specs.Earlier.{KnownTree, Definitions, known, known_of, type_named, form_named, expanded_type}
use Rattle.lens_types.specs.Earlier.{expanded_form}
use Rattle.lens_types.specs.Heights.{capped, has_heights}
use Rattle.lens_types.specs.Sizes.{type_size, lens_size}
use Rattle.lens_types.specs.declared.known.Known.{Known}
use Rattle.lens_types.specs.declared.known.Known.TheVariants.{OfType, OfLens}
use Rattle.lens_types.specs.declared.known.KnownType.{KnownType}
use Rattle.lens_types.specs.declared.known.KnownLens.{KnownLens}

-- how many definitions the names of an entry refer to, and the term of an entry
abbrev pub scope_of : Known → ℕ
scope_of (OfType k) = k.scope
scope_of (OfLens k) = k.scope

abbrev pub term_of : Known → Term.DefTree
term_of (OfType k) = Term.type_def (type_tree k.ty.now)
term_of (OfLens k) = Term.lens_def (lens_tree k.lens.now)

-- what an entry stands for, where the definitions before it stand for these
abbrev pub stands_for : Definitions → Known → KnownTree
stands_for ds k = known_of (take (scope_of k) ds) (term_of k)

-- the definitions before some entries, and then what each of the entries stands for
abbrev pub with_entries : Definitions → List (List ℕ × Known) → Definitions
with_entries ds [] = ds
with_entries ds (e ∷ es) = with_entries (ds ++ (e.0, stands_for ds e.1) ∷ []) es

abbrev pub earlier_tree : List (List ℕ × Known) → Definitions
earlier_tree es = with_entries [] es

-- the parts and heights of an entry are those of what it stands for, and its names refer to no later definition
abbrev pub is_measured_type : Definitions → KnownType → Bool
is_measured_type ds k =
    nat_le k.scope (length ds)
    && (nat_eq k.parts (type_parts (expanded_type (take k.scope ds) (type_tree k.ty.now)))
    && nat_eq k.height (capped (height (expanded_type (take k.scope ds) (type_tree k.ty.now)))))

abbrev pub is_measured_lens : Definitions → KnownLens → Bool
is_measured_lens ds k =
    nat_le k.scope (length ds)
    && (nat_eq k.parts (form_parts (expanded_form (take k.scope ds) (lens_tree k.lens.now)))
    && (nat_eq k.height (capped (form_height (expanded_form (take k.scope ds) (lens_tree k.lens.now))))
    && has_heights (expanded_form (take k.scope ds) (lens_tree k.lens.now)) k.sides))

abbrev pub is_measured : Definitions → Known → Bool
is_measured ds (OfType k) = is_measured_type ds k
is_measured ds (OfLens k) = is_measured_lens ds k

abbrev pub are_measured : Definitions → List (List ℕ × Known) → Bool
are_measured ds [] = true
are_measured ds (e ∷ es) = is_measured ds e.1 && are_measured (ds ++ (e.0, stands_for ds e.1) ∷ []) es

-- how many steps a walk over some terms takes at most, and over the entries that their names refer to
abbrev pub term_size : Term.DefTree → ℕ
term_size (Term.type_def t) = type_size t
term_size (Term.lens_def l) = lens_size l

abbrev pub weight : List (List ℕ × Known) → ℕ
weight [] = 0
weight (e ∷ es) = term_size (term_of e.1) + 1 + weight es

abbrev pub weight_before : ℕ → List (List ℕ × Known) → ℕ
weight_before n es = weight (take n es)

-- what the look-up of a name among the first entries gives
pub record IsFound (es : List (List ℕ × Known)) (scope : ℕ) (name : List ℕ) (k : Known) : Type 0 where
  pub stands : known (take scope (earlier_tree es)) name ≡ Some (stands_for (earlier_tree es) k)
  pub measured : is_measured (earlier_tree es) k ≡ true
  pub smaller : weight_before (scope_of k) es + term_size (term_of k) + 1 ≤ weight_before scope es

pub record IsTypeFound (es : List (List ℕ × Known)) (scope : ℕ) (name : List ℕ) (k : KnownType) : Type 0 where
  pub stands : expanded_type (take k.scope (earlier_tree es)) (type_tree k.ty.now)
      ≡ type_named (take scope (earlier_tree es)) name
  pub measured : is_measured_type (earlier_tree es) k ≡ true
  pub smaller : weight_before k.scope es + type_size (type_tree k.ty.now) + 1 ≤ weight_before scope es

pub record IsLensFound (es : List (List ℕ × Known)) (scope : ℕ) (name : List ℕ) (k : KnownLens) : Type 0 where
  pub stands : expanded_form (take k.scope (earlier_tree es)) (lens_tree k.lens.now)
      ≡ form_named (take scope (earlier_tree es)) name
  pub measured : is_measured_lens (earlier_tree es) k ≡ true
  pub smaller : weight_before k.scope es + lens_size (lens_tree k.lens.now) + 1 ≤ weight_before scope es

-- what a definition stands for, where the earlier ones stand for these
pub record IsKnownType (ds : Definitions) (t : Term.TypeTree) (k : KnownType) : Type 0 where
  pub stands : expanded_type (take k.scope ds) (type_tree k.ty.now) ≡ expanded_type ds t
  pub measured : is_measured_type ds k ≡ true

pub record IsKnownLens (ds : Definitions) (l : Term.LensTree) (k : KnownLens) : Type 0 where
  pub stands : expanded_form (take k.scope ds) (lens_tree k.lens.now) ≡ expanded_form ds l
  pub measured : is_measured_lens ds k ≡ true

pub record IsKnown (ds : Definitions) (d : Term.DefTree) (k : Known) : Type 0 where
  pub stands : stands_for ds k ≡ known_of ds d
  pub measured : is_measured ds k ≡ true
