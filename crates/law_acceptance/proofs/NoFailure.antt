-- A program has no failure if and only if it is acceptable.
use Rattle.std.proofs.Common.{◌≡◌, ℕ, ◌≤◌, true, List, [], ◌∷◌, ◌++◌, None, refl}
use Rattle.std.specs.Prelude.{nat_le, if◌then◌else◌}
use Rattle.std.specs.List.{AllByRecursion}
use Rattle.std.proofs.lemmas.List.Elements.{All-from_recursion, recursion_from_All}
use Rattle.texts.proofs.Conjunction.{both as both_true, first as first_and}
use Rattle.doc_values.specs.Types.{height}
use Rattle.program_terms.specs.Terms as Term
use Rattle.lens_forms.specs.Forms.{FormTree, left_type, right_type}
use Rattle.lens_forms.specs.Typing.{is_typed}
use Rattle.lens_forms.specs.Measures.{type_parts, form_parts, form_height}
use Rattle.lens_forms.proofs.TypingLaws.{typed_is, typed_passes}
use Rattle.lens_forms.specs.declared.limits.TheConstants.{GREATEST_HEIGHT, MOST_PARTS}
use Rattle.lens_types.specs.Sound.{is_sound}
use Rattle.lens_types.specs.Earlier.{KnownTree, known_type, known_lens, Definitions, expanded_type, expanded_form, known_of, all_known}
use Rattle.lens_types.specs.Checking.{too_large, too_deep, type_failure, lens_failure, written_height, size_failure, height_failure, def_failure, failure_after, first_failure}
use Rattle.lens_types.proofs.SoundForms.{none_both, is_sound_known, are_sound, type_formed, lens_sound, none_if as if_none}
use Rattle.law_acceptance.specs.Acceptable.{IsAcceptableType, IsAcceptableLens, IsAcceptableMeaning, IsAcceptable}
use Rattle.law_acceptance.proofs.LowTypes.{HasLowMeaning, own_sides, low_types, written_low}
use Rattle.law_acceptance.proofs.TypedTerms.{none_or, none_if, type_none, lens_none}
use Rattle.std.proofs.lemmas.Bool.{leb-true, le-leb}

-- ---- definitions that are acceptable

abbrev IsMeaning : List ℕ × KnownTree → Type 0
IsMeaning d = IsAcceptableMeaning d.1

abbrev AreMeanings : Definitions → Type 0
AreMeanings ds = AllByRecursion IsMeaning ds

more : (ds : Definitions) (d : List ℕ × KnownTree) → AreMeanings ds → IsMeaning d → AreMeanings (ds ++ d ∷ [])
more [] d a h = (h, tt)
more (x ∷ ds) d a h = (a.0, more ds d a.1 h)

front : (ds : Definitions) (d : List ℕ × KnownTree) → AreMeanings (ds ++ d ∷ []) → AreMeanings ds
front [] d a = tt
front (x ∷ ds) d a = (a.0, front ds d a.1)

last : (ds : Definitions) (d : List ℕ × KnownTree) → AreMeanings (ds ++ d ∷ []) → IsMeaning d
last [] d a = a.0
last (x ∷ ds) d a = last ds d a.1

-- ---- they are sound, and have low types

lens_is_sound : (f : FormTree) → IsAcceptableLens f → is_sound f ≡ true
lens_is_sound f a =
    let sides = own_sides f a.low_types in
    both_true _ _ (typed_passes f (left_type f) (right_type f) a.typed)
    (both_true _ _ (le-leb (form_parts f) MOST_PARTS a.small)
    (both_true _ _ (le-leb (form_height f) GREATEST_HEIGHT a.low)
    (both_true _ _ (le-leb (height (left_type f)) GREATEST_HEIGHT sides.0) (le-leb (height (right_type f)) GREATEST_HEIGHT sides.1))))

meaning_is_sound : (k : KnownTree) → IsAcceptableMeaning k → is_sound_known k ≡ true
meaning_is_sound (known_type t) a = a.well_formed
meaning_is_sound (known_lens f) a = lens_is_sound f a

all_sound : (ds : Definitions) → AreMeanings ds → are_sound ds ≡ true
all_sound [] a = refl
all_sound (d ∷ ds) a = both_true _ _ (meaning_is_sound d.1 a.0) (all_sound ds a.1)

meaning_low : (k : KnownTree) → IsAcceptableMeaning k → HasLowMeaning k
meaning_low (known_type t) a = tt
meaning_low (known_lens f) a = a.low_types

all_low : (ds : Definitions) → AreMeanings ds → AllByRecursion (λ d. HasLowMeaning d.1) ds
all_low [] a = tt
all_low (d ∷ ds) a = (meaning_low d.1 a.0, all_low ds a.1)

-- ---- a definition without a failure is acceptable

small : (n : ℕ) → size_failure n ≡ None → n ≤ MOST_PARTS
small n h = leb-true n MOST_PARTS (if_none (nat_le n MOST_PARTS) too_large h)

low : (n : ℕ) → height_failure n ≡ None → n ≤ GREATEST_HEIGHT
low n h = leb-true n GREATEST_HEIGHT (if_none (nat_le n GREATEST_HEIGHT) too_deep h)

type_acceptable : (ds : Definitions) → AreMeanings ds → (t : Term.TypeTree) → def_failure ds (Term.type_def t) ≡ None → IsAcceptableType (expanded_type ds t)
type_acceptable ds a t h =
    let u = expanded_type ds t in
    let size = none_both (size_failure (type_parts u)) _ h in
    let levels = none_both (height_failure (height u)) (type_failure t) size.1 in
    record { small = small (type_parts u) size.0; low = low (height u) levels.0; well_formed = type_formed ds (all_sound ds a) t levels.1 }

lens_acceptable : (ds : Definitions) → AreMeanings ds → (l : Term.LensTree) → def_failure ds (Term.lens_def l) ≡ None → IsAcceptableLens (expanded_form ds l)
lens_acceptable ds a l h =
    let f = expanded_form ds l in
    let sound = lens_sound ds (all_sound ds a) l h in
    let size = none_both (size_failure (form_parts f)) _ h in
    let levels = none_both (height_failure (form_height f)) _ size.1 in
    let nodes = none_both (height_failure (written_height ds l)) (lens_failure ds l) levels.1 in
    record {
      small = small (form_parts f) size.0;
      low = low (form_height f) levels.0;
      low_types = low_types ds (all_sound ds a) (all_low ds a) l nodes.1 (low (written_height ds l) nodes.0);
      typed = typed_is f (first_and (is_typed f) _ sound);
    }

def_acceptable : (ds : Definitions) → AreMeanings ds → (d : Term.DefTree) → def_failure ds d ≡ None → IsAcceptableMeaning (known_of ds d)
def_acceptable ds a (Term.type_def t) h = type_acceptable ds a t h
def_acceptable ds a (Term.lens_def l) h = lens_acceptable ds a l h

acceptable_after : (ds : Definitions) → AreMeanings ds → (rest : List (List ℕ × Term.DefTree)) (main : Term.LensTree) → failure_after ds rest main ≡ None
    → AreMeanings (all_known ds rest) × IsAcceptableLens (expanded_form (all_known ds rest) main)
acceptable_after ds a [] main h = (a, lens_acceptable ds a main h)
acceptable_after ds a (d ∷ rest) main h =
    let made : List ℕ × KnownTree = (d.0, known_of ds d.1) in
    let none = none_both (def_failure ds d.1) (failure_after (ds ++ made ∷ []) rest main) h in
    acceptable_after (ds ++ made ∷ []) (more ds made a (def_acceptable ds a d.1 none.0)) rest main none.1

pub only_acceptable : (program : Term.ProgramTree) → first_failure program ≡ None → IsAcceptable program
only_acceptable program h =
    let all = acceptable_after [] tt program.definitions program.main h in
    record { definitions = All-from_recursion IsMeaning (all_known [] program.definitions) all.0; main = all.1 }

-- ---- a definition that is acceptable has no failure

def_none : (ds : Definitions) (d : Term.DefTree) → IsAcceptableMeaning (known_of ds d) → def_failure ds d ≡ None
def_none ds (Term.type_def t) a =
    let u = expanded_type ds t in
    none_or (size_failure (type_parts u)) _ (none_if (nat_le (type_parts u) MOST_PARTS) too_large (le-leb (type_parts u) MOST_PARTS a.small))
    (none_or (height_failure (height u)) (type_failure t) (none_if (nat_le (height u) GREATEST_HEIGHT) too_deep (le-leb (height u) GREATEST_HEIGHT a.low))
    (type_none ds t a.well_formed))
def_none ds (Term.lens_def l) a =
    let f = expanded_form ds l in
    let n = written_height ds l in
    none_or (size_failure (form_parts f)) _ (none_if (nat_le (form_parts f) MOST_PARTS) too_large (le-leb (form_parts f) MOST_PARTS a.small))
    (none_or (height_failure (form_height f)) _ (none_if (nat_le (form_height f) GREATEST_HEIGHT) too_deep (le-leb (form_height f) GREATEST_HEIGHT a.low))
    (none_or (height_failure n) (lens_failure ds l) (none_if (nat_le n GREATEST_HEIGHT) too_deep (le-leb n GREATEST_HEIGHT (written_low ds l a.low_types)))
    (lens_none ds l (typed_passes f (left_type f) (right_type f) a.typed) a.low_types)))

earlier : (ds : Definitions) (rest : List (List ℕ × Term.DefTree)) → AreMeanings (all_known ds rest) → AreMeanings ds
earlier ds [] a = a
earlier ds (d ∷ rest) a =
    let made : List ℕ × KnownTree = (d.0, known_of ds d.1) in
    front ds made (earlier (ds ++ made ∷ []) rest a)

none_after : (ds : Definitions) (rest : List (List ℕ × Term.DefTree)) (main : Term.LensTree) → AreMeanings (all_known ds rest)
    → IsAcceptableLens (expanded_form (all_known ds rest) main) → failure_after ds rest main ≡ None
none_after ds [] main a m = def_none ds (Term.lens_def main) m
none_after ds (d ∷ rest) main a m =
    let made : List ℕ × KnownTree = (d.0, known_of ds d.1) in
    none_or (def_failure ds d.1) (failure_after (ds ++ made ∷ []) rest main)
    (def_none ds d.1 (last ds made (earlier (ds ++ made ∷ []) rest a)))
    (none_after (ds ++ made ∷ []) rest main a m)

pub all_acceptable : (program : Term.ProgramTree) → IsAcceptable program → first_failure program ≡ None
all_acceptable program a =
    none_after [] program.definitions program.main (recursion_from_All IsMeaning (all_known [] program.definitions) a.definitions) a.main
