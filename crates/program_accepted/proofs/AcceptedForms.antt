-- The form of a program part that is accepted is typed.
use Rattle.std.proofs.Common.{◌≡◌, ℕ, true, List, [], ◌∷◌, ◌++◌, Option, None, Some, Result, Ok, Err, IsTrue, refl, subst}
use Rattle.texts.proofs.Conjunction.{first}
use Rattle.program_terms.specs.Terms as Term
use Rattle.lens_syntax.specs.Programs.{ProgramCause, bounded}
use Rattle.lens_forms.specs.Forms.{FormTree, left_type, right_type}
use Rattle.lens_forms.specs.Typing.{IsTyped, is_typed}
use Rattle.lens_forms.proofs.TypingLaws.{typed_is}
use Rattle.lens_types.specs.Sound.{is_sound}
use Rattle.lens_types.specs.Checking.{Failure, def_failure, failure_after, first_failure}
use Rattle.lens_types.specs.Earlier.{Definitions, known_of, all_known, expanded_form, main_form}
use Rattle.lens_types.proofs.SoundForms.{are_sound, sound_more, lens_sound, def_sound, none_both}
use Rattle.program_accepted.specs.Program.{form_without_failure, form_of_program, lens_of}

-- a main lens with no failure in it and before it keeps the limits and is typed
sound_after : (ds : Definitions) (rest : List (List ℕ × Term.DefTree)) (main : Term.LensTree) → are_sound ds ≡ true → failure_after ds rest main ≡ None
    → is_sound (expanded_form (all_known ds rest) main) ≡ true
sound_after ds [] main s h = lens_sound ds s main h
sound_after ds (d ∷ rest) main s h =
    let none = none_both (def_failure ds d.1) (failure_after (ds ++ (d.0, known_of ds d.1) ∷ []) rest main) h in
    sound_after (ds ++ (d.0, known_of ds d.1) ∷ []) rest main (sound_more ds d.0 (known_of ds d.1) s (def_sound ds s d.1 none.0)) none.1

program_typed : (program : Term.ProgramTree) → first_failure program ≡ None → is_typed (main_form program) ≡ true
program_typed program h = first (is_typed (main_form program)) _ (sound_after [] program.definitions program.main refl h)

checked_typed : (program : Term.ProgramTree) (o : Option Failure) (f : FormTree) → first_failure program ≡ o → form_without_failure program o ≡ Ok f → is_typed f ≡ true
checked_typed program None f is h = let same : main_form program ≡ f = cc in subst (λ g. is_typed g ≡ true) same (program_typed program is)
checked_typed program (Some failure) f is h = cc

pub result_typed : (r : Result Term.ProgramTree ProgramCause) (f : FormTree) → form_of_program r ≡ Ok f → is_typed f ≡ true
result_typed (Ok program) f h = checked_typed program (first_failure program) f refl h
result_typed (Err fault) f h = cc

pub accepted_typed : (text : List ℕ) (f : FormTree) → lens_of text ≡ Ok f → IsTrue (is_typed f)
accepted_typed text f h = result_typed (bounded text) f h

pub accepted_lens : (text : List ℕ) (f : FormTree) → lens_of text ≡ Ok f → IsTyped f (left_type f) (right_type f)
accepted_lens text f h = typed_is f (accepted_typed text f h)
