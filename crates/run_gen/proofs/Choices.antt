-- Each choice is possible, and what a step of a session with its entry comes to.
use Rattle.std.proofs.Common.{◌≡◌, ℕ, ◌+◌, ◌<◌, ◌≤◌, ◌/◌, ◌%◌, Bool, true, false, List, [], ◌∷◌, Some, Ok, refl, sym, ◌∙◌, subst, arith}
use Rattle.std.specs.Prelude.{cond, nat_eq, nat_lt}
use Rattle.std.proofs.lemmas.Bool.Decides.{nat_tests}
use Rattle.texts.specs.declared.side.Side.{Side}
use Rattle.doc_values.specs.Documents.{DocTree}
use Rattle.edit_module.specs.Words.{WordTree}
use Rattle.edit_module.specs.Action.{act}
use Rattle.lens_forms.specs.Forms.{FormTree, left_type, right_type}
use Rattle.lens_core.specs.Sides.{near}
use Rattle.lens_core.specs.Translation.{translate}
use Rattle.lens_core.specs.Consistency.{IsConsistent}
use Rattle.edit_session.specs.declared.fault.StepFault.{StepFault}
use Rattle.edit_session.specs.declared.fault.StepFault.TheVariants.{NoMemory}
use Rattle.edit_session.specs.Step.{TripleTree, IsInStep, document_on, step}
use Rattle.run_gen.specs.declared.choice.Choice.{Choice}
use Rattle.run_gen.specs.declared.choice.Choice.TheVariants.{InsertItem, InsertNumber, MoveItem, AddToNumber}
use Rattle.run_gen.specs.Program.{generated_form}
use Rattle.run_gen.specs.Journal.{choice, entry_of, texts_after, numbers_after, generated_run_from}
use Rattle.run_gen.specs.Invariant.{IsGenerated, IsPossible, counted}
use Rattle.run_gen.proofs.Applied.{applies}
use Rattle.run_gen.proofs.Counted.{stepped, counted_step}
use Rattle.texts.proofs.Tests.{not_zero}

-- ---- choices

either : (b : Bool) (x y : Choice) (k p o : ℕ) → (b ≡ true → IsPossible x k p o) → (b ≡ false → IsPossible y k p o) → IsPossible (cond b x y) k p o
either true x y k p o f g = f refl
either false x y k p o f g = g refl

above_zero : (n : ℕ) → nat_lt 0 n ≡ true → 0 < n
above_zero n h = grind (arith, nat_tests)

rest_below : (a n : ℕ) → 0 < n → a % n < n
rest_below a n h = omega arith

pub choice_possible : (k p o d : ℕ) → IsPossible (choice k p o d) k p o
choice_possible k p o d =
    let adds : Choice = AddToNumber (d / 4 % o) k in
    let moves : Choice = MoveItem (d / 4 % (p + o)) (k % (p + o)) in
    let third : Choice = cond (nat_lt 0 o) adds InsertItem in
    let second : Choice = cond (nat_eq (d % 4) 2) moves third in
    let first : Choice = cond (nat_eq (d % 4) 1) InsertItem second in
    either (nat_eq (p + o) 0) InsertItem (cond (nat_eq (d % 4) 0) InsertNumber first) k p o (λ _. tt) (λ some.
    either (nat_eq (d % 4) 0) InsertNumber first k p o (λ _. tt) (λ _.
    either (nat_eq (d % 4) 1) InsertItem second k p o (λ _. tt) (λ _.
    either (nat_eq (d % 4) 2) moves third k p o
    (λ _. (rest_below (d / 4) (p + o) (not_zero (p + o) some), rest_below k (p + o) (not_zero (p + o) some)))
    (λ _. either (nat_lt 0 o) adds InsertItem k p o (λ h. (rest_below (d / 4) o (above_zero o h), refl)) (λ _. tt)))))

-- ---- steps

-- the entry of a choice that is possible is not refused
pub never_refused : (form : FormTree) → form ≡ generated_form → (c : Choice) (k p o : ℕ) (t : TripleTree) (side : Side) (w : WordTree) (fault : StepFault)
    → k < 10000 → IsPossible c (k + 1) p o → IsGenerated k p o t → (side, w) ≡ entry_of c
    → ((x : DocTree) → act (near side (left_type form) (right_type form)) w (document_on side t) ≡ Ok x → fault ≡ NoMemory) → fault ≡ NoMemory
never_refused form is c k p o t side w fault small possible h entry unless =
    let a = applies c k p o t small possible h in
    let P : Side × WordTree → Type 0 = λ e. act (near e.0 (left_type generated_form) (right_type generated_form)) e.1 (document_on e.0 t) ≡ Ok a.document in
    let Q : FormTree → Type 0 = λ f. act (near side (left_type f) (right_type f)) w (document_on side t) ≡ Ok a.document in
    unless a.document (subst Q (sym is) (subst P (sym entry) a.acts))

-- what a step leads to
pub record IsTaken (c : Choice) (k : ℕ) (p : ℕ) (o : ℕ) (seed : ℕ) (t : TripleTree) (t' : TripleTree) : Type 0 where
  pub generated : IsGenerated (k + 1) (texts_after c p) (numbers_after c o) t'
  pub counts : (rest : List (Side × WordTree)) → counted k t (generated_run_from t (entry_of c ∷ rest)) ≡ counted (k + 1) t' (generated_run_from t' rest)

pub taken : (form : FormTree) → form ≡ generated_form → (c : Choice) (k p o seed : ℕ) (t t' : TripleTree) (e : Side × WordTree) (w : WordTree)
    → k < 10000 → IsPossible c (k + 1) p o → IsGenerated k p o t → e ≡ entry_of c
    → step (left_type form) (right_type form) (translate form) t e ≡ Some (Ok (t', w)) → IsInStep (IsConsistent form) t' → IsTaken c k p o seed t t'
taken form is c k p o seed t t' e w small possible h entry steps consistent =
    let a = applies c k p o t small possible h in
    let P : FormTree → Type 0 = λ f. step (left_type f) (right_type f) (translate f) t (entry_of c) ≡ Some (Ok (t', w)) in
    let Q : Side × WordTree → Type 0 = λ d. step (left_type form) (right_type form) (translate form) t d ≡ Some (Ok (t', w)) in
    let R : FormTree → Type 0 = λ f. IsInStep (IsConsistent f) t' in
    let s = subst P is (subst Q entry steps) in
    let made = stepped (left_type generated_form) (right_type generated_form) (translate generated_form) t t' (entry_of c) w a.document s a.acts in
    record {
      generated = a.next t' (subst R is consistent) made;
      counts = λ rest. counted_step k t t' (entry_of c) w rest s;
    }
