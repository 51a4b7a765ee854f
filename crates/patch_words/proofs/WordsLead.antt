-- The word of a patch takes the document to the one that the patched file is read as.
use Rattle.std.proofs.Common.{◌≡◌, ℕ, ◌+◌, true, List, [], ◌∷◌, Option, None, Some, Result, Ok, Err, refl, sym, ap, subst, ◌∙◌}
use Rattle.std.specs.Option.{option_flatten}
use Rattle.std.specs.Result.{result_ok}
use Rattle.json.specs.Json.{Json}
use Rattle.doc_values.specs.Documents.{DocTree}
use Rattle.doc_values.specs.Types.{TyTree, is_well_formed}
use Rattle.doc_values.specs.Typing.{has}
use Rattle.edit_module.specs.Words.{WordTree, joined}
use Rattle.edit_module.specs.Action.{act}
use Rattle.edit_module.proofs.JoinedWords.{acts_joined}
use Rattle.edit_between.specs.Between.{between}
use Rattle.edit_between.proofs.BetweenActs.{between-law}
use Rattle.file_forms.specs.Forms.{FileFormTree, type_of}
use Rattle.file_forms.specs.Fitting.{is_fit}
use Rattle.file_forms.specs.FileValues.{read, write}
use Rattle.file_forms.proofs.ComesBack.{comes_back, read_typed}
use Rattle.file_forms.proofs.WrittenTypes.{typed}
use Rattle.file_values.specs.Reading.{Misfit, reading}
use Rattle.file_values.proofs.ReadTrees.{written_is_read}
use Rattle.file_values.proofs.ReadingReads.{agrees}
use Rattle.file_patches.specs.declared.fault.Cause.{Cause}
use Rattle.file_patches.specs.Operations.{OperationTree}
use Rattle.file_patches.specs.Patching.{operated, patched_from, numbered}
use Rattle.file_patches.specs.Results.{and_then, on_ok}
use Rattle.patch_words.specs.ToWord.{NoWord, no_file, not_done, not_read, if_done, if_read, first_unread, words_from, to_word_from, to_word}
use Rattle.patch_words.specs.Laws.{IsAnswer}

-- ---- from one operation on

-- the file now is that of the document, or it is not read
abbrev Stands : FileFormTree → Option (ℕ × Misfit) → DocTree → Json → Type 0
Stands f None d j = reading f (Some j) ≡ Ok d
Stands f (Some u) d j = (m : Misfit) × (reading f (Some j) ≡ Err m)

abbrev FromAnswer : TyTree → FileFormTree → ℕ → List OperationTree → DocTree → Json → Result WordTree NoWord → Type 0
FromAnswer t f n os d j (Ok w) = (k : Json) × (e : DocTree) × (patched_from n os j ≡ Ok k) × (reading f (Some k) ≡ Ok e) × (act t w d ≡ Ok e)
FromAnswer t f n os d j (Err no_file) = ⊥
FromAnswer t f n os d j (Err (not_done m cause)) = patched_from n os j ≡ Err (m, cause)
FromAnswer t f n os d j (Err (not_read m x)) = (k : Json) × (y : Misfit) × (patched_from n os j ≡ Ok k) × (reading f (Some k) ≡ Err y)

-- the first operation is done
after-one : (n : ℕ) (o : OperationTree) (os : List OperationTree) (j k : Json) → operated o j ≡ Ok k → patched_from n (o ∷ os) j ≡ patched_from (n + 1) os k
after-one n o os j k h = ap (λ (r : Result Json Cause). and_then (patched_from (n + 1) os) (numbered n r)) h

piece-leads : (t : TyTree) (f : FileFormTree) (n : ℕ) (o : OperationTree) (os : List OperationTree) (d e : DocTree) (j k : Json) (w : WordTree) (made : Result WordTree NoWord) → operated o j ≡ Ok k
    → act t w d ≡ Ok e → FromAnswer t f (n + 1) os e k made → FromAnswer t f n (o ∷ os) d j (on_ok (joined w) made)
piece-leads t f n o os d e j k w (Ok u) h a p = (p.0, p.1, after-one n o os j k h ∙ p.2, p.3, acts_joined t w u d e p.1 a p.4)
piece-leads t f n o os d e j k w (Err no_file) h a p = p
piece-leads t f n o os d e j k w (Err (not_done m cause)) h a p = after-one n o os j k h ∙ p
piece-leads t f n o os d e j k w (Err (not_read m x)) h a p = (p.0, p.1, after-one n o os j k h ∙ p.2, p.3)

unread-leads : (t : TyTree) (f : FileFormTree) (n : ℕ) (o : OperationTree) (os : List OperationTree) (d : DocTree) (j k : Json) (made : Result WordTree NoWord) → operated o j ≡ Ok k
    → FromAnswer t f (n + 1) os d k made → FromAnswer t f n (o ∷ os) d j made
unread-leads t f n o os d j k (Ok u) h p = (p.0, p.1, after-one n o os j k h ∙ p.2, p.3, p.4)
unread-leads t f n o os d j k (Err no_file) h p = p
unread-leads t f n o os d j k (Err (not_done m cause)) h p = after-one n o os j k h ∙ p
unread-leads t f n o os d j k (Err (not_read m x)) h p = (p.0, p.1, after-one n o os j k h ∙ p.2, p.3)

abbrev Rest : TyTree → FileFormTree → ℕ → List OperationTree → Type 0
Rest t f n os = (u : Option (ℕ × Misfit)) (d : DocTree) (j : Json) → has t d ≡ true → Stands f u d j → FromAnswer t f n os d j (words_from t f n u d j os)

stays-unread : (f : FileFormTree) (u : Option (ℕ × Misfit)) (n : ℕ) (m : Misfit) (d : DocTree) (k : Json) → reading f (Some k) ≡ Err m → Stands f (first_unread u n m) d k
stays-unread f None n m d k h = (m, h)
stays-unread f (Some v) n m d k h = (m, h)

by-reading : (r : Result DocTree Misfit) (t : TyTree) (f : FileFormTree) (n : ℕ) (o : OperationTree) (os : List OperationTree) (u : Option (ℕ × Misfit)) (d : DocTree) (j k : Json)
    → is_fit f ≡ true → type_of f ≡ t → is_well_formed t ≡ true → has t d ≡ true → Rest t f (n + 1) os → operated o j ≡ Ok k → reading f (Some k) ≡ r
    → FromAnswer t f n (o ∷ os) d j (if_read r (λ e. on_ok (joined (between t d e)) (words_from t f (n + 1) None e k os)) (λ m. words_from t f (n + 1) (first_unread u n m) d k os))
by-reading (Ok e) t f n o os u d j k fit same wf h rest done is =
    let read_so : read f (Some k) ≡ Some e = sym (agrees f (Some k) fit) ∙ ap result_ok is in
    let T : TyTree → Type 0 = λ s. has s e ≡ true in
    let is_typed : has t e ≡ true = subst T same (read_typed f (Some k) e fit read_so) in
    piece-leads t f n o os d e j k (between t d e) (words_from t f (n + 1) None e k os) done (between-law t d e wf h is_typed) (rest None e k is_typed is)
by-reading (Err m) t f n o os u d j k fit same wf h rest done is =
    unread-leads t f n o os d j k (words_from t f (n + 1) (first_unread u n m) d k os) done (rest (first_unread u n m) d k h (stays-unread f u n m d k is))

by-operation : (r : Result Json Cause) (t : TyTree) (f : FileFormTree) (n : ℕ) (o : OperationTree) (os : List OperationTree) (u : Option (ℕ × Misfit)) (d : DocTree) (j : Json)
    → is_fit f ≡ true → type_of f ≡ t → is_well_formed t ≡ true → has t d ≡ true → Rest t f (n + 1) os → operated o j ≡ r
    → FromAnswer t f n (o ∷ os) d j
    (if_done n r (λ k. if_read (reading f (Some k)) (λ e. on_ok (joined (between t d e)) (words_from t f (n + 1) None e k os)) (λ m. words_from t f (n + 1) (first_unread u n m) d k os)))
by-operation (Ok k) t f n o os u d j fit same wf h rest is = by-reading (reading f (Some k)) t f n o os u d j k fit same wf h rest is refl
by-operation (Err cause) t f n o os u d j fit same wf h rest is = ap (λ (r : Result Json Cause). and_then (patched_from (n + 1) os) (numbered n r)) is

from-leads : (os : List OperationTree) (t : TyTree) (f : FileFormTree) (n : ℕ) → is_fit f ≡ true → type_of f ≡ t → is_well_formed t ≡ true → Rest t f n os
from-leads [] t f n fit same wf None d j h s = (j, d, refl, s, refl)
from-leads [] t f n fit same wf (Some u) d j h s = (j, s.0, refl, s.1)
from-leads (o ∷ os) t f n fit same wf None d j h s = by-operation (operated o j) t f n o os None d j fit same wf h (from-leads os t f (n + 1) fit same wf) refl
from-leads (o ∷ os) t f n fit same wf (Some u) d j h s = by-operation (operated o j) t f n o os (Some u) d j fit same wf h (from-leads os t f (n + 1) fit same wf) refl

-- ---- from the document on

pub flat : (s : Option (Option Json)) (j : Json) → option_flatten s ≡ Some j → s ≡ Some (Some j)
flat None j h = cc
flat (Some None) j h = cc
flat (Some (Some k)) j h = ap (λ (o : Option Json). Some o) h

answer : (f : FileFormTree) (d : DocTree) (os : List OperationTree) (j : Json) (made : Result WordTree NoWord) → is_fit f ≡ true → write f d ≡ Some (Some j) → FromAnswer (type_of f) f 0 os d j made
    → IsAnswer (type_of f) f d os made
answer f d os j (Ok w) fit is p =
    let back : read f (Some p.0) ≡ Some p.1 = sym (agrees f (Some p.0) fit) ∙ ap result_ok p.3 in
    (j, p.0, p.1, is, p.2, back, p.4, (comes_back f p.0 p.1 fit).0 back)
answer f d os j (Err no_file) fit is p = absurd p
answer f d os j (Err (not_done n cause)) fit is p = (j, is, p)
answer f d os j (Err (not_read n m)) fit is p = (j, p.0, is, p.2, sym (agrees f (Some p.0) fit) ∙ ap result_ok p.3)

by-file : (o : Option Json) (f : FileFormTree) (d : DocTree) (os : List OperationTree) → option_flatten (write f d) ≡ o → is_fit f ≡ true → is_well_formed (type_of f) ≡ true
    → IsAnswer (type_of f) f d os (to_word_from (type_of f) f d o os)
by-file None f d os is fit wf = is
by-file (Some j) f d os is fit wf =
    let file = flat (write f d) j is in
    answer f d os j (words_from (type_of f) f 0 None d j os) fit file
    (from-leads os (type_of f) f 0 fit refl wf None d j (typed f d (Some j) file) (written_is_read f d (Some j) fit file))

pub patches-lead : (f : FileFormTree) (d : DocTree) (os : List OperationTree) → is_fit f ≡ true → is_well_formed (type_of f) ≡ true → IsAnswer (type_of f) f d os (to_word (type_of f) f d os)
patches-lead f d os fit wf = by-file (option_flatten (write f d)) f d os refl fit wf
