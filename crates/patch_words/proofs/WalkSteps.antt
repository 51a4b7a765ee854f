-- The steps of a walk over the operations of a patch.
use Rattle.std.proofs.Common.{◌≡◌, ℕ, ◌+◌, ◌<◌, ◌≤◌, true, drop, get_or, length, List, [], ◌∷◌, Option, None, Some, option_map, Result, Ok, Err, refl, sym, ap, subst, ◌∙◌}
use Rattle.std.specs.Prelude.{IfOk}
use Rattle.std.specs.Option.{option_flatten}
use Rattle.std.proofs.lemmas.List.{drop_all, drop_more}
use Rattle.json.specs.Json.{Json}
use Rattle.doc_values.specs.Documents.{DocTree, doc_tree}
use Rattle.doc_values.specs.Types.{TyTree, is_well_formed}
use Rattle.doc_values.specs.Typing.{has}
use Rattle.edit_module.specs.declared.word.Word.{Word}
use Rattle.edit_module.specs.Words.{WordTree, no_primitives, joined}
use Rattle.edit_module.specs.Views.{word_tree}
use Rattle.edit_module.proofs.Words.{joined_assoc}
use Rattle.edit_module.proofs.JoinedWords.{joined_nothing}
use Rattle.edit_between.specs.Between.{between}
use Rattle.file_trees.specs.FileTrees.{file_tree}
use Rattle.file_forms.specs.Forms.{FileFormTree, type_of}
use Rattle.file_forms.specs.Fitting.{is_fit}
use Rattle.file_forms.specs.FileValues.{read, write}
use Rattle.file_forms.proofs.ComesBack.{read_typed}
use Rattle.file_forms.proofs.WrittenTypes.{typed}
use Rattle.file_values.specs.Reading.{Misfit, reading}
use Rattle.file_patches.specs.declared.fault.Cause.{Cause}
use Rattle.file_patches.specs.Operations.{OperationTree, operation_tree, patch_view}
use Rattle.file_patches.specs.declared.operations.Operation.{Operation}
use Rattle.file_patches.specs.Patching.{operated}
use Rattle.file_patches.specs.Results.{on_ok}
use Rattle.patch_words.specs.declared.fault.WordFault.{WordFault}
use Rattle.patch_words.specs.declared.fault.WordFault.TheVariants as faults
use Rattle.patch_words.specs.declared.walk.Walk.{Walk}
use Rattle.patch_words.specs.ToWord.{NoWord, if_done, if_read, first_unread, words_from, to_word}
use Rattle.patch_words.specs.Laws.{IsAnswer, LeadsTo}
use Rattle.patch_words.specs.Walks.{Refuses, Makes, unread_view, on_from}
use Rattle.patch_words.proofs.WordsLead.{flat, patches-lead}

-- ---- the definition, an operation at a time

words-step : (t : TyTree) (f : FileFormTree) (n : ℕ) (u : Option (ℕ × Misfit)) (d : DocTree) (j : Json) (o : OperationTree) (os : List OperationTree)
    → words_from t f n u d j (o ∷ os)
    ≡ if_done n (operated o j) (λ k. if_read (reading f (Some k)) (λ e. on_ok (joined (between t d e)) (words_from t f (n + 1) None e k os)) (λ m. words_from t f (n + 1) (first_unread u n m) d k os))
words-step t f n None d j o os = refl
words-step t f n (Some u) d j o os = refl

on-joined : (w v : WordTree) (r : Result WordTree NoWord) → on_ok (joined w) (on_ok (joined v) r) ≡ on_ok (joined (joined w v)) r
on-joined w v (Ok u) = ap (λ (x : WordTree). Ok x) (sym (joined_assoc w v u))
on-joined w v (Err why) = refl

-- the file after the operation is read
pub goes-read : (t : TyTree) (f : FileFormTree) (n : ℕ) (walk next : Walk) (o : OperationTree) (k : Json) (e : DocTree) → operated o (file_tree walk.tree) ≡ Ok k → reading f (Some k) ≡ Ok e
    → word_tree next.word ≡ joined (word_tree walk.word) (between t (doc_tree walk.doc) e) → doc_tree next.doc ≡ e → file_tree next.tree ≡ k → next.unread ≡ None
    → (os : List OperationTree) → on_from t f n walk (o ∷ os) ≡ on_from t f (n + 1) next os
goes-read t f n walk next o k e done is word doc tree unread os =
    let w = word_tree walk.word in
    let d = doc_tree walk.doc in
    let u = option_map unread_view walk.unread in
    let G : Json → Result WordTree NoWord = λ k. if_read (reading f (Some k)) (λ e. on_ok (joined (between t d e)) (words_from t f (n + 1) None e k os)) (λ m. words_from t f (n + 1) (first_unread u n m) d k os) in
    ap (on_ok (joined w)) (words-step t f n u d (file_tree walk.tree) o os)
    ∙ (ap (λ (r : Result Json Cause). on_ok (joined w) (if_done n r G)) done
    ∙ (ap (λ (r : Result DocTree Misfit). on_ok (joined w) (if_read r (λ e. on_ok (joined (between t d e)) (words_from t f (n + 1) None e k os)) (λ m. words_from t f (n + 1) (first_unread u n m) d k os))) is
    ∙ (on-joined w (between t d e) (words_from t f (n + 1) None e k os)
    ∙ (ap (λ (x : WordTree). on_ok (joined x) (words_from t f (n + 1) None e k os)) (sym word)
    ∙ (ap (λ (x : Option _). on_ok (joined (word_tree next.word)) (words_from t f (n + 1) (option_map unread_view x) e k os)) (sym unread)
    ∙ (ap (λ (x : DocTree). on_ok (joined (word_tree next.word)) (words_from t f (n + 1) (option_map unread_view next.unread) x k os)) (sym doc)
    ∙ ap (λ (x : Json). on_ok (joined (word_tree next.word)) (words_from t f (n + 1) (option_map unread_view next.unread) (doc_tree next.doc) x os)) (sym tree)))))))

-- it is not read
pub goes-unread : (t : TyTree) (f : FileFormTree) (n : ℕ) (walk next : Walk) (o : OperationTree) (k : Json) (m : Misfit) → operated o (file_tree walk.tree) ≡ Ok k → reading f (Some k) ≡ Err m
    → word_tree next.word ≡ word_tree walk.word → doc_tree next.doc ≡ doc_tree walk.doc → file_tree next.tree ≡ k
    → option_map unread_view next.unread ≡ first_unread (option_map unread_view walk.unread) n m
    → (os : List OperationTree) → on_from t f n walk (o ∷ os) ≡ on_from t f (n + 1) next os
goes-unread t f n walk next o k m done is word doc tree unread os =
    let w = word_tree walk.word in
    let d = doc_tree walk.doc in
    let u = option_map unread_view walk.unread in
    let G : Json → Result WordTree NoWord = λ k. if_read (reading f (Some k)) (λ e. on_ok (joined (between t d e)) (words_from t f (n + 1) None e k os)) (λ m. words_from t f (n + 1) (first_unread u n m) d k os) in
    ap (on_ok (joined w)) (words-step t f n u d (file_tree walk.tree) o os)
    ∙ (ap (λ (r : Result Json Cause). on_ok (joined w) (if_done n r G)) done
    ∙ (ap (λ (r : Result DocTree Misfit). on_ok (joined w) (if_read r (λ e. on_ok (joined (between t d e)) (words_from t f (n + 1) None e k os)) (λ m. words_from t f (n + 1) (first_unread u n m) d k os))) is
    ∙ (ap (λ (x : WordTree). on_ok (joined x) (words_from t f (n + 1) (first_unread u n m) d k os)) (sym word)
    ∙ (ap (λ (x : Option (ℕ × Misfit)). on_ok (joined (word_tree next.word)) (words_from t f (n + 1) x d k os)) (sym unread)
    ∙ (ap (λ (x : DocTree). on_ok (joined (word_tree next.word)) (words_from t f (n + 1) (option_map unread_view next.unread) x k os)) (sym doc)
    ∙ ap (λ (x : Json). on_ok (joined (word_tree next.word)) (words_from t f (n + 1) (option_map unread_view next.unread) (doc_tree next.doc) x os)) (sym tree))))))

-- a refusal of the rest is one of the walk
on-refused : (fault : WordFault) (w : WordTree) (r : Result WordTree NoWord) → Refuses fault r → Refuses fault (on_ok (joined w) r)
on-refused faults.NoFile w r h = ap (on_ok (joined w)) h
on-refused (faults.NotDone n c) w r h = ap (on_ok (joined w)) h
on-refused (faults.NotRead n m) w r h = ap (on_ok (joined w)) h
on-refused faults.NoMemory w r h = tt

pub stops : (t : TyTree) (f : FileFormTree) (n : ℕ) (walk : Walk) (o : OperationTree) (fault : WordFault) → ((go : Json → Result WordTree NoWord) → Refuses fault (if_done n (operated o (file_tree walk.tree)) go))
    → (os : List OperationTree) → Refuses fault (on_from t f n walk (o ∷ os))
stops t f n walk o fault h os =
    let d = doc_tree walk.doc in
    let u = option_map unread_view walk.unread in
    let R : Result WordTree NoWord → Type 0 = λ r. Refuses fault r in
    on-refused fault (word_tree walk.word) (words_from t f n u d (file_tree walk.tree) (o ∷ os)) (subst R (sym (words-step t f n u d (file_tree walk.tree) o os)) (h _))

-- ---- a walk begins and ends

on-none : (r : Result WordTree NoWord) → on_ok (joined no_primitives) r ≡ r
on-none (Ok w) = refl
on-none (Err why) = refl

pub begins : (t : TyTree) (f : FileFormTree) (walk : Walk) (d : DocTree) (j : Json) (os : List OperationTree) → word_tree walk.word ≡ no_primitives → doc_tree walk.doc ≡ d → file_tree walk.tree ≡ j → walk.unread ≡ None
    → on_from t f 0 walk os ≡ words_from t f 0 None d j os
begins t f walk d j os word doc tree unread =
    ap (λ (w : WordTree). on_ok (joined w) (words_from t f 0 (option_map unread_view walk.unread) (doc_tree walk.doc) (file_tree walk.tree) os)) word
    ∙ (on-none (words_from t f 0 (option_map unread_view walk.unread) (doc_tree walk.doc) (file_tree walk.tree) os)
    ∙ (ap (λ (u : Option _). words_from t f 0 (option_map unread_view u) (doc_tree walk.doc) (file_tree walk.tree) os) unread
    ∙ (ap (λ (x : DocTree). words_from t f 0 None x (file_tree walk.tree) os) doc ∙ ap (λ (x : Json). words_from t f 0 None d x os) tree)))

pub ends : (t : TyTree) (f : FileFormTree) (n : ℕ) (walk : Walk) → walk.unread ≡ None → on_from t f n walk [] ≡ Ok (word_tree walk.word)
ends t f n walk unread =
    ap (λ (u : Option _). on_ok (joined (word_tree walk.word)) (words_from t f n (option_map unread_view u) (doc_tree walk.doc) (file_tree walk.tree) [])) unread
    ∙ ap (λ (w : WordTree). Ok w) (joined_nothing (word_tree walk.word))

pub none-of : {X : Type 0} (o : Option X) → ((x : X) → o ≡ Some x → ⊥) → o ≡ None
none-of None h = refl
none-of (Some x) h = absurd (h x refl)

-- ---- the operations of a patch

pub patch-next : (ops : List Operation) (i : ℕ) (o : Operation) → i < length ops → o ≡ get_or ops i o → patch_view (drop i ops) ≡ operation_tree o ∷ patch_view (drop (i + 1) ops)
patch-next ops i o h e =
    let P : Operation → Type 0 = λ x. drop i ops ≡ x ∷ drop (i + 1) ops in
    ap patch_view (subst P (sym e) (drop_more ops i o h))

pub patch-done : (ops : List Operation) (i : ℕ) → length ops ≤ i → patch_view (drop i ops) ≡ []
patch-done ops i h = ap patch_view (drop_all i ops h)

-- what is read has the type
pub read-has : (f : FileFormTree) (t : TyTree) (k : Json) (e : DocTree) → is_fit f ≡ true → type_of f ≡ t → read f (Some k) ≡ Some e → has t e ≡ true
read-has f t k e fit same h = let T : TyTree → Type 0 = λ s. has s e ≡ true in subst T same (read_typed f (Some k) e fit h)

pub written-has : (f : FileFormTree) (t : TyTree) (d : DocTree) (j : Json) → type_of f ≡ t → option_flatten (write f d) ≡ Some j → has t d ≡ true
written-has f t d j same h = let T : TyTree → Type 0 = λ s. has s d ≡ true in subst T same (typed f d (Some j) (flat (write f d) j h))

-- ---- the word that the code made

pub made-leads : (r : Result Word WordFault) (t : TyTree) (f : FileFormTree) (d : DocTree) (os : List OperationTree) → is_fit f ≡ true → type_of f ≡ t → Makes r (to_word t f d os) → is_well_formed t ≡ true
    → IfOk r (λ w. LeadsTo t f d os (word_tree w))
made-leads (Err fault) t f d os fit same h wf = tt
made-leads (Ok w) t f d os fit same h wf =
    let W : TyTree → Type 0 = λ s. is_well_formed s ≡ true in
    let A : TyTree → Type 0 = λ s. IsAnswer s f d os (to_word s f d os) in
    let R : Result WordTree NoWord → Type 0 = λ r. IsAnswer t f d os r in
    subst R h (subst A same (patches-lead f d os fit (subst W (sym same) wf)))
