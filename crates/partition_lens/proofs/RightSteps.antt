-- Insertions and deletions of the list of a tag, taken one at a time.
use Rattle.std.proofs.Common.{◌≡◌, ℕ, zero, suc, ◌+◌, ◌-◌, ◌<◌, ◌≤◌, List, [], ◌∷◌, ◌++◌, length, take, drop, map, refl, ap, sym, ◌∙◌, arith}
use Rattle.std.specs.Prelude.{slice_index}
use Rattle.std.specs.List.{remove, insert, range_with_len}
use Rattle.std.proofs.lemmas.List.{drop_all, take_all}
use Rattle.std.proofs.lemmas.List.Edits.{length-remove}
use Rattle.std.proofs.lemmas.List.FromFn.{map-range_with_len_more}
use Rattle.hold_shapes.specs.declared.edit.Place.TheVariants.{Index}
use Rattle.edit_module.specs.Words.{WordTree, no_primitives, joined}
use Rattle.edit_module.proofs.Words.{joined_assoc}
use Rattle.lens_core.specs.Emitted.{behind, mod_word, switch_word}
use Rattle.lens_core.specs.Partition.{Parted, switch_places, delete_last, delete_occurrences, place_from}
use Rattle.tag_seq.specs.Tags.{moved}
use Rattle.tag_seq.proofs.Sides.{take_all_left}
use Rattle.partition_lens.proofs.Counts.{length_moved}
use Rattle.edit_module.proofs.JoinedWords.{joined_nothing}

-- ---- switches

switch_one : (a n : List ℕ) (x c d : ℕ) (u : WordTree) → c ≡ suc d → joined u (switch_places a n x c) ≡ joined (joined u (mod_word (Index x) (switch_word a n no_primitives))) (switch_places a n (x + 1) d)
switch_one a n x c d u e = rw e (sym (joined_assoc u (mod_word (Index x) (switch_word a n no_primitives)) (switch_places a n (x + 1) d)))

switch_next : (a n : List ℕ) (x c i : ℕ) (u : WordTree) → i < c
    → joined u (switch_places a n (x + i) (c - i)) ≡ joined (joined u (mod_word (Index (x + i)) (switch_word a n no_primitives))) (switch_places a n (x + (i + 1)) (c - (i + 1)))
switch_next a n x c i u h =
    let more : c - i ≡ suc (c - (i + 1)) = omega arith in
    let place : x + i + 1 ≡ x + (i + 1) = omega arith in
    switch_one a n (x + i) (c - i) (c - (i + 1)) u more
    ∙ ap (λ z. joined (joined u (mod_word (Index (x + i)) (switch_word a n no_primitives))) (switch_places a n z (c - (i + 1)))) place

-- before the first switch
pub switch_start : (a n : List ℕ) (x c : ℕ) (u : WordTree) → u ≡ no_primitives → joined u (switch_places a n (x + 0) (c - 0)) ≡ switch_places a n x c
switch_start a n x c u e =
    let same : x + 0 ≡ x = omega arith in
    let all : c - 0 ≡ c = omega arith in
    ap (λ z. joined z (switch_places a n (x + 0) (c - 0))) e ∙ (ap (λ z. switch_places a n z (c - 0)) same ∙ ap (switch_places a n x) all)

-- after a switch
pub switch_kept : (a n : List ℕ) (x c i : ℕ) (u v u' whole : WordTree) → i < c → v ≡ mod_word (Index (x + i)) (switch_word a n no_primitives) → u' ≡ joined u v
    → joined u (switch_places a n (x + i) (c - i)) ≡ whole → joined u' (switch_places a n (x + (i + 1)) (c - (i + 1))) ≡ whole
switch_kept a n x c i u v u' whole h e f k = rw (f, e) (sym (switch_next a n x c i u h) ∙ k)

-- after the last switch
pub switch_done : (a n : List ℕ) (x c i : ℕ) (u whole : WordTree) → c ≤ i → joined u (switch_places a n (x + i) (c - i)) ≡ whole → u ≡ whole
switch_done a n x c i u whole h k =
    let none : c - i ≡ 0 = omega arith in
    let done : joined u (switch_places a n (x + i) (c - i)) ≡ u = rw none (joined_nothing u) in
    sym done ∙ k

pub ruleset switch_rules = (switch_start, switch_kept, switch_done)

-- ---- deletions

-- a word and tags
abbrev pub parted : WordTree → List ℕ → Parted
parted u ts = (u, ts)

delete_one : (t : ℕ) (ts : List ℕ) (c d : ℕ) (u : WordTree) → c ≡ suc d
    → behind u (delete_occurrences t ts c) ≡ behind (joined u (delete_last t ts).0) (delete_occurrences t (delete_last t ts).1 d)
delete_one t ts c d u e =
    let others = delete_occurrences t (delete_last t ts).1 d in
    rw e (ap (λ z. parted z others.1) (sym (joined_assoc u (delete_last t ts).0 others.0)))

delete_next : (t : ℕ) (ts : List ℕ) (c i : ℕ) (u : WordTree) → i < c
    → behind u (delete_occurrences t ts (c - i)) ≡ behind (joined u (delete_last t ts).0) (delete_occurrences t (delete_last t ts).1 (c - (i + 1)))
delete_next t ts c i u h = let more : c - i ≡ suc (c - (i + 1)) = omega arith in delete_one t ts (c - i) (c - (i + 1)) u more

nothing_behind : (t : ℕ) (ts : List ℕ) (c : ℕ) → behind no_primitives (delete_occurrences t ts c) ≡ delete_occurrences t ts c
nothing_behind t ts zero = refl
nothing_behind t ts (suc c) = refl

-- before the first deletion
pub delete_start : (t : ℕ) (ts ts' : List ℕ) (c : ℕ) (u : WordTree) → u ≡ no_primitives → ts' ≡ ts → behind u (delete_occurrences t ts' (c - 0)) ≡ delete_occurrences t ts c
delete_start t ts ts' c u e f =
    let all : c - 0 ≡ c = omega arith in
    ap (λ z. behind z (delete_occurrences t ts' (c - 0))) e
    ∙ (ap (λ z. behind no_primitives (delete_occurrences t ts' z)) all
    ∙ (ap (λ z. behind no_primitives (delete_occurrences t z c)) f ∙ nothing_behind t ts c))

-- after a deletion
pub delete_kept : (t : ℕ) (ts next ts' : List ℕ) (c i : ℕ) (u v u' : WordTree) (whole : Parted) → i < c → v ≡ (delete_last t ts).0 → next ≡ (delete_last t ts).1 → u' ≡ joined u v → ts' ≡ next
    → behind u (delete_occurrences t ts (c - i)) ≡ whole → behind u' (delete_occurrences t ts' (c - (i + 1))) ≡ whole
delete_kept t ts next ts' c i u v u' whole h e f g q k = rw (g, q, e, f) (sym (delete_next t ts c i u h) ∙ k)

-- after the last deletion
pub delete_done : (t : ℕ) (ts : List ℕ) (c i : ℕ) (u : WordTree) (whole : Parted) → c ≤ i → behind u (delete_occurrences t ts (c - i)) ≡ whole → parted u ts ≡ whole
delete_done t ts c i u whole h k =
    let none : c - i ≡ 0 = omega arith in
    let done : behind u (delete_occurrences t ts (c - i)) ≡ parted u ts = rw none (ap (λ z. parted z ts) (joined_nothing u)) in
    sym done ∙ k

pub ruleset delete_rules = (delete_start, delete_kept, delete_done)

-- ---- an item that is moved to the end and cut off

-- put behind all of a list, and cut off again
cut_behind : (xs : List ℕ) (n x : ℕ) → n ≡ length xs → take n (insert xs n x) ≡ xs
cut_behind xs n x e =
    let none : drop n xs ≡ [] = drop_all n xs (omega arith) in
    let all : take n xs ≡ xs = take_all n xs (omega arith) in
    ap (λ zs. take n (zs ++ x ∷ drop n xs)) all ∙ (ap (λ zs. take n (xs ++ x ∷ zs)) none ∙ take_all_left xs (x ∷ []) n e)

pub cut_moved : (p : ℕ) (ts : List ℕ) → p < length ts → take (length (moved p (length ts - 1) ts) - 1) (moved p (length ts - 1) ts) ≡ remove ts p
cut_moved p ts h =
    let fewer = length-remove ts p h in
    let same = length_moved p (length ts - 1) ts h (omega arith) in
    let left : length ts - 1 ≡ length (remove ts p) = omega arith in
    let long : length (moved p (length ts - 1) ts) - 1 ≡ length ts - 1 = omega arith in
    ap (λ n. take n (moved p (length ts - 1) ts)) long ∙ cut_behind (remove ts p) (length ts - 1) (slice_index ts p) left

pub ruleset last_rules = (cut_moved, length_moved, length-remove)

-- ---- places in order

pub range_more : (t : ℕ) (ts f : List ℕ) (i : ℕ) → map (place_from t ts f) (range_with_len 0 (i + 1)) ≡ map (place_from t ts f) (range_with_len 0 i) ++ place_from t ts f i ∷ []
range_more t ts f i = map-range_with_len_more (place_from t ts f) 0 i i (omega arith)

pub ruleset range_rules = (range_more)
