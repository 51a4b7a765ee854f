-- Counts of all tags, and the place of an occurrence.
use Rattle.std.proofs.Common.{◌≡◌, ℕ, zero, suc, ◌+◌, ◌-◌, ◌<◌, ◌≤◌, List, [], ◌∷◌, ◌++◌, replicate, length, take, drop, Option, Some, None, refl, ap, arith, length-drop, length-append}
use Rattle.std.proofs.lemmas.Bool.{eq-eqb}
use Rattle.std.proofs.lemmas.List.{length-replicate}
use Rattle.std.proofs.lemmas.List.Edits.{length-insert, length-remove}
use Rattle.std.specs.Prelude.{slice_index}
use Rattle.std.specs.List.{remove}
use Rattle.tag_seq.specs.Tags.{count, one_if_same, rank, place, moved}
use Rattle.tag_seq.proofs.Ranks.{place_within}
use Rattle.tag_seq.proofs.Totals.{count-le-length}
use Rattle.lens_core.specs.Partition.{place_in}

-- before the end stand all
pub whole_rank : (t : ℕ) (xs : List ℕ) → rank t (length xs) xs ≡ count t xs
whole_rank t [] = refl
whole_rank t (x ∷ xs) = ap (λ n. one_if_same x t + n) (whole_rank t xs)

pub place_found : (t q p : ℕ) (xs : List ℕ) → place t q xs ≡ Some p → place_in xs t q ≡ p
place_found t q p xs e = ap (λ (o : Option ℕ). elim o [ None ↦ 0 | Some k ↦ k ]) e

pub place_none : (t q : ℕ) (xs : List ℕ) → place t q xs ≡ None → place_in xs t q ≡ 0
place_none t q xs e = ap (λ (o : Option ℕ). elim o [ None ↦ 0 | Some k ↦ k ]) e

pub ruleset place_rules = (place_found, place_none, place_within)

-- the rank of a tag at a place where it stands is below its count
pub rank_below : (t p : ℕ) (xs : List ℕ) → p < length xs → slice_index xs p ≡ t → rank t p xs < count t xs
rank_below t p [] h e = absurd (omega arith)
rank_below t zero (x ∷ xs) h e = let same = eq-eqb x t e in rw same (omega arith)
rank_below t (suc p) (x ∷ xs) h e = let rest = rank_below t p xs (omega arith) e in omega (arith, rest)

-- ---- from a place on

take_drop : (t k : ℕ) (xs : List ℕ) → count t (take k xs) + count t (drop k xs) ≡ count t xs
take_drop t zero xs = omega arith
take_drop t (suc k) [] = refl
take_drop t (suc k) (x ∷ xs) = let rest = take_drop t k xs in omega (arith, rest)

-- the count from a place on is that of all without the rank
pub count_behind : (t k : ℕ) (xs : List ℕ) → count t (drop k xs) ≡ count t xs - rank t k xs
count_behind t k xs = let all = take_drop t k xs in omega (arith, all)

-- it is no more than there are items from there on
pub behind_within : (t k : ℕ) (xs : List ℕ) → count t xs - rank t k xs ≤ length xs - k
behind_within t k xs =
    let all = take_drop t k xs in
    let low = count-le-length t (drop k xs) in
    let long = length-drop k xs in
    omega (arith, all, low, long)

pub rank_within : (t k : ℕ) (xs : List ℕ) → rank t k xs ≤ count t xs
rank_within t k xs = let all = take_drop t k xs in omega (arith, all)

pub ruleset behind_rules = (count_behind, behind_within, rank_within)

-- ---- an item that moves

pub length_moved : (i j : ℕ) (xs : List ℕ) → i < length xs → j < length xs → length (moved i j xs) ≡ length xs
length_moved i j xs h k =
    let left = length-remove xs i h in
    let put = length-insert (remove xs i) j (slice_index xs i) (omega arith) in
    omega (arith, left, put)

pub ruleset moved_rules = (length_moved)

-- ---- a tag that occurs

pub count_within : (t q : ℕ) (xs : List ℕ) → q < count t xs → 0 < length xs
count_within t q xs h = let low = count-le-length t xs in omega (arith, h, low)

pub ruleset count_rules = (count_within, count-le-length)

-- ---- more items

pub length_longer : (xs : List ℕ) (t c : ℕ) → length (xs ++ replicate c t) ≡ length xs + c
length_longer xs t c = let both = length-append xs (replicate c t) in let more = length-replicate c t in omega (arith, both, more)

pub ruleset longer_rules = (length_longer)
