-- Runs as the code puts them together.
use Rattle.std.proofs.Common.{◌≡◌, ℕ, ◌+◌, ◌-◌, ◌<◌, suc, zero, Bool, true, false, List, [], ◌∷◌, ◌++◌, length, take, drop, get_or, set, Some, None, refl, sym, ap, ◌∙◌, arith, drop-cons}
use Rattle.std.specs.Prelude.{nat_eq, nat_le}
use Rattle.std.proofs.lemmas.Bool.Decides.{nat_tests}
use Rattle.bridge_texts.specs.declared.run.End.{End}
use Rattle.std.proofs.lemmas.List.{append-nil}
use Rattle.bridge_texts.specs.declared.run.Run.{Run}
use Rattle.bridge_texts.specs.declared.run.Run.TheVariants.{Kept, Added, Gone}
use Rattle.bridge_texts.specs.Runs.{joined_run, one_or_both, and_run, add_run, add_runs, is_kept_run, without_kept_end, size_at, cut_at, cut}

-- one more behind others, by whether it becomes one with the last of them
pub and_run-none : (rs : List Run) (r : Run) → length rs ≡ 0 → and_run rs r ≡ rs ++ r ∷ []
and_run-none [] r h = refl
and_run-none (q ∷ rs) r h = absurd (omega arith)

pub and_run-both : (rs : List Run) (r both d : Run) (n : ℕ) → length rs ≡ suc n → one_or_both (Some both) (get_or rs n d) r ≡ joined_run (get_or rs n d) r → and_run rs r ≡ set rs n both
and_run-both [] r both d n h e = absurd (omega arith)
and_run-both (q ∷ []) r both d zero h e = sym e
and_run-both (q ∷ []) r both d (suc n) h e = absurd (omega arith)
and_run-both (q ∷ p ∷ rs) r both d zero h e = absurd (omega arith)
and_run-both (q ∷ p ∷ rs) r both d (suc n) h e = ap (λ (l : List Run). q ∷ l) (and_run-both (p ∷ rs) r both d n (omega arith) e)

pub and_run-apart : (rs : List Run) (r d : Run) (n : ℕ) → length rs ≡ suc n → one_or_both None (get_or rs n d) r ≡ joined_run (get_or rs n d) r → and_run rs r ≡ rs ++ r ∷ []
and_run-apart [] r d n h e = absurd (omega arith)
and_run-apart (q ∷ []) r d zero h e = sym e
and_run-apart (q ∷ []) r d (suc n) h e = absurd (omega arith)
and_run-apart (q ∷ p ∷ rs) r d zero h e = absurd (omega arith)
and_run-apart (q ∷ p ∷ rs) r d (suc n) h e = ap (λ (l : List Run). q ∷ l) (and_run-apart (p ∷ rs) r d n (omega arith) e)

-- runs that are put behind others in two parts
pub add_runs-append : (rs us vs : List Run) → add_runs rs (us ++ vs) ≡ add_runs (add_runs rs us) vs
add_runs-append rs [] vs = refl
add_runs-append rs (u ∷ us) vs = add_runs-append (add_run rs u) us vs

-- the next run of a list
pub next-run : (rs : List Run) (i : ℕ) (d : Run) → i < length rs → drop i rs ≡ get_or rs i d ∷ drop (i + 1) rs
next-run rs i d p = let one : suc i ≡ i + 1 = omega arith in drop-cons rs i d p ∙ ap (λ (k : ℕ). get_or rs i d ∷ drop k rs) one

-- a last run that is kept
pub kept-end-goes : (rs : List Run) (d : Run) (n : ℕ) → length rs ≡ suc n → is_kept_run (get_or rs n d) ≡ true → take n rs ≡ without_kept_end rs
kept-end-goes [] d n h k = absurd (omega arith)
kept-end-goes (Kept m ∷ []) d zero h k = refl
kept-end-goes (Added m ∷ []) d zero h k = absurd cc
kept-end-goes (Gone m ∷ []) d zero h k = absurd cc
kept-end-goes (q ∷ []) d (suc n) h k = absurd (omega arith)
kept-end-goes (q ∷ p ∷ rs) d zero h k = absurd (omega arith)
kept-end-goes (q ∷ p ∷ rs) d (suc n) h k = ap (λ (l : List Run). q ∷ l) (kept-end-goes (p ∷ rs) d n (omega arith) k)

pub other-end-stays : (rs : List Run) (d : Run) (n : ℕ) → length rs ≡ suc n → is_kept_run (get_or rs n d) ≡ false → rs ≡ without_kept_end rs
other-end-stays [] d n h k = refl
other-end-stays (Kept m ∷ []) d zero h k = absurd cc
other-end-stays (Added m ∷ []) d zero h k = refl
other-end-stays (Gone m ∷ []) d zero h k = refl
other-end-stays (q ∷ []) d (suc n) h k = absurd (omega arith)
other-end-stays (q ∷ p ∷ rs) d zero h k = absurd (omega arith)
other-end-stays (q ∷ p ∷ rs) d (suc n) h k = ap (λ (l : List Run). q ∷ l) (other-end-stays (p ∷ rs) d n (omega arith) k)

pub no-end : (rs : List Run) → length rs ≡ 0 → rs ≡ without_kept_end rs
no-end [] h = refl
no-end (q ∷ rs) h = absurd (omega arith)

pub ruleset end_rules = (kept-end-goes, other-end-stays, no-end)

-- nothing is in front where the place is reached
in-front-of : (e : End) (r : Run) (rs : List Run) (left : ℕ) (b : Bool) → nat_eq left 0 ≡ b → b ≡ true → (cut_at b (nat_le (size_at e r) left) left r rs (cut e rs (left - size_at e r))).0 ≡ []
in-front-of e r rs left true z t = refl
in-front-of e r rs left false z t = absurd cc

pub cut-at-once : (e : End) (rs : List Run) (i left : ℕ) (d : Run) (front whole : List Run) → i < length rs → left ≡ 0 → front ++ (cut e (drop i rs) left).0 ≡ whole → front ≡ whole
cut-at-once e rs i left d front whole p z h =
    let none : (cut e (get_or rs i d ∷ drop (i + 1) rs) left).0 ≡ [] = in-front-of e (get_or rs i d) (drop (i + 1) rs) left (nat_eq left 0) refl (grind (arith, nat_tests)) in
    let all : front ++ (cut e (get_or rs i d ∷ drop (i + 1) rs) left).0 ≡ whole = ap (λ (l : List Run). front ++ (cut e l left).0) (sym (next-run rs i d p)) ∙ h in
    sym (append-nil front) ∙ (ap (λ (l : List Run). front ++ l) (sym none) ∙ all)

-- four parts, put behind one another
pub added-in-parts : (rs front gone back : List Run) (r : Run) → add_runs (add_runs (add_run (add_runs rs front) r) gone) back ≡ add_runs rs (front ++ (r ∷ (gone ++ back)))
added-in-parts rs front gone back r =
    sym (add_runs-append rs front (r ∷ (gone ++ back)) ∙ add_runs-append (add_run (add_runs rs front) r) gone back)

pub ruleset part_rules = (added-in-parts)

pub ruleset cut_rules = (next-run, cut-at-once)

pub ruleset built_rules = (and_run-none, and_run-both, and_run-apart, next-run)
