-- The runs at a gap, and their characters, as the code counts them.
use Rattle.std.proofs.Common.{◌≡◌, ℕ, ◌+◌, ◌<◌, suc, zero, true, false, List, [], ◌∷◌, ◌++◌, length, take, drop, get_or, refl, sym, ap, ◌∙◌, arith}
use Rattle.std.proofs.lemmas.List.{append-nil}
use Rattle.bridge_texts.specs.declared.run.Run.{Run}
use Rattle.bridge_texts.specs.declared.run.Run.TheVariants.{Kept, Added, Gone}
use Rattle.bridge_texts.specs.declared.run.End.{End}
use Rattle.bridge_texts.specs.Runs.{added_front, behind_added, is_added_run, size_at, total}
use Rattle.bridge_texts.proofs.Built.{next-run}

-- the first i runs are in the far text alone
abbrev pub are_added : ℕ → List Run → Type 0
are_added i rs = (take i rs ++ added_front (drop i rs) ≡ added_front rs) × (behind_added (drop i rs) ≡ behind_added rs)

front-none : (q : Run) (rest : List Run) → is_added_run q ≡ false → (added_front (q ∷ rest) ≡ []) × (behind_added (q ∷ rest) ≡ q ∷ rest)
front-none (Kept n) rest h = (refl, refl)
front-none (Added n) rest h = absurd cc
front-none (Gone n) rest h = (refl, refl)

front-more : (q : Run) (rest : List Run) → is_added_run q ≡ true → (added_front (q ∷ rest) ≡ q ∷ added_front rest) × (behind_added (q ∷ rest) ≡ behind_added rest)
front-more (Kept n) rest h = absurd cc
front-more (Added n) rest h = (refl, refl)
front-more (Gone n) rest h = absurd cc

take-next : (rs : List Run) (i : ℕ) (d : Run) (ys : List Run) → i < length rs → take (suc i) rs ++ ys ≡ take i rs ++ (get_or rs i d ∷ ys)
take-next [] i d ys p = absurd (omega arith)
take-next (q ∷ rs) zero d ys p = refl
take-next (q ∷ rs) (suc i) d ys p = ap (λ (l : List Run). q ∷ l) (take-next rs i d ys (omega arith))

take-one-more : (rs : List Run) (i : ℕ) (d : Run) (ys : List Run) → i < length rs → take (i + 1) rs ++ ys ≡ take i rs ++ (get_or rs i d ∷ ys)
take-one-more rs i d ys p = let one : i + 1 ≡ suc i = omega arith in ap (λ (n : ℕ). take n rs ++ ys) one ∙ take-next rs i d ys p

pub gap-ends : (rs : List Run) (i : ℕ) (d : Run) → i < length rs → is_added_run (get_or rs i d) ≡ false → are_added i rs → (take i rs ≡ added_front rs) × (drop i rs ≡ behind_added rs)
gap-ends rs i d p not-it h =
    let e = next-run rs i d p in
    let w = front-none (get_or rs i d) (drop (i + 1) rs) not-it in (
      sym (append-nil (take i rs)) ∙ (ap (λ (l : List Run). take i rs ++ l) (sym (ap (λ (l : List Run). added_front l) e ∙ w.0)) ∙ h.0),
      e ∙ (sym w.1 ∙ (ap (λ (l : List Run). behind_added l) (sym e) ∙ h.1)),
    )

pub gap-goes-on : (rs : List Run) (i : ℕ) (d : Run) → i < length rs → is_added_run (get_or rs i d) ≡ true → are_added i rs → are_added (i + 1) rs
gap-goes-on rs i d p is-it h =
    let e = next-run rs i d p in
    let w = front-more (get_or rs i d) (drop (i + 1) rs) is-it in (
      take-one-more rs i d (added_front (drop (i + 1) rs)) p
          ∙ (ap (λ (l : List Run). take i rs ++ l) (sym (ap (λ (l : List Run). added_front l) e ∙ w.0)) ∙ h.0),
      sym w.1 ∙ (ap (λ (l : List Run). behind_added l) (sym e) ∙ h.1),
    )

-- one run more
pub total-more : (e : End) (rs : List Run) (i sum : ℕ) (d : Run) → i < length rs → sum + total e (drop i rs) ≡ total e rs → (sum + size_at e (get_or rs i d)) + total e (drop (i + 1) rs) ≡ total e rs
total-more e rs i sum d p h =
    let k = ap (λ (l : List Run). total e l) (next-run rs i d p) in
    omega arith

pub ruleset gap_rules = (gap-ends, gap-goes-on, total-more)
