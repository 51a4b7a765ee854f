-- Lists of runs of links.
use Rattle.std.proofs.Common.{◌≡◌, ℕ, zero, suc, ◌+◌, ◌-◌, ◌≤◌, ◌<◌, List, [], ◌∷◌, ◌++◌, length, map, take, drop, get_or, set, refl, sym, ap, ◌∙◌, arith, append-nil, drop-cons}
use Rattle.std.proofs.lemmas.List.{drop_all, take_all, take_more, length-append, append_assoc}
use Rattle.bridge_links.specs.declared.link.Link.{Link}
use Rattle.bridge_links.specs.declared.link.Link.TheVariants.{Gone}
use Rattle.bridge_links.specs.Links.{all_links, link_at}

pub runs-at : (rs : List (List Link)) (i : ℕ) (r : List Link) → i < length rs → r ≡ get_or rs i r → all_links (drop i rs) ≡ r ++ all_links (drop (i + 1) rs)
runs-at rs i r p e =
    let one : suc i ≡ i + 1 = omega arith in
    let w : drop i rs ≡ get_or rs i r ∷ drop (i + 1) rs = drop-cons rs i r p ∙ ap (λ (k : ℕ). get_or rs i r ∷ drop k rs) one in
    rw (w, ← e) refl

pub all_links-push : (rs : List (List Link)) (r : List Link) → all_links (rs ++ r ∷ []) ≡ all_links rs ++ r
all_links-push [] r = append-nil r
all_links-push (q ∷ rs) r = ap (λ ls. q ++ ls) (all_links-push rs r) ∙ sym (append_assoc q (all_links rs) r)

-- the last run r of at least one, in place of which there is q
pub all_links-joined : (rs : List (List Link)) (n : ℕ) (r q next : List Link) → n + 1 ≡ length rs → r ≡ get_or rs n r → q ≡ r ++ next → all_links (set rs n q) ≡ all_links rs ++ next
all_links-joined [] n r q next h e z = absurd (omega arith)
all_links-joined (x ∷ []) zero r q next h e z =
    let y : q ≡ x ++ next = z ∙ ap (λ ls. ls ++ next) e in rw (append-nil q, append-nil x) y
all_links-joined (x ∷ []) (suc n) r q next h e z = absurd (omega arith)
all_links-joined (x ∷ y ∷ rs) zero r q next h e z = absurd (omega arith)
all_links-joined (x ∷ y ∷ rs) (suc n) r q next h e z =
    ap (λ ls. x ++ ls) (all_links-joined (y ∷ rs) n r q next (omega arith) e z) ∙ sym (append_assoc x (all_links (y ∷ rs)) next)

pub ruleset push_rules = (all_links-push, all_links-joined)

pub all_links-more : (rs : List (List Link)) (i : ℕ) (r : List Link) → i < length rs → r ≡ get_or rs i r → all_links (take (i + 1) rs) ≡ all_links (take i rs) ++ r
all_links-more rs i r p e = rw (take_more rs i r p, ← e) (all_links-push (take i rs) r)

-- ---- the link of a place

pub at-front : (xs ys : List Link) (i : ℕ) → i < length xs → link_at xs i ≡ link_at (xs ++ ys) i
at-front [] ys i h = absurd (omega arith)
at-front (x ∷ xs) ys zero h = refl
at-front (x ∷ xs) ys (suc i) h = at-front xs ys i (omega arith)

pub at-back : (xs ys : List Link) (i : ℕ) → length xs ≤ i → link_at ys (i - length xs) ≡ link_at (xs ++ ys) i
at-back [] ys i h = let e : i - 0 ≡ i = omega arith in rw e refl
at-back (x ∷ xs) ys zero h = absurd (omega arith)
at-back (x ∷ xs) ys (suc i) h = let e : suc i - suc (length xs) ≡ i - length xs = omega arith in rw e (at-back xs ys i (omega arith))

pub read-inside : (rs : List (List Link)) (i : ℕ) (r : List Link) (n : ℕ) → i < length rs → r ≡ get_or rs i r → n < length r → link_at r n ≡ link_at (all_links (drop i rs)) n
read-inside rs i r n p e h = rw (runs-at rs i r p e) (at-front r (all_links (drop (i + 1) rs)) n h)

pub read-behind : (rs : List (List Link)) (i : ℕ) (r : List Link) (n : ℕ) → i < length rs → r ≡ get_or rs i r → length r ≤ n
    → link_at (all_links (drop (i + 1) rs)) (n - length r) ≡ link_at (all_links (drop i rs)) n
read-behind rs i r n p e h = rw (runs-at rs i r p e) (at-back r (all_links (drop (i + 1) rs)) n h)

pub read-past : (rs : List (List Link)) (i n : ℕ) → length rs ≤ i → Gone ≡ link_at (all_links (drop i rs)) n
read-past rs i n h = rw (drop_all i rs h) refl

pub length-from : (rs : List (List Link)) (i : ℕ) (r : List Link) → i < length rs → r ≡ get_or rs i r → length (all_links (drop i rs)) ≡ length r + length (all_links (drop (i + 1) rs))
length-from rs i r p e = rw (runs-at rs i r p e) (length-append r (all_links (drop (i + 1) rs)))

pub ruleset read_rules = (read-inside, read-behind, read-past)

pub none-more : (xs r : List Link) → length r ≡ 0 → xs ≡ xs ++ r
none-more xs [] h = sym (append-nil xs)
none-more xs (x ∷ r) h = absurd (omega arith)

pub ruleset empty_rules = (none-more)

-- one run more of a copy
pub copied-more : (links more : List Link) (rs : List (List Link)) (i : ℕ) (r : List Link) → i < length rs → r ≡ get_or rs i r → more ≡ links ++ take (length r) (drop 0 r)
    → links ++ all_links (drop i rs) ≡ all_links rs → more ++ all_links (drop (i + 1) rs) ≡ all_links rs
copied-more links more rs i r p e m h =
    let whole : take (length r) (drop 0 r) ≡ r = take_all (length r) r (omega arith) in
    ap (λ ls. ls ++ all_links (drop (i + 1) rs)) (m ∙ ap (λ ls. links ++ ls) whole)
    ∙ (append_assoc links r (all_links (drop (i + 1) rs)) ∙ (ap (λ ls. links ++ ls) (sym (runs-at rs i r p e)) ∙ h))

pub copied-all : (links : List Link) (rs : List (List Link)) (i : ℕ) → length rs ≤ i → links ++ all_links (drop i rs) ≡ all_links rs → links ≡ all_links rs
copied-all links rs i p h = sym (append-nil links) ∙ (ap (λ ls. links ++ all_links ls) (sym (drop_all i rs p)) ∙ h)

pub ruleset copy_rules = (copied-more, copied-all)
