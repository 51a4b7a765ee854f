-- A text that begins with another still does with more behind it.
use Rattle.std.proofs.Common.{◌≡◌, ◌≤◌, ℕ, List, ◌++◌, length, take, drop, min, sym, ap, ◌∙◌, arith}
use Rattle.std.proofs.lemmas.List.{length-take, take-append-le, take-append-drop}

-- the text after one more part
pub longer : (old mid new part : List ℕ) → take (length old) mid ≡ old → new ≡ mid ++ part → take (length old) new ≡ old
longer old mid new part h e =
    let same : min (length old) (length mid) ≡ length old = sym (length-take (length old) mid) ∙ ap length h in
    let within : length old ≤ length mid = omega (arith, same) in
    ap (take (length old)) e ∙ take-append-le (length old) mid part within ∙ h

-- the text after a call that leaves the text before at its front
pub behind : (old mid new : List ℕ) → take (length old) mid ≡ old → take (length mid) new ≡ mid → take (length old) new ≡ old
behind old mid new h e =
    longer old mid new (drop (length mid) new) h (sym (take-append-drop (length mid) new) ∙ ap (λ l. l ++ drop (length mid) new) e)
