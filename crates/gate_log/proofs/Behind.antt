-- What lies behind a write stays.
use Rattle.std.proofs.Common.{◌≡◌, ◌⊎◌, inl, inr, ℕ, ◌+◌, ◌-◌, ◌≤◌, List, ◌++◌, length, take, drop, Option, Some, None, refl, sym, ap, subst, ◌∙◌, arith, append_assoc, length-append, drop_at}
use Rattle.std.proofs.lemmas.List.{length-take, drop-drop}
use Rattle.lens_io.specs.Disks.{Holds, Torn, Steps}
use Rattle.gate_log.specs.Steps.{IsTornOrHolds, KeepsBehind}

written_behind : (at : ℕ) (bytes old new : List ℕ) → Holds at bytes old new → KeepsBehind (at + length bytes) old new
written_behind at bytes old new h =
    let front = take at old ++ (h.0 ++ bytes) in
    let rest = drop (at + length bytes) old in
    let size : length front ≡ at + length bytes = omega (arith, length-append (take at old) (h.0 ++ bytes), length-append h.0 bytes, length-take at old, h.1) in
    let whole : new ≡ front ++ rest = h.2 ∙ (ap (λ (x : List ℕ). take at old ++ x) (sym (append_assoc h.0 bytes rest)) ∙ sym (append_assoc (take at old) (h.0 ++ bytes) rest)) in
    ap (drop (at + length bytes)) whole ∙ drop_at front rest (at + length bytes) size

torn_behind : (at : ℕ) (bytes old new : List ℕ) → IsTornOrHolds at bytes old new → KeepsBehind (at + length bytes) old new
torn_behind at bytes old new (inl torn) = torn.after
torn_behind at bytes old new (inr holds) = written_behind at bytes old new holds

-- what stays from a place on stays from each later place on
later : (m n : ℕ) (old new : List ℕ) → m ≤ n → KeepsBehind m old new → KeepsBehind n old new
later m n old new within h =
    let on : m + (n - m) ≡ n = omega (arith, within) in
    ap (λ (k : ℕ). drop k new) (sym on)
    ∙ (sym (drop-drop (n - m) m new)
    ∙ (ap (drop (n - m)) h
    ∙ (drop-drop (n - m) m old
    ∙ ap (λ (k : ℕ). drop k old) on)))

-- ---- content that may be known

pub written_keeps : (at n : ℕ) (bytes : List ℕ) (old new : Option (List ℕ)) → at + length bytes ≤ n → Steps (Holds at bytes) old new → Steps (KeepsBehind n) old new
written_keeps at n bytes None None within h = tt
written_keeps at n bytes None (Some new) within h = absurd h
written_keeps at n bytes (Some old) None within h = absurd h
written_keeps at n bytes (Some old) (Some new) within h = later (at + length bytes) n old new within (written_behind at bytes old new h)

pub torn_keeps : (at n : ℕ) (bytes : List ℕ) (old new : Option (List ℕ)) → at + length bytes ≤ n → Steps (IsTornOrHolds at bytes) old new → Steps (KeepsBehind n) old new
torn_keeps at n bytes None None within h = tt
torn_keeps at n bytes None (Some new) within h = absurd h
torn_keeps at n bytes (Some old) None within h = absurd h
torn_keeps at n bytes (Some old) (Some new) within h = later (at + length bytes) n old new within (torn_behind at bytes old new h)

pub none_keeps : (n : ℕ) (content : Option (List ℕ)) → Steps (KeepsBehind n) content content
none_keeps n None = tt
none_keeps n (Some bytes) = refl

pub same_keeps : (n : ℕ) (old new : Option (List ℕ)) → new ≡ old → Steps (KeepsBehind n) old new
same_keeps n old new e = subst (λ (o : Option (List ℕ)). Steps (KeepsBehind n) old o) (sym e) (none_keeps n old)

pub both_keep : (m n : ℕ) (old mid new : Option (List ℕ)) → m ≤ n → Steps (KeepsBehind m) old mid → Steps (KeepsBehind n) mid new → Steps (KeepsBehind n) old new
both_keep m n None None None within h k = tt
both_keep m n None None (Some new) within h k = absurd k
both_keep m n None (Some mid) new within h k = absurd h
both_keep m n (Some old) None new within h k = absurd h
both_keep m n (Some old) (Some mid) None within h k = absurd k
both_keep m n (Some old) (Some mid) (Some new) within h k = k ∙ later m n old mid within h

pub ruleset behind_rules = (none_keeps, same_keeps)
