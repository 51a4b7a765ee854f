-- The bits of bytes: the state after them is that after the bytes, and bytes are told by their bits.
use Rattle.std.proofs.Common.{◌≡◌, ℕ, suc, ◌<◌, Bool, List, [], ◌∷◌, ◌++◌, length, take, drop, refl, sym, ap, ap₂, ◌∙◌, arith, append_assoc}
use Rattle.std.specs.List.{AllByRecursion}
use Rattle.std.proofs.lemmas.List.Concat.{flat_map-append}
use Rattle.record_sums.specs.Crc32c.{step, state_after}
use Rattle.record_sums.specs.Bursts.{IsBytes, low_bits, bits_of, DifferWithin}
use Rattle.record_sums.proofs.BitRuns.{state_after_bits, state_after_bits-append, number_of, number_of-low_bits, step-bits}

abbrev pub EachByte : List ℕ → Type 0
EachByte bytes = AllByRecursion (λ byte. byte < 256) bytes

pub each_byte : (bytes : List ℕ) → IsBytes bytes → EachByte bytes
each_byte [] h = tt
each_byte (byte ∷ bytes) h = (h 0, each_byte bytes (λ place. h (suc place)))

pub each_byte-append : (one other : List ℕ) → EachByte one → EachByte other → EachByte (one ++ other)
each_byte-append [] other h k = k
each_byte-append (byte ∷ one) other h k = (h.0, each_byte-append one other h.1 k)

pub state_after-bits : (state : ℕ) (bytes : List ℕ) → EachByte bytes → state_after state bytes ≡ state_after_bits state (bits_of bytes)
state_after-bits state [] h = refl
state_after-bits state (byte ∷ bytes) h =
    state_after-bits (step state byte) bytes h.1
    ∙ ap (λ s. state_after_bits s (bits_of bytes)) (step-bits state byte h.0)
    ∙ sym (state_after_bits-append state (low_bits 8 byte) (bits_of bytes))

first_byte : (x y : ℕ) (xs ys : List Bool) → x < 256 → y < 256 → low_bits 8 x ++ xs ≡ low_bits 8 y ++ ys → x ≡ y
first_byte x y xs ys lx ly h =
    let first : low_bits 8 x ≡ low_bits 8 y = ap (take 8) h in
    sym (number_of-low_bits 8 x lx) ∙ ap number_of first ∙ number_of-low_bits 8 y ly

pub bits_of-injective : (one other : List ℕ) → EachByte one → EachByte other → bits_of one ≡ bits_of other → one ≡ other
bits_of-injective [] [] h k e = refl
bits_of-injective [] (y ∷ other) h k e = let no : 0 ≡ length (bits_of (y ∷ other)) = ap length e in absurd (omega arith)
bits_of-injective (x ∷ one) [] h k e = let no : length (bits_of (x ∷ one)) ≡ 0 = ap length e in absurd (omega arith)
bits_of-injective (x ∷ one) (y ∷ other) h k e =
    ap₂ (λ byte bytes. byte ∷ bytes)
    (first_byte x y (bits_of one) (bits_of other) h.0 k.0 e)
    (bits_of-injective one other h.1 k.1 (ap (drop 8) e))

-- ---- what differs within a few bits still does beside other bytes

pub differ-behind : (n : ℕ) (before one other : List ℕ) → DifferWithin n one other → DifferWithin n (before ++ one) (before ++ other)
differ-behind n before one other d =
    record {
      front = bits_of before ++ d.front;
      from = d.from;
      to = d.to;
      back = d.back;
      one_bits = regrouped one d.from d.one_bits;
      other_bits = regrouped other d.to d.other_bits;
      same_length = d.same_length;
      short = d.short;
      unlike = d.unlike;
    }
  where
    regrouped : (bytes : List ℕ) (middle : List Bool) → bits_of bytes ≡ d.front ++ (middle ++ d.back)
        → bits_of (before ++ bytes) ≡ bits_of before ++ d.front ++ (middle ++ d.back)
    regrouped bytes middle e =
        flat_map-append (low_bits 8) before bytes
        ∙ ap (λ bits. bits_of before ++ bits) e
        ∙ sym (append_assoc (bits_of before) d.front (middle ++ d.back))

pub differ-ahead : (n : ℕ) (behind one other : List ℕ) → DifferWithin n one other → DifferWithin n (one ++ behind) (other ++ behind)
differ-ahead n behind one other d =
    record {
      front = d.front;
      from = d.from;
      to = d.to;
      back = d.back ++ bits_of behind;
      one_bits = regrouped one d.from d.one_bits;
      other_bits = regrouped other d.to d.other_bits;
      same_length = d.same_length;
      short = d.short;
      unlike = d.unlike;
    }
  where
    regrouped : (bytes : List ℕ) (middle : List Bool) → bits_of bytes ≡ d.front ++ (middle ++ d.back)
        → bits_of (bytes ++ behind) ≡ d.front ++ (middle ++ (d.back ++ bits_of behind))
    regrouped bytes middle e =
        flat_map-append (low_bits 8) bytes behind
        ∙ ap (λ bits. bits ++ bits_of behind) e
        ∙ append_assoc d.front (middle ++ d.back) (bits_of behind)
        ∙ ap (λ bits. d.front ++ bits) (append_assoc middle d.back (bits_of behind))
