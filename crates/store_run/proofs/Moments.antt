-- Runs of disk calls, one after another.
use Rattle.std.proofs.Common.{inl, inr, ℕ, List, arith}
use Rattle.lens_io.specs.DiskRuns.{LeavesOnly}
use Rattle.lens_io.specs.declared.disk.Disk as OfDisk

module _ {D : Type 0} (disk : OfDisk.Ghosts D) where
  -- each image has what it has, and more
  pub leaves_more : (old new : D) (P Q : List ℕ → Type 0) → ((c : List ℕ) → P c → Q c) → LeavesOnly disk old new P → LeavesOnly disk old new Q
  leaves_more old new P Q f h = record {
    later = h.later;
    each = λ c was. f c (h.each c was);
    before = λ t c le was. elim (h.before t c le was) [ inl past ↦ inl past | inr now ↦ inr (f c now) ];
  }

  -- no call at all
  pub leaves_same : (d : D) (P : List ℕ → Type 0) → ((c : List ℕ) → disk.images_since d (disk.moment d) c → P c) → LeavesOnly disk d d P
  leaves_same d P f = record { later = omega arith; each = f; before = λ t c le was. inl was }

  -- one run and then another
  pub leaves_then : (d0 d1 d2 : D) (P Q R : List ℕ → Type 0) → ((c : List ℕ) → P c → R c) → ((c : List ℕ) → Q c → R c)
      → LeavesOnly disk d0 d1 P → LeavesOnly disk d1 d2 Q → LeavesOnly disk d0 d2 R
  leaves_then d0 d1 d2 P Q R f g h k = record {
    later = omega (arith, h.later, k.later);
    each = λ c was. elim (k.before (disk.moment d0) c h.later was) [ inl past ↦ f c (h.each c past) | inr now ↦ g c now ];
    before = λ t c le was. elim (k.before t c (omega (arith, le, h.later)) was) [
      | inl past ↦ elim (h.before t c le past) [ inl earlier ↦ inl earlier | inr now ↦ inr (f c now) ]
      | inr now ↦ inr (g c now)
    ];
  }
