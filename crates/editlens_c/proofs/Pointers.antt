-- A step of a walk: a pointer is null, or it is in a block.
use Prim.Native.Nat.{ℕ}
use mathlib.Core.Path.{◌≡◌, refl}
use mathlib.Core.List.{List, ◌∷◌}
use seplogic.Ra.Ura.{Ura}
use base.Fml.{Fml}
use types.Logic.{Logic}
use mir.Syntax.{Body, seq, cond, skip}
use types.Kit.{Item, Goal, Seq, ‵}
use denote.RawPtr.{Ptr, block_ptr, null_ptr}

module _ {M : Type 1} {𝓤 : Ura M} {𝓛 : Logic 𝓤} {K : Type 0} {Γ : List (Item 𝓤)} {G : Goal 𝓤 𝓛.H} where
  pub by_pointer : K → (p : Ptr) (F : Ptr → Fml) → (p ≡ null_ptr → Seq K 𝓛 (‵ (F null_ptr) ∷ Γ) G)
      → ((b o : ℕ) → p ≡ block_ptr b o → Seq K 𝓛 (‵ (F (block_ptr b o)) ∷ Γ) G) → Seq K 𝓛 (‵ (F p) ∷ Γ) G
  by_pointer t (block_ptr b o) F n k = k b o refl
  by_pointer t null_ptr F n k = n refl

-- parts of a function's code
abbrev pub then_of : Body → Body
then_of (cond c a b) = a
then_of other = skip

abbrev pub second_of : Body → Body
second_of (seq a b) = b
second_of other = skip
