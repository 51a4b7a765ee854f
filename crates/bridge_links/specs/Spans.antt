-- What links say of the contents of two shapes: `Spans`.
use Rattle.std.specs.Prelude.{◌≡◌, ℕ, ◌+◌, ◌<◌, List, length, slice_get, Option, Some, None, Bool, IsTrue}
use Rattle.bridge_links.specs.declared.link.Link.{Link}
use Rattle.bridge_links.specs.declared.link.Link.TheVariants.{Gone}
use Rattle.bridge_links.specs.Links.{far_at, fresh_count}

-- no two places lead to one place
abbrev pub AreApart : List Link → Type 0
AreApart ls = (x z y : ℕ) → far_at ls x ≡ Some y → far_at ls z ≡ Some y → x ≡ z

-- each place that a link leads to is below n
abbrev pub AreBelow : ℕ → List Link → Type 0
AreBelow n ls = (x y : ℕ) → far_at ls x ≡ Some y → y < n

-- no link leads to one of c places from n on
abbrev pub AreFree : ℕ → ℕ → List Link → Type 0
AreFree n c ls = (x y d : ℕ) → far_at ls x ≡ Some y → d < c → y ≡ n + d → ⊥

-- the plan of the far shape has fresh places from place n on, as many as that of the near shape
abbrev pub AreFresh : ℕ → List Link → List Link → Type 0
AreFresh n near far = (d : ℕ) → d < fresh_count near → slice_get far (n + d) ≡ Some Gone

-- both contents are there, and they are related
abbrev pub AreRelated : {A B : Type 0} → (A → B → Type 0) → Option A → Option B → Type 0
AreRelated r (Some a) (Some b) = r a b
AreRelated r None b = ⊥
AreRelated r (Some a) None = ⊥

-- The near contents are s and the far ones t: each near place has a link, no two links lead to one place, and where a
-- link leads, both contents are there and related.
pub record Spans {A B : Type 0} (r : A → B → Type 0) (ls : List Link) (s : List A) (t : List B) : Type 0 where
  pub as_many : length ls ≡ length s
  pub apart : AreApart ls
  pub related : (x y : ℕ) → far_at ls x ≡ Some y → AreRelated r (slice_get s x) (slice_get t y)

-- the same, for contents that are numbers and a test of two of them
abbrev pub SpansBy : (ℕ → ℕ → Bool) → List Link → List ℕ → List ℕ → Type 0
SpansBy r ls s t = Spans (λ a b. IsTrue (r a b)) ls s t
