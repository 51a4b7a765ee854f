-- What contracts see of a session.
use Rattle.std.specs.Prelude.{refl}
use Rattle.std.specs.Coded.{Coded, code_by, coded×}
use Rattle.edit_session.specs.declared.triple.Triple.{Triple}

-- its lens, and its triple
pub record SessionOf (L : Type 0) : Type 0 where
  pub lens : L
  pub triple : Triple

-- a session is stored as the pair of its parts
abbrev pub session_code : {L : Type 0} → Coded L → Coded Triple → Coded (SessionOf L)
session_code {L} lens triple =
    code_by (L × Triple) (coded× lens triple) (λ s. (s.lens, s.triple)) (λ p. record { lens = p.0; triple = p.1 })
    (λ _. refl)
