-- Words joined in turn, and what was translated behind them.
use Rattle.std.proofs.Common.{◌≡◌, Option, None, Some, option_map, refl, ap, sym}
use Rattle.edit_module.specs.Words.{WordTree, no_primitives, joined}
use Rattle.edit_module.proofs.Words.{joined_assoc}
use Rattle.lens_core.specs.Emitted.{behind}

module _ {A : Type 0} where
  pub behind_nothing : (o : Option (WordTree × A)) → option_map (behind no_primitives) o ≡ o
  behind_nothing None = refl
  behind_nothing (Some r) = refl

  pub behind_behind : (u v : WordTree) (o : Option (WordTree × A)) → option_map (behind u) (option_map (behind v) o) ≡ option_map (behind (joined u v)) o
  behind_behind u v None = refl
  behind_behind u v (Some r) = ap (λ z. Some (z, r.1)) (sym (joined_assoc u v r.0))
