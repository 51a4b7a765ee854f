-- That lenses have one left type, where there may be none of them.
use Rattle.std.specs.Prelude.{List, [], ◌∷◌}
use Rattle.lens_flat.specs.declared.flat.ReadyForm.{ReadyForm}
use Rattle.view_hub.specs.Laws.{HaveOneLeftType}
use Rattle.hub_run.specs.RunStates.{ready_lens}

-- there are no lenses, or all have the left type of the first
abbrev pub HasOneLeft : List ReadyForm → Type 0
HasOneLeft [] = Unit {0}
HasOneLeft (l ∷ ls) = HaveOneLeftType ready_lens (l ∷ ls)
