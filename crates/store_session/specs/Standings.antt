-- What an opened session stands for.
use Rattle.std.specs.Prelude.{ℕ}
use Rattle.lens_forms.specs.Forms.{FormTree}
use Rattle.edit_session.specs.Step.{TripleTree}
use Rattle.store_session.specs.Stands.{Standing}

-- a form with a triple, a number of changes and a version
abbrev pub standing : FormTree → TripleTree → ℕ → ℕ → Standing
standing l t count version = record { form = l; triple = t; count = count; version = version }
