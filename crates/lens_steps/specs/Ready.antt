-- What a run asks of a form, so that its translation meets no list that is too long and no name that occurs twice.
use Rattle.std.specs.Prelude.{IsTrue, ◌≤◌}
use Rattle.lens_forms.specs.Forms.{FormTree}
use Rattle.lens_forms.specs.Measures.{form_parts}
use Rattle.lens_forms.specs.Typing.{is_typed}
use Rattle.lens_forms.specs.declared.limits.TheConstants.{MOST_PARTS}

-- the form is typed, and has at most as many parts as a definition may have
abbrev pub IsReady : FormTree → Type 0
IsReady form = IsTrue (is_typed form) × (form_parts form ≤ MOST_PARTS)
