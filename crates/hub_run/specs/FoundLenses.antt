-- What the code finds of the lenses of a program part.
use Rattle.std.specs.Prelude.{◌≡◌, IsTrue, List, [], ◌∷◌, Option, None, Some, Result, Err}
use Rattle.doc_values.specs.Types.{TyTree}
use Rattle.lens_forms.specs.Forms.{FormTree, left_type}
use Rattle.lens_forms.specs.Typing.{is_typed}
use Rattle.program_accepted.specs.Program.{Refusal}
use Rattle.program_accepted.specs.Refused.{IsProgramRefusal, IsKnown}
use Rattle.hub_run.specs.Lenses.{HubRefusal, too_many_views, in_view, views_differ}
use Rattle.hub_run.specs.declared.views.HubRefused.{HubRefused}
use Rattle.hub_run.specs.declared.views.HubRefused.TheVariants.{TooManyViews, InView, ViewsDiffer, NoMemory}

-- the code's refusal is this one; running out of memory is none
abbrev pub IsRefusalOf : HubRefused → HubRefusal → Type 0
IsRefusalOf TooManyViews refusal = refusal ≡ too_many_views
IsRefusalOf (InView v refused) refusal =
    (why : Refusal) × (refusal ≡ in_view v why) × IsProgramRefusal (Err why) refused
IsRefusalOf (ViewsDiffer v) refusal = refusal ≡ views_differ v
IsRefusalOf NoMemory refusal = ⊥

-- the code's refusal is that of the definition; running out of memory says nothing
abbrev pub IsRefusedHub : {X : Type 0} → Result X HubRefusal → HubRefused → Type 0
IsRefusedHub outcome NoMemory = Unit {0}
IsRefusedHub outcome refused = (refusal : HubRefusal) × (outcome ≡ Err refusal) × IsRefusalOf refused refusal

-- the refusal of a view has a line: running out of memory has none
abbrev pub HasRefusalLine : HubRefused → Type 0
HasRefusalLine (InView v refused) = IsKnown refused
HasRefusalLine _ = Unit {0}

-- a form has this left type, if there is one
abbrev pub HasLeft : Option TyTree → FormTree → Type 0
HasLeft None form = Unit {0}
HasLeft (Some ty) form = left_type form ≡ ty

-- all forms are typed
abbrev pub AllTyped : List FormTree → Type 0
AllTyped [] = Unit {0}
AllTyped (form ∷ forms) = IsTrue (is_typed form) × AllTyped forms
