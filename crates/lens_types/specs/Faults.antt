-- What a refusal says: the first failure, or nothing where memory ran out.
use Rattle.std.specs.Prelude.{◌≡◌, Option, Some, None}
use Rattle.doc_values.specs.Types.{ty_tree}
use Rattle.lens_types.specs.Checking.{Failure, middle_differs, repeated_field, repeated_tag, repeated_member}
use Rattle.lens_types.specs.Checking.{not_a_member, too_large, too_deep}
use Rattle.lens_types.specs.declared.fault.TypeFault.{TypeFault}
use Rattle.lens_types.specs.declared.fault.TypeFault.TheVariants.{MiddleDiffers, RepeatedField, RepeatedTag}
use Rattle.lens_types.specs.declared.fault.TypeFault.TheVariants.{RepeatedMember, NotAMember, TooLarge, TooDeep}
use Rattle.lens_types.specs.declared.fault.TypeFault.TheVariants.{NoMemory}

-- the fault says which failure was found first, with its types or its name
abbrev pub IsFaultOf : Option Failure → TypeFault → Type 0
IsFaultOf found (MiddleDiffers left right) = found ≡ Some (middle_differs (ty_tree left) (ty_tree right))
IsFaultOf found (RepeatedField name) = found ≡ Some (repeated_field name)
IsFaultOf found (RepeatedTag name) = found ≡ Some (repeated_tag name)
IsFaultOf found (RepeatedMember name) = found ≡ Some (repeated_member name)
IsFaultOf found (NotAMember name) = found ≡ Some (not_a_member name)
IsFaultOf found TooLarge = found ≡ Some too_large
IsFaultOf found TooDeep = found ≡ Some too_deep
IsFaultOf found NoMemory = Unit {0}

-- the failure that a fault says; running out of memory says none
abbrev pub failure_of : TypeFault → Option Failure
failure_of (MiddleDiffers left right) = Some (middle_differs (ty_tree left) (ty_tree right))
failure_of (RepeatedField name) = Some (repeated_field name)
failure_of (RepeatedTag name) = Some (repeated_tag name)
failure_of (RepeatedMember name) = Some (repeated_member name)
failure_of (NotAMember name) = Some (not_a_member name)
failure_of TooLarge = Some too_large
failure_of TooDeep = Some too_deep
failure_of NoMemory = None
