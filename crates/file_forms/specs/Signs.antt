-- The sorts and signs of `Slots`, as the enums of the code have them.
use Rattle.file_forms.specs.Slots.{Sort, truths, numbers, strings, arrays, objects, others, Sign, exactly, any_of}
use Rattle.file_forms.specs.declared.sort.Sort as code
use Rattle.file_forms.specs.declared.sort.Sort.TheVariants.{Truths, Numbers, Strings, Arrays, Objects, Others}
use Rattle.file_forms.specs.declared.sign.Sign as signs
use Rattle.file_forms.specs.declared.sign.Sign.TheVariants.{Exactly, AnyOf}

abbrev pub sort_view : code.Sort → Sort
sort_view Truths = truths
sort_view Numbers = numbers
sort_view Strings = strings
sort_view Arrays = arrays
sort_view Objects = objects
sort_view Others = others

abbrev pub sign_view : signs.Sign → Sign
sign_view (Exactly l) = exactly l.now
sign_view (AnyOf t) = any_of (sort_view t)
