-- A number's value as contracts see it.
use Rattle.file_patches.specs.declared.numbers.Value.{Value}
use Rattle.file_patches.specs.Numbers.{NumberValue}

abbrev pub value_view : Value → NumberValue
value_view v = record { is_below_zero = v.is_below_zero; digits = v.digits.items; point = v.point }
