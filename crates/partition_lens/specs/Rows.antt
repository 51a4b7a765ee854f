-- How contracts see what a row of a partition gives, and why it gives nothing.
use Rattle.std.specs.Prelude.{◌≡◌, Option, None}
use Rattle.edit_module.specs.Views.{word_tree}
use Rattle.lens_core.specs.declared.carry.CarryFault.{CarryFault}
use Rattle.lens_core.specs.declared.carry.CarryFault.TheVariants.{Unfit, NoMemory}
use Rattle.lens_core.specs.Partition.{Parted}
use Rattle.partition_lens.specs.declared.row.Row.{Row}

-- the word and the tags of a row
abbrev pub row_of : Row → Parted
row_of r = (word_tree r.word, r.tags)

-- why a row gives nothing: Unfit where the definition has no value; running out of memory says nothing
abbrev pub IsRowFault : Option Parted → CarryFault → Type 0
IsRowFault parted Unfit = parted ≡ None
IsRowFault parted NoMemory = Unit {0}
