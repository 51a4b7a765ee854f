-- What a refusal says of a file.
use Rattle.std.specs.Prelude.{◌≡◌, ℕ, List, None, IsSomeAnd}
use Rattle.std.specs.Str.{IsUtf8}
use Rattle.json.specs.Json.{document}
use Rattle.json.specs.Strict.{HasUniqueKeys}
use Rattle.file_trees.specs.declared.fault.FileFault.{FileFault}
use Rattle.file_trees.specs.declared.fault.FileFault.TheVariants.{NotUtf8, NotJson, NameTwice, NoMemory}

-- of a text: it is no JSON document, or it is one in which an object has a name twice
abbrev pub RefusesText : List ℕ → FileFault → Type 0
RefusesText text NotUtf8 = ⊥
RefusesText text NotJson = document text ≡ None
RefusesText text NameTwice = IsSomeAnd (document text) (λ j. ¬ HasUniqueKeys j)
RefusesText text NoMemory = Unit {0}

-- of bytes: they are no UTF-8, or they are a text that is refused; running out of memory says nothing
abbrev pub RefusesFile : List ℕ → FileFault → Type 0
RefusesFile bytes NotUtf8 = ¬ IsUtf8 bytes
RefusesFile bytes NotJson = IsUtf8 bytes × (document bytes ≡ None)
RefusesFile bytes NameTwice = IsUtf8 bytes × IsSomeAnd (document bytes) (λ j. ¬ HasUniqueKeys j)
RefusesFile bytes NoMemory = Unit {0}
