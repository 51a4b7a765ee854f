-- For the helpers of `import`: which lines of a journal part were found, and the document of them.
use Rattle.std.specs.Prelude.{◌≡◌, ℕ, ◌+◌, ◌≤◌, List, [], ◌∷◌, ◌++◌, length, Option, Some, None, Result, Err}
use Rattle.std.specs.Prelude.{if◌then◌else◌, option_to_list}
use Rattle.doc_values.specs.Documents.{DocTree}
use Rattle.doc_values.specs.Types.{TyTree}
use Rattle.edit_journal.specs.Lines.{is_blank}
use Rattle.edit_journal.specs.Pieces.{FedLines, fed, last_line}
use Rattle.edit_journal.specs.declared.line.Line.{Line}
use Rattle.lens_io.specs.Calls.{Took, IsRead}
use Rattle.lens_io.specs.declared.failed.TakeFault.{TakeFault}
use Rattle.lens_io.specs.declared.source.Source as OfSource
use Rattle.script_input.specs.Taking.{TakenInput, StopsAt}
use Rattle.script_input.specs.declared.limits.TheConstants.{MOST_BYTES}
use Rattle.store_new.specs.Import.{document_of_line}
use Rattle.store_new.specs.declared.document.DocumentFault.{DocumentFault}
use Rattle.store_new.specs.declared.document.DocumentFault.TheVariants.{Refused, NoMemory}
use Rattle.store_new.specs.declared.document.Found.{Found}
use Rattle.store_new.specs.declared.document.Found.TheVariants.{Nothing, One, More}
use Rattle.store_new.specs.declared.refused.ImportRefusal.{ImportRefusal}
use Rattle.store_new.specs.declared.refused.ImportRefusal.TheVariants.{NoDocument, ExtraLine}

-- ---- the lines

-- one more line that is not blank
abbrev pub one_more : Found → Line → Found
one_more Nothing line = One line
one_more (One first) line = More
one_more More line = More

-- one more line
abbrev pub added : Found → Line → Found
added found line = if is_blank line then found else one_more found line

abbrev pub added_all : Found → List Line → Found
added_all found [] = found
added_all found (line ∷ lines) = added_all (added found line) lines

abbrev pub added_last : Found → Option Line → Found
added_last found (Some line) = added found line
added_last found None = found

-- all lines that were fed, and the last one
abbrev pub all_fed : FedLines → List Line
all_fed lines = lines.ended ++ option_to_list (last_line lines.begun)

module _ {S : Type 0} (source : OfSource.Ghosts S) (old new : S) (input : TakenInput) where
  -- The rest of the input was read, up to the end. Its lines behind those that the input had were added.
  pub record FindsRest (found : Found) : Type 0 where
    pub more : List ℕ
    pub took : Took source old new more
    pub read : IsRead source old new
    pub within : input.taken + length more ≤ MOST_BYTES
    pub is : found ≡ added_all Nothing (all_fed (fed input.lines more))

  -- the reading of the rest stopped
  pub record StopsRest (fault : TakeFault) : Type 0 where
    pub more : List ℕ
    pub took : Took source old new more
    pub at_most : input.taken + length more ≤ MOST_BYTES + 1
    pub stops : StopsAt (input.taken + length more) fault

-- ---- the document

-- the document of the lines that are not blank
abbrev pub document_of_found : TyTree → Found → Result DocTree ImportRefusal
document_of_found ty Nothing = Err NoDocument
document_of_found ty (One line) = document_of_line ty line
document_of_found ty More = Err ExtraLine

-- it is refused for this reason; running out of memory says nothing
abbrev pub IsDocumentFault : Result DocTree ImportRefusal → DocumentFault → Type 0
IsDocumentFault wanted (Refused refusal) = wanted ≡ Err refusal
IsDocumentFault wanted NoMemory = Unit {0}
