-- The lines of a journal part that are not blank, as they are found one after another.
use Rattle.std.proofs.Common.{◌≡◌, Bool, true, false, cond, List, [], ◌∷◌, ◌++◌, Option, Some, None, refl, ap}
use Rattle.std.specs.Prelude.{option_to_list}
use Rattle.doc_values.specs.Types.{TyTree}
use Rattle.edit_journal.specs.Lines.{is_blank}
use Rattle.edit_journal.specs.declared.line.Line.{Line}
use Rattle.store_new.specs.Found.{one_more, added, added_all, added_last, document_of_found}
use Rattle.store_new.specs.Import.{full_lines, document_of_lines}
use Rattle.store_new.specs.declared.document.Found.{Found}
use Rattle.store_new.specs.declared.document.Found.TheVariants.{Nothing, One, More}

pub added_joined : (found : Found) (front rest : List Line) → added_all found (front ++ rest) ≡ added_all (added_all found front) rest
added_joined found [] rest = refl
added_joined found (line ∷ front) rest = added_joined (added found line) front rest

pub added_at_last : (found : Found) (last : Option Line) → added_last found last ≡ added_all found (option_to_list last)
added_at_last found (Some line) = refl
added_at_last found None = refl

-- more than one line stays so
more_stays : (lines : List Line) → added_all More lines ≡ More
more_stays [] = refl
more_stays (line ∷ lines) = by_test (is_blank line) (more_stays lines) where
  by_test : (b : Bool) → added_all More lines ≡ More → added_all (cond b More (one_more More line)) lines ≡ More
  by_test true stays = stays
  by_test false stays = stays

-- ---- the document of the lines that were found is that of the lines that are not blank

document_behind_one : (ty : TyTree) (first : Line) (lines : List Line) → document_of_found ty (added_all (One first) lines) ≡ document_of_lines ty (first ∷ full_lines lines)
document_behind_one ty first [] = refl
document_behind_one ty first (line ∷ lines) = by_test (is_blank line) (document_behind_one ty first lines) where
  by_test : (b : Bool) → document_of_found ty (added_all (One first) lines) ≡ document_of_lines ty (first ∷ full_lines lines)
      → document_of_found ty (added_all (cond b (One first) (one_more (One first) line)) lines) ≡ document_of_lines ty (first ∷ cond b (full_lines lines) (line ∷ full_lines lines))
  by_test true behind = behind
  by_test false behind = ap (document_of_found ty) (more_stays lines)

pub document_found : (ty : TyTree) (lines : List Line) → document_of_found ty (added_all Nothing lines) ≡ document_of_lines ty (full_lines lines)
document_found ty [] = refl
document_found ty (line ∷ lines) = by_test (is_blank line) (document_found ty lines) where
  by_test : (b : Bool) → document_of_found ty (added_all Nothing lines) ≡ document_of_lines ty (full_lines lines)
      → document_of_found ty (added_all (cond b Nothing (one_more Nothing line)) lines) ≡ document_of_lines ty (cond b (full_lines lines) (line ∷ full_lines lines))
  by_test true found = found
  by_test false found = document_behind_one ty line lines
