-- How a record translates one primitive: At of a field begins in the row of that field and finishes there.
-- In order: `begin_record`, `finish_record`; what is behind them is for the proofs.
use Rattle.std.specs.Prelude.{ℕ, zero, suc, ◌+◌, nat_eq, Bool, false, bytes_eq, if◌then◌else◌, List, [], ◌∷◌, Option}
use Rattle.std.specs.Prelude.{None, Some, option_map, option_and_then}
use Rattle.texts.specs.declared.side.Side.{Side}
use Rattle.texts.specs.declared.side.Side.TheVariants.{Left, Right}
use Rattle.edit_module.specs.Words.{PrimitiveTree, at, WordTree, no_primitives}
use Rattle.lens_forms.specs.Forms.{FormTree, RowTrees, FormRowTree, row_both, row_left, row_right, form_row_list}
use Rattle.lens_forms.specs.Forms.{row_tree}
use Rattle.lens_forms.specs.Forms.{paired_rows}
use Rattle.lens_core.specs.Complements.{CompTree, rec_comp, CompTrees, comp_count}
use Rattle.lens_core.specs.Emitted.{at_word}
use Rattle.lens_core.specs.Sides.{near, far}
use Rattle.lens_core.specs.Translation.{Translated, translate, comp_at, put_comp}
use Rattle.lens_branch.specs.declared.record.FoundRow.{FoundRow}
use Rattle.lens_core.specs.Beginnings.{Beginning, finished, inside}

-- ---- the row of a field

-- the row has this field on this side
abbrev pub has_near : Side → List ℕ → FormRowTree → Bool
has_near side f (row_both a b l) = bytes_eq (near side a b) f
has_near Left f (row_left a t) = bytes_eq a f
has_near Right f (row_left a t) = false
has_near Left f (row_right b t) = false
has_near Right f (row_right b t) = bytes_eq b f

-- 1 for a paired row, which has a complement; 0 for a row of one side alone
abbrev pub pairs_of : FormRowTree → ℕ
pairs_of (row_both a b l) = 1
pairs_of (row_left a t) = 0
pairs_of (row_right b t) = 0

-- a row among rows: how many paired rows are before it, and the row
pub record RowAt : Type 0 where
  pub pairs : ℕ
  pub row : FormRowTree

-- the same row behind more paired rows
abbrev pub row_behind : ℕ → RowAt → RowAt
row_behind k r = record { pairs = r.pairs + k; row = r.row }

-- the first row with this field on this side
abbrev pub row_of : List FormRowTree → Side → List ℕ → Option RowAt
row_of [] side f = None
row_of (r ∷ rows) side f =
    if has_near side f r then Some (record { pairs = 0; row = r })
    else option_map (row_behind (pairs_of r)) (row_of rows side f)

-- ---- beginning and finish

-- in a paired row its lens, the one with the number of the paired rows before it, translates the word; in a row of one
-- side alone the word is translated to the empty word
abbrev pub begin_row : CompTrees → WordTree → ℕ → FormRowTree → Beginning
begin_row cs u k (row_both a b l) = inside k (comp_at cs k) u
begin_row cs u k (row_left a t) = finished (no_primitives, rec_comp cs)
begin_row cs u k (row_right b t) = finished (no_primitives, rec_comp cs)

-- the beginning in a row that was found
abbrev pub begin_in : CompTrees → WordTree → RowAt → Beginning
begin_in cs u r = begin_row cs u r.pairs r.row

-- the beginning in a record with these complements, one for each paired row
abbrev pub begin_record : RowTrees → Side → CompTrees → PrimitiveTree → Option Beginning
begin_record rows side cs (at f u) =
    if nat_eq (comp_count cs) (paired_rows rows) then option_map (begin_in cs u) (row_of (form_row_list rows) side f)
    else None
begin_record rows side cs _ = None

-- the finish in a paired row: At of its far field, and its new complement in its place; a row of one side alone needs
-- none
abbrev pub finish_row : Side → CompTrees → Translated → ℕ → FormRowTree → Translated
finish_row side cs r k (row_both a b l) = (at_word (far side a b) r.0, rec_comp (put_comp cs k r.1))
finish_row side cs r k (row_left a t) = r
finish_row side cs r k (row_right b t) = r

abbrev pub finish_in : Side → CompTrees → Translated → Option RowAt → Translated
finish_in side cs r None = r
finish_in side cs r (Some q) = finish_row side cs r q.pairs q.row

-- the finish in a record, from what the lens inside translated; only after a beginning that needs it
abbrev pub finish_record : RowTrees → Side → CompTrees → PrimitiveTree → Translated → Translated
finish_record rows side cs (at f u) r = finish_in side cs r (row_of (form_row_list rows) side f)
finish_record rows side cs _ r = r

-- ---- the lens inside

-- the lens of the paired row of a number, which is counted from 0 among the paired rows
abbrev pub row_lens : List FormRowTree → ℕ → Option FormTree
row_lens [] i = None
row_lens (row_both a b l ∷ rows) zero = Some l
row_lens (row_both a b l ∷ rows) (suc i) = row_lens rows i
row_lens (row_left a t ∷ rows) i = row_lens rows i
row_lens (row_right b t ∷ rows) i = row_lens rows i

-- the translation by the lens of the paired row of a number
abbrev pub row_translation : RowTrees → Side → ℕ → CompTree → WordTree → Option Translated
row_translation rows side i c w = option_and_then (λ l. translate l side c w) (row_lens (form_row_list rows) i)

-- ---- how contracts see a `FoundRow`

abbrev pub row_seen : FoundRow → RowAt
row_seen r = record { pairs = r.pairs; row = row_tree r.row.now }
