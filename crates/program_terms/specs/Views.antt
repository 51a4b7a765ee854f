-- How contracts see the values of programs: as their trees.
-- The main definitions are `type_tree`, `lens_tree` and, at the end, `program_tree`; a definition whose name ends in
-- `_step` is one level of them.
use Rattle.std.specs.Prelude.{ℕ, List, map}
use Rattle.program_terms.specs.Terms.{TypeTree, TermFields, unit, bool, int, text, enum_of, record_of, one_of, list}
use Rattle.program_terms.specs.Terms.{keyed, tree, named, term_fields_of, LensTree, RowTree, TermRows, TermArms, id_of}
use Rattle.program_terms.specs.Terms.{bij_of, disc_of, then_of, rec_lens, alt_lens, each_of, keyed_each, tree_each}
use Rattle.program_terms.specs.Terms.{part_of, inv_of, named_lens, row_both, row_left, row_right, term_rows_of}
use Rattle.program_terms.specs.Terms.{term_arms_of, DefTree, type_def, lens_def, ProgramTree}
use Rattle.program_terms.specs.declared.types.TyExpr.{TyExpr, fold-TyExpr}
use Rattle.program_terms.specs.declared.types.TyFields.{TyFields, fold-TyFields}
use Rattle.program_terms.specs.declared.types.TyExpr.TheOpen.{TyExpr-F, TyFields-F}
use Rattle.program_terms.specs.declared.lens.Lens.{Lens, fold-Lens}
use Rattle.program_terms.specs.declared.lens.Row.{Row, fold-Row}
use Rattle.program_terms.specs.declared.lens.Rows.{Rows, fold-Rows}
use Rattle.program_terms.specs.declared.lens.Arms.{Arms, fold-Arms}
use Rattle.program_terms.specs.declared.lens.Lens.TheOpen.{Lens-F, Row-F, Rows-F, Arms-F}
use Rattle.program_terms.specs.declared.definitions.Def.{Def}
use Rattle.program_terms.specs.declared.definitions.Def.TheVariants.{OfType, OfLens}
use Rattle.program_terms.specs.declared.definitions.Definitions.{Definitions}
use Rattle.program_terms.specs.declared.program.Program.{Program}

-- ---- types

-- one level of a `TyExpr` and of a `TyFields`, each type inside already seen as its tree
abbrev pub type_step : TyExpr-F TypeTree TermFields → TypeTree
type_step TyExpr-F.Unit = unit
type_step TyExpr-F.Bool = bool
type_step (TyExpr-F.Int number) = int number
type_step (TyExpr-F.Text s) = text s
type_step (TyExpr-F.Enum members name) = enum_of members name
type_step (TyExpr-F.Rec fs) = record_of fs
type_step (TyExpr-F.Alt fs) = one_of fs
type_step (TyExpr-F.List t) = list t.value
type_step (TyExpr-F.Keyed t) = keyed t.value
type_step (TyExpr-F.Tree t) = tree t.value
type_step (TyExpr-F.Named n) = named n

abbrev pub fields_step : TyFields-F TypeTree TermFields → TermFields
fields_step fs = term_fields_of fs.items.items

-- the tree of a `TyExpr`, and the trees of a `TyFields`
abbrev pub type_tree : TyExpr → TypeTree
type_tree = fold-TyExpr TypeTree TermFields type_step fields_step

abbrev pub fields_tree : TyFields → TermFields
fields_tree = fold-TyFields TypeTree TermFields type_step fields_step

-- a name with the tree of its type
abbrev pub field_tree : List ℕ × TyExpr → List ℕ × TypeTree
field_tree f = (f.0, type_tree f.1)

-- ---- lenses

-- one level of a `Lens`, a `Row`, a `Rows` and an `Arms`, each lens inside already seen as its tree
abbrev pub lens_step : Lens-F LensTree RowTree TermArms TermRows → LensTree
lens_step (Lens-F.Id t) = id_of (type_tree t)
lens_step (Lens-F.Bij pairs name) = bij_of pairs name
lens_step (Lens-F.Disc t u) = disc_of (type_tree t) (type_tree u)
lens_step (Lens-F.Then l k) = then_of l.value k.value
lens_step (Lens-F.Rec rows) = rec_lens rows
lens_step (Lens-F.Alt arms) = alt_lens arms
lens_step (Lens-F.Each l) = each_of l.value
lens_step (Lens-F.Keyed l) = keyed_each l.value
lens_step (Lens-F.Tree l) = tree_each l.value
lens_step (Lens-F.Part fs) = part_of (fields_tree fs)
lens_step (Lens-F.Inv l) = inv_of l.value
lens_step (Lens-F.Named n) = named_lens n

abbrev pub row_step : Row-F LensTree RowTree TermArms TermRows → RowTree
row_step (Row-F.Both a b l) = row_both a b l
row_step (Row-F.OnlyLeft a t) = row_left a (type_tree t)
row_step (Row-F.OnlyRight a t) = row_right a (type_tree t)

abbrev pub rows_step : Rows-F LensTree RowTree TermArms TermRows → TermRows
rows_step rows = term_rows_of rows.items.items

abbrev pub arms_step : Arms-F LensTree RowTree TermArms TermRows → TermArms
arms_step arms = term_arms_of arms.items.items

-- the tree of a `Lens`, the tree of a `Row`, the trees of a `Rows` and of an `Arms`
abbrev pub lens_tree : Lens → LensTree
lens_tree = fold-Lens LensTree RowTree TermArms TermRows lens_step row_step arms_step rows_step

abbrev pub row_tree : Row → RowTree
row_tree = fold-Row LensTree RowTree TermArms TermRows lens_step row_step arms_step rows_step

abbrev pub rows_tree : Rows → TermRows
rows_tree = fold-Rows LensTree RowTree TermArms TermRows lens_step row_step arms_step rows_step

abbrev pub arms_tree : Arms → TermArms
arms_tree = fold-Arms LensTree RowTree TermArms TermRows lens_step row_step arms_step rows_step

-- the two tags of an arm with the tree of its lens
abbrev pub arm_tree : List ℕ × List ℕ × Lens → List ℕ × List ℕ × LensTree
arm_tree a = (a.0, a.1, lens_tree a.2)

-- ---- definitions and programs

-- what a name is defined as
abbrev pub def_tree : Def → DefTree
def_tree (OfType t) = type_def (type_tree t)
def_tree (OfLens l) = lens_def (lens_tree l)

-- a name with the tree of what it is defined as
abbrev pub definition_tree : List ℕ × Def → List ℕ × DefTree
definition_tree d = (d.0, def_tree d.1)

-- the names in written order, each with what it is defined as
abbrev pub definitions_tree : Definitions → List (List ℕ × DefTree)
definitions_tree ds = map definition_tree ds.entries.entries

-- the definitions and the main lens
abbrev pub program_tree : Program → ProgramTree
program_tree p = record { definitions = definitions_tree p.definitions; main = lens_tree p.main }
