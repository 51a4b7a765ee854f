-- A root and the parts of a box own what a box at the same types owns.
use mir.Syntax.{impl, tnil, dnil}
use mathlib.Core.List.{[]}
use denote.RattleType.{RattleType}
use denote.Param.{param}
use denote.Param.Laws.{Laws, param_laws}
use denote.Signature.{Slot, plain}
use Rattle.std_alloc.proofs.BoxSteps.Form.{Bx}
use Rattle.std.specs.contracts.alloc.Global as Heap
use Rattle.std.specs.contracts.impls.GlobalAllocator.TheImpl.{ghosts, dict}
use Rattle.std.proofs.alloc.Global.TheLaws as heap
use Rattle.std.proofs.rc.Rc.TheLaws as rc
use Rattle.shared_lists.proofs.tree.Tree.TheLaws as tree
use Rattle.shared_lists.specs.RootMemory.{owner_row}
use Rattle.shared_lists.specs.contracts.tree.Tree.{the_row}
use Rattle.shared_lists.specs.contracts.root.parts.BoxParts as Parts
use Rattle.shared_lists.specs.contracts.root.Root as Root

pub root_laws : (R : RattleType) → Laws R → Laws (owner_row R)
root_laws R L = rc.the_row_laws (the_row R) Heap.the_row ghosts (tree.the_row_laws R L) heap.the_row_laws

module _ (T : RattleType) (L : Laws T) where
  abbrev pub E : Bx
  E = record { row = owner_row (param 0 T); laws = root_laws (param 0 T) (param_laws 0 T L); al = record { row = Heap.the_row; laws = heap.the_row_laws; g = ghosts; d = dict; drops = impl [] tnil dnil } }

  abbrev pub FromParts : Slot 1
  FromParts = plain (λ _. Parts.the_row (owner_row (param 0 T)) Heap.the_row ghosts)

  abbrev pub FromRoot : Slot 1
  FromRoot = plain (λ _. Root.the_row (param 0 T))
