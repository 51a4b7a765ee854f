-- What the root of a tree owns: what a box that holds an owner of the tree owns. The main definitions are `root_owns`
-- and `root_shares`.
use Rattle.std.specs.Prelude.{List}
use base.Fml.{Fml, Lft}
use base.Stored.{Coded, coded×, coded_list, coded_via}
use denote.RattleType.{RattleType}
use denote.RawPtr.{Ptr, coded_ptr}
use denote.Struct.Lending.{lent_at}
use Rattle.std.specs.Box.Ownership.{box_owns}
use Rattle.std.specs.declared.alloc.Global.{Global}
use Rattle.std.specs.contracts.alloc.Global as heap
use Rattle.std.specs.contracts.impls.GlobalAllocator.TheImpl.{ghosts}
use Rattle.std.specs.declared.rc.Rc.{Rc}
use Rattle.std.specs.contracts.rc.Rc as rc
use Rattle.shared_lists.specs.contracts.tree.Tree as tree

-- an owner of a tree, which is seen as its items
abbrev pub Owner : Type 0 → Type 0
Owner X = Rc (List X) Global

-- what is known of such an owner in memory
abbrev pub owner_row : RattleType → RattleType
owner_row R = rc.the_row (tree.the_row R) heap.the_row ghosts

-- the block at the pointer, with the owner in it and the right to free the block
abbrev pub root_owns : (R : RattleType) → Global → Ptr → Owner R.Denot → Fml
root_owns R alloc = box_owns (ghosts.dealloc_token alloc) (owner_row R)

-- a shared loan of the block
abbrev pub root_shares : (R : RattleType) → Ptr → Owner R.Denot → Lft → Fml
root_shares R = lent_at (owner_row R)

-- an owner is stored as its pointer and its items
abbrev pub owner_coded : {X : Type 0} → Coded X → Coded (Owner X)
owner_coded c =
    coded_via (coded× coded_ptr (coded_list c)) (λ r. (r.ptr, r.value))
    (λ x y e i. record { ptr = (e i).0; value = (e i).1 })
