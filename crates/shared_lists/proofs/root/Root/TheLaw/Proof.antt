-- A `&` to a root is made where one to its owner is.
use base.Fraction.{full_share}
use mathlib.Core.List.{[]}
use contract.BorrowLft.{⊑_meet, ⊑_static}
use denote.Memory.{lone}
use denote.RawPtr.{lies_at}
use denote.RattleType.{RattleType}
use denote.Shares.{Shares-less}
use denote.Param.Laws.{Laws}
use denote.Param.Shared.{copy_shared}
use denote.Struct.Field.{RawPtr-field}
use denote.Struct.Laws.{RawPtr-copy}
use denote.Struct.Lending.{lent_at, lent_at_shr_laws, Lends-lies, Lends-first, of_Lends}
use mir.Raw.{raw as bare}
use Rattle.std.specs.contracts.alloc.Global as Heap
use Rattle.std.specs.contracts.impls.GlobalAllocator.TheImpl.{ghosts}
use Rattle.std.proofs.alloc.Global.TheLaws as heap
use Rattle.shared_lists.specs.RootMemory.{owner_row}
use Rattle.shared_lists.proofs.AsBox.{root_laws}
use Rattle.shared_lists.specs.contracts.root.Root as C
use Rattle.shared_lists.proofs.root.Root.TheLaw.Statement.{statement}

pub shares : (T : RattleType) (L : Laws T) → statement T L
shares T L =
    let R = owner_row T in let K = root_laws T L in
    of_Lends (C.struct T) (C.the_codes T.Denot T.coded Heap.the_row.coded) (C.the_heap T) (C.the_lent T) (λ d p. lent_at_shr_laws R K.shr_laws d.pointer d.owner) (copy_shared RawPtr-field RawPtr-copy, (heap.the_field_shared, tt)) (λ M 𝓤 𝓛 d p.
    let l = (C.the_row T).lives in
    Lends-first 𝓛 (lies_at R full_share d.pointer d.owner) (ghosts.dealloc_token d.alloc (bare (lone R.mir)) d.pointer) (lent_at R d.pointer d.owner) l
    (Lends-lies 𝓛 R l d.pointer d.owner (Shares-less 𝓛 R R.lives l (⊑_meet l l [] (λ a m. m) (⊑_static l)) (K.shares 𝓛) d.owner)))
