-- `editlens_hub_open` meets its contract: a walk of its MIR by hand. At null nothing is done. Else the slot is lent to `opened` for a lifetime
-- that is made for the call, and comes back at its last value.
use Rattle.std.proofs.Common.{◌≡◌, ℕ, List, [], ◌∷◌, ◌++◌, refl, subst, lit<}
use Rattle.std.proofs.raw_atomic.Walks.{proved}
use mir.Syntax.{named, w8, w32, w64}
use mir.Val.{Val, vptr, vint}
use base.Fraction.{full_share}
use base.Logic.{id⊢}
use base.Fml.{GName, ftrue, fsep, fex, flft, flent}
use prog.Wp.{WpFn}
use types.SemTy.{Body}
use types.Kit.{‵, raw, ◌⊛◌, some, later, prop, at_ret, ◌$◌, ◌∵◌, !, qed, move, keep, drop, use1, use2, use3, split, join, fsplit, fjoin, fpack, pick, await, regoal, suffices, group, done}
use types.Tokens.{lft_new, lft_end}
use types.Run.{of_opd, bin, lit, addr, stop, no_more, and_then, first, blocks, branches, skips, exec, returns, returns_within, enter}
use types.ByLocal.{alloc_all, pass_all, free_all, look_at, get, through, sets, sets_last, lands_as, env}
use contract.Monad.{fact}
use contract.Running.{tables}
use denote.Exit.{yes}
use denote.Builtin.{u32, u8, SliceRefOf}
use denote.Laws.{Is, shows}
use denote.Lend.{lends_ref, ref_back}
use denote.Memory.{mem}
use denote.Plain.{uint_vals, uint_Tells, uint_Makes, uint_Lawful}
use denote.RawPtr.{Ptr, RawPtr, block_ptr, null_ptr, lies_at, Testable, tests_null, rawptr_vals, rawptr_Tells}
use denote.Ref.{MutBor, MutRef, mut_vals}
use denote.Signature.{plain}
use denote.Slice.{ShrSlice, shr_slice_vals, shr_slice_Tells}
use denote.Steps.{nothing, heard, owned, peeks}
use denote.Triple.Call.{calls_at}
use denote.Triple.Clauses.{Lasts, lasts}
use denote.Triple.Spec.{triple_of}
use denote.Triple.Table.{framed}
use denote.Triple.Walked.{Stays, stay_dropped, walk_of, Goes-dropped, ends_at}
use Rattle.std_heap.specs.declared.Global.{Global}
use Rattle.std_heap.specs.contracts.Global.{the_row as Heap}
use Rattle.std_heap.proofs.Global.TheLaws as heap
use Rattle.editlens_c.proofs.Pointers.{by_pointer}
use Rattle.editlens_c.specs.declared.hub_slot.HubSlot.{HubSlot}
use Rattle.editlens_c.specs.contracts.hub_slot.HubSlot.{the_row as R}
use Rattle.editlens_c.specs.HubKeeping.{hub_slot_at, HubOpens}
use Rattle.editlens_c.specs.declared.codes.TheConstants as code_of
use Rattle.editlens_c.specs.contracts.hubs.editlens_hub_open as f
use Rattle.editlens_c.specs.contracts.hubs.opened as g
use Rattle.editlens_c.proofs.hubs.opened.Met.{met}
use Rattle.editlens_c.proofs.hubs.editlens_hub_open.Statement.{statement}
use Rattle.editlens_c.proofs.hubs.editlens_hub_open.Code as code

abbrev stayed : Stays f.ended.signature.params f.ended.kept
stayed = (stay_dropped _ yes, (stay_dropped _ yes, (stay_dropped _ yes, tt)))

abbrev heap_vals : Global → List Val
heap_vals h = heap.lowers.lowered h ∷ []

pub editlens_hub_open_spec : {M : Type 1} → statement M
editlens_hub_open_spec 𝓤 𝓛 𝓜 𝓡 wired =
    let c = f.clauses 𝓛 𝓜.mem 𝓡.returns in let W = walk_of 𝓛 f.ended stayed c in let 𝓣 = tables 𝓤 𝓛.H 𝓜 𝓡 𝓡.env in
    proved 𝓛 f.ended stayed c 𝓜 𝓡
    (Goes-dropped 𝓛 1 (plain (λ _. Heap)) yes (λ κs x w. refl), (Goes-dropped 𝓛 1 (plain (λ _. RawPtr)) yes (λ κs x w. refl), (Goes-dropped 𝓛 1 (SliceRefOf (0 ∷ []) tt (plain (λ _. u8)) (λ _. tt)) yes (λ κs x w. refl), tt)))
    f.Key.name code.function (code.unfolded 𝓤 𝓛.H 𝓜 𝓡 wired)
    (λ κs. (heap_vals, (rawptr_vals, (shr_slice_vals, tt)))) (λ κs. (heap.lowers.val_is, (rawptr_Tells, (shr_slice_Tells (named 0) κs.0 u8, tt)))) (λ κs qs bounds a s are.
    let h = a.0 in let hv = heap_vals h in let fits = ((heap.the_row_laws.lawful 𝓛).typed h hv are.0).0 in
    let programs = a.1.1.0 in let v0 = shr_slice_vals programs in
    let y : Ptr → W.Ghost = λ p. ((κs, qs, bounds, (h, (p, (programs, tt))), (hv, (rawptr_vals p, (v0, tt)))), s) in
    qed 𝓛 (((‵ (flft κs.0 qs.0) ⊛ ‵ ftrue) ⊛ ‵ (Heap.own_val h hv) ⊛ ‵ (RawPtr.own_val a.1.0 (rawptr_vals a.1.0)) ⊛ ‵ ((ShrSlice (named 0) κs.0 u8).own_val programs v0) ⊛ ‵ ftrue) ∷ (raw (fact 𝓤 (Testable a.1.0)) ⊛ ‵ (hub_slot_at a.1.0 s)) ∷ []) ∵ move ! (1 ∷ []) $ split ! $ heard ! _ (λ may.
    by_pointer ! a.1.0 (λ p. hub_slot_at p s)
    (λ e. regoal ! (λ p. prop (WpFn 𝓤 𝓛.H 𝓣.C 𝓣.Λ code.function (hv ++ (rawptr_vals p ++ v0)) (W.post (y p)))) e refl $
    -- [the slot; the tokens and what the parameters own]
    move ! (1 ∷ []) $ split ! $ move ! (1 ∷ []) $ split ! $ move ! (1 ∷ []) $ split ! $ drop ! $ keep ! (2 ∷ []) $
    -- [the tokens]
    enter ! _ _ _ _ _ $ alloc_all ! (λ l. pass_all ! refl (fits, ((tt, record { fits = lit< tt }), ((tt, (tt, (record { fits = are.1.1.0.0.1.0 }, tt))), tt))) $
    sets ! (of_opd ! (get ! refl)) refl (tt, record { fits = lit< tt }) $
    sets ! (bin ! (get ! refl) (lit ! tt) (tests_null null_ptr (subst Testable e may))) refl (tt, tt) $
    first ! $ branches ! (get ! refl) (λ t. sets ! (of_opd ! (lit ! tt)) refl (tt, record { fits = lit< tt }) $
    returns_within ! (W.post (y null_ptr)) refl (look_at ! 0 refl) $ free_all ! refl $
    -- [the tokens]
    nothing ! $ fpack ! (code_of.NOT_OPEN ≡ code_of.NOT_OPEN) (λ _. ftrue) refl $
    suffices ! _ (ends_at 𝓛 f.ended stayed c (y null_ptr) (vint w32 13) 13 (tt, (tt, (tt, tt))) (tt, (tt, (tt, tt)))) $
    owned ! u32 _ (uint_Makes 𝓛 w32) 13 _ (refl, lit< tt) $
    move ! (2 ∷ 0 ∷ []) $ nothing ! $ nothing ! $ join ! $ nothing ! $ join ! $ nothing ! $ join ! $ move ! (1 ∷ 0 ∷ []) $ group ! 3 $ done !)
    (λ t. absurd t)))
    (λ b o e. regoal ! (λ p. prop (WpFn 𝓤 𝓛.H 𝓣.C 𝓣.Λ code.function (hv ++ (rawptr_vals p ++ v0)) (W.post (y p)))) e refl $
    move ! (1 ∷ []) $ split ! $ move ! (1 ∷ []) $ split ! $ move ! (1 ∷ []) $ split ! $ drop ! $
    -- [the others; what the heap owns; the tokens; the slot]
    enter ! _ _ _ _ _ $ alloc_all ! (λ l. pass_all ! refl (fits, ((tt, tt), ((tt, (tt, (record { fits = are.1.1.0.0.1.0 }, tt))), tt))) $
    sets ! (of_opd ! (get ! refl)) refl (tt, tt) $
    sets ! (bin ! (get ! refl) (lit ! tt) (tests_null (block_ptr b o) (subst Testable e may))) refl (tt, tt) $
    first ! $ branches ! (get ! refl) (λ t. absurd t) (λ t. skips ! $
    exec ! 𝓣.C 𝓣.Λ (env code.Mir.locals l) code.Mir.t-4 (at_ret (env code.Mir.locals l) (W.post (y (block_ptr b o)))) $
    sets ! (of_opd ! (get ! refl)) refl fits $ first ! $ blocks ! $ sets ! (of_opd ! (get ! refl)) refl (tt, tt) $ sets ! (of_opd ! (get ! refl)) refl (tt, tt) $
    sets_last ! (addr ! (through ! refl (stop !))) refl (tt, tt) $
    exec ! 𝓣.C 𝓣.Λ (env code.Mir.locals l) code.Mir.t-6 (at_ret (env code.Mir.locals l) (W.post (y (block_ptr b o)))) $
    sets ! (of_opd ! (get ! refl)) refl (tt, tt) $ sets ! (of_opd ! (get ! refl)) refl (tt, (tt, (record { fits = are.1.1.0.0.1.0 }, tt))) $
    lft_new ! tt (λ α. move ! (4 ∷ []) $
    use1 𝓛 (later (some (λ (δ : GName). ‵ ((MutRef (named 0) (α ∷ []) R).own_val (record { ref_ptr = (b, o); ghost_name = δ; now = s }) (vptr b o ∷ [])) ⊛ ‵ (flent (α ∷ []) (Body (mem R) b o δ)))))
    (lends_ref 𝓛 R (named 0) (α ∷ []) s b o) $ await ! tt $ pick ! (λ δ. split ! $
    -- [the loan; the lender's part; the token of α; the others; what the heap owns; the tokens]
    let G = triple_of 𝓛 g.signature (g.spec 𝓛 𝓜.mem 𝓡.returns) in
    let lent : MutBor HubSlot = record { ref_ptr = (b, o); ghost_name = δ; now = s } in
    let z : G.Ghost = (((α ∷ [], κs), (full_share, qs), tt, (h, (lent, (programs, tt))), (hv, (mut_vals lent, (v0, tt)))), tt) in
    move ! (0 ∷ 3 ∷ []) $ join ! $ move ! (3 ∷ 0 ∷ []) $ join ! $ move ! (2 ∷ 3 ∷ 0 ∷ []) $ join ! $ join ! $
    nothing ! $ move ! (1 ∷ 0 ∷ []) $ use2 𝓛 (raw (G.pre z)) (id⊢ 𝓤 _) $
    calls_at ! (framed 𝓤 𝓛.H 𝓜 𝓣) G (met 𝓤 𝓛 𝓜 𝓡 (code.calls-editlens_c::hubs::opened 𝓡.env wired)) z (and_then ! (get ! refl) (and_then ! (get ! refl) (and_then ! (get ! refl) (no_more !)))) (λ v.
    use1 𝓛 (later (some (λ (r : ℕ). ((‵ (flft (α ∷ []) full_share) ⊛ ‵ (flft κs.0 qs.0) ⊛ ‵ ftrue) ⊛ ‵ (u32.own_val r (v ∷ []))) ⊛
    some (λ (ws : Lasts g.ended z.0.0 z.0.3). ‵ (lasts g.ended z.0.0 z.0.3 ws) ⊛ raw (fact 𝓤 (HubOpens s programs.now r ws.1.0)))))) (id⊢ 𝓤 _) $
    await ! tt $ pick ! (λ r. split ! $ split ! $ split ! $ lft_end ! tt $
    -- [α is over; the tokens; the result; the last values; the lender's part]
    move ! (3 ∷ []) $ pick ! (λ ws. split ! $ move ! (1 ∷ []) $ heard ! _ (λ told. fsplit ! $ drop ! $ fsplit ! $ fsplit ! $
    -- [the loan's last value; its borrow; nothing; α is over; the tokens; the result; the lender's part]
    move ! (3 ∷ 6 ∷ 0 ∷ []) $ use3 𝓛 (later (‵ ((mem R).own_at ws.1.0 b o))) (ref_back 𝓛 R (α ∷ []) δ ws.1.0 b o) $ await ! tt $
    -- [the slot; the borrow; nothing; the tokens; the result]
    move ! (4 ∷ []) $ peeks ! u32 (Is u32) (shows 𝓛 u32) r (v ∷ []) (λ is. lands_as ! refl refl ((uint_Lawful 𝓛 w32).typed r _ is).0 $
    returns ! (look_at ! 0 refl) $ free_all ! refl $ keep ! (1 ∷ 4 ∷ 0 ∷ []) $
    -- [the slot; the tokens; the result]
    nothing ! $ fpack ! (HubOpens s programs.now r ws.1.0) (λ _. ftrue) told $ fjoin ! $
    fpack ! HubSlot (λ (x : HubSlot). fsep (fex (HubOpens s programs.now r x) (λ _. ftrue)) (lies_at R full_share (block_ptr b o) x)) ws.1.0 $
    suffices ! _ (ends_at 𝓛 f.ended stayed c (y (block_ptr b o)) v r (tt, (tt, (tt, tt))) (tt, (tt, (tt, tt)))) $
    move ! (1 ∷ 2 ∷ []) $ nothing ! $ nothing ! $ join ! $ nothing ! $ join ! $ nothing ! $ join ! $ move ! (1 ∷ 0 ∷ []) $ group ! 3 $ done !))))))))))))
