-- `editlens_hub_status` meets its contract: a walk of its MIR by hand. At null `not_open` answers. Else the slot is lent to `told` for a lifetime
-- that is made for the call, and comes back at its last value.
use Rattle.std.proofs.Common.{◌≡◌, ℕ, List, [], ◌∷◌, ◌++◌, refl, subst, lit<}
use Rattle.std.proofs.raw_atomic.Walks.{proved}
use mir.Syntax.{named, w8, w32, w64}
use mir.Val.{Val, vptr, vint}
use base.Fraction.{full_share}
use base.Logic.{id⊢}
use base.Fml.{GName, ftrue, fsep, fex, flft, flent}
use prog.Wp.{WpFn}
use types.SemTy.{Body}
use types.Kit.{‵, raw, ◌⊛◌, some, later, prop, at_ret, ◌$◌, ◌∵◌, !, qed, move, keep, drop, use1, use2, use3, split, join, fsplit, fjoin, fpack, pick, await, regoal, suffices, group, done}
use types.Tokens.{lft_new, lft_end}
use types.Run.{of_opd, bin, lit, addr, stop, no_more, and_then, first, blocks, branches, skips, exec, returns, returns_within, enter}
use types.ByLocal.{alloc_all, pass_all, free_all, look_at, get, through, sets, sets_last, lands_as, env}
use contract.Monad.{fact}
use contract.Running.{tables}
use denote.Exit.{yes}
use denote.Laws.{Is, shows}
use denote.Lend.{lends_ref, ref_back}
use denote.Memory.{mem}
use denote.Plain.{uint_vals, uint_Tells, uint_Makes, uint_Lawful}
use denote.RawPtr.{Ptr, RawPtr, block_ptr, null_ptr, lies_at, Testable, tests_null, rawptr_vals, rawptr_Tells}
use denote.Ref.{MutBor, MutRef, mut_vals}
use denote.Signature.{plain}
use denote.Steps.{nothing, heard, owned, peeks}
use denote.Triple.Call.{calls_at}
use denote.Triple.Clauses.{Lasts, lasts}
use denote.Triple.Spec.{triple_of}
use denote.Triple.Table.{framed}
use denote.Triple.Walked.{Stays, stay_dropped, walk_of, Goes-dropped, ends_at}
use Rattle.editlens_c.proofs.Pointers.{by_pointer}
use Rattle.editlens_c.specs.declared.hub_slot.HubSlot.{HubSlot}
use Rattle.editlens_c.specs.contracts.hub_slot.HubSlot.{the_row as R}
use Rattle.editlens_c.specs.HubKeeping.{hub_slot_at, HubTells}
use Rattle.editlens_c.specs.Answers.{IsNotOpen}
use Rattle.editlens_c.specs.declared.answer.Answer.{Answer}
use Rattle.editlens_c.specs.contracts.answer.Answer.{the_row as Out}
use Rattle.editlens_c.proofs.answer.Answer.TheLaws as out
use Rattle.editlens_c.specs.contracts.answer.not_open as n
use Rattle.editlens_c.proofs.answer.not_open.Met.{met as nothing_met}
use Rattle.editlens_c.specs.contracts.hubs.editlens_hub_status as f
use Rattle.editlens_c.specs.contracts.hubs.told as g
use Rattle.editlens_c.proofs.hubs.told.Met.{met}
use Rattle.editlens_c.proofs.hubs.editlens_hub_status.Statement.{statement}
use Rattle.editlens_c.proofs.hubs.editlens_hub_status.Code as code

abbrev stayed : Stays f.ended.signature.params f.ended.kept
stayed = (stay_dropped _ yes, tt)

pub editlens_hub_status_spec : {M : Type 1} → statement M
editlens_hub_status_spec 𝓤 𝓛 𝓜 𝓡 wired =
    let c = f.clauses 𝓛 𝓜.mem 𝓡.returns in let W = walk_of 𝓛 f.ended stayed c in let 𝓣 = tables 𝓤 𝓛.H 𝓜 𝓡 𝓡.env in
    proved 𝓛 f.ended stayed c 𝓜 𝓡
    (Goes-dropped 𝓛 0 (plain (λ _. RawPtr)) yes (λ κs x w. refl), tt)
    f.Key.name code.function (code.unfolded 𝓤 𝓛.H 𝓜 𝓡 wired)
    (λ κs. (rawptr_vals, tt)) (λ κs. (rawptr_Tells, tt)) (λ κs qs bounds a s are.
    let y : Ptr → W.Ghost = λ p. ((κs, qs, bounds, (p, tt), (rawptr_vals p, tt)), s) in
    let N = triple_of 𝓛 n.signature (n.spec 𝓛 𝓜.mem 𝓡.returns) in let x : N.Ghost = ((tt, tt, tt, tt, tt), tt) in
    qed 𝓛 ((‵ ftrue ⊛ ‵ (RawPtr.own_val a.0 (rawptr_vals a.0)) ⊛ ‵ ftrue) ∷ (raw (fact 𝓤 (Testable a.0)) ⊛ ‵ (hub_slot_at a.0 s)) ∷ []) ∵ move ! (1 ∷ []) $ split ! $ heard ! _ (λ may.
    by_pointer ! a.0 (λ p. hub_slot_at p s)
    (λ e. regoal ! (λ p. prop (WpFn 𝓤 𝓛.H 𝓣.C 𝓣.Λ code.function (rawptr_vals p) (W.post (y p)))) e refl $
    -- [the slot; the tokens and what the parameters own]
    move ! (1 ∷ []) $ split ! $ move ! (1 ∷ []) $ split ! $ drop ! $ keep ! (1 ∷ []) $
    -- [the tokens]
    enter ! _ _ _ _ _ $ alloc_all ! (λ l. pass_all ! refl ((tt, record { fits = lit< tt }), tt) $
    sets ! (of_opd ! (get ! refl)) refl (tt, record { fits = lit< tt }) $
    sets ! (bin ! (get ! refl) (lit ! tt) (tests_null null_ptr (subst Testable e may))) refl (tt, tt) $
    first ! $ branches ! (get ! refl) (λ t. nothing ! $ nothing ! $ join ! $ nothing ! $ move ! (1 ∷ 0 ∷ []) $ use2 𝓛 (raw (N.pre x)) (id⊢ 𝓤 _) $
    calls_at ! (framed 𝓤 𝓛.H 𝓜 𝓣) N (nothing_met 𝓤 𝓛 𝓜 𝓡 (code.calls-editlens_c::answer::not_open 𝓡.env wired)) x (no_more !) (λ v.
    use1 𝓛 (later (some (λ (r : Answer). (‵ ftrue ⊛ ‵ (Out.own_val r (v ∷ []))) ⊛ some (λ (ws : Lasts n.ended x.0.0 x.0.3). ‵ (lasts n.ended x.0.0 x.0.3 ws) ⊛ raw (fact 𝓤 (IsNotOpen r)))))) (id⊢ 𝓤 _) $
    await ! tt $ pick ! (λ r. split ! $ split ! $ drop ! $ move ! (1 ∷ []) $ pick ! (λ ws. split ! $ drop ! $ heard ! _ (λ told.
    peeks ! Out (Is Out) (shows 𝓛 Out) r (v ∷ []) (λ is. lands_as ! refl refl ((out.the_row_laws.lawful 𝓛).typed r _ is).0 $
    returns_within ! (W.post (y null_ptr)) refl (look_at ! 0 refl) $ free_all ! refl $
    -- [the result; the tokens]
    nothing ! $ fpack ! (IsNotOpen r) (λ _. ftrue) told $
    suffices ! _ (ends_at 𝓛 f.ended stayed c (y null_ptr) v r (tt, tt) (tt, tt)) $
    move ! (2 ∷ 1 ∷ []) $ nothing ! $ nothing ! $ join ! $ move ! (1 ∷ 0 ∷ []) $ group ! 3 $ done !))))))
    (λ t. absurd t)))
    (λ b o e. regoal ! (λ p. prop (WpFn 𝓤 𝓛.H 𝓣.C 𝓣.Λ code.function (rawptr_vals p) (W.post (y p)))) e refl $
    move ! (1 ∷ []) $ split ! $ move ! (1 ∷ []) $ split ! $ drop ! $
    -- [the others; the tokens; the slot]
    enter ! _ _ _ _ _ $ alloc_all ! (λ l. pass_all ! refl ((tt, tt), tt) $
    sets ! (of_opd ! (get ! refl)) refl (tt, tt) $
    sets ! (bin ! (get ! refl) (lit ! tt) (tests_null (block_ptr b o) (subst Testable e may))) refl (tt, tt) $
    first ! $ branches ! (get ! refl) (λ t. absurd t) (λ t. skips ! $
    exec ! 𝓣.C 𝓣.Λ (env code.Mir.locals l) code.Mir.t-4 (at_ret (env code.Mir.locals l) (W.post (y (block_ptr b o)))) $
    first ! $ blocks ! $ sets ! (of_opd ! (get ! refl)) refl (tt, tt) $ sets ! (of_opd ! (get ! refl)) refl (tt, tt) $
    sets_last ! (addr ! (through ! refl (stop !))) refl (tt, tt) $
    exec ! 𝓣.C 𝓣.Λ (env code.Mir.locals l) code.Mir.t-5 (at_ret (env code.Mir.locals l) (W.post (y (block_ptr b o)))) $
    sets ! (of_opd ! (get ! refl)) refl (tt, tt) $
    lft_new ! tt (λ α. move ! (3 ∷ []) $
    use1 𝓛 (later (some (λ (δ : GName). ‵ ((MutRef (named 0) (α ∷ []) R).own_val (record { ref_ptr = (b, o); ghost_name = δ; now = s }) (vptr b o ∷ [])) ⊛ ‵ (flent (α ∷ []) (Body (mem R) b o δ)))))
    (lends_ref 𝓛 R (named 0) (α ∷ []) s b o) $ await ! tt $ pick ! (λ δ. split ! $
    -- [the loan; the lender's part; the token of α; the others; the tokens]
    let G = triple_of 𝓛 g.signature (g.spec 𝓛 𝓜.mem 𝓡.returns) in
    let lent : MutBor HubSlot = record { ref_ptr = (b, o); ghost_name = δ; now = s } in
    let z : G.Ghost = (((α ∷ [], κs), (full_share, qs), tt, (lent, tt), (mut_vals lent, tt)), tt) in
    move ! (0 ∷ 3 ∷ []) $ join ! $ move ! (2 ∷ 3 ∷ 0 ∷ []) $ join ! $ join ! $
    nothing ! $ move ! (1 ∷ 0 ∷ []) $ use2 𝓛 (raw (G.pre z)) (id⊢ 𝓤 _) $
    calls_at ! (framed 𝓤 𝓛.H 𝓜 𝓣) G (met 𝓤 𝓛 𝓜 𝓡 (code.calls-editlens_c::hubs::told 𝓡.env wired)) z (and_then ! (get ! refl) (no_more !)) (λ v.
    use1 𝓛 (later (some (λ (r : Answer). ((‵ (flft (α ∷ []) full_share) ⊛ ‵ ftrue) ⊛ ‵ (Out.own_val r (v ∷ []))) ⊛
    some (λ (ws : HubSlot × Unit {0}). ‵ (lasts g.ended z.0.0 z.0.3 ws) ⊛ raw (fact 𝓤 (HubTells s r ws.0)))))) (id⊢ 𝓤 _) $
    await ! tt $ pick ! (λ r. split ! $ split ! $ split ! $ lft_end ! tt $
    -- [α is over; the tokens; the result; the last values; the lender's part]
    move ! (3 ∷ []) $ pick ! (λ ws. split ! $ move ! (1 ∷ []) $ heard ! _ (λ told. fsplit ! $ fsplit ! $
    -- [the loan's last value; its borrow; nothing; α is over; the tokens; the result; the lender's part]
    move ! (3 ∷ 6 ∷ 0 ∷ []) $ use3 𝓛 (later (‵ ((mem R).own_at ws.0 b o))) (ref_back 𝓛 R (α ∷ []) δ ws.0 b o) $ await ! tt $
    -- [the slot; the borrow; nothing; the tokens; the result]
    move ! (4 ∷ []) $ peeks ! Out (Is Out) (shows 𝓛 Out) r (v ∷ []) (λ is. lands_as ! refl refl ((out.the_row_laws.lawful 𝓛).typed r _ is).0 $
    returns ! (look_at ! 0 refl) $ free_all ! refl $ keep ! (1 ∷ 4 ∷ 0 ∷ []) $
    -- [the slot; the tokens; the result]
    nothing ! $ fpack ! (HubTells s r ws.0) (λ _. ftrue) told $ fjoin ! $
    fpack ! HubSlot (λ (x : HubSlot). fsep (fex (HubTells s r x) (λ _. ftrue)) (lies_at R full_share (block_ptr b o) x)) ws.0 $
    suffices ! _ (ends_at 𝓛 f.ended stayed c (y (block_ptr b o)) v r (tt, tt) (tt, tt)) $
    move ! (1 ∷ 2 ∷ []) $ nothing ! $ nothing ! $ join ! $ move ! (1 ∷ 0 ∷ []) $ group ! 3 $ done !))))))))))))
