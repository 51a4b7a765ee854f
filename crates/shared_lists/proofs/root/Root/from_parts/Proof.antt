-- `of_parts` moves two fields, and what they own goes with them.
use mathlib.Core.Path.{refl, sym, subst}
use mathlib.Core.List.{List, [], ◌∷◌, ◌++◌}
use seplogic.Ra.Ura.{Ura}
use mir.Syntax.{Fn, Args, a_type}
use mir.MapTy.{inst_fn}
use mir.Val.{Val}
use base.Logic.{SProp, ent, id⊢}
use base.Fml.{ftrue, fsep, flft}
use contract.BorrowLft.{◌⊑◌}
use prog.Memory.{Memory}
use prog.Routine.{Routine}
use prog.Wp.{WpFn, Tables}
use types.Logic.{Logic}
use contract.Monad.{Fun, fact}
use contract.Running.{tables, tables_of}
use sound.WpLaws.{WpFn-mono}
use types.Kit.{Item, ‵, raw, ◌⊛◌, ◌$◌, ◌∵◌, !, qed, by, move, drop, keep, use1, join, split, fsplit, fjoin, suffices, done}
use types.Part.{whole, sub, agg}
use types.Run.{stop, fld, no_more, and_then, of_opd, returns, enter}
use types.ByLocal.{alloc_all, pass_all, free_all, look_at, get, get_in, sets}
use denote.RattleType.{RattleType}
use denote.Exit.{no}
use denote.Param.{layouts}
use denote.Param.Laws.{Laws}
use denote.Signature.{type_at}
use denote.Steps.{nothing}
use denote.Triple.Clauses.{Clauses}
use denote.Triple.Spec.{triple_of}
use denote.Triple.Table.{entered}
use denote.Triple.Walked.{says, Stays, stay_dropped, walk_of, ends_at, walk_Meets}
use Rattle.core.proofs.alloc.Calls.{Goes-blank}
use Rattle.std_alloc.proofs.BoxSteps.Form.{D, B, word, box_typed}
use Rattle.std_alloc.proofs.BoxSteps.Steps.{box_out, box_in}
use Rattle.shared_lists.proofs.AsBox.{E, FromParts as From}
use Rattle.shared_lists.specs.contracts.root.Root.from_parts as F
use Rattle.shared_lists.specs.contracts.root.Root.from_parts.Key.{name as #self}
use Rattle.shared_lists.proofs.root.Root.from_parts.Statement as stated
use Rattle.shared_lists.proofs.root.Root.from_parts.Code as code

module _ (T : RattleType) (L : Laws T) where
  abbrev args : Args
  args = layouts (a_type ∷ []) (T, tt)

  abbrev fn' : Fn
  fn' = inst_fn args code.function

  abbrev stayed : Stays (F.ended T).signature.params (F.ended T).kept
  stayed = (stay_dropped (From T L) no, tt)

  module _ {M : Type 1} {𝓤 : Ura M} (𝓛 : Logic 𝓤) (at_mem : Memory → SProp 𝓤) (run : Routine → Fun 𝓤) (𝓣 : Tables 𝓤 𝓛.H) where
    open 𝓛 use {H}

    abbrev held : Clauses 𝓤 (F.ended T)
    held = F.clauses T 𝓛 at_mem run

    walk : (z : (walk_of 𝓛 (F.ended T) stayed held).Ghost)
        → ent 𝓤 ((walk_of 𝓛 (F.ended T) stayed held).pre z) (WpFn 𝓤 H 𝓣.C 𝓣.Λ fn' (z.0.4.0 ++ []) ((walk_of 𝓛 (F.ended T) stayed held).post z))
    walk z =
        let κs = z.0.0 in let qs = z.0.1 in let Post = (walk_of 𝓛 (F.ended T) stayed held).post z in
        let v : D (E T L) = record { ptr = z.0.3.0.pointer; alloc = z.0.3.0.alloc; value = z.0.3.0.value } in
        let To = type_at (F.signature T).result κs in
        let made : To.Denot = record { pointer = v.ptr; alloc = v.alloc; owner = v.value } in
        let ts : Item 𝓤 = ‵ (flft κs.0 qs.0) ⊛ ‵ ftrue in
        let alive : Item 𝓤 = raw (fact 𝓤 (κs.0 ⊑ T.lives)) ⊛ ‵ ftrue in
        qed 𝓛 ((ts ⊛ ‵ (fsep ((B (E T L)).own_val v z.0.4.0) ftrue)) ∷ alive ∷ []) ∵ split ! $ move ! (1 ∷ []) $ fsplit ! $
        box_out (E T L) ! v z.0.4.0 (λ b o hv e ws fa. box_in (E T L) ! v b o v.value e refl $ use1 𝓛 (‵ (To.own_val made (word (E T L) hv b o ∷ []))) (id⊢ 𝓤 _) $ keep ! (0 ∷ 2 ∷ []) $
        let w = word (E T L) hv b o in
        let Γ : List (Item 𝓤) = ‵ (To.own_val made (w ∷ [])) ∷ ts ∷ [] in
        by ! (subst (λ (us : List Val). ent 𝓤 (types.Kit.⋆ 𝓛 Γ) (WpFn 𝓤 H 𝓣.C 𝓣.Λ fn' (us ++ []) Post)) (sym ws)
        (qed 𝓛 Γ ∵ enter ! 𝓣.C 𝓣.Λ fn' (w ∷ []) _ $ alloc_all ! (λ ls. pass_all ! refl (box_typed (E T L) hv b o fa, tt) $
        sets ! (of_opd ! (get_in ! (fld ! refl (stop !)) (sub ! 0 refl (whole !)))) refl (tt, tt) $ sets ! (of_opd ! (get_in ! (fld ! refl (stop !)) (sub ! 1 refl (whole !)))) refl fa $
        sets ! (agg ! (and_then ! (get ! refl) (and_then ! (get ! refl) (no_more !)))) refl (box_typed (E T L) hv b o fa) $ returns ! (look_at ! 0 refl) $ free_all ! refl $
        suffices ! _ (ends_at 𝓛 (F.ended T) stayed held z w made (tt, tt) (tt, tt)) $ says ! refl $
        nothing ! $ nothing ! $ fjoin ! $ join ! $ move ! (1 ∷ 0 ∷ []) $ join ! $ done !))))

pub from_parts_spec : {M : Type 1} → stated.statement M
unfolding tables_of
from_parts_spec 𝓤 𝓛 𝓜 𝓡 wired T L =
    let 𝓣 : Tables 𝓤 𝓛.H = tables_of 𝓤 𝓛.H 𝓜 (tables 𝓤 𝓛.H 𝓜 𝓡 𝓡.env) in
    entered 𝓤 𝓛.H (triple_of 𝓛 (F.signature T) (F.spec T 𝓛 𝓜.mem 𝓡.returns)) 𝓣.C 𝓣.Λ (#self (args T L)) (fn' T L) (code.unfolded 𝓤 𝓛.H 𝓜 𝓡 wired (T, tt))
    (walk_Meets 𝓛 (F.ended T) (stayed T L) (Goes-blank 𝓛 1 (From T L) no (λ κs x f. tt), tt) (F.clauses T 𝓛 𝓜.mem 𝓡.returns) (WpFn 𝓤 𝓛.H 𝓣.C 𝓣.Λ (fn' T L)) (WpFn-mono 𝓤 𝓛.H 𝓛.laws 𝓣 (fn' T L))
    (walk T L 𝓛 𝓜.mem 𝓡.returns 𝓣))
