-- `apart` compares the names of two keepers.
use Rattle.std.proofs.Common.{◌≢◌, List, [], ◌∷◌, refl}
use mir.Syntax.{a_type, dnil, named}
use mir.Val.{Val, vunit, vptr}
use mir.MapTy.{inst_fn}
use base.Logic.{SProp, emp}
use base.Fml.{Fml, ftrue, fsep, flft}
use types.Kit.{‵, raw, ◌⊛◌, given, ◌$◌, ◌∵◌, !, qed, by, move, keep, split, fsplit, fsplit3, fjoin, fjoin3, learn, use2, feq_i}
use types.Run.{unit_lit, of_opd, returns, enter}
use types.ByLocal.{alloc_all, pass_all, free_all, look_at, sets}
use contract.Monad.{fact_i}
use contract.Running.{tables}
use denote.RattleType.{RattleType, owns}
use denote.Signature.{types_at, plain}
use denote.Ref.{mut_vals, mut_Tells}
use denote.Steps.{nothing, opens, closes}
use denote.Param.{param, bounded}
use denote.Triple.Walked.{Stays, stay_ref, walk_of, Goes-ref}
use Rattle.atomic_table.proofs.Walks.{proved}
use Rattle.logbook.proofs.Fields.{ends}
use Rattle.po_log.specs.Owned.{keeper_owns}
use Rattle.po_log.specs.contracts.log.Keeper as Keeper
use Rattle.po_log.proofs.Alone.{two_names}
use Rattle.po_log.proofs.Steps as steps
use Rattle.po_log.specs.contracts.log.Keeper.apart.{ended, clauses}
use Rattle.po_log.specs.contracts.log.Keeper.apart.Key.{name as #self}
use Rattle.po_log.proofs.log.Keeper.apart.Statement.{statement}
use Rattle.po_log.proofs.log.Keeper.apart.Code as code

pub apart_spec : {M : Type 1} → statement M
apart_spec 𝓤 𝓛 𝓜 𝓡 wired E X _ _ =
    let H = 𝓛.H in let 𝓣 = tables 𝓤 H 𝓜 𝓡 𝓡.env in let E' : RattleType = param 0 E in let X' : RattleType = param 1 X in let En = ended E X in
    let inst = bounded (a_type ∷ a_type ∷ []) (E, (X, tt)) dnil in let fn = inst_fn inst code.function in let c = clauses E X 𝓛 𝓜.mem 𝓡.returns in
    let hs : Stays En.signature.params En.kept = (stay_ref (0 ∷ []) tt (plain (λ _. Keeper.the_row E')), (stay_ref (1 ∷ []) tt (plain (λ _. Keeper.the_row X')), tt)) in
    proved 𝓛 En hs c 𝓜 𝓡 (Goes-ref 𝓛 4 0 tt (plain (λ _. Keeper.the_row E')), (Goes-ref 𝓛 4 1 tt (plain (λ _. Keeper.the_row X')), tt)) (#self inst) fn (code.unfolded 𝓤 H 𝓜 𝓡 wired (E, (X, tt)))
    (λ κs. (mut_vals, (mut_vals, tt))) (λ κs. (mut_Tells (named 0) κs.0 (Keeper.the_row E'), (mut_Tells (named 1) κs.1.0 (Keeper.the_row X'), tt))) (λ κs qs bounds a gh are.
    let me = a.0.now in let other = a.1.0.now in
    let y : (walk_of 𝓛 En hs c).Ghost = ((κs, qs, bounds, a, (vptr a.0.ref_ptr.0 a.0.ref_ptr.1 ∷ [], (vptr a.1.0.ref_ptr.0 a.1.0.ref_ptr.1 ∷ [], tt))), gh) in let Post : Val → SProp 𝓤 = (walk_of 𝓛 En hs c).post y in let toks : Fml = fsep (flft κs.0 qs.0) (fsep (flft κs.1.0 qs.1.0) (fsep (flft κs.1.1.0 qs.1.1.0) (fsep (flft κs.1.1.1.0 qs.1.1.1.0) ftrue))) in
    qed 𝓛 ((‵ toks ⊛ ‵ (owns (types_at En.signature.params κs) a y.0.4)) ∷ raw ((c κs a).requires gh) ∷ []) ∵ keep ! (0 ∷ []) $ split ! $
    fsplit ! $ move ! (1 ∷ []) $ fsplit ! $ move ! (3 ∷ []) $ fsplit ! $ fsplit3 ! $ move ! (3 ∷ []) $ fsplit ! $ fsplit3 ! $ keep ! (5 ∷ 6 ∷ 9 ∷ 1 ∷ 2 ∷ 7 ∷ 8 ∷ []) $
    enter ! 𝓣.C 𝓣.Λ fn (vptr a.0.ref_ptr.0 a.0.ref_ptr.1 ∷ vptr a.1.0.ref_ptr.0 a.1.0.ref_ptr.1 ∷ []) Post $ alloc_all ! (λ l. pass_all ! refl ((tt, tt), ((tt, tt), tt)) $
    opens ! tt (Keeper.the_row E') a.0.ref_ptr.0 a.0.ref_ptr.1 (λ vs0. move ! (5 ∷ 6 ∷ 7 ∷ []) $ opens ! tt (Keeper.the_row X') a.1.0.ref_ptr.0 a.1.0.ref_ptr.1 (λ vs1. move ! (1 ∷ []) $ fsplit ! $ move ! (7 ∷ []) $ fsplit ! $
    move ! (1 ∷ 3 ∷ []) $ use2 𝓛 (given (me.name ≢ other.name) (‵ (keeper_owns E'.coded.code me.name me.items) ⊛ ‵ (keeper_owns X'.coded.code other.name other.items))) (two_names 𝓛 E'.coded.code X'.coded.code me.items other.items me.name other.name) $ learn ! (λ so. split ! $
    move ! (2 ∷ 0 ∷ []) $ fjoin ! $ move ! (2 ∷ 1 ∷ []) $ fjoin ! $
    move ! (2 ∷ 0 ∷ 3 ∷ 4 ∷ 5 ∷ []) $ closes ! tt (Keeper.the_row X') other vs1 a.1.0.ref_ptr.0 a.1.0.ref_ptr.1 $ move ! (4 ∷ 3 ∷ 5 ∷ 6 ∷ 7 ∷ []) $ closes ! tt (Keeper.the_row E') me vs0 a.0.ref_ptr.0 a.0.ref_ptr.1 $
    sets ! (of_opd ! (unit_lit !)) refl (tt, tt) $ feq_i ! (List Val) (vunit ∷ []) (vunit ∷ []) refl $
    move ! (6 ∷ 7 ∷ []) $ fjoin ! $ move ! (4 ∷ 0 ∷ []) $ fjoin ! $
    nothing ! $ feq_i ! (List Val) (vptr a.1.0.ref_ptr.0 a.1.0.ref_ptr.1 ∷ []) (vptr a.1.0.ref_ptr.0 a.1.0.ref_ptr.1 ∷ []) refl $ move ! (0 ∷ 6 ∷ 7 ∷ []) $ fjoin3 ! $ fjoin ! $
    feq_i ! (List Val) (vptr a.0.ref_ptr.0 a.0.ref_ptr.1 ∷ []) (vptr a.0.ref_ptr.0 a.0.ref_ptr.1 ∷ []) refl $ move ! (0 ∷ 4 ∷ 5 ∷ []) $ fjoin3 ! $ fjoin ! $
    returns ! (look_at ! 0 refl) $ free_all ! refl $ keep ! (1 ∷ 0 ∷ 2 ∷ []) $ by ! (ends 𝓛 En hs c y (vunit) (tt) (me, (other, tt)) (tt, (tt, tt)) (steps.tells 𝓤 so (steps.tells 𝓤 refl (fact_i 𝓤 _ (emp 𝓤) refl)))))))))
