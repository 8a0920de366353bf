-- `follow` extends the log as a list was extended.
use Rattle.std.proofs.Common.{List, [], ◌∷◌, ◌++◌, refl}
use mir.Syntax.{a_type, dcons, dnil, named}
use mir.Val.{Val, vunit, vptr}
use mir.MapTy.{inst_fn}
use base.Logic.{SProp, emp}
use base.Fml.{Fml, ftrue, fsep, flft}
use types.Kit.{‵, raw, ◌⊛◌, given, later, ◌$◌, ◌∵◌, !, qed, by, move, keep, drop, split, fsplit, fsplit3, fjoin, fjoin3, learn, use1, await, feq_i}
use types.Run.{unit_lit, of_opd, returns, enter}
use types.ByLocal.{alloc_all, pass_all, free_all, look_at, sets}
use contract.Monad.{fact, fact_i}
use contract.Running.{tables}
use denote.Exit.{yes}
use denote.RattleType.{RattleType, owns}
use denote.Signature.{types_at, plain}
use denote.Builtin.{RefOf}
use denote.Ref.{mut_vals, mut_Tells, shr_vals, shr_Tells}
use denote.Steps.{nothing, opens, closes}
use denote.Param.{param, bounded}
use denote.Triple.Walked.{Stays, stay_dropped, stay_ref, walk_of, Goes-dropped, Goes-ref}
use Rattle.atomic_table.proofs.Walks.{proved}
use Rattle.po_log.proofs.Written as written
use Rattle.logbook.proofs.Fields.{ends}
use Rattle.po_log.specs.Owned.{keeper_owns}
use Rattle.po_log.specs.contracts.log.Keeper as Keeper
use Rattle.po_log.proofs.Steps as steps
use Rattle.std.specs.contracts.snapshot.Snapshot as Snap
use Rattle.po_log.specs.contracts.log.Keeper.follow.{ended, clauses}
use Rattle.po_log.specs.contracts.log.Keeper.follow.Key.{name as #self}
use Rattle.po_log.proofs.log.Keeper.follow.Statement.{statement}
use Rattle.po_log.proofs.log.Keeper.follow.Code as code

pub follow_spec : {M : Type 1} → statement M
follow_spec 𝓤 𝓛 𝓜 𝓡 wired E X N _ _ _ gn dn _ =
    let H = 𝓛.H in let 𝓣 = tables 𝓤 H 𝓜 𝓡 𝓡.env in let E' : RattleType = param 0 E in let X' : RattleType = param 1 X in let En = ended E X N gn dn in
    let inst = bounded (a_type ∷ a_type ∷ a_type ∷ []) (E, (X, (N, tt))) (dcons dn dnil) in let fn = inst_fn inst code.function in let c = clauses E X N gn dn 𝓛 𝓜.mem 𝓡.returns in
    let hs : Stays En.signature.params En.kept = (stay_ref (0 ∷ []) tt (plain (λ _. Keeper.the_row E')), (stay_dropped (RefOf (1 ∷ []) tt (plain (λ _. Snap.the_row X')) (λ _. tt)) yes, (stay_dropped (RefOf (2 ∷ []) tt (plain (λ _. X')) (λ _. tt)) yes, tt))) in
    proved 𝓛 En hs c 𝓜 𝓡 (Goes-ref 𝓛 6 0 tt (plain (λ _. Keeper.the_row E')), (Goes-dropped 𝓛 6 (RefOf (1 ∷ []) tt (plain (λ _. Snap.the_row X')) (λ _. tt)) yes (λ κs x f. refl), (Goes-dropped 𝓛 6 (RefOf (2 ∷ []) tt (plain (λ _. X')) (λ _. tt)) yes (λ κs x f. refl), tt))) (#self inst) fn (code.unfolded 𝓤 H 𝓜 𝓡 wired (E, (X, (N, tt))) dn)
    (λ κs. (mut_vals, (shr_vals, (shr_vals, tt)))) (λ κs. (mut_Tells (named 0) κs.0 (Keeper.the_row E'), (shr_Tells (named 1) κs.1.0 (Snap.the_row X'), (shr_Tells (named 2) κs.1.1.0 X', tt)))) (λ κs qs bounds a gh are.
    let me = a.0.now in
    let y : (walk_of 𝓛 En hs c).Ghost = ((κs, qs, bounds, a, (vptr a.0.ref_ptr.0 a.0.ref_ptr.1 ∷ [], (vptr a.1.0.ref_ptr.0 a.1.0.ref_ptr.1 ∷ [], (vptr a.1.1.0.ref_ptr.0 a.1.1.0.ref_ptr.1 ∷ [], tt)))), gh) in let Post : Val → SProp 𝓤 = (walk_of 𝓛 En hs c).post y in let toks : Fml = fsep (flft κs.0 qs.0) (fsep (flft κs.1.0 qs.1.0) (fsep (flft κs.1.1.0 qs.1.1.0) (fsep (flft κs.1.1.1.0 qs.1.1.1.0) (fsep (flft κs.1.1.1.1.0 qs.1.1.1.1.0) (fsep (flft κs.1.1.1.1.1.0 qs.1.1.1.1.1.0) ftrue))))) in
    qed 𝓛 ((‵ toks ⊛ ‵ (owns (types_at En.signature.params κs) a y.0.4)) ∷ raw (fact 𝓤 _) ∷ raw (fact 𝓤 _) ∷ raw (fact 𝓤 _) ∷ given _ (‵ ftrue) ∷ []) ∵ keep ! (4 ∷ 0 ∷ []) $ learn ! (λ asked. let now = me.items ++ written.follow_adds asked.0 in drop ! $ split ! $
    fsplit ! $ move ! (1 ∷ []) $ fsplit ! $ move ! (3 ∷ []) $ fsplit ! $ fsplit3 ! $ keep ! (1 ∷ 2 ∷ 4 ∷ 5 ∷ 6 ∷ []) $
    enter ! 𝓣.C 𝓣.Λ fn (vptr a.0.ref_ptr.0 a.0.ref_ptr.1 ∷ vptr a.1.0.ref_ptr.0 a.1.0.ref_ptr.1 ∷ vptr a.1.1.0.ref_ptr.0 a.1.1.0.ref_ptr.1 ∷ []) Post $ alloc_all ! (λ l. pass_all ! refl ((tt, tt), ((tt, tt), ((tt, tt), tt))) $
    move ! (0 ∷ 1 ∷ 4 ∷ []) $ opens ! tt (Keeper.the_row E') a.0.ref_ptr.0 a.0.ref_ptr.1 (λ vs0. move ! (1 ∷ []) $ fsplit ! $ move ! (1 ∷ []) $
    use1 𝓛 (later (‵ (keeper_owns E'.coded.code me.name now))) (steps.goes_on 𝓛 E'.coded me.name me.items (written.follow_adds asked.0)) $ await ! tt $
    move ! (1 ∷ 0 ∷ []) $ fjoin ! $ move ! (1 ∷ 0 ∷ 2 ∷ 3 ∷ 4 ∷ []) $ closes ! tt (Keeper.the_row E') (record { of = record {}; name = me.name; items = now }) vs0 a.0.ref_ptr.0 a.0.ref_ptr.1 $ sets ! (of_opd ! (unit_lit !)) refl (tt, tt) $ feq_i ! (List Val) (vunit ∷ []) (vunit ∷ []) refl $
    move ! (4 ∷ 5 ∷ []) $ fjoin ! $ move ! (4 ∷ 0 ∷ []) $ fjoin ! $ nothing ! $ nothing ! $ fjoin ! $ nothing ! $ fjoin ! $ feq_i ! (List Val) (vptr a.0.ref_ptr.0 a.0.ref_ptr.1 ∷ []) (vptr a.0.ref_ptr.0 a.0.ref_ptr.1 ∷ []) refl $ move ! (0 ∷ 4 ∷ 5 ∷ []) $ fjoin3 ! $ fjoin ! $
    returns ! (look_at ! 0 refl) $ free_all ! refl $ keep ! (1 ∷ 0 ∷ 2 ∷ []) $ by ! (ends 𝓛 En hs c y (vunit) (tt) ((record { of = record {}; name = me.name; items = now }), (tt, (tt, tt))) (tt, (tt, (tt, tt))) (steps.tells 𝓤 (asked.0, asked.1, refl) (fact_i 𝓤 _ (emp 𝓤) refl)))))))
