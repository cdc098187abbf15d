-- `into_loose` tests the pointer, which is null where nothing is held.
use Rattle.std.{proofs.Common.{◌≡◌, List, [], ◌∷◌, ◌++◌, refl, sym, ap, ◌∙◌, subst, lit<}, specs.declared.option.Option.TheVariants.{None, Some}}
use Rattle.std.proofs.{alloc.{Calls.{Goes-blank, handle_tells}, Shapes.{after}}, cell.Inside.{Good}, option.Made.{Some-of, none_of}, ResultValues.{and_tt}}
use mir.{Syntax.{a_type, ty_ptr}, Val.{Val, vnull, vptr, vcons, vnil}, MapTy.{inst_fn}}
use base.{Logic.{SProp, ent, emp, id⊢}, Fml.{ftrue, flft}}
use prog.Wp.{WpFn}
use types.{Kit.{‵, raw, ◌⊛◌, at_ret, ◌$◌, ◌∵◌, !, qed, by, move, keep, drop, split, fsplit, fjoin, suffices, use0, use1}, Run.{stop, fld, lit, of_opd, bin}}
use types.{Run.{no_more, and_then, first, branches, exec, returns, enter}, ByLocal.{alloc_all, pass_all, free_all, look_at, get, get_in, sets, sets_last, env}}
use types.{Part.{agg, sub, whole}, Match.{live}}
use contract.{Monad.{fact, fact_i}, Running.{tables}}
use denote.{Exit.{yes, no}, RattleType.{RattleType, owns}, RawPtr.{Ptr, block_ptr, null_ptr, ptr_val, tests_null}, Signature.{types_at, type_at, plain}}
use denote.{Steps.{nothing}, Param.{param, layout, layouts}, Triple.Walked.{Stays, stay_dropped, walk_of, Goes-dropped}}
use Rattle.std.specs.contracts.alloc.Global as heap
use Rattle.std.proofs.alloc.Global.TheLaws as heap_laws
use Rattle.std.{specs.contracts.impls.GlobalAllocator.TheImpl.{ghosts}, proofs.raw_atomic.Walks.{proved_at, leaves}}
use Rattle.c_handle.specs.contracts.held.Held as held
use Rattle.c_handle.{proofs.Values.{both, alone, al, Loose, loose_good, loose_in, held_out, either}, specs.contracts.held.Held.into_loose.{ended, clauses}}
use Rattle.c_handle.{specs.contracts.held.Held.into_loose.Key.{name as #self}, proofs.held.Held.into_loose.Statement.{statement}}
use Rattle.c_handle.proofs.held.Held.into_loose.Code as code

pub into_loose_spec : {M : Type 1} → statement M
into_loose_spec 𝓤 𝓛 𝓜 𝓡 wired T L =
    let H = 𝓛.H in let 𝓣 = tables 𝓤 H 𝓜 𝓡 𝓡.env in let R : RattleType = param 0 T in let En = ended T in let c = clauses T 𝓛 𝓜.mem 𝓡.returns in
    let Z : RattleType = heap.the_row in let LZ = heap_laws.the_row_laws in let Lr : RattleType = Loose R Z LZ ghosts in let Hr : RattleType = held.the_row R in
    let inst = layouts (a_type ∷ []) (T, tt) in let fn = inst_fn inst code.function in
    let hs : Stays En.signature.params En.kept = (stay_dropped (plain (λ _. Hr)) no, (stay_dropped (plain (λ _. Z)) yes, tt)) in
    proved_at 𝓛 En hs c 𝓜 𝓡 (Goes-blank 𝓛 1 (plain (λ _. Hr)) no (λ κs x f. tt), (Goes-dropped 𝓛 1 (plain (λ _. Z)) yes (λ κs x f. refl), tt)) (#self inst) fn (code.unfolded 𝓤 H 𝓜 𝓡 wired (T, tt)) (λ z are.
    let κs = z.0.0 in let qs = z.0.1 in let v = z.0.3.0 in let a = z.0.3.1.0 in let Post : Val → SProp 𝓤 = (walk_of 𝓛 En hs c).post z in
    let Run : List Val → SProp 𝓤 = λ ws. WpFn 𝓤 H 𝓣.C 𝓣.Λ fn ws Post in
    let Out : RattleType = type_at En.signature.result κs in
    qed 𝓛 (((‵ (flft κs.0 qs.0) ⊛ ‵ ftrue) ⊛ ‵ (owns (types_at En.signature.params κs) z.0.3 z.0.4)) ∷ raw ((c κs z.0.3).requires z.1) ∷ []) ∵
    split ! $ move ! (1 ∷ []) $ fsplit ! $ held_out R ! v z.0.4.0 (λ ws. move ! (1 ∷ []) $ fsplit ! $
    handle_tells (al R Z LZ ghosts) ! a z.0.4.1.0 (λ h eh fits. keep ! (2 ∷ 0 ∷ 3 ∷ []) $
    let at_null : Good ty_ptr vnull = (tt, record { fits = lit< tt }) in
    let passes : (p : Ptr) → v.at ≡ p
    → let us = alone (ptr_val p) ∷ h ∷ [] in ent 𝓤 (Run us) (Run (z.0.4.0 ++ (z.0.4.1.0 ++ []))) = λ p is. let us : List Val = alone (ptr_val p) ∷ h ∷ [] in
    subst (λ (vs : List Val). ent 𝓤 (Run us) (Run vs)) (sym (λ i. (ws ∙ ap (λ (q : Ptr). alone (ptr_val q) ∷ []) is) i ++ (eh i ++ []))) (id⊢ 𝓤 (Run us)) in
    either R ! v.at v.value
    (λ is said. drop ! $ let w : Val = alone vnull in let Told : Type 0 = None ≡ v.value in
    suffices ! (Run (w ∷ h ∷ [])) (passes null_ptr is) $
    enter ! 𝓣.C 𝓣.Λ fn (w ∷ h ∷ []) Post $ alloc_all ! (λ l. pass_all ! refl ((tt, (at_null.1, tt)), (fits, tt)) $ let Ev = env fn.locals l in
    sets ! (of_opd ! (get_in ! (fld ! refl (stop !)) (sub ! 0 refl (whole !)))) refl at_null $ sets ! (bin ! (get ! refl) (lit ! tt) tt) refl (tt, tt) $
    first ! $ branches ! (get ! refl)
    (λ _. sets_last ! (agg ! (and_then ! (lit ! tt) (no_more !))) refl (tt, (record { fits = lit< tt }, tt)) $
    exec ! 𝓣.C 𝓣.Λ Ev (after 3 fn.body) (at_ret Ev Post) $ sets ! (of_opd ! (get ! refl)) refl (tt, (record { fits = lit< tt }, tt)) $
    use0 𝓛 (‵ (Out.own_val None (live 0 vnil ∷ []))) (none_of 𝓛 Lr) $ use0 𝓛 (raw (fact 𝓤 Told)) (fact_i 𝓤 Told (emp 𝓤) (sym said)) $ nothing ! $
    nothing ! $ fjoin ! $ nothing ! $ fjoin ! $
    returns ! (look_at ! 0 refl) $ free_all ! refl $ keep ! (3 ∷ 0 ∷ 2 ∷ 1 ∷ []) $ by ! (leaves 𝓛 En hs c z (live 0 vnil) None (tt, (tt, tt)) (tt, (tt, tt))))
    (λ wrong. absurd wrong)))
    (λ b o x is said may. let w : Val = alone (vptr b o) in let made : Val = both (vptr b o) h in let typed = loose_good R Z LZ ghosts b o h fits in
    let v₁ : Val = live 1 (vcons made vnil) in
    let d : Lr.Denot = record { at = block_ptr b o; alloc = a; value = x } in
    let good : Good (layout Out) v₁ = (and_tt _ typed.0, (record { fits = lit< tt }, (typed.1, tt))) in let Told : Type 0 = Some x ≡ v.value in
    suffices ! (Run (w ∷ h ∷ [])) (passes (block_ptr b o) is) $
    enter ! 𝓣.C 𝓣.Λ fn (w ∷ h ∷ []) Post $ alloc_all ! (λ l. pass_all ! refl ((tt, (tt, tt)), (fits, tt)) $ let Ev = env fn.locals l in
    sets ! (of_opd ! (get_in ! (fld ! refl (stop !)) (sub ! 0 refl (whole !)))) refl (tt, tt) $
    sets ! (bin ! (get ! refl) (lit ! tt) (tests_null (block_ptr b o) may)) refl (tt, tt) $ first ! $ branches ! (get ! refl)
    (λ wrong. absurd wrong)
    (λ _. sets ! (agg ! (and_then ! (get ! refl) (and_then ! (get ! refl) (no_more !)))) refl typed $
    sets_last ! (agg ! (and_then ! (lit ! tt) (and_then ! (get ! refl) (no_more !)))) refl good $
    exec ! 𝓣.C 𝓣.Λ Ev (after 3 fn.body) (at_ret Ev Post) $ sets ! (of_opd ! (get ! refl)) refl good $ loose_in R Z LZ ghosts ! b o h a x $
    use1 𝓛 (‵ (Out.own_val (Some d) (v₁ ∷ []))) (Some-of 𝓛 Lr d made) $ use0 𝓛 (raw (fact 𝓤 Told)) (fact_i 𝓤 Told (emp 𝓤) (sym said)) $ nothing ! $
    nothing ! $ fjoin ! $ nothing ! $ fjoin ! $
    returns ! (look_at ! 0 refl) $ free_all ! refl $ keep ! (3 ∷ 0 ∷ 2 ∷ 1 ∷ []) $ by ! (leaves 𝓛 En hs c z v₁ (Some d) (tt, (tt, tt)) (tt, (tt, tt)))))))))
