-- The pointer goes from the one struct to the other, with what it owns.
use Rattle.std.proofs.{Common.{◌≡◌, List, [], ◌∷◌, ◌++◌, refl, sym, subst}, raw_atomic.Walks.{proved_at, leaves}}
use mir.Val.{Val, vstruct, of_list}
use base.Logic.{SProp, ent, emp, id⊢}
use prog.Wp.{WpFn}
use types.{Kit.{‵, raw, ◌⊛◌, ◌$◌, ◌∵◌, !, qed, by, move, keep, drop, split, fsplit, fjoin, fpick, feq_l, suffices, use0}, Run.{stop, fld, of_opd, no_more}}
use types.{Run.{and_then, returns, enter}, ByLocal.{alloc_all, pass_all, free_all, look_at, get, get_in, sets}, Part.{agg, sub, whole}}
use contract.{Monad.{fact, fact_i}, Running.{tables}}
use denote.{Exit.{yes}, RattleType.{RattleType, owns}, RawPtr.{ptr_val}, Signature.{types_at, plain}, Steps.{nothing}, Triple.{Entry.{alive}, Walked.{Stays}}}
use denote.Triple.Walked.{stay_dropped, walk_of, Goes-dropped}
use Rattle.c_handle.specs.contracts.held.Held as held
use Rattle.{c_handle.proofs.Values.{alone, alone_good, pointer_good, held_in}, desk_c.specs.contracts.state.State.{the_row as R}}
use Rattle.desk_c.specs.contracts.handle.Handle as handle
use Rattle.desk_c.{specs.contracts.handle.shown.{ended, clauses, Key.{name as #self}}, proofs.handle.shown.Statement.{statement}}
use Rattle.desk_c.proofs.handle.shown.Code as code

pub shown_spec : {M : Type 1} → statement M
shown_spec 𝓤 𝓛 𝓜 𝓡 wired =
    let H = 𝓛.H in let 𝓣 = tables 𝓤 H 𝓜 𝓡 𝓡.env in let En = ended in let c = clauses 𝓛 𝓜.mem 𝓡.returns in let fn = code.function in
    let From : RattleType = handle.the_row in let hs : Stays En.signature.params En.kept = (stay_dropped (plain (λ _. From)) yes, tt) in
    proved_at 𝓛 En hs c 𝓜 𝓡 (Goes-dropped 𝓛 0 (plain (λ _. From)) yes (λ κs x f. refl), tt) #self fn (code.unfolded 𝓤 H 𝓜 𝓡 wired) (λ z are.
    let κs = z.0.0 in let v = z.0.3.0 in let Post : Val → SProp 𝓤 = (walk_of 𝓛 En hs c).post z in let Run : List Val → SProp 𝓤 = λ ws. WpFn 𝓤 H 𝓣.C 𝓣.Λ fn ws Post in
    let p = ptr_val v.at in let w : Val = alone p in let good = alone_good [] v.at in let r : (held.the_row R).Denot = record { at = v.at; value = v.state } in let Told : Type 0 = r.value ≡ v.state in
    qed 𝓛 ((raw (alive 𝓛 En.signature κs z.0.1) ⊛ ‵ (owns (types_at En.signature.params κs) z.0.3 z.0.4)) ∷ raw ((c κs z.0.3).requires z.1) ∷ []) ∵
    split ! $ move ! (1 ∷ []) $ fsplit ! $ fsplit ! $ fpick ! (λ vss. fsplit ! $ feq_l ! (λ ev. fsplit ! $ feq_l ! (λ ep. drop ! $ keep ! (0 ∷ 2 ∷ []) $
    let ws : z.0.4.0 ≡ w ∷ [] = subst (λ (ps : List Val). z.0.4.0 ≡ vstruct (of_list (ps ++ [])) ∷ []) ep ev in held_in R ! v.at v.state $
    suffices ! (Run (w ∷ [])) (subst (λ (us : List Val). ent 𝓤 (Run (w ∷ [])) (Run us)) (sym (λ i. ws i ++ [])) (id⊢ 𝓤 (Run (w ∷ [])))) $
    enter ! 𝓣.C 𝓣.Λ fn (w ∷ []) Post $ alloc_all ! (λ l. pass_all ! refl (good, tt) $
    sets ! (of_opd ! (get_in ! (fld ! refl (stop !)) (sub ! 0 refl (whole !)))) refl (pointer_good v.at) $ sets ! (of_opd ! (get ! refl)) refl (pointer_good v.at) $
    sets ! (agg ! (and_then ! (get ! refl) (no_more !))) refl good $ use0 𝓛 (raw (fact 𝓤 Told)) (fact_i 𝓤 Told (emp 𝓤) refl) $ nothing ! $ nothing ! $ fjoin ! $
    returns ! (look_at ! 0 refl) $ free_all ! refl $ keep ! (3 ∷ 0 ∷ 2 ∷ 1 ∷ []) $ by ! (leaves 𝓛 En hs c z w r (tt, tt) (tt, tt)))))))
