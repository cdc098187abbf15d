-- The pointer goes from the one struct to the other, with what it owns.
use Rattle.std.proofs.{Common.{◌≡◌, List, [], ◌∷◌, ◌++◌, refl, sym, subst}, raw_atomic.Walks.{proved_at, leaves}}
use mir.Val.{Val}
use base.Logic.{SProp, ent, emp, id⊢}
use prog.Wp.{WpFn}
use types.{Kit.{‵, raw, ◌⊛◌, ◌$◌, ◌∵◌, !, qed, by, move, keep, split, fsplit, fjoin, fpack, feq_i, suffices, use0}, Run.{stop, fld, of_opd, no_more, and_then}}
use types.{Run.{returns, enter}, ByLocal.{alloc_all, pass_all, free_all, look_at, get, get_in, sets}, Part.{agg, sub, whole}}
use contract.{Monad.{fact, fact_i}, Running.{tables}}
use denote.{Exit.{yes}, RattleType.{RattleType, Valss, owns}, Builtin.{RawPtr}, RawPtr.{ptr_val}, Signature.{types_at, plain}, Steps.{nothing}}
use denote.{Struct.{Struct.{within}, Owning.{shape}}, Triple.{Entry.{alive}, Walked.{Stays, stay_dropped, walk_of, Goes-dropped}}}
use Rattle.c_handle.specs.contracts.held.Held as held
use Rattle.{c_handle.proofs.Values.{alone, alone_good, pointer_good, held_out}, desk_c.specs.contracts.state.State.{the_row as R}}
use Rattle.desk_c.specs.contracts.handle.Handle as handle
use Rattle.desk_c.{specs.contracts.handle.hidden.{ended, clauses, Key.{name as #self}}, proofs.handle.hidden.Statement.{statement}}
use Rattle.desk_c.proofs.handle.hidden.Code as code

pub hidden_spec : {M : Type 1} → statement M
hidden_spec 𝓤 𝓛 𝓜 𝓡 wired =
    let H = 𝓛.H in let 𝓣 = tables 𝓤 H 𝓜 𝓡 𝓡.env in let En = ended in let c = clauses 𝓛 𝓜.mem 𝓡.returns in let fn = code.function in
    let From : RattleType = held.the_row R in let hs : Stays En.signature.params En.kept = (stay_dropped (plain (λ _. From)) yes, tt) in
    proved_at 𝓛 En hs c 𝓜 𝓡 (Goes-dropped 𝓛 0 (plain (λ _. From)) yes (λ κs x f. refl), tt) #self fn (code.unfolded 𝓤 H 𝓜 𝓡 wired) (λ z are.
    let κs = z.0.0 in let v = z.0.3.0 in let Post : Val → SProp 𝓤 = (walk_of 𝓛 En hs c).post z in let Run : List Val → SProp 𝓤 = λ ws. WpFn 𝓤 H 𝓣.C 𝓣.Λ fn ws Post in
    let p = ptr_val v.at in let w : Val = alone p in let good = alone_good [] v.at in let r : handle.the_row.Denot = record { at = v.at; state = v.value } in let Told : Type 0 = r.state ≡ v.value in
    qed 𝓛 ((raw (alive 𝓛 En.signature κs z.0.1) ⊛ ‵ (owns (types_at En.signature.params κs) z.0.3 z.0.4)) ∷ raw ((c κs z.0.3).requires z.1) ∷ []) ∵
    split ! $ move ! (1 ∷ []) $ fsplit ! $ held_out R ! v z.0.4.0 (λ ws. keep ! (0 ∷ 2 ∷ []) $
    nothing ! $ feq_i ! (List Val) (p ∷ []) (p ∷ []) refl $ fjoin ! $ feq_i ! (List Val) (w ∷ []) (w ∷ []) refl $ fjoin ! $
    fpack ! (Valss (RawPtr ∷ [])) (within (shape handle.the_type) (v.at, tt) (w ∷ [])) (p ∷ [], tt) $ fjoin ! $
    suffices ! (Run (w ∷ [])) (subst (λ (us : List Val). ent 𝓤 (Run (w ∷ [])) (Run us)) (sym (λ i. ws i ++ [])) (id⊢ 𝓤 (Run (w ∷ [])))) $
    enter ! 𝓣.C 𝓣.Λ fn (w ∷ []) Post $ alloc_all ! (λ l. pass_all ! refl (good, tt) $
    sets ! (of_opd ! (get_in ! (fld ! refl (stop !)) (sub ! 0 refl (whole !)))) refl (pointer_good v.at) $ sets ! (of_opd ! (get ! refl)) refl (pointer_good v.at) $
    sets ! (agg ! (and_then ! (get ! refl) (no_more !))) refl good $ use0 𝓛 (raw (fact 𝓤 Told)) (fact_i 𝓤 Told (emp 𝓤) refl) $ nothing ! $ nothing ! $ fjoin ! $
    returns ! (look_at ! 0 refl) $ free_all ! refl $ keep ! (3 ∷ 0 ∷ 2 ∷ 1 ∷ []) $ by ! (leaves 𝓛 En hs c z w r (tt, tt) (tt, tt)))))
