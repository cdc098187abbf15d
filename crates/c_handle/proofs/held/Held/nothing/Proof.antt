-- `nothing` makes the pointer null.
use Rattle.std.{proofs.{Common.{◌≡◌, [], ◌∷◌, refl, lit<}, raw_atomic.Walks.{proved, leaves}}, specs.declared.option.Option.TheVariants.{None}}
use mir.{Syntax.{a_type}, Val.{Val, vnull}, MapTy.{inst_fn}}
use base.Logic.{SProp, emp}
use types.{Kit.{‵, raw, ◌⊛◌, ◌$◌, ◌∵◌, !, qed, by, keep, split, use0}, Run.{lit, no_more, and_then, returns, enter}, ByLocal.{alloc_all, pass_all, free_all}}
use types.{ByLocal.{look_at, sets}, Part.{agg}}
use contract.{Monad.{fact, fact_i}, Running.{tables}}
use denote.{RattleType.{RattleType, owns}, RawPtr.{null_ptr}, Signature.{types_at}, Steps.{nothing}, Param.{param, layouts}, Triple.Entry.{alive}}
use denote.Triple.Walked.{Stays, walk_of}
use Rattle.c_handle.specs.contracts.held.Held as held
use Rattle.c_handle.{proofs.Values.{alone, held_in}, specs.contracts.held.Held.nothing.{ended, clauses, Key.{name as #self}}}
use Rattle.c_handle.proofs.held.Held.nothing.Statement.{statement}
use Rattle.c_handle.proofs.held.Held.nothing.Code as code

pub nothing_spec : {M : Type 1} → statement M
nothing_spec 𝓤 𝓛 𝓜 𝓡 wired T L =
    let H = 𝓛.H in let 𝓣 = tables 𝓤 H 𝓜 𝓡 𝓡.env in let R : RattleType = param 0 T in let En = ended T in let c = clauses T 𝓛 𝓜.mem 𝓡.returns in
    let inst = layouts (a_type ∷ []) (T, tt) in let fn = inst_fn inst code.function in let hs : Stays En.signature.params En.kept = tt in
    proved 𝓛 En hs c 𝓜 𝓡 tt (#self inst) fn (code.unfolded 𝓤 H 𝓜 𝓡 wired (T, tt)) (λ κs. tt) (λ κs. tt) (λ κs qs bounds a gh are.
    let r : (held.the_row R).Denot = record { at = null_ptr; value = None } in let Told : Type 0 = r.value ≡ None in
    let y : (walk_of 𝓛 En hs c).Ghost = ((κs, qs, bounds, a, tt), gh) in let Post : Val → SProp 𝓤 = (walk_of 𝓛 En hs c).post y in
    qed 𝓛 ((raw (alive 𝓛 En.signature κs qs) ⊛ ‵ (owns (types_at En.signature.params κs) a y.0.4)) ∷ raw ((c κs a).requires gh) ∷ []) ∵
    split ! $ keep ! (0 ∷ []) $ nothing ! $ held_in R ! null_ptr None $
    enter ! 𝓣.C 𝓣.Λ fn [] Post $ alloc_all ! (λ l. pass_all ! refl tt $
    sets ! (agg ! (and_then ! (lit ! tt) (no_more !))) refl (tt, (record { fits = lit< tt }, tt)) $
    use0 𝓛 (raw (fact 𝓤 Told)) (fact_i 𝓤 Told (emp 𝓤) refl) $ nothing ! $
    returns ! (look_at ! 0 refl) $ free_all ! refl $ keep ! (3 ∷ 0 ∷ 2 ∷ 1 ∷ []) $ by ! (leaves 𝓛 En hs c y (alone vnull) r tt tt)))
