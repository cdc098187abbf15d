-- The machine values of a `Loose` and of a `Held`. Assumes `Logic`.
use Rattle.std.{proofs.{Common.{◌≡◌, ℕ, List, [], ◌∷◌, ◌++◌, refl, subst, lit<}, alloc.Calls.{Al, handle_tells}}, specs.Ptr.{points_to}}
use Rattle.std.{specs.{declared.alloc.Allocator.{Ghosts}, Box.Ownership.{box_owns}}, proofs.{cell.Inside.{Good, one}, ResultValues.{and_tt}}}
use Rattle.std.specs.{declared.option.Option.{Option, TheVariants.{None, Some}}, contracts.impls.GlobalAllocator.TheImpl.{ghosts}}
use Rattle.{std.proofs.GlobalToken.{dealloc_token-Testable}, c_handle.specs.Owned.{heap, owned_at}}
use mathlib.Core.Bool.{true, ◌&&◌}
use lib.Dec.{T}
use seplogic.Ra.Ura.{Ura}
use mir.{Syntax.{Ty, Sym, impl, ty_ptr, ty_struct, tnil, tcons, dnil}, Raw.{raw as bare}, Val.{Val, vptr, vstruct, vcons, vnil, of_list, has_ty, WT}}
use base.{Logic.{ent, guard, guard_i, via, never, never_e, fst∗, snd∗}, Fml.{Fml, ftrue}}
use contract.Monad.{fact_use}
use types.{Logic.{Logic, sem}, Kit.{given, learn, use1, Item, Goal, Seq, Step, step, ‵, ◌$◌, move, drop, fsplit, fjoin, fpick, fpack, feq_i, feq_l}}
use denote.{RattleType.{RattleType, Valss}, Builtin.{RawPtr}, Memory.{lone}, RawPtr.{Ptr, block_ptr, null_ptr, ptr_val, in_a_block, Testable}, Steps.{nothing}}
use denote.{Param.{layout, Laws.{Laws}}, Struct.{Struct.{within}, Owning.{shape}}}
use Rattle.c_handle.specs.contracts.held.Held as held
use Rattle.c_handle.specs.contracts.loose.Loose as loose

abbrev pub both : Val → Val → Val
both v w = vstruct (vcons v (vcons w vnil))

module _ (R Z : RattleType) (L : Laws Z) (g : Ghosts Z.Denot) where
  abbrev pub Loose : RattleType
  Loose = loose.the_row R Z g

  abbrev pub al : Al
  al = record { row = Z; laws = L; g = g; d = impl [] tnil dnil; drops = impl [] tnil dnil }

  pub loose_good : (b o : ℕ) (h : Val) → Good (layout Z) h → T (has_ty (layout Z) h && true) × WT (both (vptr b o) h)
  loose_good b o h fits = (and_tt (has_ty (layout Z) h) fits.0, (tt, (fits.1, tt)))

  module _ {M : Type 1} {𝓤 : Ura M} {𝓛 : Logic 𝓤} {K : Type 0} {Γ : List (Item 𝓤)} {G : Goal 𝓤 𝓛.H} where
    pub loose_out : K → (d : Loose.Denot) (vs : List Val)
        → ((b o : ℕ) (h : Val) → d.at ≡ block_ptr b o → vs ≡ both (vptr b o) h ∷ [] → Good (layout Z) h
        → Seq K 𝓛 (‵ (box_owns (g.dealloc_token d.alloc) R (block_ptr b o) d.value) ∷ ‵ (Z.own_val d.alloc (h ∷ [])) ∷ Γ) G)
        → Seq K 𝓛 (‵ (Loose.own_val d vs) ∷ Γ) G
    loose_out t d vs k =
        fsplit t $ fpick t (λ vss. fsplit t $ feq_l t (λ ev. fsplit t $ feq_l t (λ ep. fsplit t $
        handle_tells al t d.alloc vss.1.0 (λ h ea fits. move t (1 ∷ []) $ drop t $ move t (1 ∷ []) $
        in_a_block t d.at (λ p. box_owns (g.dealloc_token d.alloc) R p d.value) (fst∗ 𝓤 (never 𝓤) (sem 𝓛 (g.dealloc_token d.alloc (bare (lone R.mir)) null_ptr))) (λ b o e. k b o h e
        (subst (λ (p : Ptr). vs ≡ vstruct (of_list (ptr_val p ∷ h ∷ [])) ∷ []) e
        (subst (λ (ws : List Val). vs ≡ vstruct (of_list (ptr_val d.at ∷ (ws ++ []))) ∷ []) ea (subst (λ (ps : List Val). vs ≡ vstruct (of_list (ps ++ (vss.1.0 ++ []))) ∷ []) ep ev))) fits)))))

    pub loose_in : K → (b o : ℕ) (h : Val) (a : Z.Denot) (x : R.Denot)
        → Step K 𝓛 (‵ (Loose.own_val (record { at = block_ptr b o; alloc = a; value = x }) (both (vptr b o) h ∷ [])) ∷ Γ) G (‵ (box_owns (g.dealloc_token a) R (block_ptr b o) x) ∷ ‵ (Z.own_val a (h ∷ [])) ∷ Γ) G
    loose_in t b o h a x = step (λ s. let v : Val = both (vptr b o) h in
        nothing t $ move t (2 ∷ 0 ∷ []) $ fjoin t $ feq_i t (List Val) (vptr b o ∷ []) (vptr b o ∷ []) refl $ fjoin t $
        feq_i t (List Val) (v ∷ []) (v ∷ []) refl $ fjoin t $
        fpack t (Valss (RawPtr ∷ Z ∷ [])) (within (shape (loose.the_type R Z g)) (block_ptr b o, (a, tt)) (v ∷ [])) (vptr b o ∷ [], (h ∷ [], tt)) $ fjoin t $ s)

-- the machine value of a struct of one field
abbrev pub alone : Val → Val
alone v = vstruct (vcons v vnil)

module _ (R : RattleType) where
  abbrev pub Held : RattleType
  Held = held.the_row R

  -- the right to free a block, and a box
  abbrev freed : Ty → Ptr → Fml
  freed = ghosts.dealloc_token heap

  abbrev boxed : Ptr → R.Denot → Fml
  boxed = box_owns freed R

  module _ {M : Type 1} {𝓤 : Ura M} {𝓛 : Logic 𝓤} {K : Type 0} {Γ : List (Item 𝓤)} {G : Goal 𝓤 𝓛.H} where
    pub held_out : K → (d : Held.Denot) (vs : List Val) → (vs ≡ alone (ptr_val d.at) ∷ [] → Seq K 𝓛 (‵ (owned_at R d.at d.value) ∷ Γ) G)
        → Seq K 𝓛 (‵ (Held.own_val d vs) ∷ Γ) G
    held_out t d vs k =
        fsplit t $ fpick t (λ vss. fsplit t $ feq_l t (λ ev. fsplit t $ feq_l t (λ ep. drop t $
        k (subst (λ (ps : List Val). vs ≡ vstruct (of_list (ps ++ [])) ∷ []) ep ev))))

    pub held_in : K → (p : Ptr) (x : Option R.Denot)
        → Step K 𝓛 (‵ (Held.own_val (record { at = p; value = x }) (alone (ptr_val p) ∷ [])) ∷ Γ) G (‵ (owned_at R p x) ∷ Γ) G
    held_in t p x = step (λ s. let v : Val = alone (ptr_val p) in
        nothing t $ feq_i t (List Val) (ptr_val p ∷ []) (ptr_val p ∷ []) refl $ fjoin t $ feq_i t (List Val) (v ∷ []) (v ∷ []) refl $ fjoin t $
        fpack t (Valss (RawPtr ∷ [])) (within (shape (held.the_type R)) (p, tt) (v ∷ [])) (ptr_val p ∷ [], tt) $ fjoin t $ s)

  module _ {M : Type 1} {𝓤 : Ura M} (𝓛 : Logic 𝓤) where
    -- the pointer of a block may be compared with null
    tested : (p : Ptr) (x : R.Denot) → ent 𝓤 (sem 𝓛 (boxed p x)) (guard 𝓤 (Testable p) (sem 𝓛 (boxed p x)))
    tested p x = let τ : Ty = bare (lone R.mir) in
        fact_use 𝓤 (Testable p) (via 𝓤 _ (snd∗ 𝓤 (sem 𝓛 (points_to R p x)) (sem 𝓛 (freed τ p))) (dealloc_token-Testable 𝓛 heap τ p)) (guard_i 𝓤 (Testable p) (sem 𝓛 (boxed p x)))

  module _ {M : Type 1} {𝓤 : Ura M} {𝓛 : Logic 𝓤} {K : Type 0} {Γ : List (Item 𝓤)} {G : Goal 𝓤 𝓛.H} where
    -- at null nothing is held, and elsewhere a value
    pub either : K → (p : Ptr) (x : Option R.Denot) → (p ≡ null_ptr → x ≡ None → Seq K 𝓛 Γ G)
        → ((b o : ℕ) (y : R.Denot) → p ≡ block_ptr b o → x ≡ Some y → Testable (block_ptr b o) → Seq K 𝓛 (‵ (boxed (block_ptr b o) y) ∷ Γ) G)
        → Seq K 𝓛 (‵ (owned_at R p x) ∷ Γ) G
    either t null_ptr None none one = drop t $ none refl refl
    either t (block_ptr b o) None none one = use1 𝓛 (given ⊥ (‵ ftrue)) (never_e 𝓤 _) $ learn t (λ wrong. absurd wrong)
    either t null_ptr (Some y) none one = use1 𝓛 (given ⊥ (‵ ftrue)) (via 𝓤 (never 𝓤) (fst∗ 𝓤 (never 𝓤) (sem 𝓛 (freed (bare (lone R.mir)) null_ptr))) (never_e 𝓤 _)) $ learn t (λ wrong. absurd wrong)
    either t (block_ptr b o) (Some y) none one = use1 𝓛 (given (Testable (block_ptr b o)) (‵ (boxed (block_ptr b o) y))) (tested 𝓛 (block_ptr b o) y) $ learn t (λ may. one b o y refl refl may)

-- a pointer has its type, and so has a struct of one
pub pointer_good : (p : Ptr) → T (has_ty ty_ptr (ptr_val p)) × WT (ptr_val p)
pointer_good (block_ptr b o) = (tt, tt)
pointer_good null_ptr = (tt, record { fits = lit< tt })

pub alone_good : (ν : Sym) (p : Ptr) → T (has_ty (ty_struct ν (tcons ty_ptr tnil)) (alone (ptr_val p))) × WT (alone (ptr_val p))
alone_good ν (block_ptr b o) = (tt, (tt, tt))
alone_good ν null_ptr = (tt, (record { fits = lit< tt }, tt))
