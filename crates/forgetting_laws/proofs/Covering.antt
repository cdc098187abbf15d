-- What a retention covers as the store changes.
use Rattle.forgetting_laws.proofs.Common.{◌≡◌, ℤ, ◌==◌, Bool, true, false, cond, not, refl, sym, ◌∙◌, ap, subst, Option, Some, None, option_and_then, Fact}
use Rattle.forgetting_laws.proofs.Common.{lingers, Covers, without, later_law, same_covered, Lives, is_needed, ends_of, brought, changed, with_end, hold_law}
use Rattle.forgetting_laws.{proofs.Common.{release_law}, specs.Covering.{LaterCovers, FreeCovers, InsertCovers, RetractCovers, EndlessCovers}}
use Rattle.fx_base.proofs.Orders.{eqb-flip}

pub later_covers : LaterCovers
later_covers lives w now s holds le = later_law (ends_of lives s.store) w.clock now (is_needed w) s.retention le holds.watched

pub free_covers : FreeCovers
free_covers lives now tag s covers free =
    covers.due tag ∙ by (lingers s.retention tag) (ends_of lives s.store tag) (ap (option_and_then lives) free)
  where
    by : (l : Bool) (o : Option ℤ) → o ≡ None → cond l None o ≡ None
    by true o e = refl
    by false o e = e

put_end : (lives : Lives) (f : Fact) (at : ℤ) (t : Bool) (o : Option Fact) → lives f ≡ Some at
    → cond t (Some at) (option_and_then lives o) ≡ option_and_then lives (changed (cond t (Some f) None) (λ g. false) o)
put_end lives f at true o e = sym e
put_end lives f at false None e = refl
put_end lives f at false (Some g) e = refl

pub insert_covers : InsertCovers
insert_covers lives f at now before middle covers new life store due lingering =
    same_covered (with_end (ends_of lives before.store) f.tag.0 at) (ends_of lives middle.store) now middle.retention
    (λ tag.
    ap (λ t. cond t (Some at) (ends_of lives before.store tag)) (eqb-flip tag f.tag.0)
    ∙ put_end lives f at (f.tag.0 == tag) (before.store tag) life ∙ ap (option_and_then lives) (sym (store tag)))
    (hold_law (ends_of lives before.store) now at f.tag.0 before.retention middle.retention covers (ap (option_and_then lives) new) due lingering).1

out_end : (lives : Lives) (out : Fact → Bool) (t : Bool) (o : Option Fact) → ((f : Fact) → o ≡ Some f → out f ≡ t) → cond t None (option_and_then lives o) ≡ option_and_then lives (changed None out o)
out_end lives out true None e = refl
out_end lives out false None e = refl
out_end lives out true (Some f) e = ap (λ g. option_and_then lives (cond (not g) (Some f) None)) (sym (e f refl))
out_end lives out false (Some f) e = ap (λ g. option_and_then lives (cond (not g) (Some f) None)) (sym (e f refl))

pub retract_covers : RetractCovers
retract_covers lives out gone now before middle covers one store due lingering =
    same_covered (without (ends_of lives before.store) (λ tag. tag == gone)) (ends_of lives middle.store) now middle.retention
    (λ tag. out_end lives out (tag == gone) (before.store tag) (one tag) ∙ ap (option_and_then lives) (sym (store tag)))
    (release_law (ends_of lives before.store) now gone before.retention middle.retention covers due lingering)

same_end : (lives : Lives) (new : Option Fact) (out : Fact → Bool) (o : Option Fact) → ((f : Fact) → new ≡ Some f → (o ≡ None) × (lives f ≡ None))
    → ((f : Fact) → o ≡ Some f → out f ≡ true → lives f ≡ None) → option_and_then lives o ≡ option_and_then lives (changed new out o)
same_end lives (Some f) out o fresh endless = let e = fresh f refl in ap (option_and_then lives) e.0 ∙ sym e.1
same_end lives None out None fresh endless = refl
same_end lives None out (Some f) fresh endless = by (out f) (endless f refl)
  where
    by : (g : Bool) → (g ≡ true → lives f ≡ None) → lives f ≡ option_and_then lives (cond (not g) (Some f) None)
    by true e = e refl
    by false e = refl

pub endless_covers : EndlessCovers
endless_covers lives new out now before middle covers fresh endless store same =
    subst (Covers (ends_of lives middle.store) now) (sym same)
    (same_covered (ends_of lives before.store) (ends_of lives middle.store) now before.retention
    (λ tag. same_end lives (brought new tag) out (before.store tag) (fresh tag) (endless tag) ∙ ap (option_and_then lives) (sym (store tag))) covers)
