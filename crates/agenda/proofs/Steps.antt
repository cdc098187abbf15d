-- One row more, and one match more.
use Rattle.agenda.proofs.Common.{◌≡◌, ℕ, ◌==◌, ◌&&◌, ◌||◌, not, Bool, true, false, cond, List, [], ◌∷◌, ℤ, refl, sym, ◌∙◌, ap, subst, eq_by_cmp, list_any, Row}
use Rattle.agenda.proofs.{Common.{row_cmp, has, Match, Ranked, match_cmp, has_match, rank_cmp, Well, AllWell, matches, match_parts}, Ranks.{updated}}
use Rattle.{row_delta.specs.RowOrder.{same_equiv}, fx_base.proofs.Tests.{cond_false_first, or_and_join}}

and_more : (o t a b : Bool) → ((o && not (t && a)) && not (t && b)) ≡ (o && not (t && (a || b)))
and_more false t a b = refl
and_more true false a b = refl
and_more true true true b = refl
and_more true true false b = refl

-- the rows that are still to come, this one before them
has_first : (r k : Row) (rows next : List Row) → rows ≡ k ∷ next → has rows r ≡ (eq_by_cmp row_cmp k r || has next r)
has_first r k rows next e = ap (λ (z : List Row). has z r) e ∙ ap (λ z. z || has next r) (same_equiv.symm r k)

pub taken_next : (rows next : List Row) (r k : Row) (t now new all : Bool) → rows ≡ k ∷ next
    → new ≡ (now && not (t && eq_by_cmp row_cmp k r)) → (now && not (t && has rows r)) ≡ all → (new && not (t && has next r)) ≡ all
taken_next rows next r k t now new all e step before =
    ap (λ z. z && not (t && has next r)) step ∙ and_more now t (eq_by_cmp row_cmp k r) (has next r)
    ∙ ap (λ z. now && not (t && z)) (sym (has_first r k rows next e)) ∙ before

pub put_next : (rows next : List Row) (r k : Row) (t now new all : Bool) → rows ≡ k ∷ next
    → new ≡ (now || (t && eq_by_cmp row_cmp k r)) → (now || (t && has rows r)) ≡ all → (new || (t && has next r)) ≡ all
put_next rows next r k t now new all e step before =
    ap (λ z. z || (t && has next r)) step ∙ or_and_join now t (eq_by_cmp row_cmp k r) (has next r)
    ∙ ap (λ z. now || (t && z)) (sym (has_first r k rows next e)) ∙ before

none_taken : (o t : Bool) → (o && not (t && false)) ≡ o
none_taken true true = refl
none_taken true false = refl
none_taken false t = refl

none_put : (o t : Bool) → (o || (t && false)) ≡ o
none_put true t = refl
none_put false true = refl
none_put false false = refl

pub all_taken : (rows : List Row) (r : Row) (t now all : Bool) → rows ≡ [] → (now && not (t && has rows r)) ≡ all → now ≡ all
all_taken rows r t now all e h = sym (ap (λ (z : List Row). now && not (t && has z r)) e ∙ none_taken now t) ∙ h

pub all_put : (rows : List Row) (r : Row) (t now all : Bool) → rows ≡ [] → (now || (t && has rows r)) ≡ all → now ≡ all
all_put rows r t now all e h = sym (ap (λ (z : List Row). now || (t && has z r)) e ∙ none_put now t) ∙ h

cond_true : (k o : Bool) → cond k true o ≡ (o || k)
cond_true true true = refl
cond_true true false = refl
cond_true false true = refl
cond_true false false = refl

pub parts : (n m : Match) (r : ℕ) (row : Row) → n.rule.0 ≡ r → n.row ≡ row → eq_by_cmp match_cmp n m ≡ (r == m.rule.0 && eq_by_cmp row_cmp row m.row)
parts n m r row e f =
    match_parts n.rule.0 n.row m ∙ ap (λ z. z == m.rule.0 && eq_by_cmp row_cmp n.row m.row) e ∙ ap (λ z. r == m.rule.0 && eq_by_cmp row_cmp z m.row) f

abbrev pub Updated : Ranked → List Ranked → List Ranked → Bool → Type 0
Updated k old new b = (q : Ranked) → list_any (eq_by_cmp rank_cmp q) new ≡ cond (eq_by_cmp rank_cmp k q) b (list_any (eq_by_cmp rank_cmp q) old)

abbrev pub UpdatedMatch : Match → List Match → List Match → Bool → Type 0
UpdatedMatch k old new b = (q : Match) → has_match new q ≡ cond (eq_by_cmp match_cmp k q) b (has_match old q)

pub pending_taken : (s : List ℤ) (k : Ranked) (old new : List Ranked) (r : ℕ) (row : Row) → AllWell s old → AllWell s new → Well s k → k.matched.rule.0 ≡ r → k.matched.row ≡ row
    → Updated k old new false → (m : Match) → has_match (matches new) m ≡ (has_match (matches old) m && not (r == m.rule.0 && eq_by_cmp row_cmp row m.row))
pending_taken s k old new r row o n w e f h m =
    updated s k old new false o n w h m ∙ cond_false_first (eq_by_cmp match_cmp k.matched m) (has_match (matches old) m) ∙ ap (λ z. has_match (matches old) m && not z) (parts k.matched m r row e f)

pub pending_put : (s : List ℤ) (k : Ranked) (old new : List Ranked) (r : ℕ) (row : Row) → AllWell s old → AllWell s new → Well s k → k.matched.rule.0 ≡ r → k.matched.row ≡ row
    → Updated k old new true → (m : Match) → has_match (matches new) m ≡ (has_match (matches old) m || (r == m.rule.0 && eq_by_cmp row_cmp row m.row))
pending_put s k old new r row o n w e f h m =
    updated s k old new true o n w h m ∙ cond_true (eq_by_cmp match_cmp k.matched m) (has_match (matches old) m) ∙ ap (λ z. has_match (matches old) m || z) (parts k.matched m r row e f)

pub fired_taken : (k : Match) (old new : List Match) (r : ℕ) (row : Row) → k.rule.0 ≡ r → k.row ≡ row
    → UpdatedMatch k old new false → (m : Match) → has_match new m ≡ (has_match old m && not (r == m.rule.0 && eq_by_cmp row_cmp row m.row))
fired_taken k old new r row e f h m = h m ∙ cond_false_first (eq_by_cmp match_cmp k m) (has_match old m) ∙ ap (λ z. has_match old m && not z) (parts k m r row e f)

pub fired_put : (k : Match) (old new : List Match) → UpdatedMatch k old new true → (m : Match) → has_match new m ≡ (has_match old m || eq_by_cmp match_cmp k m)
fired_put k old new h m = h m ∙ cond_true (eq_by_cmp match_cmp k m) (has_match old m)

pub pending_popped : (s : List ℤ) (k : Ranked) (old new : List Ranked) → AllWell s old → AllWell s new → Well s k → Updated k old new false
    → (m : Match) → has_match (matches new) m ≡ (has_match (matches old) m && not (eq_by_cmp match_cmp k.matched m))
pending_popped s k old new o n w h m = updated s k old new false o n w h m ∙ cond_false_first (eq_by_cmp match_cmp k.matched m) (has_match (matches old) m)

pub well_parts : (s : List ℤ) (ks ls : List Ranked) (k : Ranked) → AllWell s ks → ks ≡ k ∷ ls → Well s k × AllWell s ls
well_parts s ks ls k all e = subst (AllWell s) e all

pub any_matches : (p : Match → Bool) (ks : List Ranked) → list_any (λ (k : Ranked). p k.matched) ks ≡ list_any p (matches ks)
any_matches p [] = refl
any_matches p (k ∷ ks) = ap (λ z. p k.matched || z) (any_matches p ks)
