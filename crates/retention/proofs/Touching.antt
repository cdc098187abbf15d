-- One tag that is looked at, and lists of them.
use Rattle.retention.proofs.Common.{◌≡◌, ℕ, ℤ, ◌+◌, ◌<◌, ◌==◌, ◌&&◌, ◌||◌, Bool, true, false, cond, not, List, [], ◌∷◌, take, length, get_or, refl, sym, ◌∙◌}
use Rattle.retention.proofs.Common.{ap, nat_eq, filter, map, Option, Some, None, list_any, nat_cmp, eq_by_cmp, and-false, or-true, or-false, Decides-eqb}
use Rattle.{retention.proofs.Common.{nat_cmp_total, list_any_more, Timers, is_tag_among}, std.specs.{Bool.{OnTrue, OnFalse}, Option.{is_some}}}
use Rattle.std.specs.FinMap as map
use Rattle.fx_base.{specs.declared.ids.Tag.{Tag}, proofs.{Orders.{eq_by_nat_cmp-turned}, Tests.{cond_false_first}}}

at_one : {A : Type 0} (t : Bool) (q tag : ℕ) (f : ℕ → A) (y : A) → (q == tag) ≡ t → cond t (f tag) y ≡ cond t (f q) y
at_one true q tag f y e = ap f (sym ((Decides-eqb q tag).0 e))
at_one false q tag f y e = refl

-- the tag that is looked at has what is said of it, and the others stay
pub settled : (q tag : ℕ) (named : ℕ → Bool) (is now old : Bool) → named tag ≡ is → now ≡ cond (eq_by_cmp nat_cmp tag q) is old → now ≡ cond (q == tag) (named q) old
settled q tag named is now old e h =
    h ∙ ap (λ t. cond t is old) (eq_by_nat_cmp-turned tag q) ∙ ap (λ x. cond (q == tag) x old) (sym e) ∙ at_one (q == tag) q tag named old refl

put_one : (t n old : Bool) → (t ≡ true → n ≡ false) → cond t true old ≡ (old || (t && not n))
put_one true true old e = let f : true ≡ false = e refl in cc
put_one true false old e = sym (or-true old)
put_one false n old e = sym (or-false old)

pub put_old : (q tag : ℕ) (named : ℕ → Bool) (now old : Bool) → named tag ≡ false → now ≡ cond (eq_by_cmp nat_cmp tag q) true old → now ≡ (old || ((q == tag) && not (named q)))
put_old q tag named now old e h =
    h ∙ ap (λ t. cond t true old) (eq_by_nat_cmp-turned tag q) ∙ put_one (q == tag) (named q) old (λ t. ap named ((Decides-eqb q tag).0 t) ∙ e)

cond_more : (a b n o : Bool) → cond b n (cond a n o) ≡ cond (a || b) n o
cond_more true true n o = refl
cond_more true false n o = refl
cond_more false b n o = refl

or_more : (a b m o : Bool) → ((o || (a && m)) || (b && m)) ≡ (o || ((a || b) && m))
or_more a b m true = refl
or_more true b true false = refl
or_more true true false false = refl
or_more true false false false = refl
or_more false b m false = refl

pub linger_more : (q : ℕ) (tags : List ℕ) (i : ℕ) (n o mid now : Bool) → i < length tags
    → mid ≡ cond (list_any (nat_eq q) (take i tags)) n o → now ≡ cond (q == get_or tags i 0) n mid → now ≡ cond (list_any (nat_eq q) (take (i + 1) tags)) n o
linger_more q tags i n o mid now lt before after =
    after ∙ ap (λ z. cond (q == get_or tags i 0) n z) before ∙ cond_more (list_any (nat_eq q) (take i tags)) (q == get_or tags i 0) n o
    ∙ ap (λ z. cond z n o) (sym (list_any_more (nat_eq q) tags i 0 lt))

pub old_more : (q : ℕ) (tags : List ℕ) (i : ℕ) (m o mid now : Bool) → i < length tags
    → mid ≡ (o || (list_any (nat_eq q) (take i tags) && m)) → now ≡ (mid || ((q == get_or tags i 0) && m)) → now ≡ (o || (list_any (nat_eq q) (take (i + 1) tags) && m))
old_more q tags i m o mid now lt before after =
    after ∙ ap (λ z. z || ((q == get_or tags i 0) && m)) before ∙ or_more (list_any (nat_eq q) (take i tags)) (q == get_or tags i 0) m o
    ∙ ap (λ z. o || (z && m)) (sym (list_any_more (nat_eq q) tags i 0 lt))

found_one : (px pq t a b : Bool) → (t ≡ true → pq ≡ px) → b ≡ (pq && a) → cond px (t || b) b ≡ (pq && (t || a))
found_one true true true a b e h = refl
found_one true false true a b e h = let f : false ≡ true = e refl in cc
found_one false true true a b e h = let f : true ≡ false = e refl in cc
found_one false false true a b e h = h
found_one true pq false a b e h = h
found_one false pq false a b e h = h

any_cond : (p : ℕ → Bool) (t : Bool) (xs ys : List ℕ) → list_any p (cond t xs ys) ≡ cond t (list_any p xs) (list_any p ys)
any_cond p true xs ys = refl
any_cond p false xs ys = refl

-- a tag is among those that a set has of a list where the set has it and it is in the list
pub found_in : (p : ℕ → Bool) (q : ℕ) (tags : List Tag) → list_any (nat_eq q) (filter p (map (λ (t : Tag). t.0) tags)) ≡ (p q && is_tag_among tags q)
found_in p q [] = sym (and-false (p q))
found_in p q (t ∷ tags) =
    any_cond (nat_eq q) (p t.0) (t.0 ∷ filter p (map (λ (x : Tag). x.0) tags)) (filter p (map (λ (x : Tag). x.0) tags))
    ∙ found_one (p t.0) (p q) (q == t.0) (is_tag_among tags q) (list_any (nat_eq q) (filter p (map (λ (x : Tag). x.0) tags))) (λ e. ap p ((Decides-eqb q t.0).0 e)) (found_in p q tags)

none_of : (o : Option ℤ) → is_some o ≡ false → o ≡ None
none_of None e = refl
none_of (Some at) e = let f : true ≡ false = e in cc

absent : (m : Timers) (k q : ℕ) (t : Bool) → eq_by_cmp nat_cmp q k ≡ t → map.contains_key m k ≡ false → map.get m q ≡ cond t None (map.get m q)
absent m k q true e lacks = ap (map.get m) (sym ((Decides-eqb k q).0 (sym (eq_by_nat_cmp-turned q k) ∙ e))) ∙ none_of (map.get m k) lacks
absent m k q false e lacks = refl

-- what is not there need not be taken out
pub removed_or_not : (t : Bool) (k : ℕ) (old now : Timers) → t ≡ map.contains_key old k → OnTrue t (now ≡ map.remove old k) → OnFalse t (now ≡ old) → now ≡ map.remove old k
removed_or_not true k old now found took stays = took
removed_or_not false k old now found took stays =
    stays ∙ map.same_map nat_cmp_total map.nat_cmp-IsAntisymmetric old (map.remove old k)
    (λ q. absent old k q (eq_by_cmp nat_cmp q k) refl (sym found) ∙ sym (map.get-remove nat_cmp_total old k q))

pub released : (q tag : ℕ) (now old : Bool) → now ≡ cond (eq_by_cmp nat_cmp tag q) false old → now ≡ (old && not (q == tag))
released q tag now old h = h ∙ ap (λ t. cond t false old) (eq_by_nat_cmp-turned tag q) ∙ cond_false_first (q == tag) old
