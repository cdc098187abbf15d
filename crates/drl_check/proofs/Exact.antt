-- The first failure as a function is the first failure as a relation.
use Rattle.drl_check.proofs.Common.{◌≡◌, ◌↔◌, inl, inr, ◌+◌, ◌++◌, ◌∷◌, ℕ, Bool, true, false, List, [], length, Option, Some, None, cond, refl, sym, ap, subst}
use Rattle.drl_check.proofs.Common.{◌∙◌, append_assoc, length-append, arith, append-nil, same_Some, Body, File, Item, CheckCode, TwiceDeclared, LimitPassed}
use Rattle.drl_check.proofs.Common.{UnknownType, UnknownField, UnknownVariable, WrongKind, NotAnEvent, BadTimestamp, BadReference, EventFixed, EventObserved}
use Rattle.drl_check.proofs.Common.{ReferenceFixed, BadParams, NeverMatches, Failure, codes_in_order, fails, first_code, FailsFirst, PassesChecks, AllPass}
use Rattle.drl_check.{proofs.Common.{IsAcceptedFile, IsFirstFailure, failure_at, failure_of}, specs.Checks.{failure_from}}

-- ---- codes

none_split : (b : Bool) (c : CheckCode) (o : Option CheckCode) → cond b (Some c) o ≡ None → (b ≡ false) × (o ≡ None)
none_split true c o e = absurd cc
none_split false c o e = (refl, e)

module _ (all before : List Item) (b : Body) where
  by_code : fails TwiceDeclared all before b ≡ false → fails LimitPassed all before b ≡ false → fails UnknownType all before b ≡ false
      → fails UnknownField all before b ≡ false → fails UnknownVariable all before b ≡ false → fails WrongKind all before b ≡ false → fails NotAnEvent all before b ≡ false
      → fails BadTimestamp all before b ≡ false → fails BadReference all before b ≡ false → fails EventFixed all before b ≡ false → fails EventObserved all before b ≡ false
      → fails ReferenceFixed all before b ≡ false → fails BadParams all before b ≡ false → fails NeverMatches all before b ≡ false
      → PassesChecks all before b
  by_code q r s t u v w x y z k l m n TwiceDeclared = q
  by_code q r s t u v w x y z k l m n LimitPassed = r
  by_code q r s t u v w x y z k l m n UnknownType = s
  by_code q r s t u v w x y z k l m n UnknownField = t
  by_code q r s t u v w x y z k l m n UnknownVariable = u
  by_code q r s t u v w x y z k l m n WrongKind = v
  by_code q r s t u v w x y z k l m n NotAnEvent = w
  by_code q r s t u v w x y z k l m n BadTimestamp = x
  by_code q r s t u v w x y z k l m n BadReference = y
  by_code q r s t u v w x y z k l m n EventFixed = z
  by_code q r s t u v w x y z k l m n EventObserved = k
  by_code q r s t u v w x y z k l m n ReferenceFixed = l
  by_code q r s t u v w x y z k l m n BadParams = m
  by_code q r s t u v w x y z k l m n NeverMatches = n

  passes_of : first_code codes_in_order all before b ≡ None → PassesChecks all before b
  passes_of e =
      let q = none_split (fails TwiceDeclared all before b) TwiceDeclared (first_code (LimitPassed ∷ UnknownType ∷ UnknownField ∷ UnknownVariable ∷ WrongKind ∷ NotAnEvent ∷ BadTimestamp ∷ BadReference ∷ EventFixed ∷ EventObserved ∷ ReferenceFixed ∷ BadParams ∷ NeverMatches ∷ []) all before b) e in
      let r = none_split (fails LimitPassed all before b) LimitPassed (first_code (UnknownType ∷ UnknownField ∷ UnknownVariable ∷ WrongKind ∷ NotAnEvent ∷ BadTimestamp ∷ BadReference ∷ EventFixed ∷ EventObserved ∷ ReferenceFixed ∷ BadParams ∷ NeverMatches ∷ []) all before b) q.1 in
      let s = none_split (fails UnknownType all before b) UnknownType (first_code (UnknownField ∷ UnknownVariable ∷ WrongKind ∷ NotAnEvent ∷ BadTimestamp ∷ BadReference ∷ EventFixed ∷ EventObserved ∷ ReferenceFixed ∷ BadParams ∷ NeverMatches ∷ []) all before b) r.1 in
      let t = none_split (fails UnknownField all before b) UnknownField (first_code (UnknownVariable ∷ WrongKind ∷ NotAnEvent ∷ BadTimestamp ∷ BadReference ∷ EventFixed ∷ EventObserved ∷ ReferenceFixed ∷ BadParams ∷ NeverMatches ∷ []) all before b) s.1 in
      let u = none_split (fails UnknownVariable all before b) UnknownVariable (first_code (WrongKind ∷ NotAnEvent ∷ BadTimestamp ∷ BadReference ∷ EventFixed ∷ EventObserved ∷ ReferenceFixed ∷ BadParams ∷ NeverMatches ∷ []) all before b) t.1 in
      let v = none_split (fails WrongKind all before b) WrongKind (first_code (NotAnEvent ∷ BadTimestamp ∷ BadReference ∷ EventFixed ∷ EventObserved ∷ ReferenceFixed ∷ BadParams ∷ NeverMatches ∷ []) all before b) u.1 in
      let w = none_split (fails NotAnEvent all before b) NotAnEvent (first_code (BadTimestamp ∷ BadReference ∷ EventFixed ∷ EventObserved ∷ ReferenceFixed ∷ BadParams ∷ NeverMatches ∷ []) all before b) v.1 in
      let x = none_split (fails BadTimestamp all before b) BadTimestamp (first_code (BadReference ∷ EventFixed ∷ EventObserved ∷ ReferenceFixed ∷ BadParams ∷ NeverMatches ∷ []) all before b) w.1 in
      let y = none_split (fails BadReference all before b) BadReference (first_code (EventFixed ∷ EventObserved ∷ ReferenceFixed ∷ BadParams ∷ NeverMatches ∷ []) all before b) x.1 in
      let z = none_split (fails EventFixed all before b) EventFixed (first_code (EventObserved ∷ ReferenceFixed ∷ BadParams ∷ NeverMatches ∷ []) all before b) y.1 in
      let k = none_split (fails EventObserved all before b) EventObserved (first_code (ReferenceFixed ∷ BadParams ∷ NeverMatches ∷ []) all before b) z.1 in
      let l = none_split (fails ReferenceFixed all before b) ReferenceFixed (first_code (BadParams ∷ NeverMatches ∷ []) all before b) k.1 in
      let m = none_split (fails BadParams all before b) BadParams (first_code (NeverMatches ∷ []) all before b) l.1 in
      let n = none_split (fails NeverMatches all before b) NeverMatches None m.1 in
      by_code q.0 r.0 s.0 t.0 u.0 v.0 w.0 x.0 y.0 z.0 k.0 l.0 m.0 n.0

  none_of : (cs : List CheckCode) → PassesChecks all before b → first_code cs all before b ≡ None
  none_of [] p = refl
  none_of (c ∷ cs) p = ap (λ v. cond v (Some c) (first_code cs all before b)) (p c) ∙ none_of cs p

  first_by : (v : Bool) (c code : CheckCode) (cs : List CheckCode) → fails c all before b ≡ v → cond v (Some c) (first_code cs all before b) ≡ Some code
      → (first_code cs all before b ≡ Some code → FailsFirst cs code all before b) → FailsFirst (c ∷ cs) code all before b
  first_by true c code cs f e k = inl (same_Some c code e, f)
  first_by false c code cs f e k = inr (f, k e)

  first_is : (cs : List CheckCode) (code : CheckCode) → first_code cs all before b ≡ Some code → FailsFirst cs code all before b
  first_is [] code e = absurd cc
  first_is (c ∷ cs) code e = first_by (fails c all before b) c code cs refl e (first_is cs code)

  is_first : (cs : List CheckCode) (code : CheckCode) → FailsFirst cs code all before b → first_code cs all before b ≡ Some code
  is_first [] code h = absurd h
  is_first (c ∷ cs) code (inl h) = ap (λ v. cond v (Some c) (first_code cs all before b)) h.1 ∙ ap Some h.0
  is_first (c ∷ cs) code (inr h) = ap (λ v. cond v (Some c) (first_code cs all before b)) h.0 ∙ is_first cs code h.1

-- ---- items

at_split : (n line : ℕ) (o : Option CheckCode) (rest : Option Failure) → failure_at n line o rest ≡ None → (o ≡ None) × (rest ≡ None)
at_split n line None rest e = (refl, e)
at_split n line (Some code) rest e = absurd cc

none_passes : (all before items : List Item) → failure_from all before items ≡ None → AllPass all before items
unfolding failure_from
none_passes all before [] e = tt
none_passes all before (item ∷ items) e =
    let s = at_split (length before + 1) item.line (first_code codes_in_order all before item.body) (failure_from all (before ++ item ∷ []) items) e in
    (passes_of all before item.body s.0, none_passes all (before ++ item ∷ []) items s.1)

passes_none : (all before items : List Item) → AllPass all before items → failure_from all before items ≡ None
unfolding failure_from
passes_none all before [] p = refl
passes_none all before (item ∷ items) p =
    ap (λ o. failure_at (length before + 1) item.line o (failure_from all (before ++ item ∷ []) items)) (none_of all before item.body codes_in_order p.0) ∙ passes_none all (before ++ item ∷ []) items p.1

-- ---- the first failure

record Found (all before items : List Item) (f : Failure) : Type 0 where
  pub front : List Item
  pub item : Item
  pub after : List Item
  pub parts : items ≡ front ++ (item ∷ after)
  pub earlier : (a : List Item) (p : Item) (c : List Item) → front ≡ a ++ (p ∷ c) → PassesChecks all (before ++ a) p.body
  pub number_is : f.number ≡ length before + length front + 1
  pub line_is : f.line ≡ item.line
  pub first : FailsFirst codes_in_order f.code all (before ++ front) item.body

nothing_before : (a : List Item) (p : Item) (c : List Item) → [] ≡ a ++ (p ∷ c) → ⊥
nothing_before [] p c e = cc
nothing_before (x ∷ a) p c e = cc

one_more : (before : List Item) (item : Item) (a : List Item) → (before ++ item ∷ []) ++ a ≡ before ++ (item ∷ a)
one_more before item a = append_assoc before (item ∷ []) a

earlier_more : (all before front : List Item) (item : Item) → PassesChecks all before item.body → ((a : List Item) (p : Item) (c : List Item) → front ≡ a ++ (p ∷ c) → PassesChecks all ((before ++ item ∷ []) ++ a) p.body)
    → (a : List Item) (p : Item) (c : List Item) → item ∷ front ≡ a ++ (p ∷ c) → PassesChecks all (before ++ a) p.body
earlier_more all before front item passes more [] p c e =
    let h : item ≡ p = cc in
    subst (λ (i : Item). PassesChecks all (before ++ []) i.body) h (subst (λ (bs : List Item). PassesChecks all bs item.body) (sym (append-nil before)) passes)
earlier_more all before front item passes more (x ∷ a) p c e =
    let h : item ≡ x = cc in
    let t : front ≡ a ++ (p ∷ c) = cc in
    subst (λ (i : Item). PassesChecks all (before ++ (i ∷ a)) p.body) h (subst (λ (bs : List Item). PassesChecks all bs p.body) (one_more before item a) (more a p c t))

found_at : (all before items : List Item) (item : Item) (f : Failure) (o : Option CheckCode) → first_code codes_in_order all before item.body ≡ o
    → failure_at (length before + 1) item.line o (failure_from all (before ++ item ∷ []) items) ≡ Some f → (failure_from all (before ++ item ∷ []) items ≡ Some f → Found all (before ++ item ∷ []) items f)
    → Found all before (item ∷ items) f
found_at all before items item f (Some code) h e k =
    let made : Failure = record { number = length before + 1; line = item.line; code = code } in
    let same : made ≡ f = same_Some made f e in
    subst (Found all before (item ∷ items)) same (record {
      front = [];
      item = item;
      after = items;
      parts = refl;
      earlier = λ a p c g. absurd (nothing_before a p c g);
      number_is = omega arith;
      line_is = refl;
      first = subst (λ (bs : List Item). FailsFirst codes_in_order code all bs item.body) (sym (append-nil before)) (first_is all before item.body codes_in_order code h);
    })
found_at all before items item f None h e k =
    let r = k e in
    record {
      front = item ∷ r.front;
      item = r.item;
      after = r.after;
      parts = ap (λ zs. item ∷ zs) r.parts;
      earlier = earlier_more all before r.front item (passes_of all before item.body h) r.earlier;
      number_is = omega (arith, r.number_is, length-append before (item ∷ []));
      line_is = r.line_is;
      first = subst (λ (bs : List Item). FailsFirst codes_in_order f.code all bs r.item.body) (one_more before item r.front) r.first;
    }

found : (all before items : List Item) (f : Failure) → failure_from all before items ≡ Some f → Found all before items f
unfolding failure_from
found all before [] f e = absurd cc
found all before (item ∷ items) f e = found_at all before items item f (first_code codes_in_order all before item.body) refl e (found all (before ++ item ∷ []) items f)

refound : (all before front : List Item) (item : Item) (after : List Item) (f : Failure) → ((a : List Item) (p : Item) (c : List Item) → front ≡ a ++ (p ∷ c) → PassesChecks all (before ++ a) p.body)
    → f.number ≡ length before + length front + 1 → f.line ≡ item.line → FailsFirst codes_in_order f.code all (before ++ front) item.body → failure_from all before (front ++ (item ∷ after)) ≡ Some f
unfolding failure_from
refound all before [] item after f earlier n l first =
    let h : FailsFirst codes_in_order f.code all before item.body = subst (λ (bs : List Item). FailsFirst codes_in_order f.code all bs item.body) (append-nil before) first in
    let number : length before + 1 ≡ f.number = omega (arith, n) in
    let made : ℕ → ℕ → Failure = λ n l. record { number = n; line = l; code = f.code } in
    ap (λ o. failure_at (length before + 1) item.line o (failure_from all (before ++ item ∷ []) after)) (is_first all before item.body codes_in_order f.code h)
    ∙ ap (λ n. Some (made n item.line)) number ∙ ap (λ l. Some (made f.number l)) (sym l)
refound all before (x ∷ front) item after f earlier n l first =
    let passes : PassesChecks all before x.body = subst (λ (bs : List Item). PassesChecks all bs x.body) (append-nil before) (earlier [] x front refl) in
    ap (λ o. failure_at (length before + 1) x.line o (failure_from all (before ++ x ∷ []) (front ++ (item ∷ after)))) (none_of all before x.body codes_in_order passes)
    ∙ refound all (before ++ x ∷ []) front item after f
    (λ a p c e. subst (λ (bs : List Item). PassesChecks all bs p.body) (sym (one_more before x a)) (earlier (x ∷ a) p c (ap (λ zs. x ∷ zs) e)))
    (omega (arith, n, length-append before (x ∷ []))) l
    (subst (λ (bs : List Item). FailsFirst codes_in_order f.code all bs item.body) (sym (one_more before x front)) first)

pub exact_none : (file : File) → failure_of file ≡ None ↔ IsAcceptedFile file
exact_none file = (none_passes file.items [] file.items, passes_none file.items [] file.items)

pub is_first_failure : (file : File) (f : Failure) → failure_of file ≡ Some f → IsFirstFailure file f.number f.line f.code
is_first_failure file f e =
    let r = found file.items [] file.items f e in
    record {
      before = r.front;
      item = r.item;
      after = r.after;
      parts = r.parts;
      earlier = r.earlier;
      number_is = omega (arith, r.number_is);
      line_is = r.line_is;
      first = r.first;
    }

pub first_failure_is : (file : File) (f : Failure) → IsFirstFailure file f.number f.line f.code → failure_of file ≡ Some f
first_failure_is file f r =
    ap (failure_from file.items []) r.parts ∙ refound file.items [] r.before r.item r.after f r.earlier (omega (arith, r.number_is)) r.line_is r.first

pub one_first : (file : File) (f g : Failure) → IsFirstFailure file f.number f.line f.code → IsFirstFailure file g.number g.line g.code → f ≡ g
one_first file f g a b = same_Some f g (sym (first_failure_is file f a) ∙ first_failure_is file g b)
