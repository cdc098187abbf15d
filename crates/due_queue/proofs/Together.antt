-- Two maps whose keys are apart, as one.
use Rattle.due_queue.proofs.Common.{◌≡◌, ◌∙◌, sym, ap, refl, List, [], ◌∷◌, Bool, true, false, cond, not, Option, Some, None, ◌⊎◌, inl, inr, Ordering, is_gt}
use Rattle.due_queue.proofs.Common.{is_at, eq_by_cmp_equiv, IsTotalOrder, upto, found, pair_cmp, is_moment, is_due, Bound, is_past_end, is_eq-true, length}
use Rattle.due_queue.{proofs.{Common.{arith, IfNone}, Orders.{pair_total, gt_first, past_later, past_same}}, specs.Rising.{AreApart, Leads}}
use Rattle.std.{specs.Prelude.{◌++◌, ◌+◌, is_some, IsSomeAnd, IfSome}, proofs.lemmas.List.{length-append}}

-- the first of two that is there
abbrev pub either : {X : Type 0} → Option X → Option X → Option X
either None p = p
either (Some x) p = Some x

chosen : {X : Type 0} (b : Bool) (o p f g : Option X) → either (cond b o f) (cond b p g) ≡ cond b (either o p) (either f g)
chosen true o p f g = refl
chosen false o p f g = refl

module _ {M K V : Type 0} (keys : K → K → Ordering) where
  found_append : (some others : List (K × (M × V))) (k : K) → found keys (some ++ others) k ≡ either (found keys some k) (found keys others k)
  found_append [] others k = refl
  found_append (x ∷ some) others k = elim (is_at (keys k) x.0) as (λ b. cond b (Some x.1) (found keys (some ++ others) k) ≡ either (cond b (Some x.1) (found keys some k)) (found keys others k)) [
    | true ↦ refl
    | false ↦ found_append some others k
  ]

  -- what is found in both
  pub in_some : (some others : List (K × (M × V))) (k : K) (one : M × V) → found keys some k ≡ Some one → found keys (some ++ others) k ≡ Some one
  in_some some others k one e = found_append some others k ∙ ap (λ o. either o (found keys others k)) e

  pub in_others : (some others : List (K × (M × V))) (k : K) → found keys some k ≡ None → found keys (some ++ others) k ≡ found keys others k
  in_others some others k e = found_append some others k ∙ ap (λ o. either o (found keys others k)) e

  pub not_others : (some others : List (K × (M × V))) (k : K) → found keys others k ≡ None → found keys (some ++ others) k ≡ found keys some k
  not_others some others k e = found_append some others k ∙ ap (either (found keys some k)) e ∙ none_behind (found keys some k)
    where
      none_behind : (o : Option (M × V)) → either o None ≡ o
      none_behind None = refl
      none_behind (Some one) = refl

  pub split : (some others : List (K × (M × V))) (k : K) → (found keys (some ++ others) k ≡ found keys some k) ⊎ (found keys (some ++ others) k ≡ found keys others k)
  split some others k = by (found keys some k) refl
    where
      by : (o : Option (M × V)) → found keys some k ≡ o → (found keys (some ++ others) k ≡ found keys some k) ⊎ (found keys (some ++ others) k ≡ found keys others k)
      by None e = inr (in_others some others k e)
      by (Some one) e = inl (in_some some others k one e ∙ sym e)

  pub split_back : (some others : List (K × (M × V))) (k : K) → (found keys (some ++ others) k ≡ found keys others k) ⊎ (found keys (some ++ others) k ≡ found keys some k)
  split_back some others k = elim (split some others k) [
    | inl e ↦ inr e
    | inr e ↦ inl e
  ]

  pub not_some : (some others : List (K × (M × V))) (k : K) (one : M × V) → AreApart keys some others → found keys others k ≡ Some one → found keys some k ≡ None
  unfolding AreApart
  not_some some others k one apart e = by (found keys some k) refl
    where
      by : (o : Option (M × V)) → found keys some k ≡ o → o ≡ None
      by None f = refl
      by (Some x) f = let g : Some one ≡ None = sym e ∙ apart k (ap is_some f) in absurd (cc)

  pub not_other : (some others : List (K × (M × V))) (k : K) (one : M × V) → AreApart keys some others → found keys some k ≡ Some one → found keys others k ≡ None
  unfolding AreApart
  not_other some others k one apart e = apart k (ap is_some e)

  pub in_other : (some others : List (K × (M × V))) (k : K) (one : M × V) → AreApart keys some others → found keys others k ≡ Some one → found keys (some ++ others) k ≡ Some one
  in_other some others k one apart e = in_others some others k (not_some some others k one apart e) ∙ e

  -- a key comes or goes in both
  module _ (some others next left : List (K × (M × V))) (key : K) (o p : Option (M × V)) (in_next : (k : K) → found keys next k ≡ cond (is_at (keys key) k) o (found keys some k))
      (in_left : (k : K) → found keys left k ≡ cond (is_at (keys key) k) p (found keys others k)) where
    pub both_change : (k : K) → found keys (next ++ left) k ≡ cond (is_at (keys key) k) (either o p) (found keys (some ++ others) k)
    both_change k =
        found_append next left k ∙ ap (λ x. either x (found keys left k)) (in_next k) ∙ ap (either (cond (is_at (keys key) k) o (found keys some k))) (in_left k)
        ∙ chosen (is_at (keys key) k) o p (found keys some k) (found keys others k) ∙ ap (cond (is_at (keys key) k) (either o p)) (sym (found_append some others k))

    pub stay_apart : AreApart keys some others → (is_some o ≡ true → p ≡ None) → AreApart keys next left
    unfolding AreApart
    stay_apart apart one k e = in_left k ∙ by (is_at (keys key) k) (sym (ap is_some (in_next k)) ∙ e)
      where
        by : (b : Bool) → is_some (cond b o (found keys some k)) ≡ true → cond b p (found keys others k) ≡ None
        by true f = one f
        by false f = apart k f

module _ {M K V : Type 0} {moments : M → M → Ordering} {keys : K → K → Ordering} (mt : IsTotalOrder moments) (kt : IsTotalOrder keys) (these others both : List (K × (M × V))) (leads : Leads moments keys these others)
    (split : (k : K) → (found keys both k ≡ found keys these k) ⊎ (found keys both k ≡ found keys others k)) where
  -- the first of those that lead is the first of both
  pub first_of_both : (first : M × K) → ((at : M) (key : K) → is_moment moments at (found keys these key) ≡ true → is_gt (pair_cmp moments keys first (at, key)) ≡ false)
      → (at : M) (key : K) → is_moment moments at (found keys both key) ≡ true → is_gt (pair_cmp moments keys first (at, key)) ≡ false
  first_of_both first least at key e = elim (split key) [
    | inl f ↦ least at key (sym (ap (is_moment moments at) f) ∙ e)
    | inr f ↦ let l = leads (at, key) (sym (ap (is_moment moments at) f) ∙ e) in upto (pair_total mt kt) first l.0 (at, key) (least l.0.0 l.0.1 l.1) l.2
  ]

  pub least_of_both : (o : Option (M × K)) → ((at : M) (key : K) → is_moment moments at (found keys these key) ≡ true → IsSomeAnd o (λ first. is_gt (pair_cmp moments keys first (at, key)) ≡ false))
      → (at : M) (key : K) → is_moment moments at (found keys both key) ≡ true → IsSomeAnd o (λ first. is_gt (pair_cmp moments keys first (at, key)) ≡ false)
  least_of_both (Some first) least at key e = first_of_both first least at key e
  least_of_both None least at key e = elim (split key) [
    | inl f ↦ least at key (sym (ap (is_moment moments at) f) ∙ e)
    | inr f ↦ let l = leads (at, key) (sym (ap (is_moment moments at) f) ∙ e) in absurd (least l.0.0 l.0.1 l.1)
  ]

  -- where none of those that lead is due, none of both is
  pub none_of_both : (bound : Bound M) → ((k : K) → is_due moments bound (found keys these k) ≡ false) → (k : K) → is_due moments bound (found keys both k) ≡ false
  none_of_both bound none k = elim (split k) [
    | inl f ↦ ap (is_due moments bound) f ∙ none k
    | inr f ↦ ap (is_due moments bound) f ∙ by (found keys others k) refl
  ]
    where
      past : (at : M) (o : Option (M × V)) → is_moment moments at o ≡ true → is_due moments bound o ≡ false → is_past_end moments bound at ≡ true
      past at None e f = let g : false ≡ true = e in cc
      past at (Some one) e f = sym (past_same mt bound one.0 at (is_eq-true (moments one.0 at) e)) ∙ yes (is_past_end moments bound one.0) f
        where
          yes : (b : Bool) → not b ≡ false → b ≡ true
          yes true e = refl
          yes false e = let f : true ≡ false = e in cc

      by : (o : Option (M × V)) → found keys others k ≡ o → is_due moments bound o ≡ false
      by None e = refl
      by (Some one) e =
          let l = leads (one.0, k) (ap (is_moment moments one.0) e ∙ (eq_by_cmp_equiv mt).refl one.0) in
          ap not (past_later mt bound l.0.0 one.0 (gt_first (moments l.0.0 one.0) (keys l.0.1 k) l.2) (past l.0.0 (found keys these l.0.1) l.1 (none l.0.1)))

-- ---- what a call has taken, if anything

pub if_both : {X : Type 0} {P Q R : X → Type 0} (o : Option X) → IfSome o P → IfSome o Q → ((x : X) → P x → Q x → R x) → IfSome o R
if_both None p q f = tt
if_both (Some x) p q f = f x p q

pub if_none : {X : Type 0} {Q R : Type 0} (o : Option X) → IfNone o Q → (Q → R) → IfNone o R
if_none None q f = f q
if_none (Some x) q f = tt

pub either_way : {X : Type 0} {P Q : X → Type 0} {N R : Type 0} (o : Option X) → IfSome o P → IfSome o Q → IfNone o N → ((x : X) → P x → Q x → R) → (N → R) → R
either_way None p q n f h = h n
either_way (Some x) p q n f h = f x p q

pub fewer_some : {X : Type 0} (next some others : List X) → length next + 1 ≡ length some → length (next ++ others) + 1 ≡ length (some ++ others)
fewer_some next some others e = let a = length-append next others in let b = length-append some others in omega arith

pub fewer_others : {X : Type 0} (some left others : List X) → length left + 1 ≡ length others → length (some ++ left) + 1 ≡ length (some ++ others)
fewer_others some left others e = let a = length-append some left in let b = length-append some others in omega arith

module _ {M K V : Type 0} (moments : M → M → Ordering) (keys : K → K → Ordering) (some others : List (K × (M × V))) (at : M) (key : K) where
  -- a key that waits in one waits in both
  pub moment_in_some : is_moment moments at (found keys some key) ≡ true → is_moment moments at (found keys (some ++ others) key) ≡ true
  moment_in_some waits = by (found keys some key) refl waits
    where
      by : (o : Option (M × V)) → found keys some key ≡ o → is_moment moments at o ≡ true → is_moment moments at (found keys (some ++ others) key) ≡ true
      by None e f = let g : false ≡ true = f in absurd (cc)
      by (Some one) e f = ap (is_moment moments at) (in_some keys some others key one e) ∙ f

  pub moment_in_other : AreApart keys some others → is_moment moments at (found keys others key) ≡ true → is_moment moments at (found keys (some ++ others) key) ≡ true
  moment_in_other apart waits = by (found keys others key) refl waits
    where
      by : (o : Option (M × V)) → found keys others key ≡ o → is_moment moments at o ≡ true → is_moment moments at (found keys (some ++ others) key) ≡ true
      by None e f = let g : false ≡ true = f in absurd (cc)
      by (Some one) e f = ap (is_moment moments at) (in_other keys some others key one apart e) ∙ f

-- where the least moment is not due, none is
pub none_due_least : {M K V : Type 0} {moments : M → M → Ordering} (mt : IsTotalOrder moments) (keys : K → K → Ordering) (bound : Bound M) (waiting : List (K × (M × V))) (o : Option (M × K))
    → ((at : M) (key : K) → is_moment moments at (found keys waiting key) ≡ true → IsSomeAnd o (λ first. is_gt (pair_cmp moments keys first (at, key)) ≡ false)) → IfSome o (λ first. is_past_end moments bound first.0 ≡ true)
    → (k : K) → is_due moments bound (found keys waiting k) ≡ false
none_due_least {M = M} {V = V} {moments = moments} mt keys bound waiting o least past k = by (found keys waiting k) refl
  where
    later : (o : Option (M × _)) (at : M) → IsSomeAnd o (λ first. is_gt (pair_cmp moments keys first (at, k)) ≡ false) → IfSome o (λ first. is_past_end moments bound first.0 ≡ true) → is_past_end moments bound at ≡ true
    later None at some past = absurd some
    later (Some first) at some past = past_later mt bound first.0 at (gt_first (moments first.0 at) (keys first.1 k) some) past

    by : (p : Option (M × V)) → found keys waiting k ≡ p → is_due moments bound p ≡ false
    by None e = refl
    by (Some one) e = ap not (later o one.0 (least one.0 k (ap (is_moment moments one.0) e ∙ (eq_by_cmp_equiv mt).refl one.0)) past)
