-- The loops over the members of a list.
use Rattle.drl_phrase.proofs.Common.{◌≡◌, ℕ, zero, suc, ◌-◌, ◌+◌, ◌<◌, ◌≤◌, List, [], ◌∷◌, ◌++◌, length, Some, None, refl, sym, ap, ◌∙◌, append_assoc, arith}
use Rattle.drl_phrase.{proofs.Common.{TokenKind, Read, Punctuation, after, with_first, with_front}, specs.Reading.{more_at, separated_at, turns_at, many_at}}
use Rattle.std.proofs.lemmas.List.{append-nil}

nothing_before : {A : Type 0} (o : Read (List A)) → with_front [] o ≡ o
nothing_before None = refl
nothing_before (Some x) = refl

regroup : {A : Type 0} (front : List A) (x : A) (read : Read (List A)) → with_front front (with_first x read) ≡ with_front (front ++ x ∷ []) read
regroup front x None = refl
regroup {A} front x (Some xs) = ap (λ (ys : List A). Some (ys, xs.1)) (simp append_assoc)

-- ---- members with a separator between them

pub no_first : {A : Type 0} (read : List TokenKind → Read A) (s : Punctuation) (ts : List TokenKind) → read ts ≡ None → separated_at read s ts ≡ None
unfolding separated_at
no_first read s ts h = rw h refl

pub begins : {A : Type 0} (read : List TokenKind → Read A) (s : Punctuation) (ts rest : List TokenKind) (x : A) → read ts ≡ Some (x, rest)
    → with_front (x ∷ []) (more_at read s (length ts - 0) rest) ≡ separated_at read s ts
unfolding separated_at
begins read s ts rest x h = let k : length ts - 0 ≡ length ts = omega arith in rw (k, h) refl

pub goes_on : {A : Type 0} (read : List TokenKind → Read A) (s : Punctuation) (front : List A) (count i : ℕ) (ts next rest : List TokenKind) (x : A) (total : Read (List A)) → i < count
    → after s ts ≡ Some next → read next ≡ Some (x, rest) → with_front front (more_at read s (count - i) ts) ≡ total
    → with_front (front ++ x ∷ []) (more_at read s (count - (i + 1)) rest) ≡ total
unfolding more_at
goes_on read s front count i ts next rest x total lt is_next is_x so_far =
    let k : count - i ≡ suc (count - (i + 1)) = omega arith in
    let turn : with_front front (more_at read s (count - i) ts) ≡ with_front (front ++ x ∷ []) (more_at read s (count - (i + 1)) rest) = rw (k, is_next, is_x) (regroup front x (more_at read s (count - (i + 1)) rest)) in
    sym turn ∙ so_far

pub ends : {A : Type 0} (read : List TokenKind → Read A) (s : Punctuation) (front : List A) (count i : ℕ) (ts : List TokenKind) (total : Read (List A)) → i < count
    → after s ts ≡ None → with_front front (more_at read s (count - i) ts) ≡ total → total ≡ Some (front, ts)
unfolding more_at
ends {A} read s front count i ts total lt no_mark so_far =
    let k : count - i ≡ suc (count - (i + 1)) = omega arith in
    let turn : with_front front (more_at read s (count - i) ts) ≡ Some (front, ts) = rw (k, no_mark) (ap (λ (ys : List A). Some (ys, ts)) (append-nil front)) in
    sym so_far ∙ turn

pub stops : {A : Type 0} (read : List TokenKind → Read A) (s : Punctuation) (front : List A) (count i : ℕ) (ts next : List TokenKind) (total : Read (List A)) → i < count
    → after s ts ≡ Some next → read next ≡ None → with_front front (more_at read s (count - i) ts) ≡ total → total ≡ None
unfolding more_at
stops read s front count i ts next total lt is_next no_member so_far =
    let k : count - i ≡ suc (count - (i + 1)) = omega arith in
    let turn : with_front front (more_at read s (count - i) ts) ≡ None = rw (k, is_next, no_member) refl in
    sym so_far ∙ turn

pub no_turn_left : {A : Type 0} (read : List TokenKind → Read A) (s : Punctuation) (front : List A) (count i : ℕ) (ts : List TokenKind) (total : Read (List A)) → count ≤ i
    → with_front front (more_at read s (count - i) ts) ≡ total → total ≡ Some (front, ts)
unfolding more_at
no_turn_left {A} read s front count i ts total le so_far =
    let k : count - i ≡ 0 = omega arith in
    let turn : with_front front (more_at read s (count - i) ts) ≡ Some (front, ts) = rw k (ap (λ (ys : List A). Some (ys, ts)) (append-nil front)) in
    sym so_far ∙ turn

-- ---- as many as there are

pub many_begins : {A : Type 0} (read : List TokenKind → Read A) (ts : List TokenKind) → with_front [] (turns_at read (length ts - 0) ts) ≡ many_at read ts
unfolding many_at
many_begins read ts = let k : length ts - 0 ≡ length ts = omega arith in rw k (nothing_before (turns_at read (length ts) ts))

pub many_goes_on : {A : Type 0} (read : List TokenKind → Read A) (front : List A) (count i : ℕ) (ts rest : List TokenKind) (x : A) (total : Read (List A)) → i < count
    → read ts ≡ Some (x, rest) → with_front front (turns_at read (count - i) ts) ≡ total → with_front (front ++ x ∷ []) (turns_at read (count - (i + 1)) rest) ≡ total
unfolding turns_at
many_goes_on read front count i ts rest x total lt is_x so_far =
    let k : count - i ≡ suc (count - (i + 1)) = omega arith in
    let turn : with_front front (turns_at read (count - i) ts) ≡ with_front (front ++ x ∷ []) (turns_at read (count - (i + 1)) rest) = rw (k, is_x) (regroup front x (turns_at read (count - (i + 1)) rest)) in
    sym turn ∙ so_far

pub many_ends : {A : Type 0} (read : List TokenKind → Read A) (front : List A) (n : ℕ) (ts : List TokenKind) (total : Read (List A)) → read ts ≡ None → with_front front (turns_at read n ts) ≡ total → Some (front, ts) ≡ total
unfolding turns_at
many_ends {A} read front zero ts total no_member so_far = ap (λ (ys : List A). Some (ys, ts)) (sym (append-nil front)) ∙ so_far
many_ends {A} read front (suc n) ts total no_member so_far = ap (λ (ys : List A). Some (ys, ts)) (sym (append-nil front)) ∙ (sym (rw no_member refl) ∙ so_far)

pub many_no_turn_left : {A : Type 0} (read : List TokenKind → Read A) (front : List A) (n : ℕ) (ts : List TokenKind) (total : Read (List A)) → n ≡ 0 → with_front front (turns_at read n ts) ≡ total → Some (front, ts) ≡ total
unfolding turns_at
many_no_turn_left {A} read front zero ts total e so_far = ap (λ (ys : List A). Some (ys, ts)) (sym (append-nil front)) ∙ so_far
many_no_turn_left read front (suc n) ts total e so_far = absurd (omega arith)
