-- What `Retention::past` answers, and what it watches then.
use Rattle.retention.proofs.Common.{◌≡◌, ℕ, ℤ, ◌&&◌, ◌||◌, Bool, true, false, cond, not, refl, sym, ◌∙◌, ap, Option, None, and-true, and-false, or-true}
use Rattle.retention.proofs.Common.{or-false, and_parts, has_come, is_due, lingers, is_old, PastLaw}
use Rattle.std.specs.FinMap as map

same_cond : (t : Bool) → cond t true true ≡ true
same_cond true = refl
same_cond false = refl

tested : (h n : Bool) → cond h n false ≡ (h && n)
tested true n = refl
tested false n = refl

no_option : (d : Bool) → cond {A = Option ℤ} (not d) None None ≡ None
no_option true = refl
no_option false = refl

turned : (h : Bool) (e : Option ℤ) → cond (not h) e None ≡ cond h None e
turned true e = refl
turned false e = refl

-- of one event: l, it lingers; n, it is named; f, it has left; h, it is past its life; d, it is due
old_is : (l n f h d : Bool) → (l ≡ true → d ≡ false) → (l ≡ false → d ≡ h) → (l ≡ true → h ≡ true) → (l ≡ true → n ≡ false → f ≡ true) → ((d || (l && f)) && not n) ≡ (h && not n)
old_is true true f true d waits due past left = and-false (d || f)
old_is true n f false d waits due past left = let e : false ≡ true = past refl in cc
old_is true false f true d waits due past left = ap (λ t. (d || t) && true) (left refl refl) ∙ and-true (d || true) ∙ or-true d
old_is false n f h d waits due past left = ap (λ t. t && not n) (or-false d ∙ due refl)

lingers_is : (l n f h d : Bool) → (l ≡ true → d ≡ false) → (l ≡ false → d ≡ h) → (l ≡ true → h ≡ true) → (l ≡ true → n ≡ false → f ≡ true) → cond (d || (l && f)) n l ≡ (h && n)
lingers_is true true f true d waits due past left = same_cond (d || f)
lingers_is true n f false d waits due past left = let e : false ≡ true = past refl in cc
lingers_is true false f true d waits due past left = ap (λ t. cond (d || t) false true) (left refl refl) ∙ ap (λ t. cond t false true) (or-true d)
lingers_is false n f h d waits due past left = ap (λ t. cond t n false) (or-false d ∙ due refl) ∙ tested h n

due_is : (l h d : Bool) (e : Option ℤ) → (l ≡ false → d ≡ h) → (l ≡ true → h ≡ true) → cond (not d) (cond l None e) None ≡ cond h None e
due_is true true d e due past = no_option d
due_is true false d e due past = let f : false ≡ true = past refl in cc
due_is false h d e due past = ap (λ t. cond (not t) e None) (due refl) ∙ turned h e

-- of the events without the old ones none is past its life but those that are named
without_come : (clock : ℤ) (h n : Bool) (e : Option ℤ) → has_come clock e ≡ h → has_come clock (cond (h && not n) None e) ≡ (h && n)
without_come clock true true e is = is
without_come clock true false e is = refl
without_come clock false n e is = is

without_due : (clock : ℤ) (h n : Bool) (e : Option ℤ) → has_come clock e ≡ h → cond (has_come clock (cond (h && not n) None e)) None (cond (h && not n) None e) ≡ cond h None e
without_due clock true true e is = ap (λ t. cond t None e) is
without_due clock true false e is = refl
without_due clock false n e is = ap (λ t. cond t None e) is

pub past_law : PastLaw
past_law ends clock left named before after old covers leaves passes =
    let l = lingers before in
    let d = λ (tag : ℕ). is_due clock before.due tag in
    let h = λ (tag : ℕ). has_come clock (ends tag) in
    let is : (tag : ℕ) (t : Bool) → l tag ≡ t → d tag ≡ has_come clock (cond t None (ends tag)) =
    λ tag t e. ap (has_come clock) (covers.due tag) ∙ ap (λ x. has_come clock (cond x None (ends tag))) e in
    let answers : (tag : ℕ) → old tag ≡ is_old ends clock named tag =
    λ tag. passes.answer tag ∙ old_is (l tag) (named tag) (left tag) (h tag) (d tag) (is tag true) (is tag false) (covers.past tag) (leaves tag) in
    let linger : (tag : ℕ) → lingers after tag ≡ (h tag && named tag) =
    λ tag. passes.lingering tag ∙ lingers_is (l tag) (named tag) (left tag) (h tag) (d tag) (is tag true) (is tag false) (covers.past tag) (leaves tag) in (
      answers,
      record {
        due = λ tag.
            ap (λ m. map.get m tag) passes.due
            ∙ map.get-retain_keys before.due (λ t. not (d t)) tag (λ x e. ap (λ t. not (d t)) (sym (map.nat_cmp-IsAntisymmetric tag x e)))
            ∙ ap (λ o. cond (not (d tag)) o None) (covers.due tag)
            ∙ due_is (l tag) (h tag) (d tag) (ends tag) (is tag false) (covers.past tag)
            ∙ sym (without_due clock (h tag) (named tag) (ends tag) refl)
            ∙ ap (λ t. cond (has_come clock (cond t None (ends tag))) None (cond t None (ends tag))) (sym (answers tag));
        lingering = λ tag.
            linger tag ∙ sym (without_come clock (h tag) (named tag) (ends tag) refl)
            ∙ ap (λ t. has_come clock (cond t None (ends tag))) (sym (answers tag));
        needed = λ tag named_tag. (and_parts (h tag) (named tag) (sym (linger tag) ∙ named_tag)).1;
      },
    )
