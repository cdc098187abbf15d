-- The changes of rules, rule by rule; those that are passed over have none.
use Rattle.rete_net.proofs.Common.{◌≡◌, ◌∙◌, sym, ap, subst, ℕ, zero, suc, ◌+◌, ◌-◌, ◌<◌, ◌≤◌, Bool, true, false, cond, List, [], ◌∷◌, ◌++◌, drop, length}
use Rattle.rete_net.proofs.Common.{arith, append-nil, None, Some, slice_get, inl, inr, In, Delta, changes_nothing, RuleChange, Answered, given, answer_in}
use Rattle.{rete_net.proofs.Common.{AreRuled, has_place, no_change, change_at, changes_from, delta_at, drop_of_length-le}, std.proofs.Common.{append_assoc}}
use Rattle.fx_base.proofs.Sequences.{In-append, get-below}

-- what is left from a place on begins with what stands there
dropped : {A : Type 0} (xs : List A) (k : ℕ) (x : A) → slice_get xs k ≡ Some x → drop k xs ≡ x ∷ drop (suc k) xs
dropped [] k x e = absurd (let no : None ≡ Some x = e in cc)
dropped (y ∷ xs) zero x e = let same : y ≡ x = cc in ap (λ z. z ∷ xs) same
dropped (y ∷ xs) (suc k) x e = dropped xs k x e

module _ (first : Delta) (deltas : List Delta) (ends : List ℕ) where
  -- the changes of the rules from a place on
  abbrev pub From : ℕ → List RuleChange
  From place = changes_from first deltas place (drop place ends)

  from_next : (place end : ℕ) → slice_get ends place ≡ Some end → From place ≡ change_at place (delta_at first deltas end) ++ From (place + 1)
  from_next place end e =
      let next : suc place ≡ place + 1 = omega arith in
      ap (changes_from first deltas place) (dropped ends place end e ∙ ap (λ n. end ∷ drop n ends) next)

  pub told_more : (place end : ℕ) (was now : List RuleChange) (delta : Delta) → slice_get ends place ≡ Some end → delta ≡ delta_at first deltas end → now ≡ was ++ change_at place delta
      → now ++ From (place + 1) ≡ was ++ From place
  told_more place end was now delta e is more =
      ap (λ list. list ++ From (place + 1)) more ∙ append_assoc was (change_at place delta) (From (place + 1))
      ∙ ap (λ d. was ++ (change_at place d ++ From (place + 1))) is ∙ ap (λ list. was ++ list) (sym (from_next place end e))

  module _ (a : Answered Delta) (none : a.none ≡ no_change) (ruled : AreRuled a ends) (known : (rule end : ℕ) → slice_get ends rule ≡ Some end → delta_at first deltas end ≡ answer_in a end) where
    pass_one : (place : ℕ) → place < length ends → has_place a.rules.keys place ≡ false → From place ≡ From (place + 1)
    pass_one place lt out =
        let end = get-below ends place lt in
        let nothing : delta_at first deltas end.0 ≡ no_change = known place end.0 end.1 ∙ ap (given a.none) (ruled place end.0 end.1 out) ∙ none in
        from_next place end.0 end.1 ∙ ap (λ d. change_at place d ++ From (place + 1)) nothing

    pass_all : (far next : ℕ) → next + far ≤ length ends → ((k : ℕ) → next ≤ k → k < next + far → has_place a.rules.keys k ≡ false) → From next ≡ From (next + far)
    pass_all zero next h out = let same : next ≡ next + 0 = omega arith in ap From same
    pass_all (suc far) next h out =
        let same : (next + 1) + far ≡ next + suc far = omega arith in
        pass_one next (omega arith) (out next (omega arith) (omega arith)) ∙ pass_all far (next + 1) (omega arith) (λ k le lt. out k (omega arith) (omega arith)) ∙ ap From same

    pub pass_to : (next place : ℕ) → next ≤ place → place ≤ length ends → ((k : ℕ) → next ≤ k → k < place → has_place a.rules.keys k ≡ false) → From next ≡ From place
    pass_to next place le h out =
        let far : next + (place - next) ≡ place = omega arith in
        pass_all (place - next) next (omega arith) (λ k low lt. out k low (omega arith)) ∙ ap From far

  -- behind the last rule there is none
  pub past_end : (place : ℕ) → length ends ≤ place → From place ≡ []
  past_end place h = ap (changes_from first deltas place) (drop_of_length-le ends h)

-- a change more is of a rule that is there
pub one_within : (changes now : List RuleChange) (place rules : ℕ) (delta : Delta) → now ≡ changes ++ change_at place delta → place < rules → ((c : RuleChange) → In c changes → c.rule.0 < rules)
    → (c : RuleChange) → In c now → c.rule.0 < rules
one_within changes now place rules delta is lt within c i = by (changes_nothing delta) (subst (In c) is i)
  where
    here : In c (record { rule = record { 0 = place }; delta = delta } ∷ []) → c.rule.0 < rules
    here (inl e) = let same : c.rule.0 ≡ place = ap (λ (z : RuleChange). z.rule.0) e in omega (arith, same, lt)
    here (inr i) = absurd i

    by : (t : Bool) → In c (changes ++ cond t [] (record { rule = record { 0 = place }; delta = delta } ∷ [])) → c.rule.0 < rules
    by true j = within c (subst (In c) (append-nil changes) j)
    by false j = elim (In-append c changes (record { rule = record { 0 = place }; delta = delta } ∷ []) j) [
      | inl was ↦ within c was
      | inr last ↦ here last
    ]
