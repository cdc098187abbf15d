use Rattle.window_gate.proofs.Common.{◌≡◌, ◌∙◌, sym, ap, subst, [], ◌∷◌, ◌++◌, is_at, keys_of, values_of, lookup, nat_cmp, Numbered, number_of}
use Rattle.std.specs.List.Sorted.{IsStrictlySortedBy}
use Rattle.window_gate.proofs.length_window.LengthWindow.new.Goals as goal

-- there is none
none : (c : goal.After-new-3) → c.new.result.entries ++ c.new-2.result.entries ≡ []
none c = ap (λ (es : Numbered). es ++ c.new-2.result.entries) c.new.ensures.empty ∙ c.new-2.ensures.empty

-- one number rises
one_rises : IsStrictlySortedBy nat_cmp (0 ∷ [])
unfolding IsStrictlySortedBy
one_rises = (tt, tt)

pub returns-clause-keeps : goal.returns-clause-keeps
returns-clause-keeps c now = record {
  present = ap (λ (es : Numbered). values_of es) (none c);
  latest = ap (λ (es : Numbered). values_of es) c.new-2.ensures.empty;
  rising = subst (λ (es : Numbered). IsStrictlySortedBy nat_cmp (keys_of es ++ 0 ∷ [])) (sym (none c)) one_rises;
  numbers = λ tag. ap (lookup (is_at (nat_cmp tag))) c.new-3.ensures.empty ∙ ap (number_of tag) (sym (none c));
}
