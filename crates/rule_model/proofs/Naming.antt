-- What stands at the tags that a row names.
use Rattle.rule_model.proofs.Common.{◌≡◌, ◌&&◌, ℕ, ℤ, zero, suc, inl, inr, List, [], ◌∷◌, map, Option, Some, refl, sym, ◌∙◌, ap, subst, slice_get, In, Tag}
use Rattle.rule_model.proofs.Common.{Fact, Row, Pattern, passes, bound_in, Holds, named_at, tests_hold, times_hold, Tuple, Bindings, name_of, row_of, bound_by}
use Rattle.rule_model.proofs.Named.{AllOf}
use mathlib.Core.Path.{fun_ext}

-- the facts at the tags that a row names are those of its tuple
pub named_are : (facts_at : Tag → Option Fact) (facts : List Fact) → Holds facts_at facts → (k : ℕ) → named_at facts_at (map name_of facts) k ≡ slice_get facts k
named_are facts_at [] h k = refl
named_are facts_at (f ∷ facts) h zero = h.0
named_are facts_at (f ∷ facts) h (suc k) = named_are facts_at facts h.1 k

abbrev looking : (ℕ → Option Fact) → List ℤ → Bindings
looking look values = record { fact = look; result = slice_get values }

-- what a row bound is what its tuple bound
pub bound_named : (facts_at : Tag → Option Fact) (row : Row) (tuple : Tuple) → row_of tuple ≡ row → Holds facts_at tuple.facts → bound_in facts_at row ≡ bound_by tuple
bound_named facts_at row tuple e h =
    ap (bound_in facts_at) (sym e) ∙ ap (λ look. looking look tuple.values) (fun_ext (named_are facts_at tuple.facts h))

-- tests that look up what a row names
pub passes_named : (facts_at : Tag → Option Fact) (p : Pattern) (f : Fact) (row : Row) (tuple : Tuple) → row_of tuple ≡ row → Holds facts_at tuple.facts
    → (tests_hold (bound_in facts_at row) f p.joined && times_hold (bound_in facts_at row) f.times p.times) ≡ passes p tuple f
passes_named facts_at p f row tuple e h =
    ap (λ bound. tests_hold bound f p.joined && times_hold bound f.times p.times) (bound_named facts_at row tuple e h)

held : (facts_at : Tag → Option Fact) (facts : List Fact) (f : Fact) → Holds facts_at facts → In f facts → facts_at f.tag ≡ Some f
held facts_at [] f h i = absurd i
held facts_at (x ∷ facts) f h (inl e) = subst (λ (z : Fact). facts_at z.tag ≡ Some z) (sym e) h.0
held facts_at (x ∷ facts) f h (inr i) = held facts_at facts f h.1 i

-- a map that gives facts at their tags gives all facts among them
pub all_held : (facts_at : Tag → Option Fact) (facts fs : List Fact) → Holds facts_at facts → AllOf facts fs → Holds facts_at fs
all_held facts_at facts [] h all = tt
all_held facts_at facts (f ∷ fs) h all = (held facts_at facts f h (all f (inl refl)), all_held facts_at facts fs h (λ g i. all g (inr i)))
