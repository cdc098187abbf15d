-- What a snapshot holds under the tags of its facts.
use Rattle.condition_rows.proofs.Common.{◌≡◌, ◌∙◌, sym, ap, refl, subst, ℕ, ◌==◌, inl, inr, List, [], ◌∷◌, map, Bool, true, false, cond, Option, Some, None, In}
use Rattle.condition_rows.proofs.Common.{Fact, name_equiv, Named, Pattern, passes, HaveDistinctTags, Holds, tuple_of, Snapshot, Tuple, name_of, row_of, in_map}
use Rattle.condition_rows.proofs.Common.{version_at, versions_at, Look, is_named_version, tuple_at, passes_given, find, option_map, option_and_then, eq-eqb}
use Rattle.{condition_rows.{proofs.Common.{eqb-true, version_is}, specs.Sets.{held}}, join_tests.specs.Joins.{joins}, fx_base.specs.declared.ids.Tag.{Tag}}

abbrev tag_of : ℕ → Tag
tag_of n = record { 0 = n }

abbrev has_tag : Tag → Fact → Bool
has_tag tag f = f.tag.0 == tag.0

at_first : (b : Bool) (x f : Fact) (rest : Option Fact) → b ≡ true → f ≡ x → cond b (Some x) rest ≡ Some f
at_first true x f rest e is = ap (λ (g : Fact). Some g) (sym is)
at_first false x f rest e is = let n : false ≡ true = e in cc

later : (b : Bool) (x : Fact) (rest found : Option Fact) → (b ≡ true → ⊥) → rest ≡ found → cond b (Some x) rest ≡ found
later true x rest found h e = absurd (h refl)
later false x rest found h e = e

-- a fact of the list is the first with its tag
first_with : (facts : List Fact) → HaveDistinctTags facts → (f : Fact) → In f facts → find (has_tag f.tag) facts ≡ Some f
first_with [] d f i = absurd i
first_with (x ∷ facts) d f (inl e) =
    at_first (has_tag f.tag x) x f (find (has_tag f.tag) facts) (eq-eqb x.tag.0 f.tag.0 (ap (λ (g : Fact). g.tag.0) (sym e))) e
first_with (x ∷ facts) d f (inr i) =
    later (has_tag f.tag x) x (find (has_tag f.tag) facts) (Some f)
    (λ e. d.0 (subst (λ (t : Tag). In t (map (λ (g : Fact). g.tag) facts)) (ap tag_of (sym (eqb-true x.tag.0 f.tag.0 e))) (in_map (λ (g : Fact). g.tag) f facts i)))
    (first_with facts d.1 f i)

found_if : (b : Bool) (x f : Fact) (facts : List Fact) (rest : Option Fact) → (rest ≡ Some f → In f facts) → cond b (Some x) rest ≡ Some f → In f (x ∷ facts)
found_if true x f facts rest h e = inl (let is : x ≡ f = cc in sym is)
found_if false x f facts rest h e = inr (h e)

-- what is found is of the list
found_in : (test : Fact → Bool) (facts : List Fact) (f : Fact) → find test facts ≡ Some f → In f facts
found_in test [] f e = cc
found_in test (x ∷ facts) f e = found_if (test x) x f facts (find test facts) (found_in test facts f) e

-- ---- versions of a map

holds_each : (look : Look) (fs : List Fact) → ((f : Fact) → In f fs → look f.tag ≡ Some f) → Holds look fs
holds_each look [] h = tt
holds_each look (f ∷ fs) h = (h f (inl refl), holds_each look fs (λ g i. h g (inr i)))

pub version_of : (look : Look) (f : Fact) → look f.tag ≡ Some f → version_at look (name_of f) ≡ Some f
version_of look f e =
    ap (option_and_then (λ (g : Fact). cond (is_named_version (name_of f) g) (Some g) None)) e
    ∙ ap (λ b. cond b (Some f) None) (name_equiv.refl (name_of f))

pub versions_of : (look : Look) (fs : List Fact) → Holds look fs → versions_at look (map name_of fs) ≡ Some fs
versions_of look [] h = refl
versions_of look (f ∷ fs) h =
    ap (λ rest. option_and_then (λ (g : Fact). option_map (λ facts. g ∷ facts) rest) (version_at look (name_of f))) (versions_of look fs h.1)
    ∙ ap (option_and_then (λ (g : Fact). option_map (λ facts. g ∷ facts) (Some fs))) (version_of look f h.0)

tuple_there : (look : Look) (t : Tuple) → Holds look t.facts → tuple_at look (row_of t) ≡ Some t
tuple_there look t h = ap (option_map (λ facts. tuple_of facts t.values)) (versions_of look t.facts h)

-- a candidate joins the row of a tuple where it passes for the tuple
pub joins_of_tuple : (look : Look) (q : Pattern) (t : Tuple) (f : Fact) → Holds look t.facts → look f.tag ≡ Some f → joins q look (row_of t) (name_of f) ≡ passes q t f
unfolding joins
joins_of_tuple look q t f h e =
    ap (λ o. passes_given q o (version_at look (name_of f))) (tuple_there look t h) ∙ ap (passes_given q (Some t)) (version_of look f e)

-- ---- the facts of a snapshot

module _ (s : Snapshot) where
  pub held_fact : HaveDistinctTags s.facts → (f : Fact) → In f s.facts → held s f.tag ≡ Some f
  unfolding held
  held_fact d f i = first_with s.facts d f i

  pub held_in : (tag : Tag) (f : Fact) → held s tag ≡ Some f → In f s.facts
  unfolding held
  held_in tag f e = found_in (has_tag tag) s.facts f e

  pub held_all : HaveDistinctTags s.facts → (fs : List Fact) → ((f : Fact) → In f fs → In f s.facts) → Holds (held s) fs
  held_all d fs h = holds_each (held s) fs (λ f i. held_fact d f (h f i))

  -- a version that is held is a fact with the name
  pub version_in : (who : Named) (f : Fact) → version_at (held s) who ≡ Some f → In f s.facts × (name_of f ≡ who)
  version_in who f e = let is = version_is (held s) who f e in (held_in who.tag f is.0, is.1)
