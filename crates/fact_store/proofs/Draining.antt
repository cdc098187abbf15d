-- Facts that are taken out of a store one by one, in the order of their tags.
use Rattle.fact_store.proofs.Common.{◌≡◌, ◌∙◌, sym, ap, refl, subst, ℕ, List, [], ◌∷◌, ◌++◌, Option, Some, None, Bool, true, false, cond, length, arith, T}
use Rattle.fact_store.proofs.Common.{find, is_sorted, get-entries, get-remove, entries_sorted, nat_cmp_total, below_all, nat_cmp, eq_by_cmp, Fact, HeldFacts}
use Rattle.{fact_store.proofs.Common.{facts_of, tag_of}, std.proofs.Common.{map as list_map}}
use Rattle.std.specs.FinMap as map
use Rattle.{fx_base.{specs.declared.ids.Tag.{Tag}, proofs.Tests.{T_first, T_second}}, fact_store.proofs.Members.{found_first, found_later, not_found}}
use Rattle.fact_store.proofs.Stored.{tied}

-- These facts are made; the tags that are left are those of entries that the store still has, and whose facts complete the list.
pub record AreTaken (all made : List Fact) (tags : List Tag) (store : HeldFacts) : Type 0 where
  pub rest : List (ℕ × Fact)
  pub named : tags ≡ list_map (λ (e : ℕ × Fact). tag_of e.0) rest
  pub whole : made ++ list_map (λ (e : ℕ × Fact). e.1) rest ≡ all
  pub sorted : T (is_sorted nat_cmp rest)
  pub held : (key : ℕ) (f : Fact) → find nat_cmp key rest ≡ Some f → map.get store key ≡ Some f

tags_of_keys : (es : List (ℕ × Fact)) → list_map tag_of (list_map (λ (e : ℕ × Fact). e.0) es) ≡ list_map (λ (e : ℕ × Fact). tag_of e.0) es
tags_of_keys [] = refl
tags_of_keys (e ∷ es) = ap (λ tags. tag_of e.0 ∷ tags) (tags_of_keys es)

pub none_taken : (store : HeldFacts) (made : List Fact) (tags : List Tag) → made ≡ [] → tags ≡ list_map tag_of (map.keys store) → AreTaken (facts_of store) made tags store
none_taken store made tags none are = record {
  rest = map.entries store;
  named = are ∙ tags_of_keys (map.entries store);
  whole = ap (λ facts. facts ++ facts_of store) none;
  sorted = entries_sorted store;
  held = λ key f is. get-entries store key ∙ is;
}

behind : (made : List Fact) (f : Fact) (rest : List Fact) → (made ++ f ∷ []) ++ rest ≡ made ++ f ∷ rest
behind [] f rest = refl
behind (g ∷ made) f rest = ap (λ facts. g ∷ facts) (behind made f rest)

head_of : (a b : Tag) (more rest : List Tag) → ◌≡◌ {A = List Tag} (a ∷ more) (b ∷ rest) → a ≡ b
head_of a b more rest e = cc

tail_of : (a b : Tag) (more rest : List Tag) → ◌≡◌ {A = List Tag} (a ∷ more) (b ∷ rest) → more ≡ rest
tail_of a b more rest e = cc

-- the next one is there, and is made
pub one_taken : (all made : List Fact) (tags more : List Tag) (tag : Tag) (store next : HeldFacts) → tags ≡ tag ∷ more → next ≡ map.remove store tag.0 → AreTaken all made tags store
    → (f : Fact) × (map.get store tag.0 ≡ Some f) × AreTaken all (made ++ f ∷ []) more next
one_taken all made tags more tag store next step gone are = by are.rest (sym step ∙ are.named) are.whole are.sorted are.held
  where
    by : (rest : List (ℕ × Fact)) → tag ∷ more ≡ list_map (λ (e : ℕ × Fact). tag_of e.0) rest → made ++ list_map (λ (e : ℕ × Fact). e.1) rest ≡ all → T (is_sorted nat_cmp rest)
        → ((key : ℕ) (f : Fact) → find nat_cmp key rest ≡ Some f → map.get store key ≡ Some f)
        → (f : Fact) × (map.get store tag.0 ≡ Some f) × AreTaken all (made ++ f ∷ []) more next
    by [] named whole sorted held = absurd (let e : ◌≡◌ {A = List Tag} (tag ∷ more) [] = named in cc)
    by (e ∷ rest) named whole sorted held =
        let same : tag.0 ≡ e.0 = ap (λ (t : Tag). t.0) (head_of tag (tag_of e.0) more _ named) in (
          e.1,
          ap (map.get store) same ∙ held e.0 e.1 (found_first e rest),
          record {
            rest = rest;
            named = tail_of tag (tag_of e.0) more _ named;
            whole = behind made e.1 (list_map (λ (x : ℕ × Fact). x.1) rest) ∙ whole;
            sorted = T_second _ _ sorted;
            held = λ key f is.
                ap (λ m. map.get m key) gone ∙ get-remove nat_cmp_total store tag.0 key
                ∙ ap (λ b. cond b None (map.get store key)) (apart key f is same) ∙ held key f (found_later e rest key f (T_first _ _ sorted) is);
          },
        )
      where
        apart : (key : ℕ) (f : Fact) → find nat_cmp key rest ≡ Some f → tag.0 ≡ e.0 → eq_by_cmp nat_cmp key tag.0 ≡ false
        apart key f is same = test (eq_by_cmp nat_cmp key tag.0) refl
          where
            test : (b : Bool) → eq_by_cmp nat_cmp key tag.0 ≡ b → eq_by_cmp nat_cmp key tag.0 ≡ false
            test false p = p
            test true p =
                let at : key ≡ e.0 = tied key tag.0 p ∙ same in
                absurd (let x : None ≡ Some f = sym (not_found key rest (subst (λ n. T (below_all nat_cmp n rest)) (sym at) (T_first _ _ sorted))) ∙ is in cc)

some_of : (f g : Fact) → ◌≡◌ {A = Option Fact} (Some f) (Some g) → f ≡ g
some_of f g e = cc

-- a call that takes the next one out gives it
pub same_taken : (f g : Fact) (taken got : Option Fact) → taken ≡ Some g → taken ≡ got → got ≡ Some f → f ≡ g
same_taken f g taken got is told found = some_of f g (sym found ∙ sym told ∙ is)

left_out : (made : List Fact) → made ++ [] ≡ made
left_out [] = refl
left_out (f ∷ made) = ap (λ facts. f ∷ facts) (left_out made)

pub none_left : (tags : List Tag) (n : ℕ) → n ≡ length tags → n ≡ 0 → tags ≡ []
none_left [] n e z = refl
none_left (tag ∷ tags) n e z = absurd (omega arith)

pub all_taken : (all made : List Fact) (tags : List Tag) (store : HeldFacts) → tags ≡ [] → AreTaken all made tags store → made ≡ all
all_taken all made tags store none are = by are.rest (sym none ∙ are.named) are.whole
  where
    by : (rest : List (ℕ × Fact)) → ◌≡◌ {A = List Tag} [] (list_map (λ (e : ℕ × Fact). tag_of e.0) rest) → made ++ list_map (λ (e : ℕ × Fact). e.1) rest ≡ all → made ≡ all
    by [] named whole = sym (left_out made) ∙ whole
    by (e ∷ rest) named whole = absurd (let x : ◌≡◌ {A = List Tag} [] (tag_of e.0 ∷ list_map (λ (y : ℕ × Fact). tag_of y.0) rest) = named in cc)
