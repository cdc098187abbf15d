-- What a store counts by types is what is kept of each world for which the session stands.
use Rattle.session_model.proofs.Common.{◌≡◌, ◌∙◌, sym, ap, refl, ℕ, ◌==◌, ◌&&◌, ◌||◌, inl, inr, List, [], ◌∷◌, map, length, Bool, true, false, cond, Option}
use Rattle.session_model.proofs.Common.{Some, None, arith, subst, event_types, HaveDistinctIds, in_map, FactId, list_any, AllByRecursion, filter, length-map}
use Rattle.session_model.proofs.Common.{exact_unsigned_eq, In, Fact, TypeId, HeldFacts, CountsType, is_of, Program, of_filter, in_filter, passed, World}
use Rattle.session_model.proofs.Common.{ids_filtered, id_of, kept_facts, only, fact_at, same_kept, at_filter, fact_in, own_at, Memory, Setting, AreCounts}
use Rattle.{session_model.proofs.Common.{facts_of_type, Contents, Runs, Standing}, std.proofs.{lemmas.Bool.{and_parts, ne_eqb}, Math.Bool.{or-true}}}
use Rattle.std.specs.{Prelude.{nat_eq}, List.{IsDistinct}}
use Rattle.std.specs.FinMap as map_of
use Rattle.{std.proofs.lemmas.Map.Made.{length-from_same_keys}, fact_store.{specs.Ids.{AreIds}, proofs.Counting.{nat_equiv}}, kept_meaning.specs.Kept.{is_kept}}
use Rattle.{engine.specs.Counts.{HasEach}, session_model.{specs.Counts.{held_counts}, proofs.Members.{Holds}}, fx_base.proofs.Orders.{eqb-self}}
use Rattle.fx_base.proofs.Tests.{both_ways_absurd, same_test as alike}

-- ---- the ids of facts

abbrev ids_of : List Fact → List ℕ
ids_of facts = map (λ (f : Fact). f.id.0) facts

-- an id that no fact has is apart from theirs
apart_from : (id : ℕ) (facts : List Fact) → ((f : Fact) → In f facts → id ≡ f.id.0 → ⊥) → AllByRecursion (λ y. nat_eq id y ≡ false) (ids_of facts)
apart_from id [] other = tt
apart_from id (f ∷ facts) other = (ne_eqb id f.id.0 (other f (inl refl)), apart_from id facts (λ g i. other g (inr i)))

abbrev numbered : ℕ → FactId
numbered id = record { 0 = id }

-- ids that are distinct stand once
once_each : (facts : List Fact) → HaveDistinctIds facts → IsDistinct nat_eq (ids_of facts)
unfolding IsDistinct
once_each [] d = tt
once_each (f ∷ facts) d = (
  apart_from f.id.0 facts (λ g i e. d.0 (subst (λ (id : FactId). In id (map id_of facts)) (ap numbered (sym e)) (in_map id_of g facts i))),
  once_each facts d.1,
)

-- an id among those of facts is that of one of them
one_has : (id : ℕ) (facts : List Fact) → list_any (nat_eq id) (ids_of facts) ≡ true → (f : Fact) × In f facts × (f.id.0 ≡ id)
one_has id [] e = both_ways_absurd false e refl
one_has id (x ∷ facts) e = by (nat_eq id x.id.0) refl e (one_has id facts)
  where
    by : (b : Bool) → nat_eq id x.id.0 ≡ b → (b || list_any (nat_eq id) (ids_of facts)) ≡ true
        → (list_any (nat_eq id) (ids_of facts) ≡ true → (f : Fact) × In f facts × (f.id.0 ≡ id)) → (f : Fact) × In f (x ∷ facts) × (f.id.0 ≡ id)
    by true same e rest = (x, inl refl, sym (exact_unsigned_eq id x.id.0 same))
    by false same e rest = let r = rest e in (r.0, inr r.1, r.2)

-- and that of each fact is among them
has_one : (f : Fact) (facts : List Fact) → In f facts → list_any (nat_eq f.id.0) (ids_of facts) ≡ true
has_one f [] i = absurd i
has_one f (x ∷ facts) (inl e) = ap (λ b. b || list_any (nat_eq f.id.0) (ids_of facts)) (ap (λ (z : Fact). nat_eq f.id.0 z.id.0) (sym e) ∙ eqb-self f.id.0)
has_one f (x ∷ facts) (inr i) = ap (λ b. nat_eq f.id.0 x.id.0 || b) (has_one f facts i) ∙ or-true (nat_eq f.id.0 x.id.0)

-- ---- counts

-- two lists of the ids that are held have the same length
same_length : (held : ℕ → ℕ → Bool) (xs ys : List ℕ) → AreIds held xs → AreIds held ys → length xs ≡ length ys
same_length held xs ys are_x are_y =
    length-from_same_keys nat_equiv xs ys are_x.once are_y.once
    (λ q. alike (list_any (nat_eq q) xs) (list_any (nat_eq q) ys) (λ e. let t = are_x.some q e in are_y.all q t.0 t.1) (λ e. let t = are_y.some q e in are_x.all q t.0 t.1))

module _ (held : HeldFacts) (facts : List Fact) (h : Holds held facts) (ids : HaveDistinctIds facts) where
  of_type : (ty : ℕ) → AreIds (λ id tag. is_of ty id (map_of.get held tag)) (ids_of (facts_of_type ty facts))
  of_type ty = record {
    once = once_each (facts_of_type ty facts) (ids_filtered (λ (f : Fact). f.ty.0 == ty) facts ids);
    some = λ id e.
        let f = one_has id (facts_of_type ty facts) e in (
          f.0.tag.0,
          ap (is_of ty id) (h.from f.0 (of_filter (λ (g : Fact). g.ty.0 == ty) f.0 facts f.1))
              ∙ ap (λ b. b && nat_eq f.0.id.0 id) (passed (λ (g : Fact). g.ty.0 == ty) f.0 facts f.1) ∙ ap (λ n. nat_eq n id) f.2 ∙ eqb-self id,
        );
    all = λ id tag e. there id tag (map_of.get held tag) refl e;
  }
    where
      there : (id tag : ℕ) (o : Option Fact) → map_of.get held tag ≡ o → is_of ty id o ≡ true → list_any (nat_eq id) (ids_of (facts_of_type ty facts)) ≡ true
      there id tag None at e = both_ways_absurd false e refl
      there id tag (Some f) at e =
          let both = and_parts (nat_eq f.ty.0 ty) (nat_eq f.id.0 id) e in
          ap (λ n. list_any (nat_eq n) (ids_of (facts_of_type ty facts))) (sym (exact_unsigned_eq f.id.0 id both.1))
          ∙ has_one f (facts_of_type ty facts) (in_filter (λ (g : Fact). g.ty.0 == ty) f facts both.0 (h.to tag f at).0)

  type_counted : (ty count : ℕ) → CountsType held ty count → count ≡ length (facts_of_type ty facts)
  type_counted ty count c =
      c.2 ∙ same_length (λ id tag. is_of ty id (map_of.get held tag)) c.0 (ids_of (facts_of_type ty facts)) c.1 (of_type ty) ∙ length-map (facts_of_type ty facts) (λ (f : Fact). f.id.0)

  -- each count is that of the facts of its type
  pub all_counted : (types : List TypeId) (counts : List ℕ) → AreCounts held types counts → counts ≡ map (λ (ty : TypeId). length (facts_of_type ty.0 facts)) types
  all_counted [] [] are = refl
  all_counted [] (count ∷ counts) are = absurd are
  all_counted (ty ∷ types) [] are = absurd are
  all_counted (ty ∷ types) (count ∷ counts) are =
      ap (λ n. n ∷ counts) (type_counted ty.0 count are.0) ∙ ap (λ ns. length (facts_of_type ty.0 facts) ∷ ns) (all_counted types counts are.1)

-- ---- a session

module _ (s : Setting) (m : Memory) (k : Contents) (runs : Runs s) (w : World) (st : Standing s m k w) where
  abbrev test : Fact → Bool
  test = is_kept s.program s.lives w

  -- the store has exactly what is kept of the world
  pub holds_kept : Holds k.facts (kept_facts s.program s.lives w)
  holds_kept = record {
    to = λ tag g e. fact_in (filter test w.facts) tag g (at_filter test w.facts tag st.seen.whole.lawful.ordered.tags ∙ sym (at tag) ∙ e);
    from = λ g i. at g.tag.0 ∙ ap (only test) (own_at w.facts st.seen.whole.lawful.ordered.tags g (of_filter test g w.facts i)) ∙ ap (λ b. cond b (Some g) None) (passed test g w.facts i);
  }
    where
      at : (tag : ℕ) → map_of.get k.facts tag ≡ only test (fact_at w.facts tag)
      at tag = st.holds.store tag ∙ same_kept s.program s.lives w runs.table.safe st.seen.whole.lawful.ordered tag

  pub kept_counted : (counts : List ℕ) → AreCounts k.facts (event_types s.program.types 0) counts → counts ≡ held_counts s.program s.lives w
  unfolding held_counts
  kept_counted counts are =
      all_counted k.facts (kept_facts s.program s.lives w) holds_kept (ids_filtered test w.facts st.seen.whole.lawful.ordered.ids) (event_types s.program.types 0) counts are

-- ---- the number of counts

as_many : (held : HeldFacts) (types : List TypeId) (counts : List ℕ) → AreCounts held types counts → length counts ≡ length types
as_many held [] [] are = refl
as_many held [] (count ∷ counts) are = absurd are
as_many held (ty ∷ types) [] are = absurd are
as_many held (ty ∷ types) (count ∷ counts) are = let e = as_many held types counts are.1 in omega (arith, e)

pub each_counted : (p : Program) (held : HeldFacts) (counts : List ℕ) → AreCounts held (event_types p.types 0) counts → HasEach p counts
each_counted p held counts are = as_many held (event_types p.types 0) counts are
