-- What a session is asked for is what each world has for which it stands.
use Rattle.session.proofs.Common.{◌≡◌, ◌∙◌, ap, sym, ℕ, ℤ, List, [], ◌∷◌, length, nat_cmp, Fact, TypeId, facts_of, World, Memory, Setting, Contents, Runs}
use Rattle.session.{proofs.Common.{Standing, AreCounts, reached_of, Reached}, specs.Inspected.{IsCounted, all_floors, all_types, type_at}}
use Rattle.std.{proofs.{Common.{map}, lemmas.Simd.{map-map}}, specs.List.{AllByRecursion, range_with_len, Sorted.{IsStrictlySortedBy}}}
use Rattle.{std.specs.declared.cmp.Ordering.TheVariants.{Less}, fact_store.proofs.Members.{from_list, from_map, tags_rise}, rule_model.specs.Distinct.{tag_cmp}}
use Rattle.rule_model.{specs.{Matches.{fire_cmp}, MatchOrders.{fire_total}, Snapshots.{floor, floor_by}, Types.{lateness_of}}, proofs.Once.{marked_once_filter}}
use Rattle.rule_model.proofs.{Order.{Same, same_length}, RuleOf.{in_has, has_in}, Sorted.{sorted_once, sorted_same, tag_total}}
use Rattle.{rule_world.specs.Worlds.{pending}, kept_meaning.specs.Kept.{is_kept, kept_facts}, engine.specs.WorldCounts.{count_of_type, kept_counts, floors}}
use Rattle.engine.specs.{WorldCounts.{pending_count, world_counts}, KeptFacts.{kept_by_tag}, declared.world_counts.WorldCounts.{WorldCounts}}
use Rattle.{engine.proofs.{Kept.{kept_sorted, kept_members}, Pending.{pending_once}}, session_model.proofs.{Members.{Holds}, Tallied.{all_counted, holds_kept}}}

-- ---- the order of tags

tag_below : (f : Fact) (facts : List Fact) → AllByRecursion (λ n. nat_cmp f.tag.0 n ≡ Less) (map (λ (g : Fact). g.tag.0) facts) → AllByRecursion (λ g. tag_cmp f g ≡ Less) facts
tag_below f [] below = tt
tag_below f (g ∷ facts) below = (below.0, tag_below f facts below.1)

by_their_tags : (facts : List Fact) → IsStrictlySortedBy nat_cmp (map (λ (g : Fact). g.tag.0) facts) → IsStrictlySortedBy tag_cmp facts
unfolding IsStrictlySortedBy
by_their_tags [] rise = tt
by_their_tags (f ∷ facts) rise = (tag_below f facts rise.0, by_their_tags facts rise.1)

module _ (s : Setting) (m : Memory) (k : Contents) (runs : Runs s) (w : World) (st : Standing s m k w) where
  held : Holds k.facts (kept_facts s.program s.lives w)
  held = holds_kept s m k runs w st

  same_kept_facts : Same (facts_of k.facts) (kept_by_tag s.program s.lives w)
  same_kept_facts f = (
    λ i.
        let r = from_list k.facts f i in
        (kept_members s.program s.lives w st.seen.whole.lawful f).1 (held.to r.0 f r.1).0,
    λ i. from_map k.facts f f.tag.0 (held.from f ((kept_members s.program s.lives w st.seen.whole.lawful f).0 i)),
  )

  -- the facts of the store are those that are kept of the world
  pub kept_is : facts_of k.facts ≡ kept_by_tag s.program s.lives w
  kept_is =
      sorted_same tag_cmp tag_total (facts_of k.facts) (kept_by_tag s.program s.lives w)
      (by_their_tags (facts_of k.facts) (tags_rise k.facts (λ tag f at. (held.to tag f at).1)))
      (kept_sorted s.program s.lives w) same_kept_facts

  counts_are : (counts : List ℕ) → AreCounts k.facts (all_types (length s.program.types)) counts → counts ≡ kept_counts s.program s.lives w
  unfolding kept_counts
  counts_are counts are =
      all_counted k.facts (kept_facts s.program s.lives w) held (marked_once_filter (λ (f : Fact). f.id) (is_kept s.program s.lives w) w.facts st.seen.whole.lawful.ordered.ids)
      (all_types (length s.program.types)) counts are
      ∙ map-map (λ (ty : TypeId). count_of_type (kept_facts s.program s.lives w) ty.0) type_at (range_with_len 0 (length s.program.types))

  floors_are : all_floors s.program k (length s.program.entries) ≡ floors s.program w
  unfolding floors floor
  floors_are =
      let entries = range_with_len 0 (length s.program.entries) in
      ap (λ (clock : ℤ). map (λ entry. floor_by (lateness_of s.program entry) ((reached_of k).last_start entry) ((reached_of k).promise entry) clock) entries) st.seen.whole.mirrors.clock
      ∙ ap (λ (r : Reached). map (λ entry. floor_by (lateness_of s.program entry) (r.last_start entry) (r.promise entry) w.clock) entries) st.seen.whole.mirrors.reached

  same_pending : Same k.agenda.pending (pending s.program w)
  same_pending q = (
    λ i. in_has (pending s.program w) q (sym (st.holds.pending q) ∙ has_in q k.agenda.pending i),
    λ i. in_has k.agenda.pending q (st.holds.pending q ∙ has_in q (pending s.program w) i),
  )

  pending_is : IsStrictlySortedBy (fire_cmp k.agenda.saliences) k.agenda.pending → length k.agenda.pending ≡ pending_count s.program w
  unfolding pending_count
  pending_is sorted =
      same_length k.agenda.pending (pending s.program w) (sorted_once (fire_cmp k.agenda.saliences) (fire_total k.agenda.saliences) k.agenda.pending sorted)
      (pending_once s.program w st.seen.whole.lawful) same_pending

  -- what it counts is what the world has
  pub counted_is : (counts : WorldCounts) → IsCounted s.program k counts → counts ≡ world_counts s.program s.lives w
  counted_is counts is =
      ap (λ (clock : ℤ). record counts { clock = clock }) (is.clock ∙ st.seen.whole.mirrors.clock)
      ∙ ap (λ (facts : List ℕ). record { clock = w.clock; facts = facts; floors = counts.floors; pending = counts.pending }) (counts_are counts.facts is.facts)
      ∙ ap (λ (all : List ℤ). record { clock = w.clock; facts = kept_counts s.program s.lives w; floors = all; pending = counts.pending }) (is.floors ∙ floors_are)
      ∙ ap (λ (many : ℕ). record { clock = w.clock; facts = kept_counts s.program s.lives w; floors = floors s.program w; pending = many }) (is.pending ∙ pending_is is.once)
