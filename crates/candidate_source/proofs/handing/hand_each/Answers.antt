use Rattle.candidate_source.proofs.Common.{ℕ, List, sym, subst, ◌&&◌, not, option_map, nat_cmp, IsHandedTo, has_place, is_under_given}
use Rattle.{candidate_source.proofs.{Behind.{handed_to_none}, Places.{handed_each}}, std.proofs.lemmas.Map.Keys.{sorted_tail}}
use Rattle.std.specs.List.Sorted.{IsStrictlySortedBy}
use Rattle.candidate_source.proofs.handing.hand_each.Goals as goal

pub loop-place-preserved : goal.loop-place-preserved
loop-place-preserved c =
    let out = (λ (k : ℕ). not (is_under_given c.args.reached.now (option_map (λ v. v.now) c.args.besides) k)) in
    let sorted = subst (IsStrictlySortedBy nat_cmp) c.in-Some.ensures.steps c.loop-place.invariant.sorted in
    record {
      sorted = sorted_tail nat_cmp c.in-Some.place.now c.next.new.self sorted;
      handed = λ after rest.
          c.loop-place.invariant.handed after
          (subst (λ (places : List ℕ). IsHandedTo c.args.turned (λ k. has_place places k && out k) c.loop-place.handed after) (sym c.in-Some.ensures.steps)
          (handed_each c.args.turned c.in-Some.place.now c.next.new.self out c.loop-place.handed c.hand_beside.new.handed after sorted c.in_ok-hand_beside.ensures rest));
    }

pub returns : goal.returns
returns c =
    c.loop-place.invariant.handed c.loop-place.handed
    (subst (λ (places : List ℕ). IsHandedTo c.args.turned (λ k. has_place places k && not (is_under_given c.args.reached.now (option_map (λ v. v.now) c.args.besides) k)) c.loop-place.handed c.loop-place.handed)
    (sym c.in-None.ensures.steps.0) (handed_to_none c.args.turned c.loop-place.handed))
