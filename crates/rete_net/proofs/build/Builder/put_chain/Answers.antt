use Rattle.rete_net.proofs.Common.{◌≡◌, ◌∙◌, sym, ap, subst, refl, List, [], ◌∷◌, Some, slice_get, take, ◌+◌, ◌<◌, length, arith, ◌++◌, append-nil, get_or}
use Rattle.rete_net.proofs.Common.{append_assoc, take_more, take_all, RuleId, Condition, in_place, AreGrown, IsParentNode, AreOwnedSoFar, PutsOwner}
use Rattle.rete_net.proofs.{Growing.{chain_more}, Owning.{begins_rule, owned_put}}
use Rattle.rete_net.proofs.build.Builder.put_chain.Goals as goal

pub loop-condition-init : goal.loop-condition-init
loop-condition-init c all grown stands few windows owned = (
  [],
  subst (AreGrown c.args.program.now c.args.self.now.nodes.items c.args.self.now.origins.items) (sym (append-nil all)) grown,
  refl,
  subst (λ (lists : List (List Condition)). AreOwnedSoFar c.args.program.now lists c.args.self.now.owners.items c.args.place.0 c.args.rule.now.conditions 0) (sym (append-nil all))
      (begins_rule c.args.program.now all c.args.self.now.owners.items c.args.place.0 c.args.rule.now.conditions owned),
  refl,
  refl,
)

pub loop-condition-preserved : goal.loop-condition-preserved
loop-condition-preserved c all grown stands few windows owned =
    let was = c.loop-condition.invariant all grown stands few windows owned in
    let p = c.args.program.now in
    let rule = c.args.rule.now in
    let i = c.loop-condition.condition-index in
    let is = c.condition-item.result in
    let nodes = c.put.new.self.nodes.items in
    let origins = c.put.new.self.origins.items in
    let owners = c.put.new.self.owners.items in
    let place = c.in_ok-place.place in
    let long : length c.as_slice-condition-items.result.now ≡ length c.args.rule.now.conditions = ap (λ (cs : List Condition). length cs) c.as_slice-condition-items.ensures in
    let within : c.loop-condition.condition-index < length c.args.rule.now.conditions = omega (arith, long) in
    let item : c.condition-item.result ≡ get_or c.args.rule.now.conditions c.loop-condition.condition-index c.condition-item.result =
    c.condition-item.is ∙ ap (λ (cs : List Condition). get_or cs c.loop-condition.condition-index c.condition-item.result) c.as_slice-condition-items.ensures in
    let fits = chain_more p nodes origins all was.0 place rule i is (in_place p.rules c.args.place.0 rule stands) windows within item in
    let put = c.in_ok-place.ensures (all ++ was.0) (take i rule.conditions) was.1 was.2 fits.0 fits.1 in
    let front : take i rule.conditions ++ is ∷ [] ≡ take (i + 1) rule.conditions =
    ap (λ (d : Condition). take i rule.conditions ++ d ∷ []) item ∙ sym (take_more rule.conditions i is within) in
    let more : AreOwnedSoFar p ((all ++ was.0) ++ put.0) owners c.args.place.0 rule.conditions (i + 1) =
    owned_put p (all ++ was.0) c.args.place.0 rule i stands within c.loop-condition.owner was.4 was.5 c.loop-condition.self.owners.items was.3 put.0 owners place
    (put.2 ∙ ap Some front) (subst (λ (cs : List Condition). PutsOwner (all ++ was.0) put.0 cs c.loop-condition.owner c.loop-condition.self.owners.items owners) front put.3) in
    let low : c.loop-condition.owner.condition < 255 = (let at = was.5 in omega (arith, at, within, few)) in (
      was.0 ++ put.0,
      subst (AreGrown p nodes origins) (append_assoc all was.0 put.0) put.1,
      ap (λ (xs : List (List Condition)). slice_get xs place) (sym (append_assoc all was.0 put.0)) ∙ put.2 ∙ ap Some front,
      subst (λ (lists : List (List Condition)). AreOwnedSoFar p lists owners c.args.place.0 rule.conditions (i + 1)) (append_assoc all was.0 put.0) more,
      ap (λ (r : RuleId). r.0) c.next-owner.ensures.rule ∙ was.4,
      c.next-owner.ensures.condition low ∙ ap (λ n. n + 1) was.5,
    )

pub returns : goal.returns
returns c all grown stands few windows owned =
    let was = c.loop-condition.invariant all grown stands few windows owned in
    let cs = c.args.rule.now.conditions in
    let long : length c.as_slice-condition-items.result.now ≡ length c.args.rule.now.conditions = ap (λ (ds : List Condition). length ds) c.as_slice-condition-items.ensures in
    let done : c.loop-condition.condition-index ≡ length c.args.rule.now.conditions = omega (arith, long) in (
      was.0,
      was.1,
      subst (IsParentNode (all ++ was.0) c.loop-condition.last) (ap (λ n. take n cs) done ∙ take_all (length cs) cs (omega arith)) was.2,
      subst (λ n. AreOwnedSoFar c.args.program.now (all ++ was.0) c.loop-condition.self.owners.items c.args.place.0 cs n) done was.3,
    )
