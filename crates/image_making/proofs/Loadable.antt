-- A network can be loaded from an image.
use Rattle.std.{proofs.Common.{Err, Ok, Result, List, Some, ap, arith, false, refl, subst, sym, true, ℕ, ◌==◌, ◌↔◌, ◌∙◌, ◌≡◌, ◌≤ℤ◌}, specs.Result.{IsErrAnd}}
use Rattle.{std.{proofs.lemmas.{Bool.{eqb-true}, Int.{ints}}, specs.Ordering.{nat_cmp}}, rete_net.specs.declared.load.LoadFault.{LoadFault}}
use Rattle.rete_net.specs.{declared.{load.LoadFault.TheVariants.{NoRow}, changes.RuleChange.{RuleChange}}, Loading.{AreLadenRows, IsLoadable, IsThere}}
use Rattle.{checkpoint.specs.declared.image.Image.{Image}, condition_rows.{proofs.Holding.{held_in}, specs.{Looks.{empty_snapshot}, Sets.{held}}}}
use Rattle.{fx_base.specs.{Lists.{In}, declared.{fact.Fact.{Fact}, ids.Tag.{Tag}}}, image_change.proofs.Lists.{sorted_mapped}}
use Rattle.{image_laws.specs.{Images.{snapshot_of}, Fitting.{IsLadenMatch}}, join_tests.specs.Joins.{Look}, pattern_gate.specs.Moves.{IsOrderly}}
use Rattle.{laden_rows.{proofs.Extras.{found_in}, specs.Laden.{AreOwners}}, row_delta.specs.declared.extra.Extra.{Extra}}
use Rattle.rule_model.{specs.declared.{matched.Match.{Match}, moment.Moment.{Moment}, program.Program.{Program}}, proofs.Floors.{floor_on}}
use Rattle.{rule_model.specs.{Distinct.{tag_cmp}, Moments.{reached_in}, Snapshots.{Snapshot}, Types.{is_event}}, rule_world.specs.Events.{most_millis}}
use Rattle.image_making.{specs.Loads.{CanBeLoaded, comes_by}, proofs.Coming.{comes_laden}}

abbrev tag_of : ℕ → Tag
tag_of n = record { 0 = n }

module _ (p : Program) (image : Image) (can : CanBeLoaded p image) where
  abbrev here : Snapshot
  here = snapshot_of image

  high : (f : Fact) → In f image.facts → is_event p f.ty.0 ≡ true → f.times.start ≤ℤ most_millis
  high f i e =
      let low : f.times.start ≤ℤ image.clock = ((can.lawful.sound f i).timed e).to_clock in
      let up : image.clock ≤ℤ most_millis = can.lawful.clock_high in
      omega (arith, ints, low, up)

  orderly : IsOrderly p here
  orderly = record {
    in_order = sorted_mapped (λ (f : Fact). f.tag.0) tag_cmp nat_cmp (λ f g. refl) image.facts can.facts_in_order;
    present = can.present;
    low = λ f i e. ((can.lawful.sound f i).timed e).from_zero;
    high = high;
  }

  held_tag : (tag : Tag) (f : Fact) → held here tag ≡ Some f → f.tag ≡ tag
  unfolding held
  held_tag tag f e = ap (λ (n : ℕ). tag_of n) (eqb-true f.tag.0 tag.0 (found_in (λ (g : Fact). g.tag.0 == tag.0) image.facts f e).1)

  -- what a network is loaded with
  module _ (kept : List Fact) (told : List Extra) (moment : Moment) (look : Look) (same : kept ≡ image.facts) (counted : told ≡ image.extras) (clock : moment.clock ≡ image.clock)
      (last_starts : moment.last_starts.now ≡ image.last_starts) (promises : moment.promises.now ≡ image.promises)
      (has : (f : Fact) → In f image.facts → look f.tag ≡ Some f) where
    loadable : IsLoadable p here kept image.extras moment look
    loadable = record {
      runnable = can.runnable;
      facts = sym same;
      at = record {
        clock = sym clock;
        reached = sym (ap (λ ls. reached_in ls moment.promises.now) last_starts ∙ ap (reached_in image.last_starts) promises);
      };
      begun = can.lawful.clock_low;
      orderly = orderly;
      floors = λ entry. floor_on p empty_snapshot here entry can.lawful.clock_low (can.lawful.last_low entry) (can.lawful.promise_low entry);
      at_hand = λ tag f e known. ap look (sym (held_tag tag f e)) ∙ has f (held_in here tag f e);
      placed = can.placed;
      in_order = can.extras_in_order;
    }

    can_load : IsLoadable p here kept told moment look
    can_load = subst (λ (es : List Extra). IsLoadable p here kept es moment look) (sym counted) loadable

    pub rows_come : (changes : List RuleChange)
        → ((t : Snapshot) (owners : ℕ → ℕ → ℕ) → IsLoadable p t kept told moment look → AreOwners p owners → AreLadenRows p t told owners changes)
        → (owners : ℕ → ℕ → ℕ) → AreOwners p owners → (m : Match) → (comes_by changes m ≡ true) ↔ IsLadenMatch p image owners m.rule.0 m.row
    rows_come changes are owners own m =
        comes_laden p image owners changes (subst (λ (es : List Extra). AreLadenRows p here es owners changes) counted (are here owners can_load own)) m

    pub no_row : ((t : Snapshot) (owners : ℕ → ℕ → ℕ) → IsLoadable p t kept told moment look → AreOwners p owners → (e : Extra) × In e told × IsThere p t told owners e false)
        → (owners : ℕ → ℕ → ℕ) → AreOwners p owners → (e : Extra) × In e image.extras × IsThere p here image.extras owners e false
    no_row refused owners own =
        subst (λ (es : List Extra). (e : Extra) × In e es × IsThere p here es owners e false) counted (refused here owners can_load own)

-- what is passed on as a row that is not there was that
pub residual_no_row : {T : Type 0} (r : Result T LoadFault) (x : LoadFault) → IsErrAnd r (λ e. e ≡ x) → r ≡ Err NoRow → x ≡ NoRow
residual_no_row (Ok y) x told e = absurd told
residual_no_row (Err fault) x told e = sym told ∙ (let same : fault ≡ NoRow = cc in same)
