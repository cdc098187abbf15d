-- The contents of a session with all present facts of its world are ready for its network.
use Rattle.session_model.proofs.Common.{◌≤ℤ◌, sym, subst, In, Fact, Program, is_present, of_filter, passed, IsLawful, World, present, only_present, IsReady}
use Rattle.session_model.proofs.{Common.{Contents, Whole}, Exactly.{exact}, Members.{Holds, own_tags}, Newest.{holds}, Ready.{IsFit, kept_of}}
use Rattle.fx_base.proofs.Orders.{≤ℤ_trans}

-- a present fact of a lawful world is as the network wants it
pub fit_present : (p : Program) (w : World) → IsLawful p w → (f : Fact) → In f (present p w) → IsFit p w.clock f
fit_present p w lawful f i =
    let sound = lawful.sound f (of_filter (is_present p w.clock) f w.facts i) in
    record {
      present = passed (is_present p w.clock) f w.facts i;
      low = λ e. (sound.timed e).from_zero;
      high = λ e. ≤ℤ_trans _ _ _ (sound.timed e).to_clock lawful.clock_high;
    }

module _ (p : Program) (k : Contents) (w : World) (whole : Whole p k w) where
  -- the facts are the present ones of the world
  pub whole_holds : Holds k.facts (present p w)
  whole_holds = holds p k (only_present p w) (exact p k w whole)

  pub whole_ready : IsReady p k.facts k.expiries k.clock
  whole_ready = record {
    own = own_tags k.facts (present p w) whole_holds;
    waits = whole.mirrors.waits;
    kept =
        kept_of p k.facts k.clock (own_tags k.facts (present p w) whole_holds)
        (λ tag f e. subst (λ z. IsFit p z f) (sym whole.mirrors.clock) (fit_present p w whole.lawful f (whole_holds.to tag f e).0));
  }
