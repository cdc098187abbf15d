-- What goes on behind a line is ready for the others.
use Rattle.line_feed.{proofs.Common.{◌≡◌, ◌<◌, ◌+◌, ◌^◌, ℕ, Bool, Option, Some, None, sym, ap, subst, arith, IfSome}, specs.Fed.{IsBehind, IsReady}}
use Rattle.{line_feed.specs.declared.fed.Fed.{Fed}, line_run.specs.{Run.{progress_after}, Turns.{StaysReady}, declared.turn.{Progress.{Progress}, Turn.{Turn}}}}
use Rattle.line_run.specs.declared.turn.Turn.TheVariants.{Goes, Saves, Stops}

module _ {T : Type 0} (ready : T → Progress → ℕ → Type 0) where
  -- a line was taken
  pub ready_behind : (before : Fed T) (taker : T) (turn : Turn) (after : Option (Fed T)) (room more : ℕ) → IsReady ready before
      → ((n m : ℕ) → ready before.taker before.at n → m < n → StaysReady (ready taker) before.at m (Some turn)) → IsBehind taker before.at turn after
      → IfSome after (λ fed. fed.room ≡ room) → room + (more + 1) ≡ before.room → IfSome after (λ it. IsReady ready it)
  ready_behind before taker turn after room more r stays behind is fits = here turn after (stays r.0.0 before.room r.0.2 r.0.1) behind is
    where
      on : (faulty : Bool) (left : ℕ) (fed : Fed T) → ready taker (progress_after before.at faulty left) before.room → fed.taker ≡ taker → fed.at ≡ progress_after before.at faulty left
          → fed.room ≡ room → IsReady ready fed
      on faulty left fed there taken at is =
          let one : fed.at.lines ≡ before.at.lines + 1 = ap (λ (p : Progress). p.lines) at in
          let few : before.at.lines + before.room < 2 ^ 63 = r.1 in
          let less : fed.room < before.room = omega (arith, is, fits) in
          let counted : fed.at.lines + fed.room < 2 ^ 63 = omega (arith, one, few, is, fits) in
          ((before.room, less, subst (λ (t : T). ready t fed.at before.room) (sym taken) (subst (λ (p : Progress). ready taker p before.room) (sym at) there)), counted)

      here : (t : Turn) (a : Option (Fed T)) → StaysReady (ready taker) before.at before.room (Some t) → IsBehind taker before.at t a → IfSome a (λ fed. fed.room ≡ room)
          → IfSome a (λ it. IsReady ready it)
      here t None k b e = tt
      here (Goes faulty left) (Some fed) k b e = on faulty left fed k b.0 b.1 e
      here (Saves faulty left) (Some fed) k b e = on faulty left fed k b.0 b.1 e
      here Stops (Some fed) k b e = absurd b
