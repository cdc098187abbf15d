-- What a desk comes to that is fed with more, or that puts out what waits.
use Rattle.std.proofs.Common.{◌≡◌, ◌++◌, ℕ, true, false, List, [], Option, Some, None, Result, Ok, Err, sym, ap, subst, ◌∙◌, append_assoc}
use Rattle.{std.specs.Prelude.{IfSome, if◌then◌else◌, is_err, is_ok, option_map}, rule_world.specs.Worlds.{World}, line_run.specs.Run.{RunState, Steps}}
use Rattle.{line_feed.specs.{Fed.{Feeds, HasFed}, declared.fed.Fed.{Fed}}, script_run.specs.Live.{LiveSetting, live_step}, fed_desk.specs.Runs.{FedCourse}}
use Rattle.fed_desk.specs.{Runs.{FollowsCourse, fed_stands}, declared.{lines.Lines.{Lines}, running.Running.{Running}}}

-- with more bytes, whose lines print these news behind what waits
fed_more : {T : Type 0} (stands : T → World → Type 0) (steps steps' : Steps) (more : List ℕ) (before : Fed T) (after : Option (Fed T)) (news text text' : List ℕ)
    → steps ≡ steps' → Feeds stands steps more before after [] news → text' ≡ text ++ news → (first : RunState) (bytes out : List ℕ)
    → HasFed stands steps' first bytes (out ++ text) (Some before) → HasFed stands steps' first (bytes ++ more) (out ++ text') after
fed_more stands steps steps' more before after news text text' same feeds grows first bytes out has =
    let here : HasFed stands steps first bytes (out ++ text) (Some before) = subst (λ (s : Steps). HasFed stands s first bytes (out ++ text) (Some before)) (sym same) has in
    let found = feeds first bytes (out ++ text) here in
    let printed : (out ++ text) ++ found.0 ≡ out ++ text' =
    ap (λ (z : List ℕ). (out ++ text) ++ z) (sym found.1) ∙ append_assoc out text news ∙ ap (λ (z : List ℕ). out ++ z) (sym grows) in
    subst (λ (p : List ℕ). HasFed stands steps' first (bytes ++ more) p after) printed
    (subst (λ (s : Steps). HasFed stands s first (bytes ++ more) ((out ++ text) ++ found.0) after) same found.2)

-- what goes on goes by the same course
goes_on : {E : Type 0} {g : _} (setting : Lines E → LiveSetting) (course : FedCourse) (before : Running E g) (after : Option (Running E g)) → FollowsCourse setting course before
    → IfSome after (λ it. live_step (setting it.fed.taker) ≡ live_step (setting before.fed.taker))
    → IfSome after (λ it. (setting it.fed.taker).run.program ≡ (setting before.fed.taker).run.program)
    → IfSome after (λ it. (setting it.fed.taker).table ≡ (setting before.fed.taker).table) → IfSome after (λ it. it.first ≡ before.first)
    → IfSome after (FollowsCourse setting course)
goes_on setting course before None goes steps program table first = tt
goes_on setting course before (Some after) goes steps program table first = (steps ∙ goes.0, program ∙ goes.1, table ∙ goes.2, first ∙ goes.3)

pub come_on : {E : Type 0} {g : _} (stands : E → World → Type 0) (setting : Lines E → LiveSetting) (running : Running E g) (run after : Option (Running E g)) (more news text text' : List ℕ)
    → run ≡ Some running → Feeds (fed_stands stands) (live_step (setting running.fed.taker)) more running.fed (option_map (λ it. it.fed) after) [] news → text' ≡ text ++ news
    → IfSome after (λ it. live_step (setting it.fed.taker) ≡ live_step (setting running.fed.taker))
    → IfSome after (λ it. (setting it.fed.taker).run.program ≡ (setting running.fed.taker).run.program)
    → IfSome after (λ it. (setting it.fed.taker).table ≡ (setting running.fed.taker).table) → IfSome after (λ it. it.first ≡ running.first)
    → (course : FedCourse) (bytes out : List ℕ)
    → HasFed (fed_stands stands) (live_step course.live) course.first bytes (out ++ text) (option_map (λ it. it.fed) run) × IfSome run (FollowsCourse setting course)
    → HasFed (fed_stands stands) (live_step course.live) course.first (bytes ++ more) (out ++ text') (option_map (λ it. it.fed) after) × IfSome after (FollowsCourse setting course)
come_on stands setting running run after more news text text' is feeds grows steps program table first course bytes out has =
    let goes : FollowsCourse setting course running = subst (λ (r : Option (Running _ _)). IfSome r (FollowsCourse setting course)) is has.1 in
    let fed : HasFed (fed_stands stands) (live_step course.live) course.first bytes (out ++ text) (Some running.fed) =
    subst (λ (r : Option (Running _ _)). HasFed (fed_stands stands) (live_step course.live) course.first bytes (out ++ text) (option_map (λ it. it.fed) r)) is has.0 in (
      fed_more (fed_stands stands) (live_step (setting running.fed.taker)) (live_step course.live) more running.fed (option_map (λ it. it.fed) after) news text text' goes.0 feeds grows
          course.first bytes out fed,
      goes_on setting course running after goes steps program table first,
    )

-- what a list has become in a call that did not fail
pub where_ok : {A B : Type 0} (r : Result A B) (new more same : List ℕ) → is_err r ≡ false → new ≡ (if is_ok r then more else same) → new ≡ more
where_ok (Ok x) new more same e is = is
where_ok (Err x) new more same e is = absurd (no_true e)
  where
    no_true : true ≡ false → ⊥
    no_true t = cc
