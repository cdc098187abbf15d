-- The image of a desk, from that of its engine.
use Rattle.std.{proofs.Common.{◌≡◌, ◌++◌, ◌∙◌, ℕ, List, Option, Some, None, Result, Ok, Err, refl, ap, subst}, specs.Prelude.{IfOk, IfSome, OnOk, option_map}}
use Rattle.{checkpoint.specs.declared.image.{Image.{Image}, RunPart.{RunPart}}, image_laws.specs.Images.{IsImageOf}, rule_world.specs.Worlds.{World}}
use Rattle.{rule_model.specs.declared.{life.LifeTable.{LifeTable}, program.Program.{Program}}, line_feed.specs.{Fed.{HasFed, IsAt}, declared.fed.Fed.{Fed}}}
use Rattle.{line_run.specs.{Parts.{run_part_at}, Run.{RunState}, declared.turn.Progress.{Progress}}, script_run.specs.{Doors.{engine_of}, Firings.{Counts}}}
use Rattle.{script_run.specs.{Firings.{Fires, Gives}, Live.{live_step, most_firings}}, fed_desk.specs.Runs.{ComesTo, FedCourse, FollowsCourse, fed_setting}}
use Rattle.fed_desk.specs.{Runs.{fed_stands}, declared.{running.Running.{Running}}}

-- what is known of an answer, together
pub all_ok : {T E : Type 0} (r : Result T E) (A B : T → Type 0) (C : Type 0) → IfOk r A → IfOk r B → OnOk r C → IfOk r (λ x. A x × B x × C)
all_ok (Ok x) A B C a b c = (a, b, c)
all_ok (Err e) A B C a b c = tt

-- where a run goes on, its lines come to a state
comes_to : {T : Type 0} (stands : T → World → Type 0) (o : Option RunState) (piece : List ℕ) (fed : Fed T) → IsAt stands o piece (Some fed)
    → (s : RunState) × (o ≡ Some s) × stands fed.taker s.world × (fed.at ≡ s.progress)
comes_to stands None piece fed at = absurd at
comes_to stands (Some s) piece fed at = (s, refl, at.0, at.1)

module _ {E : Type 0} {g : _} (stands : E → World → Type 0) (gives : Gives) (fires : Fires) (counts : Counts) (made_with : E → Program) (table : E → LifeTable) where
  -- the image of the engine of a desk is that of the state to which its lines come
  pub image_is : (course : FedCourse) (fed out text : List ℕ) (run : Option (Running E g)) (running : Running E g) (image : Image) → run ≡ Some running
      → image.run ≡ run_part_at most_firings running.first running.fed.at
      → ((w : World) → stands (engine_of running.fed.taker.lines) w
      → IsImageOf (made_with (engine_of running.fed.taker.lines)) (table (engine_of running.fed.taker.lines)) w image)
      → HasFed (fed_stands stands) (live_step course.live) course.first fed (out ++ text) (option_map (λ it. it.fed) run)
      × IfSome run (FollowsCourse (fed_setting gives fires counts made_with table) course)
      → (s : RunState) × ComesTo course fed s × (image.run ≡ run_part_at most_firings course.part s.progress)
      × IsImageOf course.live.run.program course.live.table s.world image
  image_is course fed out text run running image is part of has =
      let here : HasFed (fed_stands stands) (live_step course.live) course.first fed (out ++ text) (Some running.fed)
      × FollowsCourse (fed_setting gives fires counts made_with table) course running =
      subst (λ (r : Option (Running E g)). HasFed (fed_stands stands) (live_step course.live) course.first fed (out ++ text) (option_map (λ it. it.fed) r)
      × IfSome r (FollowsCourse (fed_setting gives fires counts made_with table) course)) is has in
      let at = comes_to (fed_stands stands) _ _ running.fed here.0.1 in
      let follows = here.1 in
      let engine = engine_of running.fed.taker.lines in
      let of_program : IsImageOf course.live.run.program (table engine) at.0.world image =
      subst (λ (p : Program). IsImageOf p (table engine) at.0.world image) follows.1 (of at.0.world at.2) in (
        at.0,
        at.1,
        part ∙ ap (λ (first : RunPart). run_part_at most_firings first running.fed.at) follows.3 ∙ ap (λ (p : Progress). run_part_at most_firings course.part p) at.3,
        subst (λ (t : LifeTable). IsImageOf course.live.run.program t at.0.world image) follows.2 of_program,
      )
