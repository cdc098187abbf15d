use Rattle.{std.proofs.{Common.{◌≡◌, ◌∙◌, ap, refl}, lemmas.Result.{IfOk-weaker}}, checkpoint.specs.declared.image.RunPart.{RunPart}}
use Rattle.{line_run.specs.Parts.{run_part_at}, script_run.specs.Live.{most_firings}, fed_desk.proofs.Imaging.{image_is}}
use Rattle.fed_desk.proofs.saving.save.Goals as goal

pub returns-clause-goes : goal.returns-clause-goes
returns-clause-goes g c = IfOk-weaker c.engine_bytes.result _ _ (λ bytes made. rw c.in-Some.is refl) c.engine_bytes.ensures.saved

pub returns-clause-saved : goal.returns-clause-saved
returns-clause-saved g c =
    let E = g.E.Engine in
    let running = c.in-Some.running in
    let part : c.part-run.result ≡ run_part_at most_firings running.first running.fed.at =
    c.part-run.ensures ∙ ap (λ (first : RunPart). run_part_at most_firings first running.fed.at) c.in_ok-copy.ensures in
    IfOk-weaker c.engine_bytes.result _ _ (λ bytes made course fed out has.
    let is = image_is E.stands E.gives E.fires E.counts E.made_with E.table course fed out c.args.desk.now.text.items c.args.desk.now.run running made.0 c.in-Some.is
    (made.1 ∙ part) (rw c.engine.ensures at made.2) has in
    record {
      state = is.0;
      comes = is.1;
      image = made.0;
      run = is.2;
      is_of = is.3;
      is_image = made.3;
      goes_on = made.4;
      spelled = made.5;
      short = made.6;
    }) c.engine_bytes.ensures.saved

pub returns-clause-refused : goal.returns-clause-refused
returns-clause-refused g c refused course fed out has =
    let E = g.E.Engine in
    let running = c.in-Some.running in
    let made = c.engine_bytes.ensures.refused refused in
    let part : c.part-run.result ≡ run_part_at most_firings running.first running.fed.at =
    c.part-run.ensures ∙ ap (λ (first : RunPart). run_part_at most_firings first running.fed.at) c.in_ok-copy.ensures in
    let is = image_is E.stands E.gives E.fires E.counts E.made_with E.table course fed out c.args.desk.now.text.items c.args.desk.now.run running made.0 c.in-Some.is
    (made.1 ∙ part) (rw c.engine.ensures at made.2) has in
    record { state = is.0; comes = is.1; image = made.0; run = is.2; is_of = is.3; refused = made.3 }
