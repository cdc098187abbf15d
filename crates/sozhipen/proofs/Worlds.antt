-- Changes and firings lead from worlds that runs come to to such worlds.
use Rattle.std.{proofs.Common.{◌≡◌, ◌≤◌, List, [], ◌∷◌, Option, Some, None, Result, Ok, Err, arith, subst}, specs.Prelude.{slice_get}}
use Rattle.rule_model.specs.declared.{matched.Match.{Match}, program.Program.{Program}, step.Step.{Step, TheVariants.{Insert, Modify, Retract, Advance, At}}}
use Rattle.{rule_model.specs.declared.step.Step.TheVariants.{Promise, Begin}, rule_world.specs.{declared.code.Code.{Code}, Programs.{IsRunnable}}}
use Rattle.rule_world.specs.Worlds.{World, moved, stepped, step_fault, first_pending, found, marked, present}
use Rattle.{script_read.specs.declared.asked.Change.{Change}, change_resolve.specs.Changes.{change_step}}
use Rattle.{answer_lines.specs.declared.lines.{Detail.TheVariants.{Brief}, OutLine.{OutLine}}, session_model.specs.Gives.{gives, gives_in, fires, fires_in}}
use Rattle.session_model.{specs.Gives.{does, does_all, tries_with, fires_match, fires_with, wanted, actions_of}, proofs.Acting.{fires_lawful}}
use Rattle.{session_model.proofs.Asking.{gives_lawful}, replay.specs.Behind.{IsSoundWorld, KeepWorlds}}

-- ids and tags are given from 1 on
abbrev CountsFromOne : World → Type 0
CountsFromOne w = (1 ≤ w.next_id) × (1 ≤ w.next_tag)

step_counts : (p : Program) (w : World) (step : Step) → CountsFromOne w → CountsFromOne (stepped p w step)
unfolding stepped moved
step_counts p w (Insert ty entry fields) h = (omega (arith, h.0), omega (arith, h.1))
step_counts p w (Modify id sets) h = (h.0, omega (arith, h.1))
step_counts p w (Retract ty id) h = h
step_counts p w (Advance by) h = h
step_counts p w (At moment) h = h
step_counts p w (Promise entry from) h = h
step_counts p w Begin h = h

tries_counts : (p : Program) (w : World) (step : Step) (fault : Option Code) → CountsFromOne w → CountsFromOne (tries_with Brief p w step fault).1
tries_counts p w step None h = step_counts p w step h
tries_counts p w step (Some code) h = h

does_counts : (p : Program) (w : World) (asked : Result Step Code) → CountsFromOne w → CountsFromOne (does Brief p w asked).1
does_counts p w (Err code) h = h
does_counts p w (Ok step) h = tries_counts p w step (step_fault p w step) h

all_counts : (p : Program) (w : World) (asked : List (Result Step Code)) → CountsFromOne w → CountsFromOne (does_all Brief p w asked).1
unfolding does_all
all_counts p w [] h = h
all_counts p w (one ∷ more) h = all_counts p (does Brief p w one).1 more (does_counts p w one h)

gives_counts : (p : Program) (w : World) (change : Change) → CountsFromOne w → CountsFromOne (gives p w change).1
unfolding gives_in
gives_counts p w change h = does_counts p w (change_step p w.begun (found p w) change) h

match_counts : (p : Program) (w : World) (m : Match) → CountsFromOne w → CountsFromOne (fires_match Brief p w m).1
match_counts p w m h = all_counts p (marked w m) (wanted (present p w) m.row (actions_of (slice_get p.rules m.rule.0))) h

fires_counts : (p : Program) (w : World) (f : List OutLine × World) → CountsFromOne w → fires p w ≡ Some f → CountsFromOne f.1
unfolding fires_in
fires_counts p w f h e = by (first_pending p w) e
  where
    by : (m : Option Match) → fires_with Brief p w m ≡ Some f → CountsFromOne f.1
    by None e = absurd cc
    by (Some m) e = let same : fires_match Brief p w m ≡ f = cc in subst (λ (z : List OutLine × World). CountsFromOne z.1) same (match_counts p w m h)

pub worlds_kept : KeepWorlds gives fires
worlds_kept = record { changes = changes; firings = firings }
  where
    changes : (p : Program) (w : World) (change : Change) → IsRunnable p → IsSoundWorld p w → IsSoundWorld p (gives p w change).1
    changes p w change runnable h =
        let counts = gives_counts p w change (h.ids, h.tags) in
        record { lawful = gives_lawful Brief p w change runnable h.lawful; ids = counts.0; tags = counts.1 }

    firings : (p : Program) (w : World) (f : List OutLine × World) → IsRunnable p → IsSoundWorld p w → fires p w ≡ Some f → IsSoundWorld p f.1
    firings p w f runnable h e =
        let counts = fires_counts p w f (h.ids, h.tags) e in
        record { lawful = fires_lawful Brief p w f.0 f.1 runnable h.lawful e; ids = counts.0; tags = counts.1 }
