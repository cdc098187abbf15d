use Rattle.script_run.proofs.{Common.{◌≡◌, ◌+◌, ◌*◌, ◌≤◌, World, firings, setting_with}, Fired.{Remains}}
use Rattle.script_run.proofs.firing.fire_all.Given as goal

-- what is still to be fired, in a world for which the engine stands
abbrev pub invariant-loop-left : goal.invariant-loop-left
invariant-loop-left g l =
    let stands = g.E.Engine.stands in
    let program = g.E.Engine.made_with in
    let setting = setting_with l.line.live l.line.form.now g.E.Engine.gives g.E.Engine.fires g.E.Engine.counts l.line.limit (program l.fn.engine) (g.E.Engine.table l.fn.engine) in
    let tags = g.E.Engine.tags in
    record {
      same : program l.engine ≡ program l.fn.engine;
      table : g.E.Engine.table l.engine ≡ g.E.Engine.table l.fn.engine;
      few : tags l.engine + 16 * l.left ≤ tags l.fn.engine + 16 * l.fn.left;
      remains : (w : World) → stands l.fn.engine w → (v : World) × stands l.engine v × Remains setting l.line.number (firings g.E.Engine.fires (program l.fn.engine) l.fn.most l.fn.left w) l.most l.left v l.fn.text.items l.text.items l.faulty;
    }

abbrev pub decreases-loop-left : goal.decreases-loop-left
decreases-loop-left g l = l.left
