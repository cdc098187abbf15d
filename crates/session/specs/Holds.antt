-- What a session holds, in the words of the definition of what is kept.
use Rattle.std.specs.Prelude.{◌≡◌, ◌↔◌, ◌+ℤ◌, ◌<ℤ◌, ℤ, true, Some, slice_get}
use Rattle.std.specs.FinMap as map
use Rattle.fx_base.specs.{Lists.{In}, declared.fact.Fact.{Fact}}
use Rattle.rule_model.specs.{declared.{life.Life.TheVariants.{Finite}, matched.Match.{Match}}, Matches.{has_match}, Tuples.{name_of}}
use Rattle.rule_world.specs.Worlds.{World, pending}
use Rattle.life_meaning.specs.Tables.{IsKept}
use Rattle.session_model.specs.Standing.{Runs}
use Rattle.session.specs.{declared.session.Session.{Session}, Sessions.{SessionStands}}

-- Of each world for which a session stands its store has exactly what is kept, by the table that it was made with.
abbrev pub HoldsWhatIsKept : Type 0
HoldsWhatIsKept = (s : Session) (w : World) → Runs s.setting → SessionStands s w → (f : Fact)
    → (map.get s.state.value.facts f.tag.0 ≡ Some f) ↔ IsKept s.setting.program s.setting.lives w f

-- An event whose type has a finite life and which is past it is held only while a match names it that is still to fire.
abbrev pub OldEventsAreNamed : Type 0
OldEventsAreNamed = (s : Session) (w : World) → Runs s.setting → SessionStands s w → (f : Fact)
    → (n : ℤ) → slice_get s.setting.lives.lives f.ty.0 ≡ Some (Finite n) → (f.times.end +ℤ n) <ℤ w.clock
    → map.get s.state.value.facts f.tag.0 ≡ Some f → (m : Match) × (has_match (pending s.setting.program w) m ≡ true) × In (name_of f) m.row.facts
