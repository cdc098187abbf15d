use Rattle.line_feed.{proofs.Common.{◌≡◌, ◌≤◌, ◌+◌, ◌-◌, length, take, Some}, specs.Fed.{Feeds, IsReady}}
use Rattle.line_feed.proofs.fed.feed.Given as goal

-- the bytes before this place were fed, and all behind it may still come
abbrev pub invariant-lines : goal.invariant-lines
invariant-lines g l = record {
  fed : Feeds g.T.LineTaker.stands (g.T.LineTaker.steps l.fn.fed.taker) (take l.from l.fn.bytes) l.fn.fed (Some l.fed) l.fn.text.items l.text.items;
  within : l.from ≤ length l.fn.bytes;
  room : l.fed.room + l.from ≡ l.fn.fed.room;
  ready : IsReady g.T.LineTaker.ready l.fed;
  steps : g.T.LineTaker.steps l.fed.taker ≡ g.T.LineTaker.steps l.fn.fed.taker;
  program : g.T.LineTaker.program l.fed.taker ≡ g.T.LineTaker.program l.fn.fed.taker;
  table : g.T.LineTaker.table l.fed.taker ≡ g.T.LineTaker.table l.fn.fed.taker;
}

abbrev pub decreases-lines : goal.decreases-lines
decreases-lines g l = length l.fn.bytes - l.from
