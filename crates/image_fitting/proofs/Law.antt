-- An image fits exactly where it fits by plain tests and by the rows over its facts.
use Rattle.image_fitting.proofs.{Common.{◌↔◌, ℕ, Image, LifeTable, Program, AreSafe, AreOwners, FitsPlainly, Fits, FitsByRows}, Agreeing.{laden_by, match_by}}
use Rattle.image_fitting.proofs.{Agreeing.{needed_by}, Present.{facts_present}}

module _ (p : Program) (table : LifeTable) (image : Image) (owners : ℕ → ℕ → ℕ) (safe : AreSafe p table) (own : AreOwners p owners) where
  to : Fits p table image → FitsPlainly p table image × FitsByRows p table image owners
  to x = (
    record {
      last_starts = x.last_starts;
      promises = x.promises;
      next_id = x.next_id;
      next_tag = x.next_tag;
      lines = x.lines;
      firings = x.firings;
      lawful = x.lawful;
      present = facts_present p table image owners safe x.lawful (x.needed owners own);
      facts_in_order = x.facts_in_order;
      fired_in_order = x.fired_in_order;
      extras_in_order = x.extras_in_order;
      placed = x.placed;
    },
    record { rows = x.rows owners own; fired = x.fired owners own; needed = x.needed owners own },
  )

  from : FitsPlainly p table image × FitsByRows p table image owners → Fits p table image
  from (x, y) = record {
    last_starts = x.last_starts;
    promises = x.promises;
    next_id = x.next_id;
    next_tag = x.next_tag;
    lines = x.lines;
    firings = x.firings;
    lawful = x.lawful;
    facts_in_order = x.facts_in_order;
    fired_in_order = x.fired_in_order;
    extras_in_order = x.extras_in_order;
    placed = x.placed;
    rows = λ others of_others e i. laden_by p image owners others own of_others e.rule.0 e.row e.condition (y.rows e i);
    fired = λ others of_others m i. match_by p image owners others own of_others m.rule.0 m.row (y.fired m i);
    needed = λ others of_others f i. needed_by p image owners others own of_others table f (y.needed f i);
  }

  pub fitting_law : Fits p table image ↔ (FitsPlainly p table image × FitsByRows p table image owners)
  fitting_law = (to, from)
