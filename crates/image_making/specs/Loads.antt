-- What a network is loaded with from an image, and what comes of it.
use Rattle.std.specs.{Prelude.{◌≡◌, ◌==◌, ◌&&◌, Bool, true, List}, List.{list_any, Sorted.{IsStrictlySortedBy}}}
use Rattle.fx_base.specs.{Lists.{In}, declared.fact.Fact.{Fact}}
use Rattle.row_delta.specs.{declared.extra.Extra.{Extra}, Rows.{has}}
use Rattle.checkpoint.specs.declared.image.Image.{Image}
use Rattle.rule_model.specs.{declared.{matched.Match.{Match}, program.Program.{Program}}, Candidates.{is_present}, Distinct.{tag_cmp}}
use Rattle.rule_world.specs.{Lawful.{IsLawful}, Programs.{IsRunnable}}
use Rattle.laden_rows.specs.{Extras.{extra_cmp}, Placed.{IsPlaced}}
use Rattle.image_laws.specs.Fitting.{world_of}
use Rattle.rete_net.specs.declared.changes.RuleChange.{RuleChange}

-- A network of a program can be loaded with the facts and the extras of an image, at its moment.
pub record CanBeLoaded (p : Program) (image : Image) : Type 0 where
  pub runnable : IsRunnable p
  -- the facts, the clock and the moments are those of a lawful world, and all of them are present
  pub lawful : IsLawful p (world_of image)
  pub present : (f : Fact) → In f image.facts → is_present p image.clock f ≡ true
  pub facts_in_order : IsStrictlySortedBy tag_cmp image.facts
  -- the extras have their places and their order
  pub placed : (e : Extra) → In e image.extras → IsPlaced p e
  pub extras_in_order : IsStrictlySortedBy extra_cmp image.extras

-- a row of this rule comes by one of the changes
abbrev pub comes_by : List RuleChange → Match → Bool
comes_by changes m = list_any (λ (c : RuleChange). c.rule.0 == m.rule.0 && has c.delta.come m.row) changes
