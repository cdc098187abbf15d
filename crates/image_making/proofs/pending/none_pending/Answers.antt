use Rattle.{std.{proofs.Common.{List, ap, map, sym, ◌∙◌, ◌≡◌}, specs.List.{list_all}}, change_rules.specs.Staying.{place_in}}
use Rattle.{image_change.proofs.Owners.{owners}, checkpoint.specs.declared.image.FiredMatch.{FiredMatch}, image_laws.specs.Images.{match_fired}}
use Rattle.{rule_model.specs.{Matches.{has_match}, declared.matched.Match.{Match}}, image_making.{proofs.Marking.{from_told, to_told}, specs.Marks.{is_told}}}
use Rattle.image_making.proofs.pending.none_pending.Goals as goal

pub returns-clause-none : goal.returns-clause-none
returns-clause-none c table w lawful safe is =
    let p = c.args.program.now in
    let places = c.args.places.now in
    let own = owners p in
    let set = c.in_ok-fired.fired.keys in
    let matches = c.in_ok-matches.matches.items in
    let all : c.are_told.result ≡ list_all (is_told places set) matches =
    c.are_told.ensures ∙ ap (λ (ms : List Match). list_all (is_told places set) ms) c.deref.ensures.value in
    let told = c.pending_is_told.ensures p (place_in places) table own.0 w c.args.image.now lawful safe own.1 is in
    let fired = (λ (m : Match). c.in_ok-fired.ensures m ∙ ap (λ (fs : List FiredMatch). has_match (map match_fired fs) m) c.as_slice.ensures) in
    let laden = c.in_ok-matches.ensures.matches own.0 own.1 in (
      λ yes. told.1 (to_told places p c.args.image.now own.0 set matches fired laden (sym all ∙ yes)),
      λ none. all ∙ from_told places p c.args.image.now own.0 set matches fired laden (told.0 none),
    )
