-- What steps do to a world they do to the world with its present facts only.
use Rattle.rule_world.proofs.Common.{◌≡◌, ◌≤ℤ◌, ◌+◌, ◌-ℤ◌, ◌&&◌, ◌==◌, ◌||◌, not, ℕ, ℤ, Bool, true, false, cond, List, [], ◌∷◌, ◌++◌, Option, Some, None, refl}
use Rattle.rule_world.proofs.Common.{sym, ◌∙◌, ap, arith, filter, ints, append-nil, Fact, Value, Program, is_within, has_match, is_event, expiry_of, of_filter}
use Rattle.rule_world.proofs.Common.{IsOrdered, IsLawful, IsSoundFact, World, present, only_present, with_new, world_at_clock, last_start_with, revised, has_id}
use Rattle.rule_world.proofs.{Common.{IsTimed, with_revised, with_retracted}, Fresh.{below_of, below_all, distinct_filtered}, Ids.{ids_filtered}}
use Rattle.rule_world.proofs.{Ids.{ids_below_filtered}, Sound.{events_filtered}, Steps.{stays}, Kept.{filter_within, filter_alike, filter_swap, filter_map}}
use Rattle.{rule_world.proofs.Kept.{filter_append, kept_matches}, std.proofs.Common.{if◌then◌else◌}, rule_model.specs.Candidates.{is_present}}
use Rattle.fx_base.proofs.Tests.{or_weaker}

abbrev world_with : World → List Fact → World
world_with w facts = record w { facts = facts }

-- ---- faults

-- ---- one step of each kind

-- all facts but those of the type and the id; of present facts a retraction takes these
abbrev pub others : ℕ → ℕ → Fact → Bool
others ty id f = not (f.ty.0 == ty && has_id id f)

abbrev pub without : ℕ → ℕ → List Fact → List Fact
without ty id facts = filter (others ty id) facts

abbrev pub without_fact : World → ℕ → ℕ → World
without_fact w ty id = record w { facts = without ty id w.facts }

pub kept_without : (p : Program) (w : World) (ty id : ℕ) → only_present p (with_retracted p w ty id) ≡ without_fact (only_present p w) ty id
kept_without p w ty id =
    ap (world_with w)
    (filter_swap (is_present p w.clock) (stays p w.clock ty id) w.facts
    ∙ filter_alike (stays p w.clock ty id) (others ty id) (is_present p w.clock) w.facts (λ f e. ap (λ b. not (b && (f.ty.0 == ty && has_id id f))) e))

same_when_revised : (p : Program) (clock : ℤ) (id tag : ℕ) (sets : List (ℕ × Value)) (f : Fact) (b : Bool)
    → is_present p clock (if b then revised tag sets f else f) ≡ is_present p clock f
unfolding is_present
same_when_revised p clock id tag sets f true = refl
same_when_revised p clock id tag sets f false = refl

pub kept_revised : (p : Program) (w : World) (id : ℕ) (sets : List (ℕ × Value)) → only_present p (with_revised w id sets) ≡ with_revised (only_present p w) id sets
kept_revised p w id sets =
    ap (λ facts. record w { facts = facts; next_tag = w.next_tag + 1 })
    (filter_map (is_present p w.clock) (λ (f : Fact). if has_id id f then revised w.next_tag sets f else f) w.facts
    (λ f. same_when_revised p w.clock id w.next_tag sets f (has_id id f)))

abbrev pub with_numbers : Program → World → Fact → World
with_numbers p w f = record w { reached = record w.reached { last_start = last_start_with p f w.reached.last_start }; begun = w.begun || is_event p f.ty.0; next_id = w.next_id + 1; next_tag = w.next_tag + 1 }

abbrev new_world : Program → World → Fact → List Fact → World
new_world p w f facts = record w { facts = facts; reached = record w.reached { last_start = last_start_with p f w.reached.last_start }; begun = w.begun || is_event p f.ty.0; next_id = w.next_id + 1; next_tag = w.next_tag + 1 }

pub kept_new : (p : Program) (w : World) (f : Fact) → is_present p w.clock f ≡ true → only_present p (with_new p w f) ≡ with_new p (only_present p w) f
kept_new p w f e =
    ap (new_world p w f)
    (filter_append (is_present p w.clock) w.facts (f ∷ []) ∙ ap (λ b. present p w ++ cond b (f ∷ []) []) e)

-- what is not present when it is inserted leaves its numbers and its start alone
pub kept_numbers : (p : Program) (w : World) (f : Fact) → is_present p w.clock f ≡ false → only_present p (with_new p w f) ≡ with_numbers p (only_present p w) f
kept_numbers p w f e =
    ap (new_world p w f)
    (filter_append (is_present p w.clock) w.facts (f ∷ []) ∙ ap (λ b. present p w ++ cond b (f ∷ []) []) e ∙ append-nil (present p w))

-- ---- the clock

younger : (expiry : Option ℤ) (a b : ℤ) → a ≤ℤ b → is_within expiry b ≡ true → is_within expiry a ≡ true
younger None a b le e = refl
younger (Some x) a b le e = grind (arith, ints)

-- what is present was present before
pub was_present : (p : Program) (f : Fact) (c d : ℤ) → c ≤ℤ d → is_present p d f ≡ true → is_present p c f ≡ true
unfolding is_present
was_present p f c d le e =
    or_weaker (not (is_event p f.ty.0)) (is_within (expiry_of p f.ty.0) (d -ℤ f.times.start)) (is_within (expiry_of p f.ty.0) (c -ℤ f.times.start))
    (younger (expiry_of p f.ty.0) (c -ℤ f.times.start) (d -ℤ f.times.start) (omega (arith, ints, le))) e

pub kept_later : (p : Program) (w : World) (clock : ℤ) → w.clock ≤ℤ clock → only_present p (world_at_clock w clock) ≡ only_present p (world_at_clock (only_present p w) clock)
kept_later p w clock le =
    ap (λ facts. record w { facts = facts; clock = clock }) (sym (filter_within (is_present p clock) (is_present p w.clock) w.facts (λ f e. was_present p f w.clock clock le e)))

-- ---- lawful worlds

sound_kept : (p : Program) (w : World) (f : Fact) → IsSoundFact p w f → IsSoundFact p (only_present p w) f
sound_kept p w f h = record { fits = h.fits; timed = λ e. timed (h.timed e); plain = h.plain }
  where
    timed : IsTimed p w f → IsTimed p (only_present p w) f
    timed t = record { from_zero = t.from_zero; to_clock = t.to_clock; to_last = t.to_last; event = t.event; short = t.short }

pub kept_ordered : (p : Program) (w : World) → IsOrdered p w → IsOrdered p (only_present p w)
kept_ordered p w o = record {
  ids = ids_filtered (is_present p w.clock) w.facts o.ids;
  fresh_ids = ids_below_filtered (is_present p w.clock) w.facts w.next_id o.fresh_ids;
  tags = distinct_filtered (is_present p w.clock) w.facts o.tags;
  fresh = below_all w.next_tag (present p w) (λ f i. below_of w.next_tag w.facts o.fresh f (of_filter (is_present p w.clock) f w.facts i));
  fired = λ m e. ap (λ ms. has_match ms m) (kept_matches p w) ∙ o.fired m e;
}

-- a lawful world with its present facts only is one
pub kept_lawful : (p : Program) (w : World) → IsLawful p w → IsLawful p (only_present p w)
kept_lawful p w l = record {
  ordered = kept_ordered p w l.ordered;
  once = l.once;
  clock_low = l.clock_low;
  clock_high = l.clock_high;
  last_low = l.last_low;
  last_high = l.last_high;
  promise_low = l.promise_low;
  promise_high = l.promise_high;
  sound = λ f i. sound_kept p w f (l.sound f (of_filter (is_present p w.clock) f w.facts i));
  events = events_filtered p (is_present p w.clock) w.facts l.events;
  unbegun = λ b f i. l.unbegun b f (of_filter (is_present p w.clock) f w.facts i);
}
