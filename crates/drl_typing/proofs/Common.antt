-- Names from modules that two proofs and more cite, passed on from one place. Declares nothing.
pub use Rattle.std.proofs.Common.{◌≡◌, drop, ◌+◌, length, ◌≤◌, List, Option, [], ap, map, refl, sym, take, true, ℕ, ◌++◌, ◌∙◌, ◌∷◌, Bool, arith, false, get_or}
pub use Rattle.std.proofs.{Common.{if◌then◌else◌, length-drop, max, nat_lt, not, suc, ◌*◌, ◌-◌, ◌<◌, ◌||◌}, lemmas.List.{append-nil, drop_all, map-append}}
pub use Rattle.{std.proofs.lemmas.List.{take_more}, drl_scope.specs.Sight.{begin, Sight, behind_all}, drl_typing.specs.Kinds.{taken_kinds, args_misfit}}
pub use Rattle.{drl_typing.specs.{Kinds.{taken_by, word_kind}, Uses.{any_condition}}, fx_base.specs.declared.kind.Kind.{Kind}}
