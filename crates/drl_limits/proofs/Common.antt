-- Names from modules that two proofs and more cite, passed on from one place. Declares nothing.
pub use Rattle.std.proofs.Common.{◌≡◌, List, drop, ℕ, ◌+◌, Bool, None, Some, ap, arith, cond, false, is_some, length, map, max, nat_le, refl, sym, true, ◌*◌}
pub use Rattle.{std.{proofs.Common.{◌-◌, ◌∙◌, ◌∷◌}, specs.List.{sum_by, list_all}}, drl_limits.specs.{Limits.{is_name, weight}, Room.{left_of}}}
