-- Names that the files of these proofs cite. Declares nothing.
pub use Rattle.std.proofs.Common.{◌≡◌, ◌≢◌, ◌<◌, ◌≤◌, ◌+◌, ◌-◌, ◌++◌, ◌==◌, ◌||◌, ℕ, zero, suc, Bool, true, false, List, [], ◌∷◌, length, take, drop, Option}
pub use Rattle.std.proofs.{Common.{Some, None, refl, sym, ap, subst, ◌∙◌, append_assoc, arith}, lemmas.List.{append-nil, length-append, length-drop}}
pub use Rattle.std.proofs.lemmas.List.{length-take, take_all, take_min, take-append-le, take-append-drop, take_rest, Folds.{list_any-append}}
pub use Rattle.std.specs.Prelude.{if◌then◌else◌, min, IfSome, ◌^◌}
