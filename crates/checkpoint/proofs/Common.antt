-- Names from modules that two proofs and more cite, passed on from one place. Declares nothing.
pub use Rattle.std.proofs.Common.{arith, ◌∙◌, ◌≡◌, ap, subst, sym, ◌++◌, List, Some, [], refl, ℕ, ◌∷◌, ◌≤◌, None, drop, false, length, suc, take, true, Bool}
pub use Rattle.std.proofs.Common.{Err, Ok, Option, Result, append_assoc, cond, zero, ◌<◌, get_or, ltb, ◌+◌, ◌-◌, Bor, FitsSigned, add-one, inl, inr, negsuc}
pub use Rattle.std.proofs.{Common.{option_map, pos, suc-mul, take-suc, vec_capacity, vec_len, ℤ, ◌&&◌, ◌*◌, ◌/◌, ◌==◌, ◌^◌}, lemmas.Bool.{le-ltb, ltb-false}}
pub use Rattle.std.proofs.lemmas.{Bool.{cases_lt, eqb-true}, List.{length-append, append-nil, drop_at, length-take, take-append-drop, take_at, drop_more}}
pub use Rattle.std.proofs.lemmas.{List.{get_or-take, get_or_past}, Nat.{be_bytes_2, be_bytes_8, from_be_bytes-to_be_bytes_2, from_be_bytes-to_be_bytes_8}}
pub use Rattle.std.{proofs.lemmas.{Nat.{le-div}, Str.{is_utf8-from_IsUtf8, IsUtf8-from_is_utf8}}, specs.Int.{w64, Width, byte_len, cast_signed, cast_unsigned}}
pub use Rattle.{std.specs.{Int.{from_be_bytes, to_be_bytes, w16}, Prelude.{IfErr, IfOk, IsErrAnd, MatchResult, codes}}, checkpoint.specs.Bytes.{each_bytes}}
pub use Rattle.checkpoint.specs.Bytes.{Each, long_bytes, AreFields, IsByte, FitsLong, IsImageText, field_bytes, list_bytes, signed_bytes, AreAll, AreBytes}
pub use Rattle.checkpoint.specs.Bytes.{IsExtra, IsFact, IsFired, IsFlag, IsVersionName, IsImageRow, IsImageRun, FitsShort, IsSigned, IsValue, byte_bytes}
pub use Rattle.checkpoint.specs.Bytes.{extra_bytes, fact_bytes, fired_bytes, flag_bytes, named_bytes, row_bytes, run_bytes, short_bytes, string_bytes}
pub use Rattle.checkpoint.specs.{Bytes.{value_bytes}, Reading.{ReadBytes, ◌>>=◌, TellsDecodeFault, read_items, made_at, read_number, both_at, byte_at, decoded}}
pub use Rattle.checkpoint.specs.Reading.{extra_least, extra_of, fact_least, fact_read, fields_at, fired_least, fired_of, if_no_byte_left, image_of, named_least}
pub use Rattle.checkpoint.specs.{Reading.{named_read, row_read, run_of, signed_least, value_least}, declared.fault.DecodeFault.{DecodeFault}}
pub use Rattle.checkpoint.specs.declared.fault.DecodeFault.TheVariants.{BadImage, NoMemory}
