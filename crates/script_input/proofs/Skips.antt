-- The reading of an input whose rest is forgotten.
use Rattle.std.proofs.Common.{◌≡◌, ℕ, ◌+◌, List, ◌++◌, length, Bool, false, Option, Result, Ok, Err, refl, subst, length-append, arith}
use Rattle.std.specs.Io.KnownBytes.{Consumes}
use Rattle.std.proofs.KnownBytes.{Consumes-trans}
use Rattle.lens_io.specs.declared.failed.TakeFault.{TakeFault}
use Rattle.script_input.specs.Skipped.{SkipsRest}
use Rattle.script_input.specs.Taking.{TakenInput, StopsSkipping, SkipsMore}

-- These bytes were taken behind those before, so many in all.
pub record SkipsOn (before taken : ℕ) (left left' : Option (List ℕ)) : Type 0 where
  pub more : List ℕ
  pub consumes : Consumes left left' more
  pub count : taken ≡ before + length more

module _ (before : ℕ) (left mid left' : Option (List ℕ)) (old new : TakenInput) (s : SkipsOn before old.taken left mid) where
  count : (bytes : List ℕ) → new.taken ≡ old.taken + length bytes → new.taken ≡ before + length (s.more ++ bytes)
  count bytes e = omega (arith, e, s.count, length-append s.more bytes)

  pub skips_more : (r : Result Bool TakeFault) → SkipsMore mid left' old new r → SkipsOn before new.taken left left'
  skips_more r m = record { more = s.more ++ m.bytes; consumes = Consumes-trans left mid left' s.more m.bytes s.consumes m.consumes; count = count m.bytes m.taken }

  pub skips_all : SkipsMore mid left' old new (Ok false) → SkipsRest before left left' (Ok tt)
  skips_all m = record {
    more = s.more ++ m.bytes;
    consumes = Consumes-trans left mid left' s.more m.bytes s.consumes m.consumes;
    at_most = omega (arith, count m.bytes m.taken, m.at_most);
    ends = ((m.skips.0 refl).0, omega (arith, count m.bytes m.taken, (m.skips.0 refl).1));
    stops = tt;
  }

  pub skips_fault : (fault : TakeFault) → SkipsMore mid left' old new (Err fault) → SkipsRest before left left' (Err fault)
  skips_fault fault m = record {
    more = s.more ++ m.bytes;
    consumes = Consumes-trans left mid left' s.more m.bytes s.consumes m.consumes;
    at_most = omega (arith, count m.bytes m.taken, m.at_most);
    ends = tt;
    stops = subst (λ n. StopsSkipping n fault) (count m.bytes m.taken) m.stops;
  }
