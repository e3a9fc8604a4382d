-- What an accepted set is, by its family (specs/Fit.antt), its stream, its factors and its size.
use Rattle.std.specs.Prelude.{◌≡◌, refl, ◌≤◌}
use Rattle.std.proofs.Common.{sym, ◌∙◌, arith}
use Rattle.laws.specs.Outcome.{done}
use Rattle.profiles.specs.declared.Family.{Family}
use Rattle.profiles.specs.declared.Family.TheVariants.{Carrier, Spatial, Turbo, Quadratic, Coupled}
use Rattle.sizes.specs.Admits.{listed_range}
use Rattle.sets.specs.declared.Set.{Set}
use Rattle.sets.specs.Set.{size_of, family_of}
use Rattle.sets.specs.Stream.{stream_true}
use Rattle.sets.specs.Fit.{Carried, carrier_fit, spatial_fit, turbo_fit, quadratic_fit, coupled_fit}
use Rattle.sets.specs.Beside.{factors_range, couples_numbered, apart_by}
use Rattle.sets.specs.Verdict.{verdict_of}
use Rattle.sets.proofs.Admits.{accepted_listed, accepted_stream, accepted_factors}
use Rattle.sets.specs.Carried.{Squared, Paired}

module _ (s : Set) (e : verdict_of s ≡ done tt) where
  pub carrier_size : family_of s ≡ Carrier → Carried s
  carrier_size = carrier_fit s (accepted_listed s e)

  pub spatial_size : family_of s ≡ Spatial → Carried s
  spatial_size = spatial_fit s (accepted_listed s e)

  pub turbo_size : family_of s ≡ Turbo → (40 ≤ s.n) × (s.n ≤ 5114)
  turbo_size = turbo_fit s (accepted_listed s e)

  pub quadratic_size : family_of s ≡ Quadratic → Squared s
  quadratic_size q =
      let z = quadratic_fit s (accepted_listed s e) q in
      let t = accepted_factors s e in
      let r = factors_range s q t.0 in
      record {
        size = omega (arith, z.0);
        small = z.1;
        first_in = r.0.1;
        second_in = r.1.1;
        apart = sym (apart_by s q) ∙ t.1;
      }

  pub coupled_size : family_of s ≡ Coupled → Paired s
  coupled_size q =
      let z = coupled_fit s (accepted_listed s e) q in
      let t = accepted_factors s e in
      record {
        most = z.1;
        numbered = couples_numbered s (accepted_listed s e) t.0 q;
        four = z.2;
        apart = sym (apart_by s q) ∙ t.1;
      }

  -- the stream is 1 to 4
  pub stream_in : (1 ≤ s.stream) × (s.stream ≤ 4)
  stream_in =
      let r = listed_range (size_of s) (accepted_listed s e) in
      let q = stream_true s r.0 r.1 (accepted_stream s e) in
      (q.0, q.1.0)

-- no listed size is above 6,144
pub sizes_small : (s : Set) → verdict_of s ≡ done tt → s.n ≤ 6144
sizes_small s e = go (family_of s) refl
  where
    go : (f : Family) → family_of s ≡ f → s.n ≤ 6144
    go Carrier q = omega (arith, (carrier_size s e q).small)
    go Spatial q = omega (arith, (spatial_size s e q).small)
    go Turbo q = omega (arith, (turbo_size s e q).1)
    go Quadratic q = (quadratic_size s e q).small
    go Coupled q = omega (arith, (coupled_size s e q).most)
