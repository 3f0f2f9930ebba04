-- How a certificate is kept in its array.
use Rattle.std.proofs.Common.{ℕ, List, ◌≡◌, ◌-◌, ◌++◌, length, replicate, arith, None, length-append, sym, subst}
use Rattle.std.proofs.lemmas.List.{length-replicate}
use Rattle.std.proofs.Math.Seq.{drop-append_seam, take-append_seam}
use Rattle.identity.specs.Certificates.{certificate_fault, IsCertificate}
use Rattle.identity.specs.Stored.{IsStored}

-- where no fault stands the bytes are a certificate
pub is_certificate : (bytes : List ℕ) → certificate_fault bytes ≡ None → IsCertificate bytes
is_certificate bytes none = record { named = grind (arith, none); short_named = grind (arith, none); ascii = grind (arith, none) }

-- it is kept in its padded array
pub stored_padded : (bytes : List ℕ) → certificate_fault bytes ≡ None → IsStored (bytes ++ replicate (80 - length bytes) 0) (length bytes)
stored_padded bytes none =
    let form = is_certificate bytes none in
    let zeros : List ℕ = replicate (80 - length bytes) 0 in
    record {
      whole = omega (arith, length-append bytes zeros, length-replicate {A = ℕ} (80 - length bytes) 0, form.short_named);
      within = form.short_named;
      form = subst (λ b. IsCertificate b) (sym (take-append_seam bytes zeros)) form;
      rest = drop-append_seam bytes zeros;
    }
