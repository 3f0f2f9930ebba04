-- How a certificate and a service name are stored: as the first bytes of an array of 80 and of 64,
-- with zeros after them.
use Rattle.std.specs.Prelude.{ℕ, List, ◌≡◌, ◌≤◌, ◌-◌, ◌++◌, length, take, drop, replicate}
use Rattle.std.proofs.Common.{subst, sym, ap, ◌∙◌}
use Rattle.std.proofs.lemmas.List.{length-take-le, take-append-drop}
use Rattle.identity.specs.Certificates.{IsCertificate}
use Rattle.identity.specs.ServiceNames.{IsServiceName}

pub record IsStored (bytes : List ℕ) (len : ℕ) : Type 0 where
  pub whole : length bytes ≡ 80
  pub within : len ≤ 80
  pub form : IsCertificate (take len bytes)
  pub rest : drop len bytes ≡ replicate (80 - len) 0

pub record IsNameStored (bytes : List ℕ) (len : ℕ) : Type 0 where
  pub whole : length bytes ≡ 64
  pub within : len ≤ 64
  pub form : IsServiceName (take len bytes)
  pub rest : drop len bytes ≡ replicate (64 - len) 0

-- The array and the length follow from what stands in it.
pub padded_again : {C : Type 0} (make : List ℕ → ℕ → C) (most : ℕ) (bytes : List ℕ) (len : ℕ) →
    length bytes ≡ most → len ≤ most → drop len bytes ≡ replicate (most - len) 0 →
    make (take len bytes ++ replicate (most - length (take len bytes)) 0) (length (take len bytes))
    ≡ make bytes len
padded_again make most bytes len whole within rest =
    let same : length (take len bytes) ≡ len =
    length-take-le len bytes (subst (λ n. len ≤ n) (sym whole) within) in
    let padded : take len bytes ++ replicate (most - len) 0 ≡ bytes =
    ap (λ zeros. take len bytes ++ zeros) (sym rest) ∙ take-append-drop len bytes in
    ap (λ n. make (take len bytes ++ replicate (most - n) 0) n) same ∙ ap (λ b. make b len) padded

pub stored_again : {C : Type 0} (make : List ℕ → ℕ → C) (bytes : List ℕ) (len : ℕ) →
    IsStored bytes len →
    make (take len bytes ++ replicate (80 - length (take len bytes)) 0) (length (take len bytes))
    ≡ make bytes len
stored_again make bytes len stored =
    padded_again make 80 bytes len stored.whole stored.within stored.rest

pub name_stored_again : {C : Type 0} (make : List ℕ → ℕ → C) (bytes : List ℕ) (len : ℕ) →
    IsNameStored bytes len →
    make (take len bytes ++ replicate (64 - length (take len bytes)) 0) (length (take len bytes))
    ≡ make bytes len
name_stored_again make bytes len stored =
    padded_again make 64 bytes len stored.whole stored.within stored.rest
