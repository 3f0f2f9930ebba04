-- What one end of a session seals opens at the other.
use Rattle.std.proofs.Common.{◌≡◌, ℕ, ◌+◌, ◌^◌, ◌<◌, List, length, drop, Bool, true, false, not, ◌&&◌, None, refl, sym, ap, ◌∙◌, arith}
use Rattle.std.specs.Int.{w64, from_be_bytes}
use Rattle.std.specs.Option.{is_none}
use Rattle.std.proofs.lemmas.Nat.{from_be_bytes-to_be_bytes_8}
use Rattle.crypto_profile.specs.Keys.{Keys, keys_of}
use Rattle.crypto_profile.specs.Opening.{open_refusal, plain_of}
use Rattle.crypto_profile.specs.Sealing.{number_of}
use Rattle.crypto_profile.proofs.Opened.{sealed_opens, sealed_carries}
use Rattle.glare_core.specs.declared.facts.Joined.{Joined}
use Rattle.session_core.specs.declared.stage.Role.{Role}
use Rattle.session_core.specs.declared.stage.Role.TheVariants.{Initiator, Responder}
use Rattle.session_core.specs.Session.{context_between}
use Rattle.session_core.specs.Sealed.{number_bytes, sealed_part}
use Rattle.session_core.specs.Hearing.{is_session_number, opens_under}
use Rattle.session_core.specs.Meeting.{other_role, ContextsMeet, SealedOpensThere}

not-not : (b : Bool) → not (not b) ≡ b
not-not true = refl
not-not false = refl

meets : (g h : ℕ) (a b : Joined) (own there : List ℕ) (role other : Role) (outward : Bool) → a.ni ≡ b.ni → a.nr ≡ b.nr → own ≡ b.peer → a.peer ≡ there
    → a.near ≡ b.far → a.far ≡ b.near → role ≡ other_role other → g ≡ h
    → context_between g a own role outward ≡ context_between h b there other (not outward)
meets g h a b own there Initiator Responder outward ni nr first second near far roles same = let e = not-not outward in cc
meets g h a b own there Responder Initiator outward ni nr first second near far roles same = cc
meets g h a b own there Initiator Initiator outward ni nr first second near far roles same = absurd (cc)
meets g h a b own there Responder Responder outward ni nr first second near far roles same = absurd (cc)

pub contexts_meet : ContextsMeet
contexts_meet a b outward e =
    meets a.generation b.generation a.joined b.joined a.own b.own a.role b.role outward e.ni e.nr e.first e.second e.near e.far e.roles e.generation

opens_where : (keys : Keys) (sid : ℕ) (part : List ℕ) → open_refusal keys sid part ≡ None → is_session_number (number_of part) ≡ true
    → opens_under keys sid part ≡ true
opens_where keys sid part none zeros = ap (λ r. is_none r && is_session_number (number_of part)) none ∙ zeros

number_long : (n : ℕ) → length (number_bytes n) ≡ 16
number_long n = refl

number_fits : (n : ℕ) → is_session_number (number_bytes n) ≡ true
number_fits n = refl

count_back : (n : ℕ) → n < 2 ^ 64 → from_be_bytes w64 (drop 8 (number_bytes n)) ≡ n
count_back n h = from_be_bytes-to_be_bytes_8 n h

pub sealed_opens_there : SealedOpensThere
sealed_opens_there a b plain e more =
    let keys : Keys = a.outward in
    let same_keys : keys ≡ b.inward = e.keyed.away ∙ ap (keys_of e.secret) (contexts_meet a b true e) ∙ sym e.keyed_there.towards in
    let number : List ℕ = number_bytes (a.sealed + 1) in
    let part : List ℕ = sealed_part a plain in
    let long : length number ≡ 16 = number_long (a.sealed + 1) in
    let opened = sealed_opens keys a.joined.far number plain long in
    let carried : number_of part ≡ number = (sealed_carries keys a.joined.far number plain long).0 in
    let below : a.sealed + 1 < 2 ^ 64 = omega arith in (
      ap (λ k. opens_under k b.joined.near part) (sym same_keys) ∙ ap (λ sid. opens_under keys sid part) (sym e.far)
          ∙ opens_where keys a.joined.far part opened.0 (ap is_session_number carried ∙ number_fits (a.sealed + 1)),
      ap (λ k. plain_of k part) (sym same_keys) ∙ opened.1,
      ap (λ n. from_be_bytes w64 (drop 8 n)) carried ∙ count_back (a.sealed + 1) below,
    )
