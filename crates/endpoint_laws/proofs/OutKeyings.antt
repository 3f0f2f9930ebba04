-- Which packets may go out in the startup context.
use Rattle.std.proofs.Common.{◌≡◌, ℕ, ◌^◌, ◌<◌, ◌≤◌, List, [], ◌∷◌, ◌++◌, length, take, Some, Bool, true, false, inl, refl, ap, ◌∙◌, arith, length-append}
use Rattle.std.specs.Int.{w16, w64, to_be_bytes}
use Rattle.std.proofs.lemmas.List.{length-take}
use Rattle.rtmfp_forms.specs.Address.{AddressParts, address_bytes, host_len}
use Rattle.rtmfp_chunks.specs.Chunk.{Chunk, IHello, RHello, Redirect, CookieChange, IIKeying, RIKeying, parts_of}
use Rattle.rtmfp_chunks.specs.Writing.{payload_bytes, PartsFit}
use Rattle.crypto_profile.specs.Hmac.{hmac}
use Rattle.crypto_profile.specs.Keys.{sign_key_of}
use Rattle.crypto_profile.proofs.Streams.{length-hmac}
use Rattle.cookies.specs.Cookie.{cookie_of, cookie_body, observed}
use Rattle.sha2.proofs.Facts256.{length-sha256}
use Rattle.glare_core.specs.declared.facts.Held.TheVariants.{Opening, HalfOpen}
use Rattle.glare_core.specs.declared.facts.Joined.{Joined}
use Rattle.glare_core.specs.Standing.{held}
use Rattle.startup_packets.specs.Packets.{startup_packet, ihello_packet, rhello_packet, cookiechange_packet, initiator_part, responder_part, iikeying_packet, iikeying_signed, rikeying_packet, rikeying_signed, rikeying_with}
use Rattle.startup_packets.specs.Packets.{addresses_bytes, redirect_packet}
use Rattle.startup_packets.proofs.Sizes.{startup_length, ihello_length, rhello_length, redirect_length, length-addresses_bytes, cookiechange_length, iikeying_length, rikeying_length}
use Rattle.rtmfp_chunks.proofs.WritingLaws.{parts_bytes-spell}
use Rattle.endpoint_model.specs.Event.{Setup, own_of, Call}
use Rattle.endpoint_laws.specs.Contexts.{Secrets, BegunUnder}
use Rattle.endpoint_laws.specs.Past.{Past, facts_of}
use Rattle.endpoint_laws.specs.Lawful.{IsBornHere, KeyingGoesIn}
use Rattle.endpoint_laws.proofs.OutHeld.{HasSizes}
use Rattle.endpoint_laws.proofs.OutPackets.{one_whole, startup_head, startup_reads, startup_alone, no_keyings, these_keyings}
use Rattle.endpoint_laws.proofs.OutSends.{MayGo, KeyingMay}

pub length-cookie_of : (secret : List ℕ) (address : AddressParts) (moment : ℕ) → length (cookie_of secret address moment) ≤ 128
length-cookie_of secret address moment =
    let a : AddressParts = observed address in
    omega (
      arith,
      length-append (cookie_body address moment) (take 16 (hmac secret (cookie_body address moment))),
      length-append (to_be_bytes w64 moment) (address_bytes a),
      length-append (take (host_len a.v6) a.host) (to_be_bytes w16 a.port),
      length-take (host_len a.v6) a.host,
      length-take 16 (hmac secret (cookie_body address moment)),
      host_few a.v6,
    )
  where
    host_few : (b : Bool) → host_len b ≤ 16
    host_few true = omega arith
    host_few false = omega arith

small : (chunk : Chunk) → length (startup_packet chunk) ≤ 1164 → length (payload_bytes chunk) < 2 ^ 16
small chunk h = omega (arith, startup_length chunk, h)

module _ (secrets : Secrets) (setup : Setup) (past : Past) (generation sid : ℕ) where
  pub ihello_may : (epd tag : List ℕ) → length epd ≤ 128 → length tag ≤ 128 → MayGo secrets setup past generation sid (ihello_packet epd tag)
  unfolding ihello_packet
  ihello_may epd tag p q packet reads =
      no_keyings _ _ packet 0x30 (payload_bytes (IHello epd tag)) (startup_alone (IHello epd tag) packet (small (IHello epd tag) (ihello_length epd tag p q)) reads) (omega arith) (omega arith)

  pub rhello_may : (tag cookie cert : List ℕ) → length tag ≤ 128 → length cookie ≤ 128 → length cert ≤ 80 → MayGo secrets setup past generation sid (rhello_packet tag cookie cert)
  unfolding rhello_packet
  rhello_may tag cookie cert p q r packet reads =
      no_keyings _ _ packet 0x70 (payload_bytes (RHello tag cookie cert))
      (startup_alone (RHello tag cookie cert) packet (small (RHello tag cookie cert) (rhello_length tag cookie cert p q r)) reads) (omega arith) (omega arith)

  pub redirect_may : (tag : List ℕ) (addresses : List AddressParts) → length tag ≤ 128 → length addresses ≤ 16 → MayGo secrets setup past generation sid (redirect_packet tag addresses)
  unfolding redirect_packet
  redirect_may tag addresses p q packet reads =
      let list : List ℕ = addresses_bytes addresses in
      let short : length list ≤ 304 = omega (arith, length-addresses_bytes addresses) in
      no_keyings _ _ packet 0x71 (payload_bytes (Redirect tag list)) (startup_alone (Redirect tag list) packet (small (Redirect tag list) (redirect_length tag list p short)) reads) (omega arith) (omega arith)

  pub cookiechange_may : (old new : List ℕ) → length old ≤ 128 → length new ≤ 128 → MayGo secrets setup past generation sid (cookiechange_packet old new)
  unfolding cookiechange_packet
  cookiechange_may old new p q packet reads =
      no_keyings _ _ packet 0x79 (payload_bytes (CookieChange old new))
      (startup_alone (CookieChange old new) packet (small (CookieChange old new) (cookiechange_length old new p q)) reads) (omega arith) (omega arith)

  -- ---- keyings

  ii_fits : (near : ℕ) (cookie cert part sign : List ℕ) → near < 2 ^ 32 → length cookie ≤ 128 → length cert ≤ 80 → length part ≤ 80 → PartsFit (parts_of (IIKeying near cookie cert part sign))
  ii_fits near cookie cert part sign a b c d = (a, (omega arith, (omega arith, (omega arith, tt))))

  ri_fits : (near : ℕ) (part sign : List ℕ) → near < 2 ^ 32 → length part ≤ 80 → PartsFit (parts_of (RIKeying near part sign))
  ri_fits near part sign a b = (a, (omega arith, tt))

  pub iikeying_may : (call : Call) (secret : List ℕ) (near : ℕ) (cookie cert ni : List ℕ) (n : ℕ) (peer : List ℕ) → length cookie ≤ 128 → length cert ≤ 80 → cert ≡ setup.cert →
      held peer (facts_of past) ≡ Some (Opening n near ni) → HasSizes peer (Some (Opening n near ni)) → KeyingGoesIn secrets setup past call peer near generation →
      KeyingMay secrets setup call past generation near (iikeying_packet secret near cookie cert ni n peer)
  unfolding iikeying_signed
  iikeying_may call secret near cookie cert ni n peer narrow short mine is_held sizes goes =
      let part : List ℕ = initiator_part ni n peer in
      let sign : List ℕ = hmac (sign_key_of secret) (payload_bytes (IIKeying near cookie cert part [])) in
      let chunk : Chunk = IIKeying near cookie cert part sign in
      let part_len : length part ≤ 80 = omega (arith, length-append (ni ++ to_be_bytes w64 n) peer, length-append ni (to_be_bytes w64 n), sizes.0, sizes.2) in
      let sign_len : length sign ≤ 32 = omega (arith, length-hmac (sign_key_of secret) (payload_bytes (IIKeying near cookie cert part []))) in
      let fits : length (payload_bytes chunk) < 2 ^ 16 = small chunk (iikeying_length near cookie cert part sign narrow short part_len sign_len) in
      record {
        may = λ packet reads.
            these_keyings _ _ packet chunk (startup_alone chunk packet fits reads) (ii_fits near cookie cert part sign sizes.1 narrow short part_len)
            (refl, record { own = mine; peer = peer; n = n; ni = ni; is_held = is_held; values = refl; generation = generation; goes = goes; startup = refl });
        bears = record {
          packet = one_whole startup_head (0x03 ∷ []) 0x38 (payload_bytes chunk);
          reads = startup_reads chunk fits;
          chunk = record { kind = 0x38; at = 1; payload = payload_bytes chunk };
          among = inl refl;
          cookie = cookie;
          cert = cert;
          part = part;
          sign = sign;
          spells = (refl, parts_bytes-spell (parts_of chunk) (ii_fits near cookie cert part sign sizes.1 narrow short part_len));
        };
      }

  -- with whatever signature
  signed_may : (sign : List ℕ) (j : Joined) (own : List ℕ) → length sign ≤ 32 → own ≡ own_of setup → sid ≡ j.far → IsBornHere (held j.peer (facts_of past)) j → BegunUnder secrets setup (HalfOpen j) generation past → j.near < 2 ^ 32 → length j.ni ≤ 16 → length j.nr ≤ 16 →
      MayGo secrets setup past generation sid (startup_packet (RIKeying j.near (responder_part j.nr j.k own j.ni) sign))
  signed_may sign j own sign_len mine far is_held born near ni nr packet reads =
      let part : List ℕ = responder_part j.nr j.k own j.ni in
      let chunk : Chunk = RIKeying j.near part sign in
      let own_len : length own ≡ 32 = ap length mine ∙ length-sha256 setup.cert in
      let part_len : length part ≤ 80 =
      omega (arith, length-append (j.nr ++ to_be_bytes w64 j.k ++ own) j.ni, length-append (j.nr ++ to_be_bytes w64 j.k) own, length-append j.nr (to_be_bytes w64 j.k), own_len, ni, nr) in
      these_keyings _ _ packet chunk (startup_alone chunk packet (small chunk (rikeying_length j.near part sign part_len sign_len)) reads) (ri_fits j.near part sign near part_len)
      record { j = j; generation = generation; born = born; startup = refl; is_held = is_held; sid_is = far; near_is = refl; values = ap (λ (o : List ℕ). responder_part j.nr j.k o j.ni) mine }

  pub rikeying_may : (secret : List ℕ) (j : Joined) (own : List ℕ) → own ≡ own_of setup → sid ≡ j.far → IsBornHere (held j.peer (facts_of past)) j → BegunUnder secrets setup (HalfOpen j) generation past → j.near < 2 ^ 32 → length j.ni ≤ 16 → length j.nr ≤ 16 →
      MayGo secrets setup past generation sid (rikeying_packet secret j.near j.nr j.k own j.ni)
  unfolding rikeying_signed
  rikeying_may secret j own =
      let before : List ℕ = payload_bytes (RIKeying j.near (responder_part j.nr j.k own j.ni) []) in
      signed_may (hmac (sign_key_of secret) before) j own (omega (arith, length-hmac (sign_key_of secret) before))

  -- with the one that was kept
  pub kept_may : (sign : List ℕ) (j : Joined) (own : List ℕ) → length sign ≤ 32 → own ≡ own_of setup → sid ≡ j.far → IsBornHere (held j.peer (facts_of past)) j → BegunUnder secrets setup (HalfOpen j) generation past → j.near < 2 ^ 32 → length j.ni ≤ 16 → length j.nr ≤ 16 →
      MayGo secrets setup past generation sid (rikeying_with j.near j.nr j.k own j.ni sign)
  unfolding rikeying_with
  kept_may sign j own = signed_may sign j own
