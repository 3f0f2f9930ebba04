-- The fields that a chunk says, and no others.
use Rattle.std.proofs.Common.{ℕ, ◌≡◌, List, Option, Some, Result, Ok, Err, sym, ap, subst, ◌∙◌}
use Rattle.rtmfp_chunks.specs.declared.reading.ChunkFault.{ChunkFault}
use Rattle.rtmfp_chunks.specs.Chunk.{Chunk, IHello, FIHello, RHello, Redirect, CookieChange, IIKeying, RIKeying, Ping, PingReply, Close, CloseAck, Fragment, Spells}
use Rattle.rtmfp_chunks.specs.Reading.{Reading}
use Rattle.rtmfp_chunks.specs.FieldReading.{chunk_reading}
use Rattle.rtmfp_chunks.proofs.ReadingLaws.{reading_is}
use Rattle.log_packets.specs.Asked.{HelloFields, InitiatorFields, ResponderFields, hello_of, initiator_of, responder_of, SaysHello, SaysInitiator, SaysResponder}

-- ---- what is read is this chunk

hello_read : (x : Result Chunk ChunkFault) (h : HelloFields) → hello_of x ≡ Some h → x ≡ Ok (RHello h.tag h.cookie h.cert)
hello_read (Ok (IHello epd tag)) h e = absurd cc
hello_read (Ok (FIHello epd reply tag)) h e = absurd cc
hello_read (Ok (RHello tag cookie cert)) h e =
    let same : ◌≡◌ {A = HelloFields} (record { tag = tag; cookie = cookie; cert = cert }) h = cc in
    ap (λ (f : HelloFields). Ok (RHello f.tag f.cookie f.cert)) same
hello_read (Ok (Redirect tag list)) h e = absurd cc
hello_read (Ok (CookieChange old new)) h e = absurd cc
hello_read (Ok (IIKeying near cookie cert part sign)) h e = absurd cc
hello_read (Ok (RIKeying near part sign)) h e = absurd cc
hello_read (Ok (Ping bytes)) h e = absurd cc
hello_read (Ok (PingReply bytes)) h e = absurd cc
hello_read (Ok Close) h e = absurd cc
hello_read (Ok CloseAck) h e = absurd cc
hello_read (Ok (Fragment more id number bytes)) h e = absurd cc
hello_read (Err fault) h e = absurd cc

initiator_read : (x : Result Chunk ChunkFault) (k : InitiatorFields) → initiator_of x ≡ Some k → x ≡ Ok (IIKeying k.near k.cookie k.cert k.part k.sign)
initiator_read (Ok (IHello epd tag)) k e = absurd cc
initiator_read (Ok (FIHello epd reply tag)) k e = absurd cc
initiator_read (Ok (RHello tag cookie cert)) k e = absurd cc
initiator_read (Ok (Redirect tag list)) k e = absurd cc
initiator_read (Ok (CookieChange old new)) k e = absurd cc
initiator_read (Ok (IIKeying near cookie cert part sign)) k e =
    let same : ◌≡◌ {A = InitiatorFields} (record { near = near; cookie = cookie; cert = cert; part = part; sign = sign }) k = cc in
    ap (λ (f : InitiatorFields). Ok (IIKeying f.near f.cookie f.cert f.part f.sign)) same
initiator_read (Ok (RIKeying near part sign)) k e = absurd cc
initiator_read (Ok (Ping bytes)) k e = absurd cc
initiator_read (Ok (PingReply bytes)) k e = absurd cc
initiator_read (Ok Close) k e = absurd cc
initiator_read (Ok CloseAck) k e = absurd cc
initiator_read (Ok (Fragment more id number bytes)) k e = absurd cc
initiator_read (Err fault) k e = absurd cc

responder_read : (x : Result Chunk ChunkFault) (k : ResponderFields) → responder_of x ≡ Some k → x ≡ Ok (RIKeying k.near k.part k.sign)
responder_read (Ok (IHello epd tag)) k e = absurd cc
responder_read (Ok (FIHello epd reply tag)) k e = absurd cc
responder_read (Ok (RHello tag cookie cert)) k e = absurd cc
responder_read (Ok (Redirect tag list)) k e = absurd cc
responder_read (Ok (CookieChange old new)) k e = absurd cc
responder_read (Ok (IIKeying near cookie cert part sign)) k e = absurd cc
responder_read (Ok (RIKeying near part sign)) k e =
    let same : ◌≡◌ {A = ResponderFields} (record { near = near; part = part; sign = sign }) k = cc in
    ap (λ (f : ResponderFields). Ok (RIKeying f.near f.part f.sign)) same
responder_read (Ok (Ping bytes)) k e = absurd cc
responder_read (Ok (PingReply bytes)) k e = absurd cc
responder_read (Ok Close) k e = absurd cc
responder_read (Ok CloseAck) k e = absurd cc
responder_read (Ok (Fragment more id number bytes)) k e = absurd cc
responder_read (Err fault) k e = absurd cc

module _ (kind : ℕ) (payload : List ℕ) (reads : Reading kind payload (chunk_reading kind payload)) where
  spelled : (chunk : Chunk) → chunk_reading kind payload ≡ Ok chunk → Spells chunk kind payload
  spelled chunk e = subst (Reading kind payload) e reads

  pub says_hello : (found : Option HelloFields) → found ≡ hello_of (chunk_reading kind payload) → SaysHello kind payload found
  says_hello found is = record {
    yes = λ h e. spelled (RHello h.tag h.cookie h.cert) (hello_read (chunk_reading kind payload) h (sym is ∙ e));
    no = λ h spells. is ∙ ap hello_of (sym (reading_is kind payload (Ok (RHello h.tag h.cookie h.cert)) spells));
  }

  pub says_initiator : (found : Option InitiatorFields) → found ≡ initiator_of (chunk_reading kind payload) → SaysInitiator kind payload found
  says_initiator found is = record {
    yes = λ k e. spelled (IIKeying k.near k.cookie k.cert k.part k.sign) (initiator_read (chunk_reading kind payload) k (sym is ∙ e));
    no = λ k spells. is ∙ ap initiator_of (sym (reading_is kind payload (Ok (IIKeying k.near k.cookie k.cert k.part k.sign)) spells));
  }

  pub says_responder : (found : Option ResponderFields) → found ≡ responder_of (chunk_reading kind payload) → SaysResponder kind payload found
  says_responder found is = record {
    yes = λ k e. spelled (RIKeying k.near k.part k.sign) (responder_read (chunk_reading kind payload) k (sym is ∙ e));
    no = λ k spells. is ∙ ap responder_of (sym (reading_is kind payload (Ok (RIKeying k.near k.part k.sign)) spells));
  }
