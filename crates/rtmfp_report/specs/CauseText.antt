-- The names of the causes for which datagrams and chunks are discarded.
use Rattle.std.specs.Prelude.{ℕ, List, [], ◌∷◌, ◌++◌, codes}
use Rattle.rtmfp_base.specs.declared.cause.Cause.{Cause}
use Rattle.rtmfp_base.specs.declared.cause.Cause.TheVariants.{Short, UnknownSession, BadTag, Repeated, BadPacket, UnknownChunk, Malformed, WrongPlace, NotSelected, NoAttempt, WrongPeer, WrongState, BadCookie, BadSignature, WrongResponder, OwnCertificate, Stale, Glare, PeersFull, SessionsFull, SecondKeying, UnknownFlow, BeyondBuffer, AfterFinal, AckBeyond, CandidatesFull, Fragment, FlowsFull, Wide, AlreadyHeld, AttemptsSpent, Piece, BadWhole}
use Rattle.rtmfp_text.specs.Words.{field_text, number_field_text}

-- the name of a cause, and its value where it has one: a chunk type in two hexadecimal digits, any
-- other in decimal
unfoldable pub cause_text : Cause → List ℕ
cause_text Short = codes "short"
cause_text UnknownSession = codes "unknown-session"
cause_text BadTag = codes "bad-tag"
cause_text Repeated = codes "repeated"
cause_text (BadPacket fault) = number_field_text (codes "bad-packet ") fault
cause_text (UnknownChunk kind) = field_text (codes "unknown-chunk ") (kind ∷ [])
cause_text (Malformed offset) = number_field_text (codes "malformed ") offset
cause_text WrongPlace = codes "wrong-place"
cause_text NotSelected = codes "not-selected"
cause_text NoAttempt = codes "no-attempt"
cause_text WrongPeer = codes "wrong-peer"
cause_text WrongState = codes "wrong-state"
cause_text BadCookie = codes "bad-cookie"
cause_text BadSignature = codes "bad-signature"
cause_text WrongResponder = codes "wrong-responder"
cause_text OwnCertificate = codes "own-certificate"
cause_text (Stale seen) = number_field_text (codes "stale ") seen
cause_text (Glare n) = number_field_text (codes "glare ") n
cause_text (PeersFull limit) = number_field_text (codes "peers-full ") limit
cause_text (SessionsFull limit) = number_field_text (codes "sessions-full ") limit
cause_text SecondKeying = codes "second-keying"
cause_text UnknownFlow = codes "unknown-flow"
cause_text (BeyondBuffer held) = number_field_text (codes "beyond-buffer ") held
cause_text (AfterFinal number) = number_field_text (codes "after-final ") number
cause_text (AckBeyond number) = number_field_text (codes "ack-beyond ") number
cause_text (CandidatesFull count) = number_field_text (codes "candidates-full ") count
cause_text Fragment = codes "fragment"
cause_text (FlowsFull count) = number_field_text (codes "flows-full ") count
cause_text (Wide count) = number_field_text (codes "wide ") count
cause_text (AlreadyHeld near) = number_field_text (codes "already-held ") near
cause_text AttemptsSpent = codes "attempts-spent"
cause_text (Piece refusal told) = number_field_text (codes "piece ") refusal
    ++ number_field_text (codes " ") told
cause_text (BadWhole fault) = number_field_text (codes "bad-whole ") fault
