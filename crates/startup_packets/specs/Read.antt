-- What the code read of keyings, as contracts see it.
use Rattle.std.specs.Prelude.{Result, Ok, Err}
use Rattle.rtmfp_base.specs.declared.cause.Cause.{Cause}
use Rattle.startup_packets.specs.declared.reading.InitiatorFields.{InitiatorFields}
use Rattle.startup_packets.specs.declared.reading.ResponderFields.{ResponderFields}
use Rattle.startup_packets.specs.Readings.{InitiatorKeying, ResponderKeying}

abbrev pub initiator_of : InitiatorFields → InitiatorKeying
initiator_of fields = record {
  near = fields.near;
  cookie = fields.cookie.now;
  cert = fields.cert;
  part = fields.part;
  sign = fields.sign.now;
}

abbrev pub initiator_read : Result InitiatorFields Cause → Result InitiatorKeying Cause
initiator_read (Ok fields) = Ok (initiator_of fields)
initiator_read (Err cause) = Err cause

abbrev pub responder_of : ResponderFields → ResponderKeying
responder_of fields = record { near = fields.near; part = fields.part; sign = fields.sign.now }

abbrev pub responder_read : Result ResponderFields Cause → Result ResponderKeying Cause
responder_read (Ok fields) = Ok (responder_of fields)
responder_read (Err cause) = Err cause
