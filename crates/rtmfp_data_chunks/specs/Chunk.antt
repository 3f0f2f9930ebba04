-- The chunks of flows as contracts see them (RFC 7016 sections 2.3.11 to 2.3.16).
use Rattle.std.specs.Prelude.{ℕ, Bool, List, Option}
use Rattle.rtmfp_forms.specs.Options.{OptionParts}
use Rattle.rtmfp_data_chunks.specs.declared.user_data.Part.{Part}
use Rattle.rtmfp_data_chunks.specs.declared.user_data.UserData.{UserData}
use Rattle.rtmfp_data_chunks.specs.declared.view.DataView.{DataView}
use Rattle.rtmfp_data_chunks.specs.declared.view.DataView.TheVariants as view

pub record UserParts : Type 0 where
  pub part : Part
  pub abandon : Bool
  pub last : Bool
  pub flow : ℕ
  pub seq : ℕ
  pub forward : ℕ
  pub options : Option (List OptionParts)
  pub bytes : List ℕ

pub data DataChunk : Type 0 where
  Data : (user : UserParts) → DataChunk
  Next : (user : UserParts) → DataChunk
  AckBitmap : (flow blocks upto : ℕ) (bits : List ℕ) → DataChunk
  AckRanges : (flow blocks upto : ℕ) (pairs : List ℕ) → DataChunk
  Probe : (flow : ℕ) → DataChunk
  Exception : (flow code : ℕ) → DataChunk

abbrev pub user_parts : UserData → UserParts
user_parts user = record {
  part = user.part;
  abandon = user.abandon;
  last = user.last;
  flow = user.flow;
  seq = user.seq;
  forward = user.forward;
  options = user.options;
  bytes = user.bytes.now;
}

-- the chunk that a view shows
abbrev pub data_chunk : DataView → DataChunk
data_chunk (view.Data user) = Data (user_parts user)
data_chunk (view.Next user) = Next (user_parts user)
data_chunk (view.AckBitmap flow blocks upto bits) = AckBitmap flow blocks upto bits.now
data_chunk (view.AckRanges flow blocks upto pairs) = AckRanges flow blocks upto pairs.now
data_chunk (view.Probe flow) = Probe flow
data_chunk (view.Exception flow code) = Exception flow code
