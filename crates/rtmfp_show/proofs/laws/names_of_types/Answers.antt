use Rattle.std.proofs.Common.{refl}
use Rattle.rtmfp_text.specs.KindText.{kind_text}
use Rattle.rtmfp_show.proofs.laws.names_of_types.Goals as goal

pub returns : goal.returns
unfolding kind_text
returns c = record {
  ihello = refl;
  fihello = refl;
  rhello = refl;
  redirect = refl;
  cookiechange = refl;
  iikeying = refl;
  rikeying = refl;
  ping = refl;
  pingreply = refl;
  close = refl;
  closeack = refl;
  fragment = refl;
  user = refl;
  next = refl;
  probe = refl;
  ackbits = refl;
  ackranges = refl;
  exception = refl;
}
