-- Packets of session startup, with what they are sealed under.
use Rattle.std.specs.Prelude.{ℕ, List}
use Rattle.crypto_profile.specs.declared.group.GroupSecret.{GroupSecret}
use Rattle.crypto_profile.specs.Keys.{startup_keys_of}
use Rattle.rtmfp_forms.specs.Address.{AddressParts}
use Rattle.startup.specs.declared.answer.Answer.{Answer}

-- a secret of the group with the number of its generation
abbrev pub group_of : ℕ → List ℕ → GroupSecret
group_of generation secret = record { generation = generation; secret = secret }

-- a packet for an address and a session ID, which is sealed under this secret of the group
abbrev pub answer_under : GroupSecret → AddressParts → ℕ → List ℕ → Answer
answer_under g to sid plain = record {
  to = to;
  sid = sid;
  plain = plain;
  generation = g.generation;
  keys = startup_keys_of g;
}
